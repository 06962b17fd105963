use Rattle.std.proofs.Common.{◌∙◌}
use Rattle.std.specs.FinMap.{empty}
use Rattle.rdb_script.specs.Job.{folder_of, job}
use Rattle.rdb_script.proofs.JobLemmas.{with_scripts, script_more, scripts_all, starts, fresh}
use Rattle.rdb_script.proofs.job.job_files.Goals as goal

pub loop-client-preserved : goal.loop-client-preserved
loop-client-preserved c =
    script_more c.put_script.new.files c.loop-client.files (with_scripts c.put-2.new.self 1 c.args.seed) c.loop-client.client c.args.seed c.loop-client-test.true c.in_ok-put_script.ensures c.loop-client.invariant

pub returns : goal.returns
returns c =
    scripts_all c.loop-client.files (fresh (folder_of empty (job c.args.seed))) c.loop-client.client c.args.seed c.loop-client-test.false
    (c.loop-client.invariant ∙ starts c.new-files.result c.put.new.self c.put-2.new.self c.new.result c.as_bytes.result.now c.as_bytes-2.result.now c.args.seed c.new-files.ensures c.new.ensures c.in_ok-put.ensures.ok c.in_ok-put-2.ensures.ok
    (c.as_bytes.ensures.value ∙ c.job_schema.ensures) (c.as_bytes-2.ensures.value ∙ c.in_ok-schedule.ensures))
