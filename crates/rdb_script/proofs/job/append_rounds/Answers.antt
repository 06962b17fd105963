use Rattle.std.proofs.Common.{string_bytes, ◌++◌}
use Rattle.rdb_script.specs.Job.{rounds}
use Rattle.rdb_script.proofs.JobLemmas.{round_more, rounds_all}
use Rattle.rdb_script.proofs.job.append_rounds.Goals as goal

pub loop-round-preserved : goal.loop-round-preserved
loop-round-preserved c =
    round_more (string_bytes c.push_str.new.self) (string_bytes c.loop-round.text) c.loop-round._round (string_bytes c.args.text ++ rounds 1100) c.loop-round-test.true c.in_ok-push_str.ensures.bytes c.loop-round.invariant

pub returns : goal.returns
returns c = rounds_all (string_bytes c.loop-round.text) c.loop-round._round (string_bytes c.args.text ++ rounds 1100) c.loop-round-test.false c.loop-round.invariant
