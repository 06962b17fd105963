use Rattle.std.proofs.Common.{◌≡◌}
use Rattle.rdb_script.proofs.JobLemmas.{with_scripts}
use Rattle.rdb_script.proofs.job.job_files.Given as goal

-- the files so far and the scripts that are left make the whole
abbrev pub invariant-loop-client : goal.invariant-loop-client
invariant-loop-client l = with_scripts l.files l.client l.seed ≡ with_scripts l.initial.files 1 l.seed
