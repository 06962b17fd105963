-- The files of a job.
use Rattle.std.specs.Prelude.{ℕ, List, ◌∷◌}
use Rattle.rdb_runner.specs.declared.replay.Job.{Job}

-- the names of a job's files, in the order in which they are read
abbrev pub files_of : Job → List (List ℕ)
files_of job = job.schema ∷ job.schedule ∷ job.clients
