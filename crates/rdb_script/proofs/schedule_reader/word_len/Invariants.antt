use Rattle.std.proofs.Common.{◌≡◌, ◌<◌, ℕ, drop, false}
use Rattle.rdb_script.specs.Schedule.{separates}
use Rattle.rdb_script.proofs.schedule_reader.word_len.Given as goal

-- what has been passed separates nothing
abbrev pub invariant-loop-at : goal.invariant-loop-at
invariant-loop-at l = (k : ℕ) → k < l.at → separates (drop k l.text) ≡ false
