use Rattle.std.proofs.Common.{◌≡◌, drop}
use Rattle.rdb_script.specs.Schedule.{words}
use Rattle.rdb_script.proofs.schedule_reader.after_separators.Given as goal

-- what has been passed has no word
abbrev pub invariant-loop-at : goal.invariant-loop-at
invariant-loop-at l = words (drop l.at l.text) ≡ words l.text
