use Rattle.std.proofs.Common.{◌≡◌, ◌++◌, map, take}
use Rattle.rdb_journal.specs.Lines.{operation_line}
use Rattle.rdb_journal.proofs.entries.append_done.Given as goal

abbrev pub invariant-loop-step : goal.invariant-loop-step
invariant-loop-step l = l.lines ≡ l.initial.lines ++ map (operation_line l.schema) (take l.step-index l.step-items)
