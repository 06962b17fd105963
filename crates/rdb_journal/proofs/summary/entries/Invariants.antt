use Rattle.std.proofs.Common.{◌≡◌, flat_map, take}
use Rattle.rdb_journal.specs.Lines.{entry_lines}
use Rattle.rdb_journal.proofs.summary.entries.Given as goal

abbrev pub invariant-loop-entry : goal.invariant-loop-entry
invariant-loop-entry l = l.lines ≡ flat_map (entry_lines l.schema) (take l.entry-index l.journal)
