use Rattle.std.proofs.Common.{ℕ, ◌<◌, get_or}
use Rattle.rdb_base.specs.declared.journal.Entry.{Entry}
use Rattle.rdb_model.specs.FirstFault.{FitsEntry}
use Rattle.rdb_model.proofs.legality.journal_fits.Given as goal

-- each entry so far fits
abbrev pub invariant-loop-entry : goal.invariant-loop-entry
invariant-loop-entry l = (k : ℕ) (d : Entry) → k < l.entry-index → FitsEntry l.schema (get_or l.entries k d)
