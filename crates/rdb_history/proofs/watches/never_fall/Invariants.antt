use Rattle.std.proofs.Common.{◌≡◌, drop}
use Rattle.rdb_history.proofs.NoteLemmas.{rises}
use Rattle.rdb_history.proofs.watches.never_fall.Given as goal

-- the notes that are left rise from here where all do
abbrev pub invariant-loop-note : goal.invariant-loop-note
invariant-loop-note l = rises l.most (drop l.note-index l.notes) ≡ rises 0 l.notes
