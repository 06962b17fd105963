use Rattle.std.proofs.Common.{◌≡◌, ℕ, ◌<◌, take, slice_get, Some}
use Rattle.rdb_history.specs.declared.watches.Note.{Note}
use Rattle.rdb_history.specs.Watches.{NoteAgrees}
use Rattle.rdb_history.proofs.watches.each_agrees.Given as goal

-- the notes so far agree
abbrev pub invariant-loop-place : goal.invariant-loop-place
invariant-loop-place l = (i : ℕ) (note : Note) → i < l.place → slice_get l.notes i ≡ Some note → NoteAgrees l.schema l.journal.entries (take i l.notes) note
