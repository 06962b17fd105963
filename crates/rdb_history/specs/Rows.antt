-- The rows that commits leave, by the entries of a journal alone. An object is a pair of its class and its id.
use Rattle.std.specs.Prelude.{ℕ, zero, suc, Bool, false, ◌&&◌, ◌==◌, List, [], ◌∷◌, ◌++◌, take, slice_get, Option, Some, None, unwrap_or, if◌then◌else◌}
use Rattle.std.specs.List.{filter_map, list_any}
use Rattle.std.specs.Option.{option_map_or}
use Rattle.rdb_base.specs.declared.operation.Op.{Op}
use Rattle.rdb_base.specs.declared.operation.Op.TheVariants as op
use Rattle.rdb_base.specs.declared.operation.Reply.{Reply}
use Rattle.rdb_base.specs.declared.journal.Entry.{Entry}
use Rattle.rdb_model.specs.Database.{Row}
use Rattle.rdb_model.specs.Journal.{committed}
use Rattle.rdb_model.specs.Touch.{written_by}

-- whether two objects are one
abbrev pub same_object : ℕ × ℕ → ℕ × ℕ → Bool
same_object a b = (a.0 == b.0) && (a.1 == b.1)

-- what a write leaves of its object: the row, or none where the object is gone
abbrev pub row_left : Op → Option Row
row_left (op.New class row id) = Some row
row_left (op.Put class id row) = Some row
row_left _ = None

-- whether an operation wrote an object
abbrev pub wrote : Op × Reply → ℕ × ℕ → Bool
wrote d object = option_map_or (λ w. same_object w object) (written_by d) false

-- the row that an object has after operations, from the one that it has before them
abbrev pub row_after : ℕ × ℕ → Option Row → List (Op × Reply) → Option Row
row_after object row [] = row
row_after object row (d ∷ ds) = row_after object (if wrote d object then row_left d.0 else row) ds

-- the row that an object has after stories, from the one that it has before them
abbrev pub row_after_all : ℕ × ℕ → Option Row → List (List (Op × Reply)) → Option Row
row_after_all object row [] = row
row_after_all object row (done ∷ stories) = row_after_all object (row_after object row done) stories

-- the row that an object was last written with among the first n commits; none where none of them wrote it, or the last took it away
abbrev pub last_row : List Entry → ℕ → ℕ × ℕ → Option Row
last_row journal n object = row_after_all object None (take n (filter_map committed journal))

-- the operations of the commit of a number, from 1; none where there is no such commit
abbrev pub done_in : List Entry → ℕ → List (Op × Reply)
done_in journal zero = []
done_in journal (suc n) = unwrap_or (slice_get (filter_map committed journal) n) []

-- whether an object is among others
abbrev pub is_among : List (ℕ × ℕ) → ℕ × ℕ → Bool
is_among objects object = list_any (λ o. same_object o object) objects

-- the objects, with that of a write put last unless it is there
abbrev pub with_object : List (ℕ × ℕ) → Option (ℕ × ℕ) → List (ℕ × ℕ)
with_object objects None = objects
with_object objects (Some object) = if is_among objects object then objects else (objects ++ object ∷ [])

-- the objects, with those that operations wrote
abbrev pub with_written : List (ℕ × ℕ) → List (Op × Reply) → List (ℕ × ℕ)
with_written objects [] = objects
with_written objects (d ∷ ds) = with_written (with_object objects (written_by d)) ds

-- the objects that operations wrote, each once, in the order of their first writes
abbrev pub objects_written : List (Op × Reply) → List (ℕ × ℕ)
objects_written done = with_written [] done
