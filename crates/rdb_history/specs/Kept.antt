-- What a journal keeps beside its entries: where each commit stands, which classes it wrote, and where the objects that it wrote
-- were written, by it and before it.
use Rattle.std.specs.Prelude.{◌≡◌, ℕ, suc, ◌+◌, ◌-◌, ◌<◌, ◌≤◌, ◌%◌, ◌==◌, List, [], length, take, slice_get, Option, Some, None, IsSomeAnd, MatchOption, option_and_then, if◌then◌else◌}
use Rattle.std.specs.List.{filter_map, list_any}
use Rattle.std.specs.Option.{option_map_or}
use Rattle.std.specs.Int.{bit_at}
use Rattle.std.specs.HashMap.{HashMap, get, spare}
use Rattle.std.specs.declared.hash.FoldHasher.{FoldHasher}
use Rattle.std.specs.declared.hash.BuildHasherDefault.{BuildHasherDefault}
use Rattle.rdb_base.specs.Room.{Reserved}
use Rattle.rdb_base.specs.declared.operation.Op.{Op}
use Rattle.rdb_base.specs.declared.operation.Reply.{Reply}
use Rattle.rdb_base.specs.declared.journal.Entry.{Entry}
use Rattle.rdb_model.specs.Database.{Row}
use Rattle.rdb_model.specs.Journal.{commits, committed, done_of}
use Rattle.rdb_model.specs.Touch.{written_by}
use Rattle.rdb_history.specs.declared.index.Position.{Position}
use Rattle.rdb_history.specs.declared.index.Write.{Write}
use Rattle.rdb_history.specs.declared.index.Commit.{Commit}
use Rattle.rdb_history.specs.Rows.{same_object, row_left, last_row, done_in, objects_written}

-- the entries of a journal, for how many more there is room, and for how many more writes of commits
pub record Kept : Type 0 where
  pub entries : List Entry
  pub room : ℕ
  pub write_room : ℕ

-- that a set of classes, a bit for each modulo 64, has those that operations wrote
abbrev pub HasClasses : ℕ → List (Op × Reply) → Type 0
HasClasses classes done =
    (i : ℕ) → i < 64 → bit_at classes i ≡ (if list_any (λ object. object.0 % 64 == i) (filter_map written_by done) then 1 else 0)

-- the number of the newest write of each object
abbrev pub Newest : Type 0
Newest = HashMap (ℕ × ℕ) ℕ (BuildHasherDefault FoldHasher)

-- the number of an object's newest write
abbrev pub newest_of : Newest → ℕ × ℕ → Option ℕ
newest_of newest object = get same_object newest object

-- the operation at a position
abbrev pub operation_at : List Entry → Position → Option (Op × Reply)
operation_at entries p = slice_get (option_map_or done_of (slice_get entries p.entry) []) p.operation

-- the object that the operation at a position wrote
abbrev pub object_at : List Entry → Position → Option (ℕ × ℕ)
object_at entries p = option_and_then written_by (operation_at entries p)

-- the row that the operation at a position left
abbrev pub row_at : List Entry → Position → Option Row
row_at entries p = option_and_then (λ d. row_left d.0) (operation_at entries p)

-- that the operation at a position wrote an object, and left it with this row, or gone
pub record LeadsTo (entries : List Entry) (object : ℕ × ℕ) (row : Option Row) (p : Position) : Type 0 where
  pub wrote : object_at entries p ≡ Some object
  pub left : row_at entries p ≡ row

-- that an object without a row was never written, or was left so or with its row at a position
abbrev pub MayLead : List Entry → ℕ × ℕ → Option Row → Option Position → Type 0
MayLead entries object row position = MatchOption position (row ≡ None) (LeadsTo entries object row)

-- that an object without a row has no newest write, or its newest write left it with its row, or gone
abbrev pub NewestLeads : List Entry → ℕ × ℕ → Option Row → List Write → Option ℕ → Type 0
NewestLeads entries object row writes found =
    MatchOption found (row ≡ None) (λ i. IsSomeAnd (slice_get writes i) (λ w. LeadsTo entries object row w.after))

-- that a write is one of an object by the commit of a number: where it was last written before, and by that commit
pub record IsWriteOf (entries : List Entry) (commit : ℕ) (object : ℕ × ℕ) (w : Write) : Type 0 where
  pub before : MayLead entries object (last_row entries (commit - 1) object) w.before
  pub after : LeadsTo entries object (last_row entries commit object) w.after

-- that what is kept of the commit of a number is so: its place, its classes, and a write of each object that it wrote
pub record IsIndexed (entries : List Entry) (writes : List Write) (commit : ℕ) (c : Commit) : Type 0 where
  pub place : option_and_then committed (slice_get entries c.entry) ≡ Some (done_in entries commit)
  pub earlier : commits (take c.entry entries) ≡ commit - 1
  pub classes : HasClasses c.classes (done_in entries commit)
  pub count : c.count ≡ length (objects_written (done_in entries commit))
  pub within : c.first + c.count ≤ length writes
  pub each :
      (k : ℕ) (object : ℕ × ℕ) → slice_get (objects_written (done_in entries commit)) k ≡ Some object
      → IsSomeAnd (slice_get writes (c.first + k)) (IsWriteOf entries commit object)

-- that each object's newest write left it with the row that it has after all commits
abbrev pub AreNewest : List Entry → List Write → Newest → Type 0
AreNewest entries writes table =
    (object : ℕ × ℕ) → NewestLeads entries object (last_row entries (commits entries) object) writes (newest_of table object)

-- that what is kept is so of each commit, with room for so many more entries and writes
pub record IsKept
    (entries : Reserved Entry) (commits_kept : Reserved Commit) (writes : Reserved Write) (table : Newest)
    (room write_room : ℕ) : Type 0 where
  pub many : length commits_kept.items ≡ commits entries.items
  pub each : (n : ℕ) (c : Commit) → slice_get commits_kept.items n ≡ Some c → IsIndexed entries.items writes.items (suc n) c
  pub newest : AreNewest entries.items writes.items table
  pub entry_room : room ≤ entries.room
  pub commit_room : room ≤ commits_kept.room
  pub writes_room : write_room ≤ writes.room
  pub newest_room : write_room ≤ spare table
