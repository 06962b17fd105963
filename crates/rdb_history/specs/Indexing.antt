-- What is kept while the writes of one commit are taken up, operation by operation.
use Rattle.std.specs.Prelude.{◌≡◌, ℕ, ◌+◌, ◌-◌, ◌<◌, ◌≤◌, List, [], ◌∷◌, ◌++◌, length, slice_get, slice_set, Option, Some, IsSomeAnd, option_and_then, if◌then◌else◌}
use Rattle.std.specs.Option.{option_map, ForSome}
use Rattle.std.specs.HashMap.{spare}
use Rattle.rdb_base.specs.Room.{Reserved}
use Rattle.rdb_base.specs.declared.operation.Op.{Op}
use Rattle.rdb_base.specs.declared.operation.Reply.{Reply}
use Rattle.rdb_base.specs.declared.journal.Entry.{Entry}
use Rattle.rdb_model.specs.Database.{Row}
use Rattle.rdb_history.specs.declared.index.Position.{Position}
use Rattle.rdb_history.specs.declared.index.Write.{Write}
use Rattle.rdb_history.specs.Rows.{same_object, row_after, objects_written}
use Rattle.rdb_history.specs.Kept.{Newest, newest_of, operation_at, MayLead, NewestLeads}

-- that operations stand in the story of the entry at a place
abbrev pub StandsAt : List Entry → ℕ → List (Op × Reply) → Type 0
StandsAt entries place done = (k : ℕ) → operation_at entries (record { entry = place; operation = k }) ≡ slice_get done k

-- that each object's newest write left it with its row
abbrev pub AreLed : List Entry → (ℕ × ℕ → Option Row) → List Write → Newest → Type 0
AreLed entries rows writes table = (object : ℕ × ℕ) → NewestLeads entries object (rows object) writes (newest_of table object)

-- that the numbers of writes in a table are among the writes
abbrev pub AreKnown : List Write → Newest → Type 0
AreKnown writes table = (object : ℕ × ℕ) → ForSome (newest_of table object) (λ i. i < length writes)

-- where the write of a number stands
abbrev pub position_of : List Write → Option ℕ → Option Position
position_of writes number = option_and_then (λ i. option_map (λ w. w.after) (slice_get writes i)) number

-- that an object which the commit has written is written again: its write leads to the later position
abbrev pub WritesAgain : ℕ → Position → Reserved Write → Reserved Write → Newest → Newest → Type 0
WritesAgain i at old new table next =
    ((was : Write) → slice_get old.items i ≡ Some was → new ≡ record old { items = slice_set old.items i (record was { after = at }) })
    × (next ≡ table)

-- that an object is written by the commit for the first time: there is one more write, which knows where the object was written before
pub record WritesFirst (object : ℕ × ℕ) (at : Position) (old new : Reserved Write) (table next : Newest) : Type 0 where
  pub written :
      new ≡ record {
        items = old.items ++ record { before = position_of old.items (newest_of table object); after = at } ∷ [];
        room = old.room - 1;
      }
  pub noted : (other : ℕ × ℕ) → newest_of next other ≡ (if same_object object other then Some (length old.items) else newest_of table other)
  pub room : spare table ≤ spare next + 1

-- how far a commit's writes are taken up, whose first one has that number: there is one of each object that the operations wrote,
-- with where it was written before them; and each object's newest write left it with the row that it has after them
pub record IsIndexing
    (entries : List Entry) (rows : ℕ × ℕ → Option Row) (first : ℕ) (done : List (Op × Reply))
    (writes : List Write) (table : Newest) : Type 0 where
  pub count : length writes ≡ first + length (objects_written done)
  pub each : (k : ℕ) (object : ℕ × ℕ) → slice_get (objects_written done) k ≡ Some object → newest_of table object ≡ Some (first + k)
  pub own :
      (object : ℕ × ℕ) (i : ℕ) → newest_of table object ≡ Some i → first ≤ i
      → slice_get (objects_written done) (i - first) ≡ Some object
  pub newest : (object : ℕ × ℕ) → NewestLeads entries object (row_after object (rows object) done) writes (newest_of table object)
  pub before :
      (k : ℕ) (object : ℕ × ℕ) → slice_get (objects_written done) k ≡ Some object
      → IsSomeAnd (slice_get writes (first + k)) (λ w. MayLead entries object (rows object) w.before)
