-- The objects that a transaction wrote.
use Rattle.std.specs.Prelude.{◌≡◌, ◌+◌, ◌<◌, ◌≤◌, ◌==◌, ◌&&◌, ◌||◌, nat_lt, ℕ, Bool, true, false, List, [], ◌∷◌, length, take, drop, slice_get, Option, Some, None, find}
use Rattle.std.specs.Option.{option_map}
use Rattle.rdb_pages.specs.declared.cell.CellRef.{CellRef}
use Rattle.rdb_registry.specs.declared.own_writes.OwnWrite.{OwnWrite}

-- the write is of the object with this class and this id
abbrev pub is_of : ℕ × ℕ → OwnWrite → Bool
is_of object write = (write.class == object.0) && (write.id == object.1)

-- the header of the version that was written of an object, if it was written
abbrev pub header_of : List OwnWrite → ℕ × ℕ → Option CellRef
header_of writes object = option_map (λ write. write.header) (find (is_of object) writes)

-- there is a write, and it is of the object
abbrev pub is_at : ℕ × ℕ → Option OwnWrite → Bool
is_at object None = false
is_at object (Some write) = is_of object write

-- an object comes before another, in the order of class, then id
abbrev pub precedes : ℕ × ℕ → ℕ × ℕ → Bool
precedes a b = nat_lt a.0 b.0 || ((a.0 == b.0) && nat_lt a.1 b.1)

-- the object of a write
abbrev pub object_of : OwnWrite → ℕ × ℕ
object_of write = (write.class, write.id)

-- the write is of an object before another
abbrev pub is_before : ℕ × ℕ → OwnWrite → Bool
is_before object write = precedes (object_of write) object

-- every write is of an object before this one
abbrev pub AllBefore : ℕ × ℕ → List OwnWrite → Type 0
AllBefore object [] = Unit {0}
AllBefore object (write ∷ writes) = (is_before object write ≡ true) × AllBefore object writes

-- no write is of an object before this one
abbrev pub NoneBefore : ℕ × ℕ → List OwnWrite → Type 0
NoneBefore object [] = Unit {0}
NoneBefore object (write ∷ writes) = (is_before object write ≡ false) × NoneBefore object writes

-- every write is of an object behind this one
abbrev pub AllBehind : ℕ × ℕ → List OwnWrite → Type 0
AllBehind object [] = Unit {0}
AllBehind object (write ∷ writes) = (precedes object (object_of write) ≡ true) × AllBehind object writes

-- the writes are in the order of class, then id, each object once
abbrev pub AreOrdered : List OwnWrite → Type 0
AreOrdered [] = Unit {0}
AreOrdered (write ∷ writes) = AllBehind (object_of write) writes × AreOrdered writes

-- A list cut at an object: what is before it, and what is behind it; between them there may be one write of it.
pub record Cut (object : ℕ × ℕ) (front back : List OwnWrite) : Type 0 where
  pub front_ordered : AreOrdered front
  pub back_ordered : AreOrdered back
  pub before : AllBefore object front
  pub behind : AllBehind object back

-- the object isn't written, and its place would be this one
pub record IsGap (object : ℕ × ℕ) (writes : List OwnWrite) (place : ℕ) : Type 0 where
  pub within : place ≤ length writes
  pub cut : Cut object (take place writes) (drop place writes)

-- the write at the place is of the object
pub record IsPlace (object : ℕ × ℕ) (writes : List OwnWrite) (place : ℕ) : Type 0 where
  pub write : OwnWrite
  pub at : slice_get writes place ≡ Some write
  pub same : object_of write ≡ object
  pub cut : Cut object (take place writes) (drop (place + 1) writes)

-- The place of the object lies between two: the writes below the first are of objects before it, and those from the second on aren't.
pub record IsBetween (object : ℕ × ℕ) (writes : List OwnWrite) (low high : ℕ) : Type 0 where
  pub range : low ≤ high
  pub within : high ≤ length writes
  pub below : (k : ℕ) (write : OwnWrite) → k < low → slice_get writes k ≡ Some write → is_before object write ≡ true
  pub above : (k : ℕ) (write : OwnWrite) → high ≤ k → slice_get writes k ≡ Some write → is_before object write ≡ false
