-- The plain database: for each class a list of objects, each an id and its row, in ascending id.
use Rattle.std.specs.Prelude.{ℕ, ◌<◌, List, [], ◌∷◌, length, Option, Some, None, if◌then◌else◌, ◌==◌, nat_lt, not, replicate, slice_index_or, slice_set}
use Rattle.std.specs.List.{filter}
use Rattle.rdb_base.specs.declared.value.Value.{Value}

-- a row, or a key
abbrev pub Row : Type 0
Row = List Value

-- the objects of a class
abbrev pub Objects : Type 0
Objects = List (ℕ × Row)

-- the objects of each class
abbrev pub Database : Type 0
Database = List Objects

-- no object in any class
abbrev pub empty : ℕ → Database
empty classes = replicate classes []

-- the id of the object at a place
abbrev pub id_at : Objects → ℕ → ℕ
id_at objects place = let object = slice_index_or objects place (0, []) in object.0

-- each id is below those after it
abbrev pub IsAscending : Objects → Type 0
IsAscending objects = (i j : ℕ) → i < j → j < length objects → id_at objects i < id_at objects j

-- the row of the object of an id, if there is one
abbrev pub row_of : Objects → ℕ → Option Row
row_of [] id = None
row_of (o ∷ os) id = if o.0 == id then Some o.1 else row_of os id

-- the objects, with that row at that id
abbrev pub with_row : Objects → ℕ → Row → Objects
with_row [] id row = (id, row) ∷ []
with_row (o ∷ os) id row = if nat_lt id o.0 then (id, row) ∷ o ∷ os else (if o.0 == id then (id, row) ∷ os else o ∷ with_row os id row)

-- the objects of other ids
abbrev pub without : Objects → ℕ → Objects
without objects id = filter (λ o. not (o.0 == id)) objects

-- a class's objects
abbrev pub objects_of : Database → ℕ → Objects
objects_of db class = slice_index_or db class []

-- the database, with these objects in that class
abbrev pub with_objects : Database → ℕ → Objects → Database
with_objects db class objects = slice_set db class objects

-- that in each class the ids ascend, each once
abbrev pub IsInOrder : Database → Type 0
IsInOrder db = (class : ℕ) → IsAscending (objects_of db class)
