-- A class as a reader sees it: of each object the version that it is shown.
use Rattle.std.specs.Prelude.{◌≡◌, ◌<◌, ◌↔◌, ℕ, List, Option}
use Rattle.std.specs.Prelude.{Some, None, Contains, is_some, option_and_then, if◌then◌else◌, length}
use Rattle.std.specs.Option.{option_map}
use Rattle.rdb_base.specs.declared.identity.Stamp.{Stamp}
use Rattle.rdb_pages.specs.declared.cell.CellRef.{CellRef}
use Rattle.rdb_cells.specs.Images.{Image}
use Rattle.rdb_cells.specs.References.{max_classes}
use Rattle.rdb_objects.specs.Objects.{newest_of}
use Rattle.rdb_objects.specs.Slots.{AreVersions}
use Rattle.rdb_sight.specs.Sight.{is_better}
use Rattle.rdb_sight.specs.Versions.{Version, Object, Marks, chain_of, counted, version_seen, row_shown, rows_shown}
use Rattle.rdb_rows.specs.RowKeys.{KeyShape}
use Rattle.rdb_model.specs.Database.{Row, Objects}
use Rattle.rdb_store.specs.declared.class_index.ClassIndex.{ClassIndex}
use Rattle.rdb_store.specs.declared.keyed.Keyed.{Keyed}
use Rattle.rdb_store.specs.Classes.{AreLawful}
use Rattle.rdb_store.specs.Holds.{HoldsSome, Whatever}
use Rattle.rdb_store.specs.Kept.{shape_of, IsKeyedAt}
use Rattle.rdb_store.specs.Layouts.{Layout}
use Rattle.rdb_store.specs.Shapes.{ClassShape, index_at, nature_of_class}
use Rattle.rdb_store.specs.Stored.{AreStored, ref_of, refs_of}
use Rattle.rdb_cursor.specs.declared.marks.Reader.{Reader}

-- what a reader is shown of a class's objects: those of the plain database
abbrev pub rows_of : Marks → Reader → List Object → Objects
rows_of marks reader objects = rows_shown marks reader.snapshot (Some reader.tx) objects

-- the row that an object shows a reader
abbrev pub row_of : Marks → Reader → List Version → Option Row
row_of marks reader chain = row_shown marks reader.snapshot (Some reader.tx) chain

-- the version of a chain that a reader sees, tombstone or not
abbrev pub version_of : Marks → Reader → List Version → Option Version
version_of marks reader chain = version_seen marks reader.snapshot (Some reader.tx) chain

-- a version, unless it is a tombstone
abbrev pub if_alive : Version → Option Version
if_alive v = if is_some v.row then Some v else None

-- the version of a chain that a reader is shown, by its reference
abbrev pub ref_shown : Marks → Reader → List Version → Option CellRef
ref_shown marks reader chain = option_map ref_of (option_and_then if_alive (version_of marks reader chain))

-- a version's reference, and its stamp with the marks counted
abbrev pub sighted : Marks → Version → CellRef × Stamp
sighted marks v = (ref_of v, counted marks v.stamp)

-- the better for a reader of the best so far, if there is one, and another version
abbrev pub better_of : Reader → Option (CellRef × Stamp) → CellRef × Stamp → Option (CellRef × Stamp)
better_of reader best other =
    if is_better reader.snapshot (Some reader.tx) (option_map (λ b. b.1) best) other.1 then Some other else best

-- the versions of an object stand one behind the other from the newest on
pub record StandsFrom (shape : ClassShape) (image : Image) (newest : CellRef) (id : ℕ) (chain : List Version) : Type 0 where
  pub layout : Layout
  pub stored : AreStored (nature_of_class shape) image layout id chain
  pub linked : AreVersions image id (refs_of chain)
  pub begins : newest ≡ newest_of (refs_of chain)

-- the versions of some object stand from there on
abbrev pub BeginsChain : ClassShape → Image → CellRef → Type 0
BeginsChain shape image newest = (id : ℕ) × (chain : List Version) × StandsFrom shape image newest id chain

-- whatever versions of an object stand from there on, this holds of them
abbrev pub WhateverChain : ClassShape → Image → CellRef → (List Version → Type 0) → Type 0
WhateverChain shape image newest Is = (id : ℕ) (chain : List Version) → StandsFrom shape image newest id chain → Is chain

-- a class whose cells can be looked at: its indexes are lawful, and its cells hold some objects
pub record CanLook (shape : ClassShape) (image : Image) (class_of : ℕ → Option ℕ) : Type 0 where
  pub numbered : shape.number < max_classes
  pub lawful : AreLawful (nature_of_class shape)
  pub holds : HoldsSome (nature_of_class shape) image class_of

-- whatever objects the class's cells hold, this is so of them
abbrev pub OfObjects : ClassShape → Image → (ℕ → Option ℕ) → (List Object → Type 0) → Type 0
OfObjects shape image class_of Is = Whatever (nature_of_class shape) image class_of Is

-- whatever the reader is shown of the class, this is so of it
abbrev pub OfRows : ClassShape → Image → (ℕ → Option ℕ) → Marks → Reader → (Objects → Type 0) → Type 0
OfRows shape image class_of marks reader Is = OfObjects shape image class_of (λ objects. Is (rows_of marks reader objects))

-- every version with this header has this row
abbrev pub HasRow : List Object → CellRef → Row → Type 0
HasRow objects version row =
    (id : ℕ) (v : Version) → Contains (chain_of objects id) v → v.header ≡ version.number → v.row ≡ Some row

-- every version with this header is one of the object of this id
abbrev pub IsOf : List Object → CellRef → ℕ → Type 0
IsOf objects version id =
    (other : ℕ) (v : Version) → Contains (chain_of objects other) v → v.header ≡ version.number → other ≡ id

-- the id is given exactly where its object shows the reader this version
abbrev pub IsIdIfShown : Marks → Reader → CellRef → Option ℕ → List Object → Type 0
IsIdIfShown marks reader version given objects =
    (id : ℕ) → (given ≡ Some id) ↔ (ref_shown marks reader (chain_of objects id) ≡ Some version)

-- the index with its keys is the one at a place of the class
pub record IsIndexAt (shape : ClassShape) (place : ℕ) (keyed : Keyed ClassIndex KeyShape) : Type 0 where
  pub within : place < length shape.indexes
  pub keyed_at : IsKeyedAt shape.number shape.types place keyed
  pub shape_is : shape_of keyed ≡ index_at shape place
