-- Versions, and the cells that say them.
use Rattle.std.specs.Prelude.{◌≡◌, ℕ, List, [], ◌∷◌, map, Option, Some, None, IsSome, Contains}
use Rattle.std.specs.Option.{option_map}
use Rattle.rdb_base.specs.declared.value.Value.{Value}
use Rattle.rdb_schema.specs.declared.types.ValueType.{ValueType}
use Rattle.rdb_schema.specs.Encoding.{row_bytes}
use Rattle.rdb_pages.specs.declared.cell.CellRef.{CellRef}
use Rattle.rdb_cells.specs.Images.{Image}
use Rattle.rdb_rows.specs.Versions.{Version as StoredVersion, HoldsVersion}
use Rattle.rdb_objects.specs.Objects.{Object as Linked, newest_of}
use Rattle.rdb_sight.specs.Versions.{Version, Object, chain_of}
use Rattle.rdb_store.specs.Layouts.{Layout}
use Rattle.rdb_store.specs.Classes.{ClassNature, IsProper}

-- the reference of a version's header
abbrev pub ref_of : Version → CellRef
ref_of v = record { number = v.header }

abbrev pub refs_of : List Version → List CellRef
refs_of chain = map ref_of chain

-- an object by the references of its versions
abbrev pub linked : Object → Linked
linked o = record { id = o.id; versions = refs_of o.chain }

abbrev pub all_linked : List Object → List Linked
all_linked objects = map linked objects

-- a version has a row of these types, one that a program can hold, or none
abbrev pub IsRow : List ValueType → Option (List Value) → Type 0
IsRow types None = Unit {0}
IsRow types (Some row) = IsProper types row

-- a version of an object, in front of the older ones, as its cells say it
abbrev pub as_stored : ClassNature → ℕ → Version → List Version → StoredVersion
as_stored class id v older = record {
  label = record { class = class.number; id = id; serial = v.serial; stamp = v.stamp; older = newest_of (refs_of older) };
  row = option_map (row_bytes class.types) v.row;
}

-- the version of an object stands in these cells, and leads to the newest of the older ones
pub record IsStored (class : ClassNature) (image : Image) (id : ℕ) (v : Version) (older : List Version) (cells : List ℕ) : Type 0 where
  pub stands : HoldsVersion image v.header (as_stored class id v older) cells
  pub row : IsRow class.types v.row

-- each version of an object's chain stands in its cells
abbrev pub AreStored : ClassNature → Image → Layout → ℕ → List Version → Type 0
AreStored class image layout id [] = Unit {0}
AreStored class image layout id (v ∷ older) =
    IsStored class image id v older (layout.of_version v.header) × AreStored class image layout id older

-- a version of one of the objects
pub record HasVersion (objects : List Object) (v : Version) : Type 0 where
  pub id : ℕ
  pub within : Contains (chain_of objects id) v

-- one of the objects' versions has this header
pub record HasHeader (objects : List Object) (header : ℕ) : Type 0 where
  pub version : Version
  pub has : HasVersion objects version
  pub there : version.header ≡ header

-- one of the objects' versions that have a row, and are no tombstones, has this header
pub record HasRowAt (objects : List Object) (header : ℕ) : Type 0 where
  pub version : Version
  pub has : HasVersion objects version
  pub there : version.header ≡ header
  pub row : IsSome version.row

-- no two versions of the objects have one serial
abbrev pub HaveOwnSerials : List Object → Type 0
HaveOwnSerials objects = (v w : Version) → HasVersion objects v → HasVersion objects w → v.serial ≡ w.serial → v.header ≡ w.header
