-- What a walk along the entries of one bucket finds.
use Rattle.std.specs.Prelude.{◌≡◌, ◌⊎◌, ◌++◌, ℕ, List, [], ◌∷◌, Contains, slice_get, Some}
use Rattle.rdb_pages.specs.declared.cell.CellRef.{CellRef}
use Rattle.rdb_cells.specs.Images.{Image}
use Rattle.rdb_cells.specs.Keys.{Meaning, says}
use Rattle.rdb_cells.specs.Links.{IsAmong, Placed, segment, start, numbers, IsChain}
use Rattle.rdb_cells.specs.References.{IsPageCell}
use Rattle.rdb_hash.specs.declared.chain.Found.{Found}
use Rattle.rdb_hash.specs.Shape.{Held, Entry, Table, AreTables, IsWritten, AreEntriesOf, AreHashed, bucket_nodes, versions_of}

-- the bucket at a place of a table
abbrev pub IsBucketAt : List Table → ℕ → ℕ → List (Placed Held) → Type 0
IsBucketAt tables table place b = (t : Table) × (slice_get tables table ≡ Some t) × (slice_get t.buckets place ≡ Some b)

-- whatever tables stand, the bucket at a place of a table begins at this number
abbrev pub IsFirst : Image → ℕ → ℕ → ℕ → ℕ → Type 0
IsFirst image head table place first = (tables : List Table) (b : List (Placed Held)) → AreTables image head tables →
    IsBucketAt tables table place b → first ≡ start b 0

-- some tables stand
abbrev pub HasTables : Image → ℕ → Type 0
HasTables image head = (tables : List Table) × AreTables image head tables

-- from this number on the entries of a bucket stand in page cells
pub record IsBucket (image : Image) (first bucket : ℕ) (chain : List (Placed Held)) : Type 0 where
  pub chained : IsChain IsWritten image first chain
  pub entries : AreEntriesOf bucket chain
  pub paged : (n : ℕ) → IsAmong (numbers (segment chain 0)) n → IsPageCell n

-- whatever entries of a bucket stand from this number on, this holds of their versions, in their order
abbrev pub WhateverInBucket : Image → ℕ → (List CellRef → Type 0) → Type 0
WhateverInBucket image first Holds =
    (bucket : ℕ) (chain : List (Placed Held)) → IsBucket image first bucket chain → Holds (versions_of (segment chain 0))

abbrev pub HasBucket : Image → ℕ → Type 0
HasBucket image first = (bucket : ℕ) × (chain : List (Placed Held)) × IsBucket image first bucket chain

-- entries of a bucket stand from this number on, with the hashes of their versions' keys
pub record HasHashedBucket (keys : Meaning) (image : Image) (first : ℕ) : Type 0 where
  pub bucket : ℕ
  pub chain : List (Placed Held)
  pub is : IsBucket image first bucket chain
  pub hashed : AreHashed (says keys image) (segment chain 0)

-- entries of a bucket stand from this number on, and one of them is the version's
pub record HasEntry (image : Image) (first : ℕ) (version : CellRef) : Type 0 where
  pub bucket : ℕ
  pub chain : List (Placed Held)
  pub is : IsBucket image first bucket chain
  pub within : Contains (versions_of (segment chain 0)) version

-- the number of the last of these, 0 where there is none
abbrev pub IsLast : List (Placed Held) → ℕ → Type 0
IsLast front number =
    ((front ≡ []) × (number ≡ 0))
    ⊎ ((others : List (Placed Held)) × (last : Placed Held) × (front ≡ others ++ last ∷ []) × (number ≡ last.number))

-- the version's entry stands at this place, behind the one before it, and leads to the next one
pub record IsAt (image : Image) (first : ℕ) (version : CellRef) (found : Found) : Type 0 where
  pub bucket : ℕ
  pub hash : ℕ
  pub front : List (Placed Held)
  pub back : List (Placed Held)
  pub is : IsBucket image first bucket (front ++ record { number = found.at.number; element = Entry version hash } ∷ back)
  pub before : IsLast front found.before.number
  pub next : found.next.number ≡ start back 0

-- the versions of a table came to the list, whatever tables stand
abbrev pub ListsTable : Image → ℕ → ℕ → List CellRef → List CellRef → Type 0
ListsTable image head place before after = (tables : List Table) (t : Table) → AreTables image head tables →
    slice_get tables place ≡ Some t → after ≡ before ++ versions_of (bucket_nodes t.buckets)
