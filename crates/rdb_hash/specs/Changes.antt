-- What a change of an index owes, in one: the clauses of `put` and of `remove`.
use Rattle.std.specs.Prelude.{◌≡◌, ◌+◌, ◌<◌, ◌≤◌, ℕ, length, slice_get, Some}
use Rattle.rdb_pages.specs.declared.cell.Cell.{Cell}
use Rattle.rdb_pages.specs.declared.cell.CellRef.{CellRef}
use Rattle.rdb_cells.specs.HashFormat.{table_buckets}
use Rattle.rdb_cells.specs.HeadFormat.{index_head_in, index_roots}
use Rattle.rdb_cells.specs.Images.{Image}
use Rattle.rdb_cells.specs.Index.{Nature, Puts, Removes, PlansOnlyOwn}
use Rattle.rdb_cells.specs.Keys.{Meaning, says, SameVersionCells, RestsOnVersions}
use Rattle.rdb_cells.specs.Work.{Work, reading, TakesAtMost, TakesNone}
use Rattle.rdb_hash.specs.declared.bucket.Bucket.{Bucket}
use Rattle.rdb_hash.specs.declared.chain.Found.{Found}
use Rattle.rdb_hash.specs.Shape.{Entry, IsHashed, bucket_of, bucket_number}
use Rattle.rdb_hash.specs.Walks.{IsFirst, IsAt}

-- the version came
pub record IsPut (index : Nature) (keys : Meaning) (before after : Work) (version : CellRef) : Type 0 where
  pub puts : Puts index keys before after version
  pub own : PlansOnlyOwn index keys before after
  pub versions : SameVersionCells (reading before) (reading after)
  pub takes : TakesAtMost index.part before after
  pub places : length after.pairs ≤ length before.pairs + 50
  pub room : after.room ≡ before.room

-- the version came by any keys that have the version with a key of this hash
abbrev pub IsPutHashed : Nature → Work → Work → CellRef → ℕ → Type 0
IsPutHashed index before after version hash = (keys : Meaning) → RestsOnVersions keys →
    IsHashed (says keys (reading before)) (Entry version hash) → IsPut index keys before after version

-- the version went
pub record IsRemoved (index : Nature) (keys : Meaning) (before after : Work) (version : CellRef) : Type 0 where
  pub removes : Removes index keys before after version
  pub own : PlansOnlyOwn index keys before after
  pub versions : SameVersionCells (reading before) (reading after)
  pub takes_none : TakesNone before after
  pub places : length after.pairs ≤ length before.pairs + 50
  pub room : after.room ≡ before.room

-- the version went, by any keys
abbrev pub IsRemovedByAny : Nature → Work → Work → CellRef → Type 0
IsRemovedByAny index before after version = (keys : Meaning) → RestsOnVersions keys → IsRemoved index keys before after version

-- the version's entry was found in the bucket at a place of a table
pub record IsIn (image : Image) (head table place : ℕ) (version : CellRef) (found : Found) : Type 0 where
  pub first : ℕ
  pub begins : IsFirst image head table place first
  pub at : IsAt image first version found

-- the head's root at a place is this one
pub record HasRoot (image : Image) (head place : ℕ) (root : CellRef) : Type 0 where
  pub cell : Cell
  pub here : image head ≡ Some cell
  pub leads : slice_get (index_head_in cell).roots place ≡ Some root

-- the place of a bucket is that of a hash
pub record IsBucketOf (at : Bucket) (hash : ℕ) : Type 0 where
  pub table : at.table < index_roots
  pub place : at.place < table_buckets
  pub number : bucket_number at.table at.place ≡ bucket_of hash
