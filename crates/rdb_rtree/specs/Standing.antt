-- Trees as the calls that read them find them: by the cell of the root node and its level.
use Rattle.std.specs.Prelude.{◌≡◌, ℕ, suc, List}
use Rattle.rdb_pages.specs.declared.cell.CellRef.{CellRef}
use Rattle.rdb_cells.specs.Images.{Image}
use Rattle.rdb_cells.specs.Keys.{Meaning, Sayings}
use Rattle.rdb_rtree.specs.Boxes.{Each}
use Rattle.rdb_rtree.specs.Trees.{Node, RTree, place, Stands, IsShaped, least_entries}

-- the sayings are what the keys say of the versions of an image
abbrev pub AreSaid : Meaning → Image → Sayings → Type 0
AreSaid keys image said = (n : ℕ) → said.version_of n ≡ keys.version_of image n

-- an entry of a node of a level that stands in a cell: a version, or a tree with its shape
pub record IsEntryAt (keys : Meaning) (said : Sayings) (image : Image) (at : CellRef) (level h : ℕ) (t : RTree h) : Type 0 where
  pub at_is : place h t ≡ at
  pub level_is : level ≡ h
  pub says : AreSaid keys image said
  pub stands : Stands h image t
  pub shaped : IsShaped said h least_entries t

-- a tree whose root node stands in a cell, at a level
pub record IsTreeAt (image : Image) (at : CellRef) (level h : ℕ) (t : Node (RTree h)) : Type 0 where
  pub at_is : t.at ≡ at
  pub level_is : level ≡ h
  pub stands : Stands (suc h) image t

-- and what stands below its root node has its shape, by what the keys say
pub record IsKeyedAt (keys : Meaning) (said : Sayings) (image : Image) (at : CellRef) (level h : ℕ) (t : Node (RTree h)) : Type 0 where
  pub tree : IsTreeAt image at level h t
  pub says : AreSaid keys image said
  pub shaped : Each (IsShaped said h least_entries) t.below

-- trees side by side that stand, each with its shape
pub record AreSound (said : Sayings) (image : Image) (h : ℕ) (ts : List (RTree h)) : Type 0 where
  pub stand : Each (Stands h image) ts
  pub shaped : Each (IsShaped said h least_entries) ts
