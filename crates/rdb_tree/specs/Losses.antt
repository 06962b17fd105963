-- A version leaves a tree, and nodes that are left with a key too few are mended.
use Rattle.std.specs.Prelude.{◌≡◌, ◌≤◌, ◌+◌, ◌*◌, ◌⊎◌, ℕ, suc, List, [], ◌∷◌, ◌++◌, length, slice_get, Some, Contains}
use Rattle.std.specs.Option.{unwrap_or}
use Rattle.rdb_pages.specs.declared.cell.CellRef.{CellRef}
use Rattle.rdb_pages.specs.Pages.{zero_cell}
use Rattle.rdb_cells.specs.HeadFormat.{index_head_cell, rooted_head}
use Rattle.rdb_cells.specs.Images.{Image}
use Rattle.rdb_cells.specs.Keys.{Sayings}
use Rattle.rdb_cells.specs.Links.{IsAmong, AreOnce}
use Rattle.rdb_cells.specs.Records.{content}
use Rattle.rdb_cells.specs.Words.{no_ref}
use Rattle.rdb_cells.specs.Work.{Work, reading, GoesOn, TakesNone}
use Rattle.rdb_tree.specs.Changes.{with_cell}
use Rattle.rdb_tree.specs.Growth.{IsTreeChanged}
use Rattle.rdb_tree.specs.Order.{AreKeyed}
use Rattle.rdb_tree.specs.Trees.{BTree, Each, Tree, versions, versions_of, cells, Stands, IsShaped, HasKeys, least_keys}

-- a version left its place among others
pub record Leaves (lost : CellRef) (was now : List CellRef) : Type 0 where
  pub front : List CellRef
  pub back : List CellRef
  pub was_is : was ≡ front ++ lost ∷ back
  pub now_is : now ≡ front ++ back

-- the cells now are among those of before, each once, and those that went are zero
pub record DropsCells (b : Image) (was now : List ℕ) : Type 0 where
  pub more : (n : ℕ) → IsAmong now n → IsAmong was n
  pub gone : (n : ℕ) → IsAmong was n → IsAmong now n ⊎ (b n ≡ Some zero_cell)
  pub once : AreOnce now

-- nothing was written but these cells
abbrev pub StaysOutside : Image → Image → List ℕ → Type 0
StaysOutside a b own = (n : ℕ) → (¬ IsAmong own n) → b n ≡ a n

-- the version left a tree, whose root keeps its cell and has a key less at most
pub record IsLess (a b : Image) (lost : CellRef) (h : ℕ) (t u : BTree h) : Type 0 where
  pub at : u.at ≡ t.at
  pub stands : Stands h b u
  pub shape : (least : ℕ) → IsShaped h (suc least) t → IsShaped h least u
  pub leaves : Leaves lost (versions h t) (versions h u)
  pub drops : DropsCells b (cells h t) (cells h u)
  pub elsewhere : StaysOutside a b (cells h t)

-- no cell was taken, so many were planned, and the plan says of every cell but these what it said
pub record IsPlain (before after : Work) (own : List ℕ) (count : ℕ) : Type 0 where
  pub none : TakesNone before after
  pub places : length after.pairs ≤ length before.pairs + count
  pub says : (n : ℕ) → (¬ IsAmong own n) → content after.pairs n ≡ content before.pairs n
  pub goes_on : GoesOn before after

-- a node below whose child at a place is a key too few
pub record IsShort (image : Image) (at : CellRef) (place h : ℕ) (t : BTree (suc h)) : Type 0 where
  pub root : t.at ≡ at
  pub stands : Stands (suc h) image t
  pub keys : HasKeys 1 t.keys
  pub many : length t.children ≡ length t.keys + 1
  pub once : AreOnce (cells (suc h) t)
  pub front : List (BTree h)
  pub short : BTree h
  pub back : List (BTree h)
  pub children_are : t.children ≡ front ++ short ∷ back
  pub place_is : length front ≡ place
  pub front_shape : Each (IsShaped h least_keys) front
  pub short_shape : IsShaped h 2 short
  pub back_shape : Each (IsShaped h least_keys) back

-- the node was mended: it lists the same, and has a key less at most
pub record IsMended (a b : Image) (h : ℕ) (t u : BTree (suc h)) : Type 0 where
  pub at : u.at ≡ t.at
  pub stands : Stands (suc h) b u
  pub shape : (least : ℕ) → suc least ≤ length t.keys → IsShaped (suc h) least u
  pub same : versions (suc h) u ≡ versions (suc h) t
  pub drops : DropsCells b (cells (suc h) t) (cells (suc h) u)
  pub elsewhere : StaysOutside a b (cells (suc h) t)

pub record HasMended (before after : Work) (h : ℕ) (t : BTree (suc h)) : Type 0 where
  pub now : BTree (suc h)
  pub mended : IsMended (reading before) (reading after) h t now
  pub plain : IsPlain before after (cells (suc h) t) 3

-- the tree of a height that stands at a cell
pub record IsBranch (image : Image) (at : CellRef) (least h : ℕ) (t : BTree h) : Type 0 where
  pub root : t.at ≡ at
  pub stands : Stands h image t
  pub shape : IsShaped h least t
  pub once : AreOnce (cells h t)

-- a version was taken out of the tree, with so many puts
pub record HasLost (before after : Work) (lost : CellRef) (count h : ℕ) (t : BTree h) : Type 0 where
  pub now : BTree h
  pub less : IsLess (reading before) (reading after) lost h t now
  pub plain : IsPlain before after (cells h t) count

-- the last version was
pub record HasLostLast (before after : Work) (lost : CellRef) (h : ℕ) (t : BTree h) : Type 0 where
  pub lost_one : HasLost before after lost (3 * h + 1) h t
  pub list : versions h t ≡ versions h lost_one.now ++ lost ∷ []

-- the tree lists the version, in the order of what the keys say
pub record IsHome (said : Sayings) (image : Image) (version at : CellRef) (h : ℕ) (t : BTree h) : Type 0 where
  pub branch : IsBranch image at 1 h t
  pub keyed : AreKeyed said (versions h t)
  pub within : Contains (versions h t) version

-- a version left the tree of a head
pub record IsTreeRemoved (before after : Work) (version : CellRef) (head : ℕ) (was : Tree) : Type 0 where
  pub now : Tree
  pub changed : IsTreeChanged before after head [] was now
  pub leaves : Leaves version (versions_of was) (versions_of now)
  pub none : TakesNone before after
  pub places : length after.pairs ≤ length before.pairs + 36

-- a root without a key goes: the head leads to its only child, or to none below a leaf
abbrev pub LowersRoot : Work → Work → CellRef → CellRef → List CellRef → List CellRef → Type 0
LowersRoot before after head root [] children =
    after ≡ with_cell (with_cell before root zero_cell) head (index_head_cell (rooted_head (unwrap_or (slice_get children 0) no_ref)))
LowersRoot before after head root (key ∷ keys) children = after ≡ before
