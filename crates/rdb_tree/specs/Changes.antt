-- What the changes of single nodes make of the work on a plan.
use Rattle.std.specs.Prelude.{◌≡◌, ◌≤◌, ◌<◌, ◌+◌, ◌-◌, ◌⊎◌, ℕ, suc, List, [], ◌∷◌, ◌++◌, length, take, drop, slice_get, get_or, Option, Some, None}
use Rattle.rdb_pages.specs.declared.cell.Cell.{Cell}
use Rattle.rdb_pages.specs.declared.cell.CellRef.{CellRef}
use Rattle.rdb_pages.specs.Pages.{zero_cell}
use Rattle.rdb_cells.specs.HeadFormat.{index_head_cell, rooted_head}
use Rattle.rdb_cells.specs.Images.{Image}
use Rattle.rdb_cells.specs.Records.{with_put}
use Rattle.rdb_cells.specs.TreeFormat.{most_keys, tree_node_cell}
use Rattle.rdb_cells.specs.Untaken.{IsNextUntaken}
use Rattle.rdb_cells.specs.Work.{Work, IsLeft}
use Rattle.rdb_cells.specs.Words.{no_ref}
use Rattle.rdb_tree.specs.Trees.{node_with}
use Rattle.rdb_tree.specs.declared.insert.Raised.{Raised}

-- the cell of a node with these keys and children
abbrev pub cell_of : List CellRef → List CellRef → Cell
cell_of keys children = tree_node_cell (node_with keys children)

-- a leaf has no children, and an inner node one more than keys
abbrev pub FitsKeys : List CellRef → List CellRef → Type 0
FitsKeys keys children = (children ≡ []) ⊎ (length children ≡ length keys + 1)

-- a node with these keys and children stands there
pub record IsNodeAt (image : Image) (at : CellRef) (keys children : List CellRef) : Type 0 where
  pub few : length keys ≤ most_keys
  pub fits : FitsKeys keys children
  pub here : image at.number ≡ Some (cell_of keys children)

-- the work after a cell was planned, and after one was taken
abbrev pub with_cell : Work → CellRef → Cell → Work
with_cell w at cell = record w { pairs = with_put w.pairs (record { at = at; cell = cell }) }

abbrev pub with_taken : Work → CellRef → Work
with_taken w at = record w { taken = at.number }

-- the cell is the lowest that can be taken
abbrev pub IsLowest : Work → CellRef → Type 0
IsLowest w at = IsNextUntaken w.pairs w.below w.class_of w.class w.taken at.number

-- there is one that can be taken
abbrev pub CanTake : Work → Type 0
CanTake w = (n : ℕ) × IsLeft w n

-- so many more cells can be planned
abbrev pub HasPlaces : Work → ℕ → Type 0
HasPlaces w many = length w.pairs + many ≤ w.room

-- an overfull node split: its fourth key goes up, what follows it stands in a new cell
abbrev pub split_work : Work → CellRef → CellRef → List CellRef → List CellRef → Work
split_work w right at keys children = with_cell (with_cell (with_taken w right) right (cell_of (drop 4 keys) (drop 4 children))) at (cell_of (take 3 keys) (take 4 children))

-- the keys, and the children, with what was raised at a place
abbrev pub raised_keys : ℕ → CellRef → List CellRef → List CellRef
raised_keys place key keys = take place keys ++ key ∷ drop place keys

abbrev pub raised_children : ℕ → CellRef → List CellRef → List CellRef
raised_children place right [] = []
raised_children place right (child ∷ children) = take (place + 1) (child ∷ children) ++ right ∷ drop (place + 1) (child ∷ children)

-- what was raised fits into the node
pub record IsPutInto (before after : Work) (at : CellRef) (keys children : List CellRef) : Type 0 where
  pub fit : length keys ≤ most_keys
  pub work : after ≡ with_cell before at (cell_of keys children)

-- it doesn't, and the node was split
pub record IsSplit (before after : Work) (at : CellRef) (keys children : List CellRef) (raised : Raised) : Type 0 where
  pub over : most_keys < length keys
  pub lowest : IsLowest before raised.right
  pub key : slice_get keys 3 ≡ Some raised.key
  pub work : after ≡ split_work before raised.right at keys children

-- what putting a raised key into a node answers
abbrev pub PutsInto : Work → Work → CellRef → List CellRef → List CellRef → Option Raised → Type 0
PutsInto before after at keys children None = IsPutInto before after at keys children
PutsInto before after at keys children (Some raised) = IsSplit before after at keys children raised

-- a new root stands in the lowest cell, and the head leads to it
pub record IsNewRoot (before after : Work) (head : CellRef) (keys children : List CellRef) : Type 0 where
  pub top : CellRef
  pub lowest : IsLowest before top
  pub work : after ≡ with_cell (with_cell (with_taken before top) top (cell_of keys children)) head (index_head_cell (rooted_head top))

-- a leaf has no place for a child, and an inner node one for each
abbrev pub FitsPlace : ℕ → List CellRef → Type 0
FitsPlace place children = (children ≡ []) ⊎ (place < length children)

-- Two children of a node, before and behind the key at a place, and that key. Both are leaves, or neither is.
pub record Siblings (image : Image) (keys children : List CellRef) (place : ℕ) : Type 0 where
  pub between : CellRef
  pub left : CellRef
  pub right : CellRef
  pub is_between : slice_get keys place ≡ Some between
  pub is_left : slice_get children place ≡ Some left
  pub is_right : slice_get children (suc place) ≡ Some right
  pub left_keys : List CellRef
  pub left_children : List CellRef
  pub right_keys : List CellRef
  pub right_children : List CellRef
  pub left_node : IsNodeAt image left left_keys left_children
  pub right_node : IsNodeAt image right right_keys right_children
  pub alike : ((left_children ≡ []) × (right_children ≡ [])) ⊎ ((length left_children ≡ length left_keys + 1) × (length right_children ≡ length right_keys + 1))

-- a list without what stands at a place, and with another there
abbrev pub without : ℕ → List CellRef → List CellRef
without place refs = take place refs ++ drop (suc place) refs

abbrev pub replaced_at : ℕ → CellRef → List CellRef → List CellRef
replaced_at place other refs = take place refs ++ other ∷ drop (suc place) refs

module _ {image : Image} {keys children : List CellRef} {place : ℕ} where
  -- the last key of the left one goes up, and the key between goes down to the right one
  abbrev pub shared_left : Work → CellRef → Siblings image keys children place → Work
  shared_left w at s =
      with_cell (with_cell (with_cell w
      s.left (cell_of (take (length s.left_keys - 1) s.left_keys) (take (length s.left_children - 1) s.left_children)))
      s.right (cell_of (s.between ∷ s.right_keys) (drop (length s.left_children - 1) s.left_children ++ s.right_children)))
      at (cell_of (replaced_at place (get_or s.left_keys (length s.left_keys - 1) no_ref) keys) children)

  -- the first key of the right one goes up, and the key between goes down to the left one
  abbrev pub shared_right : Work → CellRef → Siblings image keys children place → Work
  shared_right w at s =
      with_cell (with_cell (with_cell w
      s.right (cell_of (drop 1 s.right_keys) (drop 1 s.right_children)))
      s.left (cell_of (s.left_keys ++ s.between ∷ []) (s.left_children ++ take 1 s.right_children)))
      at (cell_of (replaced_at place (get_or s.right_keys 0 no_ref) keys) children)

  -- both go into the left one, with the key between
  abbrev pub merged : Work → CellRef → Siblings image keys children place → Work
  merged w at s =
      with_cell (with_cell (with_cell w
      s.left (cell_of (s.left_keys ++ s.between ∷ s.right_keys) (s.left_children ++ s.right_children)))
      s.right zero_cell)
      at (cell_of (without place keys) (without (suc place) children))
