-- A version comes into a tree, level by level on the way up: a tree that has grown in its place, and one that was split.
use Rattle.std.specs.Prelude.{◌≡◌, ◌≤◌, ◌+◌, ◌*◌, ◌⊎◌, ℕ, List, [], ◌∷◌, ◌++◌, length, Option, Some, None, Bool, true, false}
use Rattle.rdb_pages.specs.declared.cell.CellRef.{CellRef}
use Rattle.rdb_pages.specs.Pages.{zero_cell}
use Rattle.rdb_cells.specs.HeadFormat.{index_head_cell, rooted_head}
use Rattle.rdb_cells.specs.Images.{Image}
use Rattle.rdb_cells.specs.Links.{IsAmong, AreOnce}
use Rattle.rdb_cells.specs.Records.{content}
use Rattle.rdb_cells.specs.Work.{Work, reading, IsLeft, GoesOn, TakesAtMost, TakesLowest}
use Rattle.rdb_tree.specs.Nature.{most_levels}
use Rattle.rdb_tree.specs.Trees.{BTree, Each, Tree, Empty, Rooted, root_of, levels_of, versions, versions_of, cells, cells_of, Stands, TreeStands, IsShaped, IsBTree, least_keys}
use Rattle.rdb_tree.specs.Ways.{IsCut, Leads}
use Rattle.rdb_tree.specs.declared.insert.Raised.{Raised}
use Rattle.rdb_tree.specs.declared.path.Step.{Step}

-- A version came to its place among others: what is before it is on the near side, and what is behind it isn't.
pub record ComesTo (near : CellRef → Bool) (version : CellRef) (was now : List CellRef) : Type 0 where
  pub front : List CellRef
  pub back : List CellRef
  pub was_is : was ≡ front ++ back
  pub now_is : now ≡ front ++ version ∷ back
  pub before : Each (λ r. near r ≡ true) front
  pub behind : Each (λ r. near r ≡ false) back

-- the cells now are those of before and the fresh ones, each once
pub record AddsCells (fresh was now : List ℕ) : Type 0 where
  pub more : (n : ℕ) → IsAmong now n → IsAmong was n ⊎ IsAmong fresh n
  pub kept : (n : ℕ) → IsAmong was n → IsAmong now n
  pub used : (n : ℕ) → IsAmong fresh n → IsAmong now n
  pub once : AreOnce now

-- nothing was written but these cells and the fresh ones
abbrev pub StaysBeside : Image → Image → List ℕ → List ℕ → Type 0
StaysBeside a b own fresh = (n : ℕ) → (¬ IsAmong own n) → (¬ IsAmong fresh n) → b n ≡ a n

-- the version came into a tree, whose root keeps its cell
pub record IsGrown (a b : Image) (near : CellRef → Bool) (version : CellRef) (fresh : List ℕ) (h : ℕ) (t u : BTree h) : Type 0 where
  pub at : u.at ≡ t.at
  pub stands : Stands h b u
  pub shape : (least : ℕ) → IsShaped h least t → IsShaped h least u
  pub comes : ComesTo near version (versions h t) (versions h u)
  pub adds : AddsCells fresh (cells h t) (cells h u)
  pub elsewhere : StaysBeside a b (cells h t) fresh

-- the version came into a tree that was split: the left half keeps its cell, and a key stands between the halves
pub record IsHalved (a b : Image) (near : CellRef → Bool) (version : CellRef) (fresh : List ℕ) (h : ℕ) (t : BTree h) (key right : CellRef) : Type 0 where
  pub l : BTree h
  pub r : BTree h
  pub left_at : l.at ≡ t.at
  pub right_at : r.at ≡ right
  pub left_stands : Stands h b l
  pub right_stands : Stands h b r
  pub left_shape : IsShaped h least_keys l
  pub right_shape : IsShaped h least_keys r
  pub comes : ComesTo near version (versions h t) (versions h l ++ key ∷ versions h r)
  pub adds : AddsCells fresh (cells h t) (cells h l ++ cells h r)
  pub elsewhere : StaysBeside a b (cells h t) fresh

-- below a leaf nothing was written, and the version is to be put into it
pub record IsUntouched (a b : Image) (version : CellRef) (fresh : List ℕ) (key : CellRef) : Type 0 where
  pub key_is : key ≡ version
  pub none : fresh ≡ []
  pub same : (n : ℕ) → b n ≡ a n

-- what came of a tree from which a key was raised
abbrev pub IsRaised : Image → Image → (CellRef → Bool) → CellRef → List ℕ → Tree → Raised → Type 0
IsRaised a b near version fresh Empty raised = IsUntouched a b version fresh raised.key
IsRaised a b near version fresh (Rooted h t) raised = IsHalved a b near version fresh h t raised.key raised.right

-- the tree that a version came into, in its place
abbrev pub HasGrown : Image → Image → (CellRef → Bool) → CellRef → List ℕ → Tree → Type 0
HasGrown a b near version fresh Empty = ⊥
HasGrown a b near version fresh (Rooted h t) = (u : BTree h) × IsGrown a b near version fresh h t u

-- The account of so many levels: these cells were taken, one a level at most, and two planned; and the plan says of every cell
-- but those of the tree and the fresh ones what it said.
pub record IsAccount (before after : Work) (own fresh : List ℕ) (levels : ℕ) : Type 0 where
  pub lowest : TakesLowest before after fresh
  pub most : TakesAtMost (length fresh) before after
  pub left : (n : ℕ) → IsAmong fresh n → IsLeft before n
  pub few : length fresh ≤ levels
  pub places : length after.pairs ≤ length before.pairs + 2 * levels
  pub says : (n : ℕ) → (¬ IsAmong own n) → (¬ IsAmong fresh n) → content after.pairs n ≡ content before.pairs n
  pub goes_on : GoesOn before after

-- a tree that a way leads down, to the place of a version
pub record IsWayDown (image : Image) (near : CellRef → Bool) (whole : Tree) (steps : List Step) : Type 0 where
  pub stands : TreeStands image whole
  pub shape : IsBTree whole
  pub once : AreOnce (cells_of whole)
  pub cut : IsCut near (versions_of whole)
  pub levels : levels_of whole ≤ most_levels
  pub leads : Leads near whole steps Empty

-- On the way up a key is raised from the tree that the steps left lead to, and so it was from those below.
pub record IsUnderway (before after : Work) (near : CellRef → Bool) (version : CellRef) (whole : Tree) (steps : List Step) (raised : Raised) : Type 0 where
  pub rest : Tree
  pub leads : Leads near whole steps rest
  pub fresh : List ℕ
  pub halves : IsRaised (reading before) (reading after) near version fresh rest raised
  pub account : IsAccount before after (cells_of whole) fresh (levels_of rest)

-- the version came into the whole tree in its place
pub record IsSettled (before after : Work) (near : CellRef → Bool) (version : CellRef) (whole : Tree) : Type 0 where
  pub fresh : List ℕ
  pub grown : HasGrown (reading before) (reading after) near version fresh whole
  pub account : IsAccount before after (cells_of whole) fresh (levels_of whole)

-- a version put into a tree, up to so many steps from the root: a key is raised still, or none is
abbrev pub IsPutUpTo : Work → Work → (CellRef → Bool) → CellRef → Tree → List Step → Option Raised → Type 0
IsPutUpTo before after near version whole steps None = IsSettled before after near version whole
IsPutUpTo before after near version whole steps (Some raised) = IsUnderway before after near version whole steps raised

-- The tree that a head leads to has become another one: its cells are those of before that are needed still and the fresh ones,
-- each once; the others are zero now, and nothing else was written.
pub record IsTreeChanged (before after : Work) (head : ℕ) (fresh : List ℕ) (was now : Tree) : Type 0 where
  pub leads : reading after head ≡ Some (index_head_cell (rooted_head (root_of now)))
  pub stands : TreeStands (reading after) now
  pub shape : IsBTree now
  pub more : (n : ℕ) → IsAmong (cells_of now) n → IsAmong (cells_of was) n ⊎ IsAmong fresh n
  pub gone : (n : ℕ) → IsAmong (cells_of was) n → IsAmong (cells_of now) n ⊎ (reading after n ≡ Some zero_cell)
  pub used : (n : ℕ) → IsAmong fresh n → IsAmong (cells_of now) n
  pub once : AreOnce (cells_of now)
  pub elsewhere : StaysBeside (reading before) (reading after) (head ∷ cells_of was) fresh
  pub lowest : TakesLowest before after fresh
  pub left : (n : ℕ) → IsAmong fresh n → IsLeft before n
  pub says : (n : ℕ) → (¬ IsAmong (head ∷ cells_of was) n) → (¬ IsAmong fresh n) → content after.pairs n ≡ content before.pairs n
  pub goes_on : GoesOn before after

-- a version came to its place in the tree of a head, at the cost of a cell a level at most, and of two planned
pub record IsTreePut (before after : Work) (near : CellRef → Bool) (version : CellRef) (head : ℕ) (was : Tree) : Type 0 where
  pub fresh : List ℕ
  pub now : Tree
  pub changed : IsTreeChanged before after head fresh was now
  pub comes : ComesTo near version (versions_of was) (versions_of now)
  pub most : TakesAtMost (length fresh) before after
  pub few : length fresh ≤ most_levels + 1
  pub places : length after.pairs ≤ length before.pairs + 2 * (most_levels + 1)
