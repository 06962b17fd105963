-- What the changes of nodes, and of what stands below them, make of the work on a plan.
use Rattle.std.specs.Prelude.{◌≡◌, ◌≢◌, ◌≤◌, ◌<◌, ◌+◌, ◌*◌, ◌^◌, ℕ, suc, List, [], ◌∷◌, ◌++◌, length, map, get_or, Some, IsPermutation}
use Rattle.std.specs.List.{flat_map, remove}
use Rattle.rdb_base.specs.declared.value.Rect.{Rect}
use Rattle.rdb_pages.specs.declared.cell.Cell.{Cell}
use Rattle.rdb_pages.specs.declared.cell.CellRef.{CellRef}
use Rattle.rdb_pages.specs.Pages.{zero_cell}
use Rattle.rdb_cells.specs.declared.kind.Kind.TheVariants as kind
use Rattle.rdb_cells.specs.HeadFormat.{index_head_cell, rooted_head}
use Rattle.rdb_cells.specs.Images.{Image}
use Rattle.rdb_cells.specs.Keys.{Meaning, Sayings, SameVersionCells}
use Rattle.rdb_cells.specs.Links.{IsAmong, AreOnce}
use Rattle.rdb_cells.specs.Records.{with_put, content}
use Rattle.rdb_cells.specs.RtreeFormat.{IsRtreeNode, most_entries, rtree_node_cell}
use Rattle.rdb_cells.specs.Untaken.{IsNextUntaken}
use Rattle.rdb_cells.specs.Words.{HasKind, no_ref}
use Rattle.rdb_cells.specs.Work.{Work, reading, IsLeft, GoesOn, TakesAtMost, TakesLowest}
use Rattle.rdb_rtree.specs.Boxes.{Each, Covers, IsLeastCover}
use Rattle.rdb_rtree.specs.Standing.{AreSaid, IsKeyedAt, AreSound}
use Rattle.rdb_rtree.specs.Trees.{Node, RTree, versions, cells, box, entry_of, HasProperBox, node_with, Stands, IsShaped, least_entries, Tree, root_of, versions_of, cells_of, TreeStands, IsRtree}
use Rattle.rdb_rtree.specs.declared.entry.Entry.{Entry}

-- the most entries of two nodes that are to share them
abbrev pub most_shared : ℕ
most_shared = 14

-- the cell of the node of a level with this box and these entries
abbrev pub cell_of : ℕ → Rect → List Entry → Cell
cell_of level cover entries = rtree_node_cell (node_with level cover (map (λ entry. entry.at) entries))

-- the work after a cell was planned, and after one was taken
abbrev pub with_cell : Work → CellRef → Cell → Work
with_cell w at cell = record w { pairs = with_put w.pairs (record { at = at; cell = cell }) }

abbrev pub with_taken : Work → CellRef → Work
with_taken w at = record w { taken = at.number }

-- the cell is the lowest that can be taken
abbrev pub IsLowest : Work → CellRef → Type 0
IsLowest w at = IsNextUntaken w.pairs w.below w.class_of w.class w.taken at.number

-- there is one that can be taken
abbrev pub CanTake : Work → Type 0
CanTake w = (n : ℕ) × IsLeft w n

-- so many more cells can be planned
abbrev pub HasPlaces : Work → ℕ → Type 0
HasPlaces w many = length w.pairs + many ≤ w.room

-- The account of a change: these cells were taken, each once and the lowest first, so many places of the plan were needed, the
-- plan says of every cell but the own ones and those what it said, and the cells of rows and headers stay.
pub record IsAccount (before after : Work) (own fresh : List ℕ) (count : ℕ) : Type 0 where
  pub lowest : TakesLowest before after fresh
  pub most : TakesAtMost (length fresh) before after
  pub left : (n : ℕ) → IsAmong fresh n → IsLeft before n
  pub once : AreOnce fresh
  pub places : length after.pairs ≤ length before.pairs + count
  pub says : (n : ℕ) → (¬ IsAmong own n) → (¬ IsAmong fresh n) → content after.pairs n ≡ content before.pairs n
  pub goes_on : GoesOn before after
  pub versions : SameVersionCells (reading before) (reading after)

-- the cells of trees side by side
abbrev pub cells_below : (h : ℕ) → List (RTree h) → List ℕ
cells_below h ts = flat_map (cells h) ts

-- their versions
abbrev pub versions_below : (h : ℕ) → List (RTree h) → List CellRef
versions_below h ts = flat_map (versions h) ts

-- their entries in a node above
abbrev pub entries_above : Sayings → (h : ℕ) → List (RTree h) → List Entry
entries_above said h ts = map (entry_of said h) ts

-- The entries of trees that stand, for a node of a level above them whose cell is to be written: it is a node's cell, and none
-- of theirs.
pub record IsToSettle (said : Sayings) (w : Work) (at : CellRef) (level h : ℕ) (ts : List (RTree h)) (entries : List Entry) : Type 0 where
  pub level_is : level ≡ h
  pub low : level < 2 ^ 16
  pub entries_are : entries ≡ entries_above said h ts
  pub sound : AreSound said (reading w) h ts
  pub held : HasKind (reading w) kind.RtreeNode at.number
  pub apart : ¬ IsAmong (cells_below h ts) at.number
  pub some : 0 < length ts

-- A node was written above trees, or two where they are too many: the first one in the node's own cell. They came behind what
-- stood beside it.
pub record AreSettled (said : Sayings) (before after : Work) (at : CellRef) (h : ℕ) (ts : List (RTree h))
    (was now : List Entry) : Type 0 where
  pub fresh : List ℕ
  pub node : Node (RTree h)
  pub others : List (RTree (suc h))
  pub at_is : node.at ≡ at
  pub entries : now ≡ was ++ entries_above said (suc h) (node ∷ others)
  pub stand : Each (Stands (suc h) (reading after)) (node ∷ others)
  pub shaped : (least : ℕ) → least ≤ length ts → least ≤ least_entries → Each (IsShaped said (suc h) least) (node ∷ others)
  pub list : IsPermutation (versions_below h ts) (versions_below (suc h) (node ∷ others))
  pub places : IsPermutation (at.number ∷ (fresh ++ cells_below h ts)) (cells_below (suc h) (node ∷ others))
  pub two : length others ≤ 1
  pub over : 0 < length others → most_entries < length ts
  pub account : IsAccount before after (at.number ∷ []) fresh 2
  pub few : length fresh ≤ 1

-- A tree below whose root node a version is to come, which has a box.
pub record IsGrowing (keys : Meaning) (said : Sayings) (image : Image) (at : CellRef) (level : ℕ) (entry : Entry) (h : ℕ)
    (t : Node (RTree h)) : Type 0 where
  pub keyed : IsKeyedAt keys said image at level h t
  pub once : AreOnce (cells (suc h) t)
  pub some : 0 < length t.below
  pub boxed : HasProperBox said entry.at
  pub entry_is : entry ≡ entry_of said 0 entry.at

-- A version came below a node, whose trees are others now, one more at most: they stand, and the node is to be written.
pub record HasGrown (said : Sayings) (before after : Work) (version : CellRef) (h : ℕ) (was : List (RTree h))
    (entries : List Entry) : Type 0 where
  pub fresh : List ℕ
  pub now : List (RTree h)
  pub entries_are : entries ≡ entries_above said h now
  pub sound : AreSound said (reading after) h now
  pub list : IsPermutation (version ∷ versions_below h was) (versions_below h now)
  pub places : IsPermutation (fresh ++ cells_below h was) (cells_below h now)
  pub no_fewer : length was ≤ length now
  pub one_more : length now ≤ length was + 1
  pub account : IsAccount before after (cells_below h was) fresh (2 * h)
  pub few : length fresh ≤ h

-- cells that went read as zero
abbrev pub AreGone : Image → List ℕ → Type 0
AreGone image gone = (n : ℕ) → IsAmong gone n → image n ≡ Some zero_cell

-- A version went from below a node, whose trees are others now, one less at most: they stand, and the node is to be written.
pub record HasShrunk (said : Sayings) (before after : Work) (version : CellRef) (h : ℕ) (was : List (RTree h))
    (entries : List Entry) : Type 0 where
  pub gone : List ℕ
  pub now : List (RTree h)
  pub entries_are : entries ≡ entries_above said h now
  pub sound : AreSound said (reading after) h now
  pub list : IsPermutation (version ∷ versions_below h now) (versions_below h was)
  pub places : IsPermutation (gone ++ cells_below h now) (cells_below h was)
  pub zero : AreGone (reading after) gone
  pub one_less : length was ≤ length now + 1
  pub no_more : length now ≤ length was
  pub account : IsAccount before after (cells_below h was) [] (2 * h)

-- none of the versions is that of the cell
abbrev pub AreOthers : CellRef → List CellRef → Type 0
AreOthers at versions = Each (λ version. version.number ≢ at.number) versions

-- none of the entries stands in the cell
abbrev pub AreElsewhere : CellRef → List Entry → Type 0
AreElsewhere at entries = Each (λ entry. entry.at.number ≢ at.number) entries

-- the entries without the one that stands in the cell
pub record IsWithout (was : List Entry) (at : CellRef) (now : List Entry) : Type 0 where
  pub place : ℕ
  pub lost : Entry
  pub here : place < length was
  pub lost_is : lost ≡ get_or was place lost
  pub at_is : lost.at ≡ at
  pub rest : now ≡ remove was place

-- A tree from below whose root node a version is to go, which has a box. The node is known as the entry of the one above it. A node
-- above nodes has two entries at least.
pub record IsShrinking (keys : Meaning) (said : Sayings) (image : Image) (node : Entry) (level : ℕ) (lost : Entry) (h : ℕ)
    (t : Node (RTree h)) : Type 0 where
  pub keyed : IsKeyedAt keys said image node.at level h t
  pub cover_is : node.cover ≡ t.cover
  pub covers : Covers t.cover (map (box said h) t.below)
  pub once : AreOnce (cells (suc h) t)
  pub two : 0 < h → 2 ≤ length t.below
  pub boxed : HasProperBox said lost.at
  pub lost_is : lost ≡ entry_of said 0 lost.at

-- The trees that are left below a node whose cell is to be written, three at least, and those beside it, one at least.
pub record IsToMend (keys : Meaning) (said : Sayings) (w : Work) (at : CellRef) (level h : ℕ) (left : List (RTree h))
    (beside : List (RTree (suc h))) (own others : List Entry) : Type 0 where
  pub says : AreSaid keys (reading w) said
  pub level_is : level ≡ h
  pub low : level < 2 ^ 16
  pub own_are : own ≡ entries_above said h left
  pub others_are : others ≡ entries_above said (suc h) beside
  pub sound : AreSound said (reading w) h left
  pub sound_beside : AreSound said (reading w) (suc h) beside
  pub held : HasKind (reading w) kind.RtreeNode at.number
  pub once : AreOnce (at.number ∷ (cells_below h left ++ cells_below (suc h) beside))
  pub three : 3 ≤ length left
  pub fit : length left ≤ most_entries
  pub one : 1 ≤ length beside
  pub room : length beside ≤ 10

-- The trees of two nodes, whose cells are to be written or given back.
pub record IsToShare (said : Sayings) (w : Work) (at other : CellRef) (level h : ℕ) (ts : List (RTree h))
    (entries : List Entry) : Type 0 where
  pub level_is : level ≡ h
  pub low : level < 2 ^ 16
  pub entries_are : entries ≡ entries_above said h ts
  pub sound : AreSound said (reading w) h ts
  pub held : HasKind (reading w) kind.RtreeNode at.number
  pub held_too : HasKind (reading w) kind.RtreeNode other.number
  pub once : AreOnce (at.number ∷ other.number ∷ cells_below h ts)
  pub enough : 4 ≤ length ts

-- They stand below one node now, and the other cell is zero, or below two. These came behind what stood beside them.
pub record AreShared (said : Sayings) (before after : Work) (at other : CellRef) (h : ℕ) (ts : List (RTree h))
    (was now : List Entry) : Type 0 where
  pub gone : List ℕ
  pub nodes : List (RTree (suc h))
  pub entries : now ≡ was ++ entries_above said (suc h) nodes
  pub sound : AreSound said (reading after) (suc h) nodes
  pub list : IsPermutation (versions_below h ts) (versions_below (suc h) nodes)
  pub places : IsPermutation (gone ++ cells_below (suc h) nodes) (at.number ∷ other.number ∷ cells_below h ts)
  pub zero : AreGone (reading after) gone
  pub some : 1 ≤ length nodes
  pub two : length nodes ≤ 2
  pub account : IsAccount before after (at.number ∷ other.number ∷ []) [] 2

-- A node was written with the trees that are left below it, together with one of those beside it where they are too few. What
-- stands beside it and the nodes written are these trees now.
pub record IsMended (said : Sayings) (before after : Work) (at : CellRef) (h : ℕ) (left : List (RTree h))
    (beside : List (RTree (suc h))) (entries : List Entry) : Type 0 where
  pub gone : List ℕ
  pub now : List (RTree (suc h))
  pub entries_are : entries ≡ entries_above said (suc h) now
  pub sound : AreSound said (reading after) (suc h) now
  pub list : IsPermutation (versions_below h left ++ versions_below (suc h) beside) (versions_below (suc h) now)
  pub places : IsPermutation (gone ++ cells_below (suc h) now) (at.number ∷ (cells_below h left ++ cells_below (suc h) beside))
  pub zero : AreGone (reading after) gone
  pub no_fewer : length beside ≤ length now
  pub one_more : length now ≤ length beside + 1
  pub account : IsAccount before after (at.number ∷ cells_below (suc h) beside) [] 2

-- where the first of the entries stands
abbrev pub first_place : List Entry → CellRef
first_place [] = no_ref
first_place (entry ∷ rest) = entry.at

-- The trees that are left to a root whose cell is to be written or given back, and the head that leads to it.
pub record IsToLower (said : Sayings) (w : Work) (head root : CellRef) (level h : ℕ) (ts : List (RTree h))
    (entries : List Entry) : Type 0 where
  pub level_is : level ≡ h
  pub low : level < 2 ^ 16
  pub entries_are : entries ≡ entries_above said h ts
  pub sound : AreSound said (reading w) h ts
  pub held : HasKind (reading w) kind.RtreeNode root.number
  pub leads : reading w head.number ≡ Some (index_head_cell (rooted_head root))
  pub apart : ¬ IsAmong (cells_below h ts) root.number
  pub one : 0 < h → 1 ≤ length ts
  pub fit : length ts ≤ most_entries

-- The head leads to a tree of what was left to the root: below the root still, or below the only node that was left; or there is none.
pub record IsLowered (said : Sayings) (before after : Work) (head root : CellRef) (h : ℕ) (ts : List (RTree h)) : Type 0 where
  pub gone : List ℕ
  pub now : Tree
  pub leads : reading after head.number ≡ Some (index_head_cell (rooted_head (root_of now)))
  pub stands : TreeStands (reading after) now
  pub shape : IsRtree said now
  pub list : IsPermutation (versions_below h ts) (versions_of now)
  pub places : IsPermutation (gone ++ cells_of now) (root.number ∷ cells_below h ts)
  pub zero : AreGone (reading after) gone
  pub account : IsAccount before after (head.number ∷ root.number ∷ []) [] 2

-- a new root node above these entries stands in the lowest cell, and the head leads to it
pub record IsPlanted (before after : Work) (head : CellRef) (level : ℕ) (entries : List Entry) : Type 0 where
  pub top : CellRef
  pub cover : Rect
  pub lowest : IsLowest before top
  pub covers : IsLeastCover (map (λ entry. entry.cover) entries) cover
  pub proper : IsRtreeNode (node_with level cover (map (λ entry. entry.at) entries))
  pub work : after ≡
      with_cell (with_cell (with_taken before top) top (cell_of level cover entries)) head (index_head_cell (rooted_head top))

-- The tree that a head leads to has become another one: its cells are those of before that are needed still and the fresh ones,
-- each once; the others are zero now.
pub record IsTreeChanged (said : Sayings) (before after : Work) (head : ℕ) (fresh gone : List ℕ) (count : ℕ)
    (was now : Tree) : Type 0 where
  pub leads : reading after head ≡ Some (index_head_cell (rooted_head (root_of now)))
  pub stands : TreeStands (reading after) now
  pub shape : IsRtree said now
  pub places : IsPermutation (fresh ++ cells_of was) (gone ++ cells_of now)
  pub zero : AreGone (reading after) gone
  pub account : IsAccount before after (head ∷ cells_of was) fresh count

-- a version came into the tree of a head
pub record IsTreePut (said : Sayings) (before after : Work) (version : CellRef) (head : ℕ) (was : Tree) : Type 0 where
  pub fresh : List ℕ
  pub now : Tree
  pub changed : IsTreeChanged said before after head fresh [] 24 was now
  pub list : IsPermutation (version ∷ versions_of was) (versions_of now)
  pub few : length fresh ≤ 12

-- a version left the tree of a head
pub record IsTreeRemoved (said : Sayings) (before after : Work) (version : CellRef) (head : ℕ) (was : Tree) : Type 0 where
  pub gone : List ℕ
  pub now : Tree
  pub changed : IsTreeChanged said before after head [] gone 24 was now
  pub list : IsPermutation (version ∷ versions_of now) (versions_of was)
