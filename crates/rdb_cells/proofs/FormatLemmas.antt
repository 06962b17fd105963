-- What was written to a cell is read from it.
use Rattle.std.proofs.Common.{◌≡◌, ℕ, zero, suc, ◌+◌, ◌*◌, ◌/◌, ◌%◌, ◌^◌, ◌<◌, Bool, true, false, List, [], ◌∷◌, length, slice_get, get_or, Some, refl, ap, subst, ◌∙◌, arith}
use Rattle.std.specs.Prelude.{◌==◌, if◌then◌else◌}
use Rattle.std.specs.Int.{w32, cast_signed, cast_unsigned}
use Rattle.std.proofs.Math.Nat.{mod-add-div}
use Rattle.std.proofs.lemmas.Int.{to_z-of_z}
use Rattle.rdb_pages.specs.declared.cell.Cell.{Cell}
use Rattle.rdb_pages.specs.declared.cell.CellRef.{CellRef}
use Rattle.rdb_cells.specs.declared.formats.object.ObjectSlot.{ObjectSlot}
use Rattle.rdb_cells.specs.declared.formats.hash.HashTable.{HashTable}
use Rattle.rdb_cells.specs.declared.formats.tree.TreeNode.{TreeNode}
use Rattle.rdb_cells.specs.declared.formats.rtree.RtreeNode.{RtreeNode}
use Rattle.rdb_cells.specs.declared.formats.heads.IndexHead.{IndexHead}
use Rattle.rdb_cells.specs.Words.{no_ref, ref_in, refs_in}
use Rattle.rdb_cells.specs.ObjectFormat.{IsSlot, slot_cell, slot_in}
use Rattle.rdb_cells.specs.HashFormat.{IsTable, table_cell, table_in}
use Rattle.rdb_cells.specs.HeadFormat.{IsIndexHead, index_head_cell, index_head_in}
use Rattle.rdb_cells.specs.TreeFormat.{IsTreeNode, tree_node_cell, tree_node_in}
use Rattle.rdb_cells.specs.RtreeFormat.{IsRtreeNode, rtree_node_cell, rtree_node_in}

-- so many elements of a list from a place on
abbrev elements : List CellRef → ℕ → ℕ → List CellRef
elements refs place zero = []
elements refs place (suc n) = get_or refs place no_ref ∷ elements refs (suc place) n

elements_behind : (r : CellRef) (refs : List CellRef) (place n : ℕ) → elements (r ∷ refs) (suc place) n ≡ elements refs place n
elements_behind r refs place zero = refl
elements_behind r refs place (suc n) = ap (λ (others : List CellRef). get_or refs place no_ref ∷ others) (elements_behind r refs (suc place) n)

all_elements : (refs : List CellRef) → elements refs 0 (length refs) ≡ refs
all_elements [] = refl
all_elements (r ∷ refs) = ap (λ (others : List CellRef). r ∷ others) (elements_behind r refs 0 (length refs) ∙ all_elements refs)

so_many : (n : ℕ) (refs : List CellRef) → length refs ≡ n → elements refs 0 n ≡ refs
so_many n refs e = subst (λ (m : ℕ). elements refs 0 m ≡ refs) e (all_elements refs)

-- two numbers above a kind, the first below 256
low_of_two : (kind low high : ℕ) → kind < 256 → low < 256 → (kind + 256 * (low + 256 * high)) / 256 % 256 ≡ low
low_of_two kind low high kind_small low_small = omega arith

high_of_two : (kind low high : ℕ) → kind < 256 → low < 256 → (kind + 256 * (low + 256 * high)) / 256 / 256 ≡ high
high_of_two kind low high kind_small low_small = omega arith

pub slot_back : (s : ObjectSlot) → IsSlot s → slot_in (slot_cell s) ≡ s
slot_back s is =
    let newest : (3 + 256 * s.newest.number) / 256 ≡ s.newest.number = omega arith in
    let id : s.id % 2 ^ 32 + 2 ^ 32 * (s.id / 2 ^ 32) ≡ s.id = mod-add-div s.id (2 ^ 32) in
    λ i. record { newest = record { number = newest i }; id = id i; children = so_many 8 s.children is.0 i }

pub table_back : (t : HashTable) → IsTable t → table_in (table_cell t) ≡ t
table_back t is = λ i. record { buckets = so_many 15 t.buckets is i }

pub index_head_back : (h : IndexHead) → IsIndexHead h → index_head_in (index_head_cell h) ≡ h
index_head_back h is = λ i. record { roots = so_many 15 h.roots is i }

flag_back : (flag : Bool) → ((if flag then 1 else 0) == 1) ≡ flag
flag_back true = refl
flag_back false = refl

pub tree_node_back : (n : TreeNode) → IsTreeNode n → tree_node_in (tree_node_cell n) ≡ n
tree_node_back n is =
    let flag : ℕ = if n.leaf then 1 else 0 in
    let count : (6 + 256 * (n.count + 256 * flag)) / 256 % 256 ≡ n.count = low_of_two 6 n.count flag (omega arith) (omega (arith, is.count)) in
    let high : (6 + 256 * (n.count + 256 * flag)) / 256 / 256 ≡ flag = high_of_two 6 n.count flag (omega arith) (omega (arith, is.count)) in
    let leaf : (((6 + 256 * (n.count + 256 * flag)) / 256 / 256) == 1) ≡ n.leaf = ap (λ (h : ℕ). h == 1) high ∙ flag_back n.leaf in
    λ i. record { count = count i; leaf = leaf i; versions = so_many 7 n.versions is.versions i; children = so_many 8 n.children is.children i }

pub rtree_node_back : (n : RtreeNode) → IsRtreeNode n → rtree_node_in (rtree_node_cell n) ≡ n
rtree_node_back n is =
    let count : (7 + 256 * (n.count + 256 * n.level)) / 256 % 256 ≡ n.count = low_of_two 7 n.count n.level (omega arith) (omega (arith, is.count)) in
    let level : (7 + 256 * (n.count + 256 * n.level)) / 256 / 256 ≡ n.level = high_of_two 7 n.count n.level (omega arith) (omega (arith, is.count)) in
    let x1 : cast_signed w32 (cast_unsigned w32 n.cover.x1) ≡ n.cover.x1 = to_z-of_z w32 n.cover.x1 is.box.x1 in
    let y1 : cast_signed w32 (cast_unsigned w32 n.cover.y1) ≡ n.cover.y1 = to_z-of_z w32 n.cover.y1 is.box.y1 in
    let x2 : cast_signed w32 (cast_unsigned w32 n.cover.x2) ≡ n.cover.x2 = to_z-of_z w32 n.cover.x2 is.box.x2 in
    let y2 : cast_signed w32 (cast_unsigned w32 n.cover.y2) ≡ n.cover.y2 = to_z-of_z w32 n.cover.y2 is.box.y2 in
    λ i. record {
      count = count i;
      level = level i;
      cover = record { x1 = x1 i; y1 = y1 i; x2 = x2 i; y2 = y2 i };
      entries = so_many 11 n.entries is.entries i;
    }

-- one of several references that stand in words
ref_there : (cell : Cell) (word n place : ℕ) → place < n → slice_get (refs_in cell word n) place ≡ Some (ref_in cell (word + place))
ref_there cell word zero place below = absurd (omega arith)
ref_there cell word (suc n) zero below = let e : word ≡ word + 0 = omega arith in ap (λ (w : ℕ). Some (ref_in cell w)) e
ref_there cell word (suc n) (suc place) below =
    let e : suc word + place ≡ word + suc place = omega arith in
    ref_there cell (suc word) n place (omega arith) ∙ ap (λ (w : ℕ). Some (ref_in cell w)) e

pub child_there : (cell : Cell) (place : ℕ) → place < 8 → slice_get (slot_in cell).children place ≡ Some (ref_in cell (4 + place))
child_there cell place below = ref_there cell 4 8 place below

pub bucket_there : (cell : Cell) (place : ℕ) → place < 15 → slice_get (table_in cell).buckets place ≡ Some (ref_in cell (1 + place))
bucket_there cell place below = ref_there cell 1 15 place below

pub root_there : (cell : Cell) (place : ℕ) → place < 15 → slice_get (index_head_in cell).roots place ≡ Some (ref_in cell (1 + place))
root_there cell place below = ref_there cell 1 15 place below
