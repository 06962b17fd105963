-- The tree that a head leads to, or none, and how high it is at most.
use Rattle.std.proofs.Common.{◌≡◌, ◌≢◌, ◌≤◌, ◌<◌, ◌*◌, ◌^◌, zero, suc, ℕ, List, [], ◌∷◌, length, length-append, slice_get, Option, Some, inl, inr, refl, sym, ap, subst, ◌∙◌, arith}
use Rattle.std.proofs.Math.Nat.{mul-le-mul_left, pow-le-pow_right, pow-suc}
use Rattle.std.proofs.lemmas.Bool.{cases_lt}
use Rattle.std.proofs.lemmas.List.{length-map}
use Rattle.std.specs.List.{flat_map}
use Rattle.std.specs.Option.{option_map_or}
use Rattle.rdb_pages.specs.declared.cell.Cell.{Cell}
use Rattle.rdb_pages.specs.declared.cell.CellRef.{CellRef}
use Rattle.rdb_cells.specs.declared.formats.heads.IndexHead.{IndexHead}
use Rattle.rdb_cells.specs.declared.formats.rtree.RtreeNode.{RtreeNode}
use Rattle.rdb_cells.specs.HeadFormat.{index_head_cell, index_head_in, rooted_head}
use Rattle.rdb_cells.specs.Images.{Image}
use Rattle.rdb_cells.specs.Keys.{Meaning, Sayings}
use Rattle.rdb_cells.specs.Links.{IsAmong, AreOnce}
use Rattle.rdb_cells.specs.References.{IsPageCell}
use Rattle.rdb_cells.proofs.FormatLemmas.{index_head_back}
use Rattle.rdb_cells.proofs.LinkLemmas.{few_below}
use Rattle.rdb_rtree.specs.Boxes.{Each}
use Rattle.rdb_rtree.specs.Nature.{IsRtreeIndex}
use Rattle.rdb_rtree.specs.Standing.{IsTreeAt, IsKeyedAt}
use Rattle.rdb_rtree.specs.Trees.{Node, RTree, box, cells, versions, versions_of, cells_of, root_of, Tree, Empty, Rooted, node_of, IsNodeAt, Stands, IsShaped, TreeStands, IsRtree, least_entries, root_entries}
use Rattle.rdb_rtree.proofs.NodeLemmas.{one_cell}

pub root_read : (image : Image) (head : ℕ) (root r : CellRef) (cell : Cell) → image head ≡ Some (index_head_cell (rooted_head root)) → image head ≡ Some cell → slice_get (index_head_in cell).roots 0 ≡ Some r → root ≡ r
root_read image head root r cell leads here read =
    let same = one_cell image head (index_head_cell (rooted_head root)) cell leads here in
    let back : index_head_in (index_head_cell (rooted_head root)) ≡ rooted_head root = index_head_back (rooted_head root) refl in
    let first : Some root ≡ Some r =
    ap (λ (h : IndexHead). slice_get h.roots 0) (sym back)
    ∙ ap (λ (c : Cell). slice_get (index_head_in c).roots 0) same
    ∙ read in
    ap (λ (o : Option CellRef). option_map_or (λ x. x) o root) first

-- the tree of a head, with its height and its versions
pub record IsWhole (said : Sayings) (image : Image) (listed : List CellRef) (at : CellRef) : Type 0 where
  pub h : ℕ
  pub t : Node (RTree h)
  pub at_is : t.at ≡ at
  pub stands : Stands (suc h) image t
  pub shape : IsShaped said (suc h) (root_entries h) t
  pub listed_is : listed ≡ versions (suc h) t

module _ (head : ℕ) (said : Sayings) (image : Image) (listed : List CellRef) (nodes : List ℕ) (is : IsRtreeIndex head said image listed nodes) (at : CellRef) (root : root_of is.tree ≡ at) where
  whole_of : (tree : Tree) → root_of tree ≡ at → TreeStands image tree → IsRtree said tree → listed ≡ versions_of tree → at.number ≢ 0 → IsWhole said image listed at
  whole_of Empty same stands shape listed_is some = absurd (some (ap (λ (r : CellRef). r.number) (sym same)))
  whole_of (Rooted h t) same stands shape listed_is some = record { h = h; t = t; at_is = same; stands = stands; shape = shape; listed_is = listed_is }

  pub tree_at : at.number ≢ 0 → IsWhole said image listed at
  tree_at some = whole_of is.tree root is.stands is.shape is.listed_is some

  none_of : (tree : Tree) → root_of tree ≡ at → nodes ≡ cells_of tree → listed ≡ versions_of tree → at.number ≡ 0 → listed ≡ []
  none_of Empty same nodes_are listed_is none = listed_is
  none_of (Rooted h t) same nodes_are listed_is none =
      let page = (is.paged t.at.number (subst (λ (ns : List ℕ). IsAmong ns t.at.number) (sym nodes_are) (inl refl))).0 in
      let zero_number = ap (λ (r : CellRef). r.number) same ∙ none in
      absurd (omega arith)

  pub no_tree : at.number ≡ 0 → listed ≡ []
  no_tree none = none_of is.tree root is.nodes_are is.listed_is none

-- the node that was read at the root says the level
module _ (said : Sayings) (image : Image) (listed : List CellRef) (at : CellRef) (whole : IsWhole said image listed at) where
  pub root_node : IsNodeAt image at (node_of whole.h whole.t)
  root_node = subst (λ (r : CellRef). IsNodeAt image r (node_of whole.h whole.t)) whole.at_is whole.stands.0

  module _ (node : RtreeNode) (read : (n : RtreeNode) → IsNodeAt image at n → node ≡ n) where
    pub root_level : node.level ≡ whole.h
    root_level = ap (λ (n : RtreeNode). n.level) (read (node_of whole.h whole.t) root_node)

    pub whole_tree : IsTreeAt image at node.level whole.h whole.t
    whole_tree = record { at_is = whole.at_is; level_is = root_level; stands = whole.stands }

    pub whole_keyed : (keys : Meaning) → ((n : ℕ) → said.version_of n ≡ keys.version_of image n) → IsKeyedAt keys said image at node.level whole.h whole.t
    whole_keyed keys same = record { tree = whole_tree; says = same; shaped = whole.shape.1 }

-- how many cells a tree has
module _ (said : Sayings) where
  many_flat : (m h : ℕ) → ((t : RTree h) → IsShaped said h least_entries t → m ≤ length (cells h t)) → (ts : List (RTree h)) → Each (IsShaped said h least_entries) ts → m * length ts ≤ length (flat_map (cells h) ts)
  many_flat m h one [] shaped = omega arith
  many_flat m h one (t ∷ ts) shaped =
      let rest = many_flat m h one ts shaped.1 in
      let first = one t shaped.0 in
      let long = length-append (cells h t) (flat_map (cells h) ts) in
      omega arith

  many_cells : (h : ℕ) (t : Node (RTree h)) → IsShaped said (suc h) least_entries t → 4 ^ h ≤ length (cells (suc h) t)
  many_cells zero t shape = omega arith
  many_cells (suc h) t shape =
      let same = length-map t.below (box said (suc h)) in
      let enough = shape.0.enough in
      let four : 4 ≤ length t.below = omega arith in
      let more = mul-le-mul_left (4 ^ h) four in
      let flat = many_flat (4 ^ h) (suc h) (many_cells h) t.below shape.1 in
      let power = pow-suc 4 h in
      omega arith

  root_cells : (h : ℕ) (t : Node (RTree (suc h))) → IsShaped said (suc (suc h)) 2 t → 2 * 4 ^ h ≤ length (cells (suc (suc h)) t)
  root_cells h t shape =
      let same = length-map t.below (box said (suc h)) in
      let enough = shape.0.enough in
      let two : 2 ≤ length t.below = omega arith in
      let more = mul-le-mul_left (4 ^ h) two in
      let flat = many_flat (4 ^ h) (suc h) (many_cells h) t.below shape.1 in
      omega arith

  low_enough : (h : ℕ) → 2 * 4 ^ h ≤ 1048577 → suc h ≤ 10
  low_enough h few = elim (cases_lt h 10) [
    | inl below ↦ omega arith
    | inr above ↦ absurd (
        let four : 0 < 4 = omega arith in
        let more : 4 ^ 10 ≤ 4 ^ h = pow-le-pow_right four above in
        let ten : 4 ^ 10 ≡ 1048576 = refl in
        omega arith)
  ]

  -- no tree in page cells is higher than this
  pub low_root : (h : ℕ) (t : Node (RTree h)) → IsShaped said (suc h) (root_entries h) t → AreOnce (cells (suc h) t) → ((n : ℕ) → IsAmong (cells (suc h) t) n → IsPageCell n) → h ≤ 10
  low_root zero t shape once paged = omega arith
  low_root (suc h) t shape once paged =
      let few = few_below 1048577 (cells (suc (suc h)) t) once (λ n within. let page = (paged n within).1 in omega arith) in
      let many = root_cells h t shape in
      low_enough h (omega arith)
