-- A put into the tree of an index: what holds at its root.
use Rattle.std.proofs.Common.{◌≡◌, ◌≢◌, ◌≤◌, ◌+◌, zero, suc, ℕ, List, [], ◌∷◌, length, Some, inl, refl, sym, ap, subst, ◌∙◌, arith}
use Rattle.std.proofs.lemmas.List.{length-map}
use Rattle.rdb_pages.specs.declared.cell.CellRef.{CellRef}
use Rattle.rdb_cells.specs.declared.formats.rtree.RtreeNode.{RtreeNode}
use Rattle.rdb_cells.specs.HeadFormat.{index_head_cell, rooted_head}
use Rattle.rdb_cells.specs.Keys.{Meaning, Sayings, says}
use Rattle.rdb_cells.specs.Links.{IsAmong, AreOnce}
use Rattle.rdb_cells.specs.Work.{Work, reading, HasLeft}
use Rattle.rdb_cells.proofs.IndexLemmas.{fewer_than}
use Rattle.rdb_cells.proofs.WorkLemmas.{one_left}
use Rattle.rdb_rtree.specs.Changes.{CanTake, HasPlaces, IsGrowing, HasGrown, IsPlanted, IsTreePut}
use Rattle.rdb_rtree.specs.Nature.{IsRtreeIndex}
use Rattle.rdb_rtree.specs.Trees.{Node, RTree, box, entry_of, HasProperBox, IsNodeAt, node_of, Tree, Empty, Rooted, root_of, cells_of, TreeStands, IsRtree, root_entries}
use Rattle.rdb_rtree.specs.declared.entry.Entry.{Entry}
use Rattle.rdb_rtree.proofs.RootLemmas.{put_first}
use Rattle.rdb_rtree.proofs.WholeLemmas.{low_root}

-- the root of a tree below which a version is to come
pub record IsRooted (keys : Meaning) (said : Sayings) (w : Work) (head at : CellRef) (level : ℕ) (entry : Entry) (tree : Tree) : Type 0 where
  pub h : ℕ
  pub t : Node (RTree h)
  pub tree_is : tree ≡ Rooted h t
  pub growing : IsGrowing keys said (reading w) at level entry h t
  pub enough : root_entries h ≤ length t.below
  pub leads : reading w head.number ≡ Some (index_head_cell (rooted_head t.at))
  pub low : h ≤ 10

module _ (keys : Meaning) (w : Work) (head : CellRef) (listed : List CellRef) (nodes : List ℕ) (is : IsRtreeIndex head.number (says keys (reading w)) (reading w) listed nodes) (at : CellRef) (root : root_of is.tree ≡ at)
    (version : CellRef) (entry : Entry) (boxed : HasProperBox (says keys (reading w)) version) (entry_is : entry ≡ entry_of (says keys (reading w)) 0 version) where
  first_of : (tree : Tree) → root_of tree ≡ at → reading w head.number ≡ Some (index_head_cell (rooted_head (root_of tree))) → nodes ≡ cells_of tree → at.number ≡ 0 → (after : Work) → IsPlanted w after head 0 (entry ∷ []) → IsTreePut (says keys (reading w)) w after version head.number tree
  first_of Empty same leads are none after planted = put_first (says keys (reading w)) w after head version entry boxed entry_is (index_head_cell (rooted_head (root_of Empty)), leads, refl) planted
  first_of (Rooted h t) same leads are none after planted =
      let page = (is.paged t.at.number (subst (λ (ns : List ℕ). IsAmong ns t.at.number) (sym are) (inl refl))).0 in
      let zero_number = ap (λ (r : CellRef). r.number) same ∙ none in
      absurd (omega arith)

  pub first_put : at.number ≡ 0 → (after : Work) → IsPlanted w after head 0 (entry ∷ []) → IsTreePut (says keys (reading w)) w after version head.number is.tree
  first_put none after planted = first_of is.tree root is.leads is.nodes_are none after planted

  module _ (node : RtreeNode) (read : (n : RtreeNode) → IsNodeAt (reading w) at n → node ≡ n) where
    rooted_of : (tree : Tree) → root_of tree ≡ at → TreeStands (reading w) tree → IsRtree (says keys (reading w)) tree → reading w head.number ≡ Some (index_head_cell (rooted_head (root_of tree))) → nodes ≡ cells_of tree → at.number ≢ 0 → IsRooted keys (says keys (reading w)) w head at node.level entry tree
    rooted_of Empty same stands shape leads are some = absurd (some (ap (λ (r : CellRef). r.number) (sym same)))
    rooted_of (Rooted h t) same stands shape leads are some =
        let once = subst AreOnce are is.once in
        let own = subst (λ (r : CellRef). IsNodeAt (reading w) r (node_of h t)) same stands.0 in
        let level = ap (λ (n : RtreeNode). n.level) (read (node_of h t) own) in
        let many = length-map t.below (box (says keys (reading w)) h) in
        let full = shape.0.enough in
        let one = at_least_one h in
        let version_is = ap (λ (e : Entry). e.at) entry_is in
        record {
          h = h;
          t = t;
          tree_is = refl;
          growing = record {
            keyed = record { tree = record { at_is = same; level_is = level; stands = stands }; says = λ n. refl; shaped = shape.1 };
            once = once;
            some = omega arith;
            boxed = subst (HasProperBox (says keys (reading w))) (sym version_is) boxed;
            entry_is = subst (λ (r : CellRef). entry ≡ entry_of (says keys (reading w)) 0 r) (sym version_is) entry_is;
          };
          enough = omega arith;
          leads = leads;
          low = low_root (says keys (reading w)) h t shape once (λ n within. is.paged n (subst (λ (ns : List ℕ). IsAmong ns n) (sym are) within));
        }
      where
        at_least_one : (k : ℕ) → 1 ≤ root_entries k
        at_least_one zero = omega arith
        at_least_one (suc k) = omega arith

    pub rooted : at.number ≢ 0 → IsRooted keys (says keys (reading w)) w head at node.level entry is.tree
    rooted some = rooted_of is.tree root is.stands is.shape is.leads is.nodes_are some

-- what is left after the version came below the root
module _ (keys : Meaning) (said : Sayings) (w : Work) (head at : CellRef) (level : ℕ) (entry : Entry) (tree : Tree) (r : IsRooted keys said w head at level entry tree) where
  pub level_low : level ≤ 10
  level_low = let same = r.growing.keyed.tree.level_is in let low = r.low in omega arith

  module _ (mid : Work) (entries : List Entry) (grown : HasGrown said w mid entry.at r.h r.t.below entries) where
    pub root_take : HasLeft w 12 → CanTake mid
    root_take left =
        let few = grown.few in
        let low = r.low in
        one_left mid (grown.account.most.enough 1 (fewer_than w (1 + length grown.fresh) 12 (omega arith) left))

    pub root_places : HasPlaces w 24 → HasPlaces mid 2
    root_places room =
        let places = grown.account.places in
        let as_before = grown.account.goes_on.room in
        let low = r.low in
        omega arith
