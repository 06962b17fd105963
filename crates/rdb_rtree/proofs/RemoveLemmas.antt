-- A removal from the tree of an index: what holds at its root, and what it comes to.
use Rattle.std.proofs.Common.{◌≡◌, ◌≢◌, ◌≤◌, ◌<◌, ◌+◌, ◌*◌, ◌++◌, zero, suc, ℕ, List, [], ◌∷◌, Some, inl, inr, refl, sym, ap, subst, ◌∙◌, arith}
use Rattle.std.proofs.lemmas.List.{length-map}
use Rattle.std.specs.List.{Contains}
use Rattle.rdb_pages.specs.declared.cell.CellRef.{CellRef}
use Rattle.rdb_pages.specs.Pages.{zero_cell}
use Rattle.rdb_cells.specs.declared.kind.Kind.TheVariants as kind
use Rattle.rdb_cells.specs.declared.formats.rtree.RtreeNode.{RtreeNode}
use Rattle.rdb_cells.specs.HeadFormat.{index_head_cell, rooted_head}
use Rattle.rdb_cells.specs.Images.{IsCell}
use Rattle.rdb_cells.specs.Keys.{Meaning, Sayings, says}
use Rattle.rdb_cells.specs.Links.{IsAmong, AreOnce}
use Rattle.rdb_cells.specs.RtreeFormat.{rtree_node_cell}
use Rattle.rdb_cells.specs.Words.{HasKind}
use Rattle.rdb_cells.specs.Work.{Work, reading}
use Rattle.rdb_cells.proofs.LinkLemmas.{among_either}
use Rattle.rdb_rtree.specs.Changes.{HasPlaces, cells_below, versions_below, AreOthers, IsShrinking, HasShrunk, IsToLower, IsLowered, IsTreeRemoved}
use Rattle.rdb_rtree.specs.Nature.{IsRtreeIndex}
use Rattle.rdb_rtree.specs.RtreeLaws.{all_nodes, nodes_of_all}
use Rattle.rdb_rtree.specs.Trees.{Node, RTree, box, place, versions, entry_of, HasProperBox, IsNodeAt, node_of, Stands, Tree, Empty, Rooted, root_of, versions_of, cells_of, TreeStands, IsRtree, root_entries}
use Rattle.rdb_rtree.specs.declared.entry.Entry.{Entry}
use Rattle.rdb_rtree.proofs.AccountLemmas.{account_within, account_then, reads_same}
use Rattle.rdb_rtree.proofs.ChosenLemmas.{low_level}
use Rattle.rdb_rtree.proofs.CountLemmas.{count, count_cons, count_append, count_same, among_count, count_among, listed_cons, listed_same, numbers_permute, versions_permute}
use Rattle.rdb_rtree.proofs.LookupLemmas.{HasBoxIn, versions_lie}
use Rattle.rdb_rtree.proofs.NodeLemmas.{cell_there}
use Rattle.rdb_rtree.proofs.RootLemmas.{not_head}
use Rattle.rdb_rtree.proofs.SearchLemmas.{each_member}
use Rattle.rdb_rtree.proofs.WholeLemmas.{low_root}

-- the root of a tree from which a version is to go
pub record IsTop (keys : Meaning) (said : Sayings) (w : Work) (head : CellRef) (top : Entry) (level : ℕ) (lost : Entry) (tree : Tree) : Type 0 where
  pub h : ℕ
  pub t : Node (RTree h)
  pub tree_is : tree ≡ Rooted h t
  pub shrinking : IsShrinking keys said (reading w) top level lost h t
  pub leads : reading w head.number ≡ Some (index_head_cell (rooted_head top.at))
  pub low : h ≤ 10

module _ (keys : Meaning) (w : Work) (head : CellRef) (listed_are : List CellRef) (nodes : List ℕ) (is : IsRtreeIndex head.number (says keys (reading w)) (reading w) listed_are nodes) (at : CellRef) (root : root_of is.tree ≡ at)
    (version : CellRef) (within : Contains listed_are version) where
  boxed_of : (tree : Tree) → IsRtree (says keys (reading w)) tree → listed_are ≡ versions_of tree → HasProperBox (says keys (reading w)) version
  boxed_of Empty shape are = absurd (each_member (λ r. ⊥) [] version tt (subst (λ (rs : List CellRef). Contains rs version) are within))
  boxed_of (Rooted h t) shape are = (each_member (HasBoxIn (says keys (reading w)) t.cover) (versions (suc h) t) version (versions_lie (says keys (reading w)) (suc h) (root_entries h) t shape) (subst (λ (rs : List CellRef). Contains rs version) are within)).boxed

  pub listed_boxed : HasProperBox (says keys (reading w)) version
  listed_boxed = boxed_of is.tree is.shape is.listed_is

  cell_of_root : (tree : Tree) → root_of tree ≡ at → TreeStands (reading w) tree → listed_are ≡ versions_of tree → IsCell (reading w) at.number
  cell_of_root Empty same stands are = absurd (each_member (λ r. ⊥) [] version tt (subst (λ (rs : List CellRef). Contains rs version) are within))
  cell_of_root (Rooted h t) same stands are = subst (λ (r : CellRef). IsCell (reading w) r.number) same (cell_there (reading w) t.at.number (rtree_node_cell (node_of h t)) stands.0.here)

  -- the root's cell is there
  pub root_cell : IsCell (reading w) at.number
  root_cell = cell_of_root is.tree root is.stands is.listed_is

  module _ (lost : Entry) (lost_is : lost ≡ entry_of (says keys (reading w)) 0 version) (node : RtreeNode) (read : (n : RtreeNode) → IsNodeAt (reading w) at n → node ≡ n) where
    top_of : (tree : Tree) → root_of tree ≡ at → TreeStands (reading w) tree → IsRtree (says keys (reading w)) tree → reading w head.number ≡ Some (index_head_cell (rooted_head (root_of tree))) → nodes ≡ cells_of tree → listed_are ≡ versions_of tree → IsTop keys (says keys (reading w)) w head (record { at = at; cover = node.cover }) node.level lost tree
    top_of Empty same stands shape leads are listed_is = absurd (each_member (λ r. ⊥) [] version tt (subst (λ (rs : List CellRef). Contains rs version) listed_is within))
    top_of (Rooted h t) same stands shape leads are listed_is =
        let once = subst AreOnce are is.once in
        let own = subst (λ (r : CellRef). IsNodeAt (reading w) r (node_of h t)) same stands.0 in
        let node_is = read (node_of h t) own in
        let many = length-map t.below (box (says keys (reading w)) h) in
        let full = shape.0.enough in
        let version_is : lost.at ≡ version = ap (λ (e : Entry). e.at) lost_is in
        record {
          h = h;
          t = t;
          tree_is = refl;
          shrinking = record {
            keyed = record { tree = record { at_is = same; level_is = ap (λ (n : RtreeNode). n.level) node_is; stands = stands }; says = λ n. refl; shaped = shape.1 };
            cover_is = ap (λ (n : RtreeNode). n.cover) node_is;
            covers = shape.0.covers.covers;
            once = once;
            two = λ high. two_above h high full many;
            boxed = subst (HasProperBox (says keys (reading w))) (sym version_is) listed_boxed;
            lost_is = subst (λ (r : CellRef). lost ≡ entry_of (says keys (reading w)) 0 r) (sym version_is) lost_is;
          };
          leads = leads ∙ ap (λ (r : CellRef). Some (index_head_cell (rooted_head r))) same;
          low = low_root (says keys (reading w)) h t shape once (λ n among. is.paged n (subst (λ (ns : List ℕ). IsAmong ns n) (sym are) among));
        }
      where
        two_above : (k : ℕ) {a b : ℕ} → 0 < k → root_entries k ≤ a → a ≡ b → 2 ≤ b
        two_above zero high enough same = absurd (omega arith)
        two_above (suc k) high enough same = omega arith

    pub top_is : IsTop keys (says keys (reading w)) w head (record { at = at; cover = node.cover }) node.level lost is.tree
    top_is = top_of is.tree root is.stands is.shape is.leads is.nodes_are is.listed_is

-- the version is below the root
pub not_lacking : (listed_are : List CellRef) (version at : CellRef) → at ≡ version → Contains listed_are version → (all : List CellRef) → listed_are ≡ all → AreOthers at all → ⊥
not_lacking listed_are version at same within all are others = each_member (λ (r : CellRef). r.number ≢ at.number) all version others (subst (λ (rs : List CellRef). Contains rs version) are within) (sym (ap (λ (r : CellRef). r.number) same))

pub listed_below : (listed_are : List CellRef) (tree : Tree) (h : ℕ) (t : Node (RTree h)) → tree ≡ Rooted h t → listed_are ≡ versions_of tree → listed_are ≡ versions_below h t.below
listed_below listed_are tree h t same are = are ∙ ap versions_of same

-- what is left after the version went from below the root
module _ (keys : Meaning) (said : Sayings) (w : Work) (head : CellRef) (top : Entry) (level : ℕ) (lost : Entry) (tree : Tree) (r : IsTop keys said w head top level lost tree) where
  pub top_low : level ≤ 10
  top_low = let same = r.shrinking.keyed.tree.level_is in let low = r.low in omega arith

  root_stands : Stands (suc r.h) (reading w) r.t
  root_stands = r.shrinking.keyed.tree.stands

  own_held : HasKind (reading w) kind.RtreeNode r.t.at.number
  own_held = all_nodes (reading w) (suc r.h) r.t r.t.at.number root_stands (inl refl)

  head_kind : HasKind (reading w) kind.IndexHead head.number
  head_kind = (index_head_cell (rooted_head top.at), r.leads, refl)

  head_out : ¬ IsAmong (cells_below r.h r.t.below) head.number
  head_out within = not_head (reading w) head.number head.number (nodes_of_all (reading w) r.h r.t.below head.number root_stands.1 within) head_kind refl

  module _ (mid : Work) (entries : List Entry) (shrunk : HasShrunk said w mid lost.at r.h r.t.below entries) where
    own_same : reading mid r.t.at.number ≡ reading w r.t.at.number
    own_same = reads_same w mid (cells_below r.h r.t.below) [] (2 * r.h) shrunk.account r.t.at.number r.shrinking.once.0 (λ none. none)

    mid_own : HasKind (reading mid) kind.RtreeNode r.t.at.number
    mid_own = (own_held.0, own_same ∙ own_held.1, own_held.2)

    head_mid : reading mid head.number ≡ reading w head.number
    head_mid = reads_same w mid (cells_below r.h r.t.below) [] (2 * r.h) shrunk.account head.number head_out (λ none. none)

    shrunk_count : (n : ℕ) → count n shrunk.gone + count n (cells_below r.h shrunk.now) ≡ count n (cells_below r.h r.t.below)
    shrunk_count n =
        let same = count_same n (shrunk.gone ++ cells_below r.h shrunk.now) (cells_below r.h r.t.below) shrunk.places in
        let both = count_append n shrunk.gone (cells_below r.h shrunk.now) in
        omega arith

    apart : ¬ IsAmong (cells_below r.h shrunk.now) r.t.at.number
    apart within =
        let some = among_count (cells_below r.h shrunk.now) r.t.at.number within in
        let all = shrunk_count r.t.at.number in
        r.shrinking.once.0 (count_among (cells_below r.h r.t.below) r.t.at.number (omega arith))

    pub root_lowers : IsToLower said mid head top.at level r.h shrunk.now entries
    root_lowers =
        let less = shrunk.one_less in
        let no_more = shrunk.no_more in
        let few = root_stands.0.proper.count in
        let long = length-map r.t.below (place r.h) in
        record {
          level_is = r.shrinking.keyed.tree.level_is;
          low = low_level keys said (reading w) top.at level r.h r.t r.shrinking.keyed;
          entries_are = shrunk.entries_are;
          sound = shrunk.sound;
          held = subst (λ (q : CellRef). HasKind (reading mid) kind.RtreeNode q.number) r.shrinking.keyed.tree.at_is mid_own;
          leads = head_mid ∙ r.leads;
          apart = subst (λ (q : CellRef). ¬ IsAmong (cells_below r.h shrunk.now) q.number) r.shrinking.keyed.tree.at_is apart;
          one = λ high. let two = r.shrinking.two high in omega arith;
          fit = omega arith;
        }

    pub root_room : HasPlaces w 24 → HasPlaces mid 2
    root_room room =
        let places = shrunk.account.places in
        let as_before = shrunk.account.goes_on.room in
        let low = r.low in
        omega arith

    module _ (after : Work) (lowered : IsLowered said mid after head r.t.at r.h shrunk.now) where
      gone_still : (n : ℕ) → IsAmong shrunk.gone n → reading after n ≡ Some zero_cell
      gone_still n within =
          let some = among_count shrunk.gone n within in
          let all = shrunk_count n in
          let there : IsAmong (cells_below r.h r.t.below) n = count_among (cells_below r.h r.t.below) n (omega arith) in
          let has = nodes_of_all (reading w) r.h r.t.below n root_stands.1 there in
          reads_same mid after (head.number ∷ r.t.at.number ∷ []) [] 2 lowered.account n
          (λ own. elim own [
            | inl same ↦ not_head (reading w) n head.number has head_kind (sym same)
            | inr later ↦ elim later [
              | inl same ↦ r.shrinking.once.0 (subst (IsAmong (cells_below r.h r.t.below)) (sym same) there)
              | inr none ↦ none
            ]
          ])
          (λ none. none)
          ∙ shrunk.zero n within

      removed_rooted : IsTreeRemoved said w after lost.at head.number (Rooted r.h r.t)
      removed_rooted =
          let low = r.low in
          record {
            gone = shrunk.gone ++ lowered.gone;
            now = lowered.now;
            changed = record {
              leads = lowered.leads;
              stands = lowered.stands;
              shape = lowered.shape;
              places = numbers_permute (r.t.at.number ∷ cells_below r.h r.t.below) ((shrunk.gone ++ lowered.gone) ++ cells_of lowered.now) (λ n.
                  let outer = count_append n (shrunk.gone ++ lowered.gone) (cells_of lowered.now) in
                  let inner = count_append n shrunk.gone lowered.gone in
                  let all = shrunk_count n in
                  let same = count_same n (lowered.gone ++ cells_of lowered.now) (r.t.at.number ∷ cells_below r.h shrunk.now) lowered.places in
                  let parts = count_append n lowered.gone (cells_of lowered.now) in
                  let first = count_cons n r.t.at.number (cells_below r.h shrunk.now) in
                  let was = count_cons n r.t.at.number (cells_below r.h r.t.below) in
                  omega arith);
              zero = λ n within. elim (among_either shrunk.gone lowered.gone n within) [
                | inl early ↦ gone_still n early
                | inr late ↦ lowered.zero n late
              ];
              account = account_within w after (head.number ∷ (r.t.at.number ∷ cells_below r.h r.t.below)) (head.number ∷ (r.t.at.number ∷ cells_below r.h r.t.below)) [] (2 * r.h + 2) 24
                  (account_then w mid after (cells_below r.h r.t.below) (head.number ∷ r.t.at.number ∷ []) (head.number ∷ (r.t.at.number ∷ cells_below r.h r.t.below)) [] [] (2 * r.h) 2 shrunk.account lowered.account
                  (λ n within. inr (inr within))
                  (λ n within. inl (elim within [
                    | inl same ↦ inl same
                    | inr later ↦ elim later [ inl same ↦ inr (inl same) | inr none ↦ absurd none ]
                  ])))
                  (omega arith) (λ n within. within);
            };
            list = versions_permute (lost.at ∷ versions_of lowered.now) (versions_below r.h r.t.below) (λ k.
                let first = listed_cons k lost.at (versions_of lowered.now) in
                let went = listed_same k (lost.at ∷ versions_below r.h shrunk.now) (versions_below r.h r.t.below) shrunk.list in
                let went_first = listed_cons k lost.at (versions_below r.h shrunk.now) in
                let written = listed_same k (versions_below r.h shrunk.now) (versions_of lowered.now) lowered.list in
                omega arith);
          }

    pub removed_whole : (version : CellRef) → lost.at ≡ version → (after : Work) → IsLowered said mid after head top.at r.h shrunk.now → IsTreeRemoved said w after version head.number tree
    removed_whole version same after lowered =
        subst (λ (s : Tree). IsTreeRemoved said w after version head.number s) (sym r.tree_is)
        (subst (λ (v : CellRef). IsTreeRemoved said w after v head.number (Rooted r.h r.t)) same
        (removed_rooted after (subst (λ (q : CellRef). IsLowered said mid after head q r.h shrunk.now) (sym r.shrinking.keyed.tree.at_is) lowered)))
