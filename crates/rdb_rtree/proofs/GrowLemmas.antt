-- A version that comes below a node: into a leaf, or into the tree that was chosen among those below.
use Rattle.std.proofs.Common.{◌≡◌, ◌≤◌, ◌<◌, ◌+◌, ◌-◌, ◌*◌, ◌^◌, ◌++◌, zero, suc, ℕ, List, [], ◌∷◌, length, length-append, inl, refl, sym, ap, subst, ◌∙◌, arith}
use Rattle.std.proofs.lemmas.List.{length-map}
use Rattle.rdb_pages.specs.declared.cell.CellRef.{CellRef}
use Rattle.rdb_cells.specs.declared.kind.Kind.TheVariants as kind
use Rattle.rdb_cells.specs.Keys.{Meaning, Sayings}
use Rattle.rdb_cells.specs.Links.{IsAmong, AreOnce}
use Rattle.rdb_cells.specs.Words.{HasKind}
use Rattle.rdb_cells.specs.Work.{Work, reading, HasLeft}
use Rattle.rdb_cells.proofs.IndexLemmas.{fewer_than}
use Rattle.rdb_cells.proofs.WorkLemmas.{one_left}
use Rattle.rdb_rtree.specs.Boxes.{Each}
use Rattle.rdb_rtree.specs.Changes.{CanTake, HasPlaces, cells_below, versions_below, entries_above, IsToSettle, AreSettled, IsGrowing, HasGrown}
use Rattle.rdb_rtree.specs.RtreeLaws.{all_nodes, nodes_of_all, all_stand_still}
use Rattle.rdb_rtree.specs.Trees.{Node, RTree, box, entry_of, Stands, IsShaped, least_entries}
use Rattle.rdb_rtree.specs.declared.entry.Entry.{Entry}
use Rattle.rdb_rtree.proofs.AccountLemmas.{account_first, account_within, account_then, node_spent, reads_same}
use Rattle.rdb_rtree.proofs.CountLemmas.{count, count_cons, count_append, count_same, out_count, among_count, count_among, once_count, count_once, listed, listed_cons, listed_append, listed_same, numbers_permute, versions_permute}
use Rattle.rdb_rtree.proofs.ListLemmas.{each_both, each_front, each_back, map_both}
use Rattle.rdb_rtree.proofs.WrittenLemmas.{count_both, listed_both}

-- into a leaf
pub grown_leaf : (keys : Meaning) (said : Sayings) (w : Work) (at : CellRef) (level : ℕ) (entry : Entry) (h : ℕ) (t : Node (RTree h)) → IsGrowing keys said (reading w) at level entry h t → level ≡ 0 → (was now : List Entry) → was ≡ entries_above said h t.below → now ≡ was ++ entry ∷ [] → HasGrown said w w entry.at h t.below now
grown_leaf keys said w at level entry (suc h) t is leaf was now are pushed_is = absurd (let same = is.keyed.tree.level_is in omega arith)
grown_leaf keys said w at level entry zero t is leaf was now are pushed_is = record {
  fresh = [];
  now = t.below ++ entry.at ∷ [];
  entries_are =
      pushed_is
      ∙ (λ i. are i ++ is.entry_is i ∷ [])
      ∙ sym (map_both (entry_of said 0) t.below (entry.at ∷ []));
  sound = record {
    stand = each_both (Stands 0 (reading w)) t.below (entry.at ∷ []) is.keyed.tree.stands.1 (tt, tt);
    shaped = each_both (IsShaped said 0 least_entries) t.below (entry.at ∷ []) is.keyed.shaped (is.boxed, tt);
  };
  list = versions_permute (entry.at ∷ versions_below 0 t.below) (versions_below 0 (t.below ++ entry.at ∷ [])) (λ k.
      let both = listed_both 0 k t.below (entry.at ∷ []) in
      let first = listed_cons k entry.at (versions_below 0 t.below) in
      let last = listed_cons k entry.at [] in
      omega arith);
  places = numbers_permute (cells_below 0 t.below) (cells_below 0 (t.below ++ entry.at ∷ [])) (λ n. let both = count_both 0 n t.below (entry.at ∷ []) in omega arith);
  no_fewer = (let long = length-append t.below (entry.at ∷ []) in omega arith);
  one_more = (let long = length-append t.below (entry.at ∷ []) in omega arith);
  account = account_first w (cells_below 0 t.below);
  few = omega arith;
}

-- the tree that was chosen among those below a node
pub record IsChosen (keys : Meaning) (said : Sayings) (w : Work) (at : CellRef) (level : ℕ) (entry : Entry) (h : ℕ) (t : Node (RTree h)) (chosen : Entry) (rest : List Entry) : Type 0 where
  pub k : ℕ
  pub high : h ≡ suc k
  pub child : Node (RTree k)
  pub growing : IsGrowing keys said (reading w) chosen.at (level - 1) entry k child

-- a tree below a node above nodes
module _ (keys : Meaning) (said : Sayings) (w : Work) (at : CellRef) (level : ℕ) (entry : Entry) (k : ℕ) (t : Node (RTree (suc k))) (is : IsGrowing keys said (reading w) at level entry (suc k) t)
    (front back : List (RTree (suc k))) (child : Node (RTree k)) (split : t.below ≡ front ++ child ∷ back) where
  stands : Each (Stands (suc k) (reading w)) (front ++ child ∷ back)
  stands = subst (Each (Stands (suc k) (reading w))) split is.keyed.tree.stands.1

  shapes : Each (IsShaped said (suc k) least_entries) (front ++ child ∷ back)
  shapes = subst (Each (IsShaped said (suc k) least_entries)) split is.keyed.shaped

  own_stands : Stands (suc k) (reading w) child
  own_stands = (each_back (Stands (suc k) (reading w)) front (child ∷ back) stands).0

  own_shape : IsShaped said (suc k) least_entries child
  own_shape = (each_back (IsShaped said (suc k) least_entries) front (child ∷ back) shapes).0

  -- how often a cell is one of the node's trees
  pub counted : (n : ℕ) → count n (cells_below (suc k) t.below) ≡ count n (cells_below (suc k) front) + (count n (child.at.number ∷ cells_below k child.below) + count n (cells_below (suc k) back))
  counted n =
      let same = ap (λ (ts : List (RTree (suc k))). count n (cells_below (suc k) ts)) split in
      let both = count_both (suc k) n front (child ∷ back) in
      let own = count_append n (child.at.number ∷ cells_below k child.below) (cells_below (suc k) back) in
      omega arith

  pub all_once : (n : ℕ) → count n (t.at.number ∷ cells_below (suc k) t.below) ≤ 1
  all_once n = once_count (t.at.number ∷ cells_below (suc k) t.below) n is.once

  pub below_once : (n : ℕ) → count n (cells_below (suc k) t.below) ≤ 1
  below_once n =
      let all = all_once n in
      let first = count_cons n t.at.number (cells_below (suc k) t.below) in
      omega arith

  child_once : AreOnce (child.at.number ∷ cells_below k child.below)
  child_once = count_once (child.at.number ∷ cells_below k child.below) (λ n. let all = below_once n in let parts = counted n in omega arith)

  many : 4 ≤ length child.below
  many = let enough = own_shape.0.enough in let same = length-map child.below (box said k) in omega arith

  pub child_growing : (chosen : Entry) → chosen ≡ entry_of said (suc k) child → IsGrowing keys said (reading w) chosen.at (level - 1) entry k child
  child_growing chosen chosen_is = record {
    keyed = record {
      tree = record { at_is = sym (ap (λ (e : Entry). e.at) chosen_is); level_is = (let same = is.keyed.tree.level_is in omega arith); stands = own_stands };
      says = is.keyed.says;
      shaped = own_shape.1;
    };
    once = child_once;
    some = (let four = many in omega arith);
    boxed = is.boxed;
    entry_is = is.entry_is;
  }

  -- what the version's coming below the tree leaves
  module _ (mid : Work) (entries : List Entry) (grown : HasGrown said w mid entry.at k child.below entries) where
    node_held : HasKind (reading w) kind.RtreeNode child.at.number
    node_held = all_nodes (reading w) (suc k) child child.at.number own_stands (inl refl)

    not_below : ¬ IsAmong (cells_below k child.below) child.at.number
    not_below within = child_once.0 within

    -- no node of before was free
    pub not_fresh : (n : ℕ) → HasKind (reading w) kind.RtreeNode n → ¬ IsAmong grown.fresh n
    not_fresh n has within = node_spent w n has (grown.account.left n within)

    own_same : reading mid child.at.number ≡ reading w child.at.number
    own_same = reads_same w mid (cells_below k child.below) grown.fresh (2 * k) grown.account child.at.number not_below (not_fresh child.at.number node_held)

    mid_held : HasKind (reading mid) kind.RtreeNode child.at.number
    mid_held = (node_held.0, own_same ∙ node_held.1, node_held.2)

    apart : ¬ IsAmong (cells_below k grown.now) child.at.number
    apart within =
        let some = among_count (cells_below k grown.now) child.at.number within in
        let same = count_same child.at.number (grown.fresh ++ cells_below k child.below) (cells_below k grown.now) grown.places in
        let both = count_append child.at.number grown.fresh (cells_below k child.below) in
        let first = out_count grown.fresh child.at.number (not_fresh child.at.number node_held) in
        let second = out_count (cells_below k child.below) child.at.number not_below in
        absurd (omega arith)

    pub child_settles : level < 2 ^ 16 → IsToSettle said mid child.at (level - 1) k grown.now entries
    child_settles low = record {
      level_is = (let same = is.keyed.tree.level_is in omega arith);
      low = omega arith;
      entries_are = grown.entries_are;
      sound = grown.sound;
      held = mid_held;
      apart = apart;
      some = (let more = grown.no_fewer in let four = many in omega arith);
    }

    pub mid_places : (count : ℕ) → HasPlaces w (2 * level) → HasPlaces mid 2
    mid_places count room =
        let same = is.keyed.tree.level_is in
        let places = grown.account.places in
        let as_before = grown.account.goes_on.room in
        omega arith

    pub mid_take : HasLeft w level → CanTake mid
    mid_take left =
        let same = is.keyed.tree.level_is in
        let few = grown.few in
        one_left mid (grown.account.most.enough 1 (fewer_than w (1 + length grown.fresh) level (omega arith) left))

    -- and then the writing of its node
    module _ (after : Work) (rest now : List Entry) (rest_is : rest ≡ entries_above said (suc k) (front ++ back)) (settled : AreSettled said mid after child.at k grown.now rest now) where
      new : List (RTree (suc k))
      new = settled.node ∷ settled.others

      fresh_then : (n : ℕ) → HasKind (reading w) kind.RtreeNode n → ¬ IsAmong settled.fresh n
      fresh_then n has within = node_spent w n has ((grown.account.lowest.left n).0 (settled.account.left n within)).0

      -- the trees beside it stand as before
      beside : (n : ℕ) → IsAmong (cells_below (suc k) (front ++ back)) n → reading after n ≡ reading w n
      beside n within =
          let some = among_count (cells_below (suc k) (front ++ back)) n within in
          let both = count_both (suc k) n front back in
          let parts = counted n in
          let once = below_once n in
          let own = count_cons n child.at.number (cells_below k child.below) in
          let there : IsAmong (cells_below (suc k) t.below) n = count_among (cells_below (suc k) t.below) n (omega arith) in
          let has = nodes_of_all (reading w) (suc k) t.below n is.keyed.tree.stands.1 there in
          reads_same mid after (child.at.number ∷ []) settled.fresh 2 settled.account n
          (λ own_n. let one = among_count (child.at.number ∷ []) n own_n in let single = count_cons n child.at.number [] in absurd (omega arith))
          (fresh_then n has)
          ∙ reads_same w mid (cells_below k child.below) grown.fresh (2 * k) grown.account n
          (λ own_n. let one = among_count (cells_below k child.below) n own_n in absurd (omega arith))
          (not_fresh n has)

      in_child : (n : ℕ) → IsAmong (cells_below k child.below) n → IsAmong (cells_below (suc k) t.below) n
      in_child n within =
          let one = among_count (cells_below k child.below) n within in
          let parts = counted n in
          let own = count_cons n child.at.number (cells_below k child.below) in
          count_among (cells_below (suc k) t.below) n (omega arith)

      is_child : (n : ℕ) → IsAmong (child.at.number ∷ []) n → IsAmong (cells_below (suc k) t.below) n
      is_child n within =
          let one = among_count (child.at.number ∷ []) n within in
          let single = count_cons n child.at.number [] in
          let parts = counted n in
          let own = count_cons n child.at.number (cells_below k child.below) in
          count_among (cells_below (suc k) t.below) n (omega arith)

      pub grown_inner : HasGrown said w after entry.at (suc k) t.below now
      unfolding new
      grown_inner =
          let long_split = length-append front (child ∷ back) in
          let same_long = ap (length {A = RTree (suc k)}) split in
          let long_rest = length-append front back in
          let long_now = length-append (front ++ back) new in
          let two = settled.two in
          let few_one = grown.few in
          let few_two = settled.few in
          let fresh_long = length-append grown.fresh settled.fresh in
          let same_level = is.keyed.tree.level_is in
          let four = many in
          let more = grown.no_fewer in
          record {
            fresh = grown.fresh ++ settled.fresh;
            now = (front ++ back) ++ new;
            entries_are =
                settled.entries
                ∙ ap (λ (es : List Entry). es ++ entries_above said (suc k) new) rest_is
                ∙ sym (map_both (entry_of said (suc k)) (front ++ back) new);
            sound = record {
              stand = each_both (Stands (suc k) (reading after)) (front ++ back) new
                  (all_stand_still (reading w) (reading after) (suc k) (front ++ back) beside
                  (each_both (Stands (suc k) (reading w)) front back (each_front (Stands (suc k) (reading w)) front (child ∷ back) stands) (each_back (Stands (suc k) (reading w)) front (child ∷ back) stands).1))
                  settled.stand;
              shaped = each_both (IsShaped said (suc k) least_entries) (front ++ back) new
                  (each_both (IsShaped said (suc k) least_entries) front back (each_front (IsShaped said (suc k) least_entries) front (child ∷ back) shapes) (each_back (IsShaped said (suc k) least_entries) front (child ∷ back) shapes).1)
                  (settled.shaped 4 (omega arith) (omega arith));
            };
            list = versions_permute (entry.at ∷ versions_below (suc k) t.below) (versions_below (suc k) ((front ++ back) ++ new)) (λ q.
                let first = listed_cons q entry.at (versions_below (suc k) t.below) in
                let same = ap (λ (ts : List (RTree (suc k))). listed q (versions_below (suc k) ts)) split in
                let parts = listed_both (suc k) q front (child ∷ back) in
                let own = listed_append q (versions_below k child.below) (versions_below (suc k) back) in
                let whole = listed_both (suc k) q (front ++ back) new in
                let others = listed_both (suc k) q front back in
                let came = listed_same q (entry.at ∷ versions_below k child.below) (versions_below k grown.now) grown.list in
                let came_first = listed_cons q entry.at (versions_below k child.below) in
                let written = listed_same q (versions_below k grown.now) (versions_below (suc k) new) settled.list in
                omega arith);
            places = numbers_permute ((grown.fresh ++ settled.fresh) ++ cells_below (suc k) t.below) (cells_below (suc k) ((front ++ back) ++ new)) (λ n.
                let outer = count_append n (grown.fresh ++ settled.fresh) (cells_below (suc k) t.below) in
                let inner = count_append n grown.fresh settled.fresh in
                let parts = counted n in
                let own = count_cons n child.at.number (cells_below k child.below) in
                let whole = count_both (suc k) n (front ++ back) new in
                let others = count_both (suc k) n front back in
                let came = count_same n (grown.fresh ++ cells_below k child.below) (cells_below k grown.now) grown.places in
                let came_parts = count_append n grown.fresh (cells_below k child.below) in
                let written = count_same n (child.at.number ∷ (settled.fresh ++ cells_below k grown.now)) (cells_below (suc k) new) settled.places in
                let written_first = count_cons n child.at.number (settled.fresh ++ cells_below k grown.now) in
                let written_parts = count_append n settled.fresh (cells_below k grown.now) in
                omega arith);
            no_fewer = omega arith;
            one_more = omega arith;
            account = account_within w after (cells_below (suc k) t.below) (cells_below (suc k) t.below) (grown.fresh ++ settled.fresh) (2 * k + 2) (2 * suc k)
                (account_then w mid after (cells_below k child.below) (child.at.number ∷ []) (cells_below (suc k) t.below) grown.fresh settled.fresh (2 * k) 2 grown.account settled.account in_child (λ n within. inl (is_child n within)))
                (omega arith) (λ n within. within);
            few = omega arith;
          }
