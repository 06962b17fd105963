-- A version that goes from below a node: out of a leaf, or out of the tree that was found among those below.
use Rattle.std.proofs.Common.{◌≡◌, ◌≤◌, ◌+◌, ◌-◌, ◌*◌, ◌++◌, zero, suc, ℕ, List, [], ◌∷◌, length, length-append, Some, inl, inr, refl, sym, ap, subst, ◌∙◌, arith}
use Rattle.std.proofs.lemmas.List.{length-map}
use Rattle.rdb_pages.specs.declared.cell.CellRef.{CellRef}
use Rattle.rdb_pages.specs.Pages.{zero_cell}
use Rattle.rdb_cells.specs.declared.kind.Kind.TheVariants as kind
use Rattle.rdb_cells.specs.Keys.{Meaning, Sayings, RestsOnVersions}
use Rattle.rdb_cells.specs.Links.{IsAmong, AreOnce}
use Rattle.rdb_cells.specs.Words.{HasKind}
use Rattle.rdb_cells.specs.Work.{Work, reading}
use Rattle.rdb_cells.proofs.LinkLemmas.{among_either}
use Rattle.rdb_rtree.specs.Boxes.{Each}
use Rattle.rdb_rtree.specs.Changes.{HasPlaces, cells_below, versions_below, entries_above, IsShrinking, HasShrunk, IsToMend, IsMended, IsWithout}
use Rattle.rdb_rtree.specs.RtreeLaws.{all_nodes, all_stand_still}
use Rattle.rdb_rtree.specs.Trees.{Node, RTree, box, place, entry_of, Stands, IsShaped, least_entries}
use Rattle.rdb_rtree.specs.declared.entry.Entry.{Entry}
use Rattle.rdb_rtree.proofs.AccountLemmas.{account_first, account_within, account_then, reads_same}
use Rattle.rdb_rtree.proofs.ChosenLemmas.{pick}
use Rattle.rdb_rtree.proofs.CountLemmas.{count, count_cons, count_append, count_same, among_count, count_among, once_count, count_once, listed, listed_cons, listed_append, listed_same, numbers_permute, versions_permute}
use Rattle.rdb_rtree.proofs.ListLemmas.{each_both, each_front, each_back}
use Rattle.rdb_rtree.proofs.WrittenLemmas.{count_both, listed_both}

-- out of a leaf
pub shrunk_leaf : (keys : Meaning) (said : Sayings) (w : Work) (node : Entry) (level : ℕ) (lost : Entry) (h : ℕ) (t : Node (RTree h)) → IsShrinking keys said (reading w) node level lost h t → level ≡ 0 → (was now : List Entry) → was ≡ entries_above said h t.below → IsWithout was lost.at now → HasShrunk said w w lost.at h t.below now
shrunk_leaf keys said w node level lost (suc h) t is leaf was now are gone = absurd (let same = is.keyed.tree.level_is in omega arith)
shrunk_leaf keys said w node level lost zero t is leaf was now are gone =
    let p = pick said 0 t.below was now gone.place gone.lost gone.here gone.lost_is gone.rest are in
    let one_is : p.one ≡ lost.at = sym (ap (λ (e : Entry). e.at) p.chosen_is) ∙ gone.at_is in
    let number_is = ap (λ (r : CellRef). r.number) one_is in
    let split_long = ap (length {A = CellRef}) p.split in
    let was_long = length-append p.front (p.one ∷ p.back) in
    let now_long = length-append p.front p.back in
    let stand = subst (Each (Stands 0 (reading w))) p.split is.keyed.tree.stands.1 in
    let shaped = subst (Each (IsShaped said 0 least_entries)) p.split is.keyed.shaped in
    record {
      gone = [];
      now = p.front ++ p.back;
      entries_are = p.rest_are;
      sound = record {
        stand = each_both (Stands 0 (reading w)) p.front p.back (each_front (Stands 0 (reading w)) p.front (p.one ∷ p.back) stand) (each_back (Stands 0 (reading w)) p.front (p.one ∷ p.back) stand).1;
        shaped = each_both (IsShaped said 0 least_entries) p.front p.back (each_front (IsShaped said 0 least_entries) p.front (p.one ∷ p.back) shaped) (each_back (IsShaped said 0 least_entries) p.front (p.one ∷ p.back) shaped).1;
      };
      list = versions_permute (lost.at ∷ versions_below 0 (p.front ++ p.back)) (versions_below 0 t.below) (λ k.
          let same = ap (λ (ts : List (RTree 0)). listed k (versions_below 0 ts)) p.split in
          let parts = listed_both 0 k p.front (p.one ∷ p.back) in
          let one = listed_cons k p.one (versions_below 0 p.back) in
          let both = listed_both 0 k p.front p.back in
          let first = listed_cons k lost.at (versions_below 0 (p.front ++ p.back)) in
          let here = ap (λ (r : CellRef). listed k (r ∷ [])) one_is in
          let alone = listed_cons k p.one [] in
          let also = listed_cons k lost.at [] in
          omega arith);
      places = numbers_permute (cells_below 0 (p.front ++ p.back)) (cells_below 0 t.below) (λ n.
          let same = ap (λ (ts : List (RTree 0)). count n (cells_below 0 ts)) p.split in
          let parts = count_both 0 n p.front (p.one ∷ p.back) in
          let both = count_both 0 n p.front p.back in
          omega arith);
      zero = λ n none. absurd none;
      one_less = omega arith;
      no_more = omega arith;
      account = account_first w (cells_below 0 t.below);
    }

-- a tree below a node above nodes
module _ (keys : Meaning) (said : Sayings) (w : Work) (node : Entry) (level : ℕ) (lost : Entry) (k : ℕ) (t : Node (RTree (suc k))) (is : IsShrinking keys said (reading w) node level lost (suc k) t)
    (front back : List (RTree (suc k))) (child : Node (RTree k)) (split : t.below ≡ front ++ child ∷ back) where
  stands : Each (Stands (suc k) (reading w)) (front ++ child ∷ back)
  stands = subst (Each (Stands (suc k) (reading w))) split is.keyed.tree.stands.1

  shapes : Each (IsShaped said (suc k) least_entries) (front ++ child ∷ back)
  shapes = subst (Each (IsShaped said (suc k) least_entries)) split is.keyed.shaped

  own_stands : Stands (suc k) (reading w) child
  own_stands = (each_back (Stands (suc k) (reading w)) front (child ∷ back) stands).0

  own_shape : IsShaped said (suc k) least_entries child
  own_shape = (each_back (IsShaped said (suc k) least_entries) front (child ∷ back) shapes).0

  -- how often a cell is one of the node's trees
  counted : (n : ℕ) → count n (cells_below (suc k) t.below) ≡ count n (cells_below (suc k) (front ++ back)) + count n (child.at.number ∷ cells_below k child.below)
  counted n =
      let same = ap (λ (ts : List (RTree (suc k))). count n (cells_below (suc k) ts)) split in
      let both = count_both (suc k) n front (child ∷ back) in
      let rest = count_both (suc k) n front back in
      let own = count_append n (child.at.number ∷ cells_below k child.below) (cells_below (suc k) back) in
      omega arith

  below_once : (n : ℕ) → count n (cells_below (suc k) t.below) ≤ 1
  below_once n =
      let all = once_count (t.at.number ∷ cells_below (suc k) t.below) n is.once in
      let first = count_cons n t.at.number (cells_below (suc k) t.below) in
      omega arith

  child_once : AreOnce (child.at.number ∷ cells_below k child.below)
  child_once = count_once (child.at.number ∷ cells_below k child.below) (λ n. let all = below_once n in let parts = counted n in omega arith)

  many : 4 ≤ length child.below
  many = let enough = own_shape.0.enough in let same = length-map child.below (box said k) in omega arith

  pub child_shrinking : (chosen : Entry) → chosen ≡ entry_of said (suc k) child → IsShrinking keys said (reading w) chosen (level - 1) lost k child
  child_shrinking chosen chosen_is = record {
    keyed = record {
      tree = record { at_is = sym (ap (λ (e : Entry). e.at) chosen_is); level_is = (let same = is.keyed.tree.level_is in omega arith); stands = own_stands };
      says = is.keyed.says;
      shaped = own_shape.1;
    };
    cover_is = ap (λ (e : Entry). e.cover) chosen_is;
    covers = own_shape.0.covers.covers;
    once = child_once;
    two = λ high. let four = many in omega arith;
    boxed = is.boxed;
    lost_is = is.lost_is;
  }

  -- what the version's going from below the tree leaves
  module _ (mid : Work) (left : List Entry) (shrunk : HasShrunk said w mid lost.at k child.below left) where
    node_held : HasKind (reading w) kind.RtreeNode child.at.number
    node_held = all_nodes (reading w) (suc k) child child.at.number own_stands (inl refl)

    own_same : reading mid child.at.number ≡ reading w child.at.number
    own_same = reads_same w mid (cells_below k child.below) [] (2 * k) shrunk.account child.at.number (λ within. child_once.0 within) (λ none. none)

    mid_held : HasKind (reading mid) kind.RtreeNode child.at.number
    mid_held = (node_held.0, own_same ∙ node_held.1, node_held.2)

    -- the trees beside it stand as before
    beside : (n : ℕ) → IsAmong (cells_below (suc k) (front ++ back)) n → reading mid n ≡ reading w n
    beside n within =
        let some = among_count (cells_below (suc k) (front ++ back)) n within in
        let parts = counted n in
        let once = below_once n in
        let own = count_cons n child.at.number (cells_below k child.below) in
        reads_same w mid (cells_below k child.below) [] (2 * k) shrunk.account n
        (λ own_n. let one = among_count (cells_below k child.below) n own_n in absurd (omega arith)) (λ none. none)

    -- which cells its trees have now
    shrunk_count : (n : ℕ) → count n shrunk.gone + count n (cells_below k shrunk.now) ≡ count n (cells_below k child.below)
    shrunk_count n =
        let same = count_same n (shrunk.gone ++ cells_below k shrunk.now) (cells_below k child.below) shrunk.places in
        let both = count_append n shrunk.gone (cells_below k shrunk.now) in
        omega arith

    mid_once : AreOnce (child.at.number ∷ (cells_below k shrunk.now ++ cells_below (suc k) (front ++ back)))
    mid_once = count_once (child.at.number ∷ (cells_below k shrunk.now ++ cells_below (suc k) (front ++ back))) (λ n.
        let first = count_cons n child.at.number (cells_below k shrunk.now ++ cells_below (suc k) (front ++ back)) in
        let both = count_append n (cells_below k shrunk.now) (cells_below (suc k) (front ++ back)) in
        let parts = counted n in
        let once = below_once n in
        let own = count_cons n child.at.number (cells_below k child.below) in
        let now = shrunk_count n in
        omega arith)

    pub child_mends : RestsOnVersions keys → (chosen : Entry) → chosen ≡ entry_of said (suc k) child → (rest : List Entry) → rest ≡ entries_above said (suc k) (front ++ back) → IsToMend keys said mid chosen.at (level - 1) k shrunk.now (front ++ back) left rest
    child_mends rests chosen chosen_is rest rest_is =
        let four = many in
        let less = shrunk.one_less in
        let no_more = shrunk.no_more in
        let few = own_stands.0.proper.count in
        let few_long = length-map child.below (place k) in
        let all_few = is.keyed.tree.stands.0.proper.count in
        let all_long = length-map t.below (place (suc k)) in
        let two = is.two (omega arith) in
        let split_long = ap (length {A = RTree (suc k)}) split in
        let was_long = length-append front (child ∷ back) in
        let rest_long = length-append front back in
        subst (λ (r : CellRef). IsToMend keys said mid r (level - 1) k shrunk.now (front ++ back) left rest) (sym (ap (λ (e : Entry). e.at) chosen_is)) (record {
          says = λ n. is.keyed.says n ∙ rests (reading w) (reading mid) shrunk.account.versions n;
          level_is = (let same = is.keyed.tree.level_is in omega arith);
          low = (let same = is.keyed.tree.level_is in let low = is.keyed.tree.stands.0.proper.level in omega arith);
          own_are = shrunk.entries_are;
          others_are = rest_is;
          sound = shrunk.sound;
          sound_beside = record {
            stand = all_stand_still (reading w) (reading mid) (suc k) (front ++ back) beside
                (each_both (Stands (suc k) (reading w)) front back (each_front (Stands (suc k) (reading w)) front (child ∷ back) stands) (each_back (Stands (suc k) (reading w)) front (child ∷ back) stands).1);
            shaped = each_both (IsShaped said (suc k) least_entries) front back (each_front (IsShaped said (suc k) least_entries) front (child ∷ back) shapes) (each_back (IsShaped said (suc k) least_entries) front (child ∷ back) shapes).1;
          };
          held = mid_held;
          once = mid_once;
          three = omega arith;
          fit = omega arith;
          one = omega arith;
          room = omega arith;
        })

    pub mid_room : HasPlaces w (2 * level) → HasPlaces mid 2
    mid_room room =
        let same = is.keyed.tree.level_is in
        let places = shrunk.account.places in
        let as_before = shrunk.account.goes_on.room in
        omega arith

    -- and then the writing of its node
    module _ (after : Work) (now : List Entry) (mended : IsMended said mid after child.at k shrunk.now (front ++ back) now) where
      in_child : (n : ℕ) → IsAmong (cells_below k child.below) n → IsAmong (cells_below (suc k) t.below) n
      in_child n within =
          let one = among_count (cells_below k child.below) n within in
          let parts = counted n in
          let own = count_cons n child.at.number (cells_below k child.below) in
          count_among (cells_below (suc k) t.below) n (omega arith)

      in_others : (n : ℕ) → IsAmong (child.at.number ∷ cells_below (suc k) (front ++ back)) n → IsAmong (cells_below (suc k) t.below) n
      in_others n within =
          let one = among_count (child.at.number ∷ cells_below (suc k) (front ++ back)) n within in
          let first = count_cons n child.at.number (cells_below (suc k) (front ++ back)) in
          let parts = counted n in
          let own = count_cons n child.at.number (cells_below k child.below) in
          count_among (cells_below (suc k) t.below) n (omega arith)

      -- what went from below the tree wasn't written again
      gone_still : (n : ℕ) → IsAmong shrunk.gone n → reading after n ≡ Some zero_cell
      gone_still n within =
          let some = among_count shrunk.gone n within in
          let now_count = shrunk_count n in
          let parts = counted n in
          let once = below_once n in
          let own = count_cons n child.at.number (cells_below k child.below) in
          reads_same mid after (child.at.number ∷ cells_below (suc k) (front ++ back)) [] 2 mended.account n
          (λ other.
          let one = among_count (child.at.number ∷ cells_below (suc k) (front ++ back)) n other in
          let first = count_cons n child.at.number (cells_below (suc k) (front ++ back)) in
          absurd (omega arith))
          (λ none. none)
          ∙ shrunk.zero n within

      pub shrunk_inner : HasShrunk said w after lost.at (suc k) t.below now
      shrunk_inner =
          let long_split = length-append front (child ∷ back) in
          let same_long = ap (length {A = RTree (suc k)}) split in
          let long_rest = length-append front back in
          let no_fewer = mended.no_fewer in
          let one_more = mended.one_more in
          record {
            gone = shrunk.gone ++ mended.gone;
            now = mended.now;
            entries_are = mended.entries_are;
            sound = mended.sound;
            list = versions_permute (lost.at ∷ versions_below (suc k) mended.now) (versions_below (suc k) t.below) (λ q.
                let first = listed_cons q lost.at (versions_below (suc k) mended.now) in
                let same = ap (λ (ts : List (RTree (suc k))). listed q (versions_below (suc k) ts)) split in
                let parts = listed_both (suc k) q front (child ∷ back) in
                let own = listed_append q (versions_below k child.below) (versions_below (suc k) back) in
                let others = listed_both (suc k) q front back in
                let went = listed_same q (lost.at ∷ versions_below k shrunk.now) (versions_below k child.below) shrunk.list in
                let went_first = listed_cons q lost.at (versions_below k shrunk.now) in
                let written = listed_same q (versions_below k shrunk.now ++ versions_below (suc k) (front ++ back)) (versions_below (suc k) mended.now) mended.list in
                let written_parts = listed_append q (versions_below k shrunk.now) (versions_below (suc k) (front ++ back)) in
                omega arith);
            places = numbers_permute ((shrunk.gone ++ mended.gone) ++ cells_below (suc k) mended.now) (cells_below (suc k) t.below) (λ n.
                let outer = count_append n (shrunk.gone ++ mended.gone) (cells_below (suc k) mended.now) in
                let inner = count_append n shrunk.gone mended.gone in
                let parts = counted n in
                let own = count_cons n child.at.number (cells_below k child.below) in
                let went = shrunk_count n in
                let written = count_same n (mended.gone ++ cells_below (suc k) mended.now) (child.at.number ∷ (cells_below k shrunk.now ++ cells_below (suc k) (front ++ back))) mended.places in
                let written_now = count_append n mended.gone (cells_below (suc k) mended.now) in
                let written_first = count_cons n child.at.number (cells_below k shrunk.now ++ cells_below (suc k) (front ++ back)) in
                let written_parts = count_append n (cells_below k shrunk.now) (cells_below (suc k) (front ++ back)) in
                omega arith);
            zero = λ n within. elim (among_either shrunk.gone mended.gone n within) [
              | inl early ↦ gone_still n early
              | inr late ↦ mended.zero n late
            ];
            one_less = omega arith;
            no_more = omega arith;
            account = account_within w after (cells_below (suc k) t.below) (cells_below (suc k) t.below) [] (2 * k + 2) (2 * suc k)
                (account_then w mid after (cells_below k child.below) (child.at.number ∷ cells_below (suc k) (front ++ back)) (cells_below (suc k) t.below) [] [] (2 * k) 2 shrunk.account mended.account in_child (λ n within. inl (in_others n within)))
                (omega arith) (λ n within. within);
          }
