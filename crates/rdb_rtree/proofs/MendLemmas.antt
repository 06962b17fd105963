-- A node written with the trees that are left below it, alone or together with one of those beside it.
use Rattle.std.proofs.Common.{◌≡◌, ◌≢◌, ◌≤◌, ◌+◌, ◌++◌, suc, ℕ, List, [], ◌∷◌, length, length-append, inl, inr, refl, sym, ap, subst, ◌∙◌, arith}
use Rattle.std.proofs.lemmas.List.{length-map}
use Rattle.rdb_pages.specs.declared.cell.CellRef.{CellRef}
use Rattle.rdb_cells.specs.Keys.{Meaning, Sayings}
use Rattle.rdb_cells.specs.Links.{IsAmong, AreOnce}
use Rattle.rdb_cells.specs.Work.{Work, reading}
use Rattle.rdb_cells.proofs.WorkLemmas.{put_reads}
use Rattle.rdb_rtree.specs.Boxes.{Each}
use Rattle.rdb_rtree.specs.Changes.{cell_of, with_cell, cells_below, versions_below, entries_above, IsToMend, IsMended, IsToShare, AreShared}
use Rattle.rdb_rtree.specs.RtreeLaws.{all_stand_still, all_nodes}
use Rattle.rdb_rtree.specs.Standing.{IsKeyedAt}
use Rattle.rdb_rtree.specs.Trees.{RTree, box, place, entry_of, Stands, IsShaped, least_entries}
use Rattle.rdb_rtree.specs.declared.entry.Entry.{Entry}
use Rattle.rdb_rtree.proofs.AccountLemmas.{node_bare, node_spent, account_put, account_within, reads_same}
use Rattle.rdb_rtree.proofs.ChosenLemmas.{IsPick}
use Rattle.rdb_rtree.proofs.CountLemmas.{count, count_cons, count_append, count_same, among_count, count_among, once_count, count_once, listed, listed_append, listed_same, numbers_permute, versions_permute}
use Rattle.rdb_rtree.proofs.ListLemmas.{each_both, each_front, each_back, map_both}
use Rattle.rdb_rtree.proofs.SettleLemmas.{IsWritten}
use Rattle.rdb_rtree.proofs.WrittenLemmas.{written_stands, written_shaped, written_kind, count_both, listed_both}

module _ (keys : Meaning) (said : Sayings) (w : Work) (at : CellRef) (level h : ℕ) (own : List (RTree h)) (beside : List (RTree (suc h))) (left others : List Entry) (is : IsToMend keys said w at level h own beside left others) where
  not_own : (n : ℕ) → IsAmong (cells_below h own) n → n ≢ at.number
  not_own n within same =
      let some = among_count (cells_below h own) n within in
      let both = count_append n (cells_below h own) (cells_below (suc h) beside) in
      is.once.0 (subst (IsAmong (cells_below h own ++ cells_below (suc h) beside)) same (count_among (cells_below h own ++ cells_below (suc h) beside) n (omega arith)))

  not_beside : (n : ℕ) → IsAmong (cells_below (suc h) beside) n → n ≢ at.number
  not_beside n within same =
      let some = among_count (cells_below (suc h) beside) n within in
      let both = count_append n (cells_below h own) (cells_below (suc h) beside) in
      is.once.0 (subst (IsAmong (cells_below h own ++ cells_below (suc h) beside)) same (count_among (cells_below h own ++ cells_below (suc h) beside) n (omega arith)))

  -- it has enough of its own
  pub mended_alone : (r : Entry) → IsWritten level left at r → 4 ≤ length left → (now : List Entry) → now ≡ others ++ r ∷ [] → IsMended said w (with_cell w at (cell_of level r.cover left)) at h own beside now
  mended_alone r written enough now pushed =
      let here = (put_reads w at (cell_of level r.cover left)).here in
      let many = ap (length {A = Entry}) is.own_are ∙ length-map own (entry_of said h) in
      let long = length-append beside (record { at = at; cover = r.cover; below = own } ∷ []) in
      record {
        gone = [];
        now = beside ++ record { at = at; cover = r.cover; below = own } ∷ [];
        entries_are =
            pushed
            ∙ (λ i. is.others_are i ++ record { at = written.at_is i; cover = r.cover } ∷ [])
            ∙ sym (map_both (entry_of said (suc h)) beside (record { at = at; cover = r.cover; below = own } ∷ []));
        sound = record {
          stand = each_both (Stands (suc h) (reading (with_cell w at (cell_of level r.cover left)))) beside (record { at = at; cover = r.cover; below = own } ∷ [])
              (all_stand_still (reading w) (reading (with_cell w at (cell_of level r.cover left))) (suc h) beside (λ n within. (put_reads w at (cell_of level r.cover left)).elsewhere n (not_beside n within)) is.sound_beside.stand) (
                written_stands said level h own left r.cover is.level_is is.own_are (reading (with_cell w at (cell_of level r.cover left))) at written.proper here
                    (all_stand_still (reading w) (reading (with_cell w at (cell_of level r.cover left))) h own (λ n within. (put_reads w at (cell_of level r.cover left)).elsewhere n (not_own n within)) is.sound.stand),
                tt,
              );
          shaped = each_both (IsShaped said (suc h) least_entries) beside (record { at = at; cover = r.cover; below = own } ∷ []) is.sound_beside.shaped
              (written_shaped said level h own left r.cover is.level_is is.own_are at 4 (omega arith) written.covers is.sound.shaped, tt);
        };
        list = versions_permute (versions_below h own ++ versions_below (suc h) beside) (versions_below (suc h) (beside ++ record { at = at; cover = r.cover; below = own } ∷ [])) (λ k.
            let was = listed_append k (versions_below h own) (versions_below (suc h) beside) in
            let whole = listed_both (suc h) k beside (record { at = at; cover = r.cover; below = own } ∷ []) in
            let end = listed_append k (versions_below h own) [] in
            omega arith);
        places = numbers_permute (cells_below (suc h) (beside ++ record { at = at; cover = r.cover; below = own } ∷ [])) (at.number ∷ (cells_below h own ++ cells_below (suc h) beside)) (λ n.
            let first = count_cons n at.number (cells_below h own ++ cells_below (suc h) beside) in
            let was = count_append n (cells_below h own) (cells_below (suc h) beside) in
            let whole = count_both (suc h) n beside (record { at = at; cover = r.cover; below = own } ∷ []) in
            let node = count_cons n at.number (cells_below h own ++ []) in
            let end = count_append n (cells_below h own) [] in
            omega arith);
        zero = λ n none. absurd none;
        no_fewer = omega arith;
        one_more = omega arith;
        account = account_within w (with_cell w at (cell_of level r.cover left)) (at.number ∷ []) (at.number ∷ cells_below (suc h) beside) [] 1 2
            (account_put w at (cell_of level r.cover left) (node_spent w at.number is.held) (node_bare (reading w) at.number is.held)
            (node_bare (reading (with_cell w at (cell_of level r.cover left))) at.number (written_kind (reading (with_cell w at (cell_of level r.cover left))) at.number level r.cover left here)))
            (omega arith) (λ n within. elim within [ inl same ↦ inl same | inr none ↦ absurd none ]);
      }

  -- it takes in one of those beside it
  module _ (chosen : Entry) (rest : List Entry) (p : IsPick said (suc h) beside chosen rest) where
    sibling_stands : Stands (suc h) (reading w) p.one
    sibling_stands = (each_back (Stands (suc h) (reading w)) p.front (p.one ∷ p.back) (subst (Each (Stands (suc h) (reading w))) p.split is.sound_beside.stand)).0

    sibling_shape : IsShaped said (suc h) least_entries p.one
    sibling_shape = (each_back (IsShaped said (suc h) least_entries) p.front (p.one ∷ p.back) (subst (Each (IsShaped said (suc h) least_entries)) p.split is.sound_beside.shaped)).0

    place_is : chosen.at ≡ place (suc h) p.one
    place_is = ap (λ (e : Entry). e.at) p.chosen_is

    -- its entries are to be read
    pub sibling_keyed : IsKeyedAt keys said (reading w) chosen.at level h p.one
    sibling_keyed = record {
      tree = record { at_is = sym place_is; level_is = is.level_is; stands = sibling_stands };
      says = is.says;
      shaped = sibling_shape.1;
    }

    sibling_many : 4 ≤ length p.one.below
    sibling_many = let enough = sibling_shape.0.enough in let same = length-map p.one.below (box said h) in omega arith

    counted : (n : ℕ) → count n (cells_below (suc h) beside) ≡ count n (cells_below (suc h) p.front) + (count n (p.one.at.number ∷ cells_below h p.one.below) + count n (cells_below (suc h) p.back))
    counted n =
        let same = ap (λ (ts : List (RTree (suc h))). count n (cells_below (suc h) ts)) p.split in
        let both = count_both (suc h) n p.front (p.one ∷ p.back) in
        let one = count_append n (p.one.at.number ∷ cells_below h p.one.below) (cells_below (suc h) p.back) in
        omega arith

    all_once : (n : ℕ) → count n (at.number ∷ (cells_below h own ++ cells_below (suc h) beside)) ≤ 1
    all_once n = once_count (at.number ∷ (cells_below h own ++ cells_below (suc h) beside)) n is.once

    both_once : AreOnce (at.number ∷ p.one.at.number ∷ cells_below h (own ++ p.one.below))
    both_once = count_once (at.number ∷ p.one.at.number ∷ cells_below h (own ++ p.one.below)) (λ n.
        let all = all_once n in
        let first = count_cons n at.number (cells_below h own ++ cells_below (suc h) beside) in
        let parts = count_append n (cells_below h own) (cells_below (suc h) beside) in
        let those = counted n in
        let one = count_cons n p.one.at.number (cells_below h p.one.below) in
        let now_first = count_cons n at.number (p.one.at.number ∷ cells_below h (own ++ p.one.below)) in
        let now_second = count_cons n p.one.at.number (cells_below h (own ++ p.one.below)) in
        let both = count_both h n own p.one.below in
        omega arith)

    -- both are to be shared
    pub both_share : (both : List Entry) → both ≡ left ++ entries_above said h p.one.below → IsToShare said w at chosen.at level h (own ++ p.one.below) both
    both_share both both_is = subst (λ (r : CellRef). IsToShare said w at r level h (own ++ p.one.below) both) (sym place_is) (record {
      level_is = is.level_is;
      low = is.low;
      entries_are = both_is ∙ ap (λ (es : List Entry). es ++ entries_above said h p.one.below) is.own_are ∙ sym (map_both (entry_of said h) own p.one.below);
      sound = record {
        stand = each_both (Stands h (reading w)) own p.one.below is.sound.stand sibling_stands.1;
        shaped = each_both (IsShaped said h least_entries) own p.one.below is.sound.shaped sibling_shape.1;
      };
      held = is.held;
      held_too = all_nodes (reading w) (suc h) p.one p.one.at.number sibling_stands (inl refl);
      once = both_once;
      enough = (let many = length-append own p.one.below in let three = is.three in let four = sibling_many in omega arith);
    })

    module _ (after : Work) (now : List Entry) (shared : AreShared said w after at chosen.at h (own ++ p.one.below) rest now) where
      others_apart : (n : ℕ) → IsAmong (cells_below (suc h) (p.front ++ p.back)) n → reading after n ≡ reading w n
      others_apart n within =
          let some = among_count (cells_below (suc h) (p.front ++ p.back)) n within in
          let both = count_both (suc h) n p.front p.back in
          let those = counted n in
          let all = all_once n in
          let first = count_cons n at.number (cells_below h own ++ cells_below (suc h) beside) in
          let parts = count_append n (cells_below h own) (cells_below (suc h) beside) in
          let one = count_cons n p.one.at.number (cells_below h p.one.below) in
          let here = ap (λ (r : CellRef). count n (at.number ∷ r.number ∷ [])) place_is in
          let two = count_cons n at.number (p.one.at.number ∷ []) in
          let last = count_cons n p.one.at.number [] in
          reads_same w after (at.number ∷ chosen.at.number ∷ []) [] 2 shared.account n
          (λ own_n. let there = among_count (at.number ∷ chosen.at.number ∷ []) n own_n in absurd (omega arith)) (λ none. none)

      pub mended_shared : IsMended said w after at h own beside now
      mended_shared =
          let split_long = ap (length {A = RTree (suc h)}) p.split in
          let was_long = length-append p.front (p.one ∷ p.back) in
          let rest_long = length-append p.front p.back in
          let now_long = length-append (p.front ++ p.back) shared.nodes in
          let some = shared.some in
          let two = shared.two in
          record {
            gone = shared.gone;
            now = (p.front ++ p.back) ++ shared.nodes;
            entries_are =
                shared.entries
                ∙ ap (λ (es : List Entry). es ++ entries_above said (suc h) shared.nodes) p.rest_are
                ∙ sym (map_both (entry_of said (suc h)) (p.front ++ p.back) shared.nodes);
            sound = record {
              stand = each_both (Stands (suc h) (reading after)) (p.front ++ p.back) shared.nodes
                  (all_stand_still (reading w) (reading after) (suc h) (p.front ++ p.back) others_apart
                  (each_both (Stands (suc h) (reading w)) p.front p.back
                  (each_front (Stands (suc h) (reading w)) p.front (p.one ∷ p.back) (subst (Each (Stands (suc h) (reading w))) p.split is.sound_beside.stand))
                  (each_back (Stands (suc h) (reading w)) p.front (p.one ∷ p.back) (subst (Each (Stands (suc h) (reading w))) p.split is.sound_beside.stand)).1))
                  shared.sound.stand;
              shaped = each_both (IsShaped said (suc h) least_entries) (p.front ++ p.back) shared.nodes
                  (each_both (IsShaped said (suc h) least_entries) p.front p.back
                  (each_front (IsShaped said (suc h) least_entries) p.front (p.one ∷ p.back) (subst (Each (IsShaped said (suc h) least_entries)) p.split is.sound_beside.shaped))
                  (each_back (IsShaped said (suc h) least_entries) p.front (p.one ∷ p.back) (subst (Each (IsShaped said (suc h) least_entries)) p.split is.sound_beside.shaped)).1)
                  shared.sound.shaped;
            };
            list = versions_permute (versions_below h own ++ versions_below (suc h) beside) (versions_below (suc h) ((p.front ++ p.back) ++ shared.nodes)) (λ k.
                let was = listed_append k (versions_below h own) (versions_below (suc h) beside) in
                let same = ap (λ (ts : List (RTree (suc h))). listed k (versions_below (suc h) ts)) p.split in
                let parts = listed_both (suc h) k p.front (p.one ∷ p.back) in
                let one = listed_append k (versions_below h p.one.below) (versions_below (suc h) p.back) in
                let whole = listed_both (suc h) k (p.front ++ p.back) shared.nodes in
                let both = listed_both (suc h) k p.front p.back in
                let written = listed_same k (versions_below h (own ++ p.one.below)) (versions_below (suc h) shared.nodes) shared.list in
                let two_parts = listed_both h k own p.one.below in
                omega arith);
            places = numbers_permute (shared.gone ++ cells_below (suc h) ((p.front ++ p.back) ++ shared.nodes)) (at.number ∷ (cells_below h own ++ cells_below (suc h) beside)) (λ n.
                let first = count_cons n at.number (cells_below h own ++ cells_below (suc h) beside) in
                let was = count_append n (cells_below h own) (cells_below (suc h) beside) in
                let those = counted n in
                let one = count_cons n p.one.at.number (cells_below h p.one.below) in
                let outer = count_append n shared.gone (cells_below (suc h) ((p.front ++ p.back) ++ shared.nodes)) in
                let whole = count_both (suc h) n (p.front ++ p.back) shared.nodes in
                let both = count_both (suc h) n p.front p.back in
                let written = count_same n (shared.gone ++ cells_below (suc h) shared.nodes) (at.number ∷ chosen.at.number ∷ cells_below h (own ++ p.one.below)) shared.places
                ∙ ap (λ (r : CellRef). count n (at.number ∷ r.number ∷ cells_below h (own ++ p.one.below))) place_is in
                let written_parts = count_append n shared.gone (cells_below (suc h) shared.nodes) in
                let now_first = count_cons n at.number (p.one.at.number ∷ cells_below h (own ++ p.one.below)) in
                let now_second = count_cons n p.one.at.number (cells_below h (own ++ p.one.below)) in
                let two_parts = count_both h n own p.one.below in
                omega arith);
            zero = shared.zero;
            no_fewer = omega arith;
            one_more = omega arith;
            account = account_within w after (at.number ∷ chosen.at.number ∷ []) (at.number ∷ cells_below (suc h) beside) [] 2 2 shared.account (omega arith) (λ n within. elim within [
              | inl same ↦ inl same
              | inr later ↦ elim later [
                | inl same ↦ inr (
                    let number = ap (λ (r : CellRef). count n (r.number ∷ [])) place_is in
                    let here = among_count (chosen.at.number ∷ []) n (inl same) in
                    let last = count_cons n p.one.at.number [] in
                    let those = counted n in
                    let one = count_cons n p.one.at.number (cells_below h p.one.below) in
                    count_among (cells_below (suc h) beside) n (omega arith))
                | inr none ↦ absurd none
              ]
            ]);
          }
