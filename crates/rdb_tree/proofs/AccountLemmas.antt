-- What a level more takes of the cells that can be taken, and of the plan.
use Rattle.std.proofs.Common.{◌≡◌, ◌≢◌, ◌≤◌, ◌+◌, suc, ℕ, List, [], ◌∷◌, ◌++◌, length, length-append, inl, inr, refl, sym, subst, ◌∙◌, arith}
use Rattle.std.proofs.lemmas.List.{append-nil}
use Rattle.rdb_pages.specs.declared.cell.Cell.{Cell}
use Rattle.rdb_pages.specs.declared.cell.CellRef.{CellRef}
use Rattle.rdb_cells.specs.Links.{IsAmong}
use Rattle.rdb_cells.specs.Records.{content}
use Rattle.rdb_cells.specs.Work.{Work, IsLeft, TakesAtMost, TakesNone, TakesLowest}
use Rattle.rdb_cells.proofs.LinkLemmas.{among_either, among_front, among_back}
use Rattle.rdb_cells.proofs.WorkLemmas.{put_says, put_takes_none, put_longer, none_at_most, at_most_then, lowest_none, lowest_then, took_one, took_lowest}
use Rattle.rdb_tree.specs.Changes.{with_cell, with_taken, IsLowest}
use Rattle.rdb_tree.specs.Growth.{IsAccount}

-- nothing was done
pub account_first : (before : Work) (own : List ℕ) → IsAccount before before own [] 0
account_first before own =
    let none : TakesNone before before = λ n. (λ left. left, λ left. left) in
    record {
      lowest = lowest_none before before [] none (λ n within. absurd within);
      most = none_at_most before before none;
      left = λ n within. absurd within;
      few = omega arith;
      places = omega arith;
      says = λ n out new. refl;
      goes_on = record { below = refl; classes = refl; class = refl; room = refl };
    }

put_stays : (w : Work) (at : CellRef) (cell : Cell) (n : ℕ) → n ≢ at.number → content (with_cell w at cell).pairs n ≡ content w.pairs n
put_stays w at cell n apart = elim (put_says w at cell n) [ inl same ↦ same | inr is ↦ absurd (apart is) ]

module _ (before mid : Work) (own fresh : List ℕ) (levels : ℕ) (account : IsAccount before mid own fresh levels) where
  -- more levels
  pub account_within : (more : ℕ) → levels ≤ more → IsAccount before mid own fresh more
  account_within more within =
      let few = account.few in
      let places = account.places in
      record {
        lowest = account.lowest;
        most = account.most;
        left = account.left;
        few = omega arith;
        places = omega arith;
        says = account.says;
        goes_on = account.goes_on;
      }

  -- another cell of the tree is written
  module _ (at : CellRef) (cell : Cell) (inside : IsAmong own at.number) (spent : ¬ IsLeft before at.number) where
    not_left : ¬ IsLeft mid at.number
    not_left left = spent ((account.lowest.left at.number).0 left).0

    pub account_put : IsAccount before (with_cell mid at cell) own fresh (suc levels)
    account_put =
        let none = put_takes_none mid at cell not_left in
        let few = account.few in
        let places = account.places in
        let one = put_longer mid.pairs (record { at = at; cell = cell }) in
        let same : length fresh + 0 ≡ length fresh = omega arith in
        record {
          lowest = subst (TakesLowest before (with_cell mid at cell)) (append-nil fresh) (lowest_then fresh [] before mid (with_cell mid at cell) account.lowest (lowest_none mid (with_cell mid at cell) [] none (λ n within. absurd within)));
          most = subst (λ (k : ℕ). TakesAtMost k before (with_cell mid at cell)) same (at_most_then (length fresh) 0 before mid (with_cell mid at cell) account.most (none_at_most mid (with_cell mid at cell) none));
          left = account.left;
          few = omega arith;
          places = omega arith;
          says = λ n out new. put_stays mid at cell n (λ same. out (subst (IsAmong own) (sym same) inside)) ∙ account.says n out new;
          goes_on = record { below = account.goes_on.below; classes = account.goes_on.classes; class = account.goes_on.class; room = account.goes_on.room };
        }

  -- the lowest cell is taken and written, and another one of the tree
  module _ (right : CellRef) (behind : Cell) (at : CellRef) (cell : Cell) (lowest : IsLowest mid right) (inside : IsAmong own at.number) (spent : ¬ IsLeft before at.number) where
    abbrev pub one : Work
    one = with_cell (with_taken mid right) right behind

    abbrev pub two : Work
    two = with_cell (with_cell (with_taken mid right) right behind) at cell

    still_spent : ¬ IsLeft one at.number
    still_spent left = spent ((account.lowest.left at.number).0 ((took_one mid right behind lowest).no_more at.number left)).0

    then_none : TakesNone one two
    then_none = put_takes_none one at cell still_spent

    took : TakesLowest mid two (right.number ∷ [])
    took = lowest_then (right.number ∷ []) [] mid one two (took_lowest mid right behind lowest) (lowest_none one two [] then_none (λ n within. absurd within))

    took_most : TakesAtMost 1 mid two
    took_most = at_most_then 1 0 mid one two (took_one mid right behind lowest) (none_at_most one two then_none)

    pub account_split : IsAccount before two own (fresh ++ right.number ∷ []) (suc levels)
    account_split =
        let few = account.few in
        let places = account.places in
        let first = put_longer mid.pairs (record { at = right; cell = behind }) in
        let second = put_longer one.pairs (record { at = at; cell = cell }) in
        let long = length-append fresh (right.number ∷ []) in
        record {
          lowest = lowest_then fresh (right.number ∷ []) before mid two account.lowest took;
          most = subst (λ (k : ℕ). TakesAtMost k before two) (sym long) (at_most_then (length fresh) 1 before mid two account.most took_most);
          left = λ n within. elim (among_either fresh (right.number ∷ []) n within) [
            | inl old ↦ account.left n old
            | inr last ↦ elim last [ inl same ↦ subst (IsLeft before) same ((account.lowest.left right.number).0 lowest.untaken).0 | inr none ↦ absurd none ]
          ];
          few = omega arith;
          places = omega arith;
          says = λ n out new.
              put_stays one at cell n (λ same. out (subst (IsAmong own) (sym same) inside))
              ∙ put_stays (with_taken mid right) right behind n (λ same. new (among_back fresh (right.number ∷ []) n (inl (sym same))))
              ∙ account.says n out (λ old. new (among_front fresh (right.number ∷ []) n old));
          goes_on = record { below = account.goes_on.below; classes = account.goes_on.classes; class = account.goes_on.class; room = account.goes_on.room };
        }
