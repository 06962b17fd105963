-- Nodes in cells: one that comes between others.
use Rattle.std.proofs.Common.{◌≡◌, ◌<◌, ◌++◌, ℕ, List, [], ◌∷◌, Some, inl, inr, sym, ap, subst, ◌∙◌}
use Rattle.rdb_pages.specs.declared.cell.Cell.{Cell}
use Rattle.rdb_pages.specs.Pages.{zero_cell}
use Rattle.rdb_cells.specs.Images.{Image, Writes}
use Rattle.rdb_cells.specs.Links.{IsAmong, AreOnce, Node, Format, IsNeverZero, IsHeld, StandApart, numbers}
use Rattle.rdb_cells.proofs.LinkLemmas.{among_but, numbers_append, stand_parts, stand_together, stand_beside, free_apart, among_front, among_back}

once_with : (xs : List ℕ) (m : ℕ) (ys : List ℕ) → AreOnce (xs ++ ys) → (¬ IsAmong (xs ++ ys) m) → AreOnce (xs ++ m ∷ ys)
once_with [] m ys once fresh = (fresh, once)
once_with (x ∷ xs) m ys once fresh = (
  λ within. elim (among_but xs m ys x within) [
    | inl same ↦ fresh (inl (sym same))
    | inr other ↦ once.0 other
  ],
  once_with xs m ys once.1 (λ within. fresh (inr within)),
)

module _ {A : Type 0} (format : Format A) (before after : Image) (n : ℕ) (cell : Cell) (writes : Writes before after n cell) where
  -- a node taken: a cell that was free is a node between the others
  pub inserted : IsNeverZero format → (xs : List (Node A)) (x : Node A) (ys : List (Node A)) → x.number ≡ n → 0 < n → before n ≡ Some zero_cell → format cell x.element x.links → StandApart format before (xs ++ ys) → StandApart format after (xs ++ x ∷ ys)
  inserted never xs x ys is some free written apart =
      let fresh = free_apart format never before (xs ++ ys) n free apart.stand in
      let beside : ¬ IsAmong (numbers xs ++ numbers ys) n = subst (λ (ns : List ℕ). ¬ IsAmong ns n) (numbers_append xs ys) fresh in
      let parts = stand_parts format before xs ys apart.stand in
      let front = stand_beside format before after n cell writes xs (λ within. beside (among_front (numbers xs) (numbers ys) n within)) parts.0 in
      let back = stand_beside format before after n cell writes ys (λ within. beside (among_back (numbers xs) (numbers ys) n within)) parts.1 in
      let held : IsHeld format after x = record {
        some = subst (λ (k : ℕ). 0 < k) (sym is) some;
        cell = cell;
        here = ap after is ∙ writes.here;
        written = written;
      } in
      record {
        stand = stand_together format after xs (x ∷ ys) front (held, back);
        once = subst AreOnce (sym (numbers_append xs (x ∷ ys))) (once_with (numbers xs) x.number (numbers ys) (subst AreOnce (numbers_append xs ys) apart.once) (subst (λ (k : ℕ). ¬ IsAmong (numbers xs ++ numbers ys) k) (sym is) beside));
      }
