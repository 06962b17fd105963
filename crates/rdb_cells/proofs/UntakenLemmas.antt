-- The search for the lowest free cell that a plan hasn't taken.
use Rattle.std.proofs.Common.{◌≡◌, ◌<◌, ◌≤◌, ℕ, List, Option, true, false, inl, inr, sym, ap, ◌∙◌, arith}
use Rattle.std.proofs.Permutation.{which}
use Rattle.std.proofs.lemmas.Bool.{cases_lt, false≢true}
use Rattle.rdb_cells.specs.declared.pairs.Pair.{Pair}
use Rattle.rdb_cells.specs.Images.{Image, IsFree, IsNextFree}
use Rattle.rdb_cells.specs.Records.{names}
use Rattle.rdb_cells.specs.Untaken.{IsUntaken, IsNextUntaken}

-- how far a search has come: the plan has each free cell above the last one taken, up to `last`
module _ (pairs : List Pair) (image : Image) (class_of : ℕ → Option ℕ) (of taken : ℕ) where
  pub record HasSkipped (last : ℕ) : Type 0 where
    pub from : taken ≤ last
    pub planned : (n : ℕ) → taken < n → n ≤ last → IsFree image class_of of n → names pairs n ≡ true

  pub skipped-init : HasSkipped taken
  skipped-init = record {
    from = omega arith;
    planned = λ n low high. absurd (omega arith);
  }

  pub skipped-step : (last next : ℕ) → HasSkipped last → IsNextFree image class_of of last next → names pairs next ≡ true → HasSkipped next
  skipped-step last next so_far is_next named =
      let from = so_far.from in
      let above = is_next.above in
      record {
        from = omega arith;
        planned = λ n low high free. elim (cases_lt last n) [
          | inl later ↦ elim (which n next) [
            | inl same ↦ ap (names pairs) same ∙ named
            | inr apart ↦ absurd (is_next.lowest n later (omega arith) free)
          ]
          | inr before ↦ so_far.planned n low before free
        ];
      }

  pub skipped-found : (last next : ℕ) → HasSkipped last → IsNextFree image class_of of last next → names pairs next ≡ false → IsNextUntaken pairs image class_of of taken next
  skipped-found last next so_far is_next unnamed =
      let from = so_far.from in
      let above = is_next.above in
      record {
        untaken = record { above = omega arith; free = is_next.free; unplanned = unnamed };
        lowest = λ lower low untaken. elim (cases_lt last lower) [
          | inl later ↦ is_next.lowest lower later low untaken.free
          | inr before ↦ false≢true (sym untaken.unplanned ∙ so_far.planned lower untaken.above before untaken.free)
        ];
      }

  pub skipped-none : (last : ℕ) → HasSkipped last → ((n : ℕ) → last < n → ¬ IsFree image class_of of n) → (n : ℕ) → ¬ IsUntaken pairs image class_of of taken n
  skipped-none last so_far none n untaken = elim (cases_lt last n) [
    | inl later ↦ none n later untaken.free
    | inr before ↦ false≢true (sym untaken.unplanned ∙ so_far.planned n untaken.above before untaken.free)
  ]
