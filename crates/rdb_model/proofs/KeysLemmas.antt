-- Keys, one field after another.
use Rattle.std.proofs.Common.{◌≡◌, ℕ, ◌+◌, ◌<◌, ◌≤◌, List, [], ◌∷◌, ◌++◌, length, get_or, drop, Option, Some, None, slice_get, refl, sym, ap, ◌∙◌, arith, append_assoc}
use Rattle.std.specs.declared.cmp.Ordering.{Ordering}
use Rattle.std.specs.declared.cmp.Ordering.TheVariants.{Less, Equal, Greater}
use Rattle.std.specs.Ordering.{ordering_then}
use Rattle.std.specs.List.{cons_option}
use Rattle.std.proofs.lemmas.List.{at_drop_more, drop_more, drop_all}
use Rattle.rdb_base.specs.declared.value.Value.{Value}
use Rattle.rdb_base.specs.Order.{value_order, row_order}
use Rattle.rdb_model.specs.Database.{Row}
use Rattle.rdb_model.specs.Index.{key}

-- the key at the fields from a place on begins with the value at the field there, if the row has it
pub key_more : (fields : List ℕ) (row : Row) (i : ℕ) (value : Option Value) → i < length fields → value ≡ slice_get row (get_or fields i 0) → key (drop i fields) row ≡ cons_option value (key (drop (i + 1) fields) row)
key_more fields row i value lt is = at_drop_more (λ fs. key fs row) fields i 0 lt ∙ ap (λ v. cons_option v (key (drop (i + 1) fields) row)) (sym is)

-- the value goes from what is left to what was made
pub key_copied : (fields : List ℕ) (row whole made : Row) (i : ℕ) (value : Value) → i < length fields → Some value ≡ slice_get row (get_or fields i 0) → made ++ key (drop i fields) row ≡ whole → (made ++ value ∷ []) ++ key (drop (i + 1) fields) row ≡ whole
key_copied fields row whole made i value lt is so_far =
    append_assoc made (value ∷ []) (key (drop (i + 1) fields) row) ∙ ap (λ rest. made ++ rest) (sym (key_more fields row i (Some value) lt is)) ∙ so_far

-- a field that the row lacks adds nothing
pub key_skipped : (fields : List ℕ) (row whole made : Row) (i : ℕ) → i < length fields → None ≡ slice_get row (get_or fields i 0) → made ++ key (drop i fields) row ≡ whole → made ++ key (drop (i + 1) fields) row ≡ whole
key_skipped fields row whole made i lt is so_far = ap (λ rest. made ++ rest) (sym (key_more fields row i None lt is)) ∙ so_far

module _ (fields : List ℕ) (row wanted : Row) (i place : ℕ) (value : Value) (lt : i < length fields) (is : Some value ≡ slice_get row (get_or fields i 0)) where
  -- a key that goes on is greater than one that has ended
  pub compared_past : length wanted ≤ place → row_order (key (drop i fields) row) (drop place wanted) ≡ Greater
  compared_past past = ap (λ k. row_order k (drop place wanted)) (key_more fields row i (Some value) lt is) ∙ ap (λ w. row_order (value ∷ key (drop (i + 1) fields) row) w) (drop_all place wanted past)

  -- where both go on, the values decide, or else what is left
  pub compared_at : (other : Value) → place < length wanted → other ≡ get_or wanted place other → row_order (key (drop i fields) row) (drop place wanted) ≡ ordering_then (value_order value other) (row_order (key (drop (i + 1) fields) row) (drop (place + 1) wanted))
  compared_at other in_range is_other =
      ap (λ k. row_order k (drop place wanted)) (key_more fields row i (Some value) lt is)
      ∙ ap (λ w. row_order (value ∷ key (drop (i + 1) fields) row) w) (drop_more wanted place other in_range)
      ∙ ap (λ o. row_order (value ∷ key (drop (i + 1) fields) row) (o ∷ drop (place + 1) wanted)) (sym is_other)

-- an order that isn't Equal decides
pub decided : (o rest : Ordering) → (o ≡ Equal → ⊥) → ordering_then o rest ≡ o
decided Less rest differs = refl
decided Equal rest differs = absurd (differs refl)
decided Greater rest differs = refl

-- a key that has ended is less than one that goes on, and equal to one that has ended too
pub ended_before : (fields : List ℕ) (row wanted : Row) (i place : ℕ) → length fields ≤ i → place < length wanted → row_order (key (drop i fields) row) (drop place wanted) ≡ Less
ended_before fields row [] i place over in_range = absurd (omega arith)
ended_before fields row (w ∷ ws) i place over in_range =
    ap (λ fs. row_order (key fs row) (drop place (w ∷ ws))) (drop_all i fields over) ∙ ap (λ k. row_order [] k) (drop_more (w ∷ ws) place w in_range)

pub ended_both : (fields : List ℕ) (row wanted : Row) (i place : ℕ) → length fields ≤ i → length wanted ≤ place → row_order (key (drop i fields) row) (drop place wanted) ≡ Equal
ended_both fields row wanted i place over past =
    ap (λ fs. row_order (key fs row) (drop place wanted)) (drop_all i fields over) ∙ ap (λ k. row_order [] k) (drop_all place wanted past)
