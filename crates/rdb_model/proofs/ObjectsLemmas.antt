-- What is found among objects at a place, and what a change there makes of them.
use Rattle.std.proofs.Common.{◌≡◌, ℕ, zero, suc, ◌<◌, ◌≤◌, ◌≢◌, [], ◌∷◌, length, get_or, set, Some, None, Result, Ok, Err, IfOk, IfErr, refl, sym, ap, arith}
use Rattle.std.specs.List.{insert, remove}
use Rattle.std.specs.List.Sorted.{IsSearchInRange, IsBinarySearchResult, IsNonDecreasingBy}
use Rattle.std.specs.Ordering.{nat_cmp, ordering_index}
use Rattle.std.proofs.lemmas.Cmp.{ranked}
use Rattle.std.proofs.lemmas.List.Sorted.{IsNonDecreasingBy-from_default}
use Rattle.std.proofs.lemmas.Bool.Decides.{nat_tests}
use Rattle.rdb_model.specs.Database.{Row, Objects, id_at, IsAscending, row_of, with_row, without}
use Rattle.rdb_model.specs.Place.{IsAt, IsGapFor}

-- no object before the place has the id
abbrev pub NoIdBefore : Objects → ℕ → ℕ → Type 0
NoIdBefore os id place = (i : ℕ) → i < place → id_at os i ≢ id

-- each object before the place has a smaller id
abbrev pub SmallerBefore : Objects → ℕ → ℕ → Type 0
SmallerBefore os id place = (i : ℕ) → i < place → id_at os i < id

none_before_tail : (o : ℕ × Row) (os : Objects) (id place : ℕ) → NoIdBefore (o ∷ os) id (suc place) → NoIdBefore os id place
none_before_tail o os id place none i lt = none (suc i) (omega arith)

smaller_before_tail : (o : ℕ × Row) (os : Objects) (id place : ℕ) → SmallerBefore (o ∷ os) id (suc place) → SmallerBefore os id place
smaller_before_tail o os id place smaller i lt = smaller (suc i) (omega arith)

at_tail : (o : ℕ × Row) (os : Objects) (id place : ℕ) → IsAt (o ∷ os) id (suc place) → IsAt os id place
at_tail o os id place is_at = record { in_range = omega (arith, is_at.in_range); has_id = is_at.has_id }

gap_tail : (o : ℕ × Row) (os : Objects) (id place : ℕ) → IsGapFor (o ∷ os) id (suc place) → IsGapFor os id place
gap_tail o os id place gap = record {
  in_range = omega (arith, gap.in_range);
  smaller_before = λ i lt. gap.smaller_before (suc i) (omega arith);
  greater_after = λ i le lt. gap.greater_after (suc i) (omega arith) (omega arith);
}

ascending_tail : (o : ℕ × Row) (os : Objects) → IsAscending (o ∷ os) → IsAscending os
ascending_tail o os ascending i j lt in_range = ascending (suc i) (suc j) (omega arith) (omega arith)

-- an id that no object has is not found
pub row_of_absent : (os : Objects) (id : ℕ) → NoIdBefore os id (length os) → row_of os id ≡ None
row_of_absent [] id none = refl
row_of_absent (o ∷ os) id none = grind (arith, nat_tests, none 0 (omega arith), row_of_absent os id (none_before_tail o os id _ none))

-- the first object that has the id gives the row
pub row_of_present : (os : Objects) (id place : ℕ) → IsAt os id place → NoIdBefore os id place → row_of os id ≡ Some (get_or os place (0, [])).1
row_of_present [] id place is_at none = absurd (omega (arith, is_at.in_range))
row_of_present (o ∷ os) id zero is_at none = grind (arith, nat_tests, is_at.has_id)
row_of_present (o ∷ os) id (suc place) is_at none = grind (arith, nat_tests, none 0 (omega arith), row_of_present os id place (at_tail o os id place is_at) (none_before_tail o os id place none))

-- a row for an id that is there is written over the one before
pub with_row_at : (os : Objects) (id : ℕ) (row : Row) (place : ℕ) → IsAt os id place → SmallerBefore os id place → with_row os id row ≡ set os place (id, row)
with_row_at [] id row place is_at smaller = absurd (omega (arith, is_at.in_range))
with_row_at (o ∷ os) id row zero is_at smaller = grind (arith, nat_tests, is_at.has_id)
with_row_at (o ∷ os) id row (suc place) is_at smaller =
    grind (arith, nat_tests, smaller 0 (omega arith), with_row_at os id row place (at_tail o os id place is_at) (smaller_before_tail o os id place smaller))

-- a row for a new id goes into its gap
pub with_row_gap : (os : Objects) (id : ℕ) (row : Row) (place : ℕ) → IsGapFor os id place → with_row os id row ≡ insert os place (id, row)
with_row_gap [] id row zero gap = refl
with_row_gap [] id row (suc place) gap = absurd (omega (arith, gap.in_range))
with_row_gap (o ∷ os) id row zero gap = grind (arith, nat_tests, gap.greater_after 0 (omega arith) (omega arith))
with_row_gap (o ∷ os) id row (suc place) gap =
    grind (arith, nat_tests, gap.smaller_before 0 (omega arith), with_row_gap os id row place (gap_tail o os id place gap))

-- without an id that no object has all stay
pub without_absent : (os : Objects) (id : ℕ) → NoIdBefore os id (length os) → without os id ≡ os
without_absent [] id none = refl
without_absent (o ∷ os) id none = grind (arith, nat_tests, none 0 (omega arith), without_absent os id (none_before_tail o os id _ none))

-- without the id of the object at a place that one goes
pub without_at : (os : Objects) (id place : ℕ) → IsAt os id place → IsAscending os → without os id ≡ remove os place
without_at [] id place is_at ascending = absurd (omega (arith, is_at.in_range))
without_at (o ∷ os) id zero is_at ascending =
    let none : NoIdBefore os id (length os) = λ i lt same. omega (arith, ascending 0 (suc i) (omega arith) (omega arith), is_at.has_id) in
    grind (arith, nat_tests, is_at.has_id, without_absent os id none)
without_at (o ∷ os) id (suc place) is_at ascending =
    let differs : o.0 ≢ id = λ same. omega (arith, ascending 0 (suc place) (omega arith) is_at.in_range, is_at.has_id) in
    grind (arith, nat_tests, differs, without_at os id place (at_tail o os id place is_at) (ascending_tail o os ascending))

module _ (os : Objects) (ascending : IsAscending os) (id : ℕ) where
  -- the comparisons with the id rise along the objects, as a binary search asks
  comparisons_rise : IsNonDecreasingBy (λ o. ordering_index (nat_cmp o.0 id)) os
  comparisons_rise = IsNonDecreasingBy-from_default (λ o. ordering_index (nat_cmp o.0 id)) os (0, []) (λ i j le in_range.
      let ids_rise : id_at os i ≤ id_at os j = grind (arith, ascending i j, λ (same : i ≡ j). ap (id_at os) same) in
      grind (arith, nat_tests))

  -- a binary search by id ends at the id, or at the gap for it
  pub searched : (r : Result ℕ ℕ) → IsSearchInRange r (length os) → IsBinarySearchResult (λ o. nat_cmp o.0 id) os r → record { found : IfOk r (IsAt os id); absent : IfErr r (IsGapFor os id) }
  searched (Ok at) in_range equal = record { found = record { in_range = in_range; has_id = ranked _ id _ (sym (equal (0, []))) }; absent = tt }
  searched (Err at) in_range parted = record {
    found = tt;
    absent = record {
      in_range = in_range;
      smaller_before = λ i lt. ranked _ id _ (sym ((parted comparisons_rise).0 i (0, []) (omega arith) lt));
      greater_after = λ i le lt. ranked _ id _ (sym ((parted comparisons_rise).1 i (0, []) le lt));
    };
  }

  pub smaller_before_at : (place : ℕ) → IsAt os id place → SmallerBefore os id place
  smaller_before_at place is_at i lt = omega (arith, ascending i place lt is_at.in_range, is_at.has_id)

  pub none_before_at : (place : ℕ) → IsAt os id place → NoIdBefore os id place
  none_before_at place is_at i lt same = omega (arith, smaller_before_at place is_at i lt)

-- an id that has a gap no object has
pub none_at_gap : (os : Objects) (id place : ℕ) → IsGapFor os id place → NoIdBefore os id (length os)
none_at_gap os id place gap i lt same = grind (arith, gap.smaller_before i, gap.greater_after i)
