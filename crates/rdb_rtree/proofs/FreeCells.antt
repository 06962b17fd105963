-- Free cells, counted one after another.
use Rattle.std.proofs.Common.{◌≡◌, ◌<◌, ◌+◌, zero, suc, ℕ, List, [], ◌∷◌, length, slice_get, get_or, Option, Some, refl, sym, ap, subst, arith}
use Rattle.std.specs.Option.{option_map_or}
use Rattle.std.specs.List.Sorted.{IsStrictlyIncreasing}
use Rattle.std.proofs.lemmas.Map.Keys.{sorted_from_strictly_increasing, IsStrictlyIncreasing-from_sorted}
use Rattle.rdb_cells.specs.Images.{Image, IsNextFree}
use Rattle.rdb_cells.specs.Untaken.{IsUntaken, HasUntaken}

the_some : (a b : ℕ) → Some a ≡ Some b → a ≡ b
the_some a b e = ap (λ (o : Option ℕ). option_map_or (λ n. n) o a) e

increasing : (n : ℕ) (ns : List ℕ) → (0 < length ns → n < get_or ns 0 0) → IsStrictlyIncreasing ns → IsStrictlyIncreasing (n ∷ ns)
increasing n ns first rest zero within = first (omega arith)
increasing n ns first rest (suc k) within =
    let e : suc k + 1 ≡ suc (k + 1) = omega arith in
    let next = rest k (omega arith) in
    subst (λ (m : ℕ). get_or ns k 0 < get_or (n ∷ ns) m 0) (sym e) next

module _ (image : Image) (class_of : ℕ → Option ℕ) (of : ℕ) where
  -- with the next free cell there is one more
  one_more : (last n many : ℕ) → IsNextFree image class_of of last n → HasUntaken [] image class_of of n many → HasUntaken [] image class_of of last (suc many)
  one_more last n many next has = record {
    cells = n ∷ has.cells;
    count = ap suc has.count;
    ascending = sorted_from_strictly_increasing (n ∷ has.cells) (increasing n has.cells (first has.cells has.untaken) (IsStrictlyIncreasing-from_sorted has.cells has.ascending));
    untaken = each;
  }
    where
      first : (ns : List ℕ) → ((i m : ℕ) → slice_get ns i ≡ Some m → IsUntaken [] image class_of of n m) → 0 < length ns → n < get_or ns 0 0
      first [] all some = absurd (omega arith)
      first (m ∷ ms) all some = (all 0 m refl).above

      each : (i m : ℕ) → slice_get (n ∷ has.cells) i ≡ Some m → IsUntaken [] image class_of of last m
      each zero m at = subst (λ (k : ℕ). IsUntaken [] image class_of of last k) (the_some n m at) (record { above = next.above; free = next.free; unplanned = refl })
      each (suc i) m at =
          let left = has.untaken i m at in
          let above = left.above in
          let before = next.above in
          record { above = omega arith; free = left.free; unplanned = refl }

  -- what the search has found so far
  abbrev pub IsCounted : ℕ → ℕ → Type 0
  IsCounted last count = (many : ℕ) → HasUntaken [] image class_of of last many → HasUntaken [] image class_of of 0 (count + many)

  pub none_counted : IsCounted 0 0
  none_counted many has = let e : many ≡ 0 + many = omega arith in subst (HasUntaken [] image class_of of 0) e has

  pub counted_more : (last count n : ℕ) → IsCounted last count → IsNextFree image class_of of last n → IsCounted n (count + 1)
  counted_more last count n so_far next many has =
      let e : count + suc many ≡ count + 1 + many = omega arith in
      subst (HasUntaken [] image class_of of 0) e (so_far (suc many) (one_more last n many next has))

  pub all_counted : (last count : ℕ) → IsCounted last count → HasUntaken [] image class_of of 0 count
  all_counted last count so_far =
      let e : count + 0 ≡ count = omega arith in
      subst (HasUntaken [] image class_of of 0) e (so_far 0 (record { cells = []; count = refl; ascending = sorted_from_strictly_increasing [] (λ k within. absurd (omega arith)); untaken = λ i n at. cc }))
