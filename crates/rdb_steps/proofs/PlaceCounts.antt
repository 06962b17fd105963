-- An undo record with a place for each cell of the region has room for any plan: its cells and those of the plan are different ones.
use Rattle.std.proofs.Common.{◌≡◌, ◌⊎◌, ◌<◌, ◌≤◌, ◌+◌, ◌-◌, ◌*◌, ◌/◌, ◌==◌, ◌∷◌, ◌++◌, ℕ, zero, suc, List, [], length, map, filter, count_by, slice_get, Bool, true, false, not, cond, Option, Some, None, IsSome, nat_lt, eqb, refl, sym, ap, ◌∙◌, arith, inl, inr, eq-eqb, eqb-true, length-append}
use Rattle.std.specs.List.{AllByRecursion, IsDistinct, list_any}
use Rattle.std.specs.Option.{option_flatten, option_map}
use Rattle.std.proofs.lemmas.Bool.{false≢true, ltb-false, or_parts, or_cases, or_left, false_from_ne_true}
use Rattle.std.proofs.Permutation.{which}
use Rattle.std.proofs.Math.Nat.{lt-div-mul-add}
use Rattle.std.proofs.lemmas.List.{length-map}
use Rattle.std.proofs.lemmas.List.Sums.{sum_by-cons}
use Rattle.std.proofs.lemmas.Map.Steps.{length-le_from_distinct_below}
use Rattle.rdb_schema.specs.declared.schema.Schema.{Schema}
use Rattle.rdb_pages.specs.Pages.{page_cells}
use Rattle.rdb_cells.specs.declared.pairs.Pair.{Pair}
use Rattle.rdb_cells.specs.Places.{AreDifferent}
use Rattle.rdb_cells.specs.Records.{names, numbers_of}
use Rattle.rdb_cells.specs.References.{first_head, class_of_head}
use Rattle.rdb_cells.proofs.PairLemmas.{different-head, different-tail, names_none, any_right}
use Rattle.rdb_registry.specs.declared.hand.Hand.{Hand}
use Rattle.rdb_space.specs.Heads.{head_at}
use Rattle.rdb_space.specs.Memory.{RegionCells, class_of}
use Rattle.rdb_writes.specs.Grounds.{WorksOn, HasPlaces}
use Rattle.rdb_steps.specs.States.{HasClasses, cell_count}

-- the place of a cell among all cells of the region
place_in : RegionCells → ℕ → ℕ
place_in m n = cond (nat_lt n first_head) (n - 1) (page_cells * length m.owners + (n - first_head))

-- a result that is the same for whatever is there
same_for_all : {A : Type 0} (o : Option A) (class : ℕ) → IsSome (option_map (λ x. class) o) → option_map (λ x. class) o ≡ Some class
same_for_all None class some = absurd (false≢true some)
same_for_all (Some x) class some = refl

-- what is there in a slot of a list
within_if : {A : Type 0} (xs : List A) (i : ℕ) → IsSome (slice_get xs i) → i < length xs
within_if [] i some = absurd (false≢true some)
within_if (x ∷ xs) zero some = omega arith
within_if (x ∷ xs) (suc i) some = let rest = within_if xs i some in omega (arith, rest)

flat_some : {A : Type 0} (o : Option (Option A)) → IsSome (option_flatten o) → IsSome o
flat_some None some = absurd (false≢true some)
flat_some (Some x) some = refl

module _ (schema : Schema) (m : RegionCells) (classes : HasClasses schema m) where
  -- a cell of a page, or a head
  data IsOne : ℕ → Type 0 where
    of_page : {n : ℕ} → nat_lt n first_head ≡ true → 0 < n → (n - 1) / 64 < length m.owners → IsOne n
    of_head : {n : ℕ} → nat_lt n first_head ≡ false → (n - 2000000) / 16 < length schema.classes → IsOne n

  is_one : (n : ℕ) → IsSome (class_of m n) → IsOne n
  is_one n some = go (n == 0) (nat_lt n first_head) refl refl some
    where
      go : (z b : Bool) → (n == 0) ≡ z → nat_lt n first_head ≡ b →
          IsSome (cond z None (cond b (option_flatten (slice_get m.owners ((n - 1) / 64))) (option_map (λ head. class_of_head n) (head_at m.heads n)))) → IsOne n
      go true b none below some = absurd (false≢true some)
      go false true some_number below some =
          let positive : 0 < n = elim (which n 0) [
            | inl none ↦ absurd (false≢true (sym some_number ∙ eq-eqb n 0 none))
            | inr some_one ↦ omega (arith, some_one)
          ] in
          of_page below positive (within_if m.owners ((n - 1) / 64) (flat_some (slice_get m.owners ((n - 1) / 64)) some))
      go false false some_number above some =
          let is : class_of m n ≡ Some (class_of_head n) =
          (λ i. cond (some_number i) None (cond (above i) (option_flatten (slice_get m.owners ((n - 1) / 64))) (option_map (λ head. class_of_head n) (head_at m.heads n))))
          ∙ same_for_all (head_at m.heads n) (class_of_head n) some in
          of_head above (classes.only n (class_of_head n) is)

  place_page : (n : ℕ) → nat_lt n first_head ≡ true → place_in m n ≡ n - 1
  unfolding place_in
  place_page n below = ap (λ b. cond b (n - 1) (64 * length m.owners + (n - first_head))) below

  place_head : (n : ℕ) → nat_lt n first_head ≡ false → place_in m n ≡ 64 * length m.owners + (n - 2000000)
  unfolding place_in
  place_head n above = ap (λ b. cond b (n - 1) (64 * length m.owners + (n - first_head))) above

  number_below : (n : ℕ) → (n - 1) / 64 < length m.owners → n - 1 < 64 * length m.owners
  number_below n within =
      let low : n - 1 < (n - 1) / 64 * 64 + 64 = lt-div-mul-add (omega arith) in
      omega (arith, low, within)

  place_below : (n : ℕ) → IsOne n → place_in m n < cell_count schema m
  place_below n (of_page below positive within) =
      let number = number_below n within in
      let is = place_page n below in
      omega (arith, number, is)
  place_below n (of_head above there) =
      let low : n - 2000000 < (n - 2000000) / 16 * 16 + 16 = lt-div-mul-add (omega arith) in
      let is = place_head n above in
      omega (arith, low, is, there)

  same_place : (n other : ℕ) → IsOne n → IsOne other → place_in m n ≡ place_in m other → n ≡ other
  same_place n other (of_page below positive within) (of_page below_too positive_too within_too) e =
      let is = place_page n below in
      let is_too = place_page other below_too in
      omega (arith, is, is_too, e, positive, positive_too)
  same_place n other (of_page below positive within) (of_head above there) e =
      let number = number_below n within in
      let is = place_page n below in
      let is_too = place_head other above in
      absurd (omega (arith, is, is_too, e, number))
  same_place n other (of_head above there) (of_page below positive within) e =
      let number = number_below other within in
      let is = place_head n above in
      let is_too = place_page other below in
      absurd (omega (arith, is, is_too, e, number))
  same_place n other (of_head above there) (of_head above_too there_too) e =
      let is = place_head n above in
      let is_too = place_head other above_too in
      let high : 2000000 ≤ n = ltb-false n 2000000 above in
      let high_too : 2000000 ≤ other = ltb-false other 2000000 above_too in
      omega (arith, is, is_too, e, high, high_too)

  -- each cell of a list of pairs once
  Differ : List Pair → Type 0
  Differ [] = Unit {0}
  Differ (p ∷ ps) = (names ps p.at.number ≡ false) × Differ ps

  differ_from : (ps : List Pair) → AreDifferent (numbers_of ps) → Differ ps
  unfolding Differ
  differ_from [] once = tt
  differ_from (p ∷ ps) once = (
    names_none ps p.at.number (λ i below. different-head p.at.number (numbers_of ps) i once below),
    differ_from ps (different-tail p.at.number (numbers_of ps) once),
  )

  places_of : List Pair → List ℕ
  places_of ps = map (λ (p : Pair). place_in m p.at.number) ps

  named_there : (n : ℕ) → IsOne n → (ps : List Pair) → ((k : ℕ) → names ps k ≡ true → IsOne k) → list_any (eqb (place_in m n)) (places_of ps) ≡ true → names ps n ≡ true
  unfolding places_of
  named_there n one [] ones e = absurd (false≢true e)
  named_there n one (p ∷ ps) ones e = elim (or_cases (eqb (place_in m n) (place_in m p.at.number)) (list_any (eqb (place_in m n)) (places_of ps)) e) [
    | inl here ↦
        let same : n ≡ p.at.number = same_place n p.at.number one (ones p.at.number (or_left (p.at.number == p.at.number) (names ps p.at.number) (eq-eqb p.at.number p.at.number refl))) (eqb-true (place_in m n) (place_in m p.at.number) here) in
        or_left (p.at.number == n) (names ps n) (eq-eqb p.at.number n (sym same))
    | inr rest ↦ any_right (p.at.number == n) (names ps n) (named_there n one ps (λ k named. ones k (any_right (p.at.number == k) (names ps k) named)) rest)
  ]

  below_all : (q : ℕ) (ps : List Pair) → ((k : ℕ) → names ps k ≡ true → IsOne k) → list_any (eqb q) (places_of ps) ≡ true → q < cell_count schema m
  unfolding places_of
  below_all q [] ones e = absurd (false≢true e)
  below_all q (p ∷ ps) ones e = elim (or_cases (eqb q (place_in m p.at.number)) (list_any (eqb q) (places_of ps)) e) [
    | inl here ↦
        let below = place_below p.at.number (ones p.at.number (or_left (p.at.number == p.at.number) (names ps p.at.number) (eq-eqb p.at.number p.at.number refl))) in
        let same = eqb-true q (place_in m p.at.number) here in
        omega (arith, below, same)
    | inr rest ↦ below_all q ps (λ k named. ones k (any_right (p.at.number == k) (names ps k) named)) rest
  ]

  all_other : (n : ℕ) (xs : List ℕ) → list_any (eqb n) xs ≡ false → AllByRecursion (λ x. eqb n x ≡ false) xs
  all_other n [] e = tt
  all_other n (x ∷ xs) e = let both = or_parts (eqb n x) (list_any (eqb n) xs) e in (both.0, all_other n xs both.1)

  distinct_places : (ps : List Pair) → Differ ps → ((k : ℕ) → names ps k ≡ true → IsOne k) → IsDistinct eqb (places_of ps)
  unfolding places_of Differ IsDistinct
  distinct_places [] differ ones = tt
  distinct_places (p ∷ ps) differ ones =
      let here = ones p.at.number (or_left (p.at.number == p.at.number) (names ps p.at.number) (eq-eqb p.at.number p.at.number refl)) in
      let rest = λ (k : ℕ) (named : names ps k ≡ true). ones k (any_right (p.at.number == k) (names ps k) named) in (
        all_other (place_in m p.at.number) (places_of ps)
            (false_from_ne_true (list_any (eqb (place_in m p.at.number)) (places_of ps)) (λ e. false≢true (sym differ.0 ∙ named_there p.at.number here ps rest e))),
        distinct_places ps differ.1 rest,
      )

  few_pairs : (ps : List Pair) → Differ ps → ((k : ℕ) → names ps k ≡ true → IsSome (class_of m k)) → length ps ≤ cell_count schema m
  unfolding places_of
  few_pairs ps differ cells =
      let ones = λ (k : ℕ) (named : names ps k ≡ true). is_one k (cells k named) in
      let few = length-le_from_distinct_below (places_of ps) (cell_count schema m) (distinct_places ps differ ones) (λ q e. below_all q ps ones e) in
      let same = length-map ps (λ (p : Pair). place_in m p.at.number) in
      omega (arith, few, same)

  -- the cells of a plan that a record lacks, before those of the record
  lacking : List Pair → Pair → Bool
  lacking logged p = not (names logged p.at.number)

  named_both : (logged plan : List Pair) (n : ℕ) → names (filter (lacking logged) plan ++ logged) n ≡ true → (names plan n ≡ true) ⊎ (names logged n ≡ true)
  unfolding lacking
  named_both logged [] n e = inr e
  named_both logged (p ∷ plan) n e = go (names logged p.at.number) (λ f. named_more p (named_both logged plan n f)) e
    where
      named_more : (q : Pair) → (names plan n ≡ true) ⊎ (names logged n ≡ true) → (names (q ∷ plan) n ≡ true) ⊎ (names logged n ≡ true)
      named_more q (inl named) = inl (any_right (q.at.number == n) (names plan n) named)
      named_more q (inr named) = inr named

      go : (b : Bool) → (names (filter (lacking logged) plan ++ logged) n ≡ true → (names (p ∷ plan) n ≡ true) ⊎ (names logged n ≡ true)) → names (cond (not b) (p ∷ filter (lacking logged) plan) (filter (lacking logged) plan) ++ logged) n ≡ true → (names (p ∷ plan) n ≡ true) ⊎ (names logged n ≡ true)
      go true rest f = rest f
      go false rest f = elim (or_cases (p.at.number == n) (names (filter (lacking logged) plan ++ logged) n) f) [
        | inl here ↦ inl (or_left (p.at.number == n) (names plan n) here)
        | inr later ↦ rest later
      ]

  differ_both : (logged plan : List Pair) → Differ logged → Differ plan → Differ (filter (lacking logged) plan ++ logged)
  unfolding lacking Differ
  differ_both logged [] once differ = once
  differ_both logged (p ∷ plan) once differ = go (names logged p.at.number) refl (differ_both logged plan once differ.1)
    where
      go : (b : Bool) → names logged p.at.number ≡ b → Differ (filter (lacking logged) plan ++ logged) → Differ (cond (not b) (p ∷ filter (lacking logged) plan) (filter (lacking logged) plan) ++ logged)
      go true e rest = rest
      go false e rest = (
        false_from_ne_true (names (filter (lacking logged) plan ++ logged) p.at.number) (λ f. elim (named_both logged plan p.at.number f) [
          | inl named ↦ false≢true (sym differ.0 ∙ named)
          | inr named ↦ false≢true (sym e ∙ named)
        ]),
        rest,
      )

  counted : (logged plan : List Pair) → length (filter (lacking logged) plan) ≡ count_by (λ p. not (names logged p.at.number)) plan
  unfolding lacking
  counted logged [] = refl
  counted logged (p ∷ plan) = go (not (names logged p.at.number)) refl (counted logged plan)
    where
      go : (b : Bool) → not (names logged p.at.number) ≡ b → length (filter (lacking logged) plan) ≡ count_by (λ p. not (names logged p.at.number)) plan
          → length (cond b (p ∷ filter (lacking logged) plan) (filter (lacking logged) plan)) ≡ count_by (λ p. not (names logged p.at.number)) (p ∷ plan)
      go true e rest =
          let sums = sum_by-cons (λ (q : Pair). cond {A = ℕ} (not (names logged q.at.number)) 1 0) p plan in
          let one : cond {A = ℕ} (not (names logged p.at.number)) 1 0 ≡ 1 = ap (λ b. cond {A = ℕ} b 1 0) e in
          omega (arith, sums, one, rest)
      go false e rest =
          let sums = sum_by-cons (λ (q : Pair). cond {A = ℕ} (not (names logged q.at.number)) 1 0) p plan in
          let none : cond {A = ℕ} (not (names logged p.at.number)) 1 0 ≡ 0 = ap (λ b. cond {A = ℕ} b 1 0) e in
          omega (arith, sums, none, rest)

  pub has_places : (hand : Hand) → AreDifferent (numbers_of hand.undo.pairs) → AreDifferent (numbers_of hand.plan.pairs) → ((n : ℕ) → WorksOn hand n → IsSome (class_of m n)) → cell_count schema m ≤ hand.undo.room → HasPlaces hand
  has_places hand logged_once once cells enough =
      let few = few_pairs (filter (lacking hand.undo.pairs) hand.plan.pairs ++ hand.undo.pairs)
      (differ_both hand.undo.pairs hand.plan.pairs (differ_from hand.undo.pairs logged_once) (differ_from hand.plan.pairs once))
      (λ n named. elim (named_both hand.undo.pairs hand.plan.pairs n named) [
        | inl planned ↦ cells n (inr planned)
        | inr logged ↦ cells n (inl logged)
      ]) in
      let both = length-append (filter (lacking hand.undo.pairs) hand.plan.pairs) hand.undo.pairs in
      let count = counted hand.undo.pairs hand.plan.pairs in
      omega (arith, few, both, count, enough)
