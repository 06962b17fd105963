-- Which numbers the cells in plain memory have, and which class each belongs to.
use Rattle.std.proofs.Common.{◌≡◌, ◌<◌, ◌≤◌, ◌-◌, ◌/◌, ◌⊎◌, ℕ, List, length, Option, None, Some, IsSome, inl, inr, refl, sym, subst, arith, rules}
use Rattle.std.proofs.Permutation.{which}
use Rattle.std.proofs.lemmas.Bool.{cases_lt, lt-ltb, le-ltb, ne_eqb, false≢true}
use Rattle.std.proofs.lemmas.Option.{slice_get_cases}
use Rattle.std.specs.List.{slice_get}
use Rattle.rdb_pages.specs.Pages.{page_cells}
use Rattle.rdb_cells.specs.Images.{IsCell, AreBounded}
use Rattle.rdb_cells.specs.Memory.{Memory, IsMemory, memory_image, memory_class}
use Rattle.rdb_cells.specs.References.{first_head, class_of_head}

is_within : {X : Type 0} (xs : List X) (i : ℕ) → IsSome (slice_get xs i) → i < length xs
is_within xs i there = elim (slice_get_cases xs i).1 [
  | inl found ↦ found.1
  | inr past ↦ absurd (false≢true (subst (λ (o : Option _). IsSome o) past.1 there))
]

has_at : {X : Type 0} (xs : List X) (i : ℕ) → i < length xs → IsSome (slice_get xs i)
has_at xs i within = elim (slice_get_cases xs i).1 [
  | inl found ↦ subst (λ (o : Option _). IsSome o) (sym found.2) (search rules)
  | inr past ↦ absurd (omega (arith, past.0))
]

module _ (m : Memory) (is : IsMemory m) where
  -- no cell, one of a page, or a head
  three_ways : (n : ℕ) → (n ≡ 0) ⊎ ((0 < n) × (n < first_head)) ⊎ (first_head ≤ n)
  three_ways n = elim (which n 0) [
    | inl none ↦ inl none
    | inr some ↦ elim (cases_lt n first_head) [
      | inl page ↦ inr (inl (omega arith, page))
      | inr head ↦ inr (inr head)
    ]
  ]

  in_page : (n : ℕ) → 0 < n → n < first_head → memory_image m n ≡ slice_get m.cells (n - 1)
  in_page n some below = rw (ne_eqb n 0 (λ e. omega arith), lt-ltb n first_head below) refl

  in_heads : (n : ℕ) → first_head ≤ n → memory_image m n ≡ slice_get m.heads (n - first_head)
  in_heads n above = rw (ne_eqb n 0 (λ e. omega arith), le-ltb n first_head above) refl

  page_class : (n : ℕ) → 0 < n → n < first_head → memory_class m n ≡ slice_get m.classes ((n - 1) / page_cells)
  page_class n some below = rw (ne_eqb n 0 (λ e. omega arith), lt-ltb n first_head below) refl

  head_class : (n : ℕ) → first_head ≤ n → n - first_head < length m.heads → memory_class m n ≡ Some (class_of_head n)
  head_class n above within = rw (ne_eqb n 0 (λ e. omega arith), le-ltb n first_head above, lt-ltb (n - first_head) (length m.heads) within) refl

  no_class : (n : ℕ) → first_head ≤ n → length m.heads ≤ n - first_head → memory_class m n ≡ None
  no_class n above past = rw (ne_eqb n 0 (λ e. omega arith), le-ltb n first_head above, le-ltb (n - first_head) (length m.heads) past) refl

  page_number : (n : ℕ) → 0 < n → n < first_head → IsCell (memory_image m) n → n - 1 < length m.cells
  page_number n some below there = is_within m.cells (n - 1) (subst (λ (o : Option _). IsSome o) (in_page n some below) there)

  head_number : (n : ℕ) → first_head ≤ n → IsCell (memory_image m) n → n - first_head < length m.heads
  head_number n above there = is_within m.heads (n - first_head) (subst (λ (o : Option _). IsSome o) (in_heads n above) there)

  no_cell : (n : ℕ) → n ≡ 0 → ¬ IsCell (memory_image m) n
  no_cell n zero there = false≢true (subst (λ (k : ℕ). IsCell (memory_image m) k) zero there)

  pub memory_bounded : AreBounded (memory_image m) (memory_class m)
  memory_bounded = record {
    numbers = λ n there. elim (three_ways n) [
      | inl zero ↦ absurd (no_cell n zero there)
      | inr (inl page) ↦
          let within = page_number n page.0 page.1 there in
          let whole = is.whole in
          let few = is.pages in
          inl (omega arith, omega arith)
      | inr (inr head) ↦
          let within = head_number n head there in
          let few = is.heads in
          inr (head, omega arith)
    ];
    owned = λ n there. elim (three_ways n) [
      | inl zero ↦ absurd (no_cell n zero there)
      | inr (inl page) ↦
          let within = page_number n page.0 page.1 there in
          let whole = is.whole in
          subst (λ (o : Option ℕ). IsSome o) (sym (page_class n page.0 page.1)) (has_at m.classes ((n - 1) / page_cells) (omega arith))
      | inr (inr head) ↦ subst (λ (o : Option ℕ). IsSome o) (sym (head_class n head (head_number n head there))) (search rules)
    ];
    heads = λ n there head. head_class n head.0 (head_number n head.0 there);
    cells = λ n owned. elim (three_ways n) [
      | inl zero ↦ absurd (false≢true (subst (λ (k : ℕ). IsSome (memory_class m k)) zero owned))
      | inr (inl page) ↦
          let within = is_within m.classes ((n - 1) / page_cells) (subst (λ (o : Option ℕ). IsSome o) (page_class n page.0 page.1) owned) in
          let whole = is.whole in
          subst (λ (o : Option _). IsSome o) (sym (in_page n page.0 page.1)) (has_at m.cells (n - 1) (omega arith))
      | inr (inr head) ↦ elim (cases_lt (n - first_head) (length m.heads)) [
        | inl within ↦ subst (λ (o : Option _). IsSome o) (sym (in_heads n head)) (has_at m.heads (n - first_head) within)
        | inr past ↦ absurd (false≢true (subst (λ (o : Option ℕ). IsSome o) (no_class n head past) owned))
      ]
    ];
  }
