-- What a claim and a write do to each cell of a region, for the crates above.
--     cell_named                             a cell that is named is there
--     cell_of-with_cell_same, ..-other       after a write: the cell that is named, and each other
--     IsClaimed-with_cell, NamesCell-with_cell, length-with_cell    a write claims no page, and adds none
--     cell_of-claim_same, ..-other           after a claim: the cells of the page, and each other
--     IsClaimed-claim_same, ..-other         a claim claims that page alone
use Rattle.std.proofs.Common.{◌≡◌, ◌≢◌, inl, inr, get_or, ℕ, zero, suc, ◌<◌, List, [], ◌∷◌, length, set, replicate, Option, Some, slice_get, refl, sym, ap, ◌∙◌, arith, length-set}
use Rattle.std.proofs.Permutation.{which}
use Rattle.std.proofs.lemmas.Option.{slice_get_within}
use Rattle.std.specs.Option.{is_some, option_and_then, option_flatten, option_map}
use Rattle.rdb_pages.specs.Pages.{zero_cell, zero_page, page_of, place_of, cells_of, IsClaimed, IsUnclaimed, NamesCell, cell_of, with_cell, IsRegion}
use Rattle.rdb_pages.specs.declared.cell.Cell.{Cell}
use Rattle.rdb_pages.specs.declared.cell.CellRef.{CellRef}
use Rattle.rdb_pages.proofs.Regions.{Held, claimed_page, page_length, cells_of-claimed, cell_found}

module _ {X : Type 0} where
  at_set_same : (xs : List X) (i : ℕ) (x : X) → i < length xs → slice_get (set xs i x) i ≡ Some x
  at_set_same [] i x lt = absurd (omega arith)
  at_set_same (y ∷ xs) zero x lt = refl
  at_set_same (y ∷ xs) (suc i) x lt = at_set_same xs i x (omega arith)

  at_set_other : (xs : List X) (i j : ℕ) (x : X) → j ≢ i → slice_get (set xs i x) j ≡ slice_get xs j
  at_set_other [] i j x ne = refl
  at_set_other (y ∷ xs) zero zero x ne = absurd (ne refl)
  at_set_other (y ∷ xs) zero (suc j) x ne = refl
  at_set_other (y ∷ xs) (suc i) zero x ne = refl
  at_set_other (y ∷ xs) (suc i) (suc j) x ne = at_set_other xs i j x (λ e. ne (ap suc e))

  at_replicate : (n i : ℕ) (x : X) → i < n → slice_get (replicate n x) i ≡ Some x
  at_replicate zero i x lt = absurd (omega arith)
  at_replicate (suc n) zero x lt = refl
  at_replicate (suc n) (suc i) x lt = at_replicate n i x (omega arith)

-- the page of a written list
cells_of-set_same : (held : Held) (page : ℕ) (c : Option (List Cell)) → page < length held → cells_of (set held page c) page ≡ c
cells_of-set_same held page c lt = ap option_flatten (at_set_same held page c lt)

cells_of-set_other : (held : Held) (page q : ℕ) (c : Option (List Cell)) → q ≢ page → cells_of (set held page c) q ≡ cells_of held q
cells_of-set_other held page q c ne = ap option_flatten (at_set_other held page q c ne)

-- two references that lead to one place of one page are one
same_number : (a b : CellRef) → 0 < a.number → 0 < b.number → page_of a ≡ page_of b → place_of a ≡ place_of b → a.number ≡ b.number
same_number a b la lb p q = omega arith

pub cell_named : (held : Held) (at : CellRef) → IsRegion held → NamesCell held at → (c : Cell) × (cell_of held at ≡ Some c)
cell_named held at region named =
    let there = claimed_page held (page_of at) named.1 in
    (get_or there.0 (place_of at) zero_cell, cell_found held at there.0 zero_cell region there.1)

module _ (held : Held) (at : CellRef) (c : Cell) (region : IsRegion held) (named : NamesCell held at) where
  there : (xs : List Cell) × (slice_get held (page_of at) ≡ Some (Some xs))
  there = claimed_page held (page_of at) named.1

  within : page_of at < length held
  within = slice_get_within held (page_of at) (Some there.0) there.1

  -- a write is a write to one page
  written : with_cell held at c ≡ set held (page_of at) (Some (set there.0 (place_of at) c))
  written = ap (λ (o : Option (List Cell)). set held (page_of at) (option_map (λ (cells : List Cell). set cells (place_of at) c) o)) (cells_of-claimed held (page_of at) there.0 there.1)

  page_written : cells_of (with_cell held at c) (page_of at) ≡ Some (set there.0 (place_of at) c)
  page_written = ap (λ (h : Held). cells_of h (page_of at)) written ∙ cells_of-set_same held (page_of at) (Some (set there.0 (place_of at) c)) within

  pub cell_of-with_cell_same : cell_of (with_cell held at c) at ≡ Some c
  cell_of-with_cell_same =
      let long = page_length held (page_of at) there.0 region there.1 in let inside : place_of at < length there.0 = omega arith in
      ap (option_and_then (λ (cells : List Cell). slice_get cells (place_of at))) page_written ∙ at_set_same there.0 (place_of at) c inside

  pub cell_of-with_cell_other : (other : CellRef) → 0 < other.number → other.number ≢ at.number → cell_of (with_cell held at c) other ≡ cell_of held other
  cell_of-with_cell_other other positive ne = elim (which (page_of other) (page_of at)) [
    | inl same ↦
        let apart : place_of other ≢ place_of at = λ e. ne (same_number other at positive named.0 same e) in
        ap (λ (p : ℕ). option_and_then (λ (cells : List Cell). slice_get cells (place_of other)) (cells_of (with_cell held at c) p)) same
        ∙ ap (option_and_then (λ (cells : List Cell). slice_get cells (place_of other))) page_written
        ∙ at_set_other there.0 (place_of at) (place_of other) c apart
        ∙ sym (ap (option_and_then (λ (cells : List Cell). slice_get cells (place_of other))) (ap (cells_of held) same ∙ cells_of-claimed held (page_of at) there.0 there.1))
    | inr different ↦
        ap (option_and_then (λ (cells : List Cell). slice_get cells (place_of other)))
        (ap (λ (h : Held). cells_of h (page_of other)) written ∙ cells_of-set_other held (page_of at) (page_of other) (Some (set there.0 (place_of at) c)) different)
  ]

  pub IsClaimed-with_cell : (page : ℕ) → is_some (cells_of (with_cell held at c) page) ≡ is_some (cells_of held page)
  IsClaimed-with_cell page = elim (which page (page_of at)) [
    | inl same ↦ ap (λ (p : ℕ). is_some (cells_of (with_cell held at c) p)) same ∙ ap is_some page_written ∙ sym (ap (λ (p : ℕ). is_some (cells_of held p)) same ∙ ap is_some (cells_of-claimed held (page_of at) there.0 there.1))
    | inr different ↦ ap is_some (ap (λ (h : Held). cells_of h page) written ∙ cells_of-set_other held (page_of at) page (Some (set there.0 (place_of at) c)) different)
  ]

  pub NamesCell-with_cell : (other : CellRef) → NamesCell held other → NamesCell (with_cell held at c) other
  NamesCell-with_cell other was = (was.0, IsClaimed-with_cell (page_of other) ∙ was.1)

pub length-with_cell : (held : Held) (at : CellRef) (c : Cell) → length (with_cell held at c) ≡ length held
length-with_cell held at c = length-set held (page_of at) (option_map (λ (cells : List Cell). set cells (place_of at) c) (cells_of held (page_of at)))

module _ (held : Held) (page : ℕ) (free : IsUnclaimed held page) where
  abbrev now : Held
  now = set held page (Some zero_page)

  pub cell_of-claim_same : (at : CellRef) → page_of at ≡ page → cell_of now at ≡ Some zero_cell
  cell_of-claim_same at same =
      let inside : place_of at < 64 = omega arith in
      ap (λ (p : ℕ). option_and_then (λ (cells : List Cell). slice_get cells (place_of at)) (cells_of now p)) same
      ∙ ap (option_and_then (λ (cells : List Cell). slice_get cells (place_of at))) (cells_of-set_same held page (Some zero_page) free.0)
      ∙ at_replicate 64 (place_of at) zero_cell inside

  pub cell_of-claim_other : (at : CellRef) → page_of at ≢ page → cell_of now at ≡ cell_of held at
  cell_of-claim_other at different = ap (option_and_then (λ (cells : List Cell). slice_get cells (place_of at))) (cells_of-set_other held page (page_of at) (Some zero_page) different)

  pub IsClaimed-claim_same : IsClaimed now page
  IsClaimed-claim_same = ap is_some (cells_of-set_same held page (Some zero_page) free.0)

  pub IsClaimed-claim_other : (q : ℕ) → q ≢ page → is_some (cells_of now q) ≡ is_some (cells_of held q)
  IsClaimed-claim_other q different = ap is_some (cells_of-set_other held page q (Some zero_page) different)
