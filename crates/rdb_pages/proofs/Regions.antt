-- A region stays one as pages are claimed and cells are written, and the table of claimed pages follows.
use Rattle.std.proofs.Common.{◌≡◌, ℕ, zero, suc, ◌<◌, ◌≤◌, ◌⊎◌, inl, inr, List, [], ◌∷◌, length, map, set, get_or, replicate, Bool, true, false, Option, Some, None, slice_get, refl, sym, ap, ◌∙◌, arith, length-set}
use Rattle.std.proofs.lemmas.List.{length-replicate}
use Rattle.std.proofs.lemmas.Option.{slice_get-get_or}
use Rattle.std.specs.Option.{is_some, option_and_then, option_flatten}
use Rattle.rdb_pages.specs.Pages.{place_of, page_of, cells_of, cell_of, IsClaimed, IsUnclaimed, IsRegion}
use Rattle.rdb_pages.specs.declared.cell.Cell.{Cell}
use Rattle.rdb_pages.specs.declared.cell.CellRef.{CellRef}

abbrev pub Held : Type 0
Held = List (Option (List Cell))

-- a page that is written holds what was written, and each other what it held
cells_of-set : (held : Held) (page q : ℕ) (cells : List Cell) → (cells_of (set held page (Some cells)) q ≡ Some cells) ⊎ (cells_of (set held page (Some cells)) q ≡ cells_of held q)
cells_of-set [] page q cells = inr refl
cells_of-set (x ∷ held) zero zero cells = inl refl
cells_of-set (x ∷ held) zero (suc q) cells = inr refl
cells_of-set (x ∷ held) (suc page) zero cells = inr refl
cells_of-set (x ∷ held) (suc page) (suc q) cells = cells_of-set held page q cells

pub IsRegion-set : (held : Held) (page : ℕ) (cells : List Cell) → IsRegion held → length cells ≡ 64 → IsRegion (set held page (Some cells))
IsRegion-set held page cells region long = record {
  count = let same = length-set held page (Some cells) in (omega (arith, region.count), omega (arith, region.count));
  whole = λ q xs e. elim (cells_of-set held page q cells) [
    | inl new ↦ let same : cells ≡ xs = cc in ap length (sym same) ∙ long
    | inr old ↦ region.whole q xs (sym old ∙ e)
  ];
}

cells_of-replicate : (n q : ℕ) → let none : Option (List Cell) = None in cells_of (replicate n none) q ≡ None
cells_of-replicate zero q = refl
cells_of-replicate (suc n) zero = refl
cells_of-replicate (suc n) (suc q) = cells_of-replicate n q

pub IsRegion-replicate : (n : ℕ) → 1 ≤ n → n ≤ 16384 → IsRegion (replicate n None)
IsRegion-replicate n low high = let none : Option (List Cell) = None in let long = length-replicate n none in record {
  count = (omega arith, omega arith);
  whole = λ q xs e. let no = cells_of-replicate n q in absurd cc;
}

pub table-replicate : (n : ℕ) → let none : Option (List Cell) = None in replicate n false ≡ map is_some (replicate n none)
table-replicate zero = refl
table-replicate (suc n) = ap (λ (bs : List Bool). false ∷ bs) (table-replicate n)

pub table-claimed : (held : Held) (page : ℕ) (cells : List Cell) → set (map is_some held) page true ≡ map is_some (set held page (Some cells))
table-claimed [] page cells = refl
table-claimed (x ∷ held) zero cells = refl
table-claimed (x ∷ held) (suc page) cells = ap (λ (bs : List Bool). is_some x ∷ bs) (table-claimed held page cells)

pub table-written : (held : Held) (page : ℕ) (xs cells : List Cell) → slice_get held page ≡ Some (Some xs) → map is_some held ≡ map is_some (set held page (Some cells))
table-written [] page xs cells e = refl
table-written (x ∷ held) zero xs cells e = let is : x ≡ Some xs = cc in ap (λ (c : Option (List Cell)). is_some c ∷ map is_some held) is
table-written (x ∷ held) (suc page) xs cells e = ap (λ (bs : List Bool). is_some x ∷ bs) (table-written held page xs cells e)

-- a claimed page is there
pub claimed_page : (held : Held) (page : ℕ) → IsClaimed held page → (xs : List Cell) × (slice_get held page ≡ Some (Some xs))
claimed_page [] page e = absurd cc
claimed_page (None ∷ held) zero e = absurd cc
claimed_page (Some xs ∷ held) zero e = (xs, refl)
claimed_page (x ∷ held) (suc page) e = claimed_page held page e

-- and an unclaimed one holds nothing
pub unclaimed_page : (held : Held) (page : ℕ) → IsUnclaimed held page → slice_get held page ≡ Some None
unclaimed_page [] page e = absurd (omega (arith, e.0))
unclaimed_page (None ∷ held) zero e = refl
unclaimed_page (Some xs ∷ held) zero e = let no = e.1 in absurd cc
unclaimed_page (x ∷ held) (suc page) e = unclaimed_page held page (omega (arith, e.0), e.1)

pub cells_of-claimed : (held : Held) (page : ℕ) (xs : List Cell) → slice_get held page ≡ Some (Some xs) → cells_of held page ≡ Some xs
cells_of-claimed held page xs e = ap option_flatten e

pub page_length : (held : Held) (page : ℕ) (xs : List Cell) → IsRegion held → slice_get held page ≡ Some (Some xs) → length xs ≡ 64
page_length held page xs region e = region.whole page xs (cells_of-claimed held page xs e)

-- a cell is found in its page
pub cell_found : (held : Held) (at : CellRef) (xs : List Cell) (d : Cell) → IsRegion held → slice_get held (page_of at) ≡ Some (Some xs) → cell_of held at ≡ Some (get_or xs (place_of at) d)
cell_found held at xs d region e =
    let long = page_length held (page_of at) xs region e in let within : place_of at < length xs = omega arith in
    ap (option_and_then (λ (cells : List Cell). slice_get cells (place_of at))) (cells_of-claimed held (page_of at) xs e) ∙ slice_get-get_or xs (place_of at) d within
