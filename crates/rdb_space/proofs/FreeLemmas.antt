-- Which cells of a region's memory are free.
use Rattle.std.proofs.Common.{◌≡◌, ◌<◌, ◌≤◌, ◌-◌, ◌/◌, ◌%◌, ℕ, List, length, Bool, true, false, Option, Some, None, is_some, slice_get, option_map, option_and_then, refl, sym, ap, subst, ◌∙◌, arith}
use Rattle.std.specs.Int.{bit_at}
use Rattle.std.specs.Option.{option_flatten}
use Rattle.std.proofs.lemmas.Option.{slice_get_within}
use Rattle.rdb_pages.specs.declared.cell.Cell.{Cell}
use Rattle.rdb_pages.specs.Pages.{zero_cell, cell_of}
use Rattle.rdb_cells.specs.Images.{IsFree, IsNextFree}
use Rattle.rdb_space.specs.declared.page.PageState.{PageState}
use Rattle.rdb_space.specs.Bits.{bit_of}
use Rattle.rdb_space.specs.Memory.{image_of, class_of, is_zero_cell, Agrees, IsMemory}
use Rattle.rdb_space.specs.Space.{PageTable, IsOpen, IsFreeIn, IsNextFreeIn}
use Rattle.rdb_space.proofs.ListLemmas.{there}
use Rattle.rdb_space.proofs.ImageLemmas.{Held, now, image_page, class_page, owner_at, held_at, claimed_by, page_within, is_zero_yes}

pub one_true : (b : Bool) → bit_of b ≡ 1 → b ≡ true
one_true true e = refl
one_true false e = absurd (omega arith)

module _ (held : Held) (space : PageTable) (heads : List (List Cell)) (kept : IsMemory held space heads) (class n : ℕ) where
  page : ℕ
  page = (n - 1) / 64

  place : ℕ
  place = (n - 1) % 64

  small : (pages : ℕ) → (n - 1) / 64 < pages → pages ≤ 16384 → n ≤ 1048576
  small pages within most = omega arith

  below_heads : n ≤ 1048576 → n < 2000000
  below_heads most = omega arith

  in_page : (n - 1) % 64 < 64
  in_page = omega arith

  cell_in : (cells : List Cell) → slice_get held ((n - 1) / 64) ≡ Some (Some cells) → cell_of held (record { number = n }) ≡ slice_get cells ((n - 1) % 64)
  cell_in cells e = ap (λ (o : Option (Option (List Cell))). option_and_then (λ (cs : List Cell). slice_get cs ((n - 1) % 64)) (option_flatten o)) e

  class_in : (p : PageState) → slice_get space.pages ((n - 1) / 64) ≡ Some p → option_flatten (slice_get (now held space heads kept).owners ((n - 1) / 64)) ≡ p.owner
  class_in p e = ap option_flatten (owner_at held space heads kept ((n - 1) / 64) ∙ ap (option_map (λ (q : PageState). q.owner)) e)

  pub free_to : IsFreeIn space.pages class n → IsFree (image_of (now held space heads kept)) (class_of (now held space heads kept)) class n
  free_to free =
      let p = free.page.0 in
      let p_at = free.page.1 in
      let opened = free.page.2 in
      let found = held_at held space heads kept ((n - 1) / 64) p p_at in
      let within = slice_get_within held ((n - 1) / 64) found.0 found.1 in
      let most = small (length held) within kept.region.count.1 in
      record {
        zero = image_page (now held space heads kept) n free.some (below_heads most) ∙ holds found.0 p opened found.1 found.2;
        class = class_page (now held space heads kept) n free.some (below_heads most) ∙ class_in p p_at ∙ opened.owned;
        page = (free.some, most);
      }
    where
      holds : (o : Option (List Cell)) (p : PageState) → IsOpen p class ((n - 1) % 64) → slice_get held ((n - 1) / 64) ≡ Some o → Agrees p o → cell_of held (record { number = n }) ≡ Some zero_cell
      holds None p opened e agrees = let clash : None ≡ Some class = sym agrees ∙ opened.owned in absurd cc
      holds (Some cells) p opened e agrees =
          let long = kept.region.whole ((n - 1) / 64) cells (ap option_flatten e) in
          let cell = there cells ((n - 1) % 64) (subst (λ (k : ℕ). (n - 1) % 64 < k) (sym long) in_page) in
          let bit = sym (agrees.1 ((n - 1) % 64) cell.0 cell.1) ∙ opened.bit in
          cell_in cells e ∙ cell.1 ∙ ap Some (is_zero_yes cell.0 (one_true (is_zero_cell cell.0) bit))

  pub free_from : IsFree (image_of (now held space heads kept)) (class_of (now held space heads kept)) class n → IsFreeIn space.pages class n
  free_from free =
      let low = free.page.0 in
      let high = below_heads free.page.1 in
      let holds = sym (image_page (now held space heads kept) n low high) ∙ free.zero in
      let owned = sym (class_page (now held space heads kept) n low high) ∙ free.class in
      let within = page_within held ((n - 1) / 64) (claimed_by held (record { number = n }) (ap (λ (o : Option Cell). is_some o) holds)) in
      let at = there space.pages ((n - 1) / 64) (subst (λ (k : ℕ). (n - 1) / 64 < k) (sym kept.count) within) in
      let is_owned = sym (class_in at.0 at.1) ∙ owned in
      let found = held_at held space heads kept ((n - 1) / 64) at.0 at.1 in
      record { some = low; page = (at.0, at.1, record { owned = is_owned; bit = opened found.0 at.0 is_owned holds found.1 found.2 }) }
    where
      opened : (o : Option (List Cell)) (p : PageState) → p.owner ≡ Some class → cell_of held (record { number = n }) ≡ Some zero_cell → slice_get held ((n - 1) / 64) ≡ Some o → Agrees p o → bit_at p.free ((n - 1) % 64) ≡ 1
      opened None p owned holds e agrees = let clash : None ≡ Some class = sym agrees ∙ owned in absurd cc
      opened (Some cells) p owned holds e agrees = agrees.1 ((n - 1) % 64) zero_cell (sym (cell_in cells e) ∙ holds)

module _ (held : Held) (space : PageTable) (heads : List (List Cell)) (kept : IsMemory held space heads) (class start : ℕ) where
  pub next_free : (n : ℕ) → IsNextFreeIn space.pages class start n → IsNextFree (image_of (now held space heads kept)) (class_of (now held space heads kept)) class start n
  next_free n next = record {
    above = next.above;
    free = free_to held space heads kept class n next.free;
    lowest = λ lower low high free. next.lowest lower low high (free_from held space heads kept class lower free);
  }

  pub none_free : ((n : ℕ) → start < n → ¬ IsFreeIn space.pages class n) → (n : ℕ) → start < n → ¬ IsFree (image_of (now held space heads kept)) (class_of (now held space heads kept)) class n
  none_free none n low free = none n low (free_from held space heads kept class n free)
