-- The free cells of a class in a region's memory, as one list.
use Rattle.std.proofs.Common.{◌≡◌, ◌<◌, ◌≤◌, ◌+◌, ◌-◌, ◌*◌, ◌/◌, ◌%◌, ◌^◌, ◌==◌, ℕ, List, [], length, Bool, true, false, cond, Option, Some, None, slice_get, sum_by, option_map, refl, sym, ap, subst, ◌∙◌, arith}
use Rattle.std.specs.Int.{bit_at}
use Rattle.std.specs.Option.{option_flatten}
use Rattle.std.proofs.lemmas.Bool.{false≢true, eqb-true, eq-eqb}
use Rattle.std.proofs.lemmas.List.{length-map}
use Rattle.std.proofs.lemmas.Option.{slice_get_within}
use Rattle.rdb_pages.specs.declared.cell.Cell.{Cell}
use Rattle.rdb_cells.specs.Images.{IsFree}
use Rattle.rdb_space.specs.declared.page.PageState.{PageState}
use Rattle.rdb_space.specs.Bits.{bit_of}
use Rattle.rdb_space.specs.Memory.{image_of, class_of, is_zero_cell, Agrees, IsMemory, ListsFree, HasFree, IsRoom}
use Rattle.rdb_space.specs.Space.{PageTable, IsOpen, room_in}
use Rattle.rdb_space.specs.Tables.{free_in}
use Rattle.rdb_space.proofs.FreeLemmas.{free_to, free_from, one_true}
use Rattle.rdb_space.proofs.FreeLists.{IsPart, part_none, page_listed, pages_listed, free_in_page, free_numbers, free_places, room_is_listed, free_is_listed}
use Rattle.rdb_space.proofs.ImageLemmas.{Held, now, state_at, owner_at}
use Rattle.rdb_space.proofs.ListLemmas.{one_at}

module _ (held : Held) (space : PageTable) (heads : List (List Cell)) (kept : IsMemory held space heads) (class : ℕ) where
  abbrev Free : ℕ → Type 0
  Free n = IsFree (image_of (now held space heads kept)) (class_of (now held space heads kept)) class n

  -- the page of a free cell, by the number of the page
  opened : (i n : ℕ) (p : PageState) → slice_get space.pages i ≡ Some p → (n - 1) / 64 ≡ i → Free n → IsOpen p class ((n - 1) % 64)
  opened i n p p_at is free =
      let found = free_from held space heads kept class n free in
      let same = one_at space.pages i found.page.0 p (subst (λ (k : ℕ). slice_get space.pages k ≡ Some found.page.0) is found.page.1) p_at in
      subst (λ (q : PageState). IsOpen q class ((n - 1) % 64)) same found.page.2

  in_page : (i n : ℕ) → 1 + 64 * i ≤ n → n < 1 + 64 * i + 64 → (n - 1) / 64 ≡ i
  in_page i n low high = omega arith

  not_owned : (i : ℕ) (p : PageState) → slice_get space.pages i ≡ Some p → (p.owner ≡ Some class → ⊥) → IsPart Free (1 + 64 * i) (1 + 64 * i + 64) []
  not_owned i p p_at other = part_none Free (1 + 64 * i) (1 + 64 * i + 64) (λ n low high free. other (opened i n p p_at (in_page i n low high) free).owned)

  page_of_number : (i j : ℕ) → j < 64 → (1 + 64 * i + j - 1) / 64 ≡ i
  page_of_number i j small = omega arith

  place_of_number : (i j : ℕ) → j < 64 → (1 + 64 * i + j - 1) % 64 ≡ j
  place_of_number i j small = omega arith

  positive : (i j : ℕ) → 0 < 1 + 64 * i + j
  positive i j = omega arith

  owned_page : (i : ℕ) (p : PageState) (cells : List Cell) → slice_get space.pages i ≡ Some p → slice_get held i ≡ Some (Some cells) → Agrees p (Some cells) → p.owner ≡ Some class
      → IsPart Free (1 + 64 * i) (1 + 64 * i + 64) (free_places (1 + 64 * i) cells)
  owned_page i p cells p_at cells_at agrees is_own =
      let long : length cells ≡ 64 = kept.region.whole i cells (ap option_flatten cells_at) in
      subst (λ (k : ℕ). IsPart Free (1 + 64 * i) (1 + 64 * i + k) (free_places (1 + 64 * i) cells)) long
      (page_listed Free (1 + 64 * i) cells
      (λ j cell at zero_c.
      let small = subst (λ (k : ℕ). j < k) long (slice_get_within cells j cell at) in
      let bit = agrees.1 j cell at ∙ ap bit_of zero_c in
      free_to held space heads kept class (1 + 64 * i + j) (record {
        some = positive i j;
        page = (
          p,
          subst (λ (k : ℕ). slice_get space.pages k ≡ Some p) (sym (page_of_number i j small)) p_at,
          subst (λ (k : ℕ). IsOpen p class k) (sym (place_of_number i j small)) (record { owned = is_own; bit = bit }),
        );
      }))
      (λ j cell at other free.
      let small = subst (λ (k : ℕ). j < k) long (slice_get_within cells j cell at) in
      let found = opened i (1 + 64 * i + j) p p_at (page_of_number i j small) free in
      let bit = subst (λ (k : ℕ). bit_at p.free k ≡ 1) (place_of_number i j small) found.bit in
      false≢true (sym other ∙ one_true (is_zero_cell cell) (sym (agrees.1 j cell at) ∙ bit))))

  each_page : (i : ℕ) (o : Option ℕ) (cells : Option (List Cell)) → slice_get (now held space heads kept).owners i ≡ Some o → slice_get held i ≡ Some cells
      → IsPart Free (1 + 64 * i) (1 + 64 * i + 64) (free_in_page class (1 + 64 * i) o cells)
  each_page i o cells o_at cells_at =
      let found = state_at held space heads kept i cells cells_at in
      let mapped = sym (owner_at held space heads kept i ∙ ap (option_map (λ (q : PageState). q.owner)) found.1) ∙ o_at in
      go o cells (own o found.0 mapped) cells_at found.2
    where
      own : (w : Option ℕ) (p : PageState) → Some p.owner ≡ Some w → p.owner ≡ w
      own w p e = cc

      go : (w : Option ℕ) (c : Option (List Cell)) → (state_at held space heads kept i cells cells_at).0.owner ≡ w → slice_get held i ≡ Some c → Agrees (state_at held space heads kept i cells cells_at).0 c
          → IsPart Free (1 + 64 * i) (1 + 64 * i + 64) (free_in_page class (1 + 64 * i) w c)
      go None c is c_at agrees =
          let found = state_at held space heads kept i cells cells_at in
          not_owned i found.0 found.1 (λ e. clash (sym is ∙ e))
        where
          clash : None ≡ Some class → ⊥
          clash e = cc
      go (Some owner) None is c_at agrees =
          let found = state_at held space heads kept i cells cells_at in
          not_owned i found.0 found.1 (λ e. clash (sym agrees ∙ e))
        where
          clash : None ≡ Some class → ⊥
          clash e = cc
      go (Some owner) (Some cs) is c_at agrees = pick (owner == class) refl
        where
          pick : (b : Bool) → (owner == class) ≡ b → IsPart Free (1 + 64 * i) (1 + 64 * i + 64) (cond b (free_places (1 + 64 * i) cs) [])
          pick true e =
              let found = state_at held space heads kept i cells cells_at in
              owned_page i found.0 cs found.1 c_at agrees (is ∙ ap Some (eqb-true owner class e))
          pick false e =
              let found = state_at held space heads kept i cells cells_at in
              not_owned i found.0 found.1 (λ own_e. false≢true (sym e ∙ same_owner (sym is ∙ own_e)))
            where
              same_owner : Some owner ≡ Some class → (owner == class) ≡ true
              same_owner same = let one : owner ≡ class = cc in eq-eqb owner class one

  abbrev pub all_free : List ℕ
  all_free = free_numbers class 1 (now held space heads kept).owners held

  listed_part : IsPart Free 1 (1 + 64 * length held) all_free
  listed_part = pages_listed Free class 1 (now held space heads kept).owners held (length-map space.pages (λ p. p.owner) ∙ kept.count) each_page

  below_end : (n pages : ℕ) → 0 < n → (n - 1) / 64 < pages → n < 1 + 64 * pages
  below_end n pages low within = omega arith

  pub all_listed : ListsFree (image_of (now held space heads kept)) (class_of (now held space heads kept)) class all_free
  all_listed = record {
    ascending = listed_part.sorted;
    listed = listed_part.have;
    all = λ n free.
        let found = free_from held space heads kept class n free in
        let within = subst (λ (k : ℕ). (n - 1) / 64 < k) kept.count (slice_get_within space.pages ((n - 1) / 64) found.page.0 found.page.1) in
        listed_part.all n found.some (below_end n (length held) found.some within) free;
  }

  pub is_room : ((i : ℕ) (p : PageState) → slice_get space.pages i ≡ Some p → p.free < 2 ^ 64) → IsRoom (image_of (now held space heads kept)) (class_of (now held space heads kept)) (now held space heads kept).owners class (sum_by (room_in class) space.pages)
  is_room small = record {
    free = all_free;
    listed = all_listed;
    room_is = room_is_listed class 1 space.pages held kept.count kept.agree small (λ i cells e. kept.region.whole i cells (ap option_flatten e));
  }

  pub has_free : ((i : ℕ) (p : PageState) → slice_get space.pages i ≡ Some p → p.free < 2 ^ 64) → HasFree (image_of (now held space heads kept)) (class_of (now held space heads kept)) class (sum_by (free_in class) space.pages)
  has_free small = record {
    free = all_free;
    listed = all_listed;
    count_is = free_is_listed class 1 space.pages held kept.count kept.agree small (λ i cells e. kept.region.whole i cells (ap option_flatten e));
  }
