-- A page of a region's memory is granted.
use Rattle.std.proofs.Common.{◌≡◌, ◌<◌, ◌≤◌, ◌-◌, ◌/◌, ◌^◌, ℕ, zero, suc, List, [], ◌∷◌, length, set, map, replicate, false, Option, Some, None, IsSome, is_some, slice_get, option_map, option_and_then, inl, inr, refl, sym, ap, subst, ◌∙◌, arith, length-set}
use Rattle.std.specs.Int.{bit_at}
use Rattle.std.specs.Option.{option_flatten}
use Rattle.std.proofs.Permutation.{which}
use Rattle.std.proofs.lemmas.Bool.{false≢true}
use Rattle.std.proofs.lemmas.Option.{slice_get_within}
use Rattle.std.proofs.lemmas.Nat.Bits.{bit_at_ones}
use Rattle.rdb_pages.specs.declared.cell.Cell.{Cell}
use Rattle.rdb_pages.specs.Pages.{zero_cell, zero_page, place_of, cells_of, cell_of, IsUnclaimed, IsRegion}
use Rattle.rdb_pages.proofs.CellLaws.{cell_of-claim_same, cell_of-claim_other}
use Rattle.rdb_space.specs.declared.page.PageState.{PageState}
use Rattle.rdb_space.specs.Bits.{bit_of}
use Rattle.rdb_space.specs.Memory.{RegionCells, image_of, class_of, is_zero_cell, Agrees, IsMemory, NoneClaimed, HasUnowned, IsLowestWithout, AllHaveOwners, GrantsPage}
use Rattle.rdb_schema.specs.declared.schema.Class.{Class}
use Rattle.std.proofs.lemmas.List.{length-map, length-replicate}
use Rattle.rdb_space.specs.Heads.{heads_of}
use Rattle.rdb_space.specs.Space.{PageTable, unowned, granted_to, AllOwned, IsLowestUnowned}
use Rattle.rdb_space.proofs.ListLemmas.{at_set_same, at_set_other, one_at, in_replicate, of_replicate}
use Rattle.rdb_space.proofs.ImageLemmas.{Held, now, sort, image_page, image_head, class_page, class_head, owner_at, held_at}

abbrev owner_of : PageState → Option ℕ
owner_of p = p.owner

pub map_set : (ps : List PageState) (i : ℕ) (p : PageState) → map owner_of (set ps i p) ≡ set (map owner_of ps) i p.owner
map_set [] i p = refl
map_set (x ∷ ps) zero p = refl
map_set (x ∷ ps) (suc i) p = ap (λ (os : List (Option ℕ)). x.owner ∷ os) (map_set ps i p)

-- no page of these is claimed
pub none_claimed : (n : ℕ) → NoneClaimed (replicate n None)
none_claimed n page = elim (in_replicate n page None) [
  | inl some ↦ ap (λ (o : Option (Option (List Cell))). is_some (option_flatten o)) some
  | inr none ↦ ap (λ (o : Option (Option (List Cell))). is_some (option_flatten o)) none
]

-- no page is granted yet
pub map_unowned : (n : ℕ) → map owner_of (replicate n unowned) ≡ replicate n None
map_unowned zero = refl
map_unowned (suc n) = ap (λ (os : List (Option ℕ)). None ∷ os) (map_unowned n)

pub started : (held : Held) (classes : List Class) → NoneClaimed held → IsRegion held → length classes ≤ 64 → IsMemory held (record { pages = replicate (length held) unowned; classes = length classes }) (map heads_of classes)
started held classes none region few = record {
  region = region;
  count = length-replicate (length held) unowned;
  classes = sym (length-map classes heads_of);
  few = subst (λ (k : ℕ). k ≤ 64) (sym (length-map classes heads_of)) few;
  agree = λ i p o p_at o_at. agrees p o (of_replicate (length held) i unowned p p_at) (sym (ap (λ (q : Option (Option (List Cell))). is_some (option_flatten q)) o_at) ∙ none i);
}
  where
    agrees : (p : PageState) (o : Option (List Cell)) → unowned ≡ p → is_some o ≡ false → Agrees p o
    agrees p None is e = sym (ap owner_of is)
    agrees p (Some cells) is e = absurd (false≢true (sym e))

module _ (held : Held) (space : PageTable) (heads : List (List Cell)) (kept : IsMemory held space heads) where
  pub unowned_at : (i : ℕ) → slice_get (now held space heads kept).owners i ≡ Some None → (p : PageState) × (slice_get space.pages i ≡ Some p) × (p.owner ≡ None)
  unowned_at i e = go (slice_get space.pages i) refl (sym (owner_at held space heads kept i) ∙ e)
    where
      go : (o : Option PageState) → slice_get space.pages i ≡ o → option_map owner_of o ≡ Some None → (p : PageState) × (slice_get space.pages i ≡ Some p) × (p.owner ≡ None)
      go None at is = absurd cc
      go (Some p) at is = let none : p.owner ≡ None = cc in (p, at, none)

  pub not_all_owned : HasUnowned (now held space heads kept).owners → ¬ AllOwned space.pages
  not_all_owned left all =
      let found = unowned_at left.0 left.1 in
      false≢true (subst (λ (o : Option ℕ). IsSome o) found.2 (all left.0 found.0 found.1))

  pub lowest_without : (page : ℕ) → IsLowestUnowned space.pages page → IsLowestWithout (now held space heads kept).owners page
  lowest_without page lowest = record {
    here = owner_at held space heads kept page ∙ ap (option_map owner_of) lowest.here.1 ∙ ap Some lowest.here.2;
    below = λ lower low e.
        let found = unowned_at lower e in
        false≢true (subst (λ (o : Option ℕ). IsSome o) found.2 (lowest.below lower found.0 low found.1));
  }

  pub all_have_owners : AllOwned space.pages → AllHaveOwners (now held space heads kept).owners
  all_have_owners all page e =
      let found = unowned_at page e in
      false≢true (subst (λ (o : Option ℕ). IsSome o) found.2 (all page found.0 found.1))

  pub unclaimed : (page : ℕ) → IsLowestUnowned space.pages page → IsUnclaimed held page
  unclaimed page lowest =
      let found = held_at held space heads kept page lowest.here.0 lowest.here.1 in
      (slice_get_within held page found.0 found.1, ap (λ (o : Option (Option (List Cell))). is_some (option_flatten o)) found.1 ∙ empty found.0 lowest.here.0 lowest.here.2 found.2)
    where
      empty : (o : Option (List Cell)) (p : PageState) → p.owner ≡ None → Agrees p o → is_some o ≡ false
      empty None p none agrees = refl
      empty (Some cells) p none agrees = absurd (false≢true (subst (λ (o : Option ℕ). IsSome o) none agrees.0))

  module _ (class page : ℕ) (lowest : IsLowestUnowned space.pages page) where
    abbrev pub held_now : Held
    held_now = set held page (Some zero_page)

    abbrev pub space_now : PageTable
    space_now = record space { pages = set space.pages page (granted_to class) }

    claimable : IsUnclaimed held page
    claimable = unclaimed page lowest

    page_at : page < length space.pages
    page_at = slice_get_within space.pages page lowest.here.0 lowest.here.1

    all_zero : (i : ℕ) (cell : Cell) → slice_get zero_page i ≡ Some cell → bit_at (2 ^ 64 - 1) i ≡ bit_of (is_zero_cell cell)
    all_zero i cell at =
        let within : i < 64 = slice_get_within zero_page i cell at in
        bit_at_ones 64 i within ∙ ap (λ (c : Cell). bit_of (is_zero_cell c)) (of_replicate 64 i zero_cell cell at)

    agrees_new : (p : PageState) (o : Option (List Cell)) → granted_to class ≡ p → Some zero_page ≡ o → Agrees p o
    agrees_new p o is_p is_o = subst (λ (q : PageState). Agrees q o) is_p (subst (λ (z : Option (List Cell)). Agrees (granted_to class) z) is_o (refl, all_zero))

    pub granted : IsRegion held_now → IsMemory held_now space_now heads
    granted region = record {
      region = region;
      count = length-set space.pages page (granted_to class) ∙ kept.count ∙ sym (length-set held page (Some zero_page));
      classes = kept.classes;
      few = kept.few;
      agree = λ i p o p_at o_at. elim (which i page) [
        | inl here ↦
            agrees_new p o
            (one_at (set space.pages page (granted_to class)) page (granted_to class) p (at_set_same space.pages page (granted_to class) page_at) (subst (λ (k : ℕ). slice_get (set space.pages page (granted_to class)) k ≡ Some p) here p_at))
            (one_at held_now page (Some zero_page) o (at_set_same held page (Some zero_page) claimable.0) (subst (λ (k : ℕ). slice_get held_now k ≡ Some o) here o_at))
        | inr elsewhere ↦
            kept.agree i p o (sym (at_set_other space.pages page i (granted_to class) elsewhere) ∙ p_at) (sym (at_set_other held page i (Some zero_page) elsewhere) ∙ o_at)
      ];
    }

    abbrev before : RegionCells
    before = now held space heads kept

    abbrev pub after : RegionCells
    after = record { pages = held_now; owners = set before.owners page (Some class); heads = heads }

    in_region : (n : ℕ) → (n - 1) / 64 ≡ page → n < 2000000
    in_region n is = below n (length held) (subst (λ (k : ℕ). k < length held) (sym is) claimable.0) kept.region.count.1
      where
        below : (k pages : ℕ) → (k - 1) / 64 < pages → pages ≤ 16384 → k < 2000000
        below k pages within most = omega arith

    owners_within : page < length before.owners
    owners_within = slice_get_within before.owners page None (lowest_without page lowest).here

    none_held : (n : ℕ) → (n - 1) / 64 ≡ page → cell_of held (record { number = n }) ≡ None
    none_held n is = ap (λ (k : ℕ). option_and_then (λ (cells : List Cell). slice_get cells (place_of (record { number = n }))) (cells_of held k)) is ∙ go (cells_of held page) claimable.1
      where
        go : (o : Option (List Cell)) → is_some o ≡ false → option_and_then (λ (cells : List Cell). slice_get cells (place_of (record { number = n }))) o ≡ None
        go None e = refl
        go (Some cells) e = absurd (false≢true (sym e))

    pub grants : GrantsPage before after class page
    grants = record {
      was = λ n here. image_page before n here.0 (in_region n here.1) ∙ none_held n here.1;
      zero = λ n here. image_page after n here.0 (in_region n here.1) ∙ cell_of-claim_same held page claimable (record { number = n }) here.1;
      owned = λ n here.
          class_page after n here.0 (in_region n here.1)
          ∙ ap (λ (k : ℕ). option_flatten (slice_get after.owners k)) here.1
          ∙ ap (λ (o : Option (Option ℕ)). option_flatten o) (at_set_same before.owners page (Some class) owners_within);
      cells = λ n apart. elim (sort n) [
        | inl none ↦ subst (λ (k : ℕ). image_of after k ≡ image_of before k) (sym none) refl
        | inr (inl some) ↦
            image_page after n some.0 some.1 ∙ cell_of-claim_other held page claimable (record { number = n }) (λ e. apart (some.0, e)) ∙ sym (image_page before n some.0 some.1)
        | inr (inr head) ↦ image_head after n head ∙ sym (image_head before n head)
      ];
      classes = λ n apart. elim (sort n) [
        | inl none ↦ subst (λ (k : ℕ). class_of after k ≡ class_of before k) (sym none) refl
        | inr (inl some) ↦
            class_page after n some.0 some.1
            ∙ ap option_flatten (at_set_other before.owners page ((n - 1) / 64) (Some class) (λ e. apart (some.0, e)))
            ∙ sym (class_page before n some.0 some.1)
        | inr (inr head) ↦ class_head after n head ∙ sym (class_head before n head)
      ];
    }
