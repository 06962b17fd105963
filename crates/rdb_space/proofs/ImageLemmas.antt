-- What a region's memory holds, page by page and head by head.
use Rattle.std.proofs.Common.{◌≡◌, ◌<◌, ◌≤◌, ◌⊎◌, ◌-◌, ◌/◌, ◌^◌, ◌==◌, ℕ, suc, List, [], ◌∷◌, length, map, Bool, true, false, cond, Option, Some, None, IsSome, IsSomeAnd, is_some, slice_get, count_by, count_ones, nat_lt, option_map, option_and_then, inl, inr, refl, sym, ap, subst, ◌∙◌, arith}
use Rattle.std.specs.Int.{bit_at}
use Rattle.std.specs.Option.{option_flatten}
use Rattle.std.specs.Cmp.Lexicographic.{bytes_decides}
use Rattle.std.proofs.lemmas.Bool.{cases_lt, ne_eqb, lt-ltb, le-ltb, false≢true}
use Rattle.std.proofs.lemmas.Option.{slice_get_within, slice_get-map, slice_get_past}
use Rattle.std.proofs.lemmas.List.Sums.{sum_by-cons}
use Rattle.std.proofs.lemmas.Nat.Bits.{bit_at_lowest, bit_at-suc}
use lib.Count.{ones_step, ones-ones}
use native.Mathlib.Nat.{pow-suc}
use Rattle.rdb_pages.specs.declared.cell.Cell.{Cell}
use Rattle.rdb_pages.specs.declared.cell.CellRef.{CellRef}
use Rattle.rdb_pages.specs.Pages.{zero_cell, page_of, place_of, cells_of, cell_of, IsClaimed}
use Rattle.rdb_pages.proofs.CellLaws.{cell_named}
use Rattle.rdb_cells.specs.Images.{AreBounded}
use Rattle.rdb_cells.specs.References.{class_of_head}
use Rattle.rdb_space.specs.declared.page.PageState.{PageState}
use Rattle.rdb_space.specs.Bits.{bit_of}
use Rattle.rdb_space.specs.Heads.{head_at, place_of_head}
use Rattle.rdb_space.specs.Memory.{RegionCells, image_of, class_of, is_zero_cell, Agrees, IsMemory}
use Rattle.rdb_space.specs.Space.{PageTable}
use Rattle.rdb_space.proofs.ListLemmas.{there}

abbrev pub Held : Type 0
Held = List (Option (List Cell))

-- the three sorts of numbers
abbrev pub Sort : ℕ → Type 0
Sort n = (n ≡ 0) ⊎ (((0 < n) × (n < 2000000)) ⊎ (2000000 ≤ n))

pub sort : (n : ℕ) → Sort n
sort n = elim (cases_lt 0 n) [
  | inl some ↦ elim (cases_lt n 2000000) [
    | inl page ↦ inr (inl (some, page))
    | inr head ↦ inr (inr head)
  ]
  | inr none ↦ inl (omega arith)
]

not_zero : (n : ℕ) → 0 < n → (n == 0) ≡ false
not_zero n some = ne_eqb n 0 (λ e. not_none n some e)
  where
    not_none : (k : ℕ) → 0 < k → k ≡ 0 → ⊥
    not_none k more e = omega arith

second : {X : Type 0} (a b : Bool) (x y z : X) → a ≡ false → b ≡ true → cond a x (cond b y z) ≡ y
second a b x y z isnt is = ap (λ (c : Bool). cond c x (cond b y z)) isnt ∙ ap (λ (c : Bool). cond c y z) is

third : {X : Type 0} (a b : Bool) (x y z : X) → a ≡ false → b ≡ false → cond a x (cond b y z) ≡ z
third a b x y z isnt neither = ap (λ (c : Bool). cond c x (cond b y z)) isnt ∙ ap (λ (c : Bool). cond c y z) neither

module _ (m : RegionCells) where
  pub image_page : (n : ℕ) → 0 < n → n < 2000000 → image_of m n ≡ cell_of m.pages (record { number = n })
  image_page n low high = second (n == 0) (nat_lt n 2000000) None (cell_of m.pages (record { number = n })) (head_at m.heads n) (not_zero n low) (lt-ltb n 2000000 high)

  pub image_head : (n : ℕ) → 2000000 ≤ n → image_of m n ≡ head_at m.heads n
  image_head n high = third (n == 0) (nat_lt n 2000000) None (cell_of m.pages (record { number = n })) (head_at m.heads n) (not_zero n (omega arith)) (le-ltb n 2000000 high)

  pub class_page : (n : ℕ) → 0 < n → n < 2000000 → class_of m n ≡ option_flatten (slice_get m.owners ((n - 1) / 64))
  class_page n low high = second (n == 0) (nat_lt n 2000000) None (option_flatten (slice_get m.owners ((n - 1) / 64))) (option_map (λ (head : Cell). class_of_head n) (head_at m.heads n)) (not_zero n low) (lt-ltb n 2000000 high)

  pub class_head : (n : ℕ) → 2000000 ≤ n → class_of m n ≡ option_map (λ (head : Cell). class_of_head n) (head_at m.heads n)
  class_head n high = third (n == 0) (nat_lt n 2000000) None (option_flatten (slice_get m.owners ((n - 1) / 64))) (option_map (λ (head : Cell). class_of_head n) (head_at m.heads n)) (not_zero n (omega arith)) (le-ltb n 2000000 high)

-- a cell of a page stands in a claimed one
pub claimed_by : (held : Held) (at : CellRef) → IsSome (cell_of held at) → IsClaimed held (page_of at)
claimed_by held at some = go (cells_of held (page_of at)) some
  where
    go : (o : Option (List Cell)) → IsSome (option_and_then (λ (cells : List Cell). slice_get cells (place_of at)) o) → is_some o ≡ true
    go None none = absurd (false≢true none)
    go (Some cells) found = refl

pub page_within : (held : Held) (page : ℕ) → IsClaimed held page → page < length held
page_within held page claimed = elim (cases_lt page (length held)) [
  | inl within ↦ within
  | inr past ↦ absurd (false≢true (subst (λ (o : Option (Option (List Cell))). is_some (option_flatten o) ≡ true) (slice_get_past held page past) claimed))
]

-- a head stands among those of a class
pub head_there : (heads : List (List Cell)) (n : ℕ) → IsSome (head_at heads n) → (own : List Cell) × (slice_get heads (class_of_head n) ≡ Some own) × ((head : Cell) × (slice_get own (place_of_head n) ≡ Some head))
head_there heads n some = go (slice_get heads (class_of_head n)) refl some
  where
    place : (own : List Cell) (o : Option Cell) → slice_get own (place_of_head n) ≡ o → IsSome o → (head : Cell) × (slice_get own (place_of_head n) ≡ Some head)
    place own None e none = absurd (false≢true none)
    place own (Some head) e found = (head, e)

    go : (o : Option (List Cell)) → slice_get heads (class_of_head n) ≡ o → IsSome (option_and_then (λ (own : List Cell). slice_get own (place_of_head n)) o) → (own : List Cell) × (slice_get heads (class_of_head n) ≡ Some own) × ((head : Cell) × (slice_get own (place_of_head n) ≡ Some head))
    go None e none = absurd (false≢true none)
    go (Some own) e found = let at = place own (slice_get own (place_of_head n)) refl found in (own, e, at)

-- zero cells
zero_decides : (cell : Cell) → (is_zero_cell cell ≡ true → cell ≡ zero_cell) × (cell ≡ zero_cell → is_zero_cell cell ≡ true)
zero_decides cell =
    let words = bytes_decides cell.words zero_cell.words in
    (λ e. ap (λ (ws : List ℕ). record { words = ws }) (words.0 e), λ e. words.1 (ap (λ (c : Cell). c.words) e))

pub is_zero_yes : (cell : Cell) → is_zero_cell cell ≡ true → cell ≡ zero_cell
is_zero_yes cell = (zero_decides cell).0

pub zero_is : (b : Bool) (cell : Cell) → (b ≡ true → cell ≡ zero_cell) × (cell ≡ zero_cell → b ≡ true) → b ≡ is_zero_cell cell
zero_is true cell decides = sym ((zero_decides cell).1 (decides.0 refl))
zero_is false cell decides = go (is_zero_cell cell) refl
  where
    go : (b : Bool) → is_zero_cell cell ≡ b → false ≡ is_zero_cell cell
    go true e = absurd (false≢true (decides.1 ((zero_decides cell).0 e)))
    go false e = sym e

-- the free cells of a page are as many as the bits of its free map that are set
bit_cond : (b : Bool) → bit_of b ≡ cond b 1 0
bit_cond true = refl
bit_cond false = refl

pub ones_are : (cells : List Cell) (free : ℕ) → free < 2 ^ length cells → ((i : ℕ) (cell : Cell) → slice_get cells i ≡ Some cell → bit_at free i ≡ bit_of (is_zero_cell cell)) → count_ones free ≡ count_by is_zero_cell cells
ones_are [] free small bits =
    let none : free ≡ 0 = omega arith in
    ap count_ones none ∙ ones-ones 0
ones_are (cell ∷ cells) free small bits =
    let rest = ones_are cells (free / 2) (omega (arith, pow-suc 2 (length cells))) (λ i c at. sym (bit_at-suc free i) ∙ bits (suc i) c at) in
    let lowest = bits 0 cell refl in
    let one = bit_cond (is_zero_cell cell) in
    let low = bit_at_lowest free in
    let step = ones_step free in
    let sums = sum_by-cons (λ (c : Cell). cond (is_zero_cell c) 1 0) cell cells in
    omega arith

agrees_claimed : (p : PageState) (o : Option (List Cell)) → Agrees p o → is_some o ≡ is_some p.owner
agrees_claimed p None agrees = sym (ap (λ (w : Option ℕ). is_some w) agrees)
agrees_claimed p (Some cells) agrees = sym agrees.0

-- a table of pages beside the pages themselves
module _ (held : Held) (space : PageTable) (heads : List (List Cell)) (kept : IsMemory held space heads) where
  abbrev pub now : RegionCells
  now = record { pages = held; owners = map (λ p. p.owner) space.pages; heads = heads }

  pub owner_at : (i : ℕ) → slice_get now.owners i ≡ option_map (λ (p : PageState). p.owner) (slice_get space.pages i)
  owner_at i = slice_get-map (λ (p : PageState). p.owner) space.pages i

  pub held_at : (i : ℕ) (p : PageState) → slice_get space.pages i ≡ Some p → (o : Option (List Cell)) × (slice_get held i ≡ Some o) × Agrees p o
  held_at i p at =
      let within = slice_get_within space.pages i p at in
      let count = kept.count in
      let found = there held i (omega arith) in
      (found.0, found.1, kept.agree i p found.0 at found.1)

  pub state_at : (i : ℕ) (o : Option (List Cell)) → slice_get held i ≡ Some o → (p : PageState) × (slice_get space.pages i ≡ Some p) × Agrees p o
  state_at i o at =
      let within = slice_get_within held i o at in
      let count = kept.count in
      let found = there space.pages i (omega arith) in
      (found.0, found.1, kept.agree i found.0 o found.1 at)

  -- a page is claimed exactly where it has an owner
  pub claimed_owned : (i : ℕ) → is_some (cells_of held i) ≡ is_some (option_flatten (slice_get now.owners i))
  claimed_owned i = go (slice_get held i) refl ∙ sym (ap (λ (o : Option (Option ℕ)). is_some (option_flatten o)) (owner_at i))
    where
      missing : (q : Option PageState) → slice_get space.pages i ≡ q → slice_get held i ≡ None → false ≡ is_some (option_flatten (option_map (λ (p : PageState). p.owner) q))
      missing None e gone = refl
      missing (Some p) e gone = let found = held_at i p e in let no : None ≡ Some found.0 = sym gone ∙ found.1 in absurd cc

      go : (o : Option (Option (List Cell))) → slice_get held i ≡ o → is_some (option_flatten o) ≡ is_some (option_flatten (option_map (λ (p : PageState). p.owner) (slice_get space.pages i)))
      go None e = missing (slice_get space.pages i) refl e
      go (Some o) e =
          let found = state_at i o e in
          agrees_claimed found.0 o found.2 ∙ sym (ap (λ (q : Option PageState). is_some (option_flatten (option_map (λ (p : PageState). p.owner) q))) found.1)

  pub claimed_as_owned : (i : ℕ) (r : Option ℕ) → IsSomeAnd (slice_get space.pages i) (λ p. r ≡ p.owner) → is_some (cells_of held i) ≡ is_some r
  claimed_as_owned i r is = claimed_owned i ∙ ap (λ (o : Option (Option ℕ)). is_some (option_flatten o)) (owner_at i) ∙ go (slice_get space.pages i) is
    where
      go : (q : Option PageState) → IsSomeAnd q (λ p. r ≡ p.owner) → is_some (option_flatten (option_map (λ (p : PageState). p.owner) q)) ≡ is_some r
      go None none = absurd none
      go (Some p) same = sym (ap (λ (o : Option ℕ). is_some o) same)

  pub cell_of_owned : (n : ℕ) → 0 < n → is_some (option_flatten (slice_get now.owners ((n - 1) / 64))) ≡ true → IsSome (cell_of held (record { number = n }))
  cell_of_owned n low owned =
      let named = cell_named held (record { number = n }) kept.region (low, claimed_owned ((n - 1) / 64) ∙ owned) in
      ap (λ (o : Option Cell). is_some o) named.1

  mapped : (n : ℕ) (o : Option Cell) → IsSome o → option_map (λ (head : Cell). class_of_head n) o ≡ Some (class_of_head n)
  mapped n None none = absurd (false≢true none)
  mapped n (Some head) some = refl

  is_mapped : (n : ℕ) (o : Option Cell) → is_some (option_map (λ (head : Cell). class_of_head n) o) ≡ is_some o
  is_mapped n None = refl
  is_mapped n (Some head) = refl

  -- there is a cell where there is a class of it
  pub class_there : (n : ℕ) → is_some (class_of now n) ≡ is_some (image_of now n)
  class_there n = elim (sort n) [
    | inl zero_is_none ↦ subst (λ (k : ℕ). is_some (class_of now k) ≡ is_some (image_of now k)) (sym zero_is_none) refl
    | inr (inl page) ↦
        ap (λ (o : Option ℕ). is_some o) (class_page now n page.0 page.1) ∙ both_ways (option_flatten (slice_get now.owners ((n - 1) / 64))) (cell_of held (record { number = n })) (cell_of_owned n page.0)
        (λ some. sym (claimed_owned ((n - 1) / 64)) ∙ claimed_by held (record { number = n }) some) ∙ sym (ap (λ (o : Option Cell). is_some o) (image_page now n page.0 page.1))
    | inr (inr head) ↦ ap (λ (o : Option ℕ). is_some o) (class_head now n head) ∙ is_mapped n (head_at heads n) ∙ sym (ap (λ (o : Option Cell). is_some o) (image_head now n head))
  ]
    where
      both_ways : (a : Option ℕ) (b : Option Cell) → (is_some a ≡ true → IsSome b) → (IsSome b → is_some a ≡ true) → is_some a ≡ is_some b
      both_ways None None f g = refl
      both_ways None (Some b) f g = g refl
      both_ways (Some a) None f g = sym (f refl)
      both_ways (Some a) (Some b) f g = refl

  pub are_bounded : AreBounded (image_of now) (class_of now)
  are_bounded = record {
    numbers = λ n some. elim (sort n) [
      | inl none ↦ absurd (false≢true (subst (λ (k : ℕ). IsSome (image_of now k)) none some))
      | inr (inl page) ↦
          let found = subst (λ (o : Option Cell). IsSome o) (image_page now n page.0 page.1) some in
          let within = page_within held ((n - 1) / 64) (claimed_by held (record { number = n }) found) in
          let most = kept.region.count.1 in
          inl (page.0, in_region n (length held) within most)
      | inr (inr head) ↦
          let found = head_there heads n (subst (λ (o : Option Cell). IsSome o) (image_head now n head) some) in
          let within = slice_get_within heads (class_of_head n) found.0 found.1 in
          inr (head, in_heads n (length heads) within kept.few)
    ];
    owned = λ n some. class_there n ∙ some;
    heads = λ n some head. class_head now n head.0 ∙ mapped n (head_at heads n) (subst (λ (o : Option Cell). IsSome o) (image_head now n head.0) some);
    cells = λ n some. sym (class_there n) ∙ some;
  }
    where
      in_region : (n pages : ℕ) → (n - 1) / 64 < pages → pages ≤ 16384 → n ≤ 1048576
      in_region n pages within most = omega arith

      in_heads : (n classes : ℕ) → (n - 2000000) / 16 < classes → classes ≤ 64 → n ≤ 2001023
      in_heads n classes within most = omega arith
