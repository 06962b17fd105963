-- A cell of a region's memory is written.
use Rattle.std.proofs.Common.{◌≡◌, ◌≢◌, ◌<◌, ◌≤◌, ◌-◌, ◌/◌, ℕ, List, [], length, set, map, Bool, Option, Some, None, IsSome, is_some, slice_get, option_map, option_and_then, inl, inr, refl, sym, ap, subst, ◌∙◌, arith, length-set}
use Rattle.std.specs.Int.{bit_at}
use Rattle.std.specs.Option.{option_flatten, option_map_or}
use Rattle.std.proofs.Permutation.{which}
use Rattle.std.proofs.lemmas.Bool.{false≢true}
use Rattle.std.proofs.lemmas.Option.{slice_get_within, slice_get-map}
use Rattle.rdb_pages.specs.declared.cell.Cell.{Cell}
use Rattle.rdb_pages.specs.declared.cell.CellRef.{CellRef}
use Rattle.rdb_pages.specs.Pages.{page_of, place_of, with_cell, NamesCell, IsRegion}
use Rattle.rdb_pages.proofs.CellLaws.{cell_of-with_cell_same, cell_of-with_cell_other, length-with_cell}
use Rattle.rdb_pages.proofs.Regions.{claimed_page}
use Rattle.rdb_cells.specs.Images.{IsCell, Writes}
use Rattle.rdb_cells.specs.References.{class_of_head}
use Rattle.rdb_space.specs.declared.page.PageState.{PageState}
use Rattle.rdb_space.specs.Bits.{bit_of}
use Rattle.rdb_space.specs.Heads.{head_at, heads_in, with_head, place_of_head}
use Rattle.rdb_space.specs.Memory.{RegionCells, image_of, class_of, is_zero_cell, Agrees, IsMemory}
use Rattle.rdb_space.specs.Space.{PageTable, Follows, Marks, IsOwned}
use Rattle.rdb_space.proofs.ListLemmas.{at_set_same, at_set_other, there, one_at, same_list}
use Rattle.rdb_space.proofs.ImageLemmas.{Held, now, sort, image_page, image_head, class_page, class_head, state_at, claimed_by, head_there}

abbrev owner_of : PageState → Option ℕ
owner_of p = p.owner

-- a cell's number isn't zero
pub cell_some : (m : RegionCells) (n : ℕ) → IsCell (image_of m) n → 0 < n
cell_some m n some = elim (sort n) [
  | inl none ↦ absurd (false≢true (subst (λ (k : ℕ). IsSome (image_of m k)) none some))
  | inr (inl page) ↦ page.0
  | inr (inr head) ↦ omega arith
]

module _ (held : Held) (space : PageTable) (heads : List (List Cell)) (kept : IsMemory held space heads) where
  pub named : (n : ℕ) → n < 2000000 → IsCell (image_of (now held space heads kept)) n → NamesCell held (record { number = n })
  named n high some =
      let low = cell_some (now held space heads kept) n some in
      (low, claimed_by held (record { number = n }) (subst (λ (o : Option Cell). IsSome o) (image_page (now held space heads kept) n low high) some))

  pub owned : (at : CellRef) → NamesCell held at → IsOwned space.pages at
  owned at names =
      let cells = claimed_page held (page_of at) names.1 in
      let found = state_at held space heads kept (page_of at) (Some cells.0) cells.1 in
      (names.0, (found.0, found.1, found.2.0))

  module _ (at : CellRef) (cell : Cell) (free : Bool) (next : PageTable) (names : NamesCell held at)
      (follows : Follows space.pages next.pages at free) (same_classes : next.classes ≡ space.classes) (is_zero : free ≡ is_zero_cell cell) where
    old_cells : (xs : List Cell) × (slice_get held (page_of at) ≡ Some (Some xs))
    old_cells = claimed_page held (page_of at) names.1

    abbrev new_cells : List Cell
    new_cells = set old_cells.0 (place_of at) cell

    written : with_cell held at cell ≡ set held (page_of at) (Some new_cells)
    written = ap (λ (o : Option (Option (List Cell))). set held (page_of at) (option_map (λ (cells : List Cell). set cells (place_of at) cell) (option_flatten o))) old_cells.1

    new_at : slice_get (with_cell held at cell) (page_of at) ≡ Some (Some new_cells)
    new_at = ap (λ (h : Held). slice_get h (page_of at)) written ∙ at_set_same held (page_of at) (Some new_cells) (slice_get_within held (page_of at) (Some old_cells.0) old_cells.1)

    other_at : (i : ℕ) → i ≢ page_of at → slice_get (with_cell held at cell) i ≡ slice_get held i
    other_at i apart = ap (λ (h : Held). slice_get h i) written ∙ at_set_other held (page_of at) i (Some new_cells) apart

    old_state : (p : PageState) × (slice_get space.pages (page_of at) ≡ Some p) × Agrees p (Some old_cells.0)
    old_state = state_at held space heads kept (page_of at) (Some old_cells.0) old_cells.1

    long : length old_cells.0 ≡ 64
    long = kept.region.whole (page_of at) old_cells.0 (ap option_flatten old_cells.1)

    in_page : place_of at < 64
    in_page = omega arith

    bits : (p : PageState) → Marks old_state.0 p (place_of at) free → (i : ℕ) (c : Cell) → slice_get new_cells i ≡ Some c → bit_at p.free i ≡ bit_of (is_zero_cell c)
    bits p marks i c c_at = elim (which i (place_of at)) [
      | inl here ↦
          let there_now = at_set_same old_cells.0 (place_of at) cell (subst (λ (k : ℕ). place_of at < k) (sym long) in_page) in
          let is_c = one_at new_cells (place_of at) cell c there_now (subst (λ (k : ℕ). slice_get new_cells k ≡ Some c) here c_at) in
          ap (bit_at p.free) here ∙ marks.bits.here ∙ ap bit_of is_zero ∙ ap (λ (d : Cell). bit_of (is_zero_cell d)) is_c
      | inr elsewhere ↦
          let was_at = sym (at_set_other old_cells.0 (place_of at) i cell elsewhere) ∙ c_at in
          marks.bits.elsewhere i (subst (λ (k : ℕ). i < k) long (slice_get_within old_cells.0 i c was_at)) elsewhere ∙ old_state.2.1 i c was_at
    ]

    agrees_now : (p : PageState) (o : Option (List Cell)) → Marks old_state.0 p (place_of at) free → Some new_cells ≡ o → Agrees p o
    agrees_now p o marks is_o = subst (λ (z : Option (List Cell)). Agrees p z) is_o (subst (λ (w : Option ℕ). IsSome w) (sym marks.owner) old_state.2.0, bits p marks)

    pub page_kept : IsRegion (with_cell held at cell) → IsMemory (with_cell held at cell) next heads
    page_kept region = record {
      region = region;
      count = follows.count ∙ kept.count ∙ sym (length-with_cell held at cell);
      classes = same_classes ∙ kept.classes;
      few = kept.few;
      agree = λ i p o p_at o_at. elim (which i (page_of at)) [
        | inl here ↦
            agrees_now p o (follows.here old_state.0 p old_state.1 (subst (λ (k : ℕ). slice_get next.pages k ≡ Some p) here p_at))
            (one_at (with_cell held at cell) (page_of at) (Some new_cells) o new_at (subst (λ (k : ℕ). slice_get (with_cell held at cell) k ≡ Some o) here o_at))
        | inr elsewhere ↦ kept.agree i p o (sym (follows.elsewhere i elsewhere) ∙ p_at) (sym (other_at i elsewhere) ∙ o_at)
      ];
    }

    abbrev before : RegionCells
    before = now held space heads kept

    abbrev pub after : RegionCells
    after = record { pages = with_cell held at cell; owners = map owner_of next.pages; heads = heads }

    pub page_written : at.number < 2000000 → Writes (image_of before) (image_of after) at.number cell
    page_written high = record {
      here = image_page after at.number names.0 high ∙ cell_of-with_cell_same held at cell kept.region names;
      elsewhere = λ n apart. elim (sort n) [
        | inl none ↦ subst (λ (k : ℕ). image_of after k ≡ image_of before k) (sym none) refl
        | inr (inl some) ↦ image_page after n some.0 some.1 ∙ cell_of-with_cell_other held at cell kept.region names (record { number = n }) some.0 apart ∙ sym (image_page before n some.0 some.1)
        | inr (inr head) ↦ image_head after n head ∙ sym (image_head before n head)
      ];
    }

    same_owner : (i : ℕ) → slice_get after.owners i ≡ slice_get before.owners i
    same_owner i = slice_get-map owner_of next.pages i ∙ go ∙ sym (slice_get-map owner_of space.pages i)
      where
        go : option_map owner_of (slice_get next.pages i) ≡ option_map owner_of (slice_get space.pages i)
        go = elim (which i (page_of at)) [
          | inl here ↦ subst (λ (k : ℕ). option_map owner_of (slice_get next.pages k) ≡ option_map owner_of (slice_get space.pages k)) (sym here) (
              let within = slice_get_within space.pages (page_of at) old_state.0 old_state.1 in
              let now_there = there next.pages (page_of at) (subst (λ (k : ℕ). page_of at < k) (sym follows.count) within) in
              let marks = follows.here old_state.0 now_there.0 old_state.1 now_there.1 in
              ap (option_map owner_of) now_there.1 ∙ ap Some marks.owner ∙ sym (ap (option_map owner_of) old_state.1))
          | inr elsewhere ↦ ap (option_map owner_of) (follows.elsewhere i elsewhere)
        ]

    pub page_owners : map owner_of next.pages ≡ map owner_of space.pages
    page_owners = same_list (map owner_of next.pages) (map owner_of space.pages) same_owner

    pub page_classes : (n : ℕ) → class_of after n ≡ class_of before n
    page_classes n = elim (sort n) [
      | inl none ↦ subst (λ (k : ℕ). class_of after k ≡ class_of before k) (sym none) refl
      | inr (inl some) ↦ class_page after n some.0 some.1 ∙ ap option_flatten (same_owner ((n - 1) / 64)) ∙ sym (class_page before n some.0 some.1)
      | inr (inr head) ↦ class_head after n head ∙ sym (class_head before n head)
    ]

-- a head is written
module _ (heads : List (List Cell)) (n : ℕ) (cell : Cell) (high : 2000000 ≤ n) (some : IsSome (head_at heads n)) where
  own : (own : List Cell) × (slice_get heads (class_of_head n) ≡ Some own) × ((head : Cell) × (slice_get own (place_of_head n) ≡ Some head))
  own = head_there heads n some

  abbrev own_now : List Cell
  own_now = set own.0 (place_of_head n) cell

  written_head : with_head heads n cell ≡ set heads (class_of_head n) own_now
  written_head = ap (λ (o : Option (List Cell)). set heads (class_of_head n) (set (option_map_or (λ (l : List Cell). l) o []) (place_of_head n) cell)) own.1

  class_at : slice_get (with_head heads n cell) (class_of_head n) ≡ Some own_now
  class_at = ap (λ (h : List (List Cell)). slice_get h (class_of_head n)) written_head ∙ at_set_same heads (class_of_head n) own_now (slice_get_within heads (class_of_head n) own.0 own.1)

  pub head_here : head_at (with_head heads n cell) n ≡ Some cell
  head_here =
      ap (option_and_then (λ (l : List Cell). slice_get l (place_of_head n))) class_at
      ∙ at_set_same own.0 (place_of_head n) cell (slice_get_within own.0 (place_of_head n) own.2.0 own.2.1)

  one_number : (other : ℕ) → 2000000 ≤ other → class_of_head other ≡ class_of_head n → place_of_head other ≡ place_of_head n → other ≡ n
  one_number other low c p = omega arith

  pub head_other : (other : ℕ) → 2000000 ≤ other → other ≢ n → head_at (with_head heads n cell) other ≡ head_at heads other
  head_other other low apart = elim (which (class_of_head other) (class_of_head n)) [
    | inl same ↦
        ap (λ (k : ℕ). option_and_then (λ (l : List Cell). slice_get l (place_of_head other)) (slice_get (with_head heads n cell) k)) same
        ∙ ap (option_and_then (λ (l : List Cell). slice_get l (place_of_head other))) class_at
        ∙ at_set_other own.0 (place_of_head n) (place_of_head other) cell (λ e. apart (one_number other low same e))
        ∙ sym (ap (λ (k : ℕ). option_and_then (λ (l : List Cell). slice_get l (place_of_head other)) (slice_get heads k)) same ∙ ap (option_and_then (λ (l : List Cell). slice_get l (place_of_head other))) own.1)
    | inr different ↦
        ap (option_and_then (λ (l : List Cell). slice_get l (place_of_head other)))
        (ap (λ (h : List (List Cell)). slice_get h (class_of_head other)) written_head ∙ at_set_other heads (class_of_head n) (class_of_head other) own_now different)
  ]

  pub head_count : length (with_head heads n cell) ≡ length heads
  head_count = length-set heads (class_of_head n) (set (heads_in heads (class_of_head n)) (place_of_head n) cell)

  is_head_same : (other : ℕ) → 2000000 ≤ other → is_some (head_at (with_head heads n cell) other) ≡ is_some (head_at heads other)
  is_head_same other low = elim (which other n) [
    | inl same ↦ subst (λ (k : ℕ). is_some (head_at (with_head heads n cell) k) ≡ is_some (head_at heads k)) (sym same) (ap (λ (o : Option Cell). is_some o) head_here ∙ sym some)
    | inr apart ↦ ap (λ (o : Option Cell). is_some o) (head_other other low apart)
  ]

  map_same : (a b : Option Cell) (class : ℕ) → is_some a ≡ is_some b → option_map (λ (head : Cell). class) a ≡ option_map (λ (head : Cell). class) b
  map_same None None class e = refl
  map_same None (Some b) class e = absurd (false≢true e)
  map_same (Some a) None class e = absurd (false≢true (sym e))
  map_same (Some a) (Some b) class e = refl

  module _ (held : Held) (owners : List (Option ℕ)) where
    abbrev was : RegionCells
    was = record { pages = held; owners = owners; heads = heads }

    abbrev is_now : RegionCells
    is_now = record { pages = held; owners = owners; heads = with_head heads n cell }

    pub head_written : Writes (image_of was) (image_of is_now) n cell
    head_written = record {
      here = image_head is_now n high ∙ head_here;
      elsewhere = λ other apart. elim (sort other) [
        | inl none ↦ subst (λ (k : ℕ). image_of is_now k ≡ image_of was k) (sym none) refl
        | inr (inl page) ↦ image_page is_now other page.0 page.1 ∙ sym (image_page was other page.0 page.1)
        | inr (inr head) ↦ image_head is_now other head ∙ head_other other head apart ∙ sym (image_head was other head)
      ];
    }

    pub head_classes : (other : ℕ) → class_of is_now other ≡ class_of was other
    head_classes other = elim (sort other) [
      | inl none ↦ subst (λ (k : ℕ). class_of is_now k ≡ class_of was k) (sym none) refl
      | inr (inl page) ↦ class_page is_now other page.0 page.1 ∙ sym (class_page was other page.0 page.1)
      | inr (inr head) ↦
          class_head is_now other head
          ∙ map_same (head_at (with_head heads n cell) other) (head_at heads other) (class_of_head other) (is_head_same other head)
          ∙ sym (class_head was other head)
    ]

pub heads_kept : (held : Held) (space : PageTable) (heads heads_now : List (List Cell)) → IsMemory held space heads → length heads_now ≡ length heads → IsMemory held space heads_now
heads_kept held space heads heads_now kept same = record {
  region = kept.region;
  count = kept.count;
  classes = kept.classes ∙ sym same;
  few = subst (λ (k : ℕ). k ≤ 64) (sym same) kept.few;
  agree = kept.agree;
}
