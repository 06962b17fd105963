-- How the counts and sets of pages that are kept for each class agree with the pages.
use Rattle.std.specs.Prelude.{◌≡◌, ◌<◌, ◌≤◌, ℕ, ◌*◌, ◌^◌, ◌==◌, ◌&&◌, List, [], length, slice_get, sum_by, Option, Some, None, Bool, false, count_ones, nat_lt, IsSome, if◌then◌else◌}
use Rattle.std.specs.Option.{option_map_or}
use Rattle.rdb_pages.specs.declared.cell.CellRef.{CellRef}
use Rattle.rdb_pages.specs.Pages.{max_pages, page_cells, ref_of}
use Rattle.rdb_space.specs.Bits.{word_bits, bit_of}
use Rattle.rdb_space.specs.PageSet.{member_bit}
use Rattle.rdb_space.specs.Space.{IsOpen}
use Rattle.rdb_space.specs.declared.class_pages.ClassPages.{ClassPages}
use Rattle.rdb_space.specs.declared.page.PageState.{PageState}

-- the pages below have owners, and the others none
pub record OwnsBelow (pages : List PageState) (count : ℕ) : Type 0 where
  pub within : count ≤ length pages
  pub below : (i : ℕ) (p : PageState) → i < count → slice_get pages i ≡ Some p → IsSome p.owner
  pub above : (i : ℕ) (p : PageState) → count ≤ i → slice_get pages i ≡ Some p → p.owner ≡ None

-- the class owns what has this owner
abbrev pub owns : ℕ → Option ℕ → Bool
owns class None = false
owns class (Some owner) = owner == class

-- the free cells of a page, where the class owns it
abbrev pub free_in : ℕ → PageState → ℕ
free_in class page = if owns class page.owner then count_ones page.free else 0

-- the class owns the page, and some cell of it is free
abbrev pub is_open : ℕ → PageState → Bool
is_open class page = owns class page.owner && nat_lt 0 page.free

-- what is kept of a class: how many of its cells are free, and which of its pages have a free one
abbrev pub free_of : List ClassPages → ℕ → ℕ
free_of classes class = option_map_or (λ own. own.free) (slice_get classes class) 0

abbrev pub with_room_of : List ClassPages → ℕ → List ℕ
with_room_of classes class = option_map_or (λ own. own.with_room) (slice_get classes class) []

-- the pages are owned from the lowest on, by classes that are there, and what is kept of each class is so of its pages
pub record IsTable (pages : List PageState) (classes : List ClassPages) (granted : ℕ) : Type 0 where
  pub count : length pages ≤ max_pages
  pub fits : (i : ℕ) (p : PageState) → slice_get pages i ≡ Some p → p.free < 2 ^ word_bits
  pub owners : OwnsBelow pages granted
  pub numbered : length classes < 2 ^ 32
  pub known : (i owner : ℕ) (p : PageState) → slice_get pages i ≡ Some p → p.owner ≡ Some owner → owner < length classes
  pub wide : (class : ℕ) → class < length classes → length pages ≤ word_bits * length (with_room_of classes class)
  pub free : (class : ℕ) → free_of classes class ≡ sum_by (free_in class) pages
  pub with_room : (class i : ℕ) → member_bit (with_room_of classes class) i ≡ option_map_or (λ p. bit_of (is_open class p)) (slice_get pages i) 0

-- the lowest free cell of a page of the class, from a place on
pub record IsFirstFree (pages : List PageState) (class page from : ℕ) (at : CellRef) : Type 0 where
  pub place : ℕ
  pub state : PageState
  pub here : slice_get pages page ≡ Some state
  pub is : at ≡ ref_of page place
  pub above : from ≤ place
  pub within : place < page_cells
  pub free : IsOpen state class place
  pub first : (lower : ℕ) → from ≤ lower → lower < place → ¬ IsOpen state class lower

-- no cell of the page from a place on is a free one of the class
abbrev pub HasNoneFrom : List PageState → ℕ → ℕ → ℕ → Type 0
HasNoneFrom pages class page from = (p : PageState) (i : ℕ) → slice_get pages page ≡ Some p → from ≤ i → i < page_cells → ¬ IsOpen p class i

-- the lowest page of the class with a free cell, from a page on
pub record IsFirstOpen (pages : List PageState) (class from page : ℕ) : Type 0 where
  pub above : from ≤ page
  pub some : ¬ HasNoneFrom pages class page 0
  pub first : (lower : ℕ) → from ≤ lower → lower < page → HasNoneFrom pages class lower 0

-- no page from this one on has a free cell of the class
abbrev pub HasNoneOpen : List PageState → ℕ → ℕ → Type 0
HasNoneOpen pages class from = (page : ℕ) → from ≤ page → HasNoneFrom pages class page 0
