-- Page owners and free maps.
use Rattle.std.specs.Prelude.{◌≡◌, ◌≢◌, ◌<◌, ℕ, ◌-◌, ◌^◌, ◌/◌, ◌%◌, ◌==◌, List, length, slice_get, Option, Some, None, Bool, count_ones, IsSome, if◌then◌else◌}
use Rattle.std.specs.Int.{bit_at}
use Rattle.rdb_pages.specs.declared.cell.CellRef.{CellRef}
use Rattle.rdb_pages.specs.Pages.{page_cells, page_of, place_of}
use Rattle.rdb_space.specs.Bits.{WithBit}
use Rattle.rdb_space.specs.declared.page.PageState.{PageState}

-- the pages of a region, and how many classes may own them
pub record PageTable : Type 0 where
  pub pages : List PageState
  pub classes : ℕ

-- a page without an owner
abbrev pub unowned : PageState
unowned = record { owner = None; free = 0 }

-- a page of the class whose 64 cells are free
abbrev pub granted_to : ℕ → PageState
granted_to class = record { owner = Some class; free = 2 ^ 64 - 1 }

-- what a page with this owner adds to the room of a class: all its cells, its free ones, or none
abbrev pub room_of : ℕ → ℕ → Option ℕ → ℕ
room_of class free None = page_cells
room_of class free (Some owner) = if owner == class then count_ones free else 0

abbrev pub room_in : ℕ → PageState → ℕ
room_in class page = room_of class page.free page.owner

-- the class owns the page, and the cell at the place is free
pub record IsOpen (page : PageState) (class place : ℕ) : Type 0 where
  pub owned : page.owner ≡ Some class
  pub bit : bit_at page.free place ≡ 1

-- the page with the cell at the place free or not, and all else as it was
pub record Marks (before after : PageState) (place : ℕ) (free : Bool) : Type 0 where
  pub owner : after.owner ≡ before.owner
  pub bits : WithBit before.free after.free place free

-- no page below has no owner, and this one has none
pub record IsLowestUnowned (pages : List PageState) (page : ℕ) : Type 0 where
  pub here : (p : PageState) × (slice_get pages page ≡ Some p) × (p.owner ≡ None)
  pub below : (i : ℕ) (p : PageState) → i < page → slice_get pages i ≡ Some p → IsSome p.owner

-- every page has an owner
abbrev pub AllOwned : List PageState → Type 0
AllOwned pages = (i : ℕ) (p : PageState) → slice_get pages i ≡ Some p → IsSome p.owner

-- the cell is one of a page that has an owner
abbrev pub IsOwned : List PageState → CellRef → Type 0
IsOwned pages at = (0 < at.number) × ((p : PageState) × (slice_get pages (page_of at) ≡ Some p) × IsSome p.owner)

-- the cell's bit says whether it is free, and all else is as it was
pub record Follows (before after : List PageState) (at : CellRef) (free : Bool) : Type 0 where
  pub count : length after ≡ length before
  pub here : (p q : PageState) → slice_get before (page_of at) ≡ Some p → slice_get after (page_of at) ≡ Some q → Marks p q (place_of at) free
  pub elsewhere : (i : ℕ) → i ≢ page_of at → slice_get after i ≡ slice_get before i

-- the number is that of a free cell in a page of the class
pub record IsFreeIn (pages : List PageState) (class n : ℕ) : Type 0 where
  pub some : 0 < n
  pub page : (p : PageState) × (slice_get pages ((n - 1) / page_cells) ≡ Some p) × IsOpen p class ((n - 1) % page_cells)

-- the lowest such number above another
pub record IsNextFreeIn (pages : List PageState) (class start n : ℕ) : Type 0 where
  pub above : start < n
  pub free : IsFreeIn pages class n
  pub lowest : (lower : ℕ) → start < lower → lower < n → ¬ IsFreeIn pages class lower
