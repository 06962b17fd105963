-- A region seen as the list of its pages: a claimed page is the list of its 64 cells, an unclaimed one is `None`.
use Rattle.std.specs.Prelude.{◌≡◌, ℕ, ◌+◌, ◌*◌, ◌/◌, ◌%◌, ◌-◌, ◌<◌, ◌≤◌, List, length, replicate, slice_get, slice_set, Option, true, false, is_some}
use Rattle.std.specs.Option.{option_and_then, option_flatten, option_map, ForSome}
use Rattle.rdb_pages.specs.declared.cell.Cell.{Cell}
use Rattle.rdb_pages.specs.declared.cell.CellRef.{CellRef}

-- the most pages of a region
abbrev pub max_pages : ℕ
max_pages = 16384

-- how many cells a page has
abbrev pub page_cells : ℕ
page_cells = 64

-- a cell whose words are all zero
abbrev pub zero_cell : Cell
zero_cell = record { words = replicate 16 0 }

-- a page of such cells
abbrev pub zero_page : List Cell
zero_page = replicate page_cells zero_cell

-- the page that a cell's reference leads to
abbrev pub page_of : CellRef → ℕ
page_of at = (at.number - 1) / page_cells

-- the cell's place in that page
abbrev pub place_of : CellRef → ℕ
place_of at = (at.number - 1) % page_cells

-- the reference of the cell at a place of a page
abbrev pub ref_of : ℕ → ℕ → CellRef
ref_of page place = record { number = 1 + page_cells * page + place }

-- the cells of a page: none where it is unclaimed, or past the last page
abbrev pub cells_of : List (Option (List Cell)) → ℕ → Option (List Cell)
cells_of held page = option_flatten (slice_get held page)

-- the page is claimed
abbrev pub IsClaimed : List (Option (List Cell)) → ℕ → Type 0
IsClaimed held page = is_some (cells_of held page) ≡ true

-- the page is one of these, and not yet claimed
abbrev pub IsUnclaimed : List (Option (List Cell)) → ℕ → Type 0
IsUnclaimed held page = (page < length held) × (is_some (cells_of held page) ≡ false)

-- at names a cell of a claimed page
abbrev pub NamesCell : List (Option (List Cell)) → CellRef → Type 0
NamesCell held at = (0 < at.number) × IsClaimed held (page_of at)

-- the cell that at names
abbrev pub cell_of : List (Option (List Cell)) → CellRef → Option Cell
cell_of held at = option_and_then (λ cells. slice_get cells (place_of at)) (cells_of held (page_of at))

-- the pages with another cell at the place that at names
abbrev pub with_cell : List (Option (List Cell)) → CellRef → Cell → List (Option (List Cell))
with_cell held at cell = slice_set held (page_of at) (option_map (λ cells. slice_set cells (place_of at) cell) (cells_of held (page_of at)))

-- there are 1 to `max_pages` pages, and each that is claimed has `page_cells` cells
pub record IsRegion (held : List (Option (List Cell))) : Type 0 where
  pub count : (1 ≤ length held) × (length held ≤ max_pages)
  pub whole : (page : ℕ) → ForSome (cells_of held page) (λ cells. length cells ≡ page_cells)
