-- The memory of a region: what its cells hold, and to which class each belongs.
use Rattle.std.specs.Prelude.{◌≡◌, ◌≢◌, ◌<◌, ◌≤◌, ℕ, ◌+◌, ◌-◌, ◌*◌, ◌/◌, ◌==◌, List, length, map, replicate, slice_get, count_by, Option, Some, None, Bool, false, not, is_some, IsSome, nat_eq, nat_lt, if◌then◌else◌}
use Rattle.std.specs.Int.{bit_at}
use Rattle.std.specs.Option.{option_flatten, option_map}
use Rattle.std.specs.Cmp.Lexicographic.{pointwise}
use Rattle.rdb_pages.specs.declared.cell.Cell.{Cell}
use Rattle.rdb_pages.specs.Pages.{IsRegion, page_cells, zero_cell, cells_of, cell_of}
use Rattle.std.specs.Ordering.{nat_cmp}
use Rattle.std.specs.List.Sorted.{IsStrictlySortedBy}
use Rattle.rdb_cells.specs.Images.{Image, IsFree}
use Rattle.rdb_cells.specs.References.{first_head, class_of_head, max_classes}
use Rattle.rdb_space.specs.declared.page.PageState.{PageState}
use Rattle.rdb_space.specs.Bits.{bit_of}
use Rattle.rdb_schema.specs.declared.schema.Schema.{Schema}
use Rattle.rdb_space.specs.Heads.{heads_of, head_at}
use Rattle.rdb_space.specs.Space.{PageTable}

-- the pages, each with its cells where it is claimed, their owners, and the heads of each class
pub record RegionCells : Type 0 where
  pub pages : List (Option (List Cell))
  pub owners : List (Option ℕ)
  pub heads : List (List Cell)

-- what the cell with a number holds: one of a claimed page, or a head
abbrev pub image_of : RegionCells → Image
image_of m n = if n == 0 then None else if nat_lt n first_head then cell_of m.pages (record { number = n }) else head_at m.heads n

-- the class of a cell: the owner of its page, or that of the head's block
abbrev pub class_of : RegionCells → ℕ → Option ℕ
class_of m n =
    if n == 0 then None
    else if nat_lt n first_head then option_flatten (slice_get m.owners ((n - 1) / page_cells))
    else option_map (λ head. class_of_head n) (head_at m.heads n)

-- no page is claimed
abbrev pub NoneClaimed : List (Option (List Cell)) → Type 0
NoneClaimed pages = (page : ℕ) → is_some (cells_of pages page) ≡ false

-- the region over these pages of a database without an object: no page has an owner, and all heads are empty
abbrev pub empty_region : List (Option (List Cell)) → Schema → RegionCells
empty_region pages schema = record {
  pages = pages;
  owners = replicate (length pages) None;
  heads = map heads_of schema.classes;
}

-- the cell is all zero
abbrev pub is_zero_cell : Cell → Bool
is_zero_cell cell = pointwise nat_eq cell.words zero_cell.words

-- the class's free cells, in ascending order
pub record ListsFree (image : Image) (class_of : ℕ → Option ℕ) (class : ℕ) (free : List ℕ) : Type 0 where
  pub ascending : IsStrictlySortedBy nat_cmp free
  pub listed : (i n : ℕ) → slice_get free i ≡ Some n → IsFree image class_of class n
  pub all : (n : ℕ) → IsFree image class_of class n → (i : ℕ) × (slice_get free i ≡ Some n)

-- so many cells of the class are free
pub record HasFree (image : Image) (class_of : ℕ → Option ℕ) (class count : ℕ) : Type 0 where
  pub free : List ℕ
  pub listed : ListsFree image class_of class free
  pub count_is : count ≡ length free

-- how many pages have no owner
abbrev pub unowned_in : List (Option ℕ) → ℕ
unowned_in owners = count_by (λ o. not (is_some o)) owners

-- the class's free cells, and 64 for each page without an owner
pub record IsRoom (image : Image) (class_of : ℕ → Option ℕ) (owners : List (Option ℕ)) (class room : ℕ) : Type 0 where
  pub free : List ℕ
  pub listed : ListsFree image class_of class free
  pub room_is : room ≡ length free + page_cells * unowned_in owners

-- some page has no owner
abbrev pub HasUnowned : List (Option ℕ) → Type 0
HasUnowned owners = (page : ℕ) × (slice_get owners page ≡ Some None)

-- the page has none, and each below it has one
pub record IsLowestWithout (owners : List (Option ℕ)) (page : ℕ) : Type 0 where
  pub here : slice_get owners page ≡ Some None
  pub below : (lower : ℕ) → lower < page → slice_get owners lower ≢ Some None

abbrev pub AllHaveOwners : List (Option ℕ) → Type 0
AllHaveOwners owners = (page : ℕ) → slice_get owners page ≢ Some None

-- the number is that of a cell of the page
abbrev pub IsInPage : ℕ → ℕ → Type 0
IsInPage page n = (0 < n) × ((n - 1) / page_cells ≡ page)

-- the page's cells, which were none, are zero now and belong to the class; every other cell stays, and so does its class
pub record GrantsPage (before after : RegionCells) (class page : ℕ) : Type 0 where
  pub was : (n : ℕ) → IsInPage page n → image_of before n ≡ None
  pub zero : (n : ℕ) → IsInPage page n → image_of after n ≡ Some zero_cell
  pub owned : (n : ℕ) → IsInPage page n → class_of after n ≡ Some class
  pub cells : (n : ℕ) → ¬ IsInPage page n → image_of after n ≡ image_of before n
  pub classes : (n : ℕ) → ¬ IsInPage page n → class_of after n ≡ class_of before n

-- A page without an owner is unclaimed. One with an owner is claimed, and a bit is 1 exactly where its cell is zero.
abbrev pub Agrees : PageState → Option (List Cell) → Type 0
Agrees page None = page.owner ≡ None
Agrees page (Some cells) = IsSome page.owner × ((i : ℕ) (cell : Cell) → slice_get cells i ≡ Some cell → bit_at page.free i ≡ bit_of (is_zero_cell cell))

-- as many pages have owners as there are, as many classes can own them as have heads, and each page agrees with its cells
pub record IsMemory (held : List (Option (List Cell))) (space : PageTable) (heads : List (List Cell)) : Type 0 where
  pub region : IsRegion held
  pub count : length space.pages ≡ length held
  pub classes : space.classes ≡ length heads
  pub few : length heads ≤ max_classes
  pub agree : (i : ℕ) (page : PageState) (cells : Option (List Cell)) → slice_get space.pages i ≡ Some page → slice_get held i ≡ Some cells → Agrees page cells
