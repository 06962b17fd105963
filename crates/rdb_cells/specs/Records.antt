-- Undo records, and the settled image: the one that is left when the records are taken back.
use Rattle.std.specs.Prelude.{◌≡◌, ◌≢◌, ◌≤◌, ◌⊎◌, ◌==◌, length, ℕ, List, [], ◌∷◌, ◌++◌, Option, Some, None, Bool, true, false, find, map, if◌then◌else◌}
use Rattle.std.specs.List.{list_any}
use Rattle.std.specs.Option.{option_map}
use Rattle.rdb_pages.specs.declared.cell.Cell.{Cell}
use Rattle.rdb_cells.specs.declared.pairs.Pair.{Pair}
use Rattle.rdb_cells.specs.Images.{Image, SameImage, Writes}
use Rattle.rdb_cells.specs.Places.{AreDifferent}

-- pairs of cells and contents, oldest first, and how many may be held
pub record Record : Type 0 where
  pub pairs : List Pair
  pub room : ℕ

-- the numbers of the pairs' cells
abbrev pub numbers_of : List Pair → List ℕ
numbers_of pairs = map (λ p. p.at.number) pairs

-- each cell has one pair, and there is room for all
pub record IsRecord (r : Record) : Type 0 where
  pub once : AreDifferent (numbers_of r.pairs)
  pub within : length r.pairs ≤ r.room

-- some pair is one of this cell
abbrev pub names : List Pair → ℕ → Bool
names pairs n = list_any (λ p. p.at.number == n) pairs

-- the content that the oldest pair of the cell has
abbrev pub content : List Pair → ℕ → Option Cell
content pairs n = option_map (λ p. p.cell) (find (λ p. p.at.number == n) pairs)

-- the pair with this content, if it is one of the cell
abbrev pub with_content : ℕ → Cell → Pair → Pair
with_content n cell p = if p.at.number == n then record p { cell = cell } else p

-- the pairs with another content in those of the cell
abbrev pub replaced : List Pair → ℕ → Cell → List Pair
replaced pairs n cell = map (with_content n cell) pairs

-- the pairs with the pair's content for its cell: in that cell's pair, or in a new last one
abbrev pub with_put : List Pair → Pair → List Pair
with_put pairs p = if names pairs p.at.number then replaced pairs p.at.number p.cell else (pairs ++ p ∷ [])

-- the most cells of a plan
abbrev pub max_plan : ℕ
max_plan = 1024

-- the first that is there
abbrev pub first_of : Option Cell → Option Cell → Option Cell
first_of None other = other
first_of (Some cell) other = Some cell

-- what the cells will hold once the pairs are written
abbrev pub planned : List Pair → Image → Image
planned pairs image n = first_of (content pairs n) (image n)

-- of the pairs, these are left, in their order: those whose content their cell doesn't hold
abbrev pub AreChanges : Image → List Pair → List Pair → Type 0
AreChanges image [] left = left ≡ []
AreChanges image (p ∷ ps) left = ((image p.at.number ≡ Some p.cell) × AreChanges image ps left) ⊎ ((rest : List Pair) × (image p.at.number ≢ Some p.cell) × (left ≡ p ∷ rest) × AreChanges image ps rest)

-- the image with the pair's content in its cell
abbrev pub with_pair : Pair → Image → Image
with_pair p image n = if p.at.number == n then Some p.cell else image n

-- the image with the pairs put back, newest first
abbrev pub taken_back : List Pair → Image → Image
taken_back [] image = image
taken_back (p ∷ ps) image = with_pair p (taken_back ps image)

-- the image with every record taken back
abbrev pub settled : List (List Pair) → Image → Image
settled [] image = image
settled (r ∷ rs) image = taken_back r (settled rs image)

-- some record has a pair of the cell
abbrev pub some_names : List (List Pair) → ℕ → Bool
some_names records n = list_any (λ r. names r n) records

-- no record has a pair of the cell
abbrev pub NoneNames : List (List Pair) → ℕ → Type 0
NoneNames records n = some_names records n ≡ false

-- Among any records of others, of which none has a pair of the cell n, a reader who takes back these and the own record
-- sees afterwards what it saw before.
pub record KeepsSettled (own_before own_after : List Pair) (before after : Image) (n : ℕ) : Type 0 where
  pub seen : (older newer : List (List Pair)) → NoneNames older n → NoneNames newer n → SameImage (settled (newer ++ own_after ∷ older) after) (settled (newer ++ own_before ∷ older) before)

-- the cell is logged: what it held is appended, unless the record names it already
pub record Logs (before after : Record) (image : Image) (n : ℕ) : Type 0 where
  pub again : names before.pairs n ≡ true → after ≡ before
  pub first : names before.pairs n ≡ false → (p : Pair) × (p.at.number ≡ n) × (image n ≡ Some p.cell) × (after ≡ record before { pairs = before.pairs ++ p ∷ [] })

-- the newest pair is put back, and the record is shorter by it
pub record TakesBack (before after : Record) (image_before image_after : Image) : Type 0 where
  pub newest : Pair
  pub shorter : before ≡ record after { pairs = after.pairs ++ newest ∷ [] }
  pub written : Writes image_before image_after newest.at.number newest.cell
  pub settled : KeepsSettled before.pairs after.pairs image_before image_after newest.at.number

-- no two of the records have a pair of one cell
abbrev pub AreApart : List (List Pair) → Type 0
AreApart [] = Unit {0}
AreApart (r ∷ rs) = ((n : ℕ) → names r n ≡ true → NoneNames rs n) × AreApart rs

-- what the first record that names the cell gives it
abbrev pub first_content : List (List Pair) → ℕ → Option Cell
first_content [] n = None
first_content (r ∷ rs) n = first_of (content r n) (first_content rs n)
