-- The heads of a region: for each class its own head, and then one for each of its indexes.
use Rattle.std.specs.Prelude.{ℕ, ◌-◌, ◌%◌, List, [], ◌∷◌, length, replicate, Option, slice_get, slice_set}
use Rattle.std.specs.Option.{option_and_then, option_map_or}
use Rattle.rdb_pages.specs.declared.cell.Cell.{Cell}
use Rattle.rdb_schema.specs.declared.schema.Class.{Class}
use Rattle.rdb_cells.specs.declared.kind.Kind.{Kind}
use Rattle.rdb_cells.specs.declared.kind.Kind.TheVariants.{ClassHead, IndexHead}
use Rattle.rdb_cells.specs.References.{first_head, heads_of_a_class, class_of_head}
use Rattle.rdb_cells.specs.Words.{number_of}

-- a head that leads nowhere: its kind, and zeros
abbrev pub empty_head_of : Kind → Cell
empty_head_of kind = record { words = number_of kind ∷ replicate 15 0 }

-- the heads of a class without an object
abbrev pub heads_of : Class → List Cell
heads_of class = empty_head_of ClassHead ∷ replicate (length class.indexes) (empty_head_of IndexHead)

-- the place of a head among those of its class
abbrev pub place_of_head : ℕ → ℕ
place_of_head n = (n - first_head) % heads_of_a_class

-- the head with a number, if there is one
abbrev pub head_at : List (List Cell) → ℕ → Option Cell
head_at heads n = option_and_then (λ own. slice_get own (place_of_head n)) (slice_get heads (class_of_head n))

-- the heads of a class, and none where there is no such class
abbrev pub heads_in : List (List Cell) → ℕ → List Cell
heads_in heads class = option_map_or (λ own. own) (slice_get heads class) []

-- the heads with another cell in one of them
abbrev pub with_head : List (List Cell) → ℕ → Cell → List (List Cell)
with_head heads n cell = slice_set heads (class_of_head n) (slice_set (heads_in heads (class_of_head n)) (place_of_head n) cell)
