-- Which numbers name a cell, and the references of heads.
use Rattle.std.specs.Prelude.{ℕ, ◌+◌, ◌*◌, ◌-◌, ◌/◌, ◌≤◌, ◌⊎◌}
use Rattle.rdb_pages.specs.declared.cell.CellRef.{CellRef}

-- the highest number of a page cell; the lowest is 1
abbrev pub last_page_cell : ℕ
last_page_cell = 1048576

-- the lowest and the highest number of a head
abbrev pub first_head : ℕ
first_head = 2000000

abbrev pub last_head : ℕ
last_head = 2001023

-- how many heads stand in the block of one class
abbrev pub heads_of_a_class : ℕ
heads_of_a_class = 16

-- how many classes a schema can have
abbrev pub max_classes : ℕ
max_classes = 64

-- how many heads of indexes stand in the block of one class
abbrev pub max_indexes : ℕ
max_indexes = 15

-- the number is that of a page cell
abbrev pub IsPageCell : ℕ → Type 0
IsPageCell n = (1 ≤ n) × (n ≤ last_page_cell)

-- the number is that of a head
abbrev pub IsHead : ℕ → Type 0
IsHead n = (first_head ≤ n) × (n ≤ last_head)

-- the number is that of a cell
abbrev pub IsReference : ℕ → Type 0
IsReference n = IsPageCell n ⊎ IsHead n

-- the class in whose block a head stands
abbrev pub class_of_head : ℕ → ℕ
class_of_head n = (n - first_head) / heads_of_a_class

-- the reference of a class's head
abbrev pub class_head_ref : ℕ → CellRef
class_head_ref of = record { number = first_head + heads_of_a_class * of }

-- the reference of an index's head
abbrev pub index_head_ref : ℕ → ℕ → CellRef
index_head_ref of index = record { number = first_head + heads_of_a_class * of + 1 + index }
