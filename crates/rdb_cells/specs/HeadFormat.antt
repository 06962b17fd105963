-- The heads of classes and of indexes, as words and as they are read.
use Rattle.std.specs.Prelude.{ℕ, ◌≡◌, ◌∷◌, length, replicate}
use Rattle.rdb_pages.specs.declared.cell.CellRef.{CellRef}
use Rattle.rdb_pages.specs.declared.cell.Cell.{Cell}
use Rattle.rdb_cells.specs.declared.kind.Kind.TheVariants as kind
use Rattle.rdb_cells.specs.declared.formats.heads.ClassHead.{ClassHead}
use Rattle.rdb_cells.specs.declared.formats.heads.IndexHead.{IndexHead}
use Rattle.rdb_cells.specs.Words.{first_word, no_ref, numbers, ref_in, refs_in, blank}

-- the cell of a class's head
abbrev pub class_head_cell : ClassHead → Cell
class_head_cell h = record { words = first_word kind.ClassHead 0 ∷ h.root.number ∷ blank 14 }

-- the class's head that a cell is read as
abbrev pub class_head_in : Cell → ClassHead
class_head_in cell = record { root = ref_in cell 1 }

-- the head of a class that has no object
abbrev pub empty_class_head : ClassHead
empty_class_head = record { root = no_ref }

-- how many roots an index's head has a place for
abbrev pub index_roots : ℕ
index_roots = 15

-- there are so many roots
abbrev pub IsIndexHead : IndexHead → Type 0
IsIndexHead h = length h.roots ≡ index_roots

-- the cell of an index's head
abbrev pub index_head_cell : IndexHead → Cell
index_head_cell h = record { words = first_word kind.IndexHead 0 ∷ numbers h.roots 0 15 }

-- the index's head that a cell is read as
abbrev pub index_head_in : Cell → IndexHead
index_head_in cell = record { roots = refs_in cell 1 15 }

-- the head of an index with one root
abbrev pub rooted_head : CellRef → IndexHead
rooted_head root = record { roots = root ∷ replicate 14 no_ref }

-- the head of an index that lists nothing
abbrev pub empty_index_head : IndexHead
empty_index_head = rooted_head no_ref
