-- What the words of a cell say.
use Rattle.std.specs.Prelude.{◌≡◌, ℕ, ◌+◌, ◌*◌, ◌/◌, ◌%◌, ◌^◌, zero, suc, List, [], ◌∷◌, slice_index, get_or, replicate, Some}
use Rattle.rdb_pages.specs.declared.cell.Cell.{Cell}
use Rattle.rdb_pages.specs.declared.cell.CellRef.{CellRef}
use Rattle.rdb_cells.specs.Images.{Image}
use Rattle.rdb_cells.specs.declared.kind.Kind.{Kind}
use Rattle.rdb_cells.specs.declared.kind.Kind.TheVariants.{Free, Row, Version, Object, HashTable, HashEntry, TreeNode, RtreeNode, PatriciaBranch, PatriciaEntry, ClassHead, IndexHead}

-- the number of a cell's kind: the lowest 8 bits of its first word
abbrev pub kind_number : Cell → ℕ
kind_number cell = slice_index cell.words 0 % 256

-- the number of each kind
abbrev pub number_of : Kind → ℕ
number_of Free = 0
number_of Row = 1
number_of Version = 2
number_of Object = 3
number_of HashTable = 4
number_of HashEntry = 5
number_of TreeNode = 6
number_of RtreeNode = 7
number_of PatriciaBranch = 8
number_of PatriciaEntry = 9
number_of ClassHead = 10
number_of IndexHead = 11

-- the cell is of the kind
abbrev pub IsOfKind : Cell → Kind → Type 0
IsOfKind cell kind = kind_number cell ≡ number_of kind

-- the image has a cell of the kind there
abbrev pub HasKind : Image → Kind → ℕ → Type 0
HasKind image kind n = (cell : Cell) × (image n ≡ Some cell) × IsOfKind cell kind

-- the other 24 bits of the first word
abbrev pub high_of : Cell → ℕ
high_of cell = slice_index cell.words 0 / 256

-- the number in two words, the lower half first
abbrev pub wide_of : Cell → ℕ → ℕ
wide_of cell word = slice_index cell.words word + 2 ^ 32 * slice_index cell.words (word + 1)

-- the first word of a cell of a kind, with the 24 bits above it
abbrev pub first_word : Kind → ℕ → ℕ
first_word kind high = number_of kind + 256 * high

-- the halves of a number of 64 bits
abbrev pub low_half : ℕ → ℕ
low_half n = n % 2 ^ 32

abbrev pub upper_half : ℕ → ℕ
upper_half n = n / 2 ^ 32

-- the reference that names no cell
abbrev pub no_ref : CellRef
no_ref = record { number = 0 }

-- the reference in a word
abbrev pub ref_in : Cell → ℕ → CellRef
ref_in cell word = record { number = slice_index cell.words word }

-- the references in so many words from one on
abbrev pub refs_in : Cell → ℕ → ℕ → List CellRef
refs_in cell word zero = []
refs_in cell word (suc n) = ref_in cell word ∷ refs_in cell (suc word) n

-- the numbers of so many references from a place on
abbrev pub numbers : List CellRef → ℕ → ℕ → List ℕ
numbers refs place zero = []
numbers refs place (suc n) = (get_or refs place no_ref).number ∷ numbers refs (suc place) n

-- so many words that say nothing
abbrev pub blank : ℕ → List ℕ
blank n = replicate n 0
