-- A binary tree over the bits of keys, and its nodes in cells: branches, which part keys by one bit, and below them the entries
-- of a key, each leading to the next.
use Rattle.std.specs.Prelude.{◌≡◌, ◌++◌, ℕ, List, [], ◌∷◌, Option, Some, None}
use Rattle.rdb_pages.specs.declared.cell.Cell.{Cell}
use Rattle.rdb_pages.specs.declared.cell.CellRef.{CellRef}
use Rattle.rdb_cells.specs.declared.kind.Kind.TheVariants as kind
use Rattle.rdb_cells.specs.Links.{Node, Placed, elements, start}
use Rattle.rdb_cells.specs.PatriciaFormat.{branch_in}
use Rattle.rdb_cells.specs.PlainList.{IsEntry}
use Rattle.rdb_cells.specs.Words.{IsOfKind}

-- what a cell below the head holds: the bit by which keys part, or a version with a key
pub data Held : Type 0 where
  Branch : ℕ → Held
  Entry : CellRef → Held

-- the entries of the versions of one key, the first and the others; or a branch in a cell, with its bit and the tries of the
-- keys in which that is 0 and 1
pub data Trie : Type 0 where
  Entries : Placed CellRef → List (Placed CellRef) → Trie
  Parted : ℕ → ℕ → Trie → Trie → Trie

-- the cell is a branch at the bit, and leads to its two sides
pub record IsBranchCell (cell : Cell) (bit : ℕ) (links : List ℕ) : Type 0 where
  pub kind : IsOfKind cell kind.PatriciaBranch
  pub parts : (branch_in cell).bit ≡ bit
  pub leads : links ≡ (branch_in cell).zero_side.number ∷ (branch_in cell).one_side.number ∷ []

-- the cell holds this
abbrev pub IsWritten : Cell → Held → List ℕ → Type 0
IsWritten cell (Branch bit) links = IsBranchCell cell bit links
IsWritten cell (Entry version) links = IsEntry cell version links

-- where a trie begins
abbrev pub root : Trie → ℕ
root (Entries p ps) = p.number
root (Parted n bit zeros ones) = n

-- the nodes of entries, and of a trie
abbrev pub entry_nodes : List (Placed CellRef) → List (Node Held)
entry_nodes [] = []
entry_nodes (p ∷ ps) = record { number = p.number; element = Entry p.element; links = start ps 0 ∷ [] } ∷ entry_nodes ps

abbrev pub trie_nodes : Trie → List (Node Held)
trie_nodes (Entries p ps) = entry_nodes (p ∷ ps)
trie_nodes (Parted n bit zeros ones) =
    record { number = n; element = Branch bit; links = root zeros ∷ root ones ∷ [] } ∷ (trie_nodes zeros ++ trie_nodes ones)

-- the versions of a trie
abbrev pub versions : Trie → List CellRef
versions (Entries p ps) = p.element ∷ elements ps
versions (Parted n bit zeros ones) = versions zeros ++ versions ones

-- an index without versions has no trie
abbrev pub root_of : Option Trie → ℕ
root_of None = 0
root_of (Some trie) = root trie

abbrev pub nodes_of : Option Trie → List (Node Held)
nodes_of None = []
nodes_of (Some trie) = trie_nodes trie

abbrev pub versions_of : Option Trie → List CellRef
versions_of None = []
versions_of (Some trie) = versions trie
