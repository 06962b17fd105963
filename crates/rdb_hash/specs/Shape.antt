-- The shape of a hash index in cells: tables of buckets, and a chain of entries in each bucket.
use Rattle.std.specs.Prelude.{◌≡◌, ◌↔◌, ◌+◌, ◌*◌, ◌%◌, ◌++◌, zero, suc, ℕ, List, [], ◌∷◌, length, map, replicate, slice_get, Some}
use Rattle.rdb_pages.specs.declared.cell.Cell.{Cell}
use Rattle.rdb_pages.specs.declared.cell.CellRef.{CellRef}
use Rattle.rdb_cells.specs.declared.kind.Kind.TheVariants as kind
use Rattle.rdb_cells.specs.HashFormat.{table_buckets, table_in, hash_entry_in}
use Rattle.rdb_cells.specs.HeadFormat.{index_roots, index_head_in}
use Rattle.rdb_cells.specs.Images.{Image}
use Rattle.rdb_cells.specs.Index.{Nature}
use Rattle.rdb_cells.specs.Keys.{Sayings, Version, ListsVersions}
use Rattle.rdb_cells.specs.Links.{IsAmong, Node, Placed, segment, start, numbers, StandApart}
use Rattle.rdb_cells.specs.Parts.{hash_part}
use Rattle.rdb_cells.specs.References.{IsPageCell}
use Rattle.rdb_cells.specs.Words.{IsOfKind}

-- how many buckets an index has
abbrev pub buckets : ℕ
buckets = index_roots * table_buckets

-- the number of the bucket of a hash, and of the one at a place of a table
abbrev pub bucket_of : ℕ → ℕ
bucket_of hash = hash % buckets

abbrev pub bucket_number : ℕ → ℕ → ℕ
bucket_number table place = table_buckets * table + place

-- what a cell below the head holds: the buckets of a table, or a version with the hash of its key
pub data Held : Type 0 where
  Buckets : Held
  Entry : CellRef → ℕ → Held

-- a table, with the number of its cell, 0 where it has none, and the entries of each of its buckets
pub record Table : Type 0 where
  pub number : ℕ
  pub buckets : List (List (Placed Held))

-- a table without a cell
abbrev pub no_table : Table
no_table = record { number = 0; buckets = replicate table_buckets [] }

-- the cell is a table that leads to these first entries
pub record IsTableCell (cell : Cell) (links : List ℕ) : Type 0 where
  pub kind : IsOfKind cell kind.HashTable
  pub leads : map (λ r. r.number) (table_in cell).buckets ≡ links

-- the cell is an entry of the version with this hash, and leads to the next one
pub record IsEntryCell (cell : Cell) (version : CellRef) (hash : ℕ) (links : List ℕ) : Type 0 where
  pub kind : IsOfKind cell kind.HashEntry
  pub of_version : (hash_entry_in cell).version ≡ version
  pub has_hash : (hash_entry_in cell).hash ≡ hash
  pub leads : (hash_entry_in cell).next.number ∷ [] ≡ links

-- the cell holds this
abbrev pub IsWritten : Cell → Held → List ℕ → Type 0
IsWritten cell Buckets links = IsTableCell cell links
IsWritten cell (Entry version hash) links = IsEntryCell cell version hash links

-- the node of a table, if it has a cell
abbrev pub own_node : ℕ → List ℕ → List (Node Held)
own_node zero links = []
own_node (suc n) links = record { number = suc n; element = Buckets; links = links } ∷ []

-- where the buckets begin
abbrev pub starts : List (List (Placed Held)) → List ℕ
starts bs = map (λ b. start b 0) bs

-- the nodes of the buckets' entries, those of a table, and those of all tables
abbrev pub bucket_nodes : List (List (Placed Held)) → List (Node Held)
bucket_nodes [] = []
bucket_nodes (b ∷ bs) = segment b 0 ++ bucket_nodes bs

abbrev pub hash_nodes : List Table → List (Node Held)
hash_nodes [] = []
hash_nodes (t ∷ ts) = own_node t.number (starts t.buckets) ++ (bucket_nodes t.buckets ++ hash_nodes ts)

-- the version of an entry, and those of the entries among these nodes
abbrev pub version_in : Held → List CellRef
version_in Buckets = []
version_in (Entry version hash) = version ∷ []

abbrev pub versions_of : List (Node Held) → List CellRef
versions_of [] = []
versions_of (x ∷ xs) = version_in x.element ++ versions_of xs

-- it is an entry whose hash is one of the bucket
abbrev pub IsEntryOf : ℕ → Held → Type 0
IsEntryOf bucket Buckets = ⊥
IsEntryOf bucket (Entry version hash) = bucket_of hash ≡ bucket

-- all are entries of the bucket
abbrev pub AreEntriesOf : ℕ → List (Placed Held) → Type 0
AreEntriesOf bucket [] = Unit {0}
AreEntriesOf bucket (p ∷ ps) = IsEntryOf bucket p.element × AreEntriesOf bucket ps

-- the hash of an entry is that of its version's key
abbrev pub IsHashed : Sayings → Held → Type 0
IsHashed said Buckets = Unit {0}
IsHashed said (Entry version hash) = (v : Version) × (said.version_of version.number ≡ Some v) × (hash ≡ said.hash_of v.key)

abbrev pub AreHashed : Sayings → List (Node Held) → Type 0
AreHashed said [] = Unit {0}
AreHashed said (x ∷ xs) = IsHashed said x.element × AreHashed said xs

-- there are as many buckets as a table has, each with entries of its own, and the table has a cell exactly where one has an entry
pub record IsTable (place : ℕ) (t : Table) : Type 0 where
  pub count : length t.buckets ≡ table_buckets
  pub used : (t.number ≡ 0) ↔ (bucket_nodes t.buckets ≡ [])
  pub entries : (word : ℕ) (b : List (Placed Held)) → slice_get t.buckets word ≡ Some b → AreEntriesOf (bucket_number place word) b

-- the head of an index stands there, and its roots are those of these tables
pub record LeadsTo (image : Image) (head : ℕ) (tables : List Table) : Type 0 where
  pub cell : Cell
  pub here : image head ≡ Some cell
  pub kind : IsOfKind cell kind.IndexHead
  pub leads : map (λ r. r.number) (index_head_in cell).roots ≡ map (λ t. t.number) tables

-- the head leads to these tables, which stand in page cells with the entries of their buckets
pub record AreTables (image : Image) (head : ℕ) (tables : List Table) : Type 0 where
  pub leads : LeadsTo image head tables
  pub apart : StandApart IsWritten image (hash_nodes tables)
  pub shaped : (place : ℕ) (t : Table) → slice_get tables place ≡ Some t → IsTable place t
  pub paged : (n : ℕ) → IsAmong (numbers (hash_nodes tables)) n → IsPageCell n

-- the tables have entries of these versions, with the hashes of their keys, and stand in these cells; and the versions are
-- listed as an index lists them
pub record IsHash (head : ℕ) (said : Sayings) (image : Image) (listed : List CellRef) (nodes : List ℕ) : Type 0 where
  pub tables : List Table
  pub stand : AreTables image head tables
  pub hashed : AreHashed said (hash_nodes tables)
  pub listed_is : listed ≡ versions_of (hash_nodes tables)
  pub nodes_are : nodes ≡ numbers (hash_nodes tables)
  pub versions : ListsVersions said listed

abbrev pub hash_nature : ℕ → ℕ → Nature
hash_nature class head = record { class = class; head = head; part = hash_part; Takes = λ key. Unit {0}; Stands = IsHash head }
