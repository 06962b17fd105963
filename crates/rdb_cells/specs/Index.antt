-- What an index owes.
use Rattle.std.specs.Prelude.{◌≡◌, ◌≤◌, ◌*◌, ◌⊎◌, ℕ, List, [], ◌∷◌, length, Some, Bool, true, false, Contains, IsPermutation}
use Rattle.rdb_base.specs.declared.value.Value.{Value}
use Rattle.rdb_pages.specs.declared.cell.CellRef.{CellRef}
use Rattle.rdb_pages.specs.Pages.{zero_cell}
use Rattle.rdb_cells.specs.declared.kind.Kind.{Kind}
use Rattle.rdb_cells.specs.declared.kind.Kind.TheVariants as kind
use Rattle.rdb_cells.specs.HeadFormat.{index_head_cell, empty_index_head}
use Rattle.rdb_cells.specs.Images.{Image}
use Rattle.rdb_cells.specs.Keys.{Version, Meaning, Sayings, says, SaySame, IsUnlisted, ListsVersions}
use Rattle.rdb_cells.specs.Links.{IsAmong, AreOf, AreOnce, SameOn}
use Rattle.rdb_cells.specs.Records.{content}
use Rattle.rdb_cells.specs.Words.{HasKind}
use Rattle.rdb_cells.specs.Work.{Work, reading, IsBlank, IsLeft, TakesLowest}

-- the kinds of an index's nodes
abbrev pub is_of_index : Kind → Bool
is_of_index kind.HashTable = true
is_of_index kind.HashEntry = true
is_of_index kind.TreeNode = true
is_of_index kind.RtreeNode = true
is_of_index kind.PatriciaBranch = true
is_of_index kind.PatriciaEntry = true
is_of_index _ = false

-- the cell is one of an index's nodes
abbrev pub IsIndexNode : Image → ℕ → Type 0
IsIndexNode image n = (of : Kind) × (is_of_index of ≡ true) × HasKind image of n

-- What an index is: its class, the number of its head, the most free cells that a `put` takes, and the keys that it takes; and
-- the relation that, by what the keys say, in this image it has its shape, lists these versions, and its nodes beside the head
-- are these cells.
pub record Nature : Type 1 where
  pub class : ℕ
  pub head : ℕ
  pub part : ℕ
  pub Takes : List Value → Type 0
  pub Stands : Sayings → Image → List CellRef → List ℕ → Type 0

-- by its keys the index lists these versions in these nodes
abbrev pub Lists : Nature → Meaning → Image → List CellRef → List ℕ → Type 0
Lists index keys image listed nodes = index.Stands (says keys image) image listed nodes

-- whatever versions the index lists by its keys, and in whichever nodes, this holds
abbrev pub WhateverListed : Nature → Meaning → Image → (List CellRef → List ℕ → Type 0) → Type 0
WhateverListed index keys image Holds = (listed : List CellRef) (nodes : List ℕ) → Lists index keys image listed nodes → Holds listed nodes

-- the index takes the version's key, if it has one
abbrev pub TakesKeyOf : Nature → Sayings → CellRef → Type 0
TakesKeyOf index said version = (v : Version) → said.version_of version.number ≡ Some v → index.Takes v.key

-- the index stands, and the version has a key that it takes, and isn't listed yet
pub record LacksVersion (index : Nature) (keys : Meaning) (image : Image) (version : CellRef) : Type 0 where
  pub listed : List CellRef
  pub nodes : List ℕ
  pub lists : Lists index keys image listed nodes
  pub unlisted : IsUnlisted (says keys image) listed version
  pub taken : TakesKeyOf index (says keys image) version

-- the index stands, and the version is listed
pub record HasVersion (index : Nature) (keys : Meaning) (image : Image) (version : CellRef) : Type 0 where
  pub listed : List CellRef
  pub nodes : List ℕ
  pub lists : Lists index keys image listed nodes
  pub within : Contains listed version

-- each node that came could be taken, and those were taken, the lowest first; each that went reads as zero; and a free cell
-- is a node now or reads as before
pub record KeepsAccount (before after : Work) (nodes now_nodes : List ℕ) : Type 0 where
  pub come : (n : ℕ) → IsAmong now_nodes n → IsAmong nodes n ⊎ IsLeft before n
  pub takes : TakesLowest before after now_nodes
  pub gone : (n : ℕ) → IsAmong nodes n → IsAmong now_nodes n ⊎ (reading after n ≡ Some zero_cell)
  pub filled : (n : ℕ) → IsBlank before n → IsAmong now_nodes n ⊎ (reading after n ≡ reading before n)

-- the index lists other versions now, in other nodes
pub record ListsAnew (index : Nature) (keys : Meaning) (before after : Work) (nodes : List ℕ) : Type 0 where
  pub listed : List CellRef
  pub now_nodes : List ℕ
  pub lists : Lists index keys (reading after) listed now_nodes
  pub account : KeepsAccount before after nodes now_nodes

-- the version came to those that were listed, if it wasn't
abbrev pub Puts : Nature → Meaning → Work → Work → CellRef → Type 0
Puts index keys before after version = WhateverListed index keys (reading before) (λ listed nodes.
    IsUnlisted (says keys (reading before)) listed version →
    (now : ListsAnew index keys before after nodes) × IsPermutation (version ∷ listed) now.listed)

-- the version went from those that were listed, if it was there, and no node came
abbrev pub Removes : Nature → Meaning → Work → Work → CellRef → Type 0
Removes index keys before after version = WhateverListed index keys (reading before) (λ listed nodes.
    Contains listed version →
    (now : ListsAnew index keys before after nodes) × IsPermutation (version ∷ now.listed) listed × AreOf nodes now.now_nodes)

-- a cell of the index: its head, a node, or a free cell of the class that can be taken
abbrev pub IsOwn : Nature → List ℕ → Work → ℕ → Type 0
IsOwn index nodes w n = (n ≡ index.head) ⊎ IsAmong nodes n ⊎ IsLeft w n

-- of every cell that isn't one of the index, the plan says what it said before, if anything
abbrev pub PlansOnlyOwn : Nature → Meaning → Work → Work → Type 0
PlansOnlyOwn index keys before after = WhateverListed index keys (reading before) (λ listed nodes.
    (n : ℕ) → (content after.pairs n ≡ content before.pairs n) ⊎ IsOwn index nodes before n)

-- whatever the keys say and in whichever nodes, the index lists these versions in some order
abbrev pub IsListing : Nature → Image → List CellRef → Type 0
IsListing index image refs = (said : Sayings) (listed : List CellRef) (nodes : List ℕ) →
    index.Stands said image listed nodes → IsPermutation refs listed

-- the index stands, by what some keys say
abbrev pub IsStanding : Nature → Image → Type 0
IsStanding index image =
    (said : Sayings) × (listed : List CellRef) × (nodes : List ℕ) × index.Stands said image listed nodes

-- the head is one of an index, and the nodes are nodes of one, each once
pub record AreIndexCells (image : Image) (at : ℕ) (ns : List ℕ) : Type 0 where
  pub head : HasKind image kind.IndexHead at
  pub nodes : (n : ℕ) → IsAmong ns n → IsIndexNode image n
  pub once : AreOnce ns

-- an empty head stands for an index that lists nothing and has no node
abbrev pub StartsEmpty : Nature → Type 0
StartsEmpty index = (said : Sayings) (image : Image) →
    image index.head ≡ Some (index_head_cell empty_index_head) → index.Stands said image [] []

-- whatever an index is by some keys in some image, this holds of it
abbrev pub Wherever : Nature → (Sayings → Image → List CellRef → List ℕ → Type 0) → Type 0
Wherever index Holds = (said : Sayings) (image : Image) (listed : List CellRef) (nodes : List ℕ) →
    index.Stands said image listed nodes → Holds said image listed nodes

-- each listed version has a key, and no two are the same or have one id and serial
abbrev pub ListsOnce : Nature → Type 0
ListsOnce index = Wherever index (λ said image listed nodes. ListsVersions said listed)

-- the cells are those of an index
abbrev pub HasIndexCells : Nature → Type 0
HasIndexCells index = Wherever index (λ said image listed nodes. AreIndexCells image index.head nodes)

-- what an index is rests on its head and its nodes, and on what the keys say of the versions that it lists
abbrev pub RestsOnNodes : Nature → Type 0
RestsOnNodes index = Wherever index (λ said image listed nodes. (again : Sayings) (after : Image) →
    SaySame said again listed → SameOn (index.head ∷ nodes) image after → index.Stands again after listed nodes)

-- for each listed version the index has at most two nodes
abbrev pub HasFewNodes : Nature → Type 0
HasFewNodes index = Wherever index (λ said image listed nodes. length nodes ≤ 2 * length listed)
