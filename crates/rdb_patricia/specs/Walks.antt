-- What a walk down the tree finds.
use Rattle.std.specs.Prelude.{◌≡◌, ◌≢◌, ◌≤◌, ◌<◌, ◌++◌, ◌%◌, ◌&&◌, ◌==◌, ℕ, List, [], ◌∷◌, Option, Some, Bool, false, cond, filter, Contains}
use Rattle.rdb_pages.specs.declared.cell.CellRef.{CellRef}
use Rattle.rdb_cells.specs.Images.{Image}
use Rattle.rdb_cells.specs.Keys.{Meaning, Sayings, says}
use Rattle.rdb_cells.specs.Links.{IsAmong, Placed, elements, start, numbers, StandApart}
use Rattle.rdb_cells.specs.PlainList.{LeadsTo}
use Rattle.rdb_cells.specs.References.{IsPageCell}
use Rattle.rdb_patricia.specs.declared.how.How.{How}
use Rattle.rdb_patricia.specs.declared.walk.Found.{Found}
use Rattle.rdb_patricia.specs.declared.walk.Leaf.{Leaf}
use Rattle.rdb_patricia.specs.declared.walk.Spot.{Spot}
use Rattle.rdb_patricia.specs.Bits.{bits_of_byte, all_bits, text_at, HasTextKey}
use Rattle.rdb_patricia.specs.Lookup.{matches}
use Rattle.rdb_patricia.specs.Shape.{Texts, IsShaped}
use Rattle.rdb_patricia.specs.Trie.{Trie, Entries, Parted, IsWritten, root, root_of, nodes_of, versions, versions_of}

-- the head of an index stands there
abbrev pub HasHead : Image → ℕ → Type 0
HasHead image head = (first : CellRef) × LeadsTo image head first

-- from this number on the tree stands in page cells
pub record IsPart (image : Image) (first : ℕ) (tree : Option Trie) : Type 0 where
  pub begins : first ≡ root_of tree
  pub apart : StandApart IsWritten image (nodes_of tree)
  pub paged : (n : ℕ) → IsAmong (numbers (nodes_of tree)) n → IsPageCell n

abbrev pub HasPart : Image → ℕ → Type 0
HasPart image first = (tree : Option Trie) × IsPart image first tree

-- some trie stands from this number on; and whatever trie does, this holds
abbrev pub HasTrie : Image → ℕ → Type 0
HasTrie image first = (trie : Trie) × IsPart image first (Some trie)

abbrev pub WhateverTrie : Image → ℕ → (Trie → Type 0) → Type 0
WhateverTrie image first Holds = (trie : Trie) → IsPart image first (Some trie) → Holds trie

-- the versions below this number came to the list
abbrev pub ListsBelow : Image → ℕ → List CellRef → List CellRef → Type 0
ListsBelow image first before after = (tree : Option Trie) → IsPart image first tree → after ≡ before ++ versions_of tree

-- a turn on the way down: at a branch in a cell, with its bit, to the side of 1 or of 0, past the other one
pub record Turn : Type 0 where
  pub number : ℕ
  pub bit : ℕ
  pub is_one : Bool
  pub other : Trie

-- the trie with this one where the turns lead, the last turn first
abbrev pub plug : List Turn → Trie → Trie
plug [] trie = trie
plug (t ∷ ts) trie = plug ts (cond t.is_one (Parted t.number t.bit t.other trie) (Parted t.number t.bit trie t.other))

-- each turn is at a bit below the limit, to the side of these bits
abbrev pub Follows : (ℕ → Bool) → ℕ → List Turn → Type 0
Follows bits limit [] = Unit {0}
Follows bits limit (t ∷ ts) = (t.bit < limit) × (t.is_one ≡ bits t.bit) × Follows bits limit ts

-- the trie has no branch at its root with a bit below the limit
abbrev pub StopsAt : ℕ → Trie → Type 0
StopsAt limit (Entries p ps) = Unit {0}
StopsAt limit (Parted n bit zeros ones) = limit ≤ bit

-- the cell of the last turn, 0 where there is none, and its side
abbrev pub parent_of : List Turn → ℕ
parent_of [] = 0
parent_of (t ∷ ts) = t.number

abbrev pub side_of : List Turn → Bool
side_of [] = false
side_of (t ∷ ts) = t.is_one

-- the turns lead by these bits, each below the limit, from a trie to this part of it
pub record IsReached (bits : ℕ → Bool) (limit : ℕ) (trie : Trie) (spot : Spot) : Type 0 where
  pub turns : List Turn
  pub part : Trie
  pub is : trie ≡ plug turns part
  pub at : spot.at.number ≡ root part
  pub follows : Follows bits limit turns
  pub stops : StopsAt limit part
  pub parent : spot.parent.number ≡ parent_of turns
  pub side : spot.one_side ≡ side_of turns

-- a key ends beside a turn to the side of 1 at a bit that says whether there is a byte
abbrev pub ends_beside : Turn → Bool
ends_beside t = t.is_one && (t.bit % bits_of_byte == 0)

-- where the last key begins that ends beside the turns, 0 where none does
abbrev pub last_ended : List Turn → ℕ
last_ended [] = 0
last_ended (t ∷ ts) = cond (ends_beside t) (root t.other) (last_ended ts)

-- the turns lead by these bits, each below the limit, from a trie to a part of it, and the last key that ends beside them begins here
pub record HasEnded (bits : ℕ → Bool) (limit : ℕ) (trie : Trie) (last_at : ℕ) : Type 0 where
  pub turns : List Turn
  pub part : Trie
  pub is : trie ≡ plug turns part
  pub follows : Follows bits limit turns
  pub stops : StopsAt limit part
  pub last : last_at ≡ last_ended turns

-- the next cell is this one, or else the last of those that wait, which goes from them
pub data IsNext (at : CellRef) (waiting : List CellRef) (next : CellRef) (now : List CellRef) : Type 0 where
  Here : (at.number ≢ 0) → next ≡ at → now ≡ waiting → IsNext at waiting next now
  Later : at.number ≡ 0 → waiting ≡ now ++ next ∷ [] → IsNext at waiting next now

-- by these keys the trie has its shape, and the keys of its versions are texts
pub record IsKeyed (said : Sayings) (trie : Trie) : Type 0 where
  pub shaped : IsShaped (text_at said) trie
  pub texts : (r : CellRef) → Contains (versions trie) r → HasTextKey said r

-- such a trie stands from this number on, by some keys or by these
abbrev pub HasShapedTrie : Image → ℕ → Type 0
HasShapedTrie image first = (said : Sayings) × (trie : Trie) × IsPart image first (Some trie) × IsKeyed said trie

abbrev pub HasKeyedTrie : Meaning → Image → ℕ → Type 0
HasKeyedTrie keys image first = (trie : Trie) × IsPart image first (Some trie) × IsKeyed (says keys image) trie

-- whatever such trie stands there by the keys, this holds
abbrev pub WhateverKeyed : Meaning → Image → ℕ → (Trie → Type 0) → Type 0
WhateverKeyed keys image first Holds = (trie : Trie) → IsPart image first (Some trie) → IsKeyed (says keys image) trie → Holds trie

-- the entries to which these bits lead
pub record IsLeaf (bits : ℕ → Bool) (trie : Trie) (leaf : Leaf) : Type 0 where
  pub turns : List Turn
  pub first : Placed CellRef
  pub others : List (Placed CellRef)
  pub is : trie ≡ plug turns (Entries first others)
  pub follows : Follows bits all_bits turns
  pub at : leaf.at.number ≡ first.number
  pub of_version : leaf.version ≡ first.element

-- from this number on those versions of the trie stand that match, and no others
pub record GivesPart (image : Image) (how : How) (text : List ℕ) (key : Texts) (trie : Trie) (number : ℕ) : Type 0 where
  pub part : Option Trie
  pub stands : IsPart image number part
  pub these : filter (matches how text key (versions trie)) (versions trie) ≡ versions_of part

-- the number of the last of these entries, 0 where there is none
abbrev pub IsLast : List (Placed CellRef) → ℕ → Type 0
IsLast [] number = number ≡ 0
IsLast (p ∷ []) number = number ≡ p.number
IsLast (p ∷ q ∷ qs) number = IsLast (q ∷ qs) number

-- the version's entry stands at this place among the entries of a key, behind the one before it, and leads to the next one
pub record IsAt (chain : List (Placed CellRef)) (version : CellRef) (found : Found) : Type 0 where
  pub front : List (Placed CellRef)
  pub back : List (Placed CellRef)
  pub is : chain ≡ front ++ record { number = found.at.number; element = version } ∷ back
  pub before : IsLast front found.before.number
  pub next : found.next.number ≡ start back 0

-- the version is one of the entries of a key from this number on; and whatever entries it is one of, this holds
abbrev pub HasEntry : Image → ℕ → CellRef → Type 0
HasEntry image first version = (p : Placed CellRef) × (ps : List (Placed CellRef)) × IsPart image first (Some (Entries p ps)) ×
    Contains (elements (p ∷ ps)) version

abbrev pub WhateverEntries : Image → ℕ → CellRef → (List (Placed CellRef) → Type 0) → Type 0
WhateverEntries image first version Holds =
    (p : Placed CellRef) (ps : List (Placed CellRef)) → IsPart image first (Some (Entries p ps)) →
    Contains (elements (p ∷ ps)) version → Holds (p ∷ ps)
