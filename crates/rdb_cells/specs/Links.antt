-- Linked structures in cells: chains and trees, as lists of nodes that stand in an image.
use Rattle.std.specs.Prelude.{◌≡◌, ◌<◌, ◌⊎◌, ◌++◌, ℕ, suc, List, [], ◌∷◌, map, max, Some}
use Rattle.rdb_pages.specs.declared.cell.Cell.{Cell}
use Rattle.rdb_pages.specs.Pages.{zero_cell}
use Rattle.rdb_cells.specs.Images.{Image}

-- the number is one of these
abbrev pub IsAmong : List ℕ → ℕ → Type 0
IsAmong [] n = ⊥
IsAmong (m ∷ ms) n = (m ≡ n) ⊎ IsAmong ms n

-- each of the second is one of the first
abbrev pub AreOf : List ℕ → List ℕ → Type 0
AreOf ms ns = (n : ℕ) → IsAmong ns n → IsAmong ms n

-- each number stands once
abbrev pub AreOnce : List ℕ → Type 0
AreOnce [] = Unit {0}
AreOnce (m ∷ ms) = (¬ IsAmong ms m) × AreOnce ms

-- no number is one of both
abbrev pub AreDisjoint : List ℕ → List ℕ → Type 0
AreDisjoint ms ns = (n : ℕ) → IsAmong ms n → ¬ IsAmong ns n

-- the images hold the same in these cells
abbrev pub SameOn : List ℕ → Image → Image → Type 0
SameOn ns before after = (n : ℕ) → IsAmong ns n → after n ≡ before n

-- a node: the number of its cell, what it holds, and the numbers that lead from it, 0 being none
pub record Node (A : Type 0) : Type 0 where
  pub number : ℕ
  pub element : A
  pub links : List ℕ

-- which cells are written for an element with these links
abbrev pub Format : Type 0 → Type 1
Format A = Cell → A → List ℕ → Type 0

-- no zero cell is written for an element, so a node isn't free
abbrev pub IsNeverZero : {A : Type 0} → Format A → Type 0
IsNeverZero {A = A} format = (element : A) (links : List ℕ) → ¬ format zero_cell element links

-- a cell is written for one element and one list of links alone
abbrev pub IsFunctional : {A : Type 0} → Format A → Type 0
IsFunctional {A = A} format = (cell : Cell) (a b : A) (ks ls : List ℕ) → format cell a ks → format cell b ls → (a ≡ b) × (ks ≡ ls)

-- the node's cell holds it
pub record IsHeld {A : Type 0} (format : Format A) (image : Image) (node : Node A) : Type 0 where
  pub some : 0 < node.number
  pub cell : Cell
  pub here : image node.number ≡ Some cell
  pub written : format cell node.element node.links

-- the nodes stand in the image
abbrev pub Stand : {A : Type 0} → Format A → Image → List (Node A) → Type 0
Stand format image [] = Unit {0}
Stand format image (x ∷ xs) = IsHeld format image x × Stand format image xs

-- the cells of the nodes
abbrev pub numbers : {A : Type 0} → List (Node A) → List ℕ
numbers nodes = map (λ x. x.number) nodes

-- the nodes stand, and no two in one cell
pub record StandApart {A : Type 0} (format : Format A) (image : Image) (nodes : List (Node A)) : Type 0 where
  pub stand : Stand format image nodes
  pub once : AreOnce (numbers nodes)

-- an element of a chain, with the number of its cell
pub record Placed (A : Type 0) : Type 0 where
  pub number : ℕ
  pub element : A

abbrev pub elements : {A : Type 0} → List (Placed A) → List A
elements chain = map (λ p. p.element) chain

-- where a chain begins that goes on at a number: there, if it is empty
abbrev pub start : {A : Type 0} → List (Placed A) → ℕ → ℕ
start [] end = end
start (p ∷ ps) end = p.number

-- the nodes of a chain that goes on at a number: each leads to the next one, and the last one there
abbrev pub segment : {A : Type 0} → List (Placed A) → ℕ → List (Node A)
segment [] end = []
segment (p ∷ ps) end = record { number = p.number; element = p.element; links = start ps end ∷ [] } ∷ segment ps end

-- from this number on the chain stands in the image, and its last node leads to none
pub record IsChain {A : Type 0} (format : Format A) (image : Image) (first : ℕ) (chain : List (Placed A)) : Type 0 where
  pub begins : first ≡ start chain 0
  pub nodes : StandApart format image (segment chain 0)

-- Trees side by side, each at its place: a place may be empty. A tree is a node with the places below it.
pub data Forest (A : Type 0) : Type 0 where
  End : Forest A
  Gap : Forest A → Forest A
  Tree : ℕ → A → Forest A → Forest A → Forest A

-- the numbers that lead to the trees: 0 to an empty place
abbrev pub roots : {A : Type 0} → Forest A → List ℕ
roots End = []
roots (Gap others) = 0 ∷ roots others
roots (Tree n element below others) = n ∷ roots others

-- the nodes of the trees: each leads to the trees below it
abbrev pub grown : {A : Type 0} → Forest A → List (Node A)
grown End = []
grown (Gap others) = grown others
grown (Tree n element below others) = record { number = n; element = element; links = roots below } ∷ (grown below ++ grown others)

-- from these numbers on the trees stand in the image
pub record AreTrees {A : Type 0} (format : Format A) (image : Image) (first : List ℕ) (trees : Forest A) : Type 0 where
  pub begin : first ≡ roots trees
  pub nodes : StandApart format image (grown trees)

-- where trees stand in others: each step, the innermost first, passes an empty place or a tree, or goes below a node
pub data Step (A : Type 0) : Type 0 where
  PastGap : Step A
  PastTree : ℕ → A → Forest A → Step A
  Below : ℕ → A → Forest A → Step A

-- the trees with these where the steps lead
abbrev pub graft : {A : Type 0} → List (Step A) → Forest A → Forest A
graft [] trees = trees
graft (PastGap ∷ steps) trees = graft steps (Gap trees)
graft (PastTree n element below ∷ steps) trees = graft steps (Tree n element below trees)
graft (Below n element others ∷ steps) trees = graft steps (Tree n element trees others)

-- the nodes that come before trees with these roots, and those that come after them
abbrev pub ahead : {A : Type 0} → List (Step A) → List ℕ → List (Node A)
ahead [] rs = []
ahead (PastGap ∷ steps) rs = ahead steps (0 ∷ rs)
ahead (PastTree n element below ∷ steps) rs =
    ahead steps (n ∷ rs) ++ record { number = n; element = element; links = roots below } ∷ grown below
ahead (Below n element others ∷ steps) rs =
    ahead steps (n ∷ roots others) ++ record { number = n; element = element; links = rs } ∷ []

abbrev pub behind : {A : Type 0} → List (Step A) → List (Node A)
behind [] = []
behind (PastGap ∷ steps) = behind steps
behind (PastTree n element below ∷ steps) = behind steps
behind (Below n element others ∷ steps) = grown others ++ behind steps

-- the cells of the nodes around trees with these roots
abbrev pub around : {A : Type 0} → List (Step A) → List ℕ → List ℕ
around steps rs = numbers (ahead steps rs) ++ numbers (behind steps)

-- how many nodes the longest way down has
abbrev pub depth : {A : Type 0} → Forest A → ℕ
depth End = 0
depth (Gap others) = depth others
depth (Tree n element below others) = max (suc (depth below)) (depth others)

-- the steps stay beside the trees: they go below no node
abbrev pub StaysBeside : {A : Type 0} → List (Step A) → Type 0
StaysBeside [] = Unit {0}
StaysBeside (PastGap ∷ steps) = StaysBeside steps
StaysBeside (PastTree n element below ∷ steps) = StaysBeside steps
StaysBeside (Below n element others ∷ steps) = ⊥
