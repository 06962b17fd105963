-- What every value is that a program holds: its texts are UTF-8, and the edges of its boxes have 32 bits.
use Rattle.std.specs.Prelude.{IsTrue, true, List, [], ◌∷◌}
use Rattle.std.specs.Str.{IsUtf8}
use Rattle.rdb_base.specs.declared.value.Leaf.{Leaf}
use Rattle.rdb_base.specs.declared.value.Leaf.TheVariants as leaf
use Rattle.rdb_base.specs.declared.value.Rect.{Rect}
use Rattle.rdb_base.specs.declared.value.Element.{Element}
use Rattle.rdb_base.specs.declared.value.Element.TheVariants as element
use Rattle.rdb_base.specs.declared.value.Value.{Value}
use Rattle.rdb_base.specs.declared.value.Value.TheVariants as value
use Rattle.rdb_schema.specs.Values.{num_holds}

-- each edge of a box has 32 bits
pub record HasEdges (box : Rect) : Type 0 where
  pub x1 : IsTrue (num_holds 4 true box.x1)
  pub y1 : IsTrue (num_holds 4 true box.y1)
  pub x2 : IsTrue (num_holds 4 true box.x2)
  pub y2 : IsTrue (num_holds 4 true box.y2)

-- a leaf's text is UTF-8, and its box has edges of 32 bits
abbrev pub IsProperLeaf : Leaf → Type 0
IsProperLeaf (leaf.Num n) = Unit {0}
IsProperLeaf (leaf.Text words) = IsUtf8 words
IsProperLeaf (leaf.Rect box) = HasEdges box

-- each of them passes
abbrev pub EachIs : {A : Type 0} → (A → Type 0) → List A → Type 0
EachIs P [] = Unit {0}
EachIs P (x ∷ xs) = P x × EachIs P xs

-- an element's leaves are proper
abbrev pub IsProperElement : Element → Type 0
IsProperElement (element.Leaf l) = IsProperLeaf l
IsProperElement (element.Group ls) = EachIs IsProperLeaf ls

-- a value's leaves are proper
abbrev pub IsProperValue : Value → Type 0
IsProperValue (value.Leaf l) = IsProperLeaf l
IsProperValue (value.List es) = EachIs IsProperElement es
IsProperValue (value.Group ls) = EachIs IsProperLeaf ls

-- a row's leaves are proper
abbrev pub IsProperRow : List Value → Type 0
IsProperRow row = EachIs IsProperValue row
