-- Boxes: how one lies to another, and the least box that covers some.
use Rattle.std.specs.Prelude.{◌≤ℤ◌, ◌&&◌, ℤ, int_le, List, [], ◌∷◌, Bool, if◌then◌else◌}
use Rattle.rdb_base.specs.declared.value.Rect.{Rect}

-- whether two spans have a number in common, ends included
abbrev pub spans_meet : ℤ → ℤ → ℤ → ℤ → Bool
spans_meet from to other_from other_to = int_le from other_to && int_le other_from to

-- whether the first span lies in the second
abbrev pub span_lies_in : ℤ → ℤ → ℤ → ℤ → Bool
span_lies_in from to other_from other_to = int_le other_from from && int_le to other_to

-- whether two boxes have a point in common, edges included
abbrev pub overlaps : Rect → Rect → Bool
overlaps a b = spans_meet a.x1 a.x2 b.x1 b.x2 && spans_meet a.y1 a.y2 b.y1 b.y2

-- whether the first box lies in the second
abbrev pub lies_in : Rect → Rect → Bool
lies_in a b = span_lies_in a.x1 a.x2 b.x1 b.x2 && span_lies_in a.y1 a.y2 b.y1 b.y2

-- whether a box lies in the rectangle, or overlaps it
abbrev pub meets : Rect → Bool → Rect → Bool
meets rect inside box = if inside then lies_in box rect else overlaps box rect

-- the box has its lesser edges first
pub record IsProper (box : Rect) : Type 0 where
  pub across : box.x1 ≤ℤ box.x2
  pub up : box.y1 ≤ℤ box.y2

-- the first box lies in the second
pub record LiesIn (box cover : Rect) : Type 0 where
  pub left : cover.x1 ≤ℤ box.x1
  pub low : cover.y1 ≤ℤ box.y1
  pub right : box.x2 ≤ℤ cover.x2
  pub high : box.y2 ≤ℤ cover.y2

-- this holds of each element
abbrev pub Each : {X : Type 0} → (X → Type 0) → List X → Type 0
Each Holds [] = Unit {0}
Each Holds (x ∷ xs) = Holds x × Each Holds xs

-- each of the boxes lies in the cover
abbrev pub Covers : Rect → List Rect → Type 0
Covers cover boxes = Each (λ box. LiesIn box cover) boxes

-- of all boxes that cover these, it is the least: it lies in every other
pub record IsLeastCover (boxes : List Rect) (cover : Rect) : Type 0 where
  pub covers : Covers cover boxes
  pub least : (other : Rect) → Covers other boxes → LiesIn cover other
