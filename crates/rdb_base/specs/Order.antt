-- The order of values, by cases.
use Rattle.std.specs.Prelude.{◌≡◌, List}
use Rattle.std.specs.Ordering.{ordering_then, nat_cmp, int_cmp}
use Rattle.std.specs.declared.cmp.Ordering.{Ordering}
use Rattle.std.specs.declared.cmp.Ordering.TheVariants.{Less, Equal, Greater}
use Rattle.std.specs.Cmp.Lexicographic.{slice_cmp}
use Rattle.rdb_base.specs.declared.value.Rect.{Rect}
use Rattle.rdb_base.specs.declared.value.Leaf.{Leaf}
use Rattle.rdb_base.specs.declared.value.Leaf.TheVariants as leaf
use Rattle.rdb_base.specs.declared.value.Element.{Element}
use Rattle.rdb_base.specs.declared.value.Element.TheVariants as element
use Rattle.rdb_base.specs.declared.value.Value.{Value}
use Rattle.rdb_base.specs.declared.value.Value.TheVariants as value

-- boxes by x1, then by y1, x2 and y2
abbrev pub rect_order : Rect → Rect → Ordering
rect_order a b =
    ordering_then (int_cmp a.x1 b.x1) (ordering_then (int_cmp a.y1 b.y1) (ordering_then (int_cmp a.x2 b.x2) (int_cmp a.y2 b.y2)))

-- numbers before texts before boxes; numbers by value, texts by bytes
abbrev pub leaf_order : Leaf → Leaf → Ordering
leaf_order (leaf.Num x) (leaf.Num y) = int_cmp x y
leaf_order (leaf.Num x) (leaf.Text t) = Less
leaf_order (leaf.Num x) (leaf.Rect b) = Less
leaf_order (leaf.Text s) (leaf.Num y) = Greater
leaf_order (leaf.Text s) (leaf.Text t) = slice_cmp nat_cmp s t
leaf_order (leaf.Text s) (leaf.Rect b) = Less
leaf_order (leaf.Rect a) (leaf.Num y) = Greater
leaf_order (leaf.Rect a) (leaf.Text t) = Greater
leaf_order (leaf.Rect a) (leaf.Rect b) = rect_order a b

-- leaves before groups; groups leaf by leaf, a proper prefix first
abbrev pub element_order : Element → Element → Ordering
element_order (element.Leaf a) (element.Leaf b) = leaf_order a b
element_order (element.Leaf a) (element.Group bs) = Less
element_order (element.Group as_) (element.Leaf b) = Greater
element_order (element.Group as_) (element.Group bs) = slice_cmp leaf_order as_ bs

-- leaves before lists before groups; each element by element, a proper prefix first
abbrev pub value_order : Value → Value → Ordering
value_order (value.Leaf a) (value.Leaf b) = leaf_order a b
value_order (value.Leaf a) (value.List bs) = Less
value_order (value.Leaf a) (value.Group bs) = Less
value_order (value.List as_) (value.Leaf b) = Greater
value_order (value.List as_) (value.List bs) = slice_cmp element_order as_ bs
value_order (value.List as_) (value.Group bs) = Less
value_order (value.Group as_) (value.Leaf b) = Greater
value_order (value.Group as_) (value.List bs) = Greater
value_order (value.Group as_) (value.Group bs) = slice_cmp leaf_order as_ bs

-- rows, and keys, value by value, a proper prefix first
abbrev pub row_order : List Value → List Value → Ordering
row_order a b = slice_cmp value_order a b
