-- What the derived comparisons compute, and the laws of the order.
use Rattle.std.proofs.Common.{◌≡◌, refl, ap, subst, ◌∙◌, List, [], ◌∷◌, ℕ, ◌<◌}
use Rattle.std.specs.Prelude.{ℤ, ◌<ℤ◌}
use Rattle.std.specs.declared.cmp.Ordering.{Ordering}
use Rattle.std.specs.declared.cmp.Ordering.TheVariants.{Less, Equal, Greater}
use Rattle.std.specs.Ordering.{ordering_then, nat_cmp, int_cmp, MatchOrdering}
use Rattle.std.specs.Cmp.{IsTotalOrder}
use Rattle.std.proofs.lemmas.Cmp.{ranked, int_ranked, lists_total}
use Rattle.std.specs.Cmp.Lexicographic.{slice_cmp}
use Rattle.rdb_base.specs.declared.value.Rect.{Rect}
use Rattle.rdb_base.specs.declared.value.Leaf.{Leaf}
use Rattle.rdb_base.specs.declared.value.Leaf.TheVariants as leaf
use Rattle.rdb_base.specs.declared.value.Element.{Element}
use Rattle.rdb_base.specs.declared.value.Element.TheVariants as element
use Rattle.rdb_base.specs.declared.value.Value.{Value}
use Rattle.rdb_base.specs.declared.value.Value.TheVariants as value
use Rattle.rdb_base.specs.Order.{rect_order, leaf_order, element_order, value_order, row_order}
use Rattle.rdb_base.specs.contracts.value.RectOrd.TheImpl as rect_derived
use Rattle.rdb_base.specs.contracts.value.LeafOrd.TheImpl as leaf_derived
use Rattle.rdb_base.specs.contracts.value.ElementOrd.TheImpl as element_derived
use Rattle.rdb_base.specs.contracts.value.ValueOrd.TheImpl as value_derived
use Rattle.rdb_base.specs.contracts.value.ValueOrd.TheImpl.Laws as value_laws

rect_derives : (a b : Rect) → (rect_derived.cmp-value).it a b ≡ rect_order a b
rect_derives a b = refl

leaf_derives : (x y : Leaf) → (leaf_derived.cmp-value).it x y ≡ leaf_order x y
leaf_derives (leaf.Num x) (leaf.Num y) = refl
leaf_derives (leaf.Num x) (leaf.Text t) = refl
leaf_derives (leaf.Num x) (leaf.Rect b) = refl
leaf_derives (leaf.Text s) (leaf.Num y) = refl
leaf_derives (leaf.Text s) (leaf.Text t) = refl
leaf_derives (leaf.Text s) (leaf.Rect b) = refl
leaf_derives (leaf.Rect a) (leaf.Num y) = refl
leaf_derives (leaf.Rect a) (leaf.Text t) = refl
leaf_derives (leaf.Rect a) (leaf.Rect b) = refl

leaf_is : (leaf_derived.cmp-value).it ≡ leaf_order
leaf_is = λ i x y. leaf_derives x y i

element_derives : (x y : Element) → (element_derived.cmp-value).it x y ≡ element_order x y
element_derives (element.Leaf a) (element.Leaf b) = leaf_derives a b
element_derives (element.Leaf a) (element.Group bs) = refl
element_derives (element.Group xs) (element.Leaf b) = refl
element_derives (element.Group xs) (element.Group ys) = ap (λ R. slice_cmp R xs ys) leaf_is

element_is : (element_derived.cmp-value).it ≡ element_order
element_is = λ i x y. element_derives x y i

value_derives : (x y : Value) → (value_derived.cmp-value).it x y ≡ value_order x y
value_derives (value.Leaf a) (value.Leaf b) = leaf_derives a b
value_derives (value.Leaf a) (value.List ys) = refl
value_derives (value.Leaf a) (value.Group ys) = refl
value_derives (value.List xs) (value.Leaf b) = refl
value_derives (value.List xs) (value.List ys) = ap (λ R. slice_cmp R xs ys) element_is
value_derives (value.List xs) (value.Group ys) = refl
value_derives (value.Group xs) (value.Leaf b) = refl
value_derives (value.Group xs) (value.List ys) = refl
value_derives (value.Group xs) (value.Group ys) = ap (λ R. slice_cmp R xs ys) leaf_is

-- what the derived comparison computes is the order of values
pub value_is : (value_derived.cmp-value).it ≡ value_order
value_is = λ i x y. value_derives x y i

-- the order of values is total
pub value_order_total : IsTotalOrder value_order
value_order_total = subst IsTotalOrder value_is value_laws.total-law

-- and so is that of rows
pub row_order_total : IsTotalOrder row_order
row_order_total = lists_total value_order_total

-- the first of two that decide in turn is level, and so is the second
first_level : (r s : Ordering) → ordering_then r s ≡ Equal → r ≡ Equal
first_level Less s e = e
first_level Equal s e = refl
first_level Greater s e = e

second_level : (r s : Ordering) → ordering_then r s ≡ Equal → s ≡ Equal
second_level Less s e = (cc)
second_level Equal s e = e
second_level Greater s e = (cc)

-- where elements that compare Equal are equal, lists that do are
lists_level : {A : Type 0} (R : A → A → Ordering) → ((x y : A) → R x y ≡ Equal → x ≡ y) → (xs ys : List A) → slice_cmp R xs ys ≡ Equal → xs ≡ ys
lists_level R same [] [] e = refl
lists_level R same [] (y ∷ ys) e = (cc)
lists_level R same (x ∷ xs) [] e = (cc)
lists_level R same (x ∷ xs) (y ∷ ys) e =
    let heads : x ≡ y = same x y (first_level (R x y) (slice_cmp R xs ys) e) in
    let tails : xs ≡ ys = lists_level R same xs ys (second_level (R x y) (slice_cmp R xs ys) e) in
    (cc)

int_level : (x y : ℤ) → int_cmp x y ≡ Equal → x ≡ y
int_level x y e = subst (λ o. MatchOrdering o (x <ℤ y) (x ≡ y) (y <ℤ x)) e (int_ranked x y (int_cmp x y) refl)

nat_level : (x y : ℕ) → nat_cmp x y ≡ Equal → x ≡ y
nat_level x y e = subst (λ o. MatchOrdering o (x < y) (x ≡ y) (y < x)) e (ranked x y (nat_cmp x y) refl)

rect_level : (a b : Rect) → rect_order a b ≡ Equal → a ≡ b
rect_level a b e =
    let x1 : a.x1 ≡ b.x1 = int_level _ _ (first_level (int_cmp a.x1 b.x1) _ e) in
    let e1 = second_level (int_cmp a.x1 b.x1) _ e in
    let y1 : a.y1 ≡ b.y1 = int_level _ _ (first_level (int_cmp a.y1 b.y1) _ e1) in
    let e2 = second_level (int_cmp a.y1 b.y1) _ e1 in
    let x2 : a.x2 ≡ b.x2 = int_level _ _ (first_level (int_cmp a.x2 b.x2) _ e2) in
    let y2 : a.y2 ≡ b.y2 = int_level _ _ (second_level (int_cmp a.x2 b.x2) _ e2) in
    λ i. record { x1 = x1 i; y1 = y1 i; x2 = x2 i; y2 = y2 i }

leaf_level : (x y : Leaf) → leaf_order x y ≡ Equal → x ≡ y
leaf_level (leaf.Num x) (leaf.Num y) e = ap leaf.Num (int_level x y e)
leaf_level (leaf.Num x) (leaf.Text t) e = (cc)
leaf_level (leaf.Num x) (leaf.Rect b) e = (cc)
leaf_level (leaf.Text s) (leaf.Num y) e = (cc)
leaf_level (leaf.Text s) (leaf.Text t) e = ap leaf.Text (lists_level nat_cmp nat_level s t e)
leaf_level (leaf.Text s) (leaf.Rect b) e = (cc)
leaf_level (leaf.Rect a) (leaf.Num y) e = (cc)
leaf_level (leaf.Rect a) (leaf.Text t) e = (cc)
leaf_level (leaf.Rect a) (leaf.Rect b) e = ap leaf.Rect (rect_level a b e)

element_level : (x y : Element) → element_order x y ≡ Equal → x ≡ y
element_level (element.Leaf a) (element.Leaf b) e = ap element.Leaf (leaf_level a b e)
element_level (element.Leaf a) (element.Group ys) e = (cc)
element_level (element.Group xs) (element.Leaf b) e = (cc)
element_level (element.Group xs) (element.Group ys) e = ap element.Group (lists_level leaf_order leaf_level xs ys e)

-- values that compare Equal are equal
pub value_level : (x y : Value) → value_order x y ≡ Equal → x ≡ y
value_level (value.Leaf a) (value.Leaf b) e = ap value.Leaf (leaf_level a b e)
value_level (value.Leaf a) (value.List ys) e = (cc)
value_level (value.Leaf a) (value.Group ys) e = (cc)
value_level (value.List xs) (value.Leaf b) e = (cc)
value_level (value.List xs) (value.List ys) e = ap value.List (lists_level element_order element_level xs ys e)
value_level (value.List xs) (value.Group ys) e = (cc)
value_level (value.Group xs) (value.Leaf b) e = (cc)
value_level (value.Group xs) (value.List ys) e = (cc)
value_level (value.Group xs) (value.Group ys) e = ap value.Group (lists_level leaf_order leaf_level xs ys e)

-- rows that compare Equal are equal
pub row_level : (a b : List Value) → row_order a b ≡ Equal → a ≡ b
row_level = lists_level value_order value_level
