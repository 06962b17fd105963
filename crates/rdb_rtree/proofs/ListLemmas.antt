-- Lists: what holds of each element, elements at places, and lists in another order.
use Rattle.std.proofs.Common.{◌≡◌, ◌<◌, zero, suc, ℕ, List, [], ◌∷◌, ◌++◌, length, take, drop, map, get_or, refl, sym, ap, ap₂, subst, ◌∙◌, arith}
use Rattle.std.proofs.lemmas.List.Edits.{swap_is}
use Rattle.std.proofs.lemmas.List.{length-map, map-set, get_or-map, take_at, drop_at, take-map, drop-map, take-append-drop}
use Rattle.std.proofs.lemmas.List.Elements.{All-nil, All-cons, All-head, All-tail}
use Rattle.std.proofs.lemmas.List.Sorted.{IsPermutation-refl, IsPermutation-trans, IsPermutation-swap, IsPermutation-keeps, All-permutation, IsPermutation-remove}
use Rattle.std.specs.List.{All, remove, swap}
use Rattle.std.specs.Prelude.{set, IsPermutation}
use Rattle.rdb_rtree.specs.Boxes.{Each}

module _ {X : Type 0} (P : X → Type 0) where
  pub each_both : (xs ys : List X) → Each P xs → Each P ys → Each P (xs ++ ys)
  each_both [] ys first second = second
  each_both (x ∷ xs) ys first second = (first.0, each_both xs ys first.1 second)

  pub each_front : (xs ys : List X) → Each P (xs ++ ys) → Each P xs
  each_front [] ys each = tt
  each_front (x ∷ xs) ys each = (each.0, each_front xs ys each.1)

  pub each_back : (xs ys : List X) → Each P (xs ++ ys) → Each P ys
  each_back [] ys each = each
  each_back (x ∷ xs) ys each = each_back xs ys each.1

  each_all : (xs : List X) → Each P xs → All P xs
  each_all [] each = All-nil P
  each_all (x ∷ xs) each = All-cons P x xs each.0 (each_all xs each.1)

  all_each : (xs : List X) → All P xs → Each P xs
  all_each [] all = tt
  all_each (x ∷ xs) all = (All-head P x xs all, all_each xs (All-tail P x xs all))

  -- in another order
  pub each_permutes : (xs ys : List X) → IsPermutation xs ys → Each P xs → Each P ys
  each_permutes xs ys order each = all_each ys (All-permutation P xs ys order (each_all xs each))

-- the element at a place, and what stands around it
pub record IsTaken {X : Type 0} (xs : List X) (place : ℕ) : Type 0 where
  pub front : List X
  pub one : X
  pub back : List X
  pub is : xs ≡ front ++ one ∷ back
  pub many : length front ≡ place

pub taken_at : {X : Type 0} (xs : List X) (place : ℕ) → place < length xs → IsTaken xs place
taken_at [] place below = absurd (omega arith)
taken_at (x ∷ xs) zero below = record { front = []; one = x; back = xs; is = refl; many = refl }
taken_at {X} (x ∷ xs) (suc place) below =
    let rest = taken_at xs place (omega arith) in
    record { front = x ∷ rest.front; one = rest.one; back = rest.back; is = ap (λ (ys : List X). x ∷ ys) rest.is; many = ap suc rest.many }

pub removed_middle : {X : Type 0} (front : List X) (one : X) (back : List X) (place : ℕ) → length front ≡ place → remove (front ++ one ∷ back) place ≡ front ++ back
removed_middle [] one back zero many = refl
removed_middle [] one back (suc place) many = absurd (omega arith)
removed_middle (x ∷ xs) one back zero many = absurd (omega arith)
removed_middle {X} (x ∷ xs) one back (suc place) many = ap (λ (ys : List X). x ∷ ys) (removed_middle xs one back place (omega arith))

pub got_middle : {X : Type 0} (front : List X) (one : X) (back : List X) (place : ℕ) (d : X) → length front ≡ place → get_or (front ++ one ∷ back) place d ≡ one
got_middle [] one back zero d many = refl
got_middle [] one back (suc place) d many = absurd (omega arith)
got_middle (x ∷ xs) one back zero d many = absurd (omega arith)
got_middle (x ∷ xs) one back (suc place) d many = got_middle xs one back place d (omega arith)

pub map_both : {X Y : Type 0} (f : X → Y) (xs ys : List X) → map f (xs ++ ys) ≡ map f xs ++ map f ys
map_both f [] ys = refl
map_both {X} {Y} f (x ∷ xs) ys = ap (λ (zs : List Y). f x ∷ zs) (map_both f xs ys)

-- what was removed stands first, in another order
pub removed_one : {X : Type 0} (xs ys : List X) (place : ℕ) (x : X) → place < length xs → x ≡ get_or xs place x → ys ≡ remove xs place → IsPermutation xs (x ∷ ys)
removed_one {X} xs ys place x below is rest = subst (λ (zs : List X). IsPermutation xs (x ∷ zs)) (sym rest) (IsPermutation-remove xs place x below is)

-- a function of each element, and two of them exchanged
map_swap : {X Y : Type 0} (f : X → Y) (xs : List X) (i j : ℕ) (d : X) → i < length xs → j < length xs → map f (swap xs i j) ≡ swap (map f xs) i j
map_swap {X} {Y} f xs i j d first second =
    let many = length-map xs f in
    let here : map f (set xs i (get_or xs j d)) ≡ set (map f xs) i (get_or (map f xs) j (f d)) =
    map-set f xs i (get_or xs j d) ∙ ap (λ (y : Y). set (map f xs) i y) (sym (get_or-map f xs j d (f d) second)) in
    ap (map f) (sym (swap_is xs i j d first second))
    ∙ map-set f (set xs i (get_or xs j d)) j (get_or xs i d)
    ∙ ap₂ (λ (ys : List Y) (y : Y). set ys j y) here (sym (get_or-map f xs i d (f d) first))
    ∙ swap_is (map f xs) i j (f d) (omega arith) (omega arith)

head_of : {X : Type 0} (xs : List X) (i : ℕ) → i < length xs → X
head_of [] i below = absurd (omega arith)
head_of (x ∷ xs) i below = x

-- a list whose values stand in another order can be put into that order
pub record IsLifted {X Y : Type 0} (f : X → Y) (xs : List X) (ys : List Y) : Type 0 where
  pub list : List X
  pub order : IsPermutation xs list
  pub values : ys ≡ map f list

pub lifted : {X Y : Type 0} (f : X → Y) (xs : List X) (ys : List Y) → IsPermutation (map f xs) ys → IsLifted f xs ys
lifted {X} {Y} f xs ys order =
    IsPermutation-keeps (map f xs) (IsLifted f xs) (record { list = xs; order = IsPermutation-refl xs; values = refl })
    (λ l i j first second so.
    let many = ap (length {A = Y}) so.values ∙ length-map so.list f in
    let low : i < length so.list = omega arith in
    let high : j < length so.list = omega arith in
    record {
      list = swap so.list i j;
      order = IsPermutation-trans xs so.list (swap so.list i j) so.order (IsPermutation-swap so.list (swap so.list i j) i j low high refl);
      values = ap (λ (zs : List Y). swap zs i j) so.values ∙ sym (map_swap f so.list i j (head_of so.list i low) low high);
    })
    ys order

-- and if the other order is in two parts, so is the list
pub record ArePartsOf {X Y : Type 0} (f : X → Y) (xs : List X) (left right : List Y) : Type 0 where
  pub first : List X
  pub second : List X
  pub order : IsPermutation xs (first ++ second)
  pub first_is : left ≡ map f first
  pub second_is : right ≡ map f second

pub parted : {X Y : Type 0} (f : X → Y) (xs : List X) (left right : List Y) → IsPermutation (map f xs) (left ++ right) → ArePartsOf f xs left right
parted {X} {Y} f xs left right order =
    let so = lifted f xs (left ++ right) order in
    let n = length left in
    record {
      first = take n so.list;
      second = drop n so.list;
      order = subst (IsPermutation xs) (sym (take-append-drop n so.list)) so.order;
      first_is = sym (take_at left right n refl) ∙ ap (take n) so.values ∙ take-map f n so.list;
      second_is = sym (drop_at left right n refl) ∙ ap (drop n) so.values ∙ drop-map f n so.list;
    }
