-- The class that a store keeps is the class of its shape, and lawful.
use Rattle.std.proofs.Common.{◌≡◌, ◌<◌, ℕ, zero, suc, List, [], ◌∷◌, length, map, sum_by, slice_get, slice_index_or, Option, Some, IsTrue, inl, inr, refl, sym, ap, subst, ◌∙◌, arith, rules}
use Rattle.std.proofs.lemmas.List.Sums.{sum_by-cons}
use Rattle.rdb_schema.specs.declared.types.ValueType.{ValueType}
use Rattle.rdb_cells.specs.Images.{Image}
use Rattle.rdb_cells.specs.References.{max_classes}
use Rattle.rdb_rows.specs.RowKeys.{KeyShape, key_meaning, picked}
use Rattle.rdb_hash.specs.Shape.{hash_nature}
use Rattle.rdb_tree.specs.Nature.{tree_nature}
use Rattle.rdb_space.specs.Claim.{part_of_kind}
use Rattle.rdb_sight.specs.Versions.{Object}
use Rattle.rdb_store.specs.declared.class_index.ClassIndex.{ClassIndex}
use Rattle.rdb_store.specs.declared.class_index.ClassIndex.TheVariants.{Hash, Tree}
use Rattle.rdb_store.specs.declared.keyed.Keyed.{Keyed}
use Rattle.rdb_store.specs.Classes.{ClassNature, KeyedNature, AreLawful}
use Rattle.rdb_store.specs.ClassIndexes.{index_nature, kind_of, IsAt}
use Rattle.rdb_store.specs.Holds.{Holds}
use Rattle.rdb_store.specs.Indexed.{Declared, keyed_nature, class_over, parts_of}
use Rattle.rdb_store.specs.Kept.{shape_of, AreIndexesOf}
use Rattle.rdb_store.specs.Shapes.{IndexShape, ClassShape, nature_of, meaning_of, index_at, nature_of_class, is_served}
use Rattle.rdb_store.proofs.Alike.{with_indexes, holds_alike, lawful_alike}
use Rattle.rdb_store.proofs.LawfulClasses.{lawful_kind, head_is}

-- what a class with these indexes is seen as, and what it is beside them
abbrev pub shape_over : ℕ → List ValueType → List (Keyed ClassIndex KeyShape) → ClassShape
shape_over number types indexes = record { number = number; types = types; indexes = map shape_of indexes }

abbrev pub declared_by : ClassShape → Declared
declared_by shape = record { number = shape.number; types = shape.types; key_at = λ place row. picked row (index_at shape place).fields }

get_some : {X : Type 0} (xs : List X) (place : ℕ) → place < length xs → (x : X) × (slice_get xs place ≡ Some x)
get_some [] place below = absurd (omega arith)
get_some (x ∷ xs) zero below = (x, refl)
get_some (x ∷ xs) (suc place) below = get_some xs place (omega arith)

shape_there : (xs : List (Keyed ClassIndex KeyShape)) (place : ℕ) (keyed : Keyed ClassIndex KeyShape) (other : IndexShape) → slice_get xs place ≡ Some keyed → slice_index_or (map shape_of xs) place other ≡ shape_of keyed
shape_there [] place keyed other is = absurd (cc)
shape_there (x ∷ xs) zero keyed other is = ap shape_of (let same : x ≡ keyed = search rules in same)
shape_there (x ∷ xs) (suc place) keyed other is = shape_there xs place keyed other is

pub map_shapes : (xs : List (Keyed ClassIndex KeyShape)) → length (map shape_of xs) ≡ length xs
map_shapes [] = refl
map_shapes (x ∷ xs) = ap suc (map_shapes xs)

served_kind : (index : ClassIndex) → IsTrue (is_served (kind_of index))
served_kind (Hash hash) = refl
served_kind (Tree tree) = refl

nature_is : (number place : ℕ) (index : ClassIndex) → IsAt number place index → index_nature index ≡ nature_of number place (kind_of index)
nature_is number place (Hash hash) at = λ i. hash_nature (at.0 i) (at.1 i).number
nature_is number place (Tree tree) at = λ i. tree_nature (at.0 i) (at.1 i).number

part_is : (index : ClassIndex) → (index_nature index).part ≡ part_of_kind (kind_of index)
part_is (Hash hash) = refl
part_is (Tree tree) = refl

-- what a version takes in the indexes, by their kinds
pub parts_are : (xs : List (Keyed ClassIndex KeyShape)) → parts_of index_nature xs ≡ sum_by (λ i. part_of_kind i.kind) (map shape_of xs)
parts_are [] = refl
parts_are (x ∷ xs) =
    let first = sum_by-cons (λ (k : Keyed ClassIndex KeyShape). (index_nature k.index).part) x xs in
    let second = sum_by-cons (λ (i : IndexShape). part_of_kind i.kind) (shape_of x) (map shape_of xs) in
    let rest = parts_are xs in
    let one = part_is x.index in
    omega arith

module _ (number : ℕ) (types : List ValueType) (indexes : List (Keyed ClassIndex KeyShape)) (are : AreIndexesOf number types indexes) where
  at_same : (place : ℕ) → place < length indexes → ◌≡◌ {A = KeyedNature} ((class_over index_nature key_meaning indexes (declared_by (shape_over number types indexes))).at place) ((nature_of_class (shape_over number types indexes)).at place)
  at_same place below =
      let shape = shape_over number types indexes in
      let there = get_some indexes place below in
      let keyed = there.0 in
      let kept = are.each place keyed there.1 in
      let is : index_at (shape_over number types indexes) place ≡ shape_of keyed = shape_there indexes place keyed _ there.1 in
      let key = (declared_by (shape_over number types indexes)).key_at place in
      let nature = nature_is number place keyed.index kept.at in
      let first : ◌≡◌ {A = KeyedNature} (keyed_nature index_nature key_meaning key (slice_get indexes place)) (record { index = index_nature keyed.index; keys = key_meaning keyed.keys; key_in = key }) =
      λ i. keyed_nature index_nature key_meaning key (there.1 i) in
      let second : ◌≡◌ {A = KeyedNature} (record { index = index_nature keyed.index; keys = key_meaning keyed.keys; key_in = key })
      (record { index = nature_of number place (kind_of keyed.index); keys = key_meaning (record { types = types; fields = keyed.keys.fields }); key_in = key }) =
      λ i. record { index = nature i; keys = key_meaning (record { types = kept.over i; fields = keyed.keys.fields }); key_in = key } in
      let third : ◌≡◌ {A = KeyedNature} (record { index = nature_of number place (kind_of keyed.index); keys = key_meaning (record { types = types; fields = keyed.keys.fields }); key_in = key })
      (record { index = nature_of number place (index_at (shape_over number types indexes) place).kind; keys = meaning_of (shape_over number types indexes) (index_at (shape_over number types indexes) place); key_in = key }) =
      λ i. record { index = nature_of number place (sym is i).kind; keys = meaning_of (shape_over number types indexes) (sym is i); key_in = key } in
      first ∙ second ∙ third

  -- the class of the shape, with as many indexes as there are
  counted : ClassNature
  counted = with_indexes number types (length indexes) (nature_of_class (shape_over number types indexes)).at

  -- what the class of the shape holds, the class with the indexes holds, and back
  pub held_over : (image : Image) (class_of : ℕ → Option ℕ) (objects : List Object) → Holds (nature_of_class (shape_over number types indexes)) image class_of objects → Holds (class_over index_nature key_meaning indexes (declared_by (shape_over number types indexes))) image class_of objects
  held_over image class_of objects holds =
      holds_alike number types (length indexes) (nature_of_class (shape_over number types indexes)).at (class_over index_nature key_meaning indexes (declared_by (shape_over number types indexes))).at
      (λ place below. sym (at_same place below)) image class_of objects
      (subst (λ (n : ℕ). Holds (with_indexes number types n (nature_of_class (shape_over number types indexes)).at) image class_of objects) (map_shapes indexes) holds)

  pub held_by_shape : (image : Image) (class_of : ℕ → Option ℕ) (objects : List Object) → Holds (class_over index_nature key_meaning indexes (declared_by (shape_over number types indexes))) image class_of objects → Holds (nature_of_class (shape_over number types indexes)) image class_of objects
  held_by_shape image class_of objects holds =
      subst (λ (n : ℕ). Holds (with_indexes number types n (nature_of_class (shape_over number types indexes)).at) image class_of objects) (sym (map_shapes indexes))
      (holds_alike number types (length indexes) (class_over index_nature key_meaning indexes (declared_by (shape_over number types indexes))).at (nature_of_class (shape_over number types indexes)).at
      at_same image class_of objects holds)

  pub shape_lawful : number < max_classes → AreLawful (nature_of_class (shape_over number types indexes))
  shape_lawful few_classes =
      let shape = shape_over number types indexes in
      let few = are.few in
      let count = map_shapes indexes in
      record {
        each = λ place below.
            let there = get_some indexes place (omega arith) in
            let is : index_at (shape_over number types indexes) place ≡ shape_of there.0 = shape_there indexes place there.0 _ there.1 in
            lawful_kind number place types (index_at (shape_over number types indexes) place).fields (index_at (shape_over number types indexes) place).kind
            (subst (λ (s : IndexShape). IsTrue (is_served s.kind)) (sym is) (served_kind there.0.index));
        heads = λ n head. elim head [
          | inl own ↦ (omega arith, omega arith)
          | inr index ↦ let below = index.1 in let at = index.2 ∙ head_is number index.0 (index_at (shape_over number types indexes) index.0).kind in (omega arith, omega arith)
        ];
        apart = λ place other below above differ same. differ (
            let one = sym (head_is number place (index_at (shape_over number types indexes) place).kind) ∙ same ∙ head_is number other (index_at (shape_over number types indexes) other).kind in omega arith);
        from_class = λ place below same. let one = sym (head_is number place (index_at (shape_over number types indexes) place).kind) ∙ same in absurd (omega arith);
      }

  pub over_lawful : number < max_classes → AreLawful (class_over index_nature key_meaning indexes (declared_by (shape_over number types indexes)))
  over_lawful few_classes =
      lawful_alike number types (length indexes) (nature_of_class (shape_over number types indexes)).at (class_over index_nature key_meaning indexes (declared_by (shape_over number types indexes))).at
      (λ place below. sym (at_same place below))
      (subst (λ (n : ℕ). AreLawful (with_indexes number types n (nature_of_class (shape_over number types indexes)).at)) (map_shapes indexes) (shape_lawful few_classes))

-- these are the indexes of the class that a store keeps by this shape
pub record IsKept (shape : ClassShape) (indexes : List (Keyed ClassIndex KeyShape)) : Type 0 where
  pub few : shape.number < max_classes
  pub are : AreIndexesOf shape.number shape.types indexes
  pub shapes : map shape_of indexes ≡ shape.indexes

pub is_kept : (kept shape : ClassShape) (indexes : List (Keyed ClassIndex KeyShape)) → kept ≡ shape → kept.number < max_classes → AreIndexesOf kept.number kept.types indexes → map shape_of indexes ≡ kept.indexes → IsKept shape indexes
is_kept kept shape indexes same few are shapes = subst (λ (s : ClassShape). IsKept s indexes) same (record { few = few; are = are; shapes = shapes })
