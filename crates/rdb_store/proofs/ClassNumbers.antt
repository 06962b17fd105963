-- The classes of a schema in their store, each at the place of its number.
use Rattle.std.proofs.Common.{◌≡◌, ◌+◌, ◌<◌, ◌++◌, ℕ, zero, suc, List, [], ◌∷◌, length, slice_get, Option, Some, refl, sym, ap, subst, ◌∙◌, arith}
use Rattle.std.specs.Option.{option_map_or}
use Rattle.rdb_schema.specs.declared.schema.Schema.{Schema}
use Rattle.rdb_store.specs.Kept.{AreNumbered}
use Rattle.rdb_store.specs.Shapes.{ClassShape, class_shape, no_class, shapes_from, shapes_of, shape_in}

pub one_class_more : (schema : Schema) (first count : ℕ) → shapes_from schema first (suc count) ≡ shapes_from schema first count ++ class_shape schema (first + count) ∷ []
one_class_more schema first zero = let same : first ≡ first + 0 = omega arith in ap (λ n. class_shape schema n ∷ []) same
one_class_more schema first (suc count) =
    let same : suc first + count ≡ first + suc count = omega arith in
    ap (λ (l : List ClassShape). class_shape schema first ∷ l) (one_class_more schema (suc first) count ∙ ap (λ n. shapes_from schema (suc first) count ++ class_shape schema n ∷ []) same)

pub next_class : (schema : Schema) (count : ℕ) (classes : List ClassShape) (class : ClassShape) → classes ≡ shapes_from schema 0 count → class ≡ class_shape schema count → classes ++ class ∷ [] ≡ shapes_from schema 0 (count + 1)
next_class schema count classes class before is =
    let next : suc count ≡ count + 1 = omega arith in
    let same : count ≡ 0 + count = omega arith in
    (λ i. before i ++ (is ∙ ap (class_shape schema) same) i ∷ []) ∙ sym (one_class_more schema 0 count) ∙ ap (shapes_from schema 0) next

shape_number : (schema : Schema) (first count place : ℕ) (class : ClassShape) → slice_get (shapes_from schema first count) place ≡ Some class → class.number ≡ first + place
shape_number schema first zero place class there = absurd (cc)
shape_number schema first (suc count) zero class there =
    let same : first ≡ first + 0 = omega arith in
    ap (λ (o : Option ClassShape). option_map_or (λ (c : ClassShape). c.number) o 0) (sym there) ∙ same
shape_number schema first (suc count) (suc place) class there =
    let same : suc first + place ≡ first + suc place = omega arith in
    shape_number schema (suc first) count place class there ∙ same

pub are_numbered : (schema : Schema) (count : ℕ) (classes : List ClassShape) → classes ≡ shapes_from schema 0 count → AreNumbered classes
are_numbered schema count classes is = subst AreNumbered (sym is) (λ place class there. (let same : 0 + place ≡ place = omega arith in shape_number schema 0 count place class there ∙ same))

-- the shape at a place
pub shape_there : (classes : List ClassShape) (place : ℕ) (class : ClassShape) → slice_get classes place ≡ Some class → class ≡ shape_in classes place
shape_there [] place class there = absurd (cc)
shape_there (c ∷ cs) zero class there = ap (λ (o : Option ClassShape). option_map_or (λ (d : ClassShape). d) o no_class) (sym there)
shape_there (c ∷ cs) (suc place) class there = shape_there cs place class there

-- the shape of a class is the one that the schema gives
pub schema_shape : (schema : Schema) (first count class : ℕ) → class < count → shape_in (shapes_from schema first count) class ≡ class_shape schema (first + class)
schema_shape schema first zero class below = absurd (omega arith)
schema_shape schema first (suc count) zero below = let same : first ≡ first + 0 = omega arith in ap (class_shape schema) same
schema_shape schema first (suc count) (suc class) below =
    let same : suc first + class ≡ first + suc class = omega arith in
    schema_shape schema (suc first) count class (omega arith) ∙ ap (class_shape schema) same

pub many_shapes : (schema : Schema) (first count : ℕ) → length (shapes_from schema first count) ≡ count
many_shapes schema first zero = refl
many_shapes schema first (suc count) = ap suc (many_shapes schema (suc first) count)

pub schema_class_shape : (schema : Schema) (class : ℕ) → class < length schema.classes → shape_in (shapes_of schema) class ≡ class_shape schema class
schema_class_shape schema class below =
    let same : 0 + class ≡ class = omega arith in
    schema_shape schema 0 (length schema.classes) class below ∙ ap (class_shape schema) same
