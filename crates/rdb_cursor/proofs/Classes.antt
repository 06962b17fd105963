-- The class that an operation is of: it is one of the schema, its store knows it, and it can be looked at.
use Rattle.std.proofs.Common.{◌≡◌, ◌+◌, ◌<◌, zero, suc, ℕ, Bool, true, false, List, [], ◌∷◌, length, map, slice_get, get_or, Option, Some, None, refl, sym, ap, ◌∙◌, arith}
use Rattle.std.proofs.lemmas.Bool.{false≢true}
use Rattle.std.proofs.lemmas.Bool.Decides.{nat_tests}
use Rattle.std.specs.List.{filter_map, cons_option}
use Rattle.std.specs.Option.{option_map, option_map_or}
use Rattle.rdb_base.specs.declared.identity.Kind.{Kind}
use Rattle.rdb_base.specs.declared.operation.Op.{Op}
use Rattle.rdb_base.specs.declared.operation.Op.TheVariants as op
use Rattle.rdb_base.specs.declared.value.Value.{Value}
use Rattle.rdb_base.specs.Operations.{class_of as class_named}
use Rattle.rdb_schema.specs.declared.schema.Class.{Class}
use Rattle.rdb_schema.specs.declared.schema.Field.{Field}
use Rattle.rdb_schema.specs.declared.schema.IndexDecl.{IndexDecl}
use Rattle.rdb_schema.specs.declared.schema.IndexKind.{IndexKind}
use Rattle.rdb_schema.specs.declared.schema.IndexKind.TheVariants.{Hash, Tree, Rtree, Patricia}
use Rattle.rdb_schema.specs.declared.schema.Schema.{Schema}
use Rattle.rdb_schema.specs.declared.types.ValueType.{ValueType}
use Rattle.rdb_schema.specs.Indexes.{indexes_of, fields_of, is_tree}
use Rattle.rdb_schema.specs.Schemas.{IsSchema}
use Rattle.rdb_schema.specs.Types.{types_of, value_type, row_fits}
use Rattle.rdb_schema.specs.Values.{values_hold, row_holds}
use Rattle.rdb_schema.proofs.EncodingLengths.{fits-row}
use Rattle.rdb_cells.specs.Images.{Image}
use Rattle.rdb_rows.specs.RowKeys.{picked}
use Rattle.rdb_model.specs.Fits.{has_class, has_index, fits_key, fits}
use Rattle.rdb_model.proofs.FitsLemmas.{in_range, first_of, second_of}
use Rattle.rdb_store.specs.Shapes.{IsServed, IndexShape, index_shape, class_shape, shapes_of, shapes_from, shape_in, no_class, index_at}
use Rattle.rdb_store.proofs.LawfulClasses.{schema_lawful}
use Rattle.rdb_cursor.specs.Replies.{HoldsFor}
use Rattle.rdb_cursor.specs.Views.{CanLook}

-- The store's shape of a class
shapes_long : (schema : Schema) (first many : ℕ) → length (shapes_from schema first many) ≡ many
shapes_long schema first zero = refl
shapes_long schema first (suc many) = ap suc (shapes_long schema (suc first) many)

shape_there : (schema : Schema) (first many k : ℕ) → k < many → get_or (shapes_from schema first many) k no_class ≡ class_shape schema (first + k)
shape_there schema first zero k below = absurd (omega arith)
shape_there schema first (suc many) zero below = ap (class_shape schema) (omega arith)
shape_there schema first (suc many) (suc k) below = shape_there schema (suc first) many k (omega arith) ∙ ap (class_shape schema) (omega arith)

pub in_store : (schema : Schema) (class : ℕ) → class < length schema.classes → class < length (shapes_of schema)
in_store schema class below = let long = shapes_long schema 0 (length schema.classes) in omega arith

pub shape_is : (schema : Schema) (class : ℕ) → class < length schema.classes → shape_in (shapes_of schema) class ≡ class_shape schema class
shape_is schema class below = shape_there schema 0 (length schema.classes) class below ∙ ap (class_shape schema) (omega arith)

-- The class of an operation that fits is one of the schema
class_below : (schema : Schema) (class : ℕ) → has_class schema class ≡ true → class < length schema.classes
class_below schema class has = grind (arith, nat_tests)

class_by_row : (schema : Schema) (class : ℕ) (row : List Value) → row_holds schema class row ≡ true → class < length schema.classes
class_by_row schema class row holds = in_range (λ (c : Class). values_hold schema c.fields row) schema.classes class holds

class_by_index : (schema : Schema) (class index : ℕ) (passes : IndexKind → Bool) → has_index schema class index passes ≡ true → class < length schema.classes
class_by_index schema class index passes has = go (slice_get schema.classes class) refl has
  where
    there : (cs : List Class) (k : ℕ) (c : Class) → slice_get cs k ≡ Some c → k < length cs
    there [] k c is = absurd (no_one is)
      where
        no_one : None ≡ Some c → ⊥
        no_one e = (cc)
    there (d ∷ cs) zero c is = omega arith
    there (d ∷ cs) (suc k) c is = let rest = there cs k c is in omega arith

    go : (o : Option Class) → slice_get schema.classes class ≡ o → option_map_or (λ i. passes i.kind) (slice_get (option_map_or (λ c. c.indexes) o []) index) false ≡ true → class < length schema.classes
    go None e f = absurd (false≢true f)
    go (Some c) e f = there schema.classes class c e

pub class_fits : (schema : Schema) (o : Op) (kind : Kind) → fits schema o kind ≡ true → class_named o < length schema.classes
class_fits schema (op.New class row id) kind f = class_by_row schema class row (first_of _ _ (second_of _ _ f))
class_fits schema (op.Get class id) kind f = class_below schema class f
class_fits schema (op.Put class id row) kind f = class_by_row schema class row (first_of _ _ (second_of _ _ f))
class_fits schema (op.Del class id) kind f = class_below schema class (second_of _ _ f)
class_fits schema (op.Find class index key) kind f = class_by_index schema class index _ (first_of _ _ f)
class_fits schema (op.Seek class index from up) kind f = class_by_index schema class index _ (first_of _ _ f)
class_fits schema (op.Area class index rect inside) kind f = class_by_index schema class index _ (first_of _ _ f)
class_fits schema (op.Prefix class index text way) kind f = class_by_index schema class index _ (first_of _ _ f)
class_fits schema (op.Count class) kind f = class_below schema class f

-- its cells can be looked at
pub can_look : (schema : Schema) (image : Image) (class_of : ℕ → Option ℕ) (o : Op) → IsSchema schema → IsServed schema → class_named o < length schema.classes → HoldsFor schema image class_of o
    → CanLook (class_shape schema (class_named o)) image class_of
can_look schema image class_of o is served below holds = record {
  numbered = (let few = is.limits.few_classes in omega arith);
  lawful = schema_lawful schema (class_named o) is served below;
  holds = holds;
}

-- The index that an operation looks in
pub shape_of_index : (is : List IndexDecl) (place : ℕ) (d : IndexDecl) (other : IndexShape) → slice_get is place ≡ Some d → get_or (map index_shape is) place other ≡ index_shape d
shape_of_index [] place d other e = absurd (no_one e)
  where
    no_one : None ≡ Some d → ⊥
    no_one f = (cc)
shape_of_index (i ∷ is) zero d other e = ap (λ (o : Option IndexDecl). option_map_or index_shape o other) e
shape_of_index (i ∷ is) (suc place) d other e = shape_of_index is place d other e

there_of : {X : Type 0} (xs : List X) (place : ℕ) → place < length xs → (x : X) × (slice_get xs place ≡ Some x)
there_of [] place below = absurd (omega arith)
there_of (x ∷ xs) zero below = (x, refl)
there_of (x ∷ xs) (suc place) below = there_of xs place (omega arith)

module _ (schema : Schema) (class index : ℕ) (passes : IndexKind → Bool) (has : has_index schema class index passes ≡ true) where
  pub below : index < length (indexes_of schema class)
  below = in_range (λ (i : IndexDecl). passes i.kind) (indexes_of schema class) index has

  pub decl : (d : IndexDecl) × (slice_get (indexes_of schema class) index ≡ Some d)
  decl = there_of (indexes_of schema class) index below

  few_shapes : (is : List IndexDecl) → length (map index_shape is) ≡ length is
  few_shapes [] = refl
  few_shapes (i ∷ is) = ap suc (few_shapes is)

  pub index_below : index < length (class_shape schema class).indexes
  index_below = let long = few_shapes (indexes_of schema class) in let b = below in omega arith

  pub index_is : index_at (class_shape schema class) index ≡ index_shape decl.0
  index_is = shape_of_index (indexes_of schema class) index decl.0 _ decl.1

  pub fields_are : fields_of schema class index ≡ (index_at (class_shape schema class) index).fields
  fields_are = ap (λ (o : Option IndexDecl). option_map_or (λ i. i.key) o []) decl.1 ∙ sym (ap (λ (s : IndexShape). s.fields) index_is)

  pub kind_passes : passes (index_at (class_shape schema class) index).kind ≡ true
  kind_passes = ap (λ (s : IndexShape). passes s.kind) index_is ∙ sym (ap (λ (o : Option IndexDecl). option_map_or (λ i. passes i.kind) o false) decl.1) ∙ has

pub tree_is : (kind : IndexKind) → is_tree kind ≡ true → kind ≡ Tree
tree_is Hash e = absurd (false≢true e)
tree_is Tree e = refl
tree_is Rtree e = absurd (false≢true e)
tree_is Patricia e = absurd (false≢true e)

-- A key that fits an index is of the types of the index's fields
types_at : (schema : Schema) (fs : List Field) (k : ℕ) → slice_get (map (λ (f : Field). value_type schema f.ty) fs) k ≡ option_map (λ (f : Field). value_type schema f.ty) (slice_get fs k)
types_at schema [] k = refl
types_at schema (f ∷ fs) zero = refl
types_at schema (f ∷ fs) (suc k) = types_at schema fs k

picked_types : (schema : Schema) (fs : List Field) (fields : List ℕ) → picked (map (λ (f : Field). value_type schema f.ty) fs) fields ≡ map (λ (f : Field). value_type schema f.ty) (picked fs fields)
picked_types schema fs [] = refl
picked_types schema fs (k ∷ ks) =
    ap (λ (o : Option ValueType). cons_option o (picked (map (λ (f : Field). value_type schema f.ty) fs) ks)) (types_at schema fs k)
    ∙ go (slice_get fs k) (picked_types schema fs ks)
  where
    go : (o : Option Field) → picked (map (λ (f : Field). value_type schema f.ty) fs) ks ≡ map (λ (f : Field). value_type schema f.ty) (picked fs ks)
        → cons_option (option_map (λ (f : Field). value_type schema f.ty) o) (picked (map (λ (f : Field). value_type schema f.ty) fs) ks) ≡ map (λ (f : Field). value_type schema f.ty) (cons_option o (picked fs ks))
    go None rest = rest
    go (Some f) rest = ap (λ (ts : List ValueType). value_type schema f.ty ∷ ts) rest

-- values of fields, as those of a class with these fields alone
with_fields : (schema : Schema) (c : Class) (fields : List Field) (key : List Value) → row_fits (map (λ (f : Field). value_type schema f.ty) fields) key ≡ values_hold schema fields key
with_fields schema c fields key = fits-row (record schema { classes = record c { fields = fields } ∷ [] }) 0 (record c { fields = fields }) key refl

pub key_types_fit : (schema : Schema) (class index : ℕ) (key : List Value) → class < length schema.classes → fits_key schema class index key ≡ true → row_fits (picked (types_of schema class) (fields_of schema class index)) key ≡ true
key_types_fit schema class index key within fit = go (slice_get schema.classes class) refl fit
  where
    go : (o : Option Class) → slice_get schema.classes class ≡ o → values_hold schema (option_map_or (λ c. filter_map (slice_get c.fields) (fields_of schema class index)) o []) key ≡ true
        → row_fits (picked (option_map_or (λ c. map (λ f. value_type schema f.ty) c.fields) o []) (fields_of schema class index)) key ≡ true
    go None e f = let found = there_of schema.classes class within in absurd (no_one (sym e ∙ found.1))
      where
        no_one : {c : Class} → None ≡ Some c → ⊥
        no_one g = (cc)
    go (Some c) e f =
        ap (λ (ts : List ValueType). row_fits ts key) (picked_types schema c.fields (fields_of schema class index))
        ∙ with_fields schema c (picked c.fields (fields_of schema class index)) key ∙ f
