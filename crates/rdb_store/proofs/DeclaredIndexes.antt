-- The indexes that a schema declares for a class: their keys are leaves, and the store makes them one after another.
use Rattle.std.proofs.Common.{◌≡◌, ◌+◌, ◌<◌, ◌⊎◌, ◌++◌, ℕ, zero, suc, true, false, List, [], ◌∷◌, length, length-append, map, take, slice_get, Option, Some, None, IsTrue, inl, inr, refl, sym, ap, subst, ◌∙◌, arith}
use Rattle.std.proofs.lemmas.Bool.{false≢true}
use Rattle.std.proofs.lemmas.List.Elements.{recursion_from_All}
use Rattle.std.specs.List.{All, AllByRecursion, Contains}
use Rattle.std.specs.Option.{option_map, option_map_or}
use Rattle.rdb_schema.specs.declared.schema.Class.{Class}
use Rattle.rdb_schema.specs.declared.schema.Field.{Field}
use Rattle.rdb_schema.specs.declared.schema.FieldType.{FieldType}
use Rattle.rdb_schema.specs.declared.schema.FieldType.TheVariants as ty
use Rattle.rdb_schema.specs.declared.schema.IndexDecl.{IndexDecl}
use Rattle.rdb_schema.specs.declared.schema.IndexKind.{IndexKind}
use Rattle.rdb_schema.specs.declared.schema.IndexKind.TheVariants.{Hash, Tree, Rtree, Patricia}
use Rattle.rdb_schema.specs.declared.schema.Schema.{Schema}
use Rattle.rdb_schema.specs.declared.types.ValueType.{ValueType}
use Rattle.rdb_schema.specs.declared.types.ValueType.TheVariants as values
use Rattle.rdb_schema.specs.Indexes.{indexes_of, fields_of}
use Rattle.rdb_schema.specs.Keys.{suits, IsKeyField, IsIndexKeyed}
use Rattle.rdb_schema.specs.Schemas.{IsClassKeyed, IsSchema}
use Rattle.rdb_schema.specs.Types.{value_type, types_of}
use Rattle.rdb_schema.proofs.SchemaLemmas.{all_at, few_indexes}
use Rattle.rdb_cells.specs.References.{max_classes, max_indexes}
use Rattle.rdb_rows.specs.RowKeys.{KeyShape, AreLeaves, key_shape}
use Rattle.rdb_store.specs.ClassIndexes.{kind_of, IsAt}
use Rattle.rdb_store.specs.Kept.{shape_of, IsKeyedAt, AreIndexesOf}
use Rattle.rdb_store.specs.Shapes.{index_shape, is_served, IsServed}
use Rattle.rdb_store.specs.declared.class_index.ClassIndex.{ClassIndex}
use Rattle.rdb_store.specs.declared.keyed.Keyed.{Keyed}

-- ---- elements of lists

below_length : {X : Type 0} (xs : List X) (place : ℕ) (x : X) → slice_get xs place ≡ Some x → place < length xs
below_length [] place x there = absurd (cc)
below_length (y ∷ ys) zero x there = omega arith
below_length (y ∷ ys) (suc place) x there = let below = below_length ys place x there in omega arith

get_mapped : {X Y : Type 0} (f : X → Y) (xs : List X) (place : ℕ) (x : X) → slice_get xs place ≡ Some x → slice_get (map f xs) place ≡ Some (f x)
get_mapped f [] place x there = absurd (cc)
get_mapped f (y ∷ ys) zero x there = ap (option_map f) there
get_mapped f (y ∷ ys) (suc place) x there = get_mapped f ys place x there

take_one_more : {X : Type 0} (xs : List X) (count : ℕ) (x : X) → slice_get xs count ≡ Some x → take (suc count) xs ≡ take count xs ++ x ∷ []
take_one_more [] count x there = absurd (cc)
take_one_more (y ∷ ys) zero x there = ap (λ (o : Option _). option_map_or (λ z. z ∷ []) o []) there
take_one_more (y ∷ ys) (suc count) x there = ap (λ (l : List _). y ∷ l) (take_one_more ys count x there)

take_whole : {X : Type 0} (xs : List X) → take (length xs) xs ≡ xs
take_whole [] = refl
take_whole (x ∷ xs) = ap (λ (l : List _). x ∷ l) (take_whole xs)

map_more : {X Y : Type 0} (f : X → Y) (xs : List X) (x : X) → map f (xs ++ x ∷ []) ≡ map f xs ++ f x ∷ []
map_more f [] x = refl
map_more f (y ∷ ys) x = ap (λ (l : List _). f y ∷ l) (map_more f ys x)

length_mapped : {X Y : Type 0} (f : X → Y) (xs : List X) → length (map f xs) ≡ length xs
length_mapped f [] = refl
length_mapped f (x ∷ xs) = ap suc (length_mapped f xs)

-- an element of a list with one more is the last one, or stood there before
pub get_more : {X : Type 0} (xs : List X) (y x : X) (place : ℕ) → slice_get (xs ++ y ∷ []) place ≡ Some x → (slice_get xs place ≡ Some x) ⊎ ((place ≡ length xs) × (y ≡ x))
get_more [] y x zero there = inr (refl, ap (λ (o : Option _). option_map_or (λ z. z) o y) there)
get_more [] y x (suc place) there = absurd (cc)
get_more (z ∷ zs) y x zero there = inl there
get_more (z ∷ zs) y x (suc place) there = elim (get_more zs y x place there) [
  | inl before ↦ inl before
  | inr last ↦ inr (ap suc last.0, last.1)
]

among_all : {X : Type 0} (P : X → Type 0) (xs : List X) → AllByRecursion P xs → (x : X) → Contains xs x → P x
among_all P [] all x within = let below = within.1 in absurd (omega arith)
among_all P (y ∷ ys) all x (zero, below, is) = subst P is all.0
among_all P (y ∷ ys) all x (suc k, below, is) = among_all P ys all.1 x (k, omega arith, is)

-- ---- the keys of an index

-- a field that suits an index of a kind that is served is a leaf
leaf_of : (schema : Schema) (kind : IndexKind) (t : FieldType) → IsTrue (is_served kind) → IsTrue (suits kind t) → (leaf : FieldType) × (value_type schema t ≡ values.Leaf leaf)
leaf_of schema Rtree t served suited = absurd (false≢true served)
leaf_of schema Patricia t served suited = absurd (false≢true served)
leaf_of schema Hash (ty.Num bytes signed) served suited = (ty.Num bytes signed, refl)
leaf_of schema Hash ty.Str served suited = (ty.Str, refl)
leaf_of schema Hash ty.Box4 served suited = absurd (false≢true suited)
leaf_of schema Hash (ty.Vector of) served suited = absurd (false≢true suited)
leaf_of schema Hash (ty.Struct group) served suited = absurd (false≢true suited)
leaf_of schema Tree (ty.Num bytes signed) served suited = (ty.Num bytes signed, refl)
leaf_of schema Tree ty.Str served suited = (ty.Str, refl)
leaf_of schema Tree ty.Box4 served suited = absurd (false≢true suited)
leaf_of schema Tree (ty.Vector of) served suited = absurd (false≢true suited)
leaf_of schema Tree (ty.Struct group) served suited = absurd (false≢true suited)

-- the field at a place that suits
field_at : (fields : List Field) (kind : IndexKind) (place : ℕ) → IsKeyField fields kind place → (field : Field) × (slice_get fields place ≡ Some field) × IsTrue (suits kind field.ty)
field_at [] kind place is = absurd is
field_at (f ∷ fs) kind zero is = (f, refl, is)
field_at (f ∷ fs) kind (suc place) is = field_at fs kind place is

module _ (schema : Schema) (is : IsSchema schema) (class place : ℕ) (decl : IndexDecl) (there : slice_get (indexes_of schema class) place ≡ Some decl) where
  pub few_before : (class < length schema.classes) → (class < max_classes) × (place < max_indexes) × (place < 8)
  few_before within =
      let few_classes = is.limits.few_classes in
      let few = few_indexes schema is class in
      let below = below_length (indexes_of schema class) place decl there in
      (omega arith, omega arith, omega arith)

  fields_are : fields_of schema class place ≡ decl.key
  fields_are = ap (λ (o : Option IndexDecl). option_map_or (λ (i : IndexDecl). i.key) o []) there

  pub key_leaves : IsTrue (is_served decl.kind) → AreLeaves (key_shape schema class place)
  key_leaves served = go (slice_get schema.classes class) refl
    where
      go : (o : Option Class) → slice_get schema.classes class ≡ o → AreLeaves (key_shape schema class place)
      go None e =
          let none : indexes_of schema class ≡ [] = ap (λ (o : Option Class). option_map_or (λ (c : Class). c.indexes) o []) e in
          let lost : None ≡ Some decl = sym (ap (λ (xs : List IndexDecl). slice_get xs place) none) ∙ there in
          absurd (cc)
      go (Some c) e = λ field within.
          let indexes_are : indexes_of schema class ≡ c.indexes = ap (λ (o : Option Class). option_map_or (λ (c : Class). c.indexes) o []) e in
          let types_are : types_of schema class ≡ map (λ (f : Field). value_type schema f.ty) c.fields = ap (λ (o : Option Class). option_map_or (λ (c : Class). map (λ (f : Field). value_type schema f.ty) c.fields) o []) e in
          let here : slice_get c.indexes place ≡ Some decl = sym (ap (λ (xs : List IndexDecl). slice_get xs place) indexes_are) ∙ there in
          let keyed = all_at (IsIndexKeyed c.fields) c.indexes (all_at IsClassKeyed schema.classes is.keyed class c e) place decl here in
          let suited = among_all (IsKeyField c.fields decl.kind) decl.key (recursion_from_All (IsKeyField c.fields decl.kind) decl.key keyed.suited) field (subst (λ (key : List ℕ). Contains key field) fields_are within) in
          let found = field_at c.fields decl.kind field suited in
          let leaf = leaf_of schema decl.kind found.0.ty served found.2 in
          (leaf.0, ap (λ (ts : List ValueType). slice_get ts field) types_are ∙ get_mapped (λ (f : Field). value_type schema f.ty) c.fields field found.0 found.1 ∙ ap Some leaf.1)

  -- what was made of the declaration
  module _ (index : ClassIndex) (keys : KeyShape) (of_kind : kind_of index ≡ decl.kind) (at : IsAt class place index) (keys_are : keys ≡ key_shape schema class place) where
    pub made_shape : shape_of (record { index = index; keys = keys }) ≡ index_shape decl
    made_shape = λ i. record { kind = of_kind i; fields = (ap (λ (k : KeyShape). k.fields) keys_are ∙ fields_are) i }

    pub made_at : IsKeyedAt class (types_of schema class) place (record { index = index; keys = keys })
    made_at = record { at = at; over = ap (λ (k : KeyShape). k.types) keys_are }

-- the indexes of a class that is there
pub indexes_there : (schema : Schema) (class : ℕ) (c : Class) → slice_get schema.classes class ≡ Some c → indexes_of schema class ≡ c.indexes
indexes_there schema class c there = ap (λ (o : Option Class). option_map_or (λ (c : Class). c.indexes) o []) there

-- each index of the class is of a kind that is served
pub served_there : (schema : Schema) (class place : ℕ) (decl : IndexDecl) → IsServed schema → slice_get (indexes_of schema class) place ≡ Some decl → IsTrue (is_served decl.kind)
served_there schema class place decl served there = go (slice_get schema.classes class) refl
  where
    go : (o : Option Class) → slice_get schema.classes class ≡ o → IsTrue (is_served decl.kind)
    go None e =
        let lost : None ≡ Some decl = sym (ap (λ (o : Option Class). slice_get (option_map_or (λ (c : Class). c.indexes) o []) place) e) ∙ there in
        absurd (cc)
    go (Some c) e =
        let here : slice_get c.indexes place ≡ Some decl = sym (ap (λ (o : Option Class). slice_get (option_map_or (λ (c : Class). c.indexes) o []) place) e) ∙ there in
        all_at (λ i. IsTrue (is_served i.kind)) c.indexes (all_at (λ c. All (λ i. IsTrue (is_served i.kind)) c.indexes) schema.classes served class c e) place decl here

-- ---- the indexes, one after another

-- so many of the declared indexes were made
pub record AreMade (class : ℕ) (types : List ValueType) (declared : List IndexDecl) (count : ℕ) (indexes : List (Keyed ClassIndex KeyShape)) : Type 0 where
  pub many : length indexes ≡ count
  pub shapes : map shape_of indexes ≡ map index_shape (take count declared)
  pub each : (place : ℕ) (keyed : Keyed ClassIndex KeyShape) → slice_get indexes place ≡ Some keyed → IsKeyedAt class types place keyed

pub none_made : (class : ℕ) (types : List ValueType) (declared : List IndexDecl) → AreMade class types declared 0 []
none_made class types declared = record { many = refl; shapes = refl; each = λ place keyed there. absurd (cc) }

pub one_more_made : (class : ℕ) (types : List ValueType) (declared : List IndexDecl) (count : ℕ) (indexes : List (Keyed ClassIndex KeyShape)) (decl : IndexDecl) (keyed : Keyed ClassIndex KeyShape) → slice_get declared count ≡ Some decl → shape_of keyed ≡ index_shape decl → IsKeyedAt class types count keyed → AreMade class types declared count indexes → AreMade class types declared (count + 1) (indexes ++ keyed ∷ [])
one_more_made class types declared count indexes decl keyed there shape at made = record {
  many = let many = made.many in length-append indexes (keyed ∷ []) ∙ omega arith;
  shapes =
      let next : suc count ≡ count + 1 = omega arith in
      map_more shape_of indexes keyed
      ∙ (λ i. made.shapes i ++ shape i ∷ [])
      ∙ sym (map_more index_shape (take count declared) decl)
      ∙ ap (map index_shape) (sym (take_one_more declared count decl there))
      ∙ ap (λ n. map index_shape (take n declared)) next;
  each = λ place one got. elim (get_more indexes keyed one place got) [
    | inl before ↦ made.each place one before
    | inr last ↦
        let at_place : place ≡ count = last.0 ∙ made.many in
        subst (λ (n : ℕ). IsKeyedAt class types n one) (sym at_place) (subst (IsKeyedAt class types count) last.1 at)
  ];
}

pub all_made : (schema : Schema) → IsSchema schema → (class : ℕ) (types : List ValueType) (count : ℕ) (indexes : List (Keyed ClassIndex KeyShape)) → count ≡ length (indexes_of schema class) → AreMade class types (indexes_of schema class) count indexes → (map shape_of indexes ≡ map index_shape (indexes_of schema class)) × AreIndexesOf class types indexes
all_made schema is class types count indexes all made =
    let few = few_indexes schema is class in
    let many = made.many in (
      made.shapes ∙ ap (λ n. map index_shape (take n (indexes_of schema class))) all ∙ ap (map index_shape) (take_whole (indexes_of schema class)),
      record { few = omega arith; each = made.each },
    )
