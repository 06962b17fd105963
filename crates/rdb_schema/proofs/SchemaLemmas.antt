-- What a schema gives of one of its structs, classes and indexes.
use Rattle.std.proofs.Common.{◌≡◌, ◌≢◌, ℕ, zero, suc, ◌<◌, ◌≤◌, List, [], ◌∷◌, length, Option, Some, None, slice_get, refl, sym, ap, ◌∙◌, arith, subst}
use Rattle.std.specs.Prelude.{IsTrue, IsSomeAnd, slice_index_or}
use Rattle.std.specs.List.{All, AllPairs, filter_map, cons_option}
use Rattle.std.specs.Option.{ForSome, option_map_or}
use Rattle.std.proofs.lemmas.List.Elements.{All-head, All-tail, All-cons, All-nil}
use Rattle.rdb_schema.specs.declared.schema.IndexKind.{IndexKind}
use Rattle.rdb_schema.specs.declared.schema.Field.{Field}
use Rattle.rdb_schema.specs.declared.schema.IndexDecl.{IndexDecl}
use Rattle.rdb_schema.specs.declared.schema.Class.{Class}
use Rattle.rdb_schema.specs.declared.schema.Schema.{Schema}
use Rattle.rdb_schema.specs.Limits.{IsSmallGroup, IsShortKey, IsSmallClass}
use Rattle.rdb_schema.specs.SpelledSchemas.{IsIndexSpelled, IsClassSpelled}
use Rattle.rdb_schema.specs.Keys.{suits, IsKeyField, IsIndexKeyed}
use Rattle.rdb_schema.specs.Indexes.{class_fields, indexes_of, fields_of, key_fields}
use Rattle.rdb_schema.specs.Schemas.{IsClassKeyed, IsSchema, HasKey}

-- what holds of each element holds of the one at a place
pub all_at : {X : Type 0} (P : X → Type 0) (xs : List X) → All P xs → (place : ℕ) → ForSome (slice_get xs place) P
all_at P [] all place x e = absurd cc
all_at P (first ∷ xs) all zero x e = let same : first ≡ x = cc in subst P same (All-head P first xs all)
all_at P (first ∷ xs) all (suc place) x e = all_at P xs (All-tail P first xs all) place x e

-- ---- how many there are

pub few_fields : (schema : Schema) → IsSchema schema → (class : ℕ) → ForSome (slice_get schema.classes class) (λ c. length c.fields ≤ 32)
few_fields schema is class c e = (all_at IsSmallClass schema.classes is.limits.classes class c e).fields

pub few_group_fields : (schema : Schema) → IsSchema schema → (group : ℕ) → ForSome (slice_get schema.groups group) (λ g. length g.fields ≤ 32)
few_group_fields schema is group g e = all_at IsSmallGroup schema.groups is.limits.groups group g e

pub few_indexes_there : (schema : Schema) → IsSchema schema → (class : ℕ) → ForSome (slice_get schema.classes class) (λ c. length c.indexes ≤ 8)
few_indexes_there schema is class c e = (all_at IsSmallClass schema.classes is.limits.classes class c e).indexes

pub few_indexes : (schema : Schema) → IsSchema schema → (class : ℕ) → length (indexes_of schema class) ≤ 8
few_indexes schema is class = go (slice_get schema.classes class) refl where
  go : (o : Option Class) → slice_get schema.classes class ≡ o → length (option_map_or (λ (c : Class). c.indexes) o []) ≤ 8
  go None e = omega arith
  go (Some c) e = few_indexes_there schema is class c e

-- ---- keys

place_within : (fields : List Field) (kind : IndexKind) (place : ℕ) → IsKeyField fields kind place → place < length fields
place_within [] kind place is = absurd is
place_within (field ∷ fields) kind zero is = omega arith
place_within (field ∷ fields) kind (suc place) is = let within = place_within fields kind place is in omega arith

abbrev SuitsAll : IndexKind → List Field → Type 0
SuitsAll kind fields = All (λ (field : Field). IsTrue (suits kind field.ty)) fields

one_more : (kind : IndexKind) (field : Option Field) (fields : List Field) (count : ℕ) → IsSomeAnd field (λ (field : Field). IsTrue (suits kind field.ty)) → SuitsAll kind fields → length fields ≡ count
    → SuitsAll kind (cons_option field fields) × (length (cons_option field fields) ≡ suc count)
one_more kind None fields count is all even = absurd is
one_more kind (Some field) fields count is all even = (All-cons (λ (field : Field). IsTrue (suits kind field.ty)) field fields is all, ap suc even)

-- the declarations of a key's fields, one for each place
declared_keys : (fields : List Field) (kind : IndexKind) (key : List ℕ) → All (IsKeyField fields kind) key → SuitsAll kind (filter_map (slice_get fields) key) × (length (filter_map (slice_get fields) key) ≡ length key)
declared_keys fields kind [] all = (All-nil (λ (field : Field). IsTrue (suits kind field.ty)), refl)
declared_keys fields kind (place ∷ key) all =
    let others = declared_keys fields kind key (All-tail (IsKeyField fields kind) place key all) in
    one_more kind (slice_get fields place) (filter_map (slice_get fields) key) (length key) (All-head (IsKeyField fields kind) place key all) others.0 others.1

pub has_key : (schema : Schema) → IsSchema schema → (class index : ℕ) → ForSome (slice_get (indexes_of schema class) index) (HasKey schema class index)
has_key schema is class index decl there = go (slice_get schema.classes class) refl where
  go : (o : Option Class) → slice_get schema.classes class ≡ o → HasKey schema class index decl
  go None e =
      let none : indexes_of schema class ≡ [] = ap (λ (o : Option Class). option_map_or (λ (c : Class). c.indexes) o []) e in
      let lost : None ≡ Some decl = sym (ap (λ (xs : List IndexDecl). slice_get xs index) none) ∙ there in
      absurd cc
  go (Some c) e =
      let indexes_are : indexes_of schema class ≡ c.indexes = ap (λ (o : Option Class). option_map_or (λ (c : Class). c.indexes) o []) e in
      let fields_are : class_fields schema class ≡ c.fields = ap (λ (o : Option Class). option_map_or (λ (c : Class). c.fields) o []) e in
      let key_is : fields_of schema class index ≡ decl.key = ap (λ (o : Option IndexDecl). option_map_or (λ (i : IndexDecl). i.key) o []) there in
      let keys_are : key_fields schema class index ≡ filter_map (slice_get c.fields) decl.key =
      ap (λ (o : Option Class). option_map_or (λ (c : Class). filter_map (slice_get c.fields) (fields_of schema class index)) o []) e ∙ ap (filter_map (slice_get c.fields)) key_is in
      let here : slice_get c.indexes index ≡ Some decl = sym (ap (λ (xs : List IndexDecl). slice_get xs index) indexes_are) ∙ there in
      let keyed = all_at (IsIndexKeyed c.fields) c.indexes (all_at IsClassKeyed schema.classes is.keyed class c e) index decl here in
      let spelled = all_at (IsIndexSpelled c.fields) c.indexes (all_at (IsClassSpelled schema.groups) schema.classes is.spelled.classes class c e).indexes index decl here in
      let short = all_at IsShortKey c.indexes (all_at IsSmallClass schema.classes is.limits.classes class c e).keys index decl here in
      let declared = declared_keys c.fields decl.kind decl.key keyed.suited in
      let len : length (fields_of schema class index) ≡ length decl.key = ap length key_is in
      record {
        places = λ k d lt. subst (λ (fields : List Field). slice_index_or (fields_of schema class index) k d < length fields) (sym fields_are) (subst (λ (key : List ℕ). slice_index_or key k d < length c.fields) (sym key_is) (place_within c.fields decl.kind _ (keyed.suited k d (omega arith))));
        fields = subst (SuitsAll decl.kind) (sym keys_are) declared.0;
        even = ap length keys_are ∙ declared.1 ∙ sym len;
        some = let some = spelled.some in omega arith;
        short = omega arith;
        once = subst (AllPairs (λ (place other : ℕ). place ≢ other)) (sym key_is) keyed.once;
        single = λ one. len ∙ keyed.single one;
        shared = keyed.shared;
      }
