-- How long a canonical text is, line by line.
use Rattle.std.proofs.Common.{◌≡◌, ℕ, ◌*◌, ◌≤◌, Bool, true, false, List, [], ◌∷◌, length, Option, Some, None, codes, arith, inl, inr, length-append}
use Rattle.std.specs.List.{flat_map, All, sum_by}
use Rattle.std.proofs.lemmas.Fmt.{length-decimal-le}
use Rattle.std.proofs.lemmas.List.Concat.{length-flat_map}
use Rattle.std.proofs.lemmas.List.Elements.{All-head, All-tail}
use Rattle.std.proofs.lemmas.List.Sums.{sum_by-le}
use Rattle.std.proofs.lemmas.Nat.{mul-le}
use Rattle.rdb_schema.specs.declared.schema.Plain.{Plain}
use Rattle.rdb_schema.specs.declared.schema.Plain.TheVariants as plains
use Rattle.rdb_schema.specs.declared.schema.FieldType.{FieldType}
use Rattle.rdb_schema.specs.declared.schema.FieldType.TheVariants as types
use Rattle.rdb_schema.specs.declared.schema.IndexKind.{IndexKind}
use Rattle.rdb_schema.specs.declared.schema.IndexKind.TheVariants as kinds
use Rattle.rdb_schema.specs.declared.schema.EventKind.{EventKind}
use Rattle.rdb_schema.specs.declared.schema.EventKind.TheVariants as events
use Rattle.rdb_schema.specs.declared.schema.Field.{Field}
use Rattle.rdb_schema.specs.declared.schema.IndexDecl.{IndexDecl}
use Rattle.rdb_schema.specs.declared.schema.Event.{Event}
use Rattle.rdb_schema.specs.declared.schema.Group.{Group}
use Rattle.rdb_schema.specs.declared.schema.Class.{Class}
use Rattle.rdb_schema.specs.declared.schema.Schema.{Schema}
use Rattle.rdb_ddl.specs.Canonical.{number_text, plain_text, type_text, field_text, size_text, autoid_text, kind_text, unique_text, named_after, key_text, index_text, event_kind_text, event_text, group_text, class_text, canonical}
use Rattle.rdb_schema.specs.Names.{group_name, field_name, IsName}
use Rattle.rdb_schema.specs.SpelledSchemas.{IsWidth, IsSizeSpelled, IsPlainSpelled, IsTypeSpelled, IsMemberTypeSpelled, IsFieldSpelled, IsMemberSpelled, IsIndexSpelled, IsKindSpelled, IsEventSpelled, IsGroupSpelled, IsClassSpelled, IsSpelled}
use Rattle.rdb_schema.specs.Limits.{IsSmallGroup, IsShortKey, IsSmallClass, IsWithinLimits}
use Rattle.rdb_schema.specs.Schemas.{IsSchema}

-- ---- pieces of so many bytes each

chain : (a b c d : ℕ) → a ≡ b → b ≤ c → c ≤ d → a ≤ d
chain a b c d e f g = omega arith

same_bound : (bound : ℕ) → bound ≤ bound
same_bound bound = omega arith

flat_short : {X : Type 0} (f : X → List ℕ) (bound most : ℕ) (xs : List X) → All (λ x. length (f x) ≤ bound) xs → length xs ≤ most → length (flat_map f xs) ≤ most * bound
flat_short f bound most xs all few =
    chain (length (flat_map f xs)) (sum_by (λ x. length (f x)) xs) (length xs * bound) (most * bound) (length-flat_map f xs) (sum_by-le (λ x. length (f x)) bound xs all) (mul-le (length xs) bound most bound few (same_bound bound))

-- ---- types and fields

narrow : (bytes : ℕ) → IsWidth bytes → bytes ≤ 8
narrow bytes (inl e) = omega arith
narrow bytes (inr (inl e)) = omega arith
narrow bytes (inr (inr (inl e))) = omega arith
narrow bytes (inr (inr (inr e))) = omega arith

number_short : (bytes : ℕ) (signed : Bool) → IsWidth bytes → length (number_text bytes signed) ≤ 5
unfolding number_text
number_short bytes true width =
    let small = narrow bytes width in
    let digits = length-decimal-le 1 bytes (omega arith) (omega arith) (omega arith) in
    simp length-append (omega arith)
number_short bytes false width =
    let small = narrow bytes width in
    let digits = length-decimal-le 1 bytes (omega arith) (omega arith) (omega arith) in
    simp length-append (omega arith)

name_short : (name : List ℕ) → IsName name → length name ≤ 32
name_short name is = is.word.short

plain_short : (groups : List Group) (plain : Plain) → IsPlainSpelled groups plain → length (plain_text groups plain) ≤ 32
unfolding plain_text
plain_short groups (plains.Num bytes signed) is = let number = number_short bytes signed is in omega arith
plain_short groups plains.Str is = omega arith
plain_short groups plains.Box4 is = omega arith
plain_short groups (plains.Struct place) is = name_short (group_name groups place) is

type_short : (groups : List Group) (ty : FieldType) → IsTypeSpelled groups ty → length (type_text groups ty) ≤ 40
unfolding type_text
type_short groups (types.Num bytes signed) is = let number = number_short bytes signed is in omega arith
type_short groups types.Str is = omega arith
type_short groups types.Box4 is = omega arith
type_short groups (types.Struct place) is = let name = name_short (group_name groups place) is in omega arith
type_short groups (types.Vector plain) is = let inside = plain_short groups plain is in simp length-append (omega arith)

member_type_short : (ty : FieldType) → IsMemberTypeSpelled ty → length (type_text [] ty) ≤ 40
unfolding type_text
member_type_short (types.Num bytes signed) is = let number = number_short bytes signed is in omega arith
member_type_short types.Str is = omega arith
member_type_short types.Box4 is = omega arith
member_type_short (types.Struct place) is = absurd is
member_type_short (types.Vector plain) is = absurd is

line_short : (groups : List Group) (field : Field) → length (type_text groups field.ty) ≤ 40 → IsName field.name → length (field_text groups field) ≤ 77
unfolding field_text
line_short groups field type is = let name = name_short field.name is in simp length-append (omega arith)

field_short : (groups : List Group) (field : Field) → IsFieldSpelled groups field → length (field_text groups field) ≤ 77
field_short groups field is = line_short groups field (type_short groups field.ty is.type) is.name

member_short : (field : Field) → IsMemberSpelled field → length (field_text [] field) ≤ 77
member_short field is = line_short [] field (member_type_short field.ty is.type) is.name

-- ---- autoids, indexes and events

size_short : (size : Option ℕ) → IsSizeSpelled size → length (size_text size) ≤ 12
unfolding size_text
size_short None is = omega arith
size_short (Some size) is =
    let digits = length-decimal-le 10 size (omega arith) (omega arith) (omega arith) in
    simp length-append (omega arith)

autoid_short : (autoid : Bool) (size : Option ℕ) → IsSizeSpelled size → length (autoid_text autoid size) ≤ 22
unfolding autoid_text
autoid_short true size is = let brackets = size_short size is in simp length-append (omega arith)
autoid_short false size is = omega arith

kind_short : (kind : IndexKind) → length (kind_text kind) ≤ 8
unfolding kind_text
kind_short kinds.Hash = omega arith
kind_short kinds.Tree = omega arith
kind_short kinds.Rtree = omega arith
kind_short kinds.Patricia = omega arith

unique_short : (unique : Bool) → length (unique_text unique) ≤ 7
unfolding unique_text
unique_short true = omega arith
unique_short false = omega arith

further_short : (fields : List Field) (place : ℕ) → IsName (field_name fields place) → length (named_after fields (codes ",") place) ≤ 33
further_short fields place is = let name = name_short (field_name fields place) is in simp length-append (omega arith)

key_short : (fields : List Field) (key : List ℕ) → All (λ place. IsName (field_name fields place)) key → length key ≤ 4 → length (key_text fields key) ≤ 131
unfolding key_text
key_short fields [] all few = omega arith
key_short fields (place ∷ places) all few =
    let first = name_short (field_name fields place) (All-head (λ (place : ℕ). IsName (field_name fields place)) place places all) in
    let later = All-tail (λ (place : ℕ). IsName (field_name fields place)) place places all in
    let others = flat_short (named_after fields (codes ",")) 33 3 places (λ k d lt. further_short fields _ (later k d lt)) (omega arith) in
    simp length-append (omega arith)

index_short : (fields : List Field) (index : IndexDecl) → IsIndexSpelled fields index → IsShortKey index → length (index_text fields index) ≤ 197
unfolding index_text
index_short fields index is few =
    let unique = unique_short index.unique in
    let kind = kind_short index.kind in
    let key = key_short fields index.key is.key few in
    let name = name_short index.name is.name in
    let size = size_short index.estimate is.size in
    simp length-append (omega arith)

event_kind_short : (fields : List Field) (kind : EventKind) → IsKindSpelled fields kind → length (event_kind_text fields kind) ≤ 39
unfolding event_kind_text
event_kind_short fields events.New is = omega arith
event_kind_short fields events.Delete is = omega arith
event_kind_short fields events.Update is = omega arith
event_kind_short fields (events.UpdateField place) is = let name = name_short (field_name fields place) is in simp length-append (omega arith)

event_short : (fields : List Field) (event : Event) → IsEventSpelled fields event → length (event_text fields event) ≤ 83
unfolding event_text
event_short fields event is =
    let kind = event_kind_short fields event.kind is.kind in
    let name = name_short event.name is.name in
    simp length-append (omega arith)

-- ---- structs, classes and the whole

group_short : (group : Group) → IsGroupSpelled group → IsSmallGroup group → length (group_text group) ≤ 2600
unfolding group_text
group_short group is few =
    let name = name_short group.name is.name in
    let fields = flat_short (field_text []) 77 32 group.fields (λ k d lt. member_short _ (is.fields k d lt)) few in
    simp length-append (omega arith)

class_short : (groups : List Group) (class : Class) → IsClassSpelled groups class → IsSmallClass class → length (class_text groups class) ≤ 5000
unfolding class_text
class_short groups class is small =
    let name = name_short class.name is.name in
    let fields = flat_short (field_text groups) 77 32 class.fields (λ k d lt. field_short groups _ (is.fields k d lt)) small.fields in
    let autoid = autoid_short class.autoid class.estimate is.size in
    let indexes = flat_short (index_text class.fields) 197 8 class.indexes (λ k d lt. index_short class.fields _ (is.indexes k d lt) (small.keys k d lt)) small.indexes in
    let own_events = flat_short (event_text class.fields) 83 8 class.events (λ k d lt. event_short class.fields _ (is.events k d lt)) small.events in
    simp length-append (omega arith)

whole_short : (schema : Schema) → IsSpelled schema → IsWithinLimits schema → length (canonical schema) ≤ 16777216
unfolding canonical
whole_short schema is limits =
    let name = name_short schema.name is.name in
    let groups = flat_short group_text 2600 64 schema.groups (λ k d lt. group_short _ (is.groups k d lt) (limits.groups k d lt)) limits.few_groups in
    let classes = flat_short (class_text schema.groups) 5000 64 schema.classes (λ k d lt. class_short schema.groups _ (is.classes k d lt) (limits.classes k d lt)) limits.few_classes in
    simp length-append (omega arith)

pub short : (schema : Schema) → IsSchema schema → length (canonical schema) ≤ 16777216
short schema is = whole_short schema is.spelled is.limits
