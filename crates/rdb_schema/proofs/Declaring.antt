-- What the parts of a schema declare is the schema.
use Rattle.std.proofs.Common.{◌≡◌, ℕ, Bool, true, false, cond, not, List, [], ◌∷◌, ◌++◌, length, Option, Some, None, refl, sym, ap, ◌∙◌, subst, append_assoc, slice_get}
use Rattle.std.specs.Prelude.{map}
use Rattle.std.specs.List.{flat_map, All, take_while, list_any}
use Rattle.std.specs.Option.{option_to_list}
use Rattle.std.proofs.lemmas.List.{append-nil}
use Rattle.std.proofs.lemmas.List.Elements.{All-head, All-tail, All-cons, All-nil, All-append}
use Rattle.std.proofs.lemmas.List.Sums.{take_while-cons}
use Rattle.rdb_schema.specs.declared.schema.Plain.{Plain}
use Rattle.rdb_schema.specs.declared.schema.Plain.TheVariants as plains
use Rattle.rdb_schema.specs.declared.schema.FieldType.{FieldType}
use Rattle.rdb_schema.specs.declared.schema.FieldType.TheVariants as types
use Rattle.rdb_schema.specs.declared.schema.IndexKind.{IndexKind}
use Rattle.rdb_schema.specs.declared.schema.EventKind.{EventKind}
use Rattle.rdb_schema.specs.declared.schema.EventKind.TheVariants as events
use Rattle.rdb_schema.specs.declared.schema.Field.{Field}
use Rattle.rdb_schema.specs.declared.schema.IndexDecl.{IndexDecl}
use Rattle.rdb_schema.specs.declared.schema.Event.{Event}
use Rattle.rdb_schema.specs.declared.schema.Group.{Group}
use Rattle.rdb_schema.specs.declared.schema.Class.{Class}
use Rattle.rdb_schema.specs.declared.schema.Schema.{Schema}
use Rattle.rdb_schema.specs.declared.syntax.Part.{Part}
use Rattle.rdb_schema.specs.declared.syntax.Part.TheVariants as parts
use Rattle.rdb_schema.specs.Rules.{body_of, is_head, is_autoid}
use Rattle.rdb_schema.specs.Meaning.{gather, field_place, type_from, field_with, field_from, fields_of, key_name, key_of, index_with, index_from, indexes_of, event_from, events_of, estimate_from, estimate_or, estimate_of, class_of, group_from, groups_of, class_from, classes_of, declared}
use Rattle.rdb_schema.specs.Names.{group_name, field_name}
use Rattle.rdb_schema.specs.SchemaParts.{plain_part, type_part, field_parts, autoid_parts, key_part, index_parts, kind_parts, event_parts, group_parts, body_parts, class_parts, parts_of}
use Rattle.rdb_schema.specs.Resolved.{IsFieldPlace, IsPlainResolved, IsTypeResolved, IsFieldResolved, IsIndexResolved, IsKindResolved, IsEventResolved, IsGroupResolved, IsAutoidResolved, IsClassResolved, IsResolved}

-- ---- parts of other kinds

-- none of these parts is of a kind
abbrev pub Lacks : (Part → Bool) → List Part → Type 0
Lacks kind xs = All (λ part. kind part ≡ false) xs

abbrev pub opens_group : Part → Bool
opens_group (parts.Struct name) = true
opens_group _ = false

abbrev pub opens_class : Part → Bool
opens_class (parts.Class name) = true
opens_class _ = false

abbrev pub opens_field : Part → Bool
opens_field (parts.Plain ty vector) = true
opens_field (parts.Named name vector) = true
opens_field _ = false

abbrev pub opens_index : Part → Bool
opens_index (parts.Index unique kind) = true
opens_index _ = false

abbrev pub opens_event : Part → Bool
opens_event (parts.Event kind) = true
opens_event _ = false

pub lacks_one : (kind : Part → Bool) (x : Part) (xs : List Part) → kind x ≡ false → Lacks kind xs → Lacks kind (x ∷ xs)
lacks_one kind x xs h all = All-cons (λ (part : Part). kind part ≡ false) x xs h all

pub lacks_nil : (kind : Part → Bool) → Lacks kind []
lacks_nil kind = All-nil (λ (part : Part). kind part ≡ false)

pub lacks_both : (kind : Part → Bool) (xs ys : List Part) → Lacks kind xs → Lacks kind ys → Lacks kind (xs ++ ys)
lacks_both kind xs ys a b = All-append (λ (part : Part). kind part ≡ false) xs ys a b

pub lacks_flat : {X : Type 0} (kind : Part → Bool) (of : X → List Part) → ((x : X) → Lacks kind (of x)) → (xs : List X) → Lacks kind (flat_map of xs)
lacks_flat kind of one [] = lacks_nil kind
lacks_flat kind of one (x ∷ xs) = lacks_both kind (of x) (flat_map of xs) (one x) (lacks_flat kind of one xs)

plain_lacks : (kind : Part → Bool) (groups : List Group) (plain : Plain) (vector : Bool) → ((ty : Plain) (vector : Bool) → kind (parts.Plain ty vector) ≡ false) → ((name : List ℕ) (vector : Bool) → kind (parts.Named name vector) ≡ false) → kind (plain_part groups plain vector) ≡ false
plain_lacks kind groups (plains.Num bytes signed) vector a b = a (plains.Num bytes signed) vector
plain_lacks kind groups plains.Str vector a b = a plains.Str vector
plain_lacks kind groups plains.Box4 vector a b = a plains.Box4 vector
plain_lacks kind groups (plains.Struct place) vector a b = b (group_name groups place) vector

type_lacks : (kind : Part → Bool) (groups : List Group) (type : FieldType) → ((ty : Plain) (vector : Bool) → kind (parts.Plain ty vector) ≡ false) → ((name : List ℕ) (vector : Bool) → kind (parts.Named name vector) ≡ false) → kind (type_part groups type) ≡ false
type_lacks kind groups (types.Num bytes signed) a b = a (plains.Num bytes signed) false
type_lacks kind groups types.Str a b = a plains.Str false
type_lacks kind groups types.Box4 a b = a plains.Box4 false
type_lacks kind groups (types.Struct place) a b = b (group_name groups place) false
type_lacks kind groups (types.Vector plain) a b = plain_lacks kind groups plain true a b

field_lacks : (kind : Part → Bool) (groups : List Group) → ((ty : Plain) (vector : Bool) → kind (parts.Plain ty vector) ≡ false) → ((name : List ℕ) (vector : Bool) → kind (parts.Named name vector) ≡ false) → ((name : List ℕ) → kind (parts.Member name) ≡ false) → (field : Field) → Lacks kind (field_parts groups field)
field_lacks kind groups a b c field = lacks_one kind (type_part groups field.ty) (parts.Member field.name ∷ []) (type_lacks kind groups field.ty a b) (lacks_one kind (parts.Member field.name) [] (c field.name) (lacks_nil kind))

autoid_lacks : (kind : Part → Bool) → ((size : Option ℕ) → kind (parts.Autoid size) ≡ false) → (autoid : Bool) (size : Option ℕ) → Lacks kind (autoid_parts autoid size)
autoid_lacks kind a true size = lacks_one kind (parts.Autoid size) [] (a size) (lacks_nil kind)
autoid_lacks kind a false size = lacks_nil kind

keys_lack : (kind : Part → Bool) (fields : List Field) → ((name : List ℕ) → kind (parts.Key name) ≡ false) → (key : List ℕ) → Lacks kind (map (key_part fields) key)
keys_lack kind fields b [] = lacks_nil kind
keys_lack kind fields b (place ∷ key) = lacks_one kind (key_part fields place) (map (key_part fields) key) (b (field_name fields place)) (keys_lack kind fields b key)

index_ends_lack : (kind : Part → Bool) (fields : List Field) → ((name : List ℕ) → kind (parts.Key name) ≡ false) → ((name : List ℕ) (size : Option ℕ) → kind (parts.IndexName name size) ≡ false) → (index : IndexDecl) → Lacks kind (map (key_part fields) index.key ++ parts.IndexName index.name index.estimate ∷ [])
index_ends_lack kind fields b c index = lacks_both kind (map (key_part fields) index.key) (parts.IndexName index.name index.estimate ∷ []) (keys_lack kind fields b index.key) (lacks_one kind (parts.IndexName index.name index.estimate) [] (c index.name index.estimate) (lacks_nil kind))

index_lacks : (kind : Part → Bool) (fields : List Field) → ((unique : Bool) (k : IndexKind) → kind (parts.Index unique k) ≡ false) → ((name : List ℕ) → kind (parts.Key name) ≡ false) → ((name : List ℕ) (size : Option ℕ) → kind (parts.IndexName name size) ≡ false) → (index : IndexDecl) → Lacks kind (index_parts fields index)
index_lacks kind fields a b c index = lacks_one kind (parts.Index index.unique index.kind) (map (key_part fields) index.key ++ parts.IndexName index.name index.estimate ∷ []) (a index.unique index.kind) (index_ends_lack kind fields b c index)

kind_lacks : (kind : Part → Bool) (fields : List Field) → ((k : EventKind) → kind (parts.Event k) ≡ false) → ((name : List ℕ) → kind (parts.Update name) ≡ false) → (k : EventKind) → Lacks kind (kind_parts fields k)
kind_lacks kind fields a b events.New = lacks_one kind (parts.Event events.New) [] (a events.New) (lacks_nil kind)
kind_lacks kind fields a b events.Delete = lacks_one kind (parts.Event events.Delete) [] (a events.Delete) (lacks_nil kind)
kind_lacks kind fields a b events.Update = lacks_one kind (parts.Event events.Update) [] (a events.Update) (lacks_nil kind)
kind_lacks kind fields a b (events.UpdateField place) = lacks_one kind (parts.Event events.Update) (parts.Update (field_name fields place) ∷ []) (a events.Update) (lacks_one kind (parts.Update (field_name fields place)) [] (b (field_name fields place)) (lacks_nil kind))

event_lacks : (kind : Part → Bool) (fields : List Field) → ((k : EventKind) → kind (parts.Event k) ≡ false) → ((name : List ℕ) → kind (parts.Update name) ≡ false) → ((name : List ℕ) → kind (parts.EventName name) ≡ false) → (event : Event) → Lacks kind (event_parts fields event)
event_lacks kind fields a b c event = lacks_both kind (kind_parts fields event.kind) (parts.EventName event.name ∷ []) (kind_lacks kind fields a b event.kind) (lacks_one kind (parts.EventName event.name) [] (c event.name) (lacks_nil kind))

-- ---- what is gathered of them

-- parts that declare nothing are passed over
pub passed_over : {X : Type 0} (kind : Part → Bool) (from : Part → List Part → Option X) → ((part : Part) (rest : List Part) → kind part ≡ false → from part rest ≡ None) → (xs rest : List Part) → Lacks kind xs → gather from (xs ++ rest) ≡ gather from rest
unfolding gather
passed_over kind from quiet [] rest lacks = refl
passed_over kind from quiet (x ∷ xs) rest lacks =
    ap (λ found. option_to_list found ++ gather from (xs ++ rest)) (quiet x (xs ++ rest) (All-head (λ (part : Part). kind part ≡ false) x xs lacks))
    ∙ passed_over kind from quiet xs rest (All-tail (λ (part : Part). kind part ≡ false) x xs lacks)

pub no_group : (part : Part) (rest : List Part) → opens_group part ≡ false → group_from part rest ≡ None
unfolding group_from
no_group (parts.Struct name) rest e = absurd cc
no_group part rest e = refl

pub no_class : (groups : List Group) (part : Part) (rest : List Part) → opens_class part ≡ false → class_from groups part rest ≡ None
unfolding class_from
no_class groups (parts.Class name) rest e = absurd cc
no_class groups part rest e = refl

pub no_field : (groups : List Group) (part : Part) (rest : List Part) → opens_field part ≡ false → field_from groups part rest ≡ None
unfolding field_from
no_field groups (parts.Plain ty vector) rest e = absurd cc
no_field groups (parts.Named name vector) rest e = absurd cc
no_field groups part rest e = refl

pub no_index : (fields : List Field) (part : Part) (rest : List Part) → opens_index part ≡ false → index_from fields part rest ≡ None
unfolding index_from
no_index fields (parts.Index unique kind) rest e = absurd cc
no_index fields part rest e = refl

pub no_event : (fields : List Field) (part : Part) (rest : List Part) → opens_event part ≡ false → event_from fields part rest ≡ None
unfolding event_from
no_event fields (parts.Event kind) rest e = absurd cc
no_event fields part rest e = refl

-- a declaration of which each block declares one thing
gathers : {X : Type 0} (from : Part → List Part → Option X) (of : X → List Part) (Good : X → Type 0) → ((x : X) (rest : List Part) → Good x → gather from (of x ++ rest) ≡ x ∷ gather from rest)
    → (xs : List X) (rest : List Part) → All Good xs → gather from (flat_map of xs ++ rest) ≡ xs ++ gather from rest
gathers from of Good one [] rest all = refl
gathers from of Good one (x ∷ xs) rest all =
    ap (gather from) (append_assoc (of x) (flat_map of xs) rest) ∙ one x (flat_map of xs ++ rest) (All-head Good x xs all) ∙ ap (λ others. x ∷ others) (gathers from of Good one xs rest (All-tail Good x xs all))

-- ---- fields

plain_given : (groups : List Group) (plain : Plain) → IsPlainResolved groups plain → type_from groups (plain_part groups plain true) ≡ Some (types.Vector plain)
plain_given groups (plains.Num bytes signed) resolved = refl
plain_given groups plains.Str resolved = refl
plain_given groups plains.Box4 resolved = refl
plain_given groups (plains.Struct place) resolved = ap (λ (place : ℕ). Some (types.Vector (plains.Struct place))) resolved

type_given : (groups : List Group) (type : FieldType) → IsTypeResolved groups type → type_from groups (type_part groups type) ≡ Some type
type_given groups (types.Num bytes signed) resolved = refl
type_given groups types.Str resolved = refl
type_given groups types.Box4 resolved = refl
type_given groups (types.Struct place) resolved = ap (λ (place : ℕ). Some (types.Struct place)) resolved
type_given groups (types.Vector plain) resolved = plain_given groups plain resolved

field_given : (groups : List Group) (field : Field) (rest : List Part) → IsFieldResolved groups field → gather (field_from groups) (field_parts groups field ++ rest) ≡ field ∷ gather (field_from groups) rest
unfolding gather field_from
field_given groups field rest resolved = ap (λ (type : Option FieldType). option_to_list (field_with type (parts.Member field.name ∷ rest)) ++ gather (field_from groups) rest) (type_given groups field.ty resolved)

group_fields : (fields : List Field) → All (IsFieldResolved []) fields → fields_of [] (flat_map (field_parts []) fields) ≡ fields
unfolding gather
group_fields fields all =
    ap (gather (field_from [])) (sym (append-nil (flat_map (field_parts []) fields))) ∙ gathers (field_from []) (field_parts []) (IsFieldResolved []) (field_given []) fields [] all ∙ append-nil fields

after_fields : (kind : Part → Bool) (class : Class) → ((size : Option ℕ) → kind (parts.Autoid size) ≡ false) → ((unique : Bool) (k : IndexKind) → kind (parts.Index unique k) ≡ false) → ((name : List ℕ) → kind (parts.Key name) ≡ false) → ((name : List ℕ) (size : Option ℕ) → kind (parts.IndexName name size) ≡ false)
    → ((k : EventKind) → kind (parts.Event k) ≡ false) → ((name : List ℕ) → kind (parts.Update name) ≡ false) → ((name : List ℕ) → kind (parts.EventName name) ≡ false)
    → Lacks kind (autoid_parts class.autoid class.estimate ++ (flat_map (index_parts class.fields) class.indexes ++ flat_map (event_parts class.fields) class.events))
after_fields kind class a b c d e f g =
    lacks_both kind (autoid_parts class.autoid class.estimate) (flat_map (index_parts class.fields) class.indexes ++ flat_map (event_parts class.fields) class.events) (autoid_lacks kind a class.autoid class.estimate)
    (lacks_both kind (flat_map (index_parts class.fields) class.indexes) (flat_map (event_parts class.fields) class.events) (lacks_flat kind (index_parts class.fields) (index_lacks kind class.fields b c d) class.indexes) (lacks_flat kind (event_parts class.fields) (event_lacks kind class.fields e f g) class.events))

class_fields : (groups : List Group) (class : Class) → All (IsFieldResolved groups) class.fields → fields_of groups (body_parts groups class) ≡ class.fields
unfolding gather
class_fields groups class all =
    let others = autoid_parts class.autoid class.estimate ++ (flat_map (index_parts class.fields) class.indexes ++ flat_map (event_parts class.fields) class.events) in
    let none : gather (field_from groups) others ≡ [] = ap (gather (field_from groups)) (sym (append-nil others)) ∙ passed_over opens_field (field_from groups) (no_field groups) others []
    (after_fields opens_field class (λ size. refl) (λ unique kind. refl) (λ name. refl) (λ name size. refl) (λ kind. refl) (λ name. refl) (λ name. refl)) in
    gathers (field_from groups) (field_parts groups) (IsFieldResolved groups) (field_given groups) class.fields others all ∙ ap (λ (more : List Field). class.fields ++ more) none ∙ append-nil class.fields

-- ---- autoid

pub any_none : (kind : Part → Bool) (xs : List Part) → Lacks kind xs → list_any kind xs ≡ false
any_none kind [] lacks = refl
any_none kind (x ∷ xs) lacks =
    let here : kind x ≡ false = All-head (λ (part : Part). kind part ≡ false) x xs lacks in
    let others = any_none kind xs (All-tail (λ (part : Part). kind part ≡ false) x xs lacks) in
    rw (here, others) refl

pub any_after : (kind : Part → Bool) (xs rest : List Part) → Lacks kind xs → list_any kind (xs ++ rest) ≡ list_any kind rest
any_after kind [] rest lacks = refl
any_after kind (x ∷ xs) rest lacks =
    let here : kind x ≡ false = All-head (λ (part : Part). kind part ≡ false) x xs lacks in
    let others = any_after kind xs rest (All-tail (λ (part : Part). kind part ≡ false) x xs lacks) in
    rw (here, others) refl

no_estimate : (part : Part) → is_autoid part ≡ false → estimate_from part ≡ None
unfolding is_autoid estimate_from
no_estimate (parts.Autoid size) e = absurd cc
no_estimate part e = refl

estimate_after : (xs rest : List Part) → Lacks is_autoid xs → estimate_of (xs ++ rest) ≡ estimate_of rest
unfolding estimate_of
estimate_after [] rest lacks = refl
estimate_after (x ∷ xs) rest lacks =
    ap (λ (found : Option (Option ℕ)). estimate_or found (estimate_of (xs ++ rest))) (no_estimate x (All-head (λ (part : Part). is_autoid part ≡ false) x xs lacks))
    ∙ estimate_after xs rest (All-tail (λ (part : Part). is_autoid part ≡ false) x xs lacks)

fields_lack_autoid : (groups : List Group) (fields : List Field) → Lacks is_autoid (flat_map (field_parts groups) fields)
unfolding is_autoid
fields_lack_autoid groups fields = lacks_flat is_autoid (field_parts groups) (field_lacks is_autoid groups (λ ty vector. refl) (λ name vector. refl) (λ name. refl)) fields

indexes_lack : (kind : Part → Bool) (class : Class) → ((unique : Bool) (k : IndexKind) → kind (parts.Index unique k) ≡ false) → ((name : List ℕ) → kind (parts.Key name) ≡ false) → ((name : List ℕ) (size : Option ℕ) → kind (parts.IndexName name size) ≡ false) → Lacks kind (flat_map (index_parts class.fields) class.indexes)
indexes_lack kind class a b c = lacks_flat kind (index_parts class.fields) (index_lacks kind class.fields a b c) class.indexes

events_lack : (kind : Part → Bool) (class : Class) → ((k : EventKind) → kind (parts.Event k) ≡ false) → ((name : List ℕ) → kind (parts.Update name) ≡ false) → ((name : List ℕ) → kind (parts.EventName name) ≡ false) → Lacks kind (flat_map (event_parts class.fields) class.events)
events_lack kind class a b c = lacks_flat kind (event_parts class.fields) (event_lacks kind class.fields a b c) class.events

others_lack_autoid : (class : Class) → Lacks is_autoid (flat_map (index_parts class.fields) class.indexes ++ flat_map (event_parts class.fields) class.events)
unfolding is_autoid
others_lack_autoid class = lacks_both is_autoid (flat_map (index_parts class.fields) class.indexes) (flat_map (event_parts class.fields) class.events)
    (indexes_lack is_autoid class (λ unique kind. refl) (λ name. refl) (λ name size. refl)) (events_lack is_autoid class (λ kind. refl) (λ name. refl) (λ name. refl))

autoid_found : (autoid : Bool) (size : Option ℕ) (rest : List Part) → Lacks is_autoid rest → list_any is_autoid (autoid_parts autoid size ++ rest) ≡ autoid
unfolding is_autoid
autoid_found true size rest lacks = refl
autoid_found false size rest lacks = any_none is_autoid rest lacks

estimate_found : (autoid : Bool) (size : Option ℕ) (rest : List Part) → IsAutoidResolved autoid size → Lacks is_autoid rest → estimate_of (autoid_parts autoid size ++ rest) ≡ size
unfolding estimate_of estimate_from
estimate_found true size rest resolved lacks = refl
estimate_found false size rest resolved lacks = ap estimate_of (sym (append-nil rest)) ∙ estimate_after rest [] lacks ∙ sym resolved

class_autoid : (groups : List Group) (class : Class) → list_any is_autoid (body_parts groups class) ≡ class.autoid
class_autoid groups class =
    let others = flat_map (index_parts class.fields) class.indexes ++ flat_map (event_parts class.fields) class.events in
    any_after is_autoid (flat_map (field_parts groups) class.fields) (autoid_parts class.autoid class.estimate ++ others) (fields_lack_autoid groups class.fields) ∙ autoid_found class.autoid class.estimate others (others_lack_autoid class)

class_estimate : (groups : List Group) (class : Class) → IsAutoidResolved class.autoid class.estimate → estimate_of (body_parts groups class) ≡ class.estimate
class_estimate groups class resolved =
    let others = flat_map (index_parts class.fields) class.indexes ++ flat_map (event_parts class.fields) class.events in
    estimate_after (flat_map (field_parts groups) class.fields) (autoid_parts class.autoid class.estimate ++ others) (fields_lack_autoid groups class.fields) ∙ estimate_found class.autoid class.estimate others resolved (others_lack_autoid class)

-- ---- indexes

key_read : (fields : List Field) (key : List ℕ) (name : List ℕ) (size : Option ℕ) (rest : List Part) → All (IsFieldPlace fields) key → key_of fields (map (key_part fields) key ++ parts.IndexName name size ∷ rest) ≡ key
unfolding key_of key_name
key_read fields [] name size rest all = refl
key_read fields (place ∷ key) name size rest all =
    let here : field_place fields (field_name fields place) ≡ place = All-head (IsFieldPlace fields) place key all in
    let others = key_read fields key name size rest (All-tail (IsFieldPlace fields) place key all) in
    λ i. here i ∷ others i

after_key : (fields : List Field) (key : List ℕ) (ending : Part) (rest : List Part) → slice_get (map (key_part fields) key ++ ending ∷ rest) (length key) ≡ Some ending
after_key fields [] ending rest = refl
after_key fields (place ∷ key) ending rest = after_key fields key ending rest

index_given : (fields : List Field) (index : IndexDecl) (rest : List Part) → IsIndexResolved fields index → gather (index_from fields) (index_parts fields index ++ rest) ≡ index ∷ gather (index_from fields) rest
unfolding gather index_from
index_given fields index rest resolved =
    let ending = parts.IndexName index.name index.estimate in
    let keys = map (key_part fields) index.key in
    let line : (keys ++ ending ∷ []) ++ rest ≡ keys ++ ending ∷ rest = append_assoc keys (ending ∷ []) rest in
    let key : key_of fields (keys ++ ending ∷ rest) ≡ index.key = key_read fields index.key index.name index.estimate rest resolved in
    let last : slice_get (keys ++ ending ∷ rest) (length (key_of fields (keys ++ ending ∷ rest))) ≡ Some ending = ap (λ (key : List ℕ). slice_get (keys ++ ending ∷ rest) (length key)) key ∙ after_key fields index.key ending rest in
    let none = passed_over opens_index (index_from fields) (no_index fields) (keys ++ ending ∷ []) rest (index_ends_lack opens_index fields (λ name. refl) (λ name size. refl) index) in
    ap (λ (tail : List Part). option_to_list (index_with index.unique index.kind (key_of fields tail) (slice_get tail (length (key_of fields tail)))) ++ gather (index_from fields) ((keys ++ ending ∷ []) ++ rest)) line
    ∙ (λ i. option_to_list (index_with index.unique index.kind (key i) (last i)) ++ none i)

class_indexes : (groups : List Group) (class : Class) → All (IsIndexResolved class.fields) class.indexes → indexes_of class.fields (body_parts groups class) ≡ class.indexes
unfolding gather
class_indexes groups class all =
    let fields = flat_map (field_parts groups) class.fields in
    let autoid = autoid_parts class.autoid class.estimate in
    let indexes = flat_map (index_parts class.fields) class.indexes in
    let events = flat_map (event_parts class.fields) class.events in
    let from = index_from class.fields in
    let quiet = no_index class.fields in
    let none : gather from events ≡ [] = ap (gather from) (sym (append-nil events)) ∙ passed_over opens_index from quiet events [] (events_lack opens_index class (λ kind. refl) (λ name. refl) (λ name. refl)) in
    passed_over opens_index from quiet fields (autoid ++ (indexes ++ events)) (lacks_flat opens_index (field_parts groups) (field_lacks opens_index groups (λ ty vector. refl) (λ name vector. refl) (λ name. refl)) class.fields)
    ∙ passed_over opens_index from quiet autoid (indexes ++ events) (autoid_lacks opens_index (λ size. refl) class.autoid class.estimate)
    ∙ gathers from (index_parts class.fields) (IsIndexResolved class.fields) (index_given class.fields) class.indexes events all
    ∙ ap (λ (more : List IndexDecl). class.indexes ++ more) none ∙ append-nil class.indexes

-- ---- events

kind_given : (fields : List Field) (name : List ℕ) (kind : EventKind) (rest : List Part) → IsKindResolved fields kind → gather (event_from fields) ((kind_parts fields kind ++ parts.EventName name ∷ []) ++ rest) ≡ (record { name = name; kind = kind }) ∷ gather (event_from fields) rest
unfolding gather event_from
kind_given fields name events.New rest resolved = refl
kind_given fields name events.Delete rest resolved = refl
kind_given fields name events.Update rest resolved = refl
kind_given fields name (events.UpdateField place) rest resolved = ap (λ (place : ℕ). (record { name = name; kind = events.UpdateField place }) ∷ gather (event_from fields) rest) resolved

event_given : (fields : List Field) (event : Event) (rest : List Part) → IsEventResolved fields event → gather (event_from fields) (event_parts fields event ++ rest) ≡ event ∷ gather (event_from fields) rest
event_given fields event rest resolved = kind_given fields event.name event.kind rest resolved

class_events : (groups : List Group) (class : Class) → All (IsEventResolved class.fields) class.events → events_of class.fields (body_parts groups class) ≡ class.events
unfolding gather
class_events groups class all =
    let fields = flat_map (field_parts groups) class.fields in
    let autoid = autoid_parts class.autoid class.estimate in
    let indexes = flat_map (index_parts class.fields) class.indexes in
    let events = flat_map (event_parts class.fields) class.events in
    let from = event_from class.fields in
    let quiet = no_event class.fields in
    passed_over opens_event from quiet fields (autoid ++ (indexes ++ events)) (lacks_flat opens_event (field_parts groups) (field_lacks opens_event groups (λ ty vector. refl) (λ name vector. refl) (λ name. refl)) class.fields)
    ∙ passed_over opens_event from quiet autoid (indexes ++ events) (autoid_lacks opens_event (λ size. refl) class.autoid class.estimate)
    ∙ passed_over opens_event from quiet indexes events (indexes_lack opens_event class (λ unique kind. refl) (λ name. refl) (λ name size. refl))
    ∙ ap (gather from) (sym (append-nil events))
    ∙ gathers from (event_parts class.fields) (IsEventResolved class.fields) (event_given class.fields) class.events [] all
    ∙ append-nil class.events

-- ---- structs and classes

-- a list that is empty, or begins with a struct or a class
abbrev pub StartsAnew : List Part → Type 0
StartsAnew [] = Unit {0}
StartsAnew (part ∷ rest) = is_head part ≡ true

pub body_is : (xs rest : List Part) → Lacks is_head xs → StartsAnew rest → body_of (xs ++ rest) ≡ xs
body_is [] [] lacks anew = refl
body_is [] (part ∷ rest) lacks anew =
    take_while-cons (λ (x : Part). not (is_head x)) part rest ∙ ap (λ (t : Bool). cond (not t) (part ∷ take_while (λ (x : Part). not (is_head x)) rest) []) anew
body_is (x ∷ xs) rest lacks anew =
    let others = body_is xs rest (All-tail (λ (part : Part). is_head part ≡ false) x xs lacks) anew in
    take_while-cons (λ (x : Part). not (is_head x)) x (xs ++ rest)
    ∙ ap (λ (t : Bool). cond (not t) (x ∷ take_while (λ (x : Part). not (is_head x)) (xs ++ rest)) []) (All-head (λ (part : Part). is_head part ≡ false) x xs lacks)
    ∙ ap (λ (tail : List Part). x ∷ tail) others

pub blocks_start : {X : Type 0} (of : X → List Part) → ((x : X) (rest : List Part) → StartsAnew (of x ++ rest)) → (xs : List X) (rest : List Part) → StartsAnew rest → StartsAnew (flat_map of xs ++ rest)
blocks_start of one [] rest anew = anew
blocks_start of one (x ∷ xs) rest anew = subst StartsAnew (sym (append_assoc (of x) (flat_map of xs) rest)) (one x (flat_map of xs ++ rest))

gathers_blocks : {X : Type 0} (from : Part → List Part → Option X) (of : X → List Part) (Good : X → Type 0) → ((x : X) (rest : List Part) → StartsAnew (of x ++ rest)) → ((x : X) (rest : List Part) → Good x → StartsAnew rest → gather from (of x ++ rest) ≡ x ∷ gather from rest)
    → (xs : List X) (rest : List Part) → All Good xs → StartsAnew rest → gather from (flat_map of xs ++ rest) ≡ xs ++ gather from rest
gathers_blocks from of Good starts one [] rest all anew = refl
gathers_blocks from of Good starts one (x ∷ xs) rest all anew =
    ap (gather from) (append_assoc (of x) (flat_map of xs) rest) ∙ one x (flat_map of xs ++ rest) (All-head Good x xs all) (blocks_start of starts xs rest anew) ∙ ap (λ others. x ∷ others) (gathers_blocks from of Good starts one xs rest (All-tail Good x xs all) anew)

group_starts : (group : Group) (rest : List Part) → StartsAnew (group_parts group ++ rest)
unfolding is_head
group_starts group rest = refl

class_starts : (groups : List Group) (class : Class) (rest : List Part) → StartsAnew (class_parts groups class ++ rest)
unfolding is_head
class_starts groups class rest = refl

fields_lack_heads : (groups : List Group) (fields : List Field) → Lacks is_head (flat_map (field_parts groups) fields)
unfolding is_head
fields_lack_heads groups fields = lacks_flat is_head (field_parts groups) (field_lacks is_head groups (λ ty vector. refl) (λ name vector. refl) (λ name. refl)) fields

others_lack_heads : (class : Class) → Lacks is_head (autoid_parts class.autoid class.estimate ++ (flat_map (index_parts class.fields) class.indexes ++ flat_map (event_parts class.fields) class.events))
unfolding is_head
others_lack_heads class = after_fields is_head class (λ size. refl) (λ unique kind. refl) (λ name. refl) (λ name size. refl) (λ kind. refl) (λ name. refl) (λ name. refl)

body_lacks_heads : (groups : List Group) (class : Class) → Lacks is_head (body_parts groups class)
body_lacks_heads groups class = lacks_both is_head (flat_map (field_parts groups) class.fields) _ (fields_lack_heads groups class.fields) (others_lack_heads class)

body_lacks : (kind : Part → Bool) (groups : List Group) (class : Class) → ((part : Part) → is_head part ≡ false → kind part ≡ false) → Lacks kind (body_parts groups class)
body_lacks kind groups class weaker = λ k d lt. weaker _ (body_lacks_heads groups class k d lt)

head_no_group : (part : Part) → is_head part ≡ false → opens_group part ≡ false
unfolding is_head
head_no_group (parts.Struct name) e = absurd cc
head_no_group part e = refl

head_no_class : (part : Part) → is_head part ≡ false → opens_class part ≡ false
unfolding is_head
head_no_class (parts.Class name) e = absurd cc
head_no_class part e = refl

group_given : (group : Group) (rest : List Part) → IsGroupResolved group → StartsAnew rest → gather group_from (group_parts group ++ rest) ≡ group ∷ gather group_from rest
unfolding gather group_from
group_given group rest resolved anew =
    let fields = flat_map (field_parts []) group.fields in
    let body : body_of (fields ++ rest) ≡ fields = body_is fields rest (fields_lack_heads [] group.fields) anew in
    let same : fields_of [] (body_of (fields ++ rest)) ≡ group.fields = ap (fields_of []) body ∙ group_fields group.fields resolved in
    let none = passed_over opens_group group_from no_group fields rest (λ k d lt. head_no_group _ (fields_lack_heads [] group.fields k d lt)) in
    λ i. (record { name = group.name; fields = same i }) ∷ none i

class_is : (groups : List Group) (class : Class) → IsClassResolved groups class → class_of groups class.name (body_parts groups class) ≡ class
unfolding class_of
class_is groups class resolved =
    let body = body_parts groups class in
    let fields : fields_of groups body ≡ class.fields = class_fields groups class resolved.fields in
    let autoid : list_any is_autoid body ≡ class.autoid = class_autoid groups class in
    let estimate : estimate_of body ≡ class.estimate = class_estimate groups class resolved.autoid in
    let indexes : indexes_of (fields_of groups body) body ≡ class.indexes = ap (λ (fields : List Field). indexes_of fields body) fields ∙ class_indexes groups class resolved.indexes in
    let events : events_of (fields_of groups body) body ≡ class.events = ap (λ (fields : List Field). events_of fields body) fields ∙ class_events groups class resolved.events in
    λ i. record { name = class.name; fields = fields i; autoid = autoid i; estimate = estimate i; indexes = indexes i; events = events i }

class_given : (groups : List Group) (class : Class) (rest : List Part) → IsClassResolved groups class → StartsAnew rest → gather (class_from groups) (class_parts groups class ++ rest) ≡ class ∷ gather (class_from groups) rest
unfolding gather class_from
class_given groups class rest resolved anew =
    let body = body_parts groups class in
    let same : class_of groups class.name (body_of (body ++ rest)) ≡ class = ap (class_of groups class.name) (body_is body rest (body_lacks_heads groups class) anew) ∙ class_is groups class resolved in
    let none = passed_over opens_class (class_from groups) (no_class groups) body rest (body_lacks opens_class groups class head_no_class) in
    λ i. same i ∷ none i

classes_start : (groups : List Group) (classes : List Class) → StartsAnew (flat_map (class_parts groups) classes)
classes_start groups classes = subst StartsAnew (append-nil (flat_map (class_parts groups) classes)) (blocks_start (class_parts groups) (class_starts groups) classes [] tt)

classes_lack_groups : (groups : List Group) (class : Class) → Lacks opens_group (class_parts groups class)
classes_lack_groups groups class = lacks_one opens_group (parts.Class class.name) (body_parts groups class) refl (body_lacks opens_group groups class head_no_group)

groups_lack_classes : (group : Group) → Lacks opens_class (group_parts group)
groups_lack_classes group = lacks_one opens_class (parts.Struct group.name) (flat_map (field_parts []) group.fields) refl (λ k d lt. head_no_class _ (fields_lack_heads [] group.fields k d lt))

schema_groups : (schema : Schema) → All IsGroupResolved schema.groups → groups_of (parts_of schema) ≡ schema.groups
unfolding gather group_from
schema_groups schema all =
    let classes = flat_map (class_parts schema.groups) schema.classes in
    let none : gather group_from classes ≡ [] = ap (gather group_from) (sym (append-nil classes)) ∙ passed_over opens_group group_from no_group classes [] (lacks_flat opens_group (class_parts schema.groups) (classes_lack_groups schema.groups) schema.classes) in
    gathers_blocks group_from group_parts IsGroupResolved group_starts group_given schema.groups classes all (classes_start schema.groups schema.classes) ∙ ap (λ (more : List Group). schema.groups ++ more) none ∙ append-nil schema.groups

schema_classes : (schema : Schema) → All (IsClassResolved schema.groups) schema.classes → classes_of schema.groups (parts_of schema) ≡ schema.classes
unfolding gather class_from
schema_classes schema all =
    let classes = flat_map (class_parts schema.groups) schema.classes in
    passed_over opens_class (class_from schema.groups) (no_class schema.groups) (flat_map group_parts schema.groups) classes (lacks_flat opens_class group_parts groups_lack_classes schema.groups)
    ∙ ap (gather (class_from schema.groups)) (sym (append-nil classes))
    ∙ gathers_blocks (class_from schema.groups) (class_parts schema.groups) (IsClassResolved schema.groups) (class_starts schema.groups) (class_given schema.groups) schema.classes [] all tt
    ∙ append-nil schema.classes

pub declares : (schema : Schema) → IsResolved schema → declared (parts_of schema) ≡ schema
declares schema resolved =
    let groups : groups_of (parts_of schema) ≡ schema.groups = schema_groups schema resolved.groups in
    let classes : classes_of (groups_of (parts_of schema)) (parts_of schema) ≡ schema.classes = ap (λ (groups : List Group). classes_of groups (parts_of schema)) groups ∙ schema_classes schema resolved.classes in
    λ i. record { name = schema.name; groups = groups i; classes = classes i }
