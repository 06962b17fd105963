-- Parts that break no rule declare a schema, and its parts in canonical order break none.
use Rattle.std.proofs.Common.{◌≡◌, ℕ, suc, ◌<◌, ◌≤◌, Bool, true, false, List, [], ◌∷◌, ◌++◌, length, Option, refl, sym, ap, ◌∙◌, arith, subst}
use Rattle.std.specs.Prelude.{map}
use Rattle.std.specs.List.{flat_map, All, list_any, sum_by}
use Rattle.std.proofs.lemmas.List.Elements.{All-head, All-tail, All-cons, All-nil, All-append}
use Rattle.std.proofs.lemmas.List.Sums.{sum_by-cons}
use Rattle.rdb_schema.specs.declared.schema.Plain.{Plain}
use Rattle.rdb_schema.specs.declared.schema.Plain.TheVariants as plains
use Rattle.rdb_schema.specs.declared.schema.EventKind.{EventKind}
use Rattle.rdb_schema.specs.declared.schema.EventKind.TheVariants as events
use Rattle.rdb_schema.specs.declared.schema.Field.{Field}
use Rattle.rdb_schema.specs.declared.schema.IndexDecl.{IndexDecl}
use Rattle.rdb_schema.specs.declared.schema.Event.{Event}
use Rattle.rdb_schema.specs.declared.schema.Group.{Group}
use Rattle.rdb_schema.specs.declared.schema.Class.{Class}
use Rattle.rdb_schema.specs.declared.schema.Schema.{Schema}
use Rattle.rdb_schema.specs.declared.syntax.Part.{Part}
use Rattle.rdb_schema.specs.declared.syntax.Part.TheVariants as parts
use Rattle.rdb_schema.specs.Rules.{same, is_member, is_autoid, is_among, BreaksNoRule}
use Rattle.rdb_schema.specs.Meaning.{group_place, field_place, plain_type, typed, declared}
use Rattle.rdb_schema.specs.Names.{group_name, field_name, IsName}
use Rattle.rdb_schema.specs.SchemaParts.{type_part, field_parts, autoid_parts, key_part, index_parts, kind_parts, event_parts, group_parts, body_parts, class_parts, parts_of}
use Rattle.rdb_schema.specs.SpelledSchemas.{IsSizeSpelled, IsTypeSpelled, IsMemberTypeSpelled, IsFieldSpelled, IsMemberSpelled, IsIndexSpelled, IsKindSpelled, IsEventSpelled, IsGroupSpelled, IsClassSpelled}
use Rattle.rdb_schema.specs.Resolved.{IsFieldPlace, IsTypeResolved, IsFieldResolved, IsIndexResolved, IsKindResolved, IsEventResolved, IsGroupResolved, IsAutoidResolved, IsClassResolved}
use Rattle.rdb_schema.specs.Limits.{IsSmallGroup, IsShortKey, IsSmallClass}
use Rattle.rdb_schema.proofs.Declaring.{Lacks, lacks_one, any_after}
use Rattle.rdb_schema.specs.PartOrder.{IsPlainWord, AreParts}
use Rattle.rdb_schema.specs.Keys.{IsIndexKeyed}
use Rattle.rdb_schema.specs.Schemas.{IsClassKeyed, IsSchema}
use Rattle.rdb_schema.proofs.KeyedIndexes.{index_keyed}
use Rattle.rdb_schema.proofs.Items.{Item, FieldItem, AutoidItem, IndexItem, EventItem, UpdateItem, Decl, GroupDecl, ClassDecl, key_parts, item_parts, decl_parts, IsWholeKind, IsGoodItem, IsGroupItem, IsGoodDecl, whole_of}
use Rattle.rdb_schema.proofs.ItemMeanings.{field_gives, index_gives, event_gives, is_autoid_item, estimate_in, class_in, group_gives, class_gives, schema_in, index_end_lacks, declares_in}
use Rattle.rdb_schema.proofs.Keeping.{Keeps, nothing, keeps_all, breaks_none, weigh, Counts, field_type}
use Rattle.rdb_schema.proofs.Members.{ItemFine}
use Rattle.rdb_schema.proofs.Counting.{few_indexes, few_events, short_keys}
use Rattle.rdb_schema.proofs.Sorting.{only_fields, only_autoids, only_indexes, only_events, sorted, sorted_parts, weight_one, group_found, field_found, few_fields, keys_known, update_known}
use Rattle.rdb_schema.proofs.Declarations.{groups_in, classes_in, DeclFine, NameCounts, fine_decls, only_groups, only_classes, keeps_canonical}

-- ---- the parts of the schema that is declared

all_flat : {X Y : Type 0} (P : Y → Type 0) (gives : X → List Y) (Good : X → Type 0) → ((x : X) → Good x → All P (gives x)) → (xs : List X) → All Good xs → All P (flat_map gives xs)
all_flat P gives Good one [] all = All-nil P
all_flat P gives Good one (x ∷ xs) all = All-append P (gives x) (flat_map gives xs) (one x (All-head Good x xs all)) (all_flat P gives Good one xs (All-tail Good x xs all))

one_all : {Y : Type 0} (P : Y → Type 0) (y : Y) → P y → All P (y ∷ [])
one_all P y h = All-cons P y [] h (All-nil P)

groups_same : (name : List ℕ) (decls : List Decl) → list_any (λ group. same group.name name) (flat_map group_gives decls) ≡ is_among name (groups_in decls)
groups_same name [] = refl
groups_same name (GroupDecl other items ∷ decls) = let others = groups_same name decls in rw others refl
groups_same name (ClassDecl other items ∷ decls) = groups_same name decls

groups_len : (decls : List Decl) → length (flat_map group_gives decls) ≡ length (groups_in decls)
groups_len [] = refl
groups_len (GroupDecl other items ∷ decls) = ap (λ (n : ℕ). suc n) (groups_len decls)
groups_len (ClassDecl other items ∷ decls) = groups_len decls

-- types

plain_back : (ty : Plain) → IsPlainWord ty → type_part [] (plain_type ty) ≡ parts.Plain ty false
plain_back (plains.Num bytes signed) good = refl
plain_back plains.Str good = refl
plain_back plains.Box4 good = refl
plain_back (plains.Struct place) good = absurd good

plain_given_back : (groups : List Group) (ty : Plain) (vector : Bool) → IsPlainWord ty → type_part groups (typed ty vector) ≡ parts.Plain ty vector
plain_given_back groups (plains.Num bytes signed) true good = refl
plain_given_back groups (plains.Num bytes signed) false good = refl
plain_given_back groups plains.Str true good = refl
plain_given_back groups plains.Str false good = refl
plain_given_back groups plains.Box4 true good = refl
plain_given_back groups plains.Box4 false good = refl
plain_given_back groups (plains.Struct place) vector good = absurd good

named_given_back : (groups : List Group) (name : List ℕ) (vector : Bool) → group_name groups (group_place groups name) ≡ name → type_part groups (typed (plains.Struct (group_place groups name)) vector) ≡ parts.Named name vector
named_given_back groups name true found = ap (λ (name : List ℕ). parts.Named name true) found
named_given_back groups name false found = ap (λ (name : List ℕ). parts.Named name false) found

plain_spelled : (groups : List Group) (ty : Plain) (vector : Bool) → IsPlainWord ty → IsTypeSpelled groups (typed ty vector) × IsTypeResolved groups (typed ty vector)
plain_spelled groups (plains.Num bytes signed) true good = (good, tt)
plain_spelled groups (plains.Num bytes signed) false good = (good, tt)
plain_spelled groups plains.Str true good = (tt, tt)
plain_spelled groups plains.Str false good = (tt, tt)
plain_spelled groups plains.Box4 true good = (tt, tt)
plain_spelled groups plains.Box4 false good = (tt, tt)
plain_spelled groups (plains.Struct place) vector good = absurd good

named_spelled : (groups : List Group) (name : List ℕ) (vector : Bool) → IsName name → group_name groups (group_place groups name) ≡ name → IsTypeSpelled groups (typed (plains.Struct (group_place groups name)) vector) × IsTypeResolved groups (typed (plains.Struct (group_place groups name)) vector)
named_spelled groups name true good found = (subst IsName (sym found) good, ap (group_place groups) found)
named_spelled groups name false good found = (subst IsName (sym found) good, ap (group_place groups) found)

member_spelled : (ty : Plain) → IsPlainWord ty → IsMemberTypeSpelled (plain_type ty) × IsTypeResolved [] (plain_type ty)
member_spelled (plains.Num bytes signed) good = (good, tt)
member_spelled plains.Str good = (tt, tt)
member_spelled plains.Box4 good = (tt, tt)
member_spelled (plains.Struct place) good = absurd good

-- structs

group_field_good : (item : Item) → IsGroupItem item → All (λ field. IsMemberSpelled field × IsFieldResolved [] field) (field_gives [] item)
group_field_good (FieldItem (parts.Plain ty false) name) good =
    let type = member_spelled ty good.0 in
    one_all (λ (field : Field). IsMemberSpelled field × IsFieldResolved [] field) (record { name = name; ty = plain_type ty }) (record { name = good.1; type = type.0 }, type.1)
group_field_good (FieldItem type name) good = absurd good.0
group_field_good item good = absurd good

group_fields_line : (items : List Item) → All IsGroupItem items → flat_map (field_parts []) (flat_map (field_gives []) items) ≡ flat_map item_parts items
group_fields_line [] good = refl
group_fields_line (item ∷ items) good = by_item item (All-head IsGroupItem item items good) (group_fields_line items (All-tail IsGroupItem item items good)) where
  by_item : (item : Item) → IsGroupItem item → flat_map (field_parts []) (flat_map (field_gives []) items) ≡ flat_map item_parts items → flat_map (field_parts []) (flat_map (field_gives []) (item ∷ items)) ≡ flat_map item_parts (item ∷ items)
  by_item (FieldItem (parts.Plain ty false) name) good others = λ i. plain_back ty good.0 i ∷ parts.Member name ∷ others i
  by_item (FieldItem type name) good others = absurd good.0
  by_item item good others = absurd good

some_fields : (items : List Item) → All IsGroupItem items → 0 < length items → 0 < length (flat_map (field_gives []) items)
some_fields [] good some = absurd (omega arith)
some_fields (item ∷ items) good some = by_item item (All-head IsGroupItem item items good) where
  by_item : (item : Item) → IsGroupItem item → 0 < length (flat_map (field_gives []) (item ∷ items))
  by_item (FieldItem type name) good = omega arith
  by_item item good = absurd good

group_good : (decl : Decl) → IsGoodDecl decl → All (λ group. IsGroupSpelled group × IsGroupResolved group) (group_gives decl)
group_good (GroupDecl name items) good =
    let fields = all_flat (λ (field : Field). IsMemberSpelled field × IsFieldResolved [] field) (field_gives []) IsGroupItem group_field_good items good.2 in
    one_all (λ (group : Group). IsGroupSpelled group × IsGroupResolved group) (record { name = name; fields = flat_map (field_gives []) items })
    (record { name = good.0; some = some_fields items good.2 good.1; fields = λ k d lt. (fields k d lt).0 }, λ k d lt. (fields k d lt).1)
group_good (ClassDecl name items) good = All-nil (λ (group : Group). IsGroupSpelled group × IsGroupResolved group)

groups_line : (decls : List Decl) → All IsGoodDecl decls → flat_map group_parts (flat_map group_gives decls) ≡ flat_map decl_parts (only_groups decls)
groups_line [] good = refl
groups_line (GroupDecl name items ∷ decls) good =
    let fields = group_fields_line items (All-head IsGoodDecl (GroupDecl name items) decls good).2 in
    let others = groups_line decls (All-tail IsGoodDecl (GroupDecl name items) decls good) in
    λ i. parts.Struct name ∷ (fields i ++ others i)
groups_line (ClassDecl name items ∷ decls) good = groups_line decls (All-tail IsGoodDecl (ClassDecl name items) decls good)

-- classes: every name that a class uses is found

abbrev GroupsFound : List (List ℕ) → List Group → Type 0
GroupsFound all groups = (name : List ℕ) → is_among name all ≡ true → group_name groups (group_place groups name) ≡ name

abbrev FieldsFound : List Field → Type 0
FieldsFound fields = (name : List ℕ) → list_any (λ field. same field.name name) fields ≡ true → field_name fields (field_place fields name) ≡ name

abbrev Kept : (List ℕ → Option Part) → List (List ℕ) → Item → Type 0
Kept lookup all item = IsGoodItem item × ItemFine lookup all item

field_good : (lookup : List ℕ → Option Part) (all : List (List ℕ)) (groups : List Group) → GroupsFound all groups → (item : Item) → Kept lookup all item → All (λ field. IsFieldSpelled groups field × IsFieldResolved groups field) (field_gives groups item)
field_good lookup all groups found (FieldItem (parts.Plain ty vector) name) kept =
    let type = plain_spelled groups ty vector kept.0.0 in
    one_all (λ (field : Field). IsFieldSpelled groups field × IsFieldResolved groups field) (record { name = name; ty = typed ty vector }) (record { name = kept.0.1; type = type.0 }, type.1)
field_good lookup all groups found (FieldItem (parts.Named named vector) name) kept =
    let type = named_spelled groups named vector kept.0.0 (found named kept.1) in
    one_all (λ (field : Field). IsFieldSpelled groups field × IsFieldResolved groups field) (record { name = name; ty = typed (plains.Struct (group_place groups named)) vector }) (record { name = kept.0.1; type = type.0 }, type.1)
field_good lookup all groups found (FieldItem type name) kept = absurd kept.0.0
field_good lookup all groups found item kept = All-nil (λ (field : Field). IsFieldSpelled groups field × IsFieldResolved groups field)

fields_line : (lookup : List ℕ → Option Part) (all : List (List ℕ)) (groups : List Group) → GroupsFound all groups → (items : List Item) → All (Kept lookup all) items → flat_map (field_parts groups) (flat_map (field_gives groups) items) ≡ flat_map item_parts (only_fields items)
fields_line lookup all groups found [] kept = refl
fields_line lookup all groups found (FieldItem (parts.Plain ty vector) name ∷ items) kept =
    let this = All-head (Kept lookup all) (FieldItem (parts.Plain ty vector) name) items kept in
    let others = fields_line lookup all groups found items (All-tail (Kept lookup all) (FieldItem (parts.Plain ty vector) name) items kept) in
    λ i. plain_given_back groups ty vector this.0.0 i ∷ parts.Member name ∷ others i
fields_line lookup all groups found (FieldItem (parts.Named named vector) name ∷ items) kept =
    let this = All-head (Kept lookup all) (FieldItem (parts.Named named vector) name) items kept in
    let others = fields_line lookup all groups found items (All-tail (Kept lookup all) (FieldItem (parts.Named named vector) name) items kept) in
    λ i. named_given_back groups named vector (found named this.1) i ∷ parts.Member name ∷ others i
fields_line lookup all groups found (FieldItem type name ∷ items) kept = absurd (All-head (Kept lookup all) (FieldItem type name) items kept).0.0
fields_line lookup all groups found (AutoidItem size ∷ items) kept = fields_line lookup all groups found items (All-tail (Kept lookup all) (AutoidItem size) items kept)
fields_line lookup all groups found (IndexItem unique kind names name size ∷ items) kept = fields_line lookup all groups found items (All-tail (Kept lookup all) (IndexItem unique kind names name size) items kept)
fields_line lookup all groups found (EventItem kind name ∷ items) kept = fields_line lookup all groups found items (All-tail (Kept lookup all) (EventItem kind name) items kept)
fields_line lookup all groups found (UpdateItem field name ∷ items) kept = fields_line lookup all groups found items (All-tail (Kept lookup all) (UpdateItem field name) items kept)

-- keys

abbrev IsThere : List Field → List ℕ → Type 0
IsThere fields name = list_any (λ field. same field.name name) fields ≡ true

places_good : (fields : List Field) → FieldsFound fields → (names : List (List ℕ)) → All IsName names → All (IsThere fields) names → All (λ place. IsName (field_name fields place) × IsFieldPlace fields place) (map (field_place fields) names)
places_good fields found [] good there = All-nil (λ (place : ℕ). IsName (field_name fields place) × IsFieldPlace fields place)
places_good fields found (name ∷ names) good there =
    let is = found name (All-head (IsThere fields) name names there) in
    All-cons (λ (place : ℕ). IsName (field_name fields place) × IsFieldPlace fields place) (field_place fields name) (map (field_place fields) names)
    (subst IsName (sym is) (All-head IsName name names good), ap (field_place fields) is)
    (places_good fields found names (All-tail IsName name names good) (All-tail (IsThere fields) name names there))

keys_line : (fields : List Field) → FieldsFound fields → (names : List (List ℕ)) → All (IsThere fields) names → map (key_part fields) (map (field_place fields) names) ≡ key_parts names
keys_line fields found [] there = refl
keys_line fields found (name ∷ names) there =
    let is = found name (All-head (IsThere fields) name names there) in
    let others = keys_line fields found names (All-tail (IsThere fields) name names there) in
    λ i. parts.Key (is i) ∷ others i

some_places : (fields : List Field) (names : List (List ℕ)) → 0 < length names → 0 < length (map (field_place fields) names)
some_places fields [] some = absurd (omega arith)
some_places fields (name ∷ names) some = omega arith

index_good : (groups : List Group) (items : List Item) (all : List (List ℕ)) → FieldsFound (flat_map (field_gives groups) items) → (item : Item) → Kept (λ name. field_type name items) all item
    → All (λ index. IsIndexSpelled (flat_map (field_gives groups) items) index × IsIndexResolved (flat_map (field_gives groups) items) index) (index_gives (flat_map (field_gives groups) items) item)
index_good groups items all found (IndexItem unique kind names name size) kept =
    let fields = flat_map (field_gives groups) items in
    let there = keys_known groups items (parts.Index unique kind) [] names kept.1.0 in
    let places = places_good fields found names kept.0.1 there in
    one_all (λ (index : IndexDecl). IsIndexSpelled fields index × IsIndexResolved fields index) (record { name = name; kind = kind; unique = unique; key = map (field_place fields) names; estimate = size })
    (record { name = kept.0.2; some = some_places fields names kept.0.0; key = λ k d lt. (places k d lt).0; size = kept.0.3 }, λ k d lt. (places k d lt).1)
index_good groups items all found item kept = All-nil (λ (index : IndexDecl). IsIndexSpelled (flat_map (field_gives groups) items) index × IsIndexResolved (flat_map (field_gives groups) items) index)

whole_kind : (fields : List Field) (kind : EventKind) → IsWholeKind kind → (IsKindSpelled fields kind × IsKindResolved fields kind) × (kind_parts fields kind ≡ parts.Event kind ∷ [])
whole_kind fields events.New good = ((tt, tt), refl)
whole_kind fields events.Delete good = ((tt, tt), refl)
whole_kind fields events.Update good = ((tt, tt), refl)
whole_kind fields (events.UpdateField place) good = absurd good

event_good : (groups : List Group) (items : List Item) (all : List (List ℕ)) → FieldsFound (flat_map (field_gives groups) items) → (item : Item) → Kept (λ name. field_type name items) all item
    → All (λ event. IsEventSpelled (flat_map (field_gives groups) items) event × IsEventResolved (flat_map (field_gives groups) items) event) (event_gives (flat_map (field_gives groups) items) item)
event_good groups items all found (EventItem kind name) kept =
    let fields = flat_map (field_gives groups) items in
    let whole = whole_kind fields kind kept.0.0 in
    one_all (λ (event : Event). IsEventSpelled fields event × IsEventResolved fields event) (record { name = name; kind = kind }) (record { name = kept.0.1; kind = whole.0.0 }, whole.0.1)
event_good groups items all found (UpdateItem field name) kept =
    let fields = flat_map (field_gives groups) items in
    let is = found field (update_known groups items field kept.1) in
    one_all (λ (event : Event). IsEventSpelled fields event × IsEventResolved fields event) (record { name = name; kind = events.UpdateField (field_place fields field) }) (record { name = kept.0.1; kind = subst IsName (sym is) kept.0.0 }, ap (field_place fields) is)
event_good groups items all found item kept = All-nil (λ (event : Event). IsEventSpelled (flat_map (field_gives groups) items) event × IsEventResolved (flat_map (field_gives groups) items) event)

index_line_of : (groups : List Group) (items : List Item) (all : List (List ℕ)) → FieldsFound (flat_map (field_gives groups) items) → (some : List Item) → All (Kept (λ name. field_type name items) all) some
    → flat_map (index_parts (flat_map (field_gives groups) items)) (flat_map (index_gives (flat_map (field_gives groups) items)) some) ≡ flat_map item_parts (only_indexes some)
index_line_of groups items all found [] kept = refl
index_line_of groups items all found (IndexItem unique kind names name size ∷ some) kept =
    let this = All-head (Kept (λ name. field_type name items) all) (IndexItem unique kind names name size) some kept in
    let others = index_line_of groups items all found some (All-tail (Kept (λ name. field_type name items) all) (IndexItem unique kind names name size) some kept) in
    let keys = keys_line (flat_map (field_gives groups) items) found names (keys_known groups items (parts.Index unique kind) [] names this.1.0) in
    λ i. parts.Index unique kind ∷ ((keys i ++ parts.IndexName name size ∷ []) ++ others i)
index_line_of groups items all found (FieldItem type name ∷ some) kept = index_line_of groups items all found some (All-tail (Kept (λ name. field_type name items) all) (FieldItem type name) some kept)
index_line_of groups items all found (AutoidItem size ∷ some) kept = index_line_of groups items all found some (All-tail (Kept (λ name. field_type name items) all) (AutoidItem size) some kept)
index_line_of groups items all found (EventItem kind name ∷ some) kept = index_line_of groups items all found some (All-tail (Kept (λ name. field_type name items) all) (EventItem kind name) some kept)
index_line_of groups items all found (UpdateItem field name ∷ some) kept = index_line_of groups items all found some (All-tail (Kept (λ name. field_type name items) all) (UpdateItem field name) some kept)

event_line_of : (groups : List Group) (items : List Item) (all : List (List ℕ)) → FieldsFound (flat_map (field_gives groups) items) → (some : List Item) → All (Kept (λ name. field_type name items) all) some
    → flat_map (event_parts (flat_map (field_gives groups) items)) (flat_map (event_gives (flat_map (field_gives groups) items)) some) ≡ flat_map item_parts (only_events some)
event_line_of groups items all found [] kept = refl
event_line_of groups items all found (EventItem kind name ∷ some) kept =
    let this = All-head (Kept (λ name. field_type name items) all) (EventItem kind name) some kept in
    let others = event_line_of groups items all found some (All-tail (Kept (λ name. field_type name items) all) (EventItem kind name) some kept) in
    let whole = (whole_kind (flat_map (field_gives groups) items) kind this.0.0).1 in
    λ i. (whole i ++ parts.EventName name ∷ []) ++ others i
event_line_of groups items all found (UpdateItem field name ∷ some) kept =
    let this = All-head (Kept (λ name. field_type name items) all) (UpdateItem field name) some kept in
    let others = event_line_of groups items all found some (All-tail (Kept (λ name. field_type name items) all) (UpdateItem field name) some kept) in
    let is = found field (update_known groups items field this.1) in
    λ i. parts.Event events.Update ∷ parts.Update (is i) ∷ parts.EventName name ∷ others i
event_line_of groups items all found (FieldItem type name ∷ some) kept = event_line_of groups items all found some (All-tail (Kept (λ name. field_type name items) all) (FieldItem type name) some kept)
event_line_of groups items all found (AutoidItem size ∷ some) kept = event_line_of groups items all found some (All-tail (Kept (λ name. field_type name items) all) (AutoidItem size) some kept)
event_line_of groups items all found (IndexItem unique kind names name size ∷ some) kept = event_line_of groups items all found some (All-tail (Kept (λ name. field_type name items) all) (IndexItem unique kind names name size) some kept)

-- the autoid

no_more_autoids : (items : List Item) → sum_by (weigh is_autoid) (flat_map item_parts items) ≡ 0 → flat_map item_parts (only_autoids items) ≡ []
unfolding is_autoid
no_more_autoids [] none = refl
no_more_autoids (FieldItem type name ∷ items) none = let all = weight_one (weigh is_autoid) (FieldItem type name) items in no_more_autoids items (omega arith)
no_more_autoids (AutoidItem size ∷ items) none = let all = sum_by-cons (weigh is_autoid) (parts.Autoid size) (flat_map item_parts items) in absurd (omega arith)
no_more_autoids (IndexItem unique kind names name size ∷ items) none = let all = weight_one (weigh is_autoid) (IndexItem unique kind names name size) items in no_more_autoids items (omega arith)
no_more_autoids (EventItem kind name ∷ items) none = let all = weight_one (weigh is_autoid) (EventItem kind name) items in no_more_autoids items (omega arith)
no_more_autoids (UpdateItem field name ∷ items) none = let all = weight_one (weigh is_autoid) (UpdateItem field name) items in no_more_autoids items (omega arith)

autoid_line_of : (items : List Item) → sum_by (weigh is_autoid) (flat_map item_parts items) ≤ 1 → autoid_parts (list_any is_autoid_item items) (estimate_in items) ≡ flat_map item_parts (only_autoids items)
unfolding is_autoid
autoid_line_of [] le = refl
autoid_line_of (FieldItem type name ∷ items) le = let all = weight_one (weigh is_autoid) (FieldItem type name) items in autoid_line_of items (omega arith)
autoid_line_of (AutoidItem size ∷ items) le =
    let all = sum_by-cons (weigh is_autoid) (parts.Autoid size) (flat_map item_parts items) in
    ap (λ (xs : List Part). parts.Autoid size ∷ xs) (sym (no_more_autoids items (omega arith)))
autoid_line_of (IndexItem unique kind names name size ∷ items) le = let all = weight_one (weigh is_autoid) (IndexItem unique kind names name size) items in autoid_line_of items (omega arith)
autoid_line_of (EventItem kind name ∷ items) le = let all = weight_one (weigh is_autoid) (EventItem kind name) items in autoid_line_of items (omega arith)
autoid_line_of (UpdateItem field name ∷ items) le = let all = weight_one (weigh is_autoid) (UpdateItem field name) items in autoid_line_of items (omega arith)

size_good : (items : List Item) → All IsGoodItem items → IsSizeSpelled (estimate_in items) × IsAutoidResolved (list_any is_autoid_item items) (estimate_in items)
size_good [] good = (tt, refl)
size_good (FieldItem type name ∷ items) good = size_good items (All-tail IsGoodItem (FieldItem type name) items good)
size_good (AutoidItem size ∷ items) good = (All-head IsGoodItem (AutoidItem size) items good, tt)
size_good (IndexItem unique kind names name size ∷ items) good = size_good items (All-tail IsGoodItem (IndexItem unique kind names name size) items good)
size_good (EventItem kind name ∷ items) good = size_good items (All-tail IsGoodItem (EventItem kind name) items good)
size_good (UpdateItem field name ∷ items) good = size_good items (All-tail IsGoodItem (UpdateItem field name) items good)

some_members : (groups : List Group) (items : List Item) → All IsGoodItem items → list_any is_member (flat_map item_parts items) ≡ true → 0 < length (flat_map (field_gives groups) items)
unfolding is_member
some_members groups [] good some = absurd cc
some_members groups (FieldItem type name ∷ items) good some = omega arith
some_members groups (AutoidItem size ∷ items) good some = some_members groups items (All-tail IsGoodItem (AutoidItem size) items good) some
some_members groups (IndexItem unique kind names name size ∷ items) good some =
    let item = IndexItem unique kind names name size in
    let lacks : Lacks is_member (item_parts item) = lacks_one is_member (parts.Index unique kind) (key_parts names ++ parts.IndexName name size ∷ []) refl (index_end_lacks is_member (λ name. refl) (λ name size. refl) names name size) in
    some_members groups items (All-tail IsGoodItem item items good) (sym (any_after is_member (item_parts item) (flat_map item_parts items) lacks) ∙ some)
some_members groups (EventItem kind name ∷ items) good some = some_members groups items (All-tail IsGoodItem (EventItem kind name) items good) some
some_members groups (UpdateItem field name ∷ items) good some = some_members groups items (All-tail IsGoodItem (UpdateItem field name) items good) some

-- whole classes

fields_found_in : (groups : List Group) (items : List Item) → Counts (flat_map item_parts items) → FieldsFound (flat_map (field_gives groups) items)
fields_found_in groups items counts = λ name there. field_found (flat_map (field_gives groups) items) name (let few = few_fields groups items in let le = counts.members in omega arith) there

class_good : (all : List (List ℕ)) (groups : List Group) → GroupsFound all groups → (decl : Decl) → IsGoodDecl decl → DeclFine all decl → All (λ class. IsClassSpelled groups class × IsClassResolved groups class) (class_gives groups decl)
class_good all groups found (GroupDecl name items) good fine = All-nil (λ (class : Class). IsClassSpelled groups class × IsClassResolved groups class)
class_good all groups found (ClassDecl name items) good fine =
    let lookup = λ (name : List ℕ). field_type name items in
    let kept : All (Kept lookup all) items = λ k d lt. (good.1 k d lt, fine.1 k d lt) in
    let inside = fields_found_in groups items fine.0 in
    let given_fields = flat_map (field_gives groups) items in
    let fields = all_flat (λ (field : Field). IsFieldSpelled groups field × IsFieldResolved groups field) (field_gives groups) (Kept lookup all) (field_good lookup all groups found) items kept in
    let indexes = all_flat (λ (index : IndexDecl). IsIndexSpelled given_fields index × IsIndexResolved given_fields index) (index_gives given_fields) (Kept lookup all) (index_good groups items all inside) items kept in
    let all_events = all_flat (λ (event : Event). IsEventSpelled given_fields event × IsEventResolved given_fields event) (event_gives given_fields) (Kept lookup all) (event_good groups items all inside) items kept in
    let size = size_good items good.1 in
    one_all (λ (class : Class). IsClassSpelled groups class × IsClassResolved groups class) (class_in groups name items) (
      record { name = good.0; some = some_members groups items good.1 fine.2; fields = λ k d lt. (fields k d lt).0; size = size.0; indexes = λ k d lt. (indexes k d lt).0; events = λ k d lt. (all_events k d lt).0 },
      record { fields = λ k d lt. (fields k d lt).1; autoid = size.1; indexes = λ k d lt. (indexes k d lt).1; events = λ k d lt. (all_events k d lt).1 },
    )

class_line_of : (all : List (List ℕ)) (groups : List Group) → GroupsFound all groups → (name : List ℕ) (items : List Item) → All IsGoodItem items → Counts (flat_map item_parts items) → All (ItemFine (λ name. field_type name items) all) items → body_parts groups (class_in groups name items) ≡ flat_map item_parts (sorted items)
class_line_of all groups found name items good counts fine =
    let lookup = λ (name : List ℕ). field_type name items in
    let kept : All (Kept lookup all) items = λ k d lt. (good k d lt, fine k d lt) in
    let inside = fields_found_in groups items counts in
    let a = fields_line lookup all groups found items kept in
    let b = autoid_line_of items counts.autoids in
    let c = index_line_of groups items all inside items kept in
    let d = event_line_of groups items all inside items kept in
    (λ i. a i ++ (b i ++ (c i ++ d i))) ∙ sym (sorted_parts items)

classes_line : (all : List (List ℕ)) (groups : List Group) → GroupsFound all groups → (decls : List Decl) → All IsGoodDecl decls → All (DeclFine all) decls → flat_map (class_parts groups) (flat_map (class_gives groups) decls) ≡ flat_map decl_parts (only_classes decls)
classes_line all groups found [] good fine = refl
classes_line all groups found (GroupDecl name items ∷ decls) good fine = classes_line all groups found decls (All-tail IsGoodDecl (GroupDecl name items) decls good) (All-tail (DeclFine all) (GroupDecl name items) decls fine)
classes_line all groups found (ClassDecl name items ∷ decls) good fine =
    let this = All-head IsGoodDecl (ClassDecl name items) decls good in
    let here = All-head (DeclFine all) (ClassDecl name items) decls fine in
    let body = class_line_of all groups found name items this.1 here.0 here.1 in
    let others = classes_line all groups found decls (All-tail IsGoodDecl (ClassDecl name items) decls good) (All-tail (DeclFine all) (ClassDecl name items) decls fine) in
    λ i. parts.Class name ∷ (body i ++ others i)

-- keys

index_keys : (groups : List Group) (items : List Item) (all : List (List ℕ)) → length (flat_map (field_gives groups) items) ≤ 32 → FieldsFound (flat_map (field_gives groups) items) → (item : Item) → Kept (λ name. field_type name items) all item
    → All (IsIndexKeyed (flat_map (field_gives groups) items)) (index_gives (flat_map (field_gives groups) items) item)
index_keys groups items all few found (IndexItem unique kind names name size) kept =
    let fields = flat_map (field_gives groups) items in
    let there = keys_known groups items (parts.Index unique kind) [] names kept.1.0 in
    one_all (IsIndexKeyed fields) (record { name = name; kind = kind; unique = unique; key = map (field_place fields) names; estimate = size })
    (index_keyed groups items unique kind names name size few kept.0.0 (λ k d lt. found _ (there k d lt)) kept.1.0 kept.1.1)
index_keys groups items all few found item kept = All-nil (IsIndexKeyed (flat_map (field_gives groups) items))

class_keyed : (all : List (List ℕ)) (groups : List Group) (decl : Decl) → IsGoodDecl decl → DeclFine all decl → All IsClassKeyed (class_gives groups decl)
class_keyed all groups (GroupDecl name items) good fine = All-nil IsClassKeyed
class_keyed all groups (ClassDecl name items) good fine =
    let lookup = λ (name : List ℕ). field_type name items in
    let given_fields = flat_map (field_gives groups) items in
    let few : length given_fields ≤ 32 = let few = few_fields groups items in let le = fine.0.members in omega arith in
    one_all IsClassKeyed (class_in groups name items)
    (all_flat (IsIndexKeyed given_fields) (index_gives given_fields) (Kept lookup all) (index_keys groups items all few (fields_found_in groups items fine.0)) items (λ k d lt. (good.1 k d lt, fine.1 k d lt)))

-- ---- how many there are

classes_len : (groups : List Group) (decls : List Decl) → length (flat_map (class_gives groups) decls) ≡ length (classes_in decls)
classes_len groups [] = refl
classes_len groups (GroupDecl other items ∷ decls) = classes_len groups decls
classes_len groups (ClassDecl other items ∷ decls) = ap (λ (n : ℕ). suc n) (classes_len groups decls)

group_small : (all : List (List ℕ)) (decl : Decl) → DeclFine all decl → All IsSmallGroup (group_gives decl)
group_small all (GroupDecl name items) fine = one_all IsSmallGroup (record { name = name; fields = flat_map (field_gives []) items }) (let few = few_fields [] items in let le = fine.members in omega arith)
group_small all (ClassDecl name items) fine = All-nil IsSmallGroup

class_small : (all : List (List ℕ)) (groups : List Group) (decl : Decl) → DeclFine all decl → All IsSmallClass (class_gives groups decl)
class_small all groups (GroupDecl name items) fine = All-nil IsSmallClass
class_small all groups (ClassDecl name items) fine =
    let lookup = λ (name : List ℕ). field_type name items in
    let given_fields = flat_map (field_gives groups) items in
    one_all IsSmallClass (class_in groups name items) (record {
      fields = let few = few_fields groups items in let le = fine.0.members in omega arith;
      indexes = let few = few_indexes given_fields items in let le = fine.0.indexes in omega arith;
      keys = all_flat IsShortKey (index_gives given_fields) (ItemFine lookup all) (short_keys lookup all given_fields) items fine.1;
      events = let few = few_events given_fields items in let le = fine.0.events in omega arith;
    })

-- ---- whole texts

-- a schema, and its parts in canonical order break no rule
pub record Sound (schema : Schema) : Type 0 where
  pub whole : IsSchema schema
  pub keeps : BreaksNoRule (parts_of schema)

sound_in : (name : List ℕ) (decls : List Decl) → IsName name → All IsGoodDecl decls → All (DeclFine (groups_in decls)) decls → NameCounts (groups_in decls) (classes_in decls) → Sound (schema_in name decls)
sound_in name decls is good fine counts =
    let groups = flat_map group_gives decls in
    let few : length groups ≤ 64 = let len = groups_len decls in let le = counts.few_groups in omega arith in
    let found : GroupsFound (groups_in decls) groups = λ other among. group_found groups other few (groups_same other decls ∙ among) in
    let all_groups = all_flat (λ (group : Group). IsGroupSpelled group × IsGroupResolved group) group_gives IsGoodDecl group_good decls good in
    let all_classes = all_flat (λ (class : Class). IsClassSpelled groups class × IsClassResolved groups class) (class_gives groups) (λ (decl : Decl). IsGoodDecl decl × DeclFine (groups_in decls) decl) (λ decl both. class_good (groups_in decls) groups found decl both.0 both.1) decls (λ k d lt. (good k d lt, fine k d lt)) in
    let a = groups_line decls good in
    let b = classes_line (groups_in decls) groups found decls good fine in
    let line : parts_of (schema_in name decls) ≡ parts.Database name ∷ (flat_map decl_parts (only_groups decls) ++ flat_map decl_parts (only_classes decls)) = λ i. parts.Database name ∷ (a i ++ b i) in
    record {
      whole = record {
        spelled = record { name = is; groups = λ k d lt. (all_groups k d lt).0; classes = λ k d lt. (all_classes k d lt).0 };
        resolved = record { groups = λ k d lt. (all_groups k d lt).1; classes = λ k d lt. (all_classes k d lt).1 };
        limits = record {
          few_groups = few;
          groups = all_flat IsSmallGroup group_gives (DeclFine (groups_in decls)) (group_small (groups_in decls)) decls fine;
          few_classes = let len = classes_len groups decls in let le = counts.few_classes in omega arith;
          classes = all_flat IsSmallClass (class_gives groups) (DeclFine (groups_in decls)) (class_small (groups_in decls) groups) decls fine;
        };
        keyed = all_flat IsClassKeyed (class_gives groups) (λ (decl : Decl). IsGoodDecl decl × DeclFine (groups_in decls) decl) (λ decl both. class_keyed (groups_in decls) groups decl both.0 both.1) decls (λ k d lt. (good k d lt, fine k d lt));
      };
      keeps = subst BreaksNoRule (sym line) (breaks_none (parts.Database name ∷ (flat_map decl_parts (only_groups decls) ++ flat_map decl_parts (only_classes decls))) (keeps_canonical name decls good fine counts));
    }

nothing_counted : NameCounts [] []
nothing_counted = record { once = λ name. omega arith; few_groups = omega arith; few_classes = omega arith }

pub sound : (syntax : List Part) → AreParts syntax → BreaksNoRule syntax → Sound (declared syntax)
sound syntax are no_fault =
    let whole = whole_of syntax are in
    let keeps = keeps_all syntax no_fault in
    let split : Keeps nothing (parts.Database whole.name ∷ flat_map decl_parts whole.decls) = subst (Keeps nothing) whole.split keeps in
    let fine = fine_decls (groups_in whole.decls) [] [] (parts.Database whole.name ∷ []) whole.decls refl whole.good nothing_counted split.1 in
    let same_schema : declared syntax ≡ schema_in whole.name whole.decls = ap declared whole.split ∙ declares_in whole.name whole.decls whole.good in
    subst Sound (sym same_schema) (sound_in whole.name whole.decls whole.is whole.good fine.0 fine.1)

-- the parts of a text, none of which breaks a rule, declare a schema
pub declares_schema : (syntax : List Part) → BreaksNoRule syntax → AreParts syntax → IsSchema (declared syntax)
declares_schema syntax no_fault are = (sound syntax are no_fault).whole
