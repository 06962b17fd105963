-- What members and declarations declare.
use Rattle.std.proofs.Common.{◌≡◌, ℕ, Bool, true, false, cond, List, [], ◌∷◌, ◌++◌, length, Option, Some, None, refl, sym, ap, ◌∙◌, subst, append_assoc, slice_get}
use Rattle.std.specs.Prelude.{map}
use Rattle.std.specs.Option.{option_to_list}
use Rattle.std.specs.List.{flat_map, All, list_any}
use Rattle.std.proofs.lemmas.List.{append-nil}
use Rattle.std.proofs.lemmas.List.Elements.{All-head, All-tail}
use Rattle.rdb_schema.specs.declared.schema.Plain.TheVariants as plains
use Rattle.rdb_schema.specs.declared.schema.FieldType.{FieldType}
use Rattle.rdb_schema.specs.declared.schema.FieldType.TheVariants as types
use Rattle.rdb_schema.specs.declared.schema.EventKind.TheVariants as events
use Rattle.rdb_schema.specs.declared.schema.Field.{Field}
use Rattle.rdb_schema.specs.declared.schema.IndexDecl.{IndexDecl}
use Rattle.rdb_schema.specs.declared.schema.Event.{Event}
use Rattle.rdb_schema.specs.declared.schema.Group.{Group}
use Rattle.rdb_schema.specs.declared.schema.Class.{Class}
use Rattle.rdb_schema.specs.declared.schema.Schema.{Schema}
use Rattle.rdb_schema.specs.declared.syntax.Part.{Part}
use Rattle.rdb_schema.specs.declared.syntax.Part.TheVariants as parts
use Rattle.rdb_schema.specs.Rules.{body_of, is_head, is_autoid}
use Rattle.rdb_schema.specs.Meaning.{gather, group_place, field_place, typed, field_from, fields_of, key_name, key_of, index_with, index_from, indexes_of, event_from, events_of, estimate_from, estimate_or, estimate_of, class_of, group_from, groups_of, class_from, classes_of, declared}
use Rattle.rdb_schema.proofs.Declaring.{Lacks, opens_group, opens_class, opens_field, opens_index, opens_event, lacks_one, lacks_nil, lacks_both, passed_over, no_group, no_class, no_field, no_index, no_event, StartsAnew, body_is, blocks_start, any_after}
use Rattle.rdb_schema.proofs.Items.{Item, FieldItem, AutoidItem, IndexItem, EventItem, UpdateItem, Decl, GroupDecl, ClassDecl, key_parts, item_parts, decl_parts, IsGoodItem, IsGroupItem, IsGoodDecl}

-- the type that a part gives
abbrev pub given : List Group → Part → FieldType
given groups (parts.Plain ty vector) = typed ty vector
given groups (parts.Named name vector) = typed (plains.Struct (group_place groups name)) vector
given groups _ = types.Str

abbrev pub field_gives : List Group → Item → List Field
field_gives groups (FieldItem type name) = (record { name = name; ty = given groups type }) ∷ []
field_gives groups _ = []

abbrev pub index_gives : List Field → Item → List IndexDecl
index_gives fields (IndexItem unique kind names name size) = (record { name = name; kind = kind; unique = unique; key = map (field_place fields) names; estimate = size }) ∷ []
index_gives fields _ = []

abbrev pub event_gives : List Field → Item → List Event
event_gives fields (EventItem kind name) = (record { name = name; kind = kind }) ∷ []
event_gives fields (UpdateItem field name) = (record { name = name; kind = events.UpdateField (field_place fields field) }) ∷ []
event_gives fields _ = []

abbrev pub is_autoid_item : Item → Bool
is_autoid_item (AutoidItem size) = true
is_autoid_item _ = false

abbrev pub size_gives : Item → Option (Option ℕ)
size_gives (AutoidItem size) = Some size
size_gives _ = None

abbrev pub estimate_in : List Item → Option ℕ
estimate_in [] = None
estimate_in (item ∷ items) = estimate_or (size_gives item) (estimate_in items)

abbrev pub class_in : List Group → List ℕ → List Item → Class
class_in groups name items =
    let fields = flat_map (field_gives groups) items in
    record { name = name; fields = fields; autoid = list_any is_autoid_item items; estimate = estimate_in items; indexes = flat_map (index_gives fields) items; events = flat_map (event_gives fields) items }

abbrev pub group_gives : Decl → List Group
group_gives (GroupDecl name items) = (record { name = name; fields = flat_map (field_gives []) items }) ∷ []
group_gives (ClassDecl name items) = []

abbrev pub class_gives : List Group → Decl → List Class
class_gives groups (GroupDecl name items) = []
class_gives groups (ClassDecl name items) = class_in groups name items ∷ []

abbrev pub schema_in : List ℕ → List Decl → Schema
schema_in name decls =
    let groups = flat_map group_gives decls in
    record { name = name; groups = groups; classes = flat_map (class_gives groups) decls }

gathers_each : {X Y : Type 0} (from : Part → List Part → Option Y) (of : X → List Part) (gives : X → List Y) (Good : X → Type 0) → ((x : X) (rest : List Part) → Good x → gather from (of x ++ rest) ≡ gives x ++ gather from rest)
    → (xs : List X) (rest : List Part) → All Good xs → gather from (flat_map of xs ++ rest) ≡ flat_map gives xs ++ gather from rest
gathers_each from of gives Good one [] rest all = refl
gathers_each from of gives Good one (x ∷ xs) rest all =
    ap (gather from) (append_assoc (of x) (flat_map of xs) rest) ∙ one x (flat_map of xs ++ rest) (All-head Good x xs all)
    ∙ ap (λ others. gives x ++ others) (gathers_each from of gives Good one xs rest (All-tail Good x xs all)) ∙ sym (append_assoc (gives x) (flat_map gives xs) (gather from rest))

pub keys_are : (kind : Part → Bool) → ((name : List ℕ) → kind (parts.Key name) ≡ false) → (names : List (List ℕ)) → Lacks kind (key_parts names)
keys_are kind a [] = lacks_nil kind
keys_are kind a (name ∷ names) = lacks_one kind (parts.Key name) (key_parts names) (a name) (keys_are kind a names)

pub index_end_lacks : (kind : Part → Bool) → ((name : List ℕ) → kind (parts.Key name) ≡ false) → ((name : List ℕ) (size : Option ℕ) → kind (parts.IndexName name size) ≡ false) → (names : List (List ℕ)) (name : List ℕ) (size : Option ℕ) → Lacks kind (key_parts names ++ parts.IndexName name size ∷ [])
index_end_lacks kind a b names name size = lacks_both kind (key_parts names) (parts.IndexName name size ∷ []) (keys_are kind a names) (lacks_one kind (parts.IndexName name size) [] (b name size) (lacks_nil kind))

field_of_item : (groups : List Group) (item : Item) (rest : List Part) → IsGoodItem item → gather (field_from groups) (item_parts item ++ rest) ≡ field_gives groups item ++ gather (field_from groups) rest
unfolding gather field_from
field_of_item groups (FieldItem (parts.Plain ty vector) name) rest good = refl
field_of_item groups (FieldItem (parts.Named named vector) name) rest good = refl
field_of_item groups (FieldItem type name) rest good = absurd good.0
field_of_item groups (AutoidItem size) rest good = refl
field_of_item groups (IndexItem unique kind names name size) rest good =
    passed_over opens_field (field_from groups) (no_field groups) (key_parts names ++ parts.IndexName name size ∷ []) rest (index_end_lacks opens_field (λ name. refl) (λ name size. refl) names name size)
field_of_item groups (EventItem kind name) rest good = refl
field_of_item groups (UpdateItem field name) rest good = refl

key_is : (fields : List Field) (names : List (List ℕ)) (name : List ℕ) (size : Option ℕ) (rest : List Part) → key_of fields (key_parts names ++ parts.IndexName name size ∷ rest) ≡ map (field_place fields) names
unfolding key_of key_name
key_is fields [] name size rest = refl
key_is fields (key ∷ names) name size rest = ap (λ (places : List ℕ). field_place fields key ∷ places) (key_is fields names name size rest)

ending_is : (fields : List Field) (names : List (List ℕ)) (ending : Part) (rest : List Part) → slice_get (key_parts names ++ ending ∷ rest) (length (map (field_place fields) names)) ≡ Some ending
ending_is fields [] ending rest = refl
ending_is fields (name ∷ names) ending rest = ending_is fields names ending rest

index_of_item : (fields : List Field) (item : Item) (rest : List Part) → IsGoodItem item → gather (index_from fields) (item_parts item ++ rest) ≡ index_gives fields item ++ gather (index_from fields) rest
unfolding gather index_from
index_of_item fields (FieldItem (parts.Plain ty vector) name) rest good = refl
index_of_item fields (FieldItem (parts.Named named vector) name) rest good = refl
index_of_item fields (FieldItem type name) rest good = absurd good.0
index_of_item fields (AutoidItem size) rest good = refl
index_of_item fields (IndexItem unique kind names name size) rest good =
    let ending = parts.IndexName name size in
    let line : (key_parts names ++ ending ∷ []) ++ rest ≡ key_parts names ++ ending ∷ rest = append_assoc (key_parts names) (ending ∷ []) rest in
    let key : key_of fields (key_parts names ++ ending ∷ rest) ≡ map (field_place fields) names = key_is fields names name size rest in
    let last : slice_get (key_parts names ++ ending ∷ rest) (length (key_of fields (key_parts names ++ ending ∷ rest))) ≡ Some ending = ap (λ (key : List ℕ). slice_get (key_parts names ++ ending ∷ rest) (length key)) key ∙ ending_is fields names ending rest in
    let none = passed_over opens_index (index_from fields) (no_index fields) (key_parts names ++ ending ∷ []) rest (index_end_lacks opens_index (λ name. refl) (λ name size. refl) names name size) in
    ap (λ (tail : List Part). option_to_list (index_with unique kind (key_of fields tail) (slice_get tail (length (key_of fields tail)))) ++ gather (index_from fields) ((key_parts names ++ ending ∷ []) ++ rest)) line
    ∙ (λ i. option_to_list (index_with unique kind (key i) (last i)) ++ none i)
index_of_item fields (EventItem kind name) rest good = refl
index_of_item fields (UpdateItem field name) rest good = refl

event_of_item : (fields : List Field) (item : Item) (rest : List Part) → IsGoodItem item → gather (event_from fields) (item_parts item ++ rest) ≡ event_gives fields item ++ gather (event_from fields) rest
unfolding gather event_from
event_of_item fields (FieldItem (parts.Plain ty vector) name) rest good = refl
event_of_item fields (FieldItem (parts.Named named vector) name) rest good = refl
event_of_item fields (FieldItem type name) rest good = absurd good.0
event_of_item fields (AutoidItem size) rest good = refl
event_of_item fields (IndexItem unique kind names name size) rest good =
    passed_over opens_event (event_from fields) (no_event fields) (key_parts names ++ parts.IndexName name size ∷ []) rest (index_end_lacks opens_event (λ name. refl) (λ name size. refl) names name size)
event_of_item fields (EventItem kind name) rest good = refl
event_of_item fields (UpdateItem field name) rest good = refl

pub fields_are : (groups : List Group) (items : List Item) → All IsGoodItem items → fields_of groups (flat_map item_parts items) ≡ flat_map (field_gives groups) items
unfolding gather
fields_are groups items good = ap (gather (field_from groups)) (sym (append-nil (flat_map item_parts items))) ∙ gathers_each (field_from groups) item_parts (field_gives groups) IsGoodItem (field_of_item groups) items [] good ∙ append-nil (flat_map (field_gives groups) items)

pub indexes_are : (fields : List Field) (items : List Item) → All IsGoodItem items → indexes_of fields (flat_map item_parts items) ≡ flat_map (index_gives fields) items
unfolding gather
indexes_are fields items good = ap (gather (index_from fields)) (sym (append-nil (flat_map item_parts items))) ∙ gathers_each (index_from fields) item_parts (index_gives fields) IsGoodItem (index_of_item fields) items [] good ∙ append-nil (flat_map (index_gives fields) items)

pub events_are : (fields : List Field) (items : List Item) → All IsGoodItem items → events_of fields (flat_map item_parts items) ≡ flat_map (event_gives fields) items
unfolding gather
events_are fields items good = ap (gather (event_from fields)) (sym (append-nil (flat_map item_parts items))) ∙ gathers_each (event_from fields) item_parts (event_gives fields) IsGoodItem (event_of_item fields) items [] good ∙ append-nil (flat_map (event_gives fields) items)

autoid_item : (item : Item) (rest : List Part) → IsGoodItem item → list_any is_autoid (item_parts item ++ rest) ≡ cond (is_autoid_item item) true (list_any is_autoid rest)
unfolding is_autoid
autoid_item (FieldItem (parts.Plain ty vector) name) rest good = refl
autoid_item (FieldItem (parts.Named named vector) name) rest good = refl
autoid_item (FieldItem type name) rest good = absurd good.0
autoid_item (AutoidItem size) rest good = refl
autoid_item (IndexItem unique kind names name size) rest good = any_after is_autoid (parts.Index unique kind ∷ (key_parts names ++ parts.IndexName name size ∷ [])) rest (lacks_one is_autoid (parts.Index unique kind) (key_parts names ++ parts.IndexName name size ∷ []) refl (index_end_lacks is_autoid (λ name. refl) (λ name size. refl) names name size))
autoid_item (EventItem kind name) rest good = refl
autoid_item (UpdateItem field name) rest good = refl

any_first : (b : Bool) (items : List Item) (item : Item) → is_autoid_item item ≡ b → cond b true (list_any is_autoid_item items) ≡ list_any is_autoid_item (item ∷ items)
any_first true items item e = rw e refl
any_first false items item e = rw e refl

pub autoid_are : (items : List Item) → All IsGoodItem items → list_any is_autoid (flat_map item_parts items) ≡ list_any is_autoid_item items
autoid_are [] good = refl
autoid_are (item ∷ items) good =
    autoid_item item (flat_map item_parts items) (All-head IsGoodItem item items good) ∙ ap (cond (is_autoid_item item) true) (autoid_are items (All-tail IsGoodItem item items good)) ∙ any_first (is_autoid_item item) items item refl

estimate_after : (kind : Part → Bool) → ((part : Part) → kind part ≡ false → estimate_from part ≡ None) → (xs rest : List Part) → Lacks kind xs → estimate_of (xs ++ rest) ≡ estimate_of rest
unfolding estimate_of
estimate_after kind quiet [] rest lacks = refl
estimate_after kind quiet (x ∷ xs) rest lacks =
    ap (λ (found : Option (Option ℕ)). estimate_or found (estimate_of (xs ++ rest))) (quiet x (All-head (λ (part : Part). kind part ≡ false) x xs lacks))
    ∙ estimate_after kind quiet xs rest (All-tail (λ (part : Part). kind part ≡ false) x xs lacks)

gives_no_size : (part : Part) → is_autoid part ≡ false → estimate_from part ≡ None
unfolding is_autoid estimate_from
gives_no_size (parts.Autoid size) e = absurd cc
gives_no_size part e = refl

estimate_item : (item : Item) (rest : List Part) → IsGoodItem item → estimate_of (item_parts item ++ rest) ≡ estimate_or (size_gives item) (estimate_of rest)
unfolding estimate_of estimate_from is_autoid
estimate_item (FieldItem (parts.Plain ty vector) name) rest good = refl
estimate_item (FieldItem (parts.Named named vector) name) rest good = refl
estimate_item (FieldItem type name) rest good = absurd good.0
estimate_item (AutoidItem size) rest good = refl
estimate_item (IndexItem unique kind names name size) rest good = estimate_after is_autoid gives_no_size (key_parts names ++ parts.IndexName name size ∷ []) rest (index_end_lacks is_autoid (λ name. refl) (λ name size. refl) names name size)
estimate_item (EventItem kind name) rest good = refl
estimate_item (UpdateItem field name) rest good = refl

pub estimate_are : (items : List Item) → All IsGoodItem items → estimate_of (flat_map item_parts items) ≡ estimate_in items
unfolding estimate_of
estimate_are [] good = refl
estimate_are (item ∷ items) good = estimate_item item (flat_map item_parts items) (All-head IsGoodItem item items good) ∙ ap (estimate_or (size_gives item)) (estimate_are items (All-tail IsGoodItem item items good))

-- ---- whole texts

pub item_lacks_heads : (item : Item) → IsGoodItem item → Lacks is_head (item_parts item)
unfolding is_head
item_lacks_heads (FieldItem (parts.Plain ty vector) name) good = lacks_one is_head (parts.Plain ty vector) (parts.Member name ∷ []) refl (lacks_one is_head (parts.Member name) [] refl (lacks_nil is_head))
item_lacks_heads (FieldItem (parts.Named named vector) name) good = lacks_one is_head (parts.Named named vector) (parts.Member name ∷ []) refl (lacks_one is_head (parts.Member name) [] refl (lacks_nil is_head))
item_lacks_heads (FieldItem type name) good = absurd good.0
item_lacks_heads (AutoidItem size) good = lacks_one is_head (parts.Autoid size) [] refl (lacks_nil is_head)
item_lacks_heads (IndexItem unique kind names name size) good = lacks_one is_head (parts.Index unique kind) (key_parts names ++ parts.IndexName name size ∷ []) refl (index_end_lacks is_head (λ name. refl) (λ name size. refl) names name size)
item_lacks_heads (EventItem kind name) good = lacks_one is_head (parts.Event kind) (parts.EventName name ∷ []) refl (lacks_one is_head (parts.EventName name) [] refl (lacks_nil is_head))
item_lacks_heads (UpdateItem field name) good = lacks_one is_head (parts.Event events.Update) (parts.Update field ∷ parts.EventName name ∷ []) refl (lacks_one is_head (parts.Update field) (parts.EventName name ∷ []) refl (lacks_one is_head (parts.EventName name) [] refl (lacks_nil is_head)))

pub items_lack_heads : (items : List Item) → All IsGoodItem items → Lacks is_head (flat_map item_parts items)
items_lack_heads [] good = lacks_nil is_head
items_lack_heads (item ∷ items) good = lacks_both is_head (item_parts item) (flat_map item_parts items) (item_lacks_heads item (All-head IsGoodItem item items good)) (items_lack_heads items (All-tail IsGoodItem item items good))

group_item_good : (item : Item) → IsGroupItem item → IsGoodItem item
group_item_good (FieldItem (parts.Plain ty false) name) good = good
group_item_good (FieldItem type name) good = absurd good.0
group_item_good item good = absurd good

pub group_items_good : (items : List Item) → All IsGroupItem items → All IsGoodItem items
group_items_good items good = λ k d lt. group_item_good _ (good k d lt)

pub decl_starts : (decl : Decl) (rest : List Part) → StartsAnew (decl_parts decl ++ rest)
unfolding is_head
decl_starts (GroupDecl name items) rest = refl
decl_starts (ClassDecl name items) rest = refl

pub decls_start : (decls : List Decl) → StartsAnew (flat_map decl_parts decls)
decls_start decls = subst StartsAnew (append-nil (flat_map decl_parts decls)) (blocks_start decl_parts decl_starts decls [] tt)

head_no_group : (part : Part) → is_head part ≡ false → opens_group part ≡ false
unfolding is_head
head_no_group (parts.Struct name) e = absurd cc
head_no_group part e = refl

head_no_class : (part : Part) → is_head part ≡ false → opens_class part ≡ false
unfolding is_head
head_no_class (parts.Class name) e = absurd cc
head_no_class part e = refl

group_of_decl : (decl : Decl) (rest : List Part) → IsGoodDecl decl → StartsAnew rest → gather group_from (decl_parts decl ++ rest) ≡ group_gives decl ++ gather group_from rest
unfolding gather group_from
group_of_decl (GroupDecl name items) rest good anew =
    let all = group_items_good items good.2 in
    let lacks = items_lack_heads items all in
    let same : fields_of [] (body_of (flat_map item_parts items ++ rest)) ≡ flat_map (field_gives []) items = ap (fields_of []) (body_is (flat_map item_parts items) rest lacks anew) ∙ fields_are [] items all in
    let none = passed_over opens_group group_from no_group (flat_map item_parts items) rest (λ k d lt. head_no_group _ (lacks k d lt)) in
    λ i. (record { name = name; fields = same i }) ∷ none i
group_of_decl (ClassDecl name items) rest good anew =
    passed_over opens_group group_from no_group (flat_map item_parts items) rest (λ k d lt. head_no_group _ (items_lack_heads items good.1 k d lt))

class_is_in : (groups : List Group) (name : List ℕ) (items : List Item) → All IsGoodItem items → class_of groups name (flat_map item_parts items) ≡ class_in groups name items
unfolding class_of
class_is_in groups name items good =
    let body = flat_map item_parts items in
    let fields = fields_are groups items good in
    let autoid = autoid_are items good in
    let estimate = estimate_are items good in
    let indexes : indexes_of (fields_of groups body) body ≡ flat_map (index_gives (flat_map (field_gives groups) items)) items = ap (λ (fields : List Field). indexes_of fields body) fields ∙ indexes_are (flat_map (field_gives groups) items) items good in
    let events : events_of (fields_of groups body) body ≡ flat_map (event_gives (flat_map (field_gives groups) items)) items = ap (λ (fields : List Field). events_of fields body) fields ∙ events_are (flat_map (field_gives groups) items) items good in
    λ i. record { name = name; fields = fields i; autoid = autoid i; estimate = estimate i; indexes = indexes i; events = events i }

class_of_decl : (groups : List Group) (decl : Decl) (rest : List Part) → IsGoodDecl decl → StartsAnew rest → gather (class_from groups) (decl_parts decl ++ rest) ≡ class_gives groups decl ++ gather (class_from groups) rest
unfolding gather class_from
class_of_decl groups (GroupDecl name items) rest good anew =
    passed_over opens_class (class_from groups) (no_class groups) (flat_map item_parts items) rest (λ k d lt. head_no_class _ (items_lack_heads items (group_items_good items good.2) k d lt))
class_of_decl groups (ClassDecl name items) rest good anew =
    let lacks = items_lack_heads items good.1 in
    let same : class_of groups name (body_of (flat_map item_parts items ++ rest)) ≡ class_in groups name items = ap (class_of groups name) (body_is (flat_map item_parts items) rest lacks anew) ∙ class_is_in groups name items good.1 in
    let none = passed_over opens_class (class_from groups) (no_class groups) (flat_map item_parts items) rest (λ k d lt. head_no_class _ (lacks k d lt)) in
    λ i. same i ∷ none i

gathers_decls : {Y : Type 0} (from : Part → List Part → Option Y) (gives : Decl → List Y) → gather from [] ≡ [] → ((decl : Decl) (rest : List Part) → IsGoodDecl decl → StartsAnew rest → gather from (decl_parts decl ++ rest) ≡ gives decl ++ gather from rest)
    → (decls : List Decl) → All IsGoodDecl decls → gather from (flat_map decl_parts decls) ≡ flat_map gives decls
gathers_decls from gives none one [] good = none
gathers_decls from gives none one (decl ∷ decls) good =
    one decl (flat_map decl_parts decls) (All-head IsGoodDecl decl decls good) (decls_start decls) ∙ ap (λ others. gives decl ++ others) (gathers_decls from gives none one decls (All-tail IsGoodDecl decl decls good))

pub declares_in : (name : List ℕ) (decls : List Decl) → All IsGoodDecl decls → declared (parts.Database name ∷ flat_map decl_parts decls) ≡ schema_in name decls
unfolding gather group_from class_from
declares_in name decls good =
    let syntax = parts.Database name ∷ flat_map decl_parts decls in
    let groups : groups_of syntax ≡ flat_map group_gives decls = gathers_decls group_from group_gives refl group_of_decl decls good in
    let classes : classes_of (groups_of syntax) syntax ≡ flat_map (class_gives (flat_map group_gives decls)) decls = ap (λ (groups : List Group). classes_of groups syntax) groups ∙ gathers_decls (class_from (flat_map group_gives decls)) (class_gives (flat_map group_gives decls)) refl (class_of_decl (flat_map group_gives decls)) decls good in
    λ i. record { name = name; groups = groups i; classes = classes i }
