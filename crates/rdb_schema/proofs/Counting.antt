-- How many fields, indexes, events and fields of a key the members of a class give.
use Rattle.std.proofs.Common.{◌≡◌, ℕ, suc, ◌+◌, ◌<◌, ◌≤◌, Bool, true, false, List, [], ◌∷◌, ◌++◌, length, Option, Some, None, refl, ap, arith, length-append}
use Rattle.std.specs.Prelude.{map, if◌then◌else◌, nat_le}
use Rattle.std.specs.List.{flat_map, All, sum_by}
use Rattle.std.proofs.lemmas.List.Elements.{All-cons, All-nil}
use Rattle.std.proofs.lemmas.List.Sums.{sum_by-cons, sum_by_push}
use Rattle.rdb_schema.specs.declared.schema.Field.{Field}
use Rattle.rdb_schema.specs.declared.schema.EventKind.TheVariants as events
use Rattle.rdb_schema.specs.declared.syntax.Part.{Part}
use Rattle.rdb_schema.specs.declared.syntax.Part.TheVariants as parts
use Rattle.rdb_schema.specs.declared.syntax.DdlCause.TheVariants.{BadKey, TooMany}
use Rattle.rdb_schema.specs.Rules.{is_index_name, is_event_name, breaks_key}
use Rattle.rdb_schema.specs.Meaning.{field_place}
use Rattle.rdb_schema.specs.Limits.{IsShortKey}
use Rattle.rdb_schema.proofs.Items.{Item, FieldItem, AutoidItem, IndexItem, EventItem, UpdateItem, key_parts, item_parts}
use Rattle.rdb_schema.proofs.ItemMeanings.{index_gives, event_gives}
use Rattle.rdb_schema.proofs.Keeping.{weigh, not_full, key_fault, KeysFine}
use Rattle.rdb_schema.proofs.Members.{ItemFine}
use Rattle.rdb_schema.proofs.Sorting.{weight_one}

-- ---- indexes and events

pub few_indexes : (fields : List Field) (items : List Item) → length (flat_map (index_gives fields) items) ≤ sum_by (weigh is_index_name) (flat_map item_parts items)
unfolding is_index_name
few_indexes fields [] = omega arith
few_indexes fields (FieldItem type name ∷ items) = let others = few_indexes fields items in let all = weight_one (weigh is_index_name) (FieldItem type name) items in omega arith
few_indexes fields (AutoidItem size ∷ items) = let others = few_indexes fields items in let all = weight_one (weigh is_index_name) (AutoidItem size) items in omega arith
few_indexes fields (IndexItem unique kind names name size ∷ items) =
    let others = few_indexes fields items in
    let all = weight_one (weigh is_index_name) (IndexItem unique kind names name size) items in
    let opening = sum_by-cons (weigh is_index_name) (parts.Index unique kind) (key_parts names ++ parts.IndexName name size ∷ []) in
    let ending = sum_by_push (weigh is_index_name) (key_parts names) (parts.IndexName name size) in
    omega arith
few_indexes fields (EventItem kind name ∷ items) = let others = few_indexes fields items in let all = weight_one (weigh is_index_name) (EventItem kind name) items in omega arith
few_indexes fields (UpdateItem field name ∷ items) = let others = few_indexes fields items in let all = weight_one (weigh is_index_name) (UpdateItem field name) items in omega arith

pub few_events : (fields : List Field) (items : List Item) → length (flat_map (event_gives fields) items) ≤ sum_by (weigh is_event_name) (flat_map item_parts items)
unfolding is_event_name
few_events fields [] = omega arith
few_events fields (FieldItem type name ∷ items) = let others = few_events fields items in let all = weight_one (weigh is_event_name) (FieldItem type name) items in omega arith
few_events fields (AutoidItem size ∷ items) = let others = few_events fields items in let all = weight_one (weigh is_event_name) (AutoidItem size) items in omega arith
few_events fields (IndexItem unique kind names name size ∷ items) = let others = few_events fields items in let all = weight_one (weigh is_event_name) (IndexItem unique kind names name size) items in omega arith
few_events fields (EventItem kind name ∷ items) =
    let others = few_events fields items in
    let a = sum_by-cons (weigh is_event_name) (parts.Event kind) (parts.EventName name ∷ flat_map item_parts items) in
    let b = sum_by-cons (weigh is_event_name) (parts.EventName name) (flat_map item_parts items) in
    omega arith
few_events fields (UpdateItem field name ∷ items) =
    let others = few_events fields items in
    let a = sum_by-cons (weigh is_event_name) (parts.Event events.Update) (parts.Update field ∷ parts.EventName name ∷ flat_map item_parts items) in
    let b = sum_by-cons (weigh is_event_name) (parts.Update field) (parts.EventName name ∷ flat_map item_parts items) in
    let c = sum_by-cons (weigh is_event_name) (parts.EventName name) (flat_map item_parts items) in
    omega arith

-- ---- keys

key_room : (a b : Bool) → (if a then Some BadKey else (if b then Some TooMany else None)) ≡ None → b ≡ false
key_room true b e = absurd cc
key_room false true e = absurd cc
key_room false false e = refl

room_for_key : (ty : Option Part) (opening : Part) (keys : List Part) (name : List ℕ) → key_fault ty opening keys name ≡ None → length keys < 4
room_for_key None opening keys name e = absurd cc
room_for_key (Some ty) opening keys name e = not_full 4 (length keys) (key_room (breaks_key (Some opening) ty name keys) (nat_le 4 (length keys)) e)

key_parts_len : (names : List (List ℕ)) → length (key_parts names) ≡ length names
key_parts_len [] = refl
key_parts_len (name ∷ names) = ap (λ (n : ℕ). suc n) (key_parts_len names)

few_keys : (lookup : List ℕ → Option Part) (opening : Part) (done names : List (List ℕ)) → KeysFine lookup opening done names → length done ≤ 4 → length done + length names ≤ 4
few_keys lookup opening done [] fine le = omega arith
few_keys lookup opening done (name ∷ names) fine le =
    let room = room_for_key (lookup name) opening (key_parts done) name fine.0 in
    let same_len = key_parts_len done in
    let more : length (done ++ name ∷ []) ≡ length done + 1 = simp length-append (omega arith) in
    let others = few_keys lookup opening (done ++ name ∷ []) names fine.1 (omega arith) in
    omega arith

places_len : (fields : List Field) (names : List (List ℕ)) → length (map (field_place fields) names) ≡ length names
places_len fields [] = refl
places_len fields (name ∷ names) = ap (λ (n : ℕ). suc n) (places_len fields names)

pub short_keys : (lookup : List ℕ → Option Part) (all : List (List ℕ)) (fields : List Field) (item : Item) → ItemFine lookup all item → All IsShortKey (index_gives fields item)
short_keys lookup all fields (IndexItem unique kind names name size) fine =
    let few = few_keys lookup (parts.Index unique kind) [] names fine.0 (omega arith) in
    let len = places_len fields names in
    All-cons IsShortKey (record { name = name; kind = kind; unique = unique; key = map (field_place fields) names; estimate = size }) [] (omega arith) (All-nil IsShortKey)
short_keys lookup all fields item fine = All-nil IsShortKey
