-- The members of a class in canonical order: fields, autoid, indexes and events.
use Rattle.std.proofs.Common.{◌≡◌, ℕ, suc, ◌+◌, ◌≤◌, Bool, true, false, cond, not, min, List, [], ◌∷◌, ◌++◌, length, Option, Some, None, refl, sym, ap, ◌∙◌, arith, subst, slice_get}
use Rattle.std.specs.List.{flat_map, All, list_any, sum_by, position_or_len}
use Rattle.std.proofs.lemmas.Slice.Eq.{bytes_eq-Decides}
use Rattle.std.proofs.lemmas.List.Elements.{All-head, All-tail, All-cons, All-nil, All-append}
use Rattle.std.proofs.lemmas.List.Sums.{sum_by-append, sum_by-cons, prefix_len-le-length}
use Rattle.std.proofs.lemmas.Grind.{flat_map-append}
use Rattle.rdb_schema.specs.declared.schema.Field.{Field}
use Rattle.rdb_schema.specs.declared.schema.Group.{Group}
use Rattle.rdb_schema.specs.declared.syntax.Part.{Part}
use Rattle.rdb_schema.specs.declared.syntax.Part.TheVariants as parts
use Rattle.rdb_schema.specs.Rules.{same, is_member, is_autoid, is_index_name, is_event_name, has_name, or_else, update_cause}
use Rattle.rdb_schema.specs.Meaning.{group_place, field_place}
use Rattle.rdb_schema.specs.Names.{name_of_group, name_of_field, group_name, field_name}
use Rattle.rdb_schema.proofs.Items.{Item, FieldItem, AutoidItem, IndexItem, EventItem, UpdateItem, key_parts, item_parts}
use Rattle.rdb_schema.proofs.ItemMeanings.{field_gives}
use Rattle.rdb_schema.proofs.Keeping.{weigh, Counts, none_counted, any_from_count, field_type, field_type_both, or_none, key_fault, KeysFine}
use Rattle.rdb_schema.proofs.Members.{ItemFine}

-- ---- members by their kinds

abbrev pub only_fields : List Item → List Item
only_fields [] = []
only_fields (FieldItem type name ∷ items) = FieldItem type name ∷ only_fields items
only_fields (AutoidItem size ∷ items) = only_fields items
only_fields (IndexItem unique kind names name size ∷ items) = only_fields items
only_fields (EventItem kind name ∷ items) = only_fields items
only_fields (UpdateItem field name ∷ items) = only_fields items

abbrev pub only_autoids : List Item → List Item
only_autoids [] = []
only_autoids (FieldItem type name ∷ items) = only_autoids items
only_autoids (AutoidItem size ∷ items) = AutoidItem size ∷ only_autoids items
only_autoids (IndexItem unique kind names name size ∷ items) = only_autoids items
only_autoids (EventItem kind name ∷ items) = only_autoids items
only_autoids (UpdateItem field name ∷ items) = only_autoids items

abbrev pub only_indexes : List Item → List Item
only_indexes [] = []
only_indexes (FieldItem type name ∷ items) = only_indexes items
only_indexes (AutoidItem size ∷ items) = only_indexes items
only_indexes (IndexItem unique kind names name size ∷ items) = IndexItem unique kind names name size ∷ only_indexes items
only_indexes (EventItem kind name ∷ items) = only_indexes items
only_indexes (UpdateItem field name ∷ items) = only_indexes items

abbrev pub only_events : List Item → List Item
only_events [] = []
only_events (FieldItem type name ∷ items) = only_events items
only_events (AutoidItem size ∷ items) = only_events items
only_events (IndexItem unique kind names name size ∷ items) = only_events items
only_events (EventItem kind name ∷ items) = EventItem kind name ∷ only_events items
only_events (UpdateItem field name ∷ items) = UpdateItem field name ∷ only_events items

abbrev pub sorted : List Item → List Item
sorted items = only_fields items ++ (only_autoids items ++ (only_indexes items ++ only_events items))

-- what is true of all members is true of them in this order
all_fields : (P : Item → Type 0) (items : List Item) → All P items → All P (only_fields items)
all_fields P [] all = All-nil P
all_fields P (FieldItem type name ∷ items) all = All-cons P (FieldItem type name) (only_fields items) (All-head P (FieldItem type name) items all) (all_fields P items (All-tail P (FieldItem type name) items all))
all_fields P (AutoidItem size ∷ items) all = all_fields P items (All-tail P (AutoidItem size) items all)
all_fields P (IndexItem unique kind names name size ∷ items) all = all_fields P items (All-tail P (IndexItem unique kind names name size) items all)
all_fields P (EventItem kind name ∷ items) all = all_fields P items (All-tail P (EventItem kind name) items all)
all_fields P (UpdateItem field name ∷ items) all = all_fields P items (All-tail P (UpdateItem field name) items all)

all_autoids : (P : Item → Type 0) (items : List Item) → All P items → All P (only_autoids items)
all_autoids P [] all = All-nil P
all_autoids P (FieldItem type name ∷ items) all = all_autoids P items (All-tail P (FieldItem type name) items all)
all_autoids P (AutoidItem size ∷ items) all = All-cons P (AutoidItem size) (only_autoids items) (All-head P (AutoidItem size) items all) (all_autoids P items (All-tail P (AutoidItem size) items all))
all_autoids P (IndexItem unique kind names name size ∷ items) all = all_autoids P items (All-tail P (IndexItem unique kind names name size) items all)
all_autoids P (EventItem kind name ∷ items) all = all_autoids P items (All-tail P (EventItem kind name) items all)
all_autoids P (UpdateItem field name ∷ items) all = all_autoids P items (All-tail P (UpdateItem field name) items all)

all_indexes : (P : Item → Type 0) (items : List Item) → All P items → All P (only_indexes items)
all_indexes P [] all = All-nil P
all_indexes P (FieldItem type name ∷ items) all = all_indexes P items (All-tail P (FieldItem type name) items all)
all_indexes P (AutoidItem size ∷ items) all = all_indexes P items (All-tail P (AutoidItem size) items all)
all_indexes P (IndexItem unique kind names name size ∷ items) all = All-cons P (IndexItem unique kind names name size) (only_indexes items) (All-head P (IndexItem unique kind names name size) items all) (all_indexes P items (All-tail P (IndexItem unique kind names name size) items all))
all_indexes P (EventItem kind name ∷ items) all = all_indexes P items (All-tail P (EventItem kind name) items all)
all_indexes P (UpdateItem field name ∷ items) all = all_indexes P items (All-tail P (UpdateItem field name) items all)

all_events : (P : Item → Type 0) (items : List Item) → All P items → All P (only_events items)
all_events P [] all = All-nil P
all_events P (FieldItem type name ∷ items) all = all_events P items (All-tail P (FieldItem type name) items all)
all_events P (AutoidItem size ∷ items) all = all_events P items (All-tail P (AutoidItem size) items all)
all_events P (IndexItem unique kind names name size ∷ items) all = all_events P items (All-tail P (IndexItem unique kind names name size) items all)
all_events P (EventItem kind name ∷ items) all = All-cons P (EventItem kind name) (only_events items) (All-head P (EventItem kind name) items all) (all_events P items (All-tail P (EventItem kind name) items all))
all_events P (UpdateItem field name ∷ items) all = All-cons P (UpdateItem field name) (only_events items) (All-head P (UpdateItem field name) items all) (all_events P items (All-tail P (UpdateItem field name) items all))

pub all_sorted : (P : Item → Type 0) (items : List Item) → All P items → All P (sorted items)
all_sorted P items all =
    All-append P (only_fields items) (only_autoids items ++ (only_indexes items ++ only_events items)) (all_fields P items all)
    (All-append P (only_autoids items) (only_indexes items ++ only_events items) (all_autoids P items all)
    (All-append P (only_indexes items) (only_events items) (all_indexes P items all) (all_events P items all)))

-- ---- weights do not change

pub weight_one : (weight : Part → ℕ) (item : Item) (items : List Item) → sum_by weight (flat_map item_parts (item ∷ items)) ≡ sum_by weight (item_parts item) + sum_by weight (flat_map item_parts items)
weight_one weight item items = sum_by-append weight (item_parts item) (flat_map item_parts items)

four_weights : (weight : Part → ℕ) (items : List Item) → sum_by weight (flat_map item_parts (only_fields items)) + (sum_by weight (flat_map item_parts (only_autoids items)) + (sum_by weight (flat_map item_parts (only_indexes items)) + sum_by weight (flat_map item_parts (only_events items)))) ≡ sum_by weight (flat_map item_parts items)
four_weights weight [] = refl
four_weights weight (FieldItem type name ∷ items) =
    let all = weight_one weight (FieldItem type name) items in let own = weight_one weight (FieldItem type name) (only_fields items) in let others = four_weights weight items in omega arith
four_weights weight (AutoidItem size ∷ items) =
    let all = weight_one weight (AutoidItem size) items in let own = weight_one weight (AutoidItem size) (only_autoids items) in let others = four_weights weight items in omega arith
four_weights weight (IndexItem unique kind names name size ∷ items) =
    let all = weight_one weight (IndexItem unique kind names name size) items in let own = weight_one weight (IndexItem unique kind names name size) (only_indexes items) in let others = four_weights weight items in omega arith
four_weights weight (EventItem kind name ∷ items) =
    let all = weight_one weight (EventItem kind name) items in let own = weight_one weight (EventItem kind name) (only_events items) in let others = four_weights weight items in omega arith
four_weights weight (UpdateItem field name ∷ items) =
    let all = weight_one weight (UpdateItem field name) items in let own = weight_one weight (UpdateItem field name) (only_events items) in let others = four_weights weight items in omega arith

pub sorted_parts : (items : List Item) → flat_map item_parts (sorted items) ≡ flat_map item_parts (only_fields items) ++ (flat_map item_parts (only_autoids items) ++ (flat_map item_parts (only_indexes items) ++ flat_map item_parts (only_events items)))
sorted_parts items =
    flat_map-append item_parts (only_fields items) (only_autoids items ++ (only_indexes items ++ only_events items))
    ∙ ap (λ (xs : List Part). flat_map item_parts (only_fields items) ++ xs) (flat_map-append item_parts (only_autoids items) (only_indexes items ++ only_events items)
    ∙ ap (λ (xs : List Part). flat_map item_parts (only_autoids items) ++ xs) (flat_map-append item_parts (only_indexes items) (only_events items)))

pub sorted_weight : (weight : Part → ℕ) (items : List Item) → sum_by weight (flat_map item_parts (sorted items)) ≡ sum_by weight (flat_map item_parts items)
sorted_weight weight items =
    let fields = flat_map item_parts (only_fields items) in
    let autoids = flat_map item_parts (only_autoids items) in
    let indexes = flat_map item_parts (only_indexes items) in
    let events = flat_map item_parts (only_events items) in
    let whole = ap (sum_by weight) (sorted_parts items) in
    let a = sum_by-append weight fields (autoids ++ (indexes ++ events)) in
    let b = sum_by-append weight autoids (indexes ++ events) in
    let c = sum_by-append weight indexes events in
    let d = four_weights weight items in
    omega arith

pub sorted_counts : (items : List Item) → Counts (flat_map item_parts items) → Counts (flat_map item_parts (sorted items))
sorted_counts items counts = record {
  names = λ name. let same_weight = sorted_weight (weigh (has_name name)) items in let le = counts.names name in omega arith;
  members = let same_weight = sorted_weight (weigh is_member) items in let le = counts.members in omega arith;
  indexes = let same_weight = sorted_weight (weigh is_index_name) items in let le = counts.indexes in omega arith;
  events = let same_weight = sorted_weight (weigh is_event_name) items in let le = counts.events in omega arith;
  autoids = let same_weight = sorted_weight (weigh is_autoid) items in let le = counts.autoids in omega arith;
}

pub sorted_members : (items : List Item) → list_any is_member (flat_map item_parts items) ≡ true → list_any is_member (flat_map item_parts (sorted items)) ≡ true
sorted_members items some = by_test (list_any is_member (flat_map item_parts (sorted items))) refl where
  by_test : (b : Bool) → list_any is_member (flat_map item_parts (sorted items)) ≡ b → b ≡ true
  by_test true t = refl
  by_test false t =
      let none = none_counted is_member (flat_map item_parts (sorted items)) t in
      let same_weight = sorted_weight (weigh is_member) items in
      let nowhere : list_any is_member (flat_map item_parts items) ≡ false = any_from_count is_member (flat_map item_parts items) (omega arith) in
      absurd cc

-- ---- the types of fields do not change

fields_typed : (name : List ℕ) (items : List Item) → field_type name (only_fields items) ≡ field_type name items
fields_typed name [] = refl
fields_typed name (FieldItem type other ∷ items) = ap (λ (t : Option Part). cond (same other name) (Some type) t) (fields_typed name items)
fields_typed name (AutoidItem size ∷ items) = fields_typed name items
fields_typed name (IndexItem unique kind names other size ∷ items) = fields_typed name items
fields_typed name (EventItem kind other ∷ items) = fields_typed name items
fields_typed name (UpdateItem field other ∷ items) = fields_typed name items

autoids_untyped : (name : List ℕ) (items rest : List Item) → field_type name (only_autoids items ++ rest) ≡ field_type name rest
autoids_untyped name [] rest = refl
autoids_untyped name (FieldItem type other ∷ items) rest = autoids_untyped name items rest
autoids_untyped name (AutoidItem size ∷ items) rest = autoids_untyped name items rest
autoids_untyped name (IndexItem unique kind names other size ∷ items) rest = autoids_untyped name items rest
autoids_untyped name (EventItem kind other ∷ items) rest = autoids_untyped name items rest
autoids_untyped name (UpdateItem field other ∷ items) rest = autoids_untyped name items rest

indexes_untyped : (name : List ℕ) (items rest : List Item) → field_type name (only_indexes items ++ rest) ≡ field_type name rest
indexes_untyped name [] rest = refl
indexes_untyped name (FieldItem type other ∷ items) rest = indexes_untyped name items rest
indexes_untyped name (AutoidItem size ∷ items) rest = indexes_untyped name items rest
indexes_untyped name (IndexItem unique kind names other size ∷ items) rest = indexes_untyped name items rest
indexes_untyped name (EventItem kind other ∷ items) rest = indexes_untyped name items rest
indexes_untyped name (UpdateItem field other ∷ items) rest = indexes_untyped name items rest

events_untyped : (name : List ℕ) (items : List Item) → field_type name (only_events items) ≡ None
events_untyped name [] = refl
events_untyped name (FieldItem type other ∷ items) = events_untyped name items
events_untyped name (AutoidItem size ∷ items) = events_untyped name items
events_untyped name (IndexItem unique kind names other size ∷ items) = events_untyped name items
events_untyped name (EventItem kind other ∷ items) = events_untyped name items
events_untyped name (UpdateItem field other ∷ items) = events_untyped name items

sorted_typed : (name : List ℕ) (items : List Item) → field_type name (sorted items) ≡ field_type name items
sorted_typed name items =
    let others : field_type name (only_autoids items ++ (only_indexes items ++ only_events items)) ≡ None = autoids_untyped name items (only_indexes items ++ only_events items) ∙ indexes_untyped name items (only_events items) ∙ events_untyped name items in
    field_type_both name (only_fields items) (only_autoids items ++ (only_indexes items ++ only_events items))
    ∙ (λ i. or_else (fields_typed name items i) (others i)) ∙ or_none (field_type name items)

pub sorted_fine : (groups : List (List ℕ)) (items : List Item) → All (ItemFine (λ name. field_type name items) groups) items → All (ItemFine (λ name. field_type name (sorted items)) groups) (sorted items)
sorted_fine groups items fine =
    subst (λ (lookup : List ℕ → Option Part). All (ItemFine lookup groups) (sorted items)) (sym (λ i name. sorted_typed name items i)) (all_sorted (ItemFine (λ name. field_type name items) groups) items fine)

-- ---- places and names

pub one_on : (n : ℕ) → 1 + n ≡ suc n
one_on n = omega arith

pub low : (place count most : ℕ) → place ≤ count → count ≤ most → most ≤ 4294967295 → min place 4294967295 ≡ place
low place count most a b c = omega arith

first_group : (groups : List Group) (name : List ℕ) → list_any (λ group. same group.name name) groups ≡ true → name_of_group (slice_get groups (position_or_len (λ group. same group.name name) groups)) ≡ name
first_group [] name some = absurd cc
first_group (group ∷ groups) name some = by_test (same group.name name) refl (first_group groups name) where
  by_test : (b : Bool) → same group.name name ≡ b → (list_any (λ group. same group.name name) groups ≡ true → name_of_group (slice_get groups (position_or_len (λ group. same group.name name) groups)) ≡ name) → name_of_group (slice_get (group ∷ groups) (cond (not b) (1 + position_or_len (λ group. same group.name name) groups) 0)) ≡ name
  by_test true t others = (bytes_eq-Decides group.name name).0 t
  by_test false t others =
      let later : list_any (λ group. same group.name name) groups ≡ true = rw t at some in
      ap (λ (n : ℕ). name_of_group (slice_get (group ∷ groups) n)) (one_on (position_or_len (λ group. same group.name name) groups)) ∙ others later

first_field : (fields : List Field) (name : List ℕ) → list_any (λ field. same field.name name) fields ≡ true → name_of_field (slice_get fields (position_or_len (λ field. same field.name name) fields)) ≡ name
first_field [] name some = absurd cc
first_field (field ∷ fields) name some = by_test (same field.name name) refl (first_field fields name) where
  by_test : (b : Bool) → same field.name name ≡ b → (list_any (λ field. same field.name name) fields ≡ true → name_of_field (slice_get fields (position_or_len (λ field. same field.name name) fields)) ≡ name) → name_of_field (slice_get (field ∷ fields) (cond (not b) (1 + position_or_len (λ field. same field.name name) fields) 0)) ≡ name
  by_test true t others = (bytes_eq-Decides field.name name).0 t
  by_test false t others =
      let later : list_any (λ field. same field.name name) fields ≡ true = rw t at some in
      ap (λ (n : ℕ). name_of_field (slice_get (field ∷ fields) n)) (one_on (position_or_len (λ field. same field.name name) fields)) ∙ others later

pub group_found : (groups : List Group) (name : List ℕ) → length groups ≤ 64 → list_any (λ group. same group.name name) groups ≡ true → group_name groups (group_place groups name) ≡ name
unfolding group_name
group_found groups name few some =
    ap (λ (n : ℕ). name_of_group (slice_get groups n)) (low (position_or_len (λ group. same group.name name) groups) (length groups) 64 (prefix_len-le-length (λ group. not (same group.name name)) groups) few (omega arith)) ∙ first_group groups name some

pub field_found : (fields : List Field) (name : List ℕ) → length fields ≤ 32 → list_any (λ field. same field.name name) fields ≡ true → field_name fields (field_place fields name) ≡ name
unfolding field_name
field_found fields name few some =
    ap (λ (n : ℕ). name_of_field (slice_get fields n)) (low (position_or_len (λ field. same field.name name) fields) (length fields) 32 (prefix_len-le-length (λ field. not (same field.name name)) fields) few (omega arith)) ∙ first_field fields name some

-- a field whose type is known is there
pub typed_is_there : (groups : List Group) (name : List ℕ) (items : List Item) (ty : Part) → field_type name items ≡ Some ty → list_any (λ field. same field.name name) (flat_map (field_gives groups) items) ≡ true
typed_is_there groups name [] ty e = absurd cc
typed_is_there groups name (FieldItem type other ∷ items) ty e = by_test (same other name) refl (typed_is_there groups name items ty) where
  by_test : (b : Bool) → same other name ≡ b → (field_type name items ≡ Some ty → list_any (λ field. same field.name name) (flat_map (field_gives groups) items) ≡ true) → list_any (λ field. same field.name name) (flat_map (field_gives groups) (FieldItem type other ∷ items)) ≡ true
  by_test true t others = rw t refl
  by_test false t others = let later : field_type name items ≡ Some ty = rw t at e in let there = others later in rw (t, there) refl
typed_is_there groups name (AutoidItem size ∷ items) ty e = typed_is_there groups name items ty e
typed_is_there groups name (IndexItem unique kind names other size ∷ items) ty e = typed_is_there groups name items ty e
typed_is_there groups name (EventItem kind other ∷ items) ty e = typed_is_there groups name items ty e
typed_is_there groups name (UpdateItem field other ∷ items) ty e = typed_is_there groups name items ty e

-- there are no more fields than members
pub few_fields : (groups : List Group) (items : List Item) → length (flat_map (field_gives groups) items) ≤ sum_by (weigh is_member) (flat_map item_parts items)
unfolding is_member
few_fields groups [] = omega arith
few_fields groups (FieldItem type name ∷ items) =
    let others = few_fields groups items in
    let a = sum_by-cons (weigh is_member) type (parts.Member name ∷ flat_map item_parts items) in
    let b = sum_by-cons (weigh is_member) (parts.Member name) (flat_map item_parts items) in
    omega arith
few_fields groups (AutoidItem size ∷ items) = let others = few_fields groups items in let all = weight_one (weigh is_member) (AutoidItem size) items in omega arith
few_fields groups (IndexItem unique kind names name size ∷ items) = let others = few_fields groups items in let all = weight_one (weigh is_member) (IndexItem unique kind names name size) items in omega arith
few_fields groups (EventItem kind name ∷ items) = let others = few_fields groups items in let all = weight_one (weigh is_member) (EventItem kind name) items in omega arith
few_fields groups (UpdateItem field name ∷ items) = let others = few_fields groups items in let all = weight_one (weigh is_member) (UpdateItem field name) items in omega arith

-- ---- a field that a member names is there

known : (ty : Option Part) (opening : Part) (keys : List Part) (name : List ℕ) → key_fault ty opening keys name ≡ None → (t : Part) × (ty ≡ Some t)
known None opening keys name e = absurd cc
known (Some t) opening keys name e = (t, refl)

pub keys_known : (groups : List Group) (all : List Item) (opening : Part) (done names : List (List ℕ)) → KeysFine (λ name. field_type name all) opening done names → All (λ name. list_any (λ field. same field.name name) (flat_map (field_gives groups) all) ≡ true) names
keys_known groups all opening done [] fine = All-nil (λ (name : List ℕ). list_any (λ field. same field.name name) (flat_map (field_gives groups) all) ≡ true)
keys_known groups all opening done (name ∷ names) fine =
    let here = known (field_type name all) opening (key_parts done) name fine.0 in
    All-cons (λ (name : List ℕ). list_any (λ field. same field.name name) (flat_map (field_gives groups) all) ≡ true) name names (typed_is_there groups name all here.0 here.1) (keys_known groups all opening (done ++ name ∷ []) names fine.1)

known_update : (ty : Option Part) → update_cause ty ≡ None → (t : Part) × (ty ≡ Some t)
known_update None e = absurd cc
known_update (Some t) e = (t, refl)

pub update_known : (groups : List Group) (all : List Item) (field : List ℕ) → update_cause (field_type field all) ≡ None → list_any (λ f. same f.name field) (flat_map (field_gives groups) all) ≡ true
update_known groups all field fine = let here = known_update (field_type field all) fine in typed_is_there groups field all here.0 here.1
