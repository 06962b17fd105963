-- The members of one struct or class keep the rules in one order just where they do in another.
use Rattle.std.proofs.Common.{◌≡◌, ℕ, ◌+◌, ◌<◌, ◌≤◌, Bool, true, false, cond, List, [], ◌∷◌, ◌++◌, Option, Some, None, refl, sym, ap, ◌∙◌, arith, subst, append_assoc}
use Rattle.std.specs.Prelude.{if◌then◌else◌, nat_le}
use Rattle.std.specs.List.{flat_map, All, list_any, sum_by, count_by}
use Rattle.std.proofs.lemmas.Bool.Decides.{nat_tests}
use Rattle.std.proofs.lemmas.Slice.Eq.{bytes_eq-Decides}
use Rattle.std.proofs.lemmas.List.{append-nil}
use Rattle.std.proofs.lemmas.List.Elements.{All-head, All-tail, All-cons, All-nil, All-append}
use Rattle.std.proofs.lemmas.List.Sums.{sum_by-append, sum_by-cons}
use Rattle.std.proofs.lemmas.Grind.{flat_map-append}
use Rattle.rdb_schema.specs.declared.schema.IndexKind.{IndexKind}
use Rattle.rdb_schema.specs.declared.schema.EventKind.TheVariants as events
use Rattle.rdb_schema.specs.declared.syntax.Part.{Part}
use Rattle.rdb_schema.specs.declared.syntax.Part.TheVariants as parts
use Rattle.rdb_schema.specs.declared.syntax.DdlCause.TheVariants.{Unknown, Twice, BadKey, TooMany}
use Rattle.rdb_schema.specs.Rules.{same, is_head, is_member, is_index_name, is_event_name, is_autoid, is_key, has_name, type_of, opening_of, is_unique_rtree, Before, is_among, named_cause, name_cause, autoid_cause, index_cause, update_cause}
use Rattle.rdb_schema.proofs.Declaring.{Lacks, lacks_one, lacks_nil, StartsAnew}
use Rattle.rdb_schema.proofs.Items.{Item, FieldItem, AutoidItem, IndexItem, EventItem, UpdateItem, key_parts, item_parts, IsGoodItem}
use Rattle.rdb_schema.proofs.ItemMeanings.{keys_are, index_end_lacks, item_lacks_heads}
use Rattle.rdb_schema.proofs.Keeping.{Keeps, standing, keeps_after, weigh, Counts, any_from_count, field_type, type_found, KeysFine, opening_is, keys_fine, keys_keep}

-- ---- what each member keeps, in whatever order

-- the struct that a type names is declared
abbrev pub TypeFine : List (List ℕ) → Part → Type 0
TypeFine groups (parts.Named name vector) = is_among name groups ≡ true
TypeFine groups _ = Unit {0}

abbrev pub ItemFine : (List ℕ → Option Part) → List (List ℕ) → Item → Type 0
ItemFine lookup groups (FieldItem type name) = TypeFine groups type
ItemFine lookup groups (AutoidItem size) = Unit {0}
ItemFine lookup groups (IndexItem unique kind names name size) = KeysFine lookup (parts.Index unique kind) [] names × (is_unique_rtree (Some (parts.Index unique kind)) ≡ false)
ItemFine lookup groups (EventItem kind name) = Unit {0}
ItemFine lookup groups (UpdateItem field name) = update_cause (lookup field) ≡ None

among_of : (b : Bool) → (if b then None else Some Unknown) ≡ None → b ≡ true
among_of true e = refl
among_of false e = absurd cc

rtree_of : (a b c : Bool) → (if a then Some Twice else (if b then Some BadKey else (if c then Some TooMany else None))) ≡ None → b ≡ false
rtree_of true b c e = absurd cc
rtree_of false true c e = absurd cc
rtree_of false false c e = refl

no_key_there : (unique : Bool) (kind : IndexKind) → is_key (parts.Index unique kind) ≡ false
unfolding is_key
no_key_there unique kind = refl

-- what a rule finds from a key's place
key_found : (front items : List Item) (unique : Bool) (kind : IndexKind) (all_names : List (List ℕ)) (ending : List ℕ) (size : Option ℕ) (tail : List Part) → All IsGoodItem front → All IsGoodItem items → StartsAnew tail
    → (done names : List (List ℕ)) (name : List ℕ) → type_of name ((flat_map item_parts front ++ parts.Index unique kind ∷ []) ++ key_parts done) (key_parts names ++ (parts.IndexName ending size ∷ (flat_map item_parts items ++ tail))) ≡ field_type name (front ++ IndexItem unique kind all_names ending size ∷ items)
unfolding is_member is_head
key_found front items unique kind all_names ending size tail good_front good anew done names name =
    let xs = parts.Index unique kind ∷ key_parts done in
    let ys = key_parts names ++ parts.IndexName ending size ∷ [] in
    let found = type_found name front items (IndexItem unique kind all_names ending size) xs ys tail good_front good refl
    (lacks_one is_member (parts.Index unique kind) (key_parts done) refl (keys_are is_member (λ name. refl) done)) (index_end_lacks is_member (λ name. refl) (λ name size. refl) names ending size) (index_end_lacks is_head (λ name. refl) (λ name size. refl) names ending size) anew in
    ap (λ (front : List Part). type_of name front (key_parts names ++ (parts.IndexName ending size ∷ (flat_map item_parts items ++ tail)))) (append_assoc (flat_map item_parts front) (parts.Index unique kind ∷ []) (key_parts done))
    ∙ ap (type_of name (flat_map item_parts front ++ xs)) (sym (append_assoc (key_parts names) (parts.IndexName ending size ∷ []) (flat_map item_parts items ++ tail))) ∙ found

-- what a rule finds from an update's place
update_found : (front items : List Item) (field name : List ℕ) (tail : List Part) → All IsGoodItem front → All IsGoodItem items → StartsAnew tail
    → type_of field (flat_map item_parts front ++ parts.Event events.Update ∷ []) (parts.EventName name ∷ (flat_map item_parts items ++ tail)) ≡ field_type field (front ++ UpdateItem field name ∷ items)
unfolding is_member is_head
update_found front items field name tail good_front good anew =
    type_found field front items (UpdateItem field name) (parts.Event events.Update ∷ []) (parts.EventName name ∷ []) tail good_front good refl (lacks_one is_member (parts.Event events.Update) [] refl (lacks_nil is_member)) (lacks_one is_member (parts.EventName name) [] refl (lacks_nil is_member)) (lacks_one is_head (parts.EventName name) [] refl (lacks_nil is_head)) anew

-- ---- from the rules

keys_lack_heads : (names : List (List ℕ)) → Lacks is_head (key_parts names)
unfolding is_head
keys_lack_heads names = keys_are is_head (λ name. refl) names

item_fine : (groups classes : List (List ℕ)) (front items : List Item) (item : Item) (tail : List Part) → All IsGoodItem front → All IsGoodItem items → IsGoodItem item → StartsAnew tail
    → Keeps (standing groups classes (flat_map item_parts front)) (item_parts item ++ (flat_map item_parts items ++ tail)) → ItemFine (λ name. field_type name (front ++ item ∷ items)) groups item
item_fine groups classes front items (FieldItem (parts.Plain ty vector) name) tail good_front good this anew keeps = tt
item_fine groups classes front items (FieldItem (parts.Named named vector) name) tail good_front good this anew keeps = among_of (is_among named groups) keeps.0
item_fine groups classes front items (FieldItem type name) tail good_front good this anew keeps = absurd this.0
item_fine groups classes front items (AutoidItem size) tail good_front good this anew keeps = tt
item_fine groups classes front items (IndexItem unique kind names name size) tail good_front good this anew keeps =
    let item = IndexItem unique kind names name size in
    let opening = parts.Index unique kind in
    let fr = flat_map item_parts front in
    let rest = flat_map item_parts items ++ tail in
    let inside : Keeps (standing groups classes ((fr ++ opening ∷ []) ++ [])) (key_parts names ++ (parts.IndexName name size ∷ rest)) =
    subst (λ (front : List Part). Keeps (standing groups classes front) (key_parts names ++ (parts.IndexName name size ∷ rest))) (sym (append-nil (fr ++ opening ∷ [])))
    (subst (λ (xs : List Part). Keeps (standing groups classes (fr ++ opening ∷ [])) xs) (append_assoc (key_parts names) (parts.IndexName name size ∷ []) rest) keeps.1) in
    let fine = keys_fine (λ name. field_type name (front ++ item ∷ items)) groups classes fr opening [] names (parts.IndexName name size ∷ rest) (no_key_there unique kind) (key_found front items unique kind names name size tail good_front good anew) inside in
    let ending : Keeps (standing groups classes ((fr ++ opening ∷ []) ++ key_parts names)) (parts.IndexName name size ∷ rest) = keeps_after groups classes (fr ++ opening ∷ []) (key_parts names) (parts.IndexName name size ∷ rest) (keys_lack_heads names)
    (subst (λ (xs : List Part). Keeps (standing groups classes (fr ++ opening ∷ [])) xs) (append_assoc (key_parts names) (parts.IndexName name size ∷ []) rest) keeps.1) in
    let opens : opening_of ((fr ++ opening ∷ []) ++ key_parts names) ≡ Some opening = opening_is fr opening names (no_key_there unique kind) in
    (fine, sym (ap is_unique_rtree opens) ∙ rtree_of (list_any (has_name name) ((fr ++ opening ∷ []) ++ key_parts names)) (is_unique_rtree (opening_of ((fr ++ opening ∷ []) ++ key_parts names))) (nat_le 8 (count_by is_index_name ((fr ++ opening ∷ []) ++ key_parts names))) ending.0)
item_fine groups classes front items (EventItem kind name) tail good_front good this anew keeps = tt
item_fine groups classes front items (UpdateItem field name) tail good_front good this anew keeps =
    sym (ap update_cause (update_found front items field name tail good_front good anew)) ∙ keeps.1.0

flat_one : (front : List Item) (item : Item) → flat_map item_parts (front ++ item ∷ []) ≡ flat_map item_parts front ++ item_parts item
flat_one front item = flat_map-append item_parts front (item ∷ []) ∙ ap (λ (xs : List Part). flat_map item_parts front ++ xs) (append-nil (item_parts item))

one_good : (item : Item) → IsGoodItem item → All IsGoodItem (item ∷ [])
one_good item good = All-cons IsGoodItem item [] good (All-nil IsGoodItem)

fine_from : (groups classes : List (List ℕ)) (front items : List Item) (tail : List Part) → All IsGoodItem front → All IsGoodItem items → StartsAnew tail
    → Keeps (standing groups classes (flat_map item_parts front)) (flat_map item_parts items ++ tail) → All (ItemFine (λ name. field_type name (front ++ items)) groups) items
fine_from groups classes front [] tail good_front good anew keeps = All-nil (ItemFine (λ name. field_type name (front ++ [])) groups)
fine_from groups classes front (item ∷ items) tail good_front good anew keeps =
    let this = All-head IsGoodItem item items good in
    let later = All-tail IsGoodItem item items good in
    let line = subst (λ (xs : List Part). Keeps (standing groups classes (flat_map item_parts front)) xs) (append_assoc (item_parts item) (flat_map item_parts items) tail) keeps in
    let here = item_fine groups classes front items item tail good_front later this anew line in
    let after = keeps_after groups classes (flat_map item_parts front) (item_parts item) (flat_map item_parts items ++ tail) (item_lacks_heads item this) line in
    let next = subst (λ (front : List Part). Keeps (standing groups classes front) (flat_map item_parts items ++ tail)) (sym (flat_one front item)) after in
    let others = fine_from groups classes (front ++ item ∷ []) items tail (All-append IsGoodItem front (item ∷ []) good_front (one_good item this)) later anew next in
    let same_items : (front ++ item ∷ []) ++ items ≡ front ++ item ∷ items = append_assoc front (item ∷ []) items in
    All-cons (ItemFine (λ name. field_type name (front ++ item ∷ items)) groups) item items here (subst (λ (all : List Item). All (ItemFine (λ name. field_type name all) groups) items) same_items others)

pub fine_items : (groups classes : List (List ℕ)) (items : List Item) (tail : List Part) → All IsGoodItem items → StartsAnew tail → Keeps (standing groups classes []) (flat_map item_parts items ++ tail) → All (ItemFine (λ name. field_type name items) groups) items
fine_items groups classes items tail good anew keeps = fine_from groups classes [] items tail (All-nil IsGoodItem) good anew keeps

-- ---- to the rules

-- a part with what stands before and after it weighs no more than all
one_weight : (weight : Part → ℕ) (most : ℕ) (all front : List Part) (part : Part) (rest : List Part) → all ≡ front ++ part ∷ rest → sum_by weight all ≤ most → sum_by weight front + weight part ≤ most
one_weight weight most all front part rest is le =
    let whole : sum_by weight all ≡ sum_by weight front + sum_by weight (part ∷ rest) = ap (sum_by weight) is ∙ sum_by-append weight front (part ∷ rest) in
    let cons = sum_by-cons weight part rest in
    omega arith

same_name : (name : List ℕ) → same name name ≡ true
same_name name = (bytes_eq-Decides name name).1 refl

none_before : (all front : List Part) (part : Part) (rest : List Part) (name : List ℕ) → all ≡ front ++ part ∷ rest → Counts all → has_name name part ≡ true → list_any (has_name name) front ≡ false
none_before all front part rest name is counts named =
    let one : weigh (has_name name) part ≡ 1 = ap (λ (b : Bool). cond b 1 0) named in
    let le = one_weight (weigh (has_name name)) 1 all front part rest is (counts.names name) in
    any_from_count (has_name name) front (omega arith)

room_before : (kind : Part → Bool) (most : ℕ) (all front : List Part) (part : Part) (rest : List Part) → all ≡ front ++ part ∷ rest → sum_by (weigh kind) all ≤ most → kind part ≡ true → nat_le most (count_by kind front) ≡ false
room_before kind most all front part rest is le this =
    let one : weigh kind part ≡ 1 = ap (λ (b : Bool). cond b 1 0) this in
    not_yet most (count_by kind front) (let few = one_weight (weigh kind) most all front part rest is le in omega arith)
  where
    not_yet : (most count : ℕ) → count < most → nat_le most count ≡ false
    not_yet most count lt = grind (arith, nat_tests)

member_keeps : (all front : List Part) (rest : List Part) (name : List ℕ) → all ≡ front ++ parts.Member name ∷ rest → Counts all → name_cause front name is_member 32 ≡ None
unfolding has_name is_member
member_keeps all front rest name is counts =
    let free = none_before all front (parts.Member name) rest name is counts (same_name name) in
    let room = room_before is_member 32 all front (parts.Member name) rest is counts.members refl in
    (λ i. if free i then Some Twice else (if room i then Some TooMany else None))

event_keeps : (all front : List Part) (rest : List Part) (name : List ℕ) → all ≡ front ++ parts.EventName name ∷ rest → Counts all → name_cause front name is_event_name 8 ≡ None
unfolding has_name is_event_name
event_keeps all front rest name is counts =
    let free = none_before all front (parts.EventName name) rest name is counts (same_name name) in
    let room = room_before is_event_name 8 all front (parts.EventName name) rest is counts.events refl in
    (λ i. if free i then Some Twice else (if room i then Some TooMany else None))

index_keeps : (all front : List Part) (rest : List Part) (name : List ℕ) (size : Option ℕ) → all ≡ front ++ parts.IndexName name size ∷ rest → Counts all → is_unique_rtree (opening_of front) ≡ false → index_cause front name ≡ None
unfolding has_name is_index_name
index_keeps all front rest name size is counts rtree =
    let free = none_before all front (parts.IndexName name size) rest name is counts (same_name name) in
    let room = room_before is_index_name 8 all front (parts.IndexName name size) rest is counts.indexes refl in
    (λ i. if free i then Some Twice else (if rtree i then Some BadKey else (if room i then Some TooMany else None)))

autoid_keeps : (all front : List Part) (rest : List Part) (size : Option ℕ) → all ≡ front ++ parts.Autoid size ∷ rest → Counts all → autoid_cause front ≡ None
unfolding is_autoid
autoid_keeps all front rest size is counts =
    let le = one_weight (weigh is_autoid) 1 all front (parts.Autoid size) rest is counts.autoids in
    let free = any_from_count is_autoid front (omega arith) in
    (λ i. if free i then Some Twice else None)

among_keeps : (before : Before) (name : List ℕ) → is_among name before.groups ≡ true → named_cause before name ≡ None
among_keeps before name among = λ i. if among i then None else Some Unknown

-- one member, where what stands after it keeps the rules
item_keeps : (groups classes : List (List ℕ)) (front items : List Item) (item : Item) (tail : List Part) → All IsGoodItem front → All IsGoodItem items → IsGoodItem item → StartsAnew tail → Counts (flat_map item_parts (front ++ item ∷ items)) → ItemFine (λ name. field_type name (front ++ item ∷ items)) groups item
    → Keeps (standing groups classes (flat_map item_parts front ++ item_parts item)) (flat_map item_parts items ++ tail) → Keeps (standing groups classes (flat_map item_parts front)) (item_parts item ++ (flat_map item_parts items ++ tail))
item_keeps groups classes front items item tail good_front good this anew counts fine later = by_item item this counts fine later where
  fr : List Part
  fr = flat_map item_parts front

  its : List Part
  its = flat_map item_parts items

  whole : (item : Item) → flat_map item_parts (front ++ item ∷ items) ≡ fr ++ (item_parts item ++ its)
  whole item = flat_map-append item_parts front (item ∷ items)

  type_then : (item : Item) (type : Part) (name : List ℕ) → item_parts item ≡ type ∷ parts.Member name ∷ [] → Counts (flat_map item_parts (front ++ item ∷ items)) → name_cause (fr ++ type ∷ []) name is_member 32 ≡ None
  type_then item type name is counts =
      member_keeps (flat_map item_parts (front ++ item ∷ items)) (fr ++ type ∷ []) its name (whole item ∙ ap (λ (xs : List Part). fr ++ (xs ++ its)) is ∙ sym (append_assoc fr (type ∷ []) (parts.Member name ∷ its))) counts

  two : (a b : Part) → fr ++ a ∷ b ∷ [] ≡ (fr ++ a ∷ []) ++ b ∷ []
  two a b = sym (append_assoc fr (a ∷ []) (b ∷ []))

  three : (a b c : Part) → fr ++ a ∷ b ∷ c ∷ [] ≡ ((fr ++ a ∷ []) ++ b ∷ []) ++ c ∷ []
  three a b c = sym (append_assoc fr (a ∷ b ∷ []) (c ∷ [])) ∙ ap (λ (xs : List Part). xs ++ c ∷ []) (two a b)

  by_item : (item : Item) → IsGoodItem item → Counts (flat_map item_parts (front ++ item ∷ items)) → ItemFine (λ name. field_type name (front ++ item ∷ items)) groups item → Keeps (standing groups classes (fr ++ item_parts item)) (its ++ tail) → Keeps (standing groups classes fr) (item_parts item ++ (its ++ tail))
  by_item (FieldItem (parts.Plain ty vector) name) this counts fine later =
      (refl, (type_then (FieldItem (parts.Plain ty vector) name) (parts.Plain ty vector) name refl counts, subst (λ (front : List Part). Keeps (standing groups classes front) (its ++ tail)) (two (parts.Plain ty vector) (parts.Member name)) later))
  by_item (FieldItem (parts.Named named vector) name) this counts fine later =
      (among_keeps (standing groups classes fr) named fine, (type_then (FieldItem (parts.Named named vector) name) (parts.Named named vector) name refl counts, subst (λ (front : List Part). Keeps (standing groups classes front) (its ++ tail)) (two (parts.Named named vector) (parts.Member name)) later))
  by_item (FieldItem type name) this counts fine later = absurd this.0
  by_item (AutoidItem size) this counts fine later = (autoid_keeps (flat_map item_parts (front ++ AutoidItem size ∷ items)) fr its size (whole (AutoidItem size)) counts, later)
  by_item (IndexItem unique kind names name size) this counts fine later =
      let item = IndexItem unique kind names name size in
      let opening = parts.Index unique kind in
      let ending = parts.IndexName name size in
      let inside = (fr ++ opening ∷ []) ++ key_parts names in
      let line : fr ++ item_parts item ≡ inside ++ ending ∷ [] = sym (append_assoc fr (opening ∷ []) (key_parts names ++ ending ∷ [])) ∙ sym (append_assoc (fr ++ opening ∷ []) (key_parts names) (ending ∷ [])) in
      let all : flat_map item_parts (front ++ item ∷ items) ≡ inside ++ ending ∷ its = whole item ∙ sym (append_assoc fr (item_parts item) its) ∙ ap (λ (xs : List Part). xs ++ its) line ∙ append_assoc inside (ending ∷ []) its in
      let rtree : is_unique_rtree (opening_of inside) ≡ false = ap is_unique_rtree (opening_is fr opening names (no_key_there unique kind)) ∙ fine.1 in
      let last : Keeps (standing groups classes inside) (ending ∷ (its ++ tail)) = (index_keeps (flat_map item_parts (front ++ item ∷ items)) inside its name size all counts rtree, subst (λ (front : List Part). Keeps (standing groups classes front) (its ++ tail)) line later) in
      let keys = keys_keep (λ name. field_type name (front ++ item ∷ items)) groups classes fr opening [] names (ending ∷ (its ++ tail)) (no_key_there unique kind) (key_found front items unique kind names name size tail good_front good anew) fine.0 last in
      let opened : Keeps (standing groups classes (fr ++ opening ∷ [])) (key_parts names ++ (ending ∷ (its ++ tail))) = subst (λ (front : List Part). Keeps (standing groups classes front) (key_parts names ++ (ending ∷ (its ++ tail)))) (append-nil (fr ++ opening ∷ [])) keys in
      (refl, subst (λ (xs : List Part). Keeps (standing groups classes (fr ++ opening ∷ [])) xs) (sym (append_assoc (key_parts names) (ending ∷ []) (its ++ tail))) opened)
  by_item (EventItem kind name) this counts fine later =
      let item = EventItem kind name in (
        refl,
        (
          event_keeps (flat_map item_parts (front ++ item ∷ items)) (fr ++ parts.Event kind ∷ []) its name (whole item ∙ sym (append_assoc fr (parts.Event kind ∷ []) (parts.EventName name ∷ its))) counts,
          subst (λ (front : List Part). Keeps (standing groups classes front) (its ++ tail)) (two (parts.Event kind) (parts.EventName name)) later,
        ),
      )
  by_item (UpdateItem field name) this counts fine later =
      let item = UpdateItem field name in
      let a = parts.Event events.Update in
      let b = parts.Update field in
      let c = parts.EventName name in
      let all : flat_map item_parts (front ++ item ∷ items) ≡ ((fr ++ a ∷ []) ++ b ∷ []) ++ c ∷ its = whole item ∙ sym (append_assoc fr (a ∷ b ∷ []) (c ∷ its)) ∙ ap (λ (xs : List Part). xs ++ c ∷ its) (two a b) in (
        refl,
        (
          ap update_cause (update_found front items field name tail good_front good anew) ∙ fine,
          (
            event_keeps (flat_map item_parts (front ++ item ∷ items)) ((fr ++ a ∷ []) ++ b ∷ []) its name all counts,
            subst (λ (front : List Part). Keeps (standing groups classes front) (its ++ tail)) (three a b c) later,
          ),
        ),
      )

keeps_from : (groups classes : List (List ℕ)) (front items : List Item) (tail : List Part) → All IsGoodItem front → All IsGoodItem items → StartsAnew tail → Counts (flat_map item_parts (front ++ items)) → All (ItemFine (λ name. field_type name (front ++ items)) groups) items
    → ((front : List Part) → Keeps (standing groups classes front) tail) → Keeps (standing groups classes (flat_map item_parts front)) (flat_map item_parts items ++ tail)
keeps_from groups classes front [] tail good_front good anew counts fine more = more (flat_map item_parts front)
keeps_from groups classes front (item ∷ items) tail good_front good anew counts fine more =
    let this = All-head IsGoodItem item items good in
    let later = All-tail IsGoodItem item items good in
    let same_items : front ++ item ∷ items ≡ (front ++ item ∷ []) ++ items = sym (append_assoc front (item ∷ []) items) in
    let here = All-head (ItemFine (λ name. field_type name (front ++ item ∷ items)) groups) item items fine in
    let others = subst (λ (all : List Item). All (ItemFine (λ name. field_type name all) groups) items) same_items (All-tail (ItemFine (λ name. field_type name (front ++ item ∷ items)) groups) item items fine) in
    let next = keeps_from groups classes (front ++ item ∷ []) items tail (All-append IsGoodItem front (item ∷ []) good_front (one_good item this)) later anew (subst (λ (all : List Item). Counts (flat_map item_parts all)) same_items counts) others more in
    let after = subst (λ (front : List Part). Keeps (standing groups classes front) (flat_map item_parts items ++ tail)) (flat_one front item) next in
    subst (λ (xs : List Part). Keeps (standing groups classes (flat_map item_parts front)) xs) (sym (append_assoc (item_parts item) (flat_map item_parts items) tail)) (item_keeps groups classes front items item tail good_front later this anew counts here after)

pub keeps_items : (groups classes : List (List ℕ)) (items : List Item) (tail : List Part) → All IsGoodItem items → StartsAnew tail → Counts (flat_map item_parts items) → All (ItemFine (λ name. field_type name items) groups) items
    → ((front : List Part) → Keeps (standing groups classes front) tail) → Keeps (standing groups classes []) (flat_map item_parts items ++ tail)
keeps_items groups classes items tail good anew counts fine more = keeps_from groups classes [] items tail (All-nil IsGoodItem) good anew counts fine more
