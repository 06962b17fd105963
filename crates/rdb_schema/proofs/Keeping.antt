-- The rules, kept by members in any order.
use Rattle.std.proofs.Common.{◌≡◌, ℕ, zero, suc, ◌+◌, ◌-◌, ◌<◌, ◌≤◌, Bool, true, false, cond, leb, List, [], ◌∷◌, ◌++◌, length, take, drop, get_or, Option, Some, None, refl, sym, ap, ◌∙◌, arith, subst, append_assoc, length-append, slice_get}
use Rattle.std.specs.Prelude.{fold, if◌then◌else◌, nat_le}
use Rattle.std.specs.List.{flat_map, All, list_any, sum_by, count_by, suffix_len}
use Rattle.std.proofs.lemmas.Bool.Decides.{nat_tests}
use Rattle.std.proofs.lemmas.Slice.Eq.{bytes_eq-Decides}
use Rattle.std.proofs.lemmas.List.{append-nil}
use Rattle.std.proofs.lemmas.List.Elements.{All-head, All-tail, All-cons, All-nil}
use Rattle.std.proofs.lemmas.List.Sums.{sum_by_push, sum_by-cons, suffix_len_is}
use Rattle.std.proofs.lemmas.List.{get_or_append_left, get_or-append_right}
use Rattle.std.proofs.lemmas.Option.{slice_get-get_or}
use Rattle.std.proofs.Math.Seq.{take-append_seam, drop-append_seam, get_or-append_seam}
use Rattle.rdb_schema.specs.declared.schema.IndexKind.{IndexKind}
use Rattle.rdb_schema.specs.declared.syntax.Part.{Part}
use Rattle.rdb_schema.specs.declared.syntax.Part.TheVariants as parts
use Rattle.rdb_schema.specs.declared.syntax.DdlCause.{DdlCause}
use Rattle.rdb_schema.specs.declared.syntax.DdlCause.TheVariants.{Unknown, Twice, BadKey, TooMany}
use Rattle.rdb_schema.specs.Rules.{same, is_head, is_member, is_index_name, is_event_name, is_autoid, is_key, has_name, body_of, is_field, begins_with_field, type_in, or_else, type_of, keys_at, keys_of, opening_of, breaks_key, is_unique_rtree, Before, key_cause, cause_of, passed, cause_of_some, BreaksNoRule}
use Rattle.rdb_schema.proofs.Declaring.{Lacks, lacks_one, lacks_nil, lacks_both, StartsAnew, body_is}
use Rattle.rdb_schema.proofs.Items.{Item, FieldItem, AutoidItem, IndexItem, EventItem, UpdateItem, key_parts, item_parts, IsGoodItem}
use Rattle.rdb_schema.proofs.ItemMeanings.{index_end_lacks, items_lack_heads}

-- ---- the rules one part after another

abbrev pub Keeps : Before → List Part → Type 0
Keeps before [] = Unit {0}
Keeps before (part ∷ rest) = (cause_of before part rest ≡ None) × Keeps (passed before part) rest

keeps_from : (before : Before) (xs : List Part) → ((at : ℕ) → at < length xs → cause_of_some (fold passed before (take at xs)) (slice_get xs at) (drop (at + 1) xs) ≡ None) → Keeps before xs
keeps_from before [] h = tt
keeps_from before (part ∷ rest) h = (
  h 0 (omega arith),
  keeps_from (passed before part) rest (λ at lt.
      let same_place : suc at + 1 ≡ suc (at + 1) = omega arith in
      subst (λ (n : ℕ). cause_of_some (fold passed (passed before part) (take at rest)) (slice_get rest at) (drop n (part ∷ rest)) ≡ None) same_place (h (suc at) (omega arith))),
)

rule_from : (before : Before) (xs : List Part) → Keeps before xs → (at : ℕ) → at < length xs → cause_of_some (fold passed before (take at xs)) (slice_get xs at) (drop (at + 1) xs) ≡ None
rule_from before [] keeps at lt = absurd (omega arith)
rule_from before (part ∷ rest) keeps zero lt = keeps.0
rule_from before (part ∷ rest) keeps (suc at) lt =
    let same_place : suc (at + 1) ≡ suc at + 1 = omega arith in
    subst (λ (n : ℕ). cause_of_some (fold passed (passed before part) (take at rest)) (slice_get rest at) (drop n (part ∷ rest)) ≡ None) same_place (rule_from (passed before part) rest keeps.1 at (omega arith))

abbrev pub nothing : Before
nothing = record { groups = []; classes = []; front = [] }

pub keeps_all : (syntax : List Part) → BreaksNoRule syntax → Keeps nothing syntax
keeps_all syntax h = keeps_from nothing syntax h

pub breaks_none : (syntax : List Part) → Keeps nothing syntax → BreaksNoRule syntax
breaks_none syntax keeps = rule_from nothing syntax keeps

abbrev pub standing : List (List ℕ) → List (List ℕ) → List Part → Before
standing groups classes front = record { groups = groups; classes = classes; front = front }

pub passed_on : (before : Before) (part : Part) → is_head part ≡ false → passed before part ≡ standing before.groups before.classes (before.front ++ part ∷ [])
unfolding is_head
passed_on before (parts.Struct name) e = absurd cc
passed_on before (parts.Class name) e = absurd cc
passed_on before part e = refl

-- what is left once some members are passed
pub keeps_after : (groups classes : List (List ℕ)) (front xs rest : List Part) → Lacks is_head xs → Keeps (standing groups classes front) (xs ++ rest) → Keeps (standing groups classes (front ++ xs)) rest
keeps_after groups classes front [] rest lacks keeps = subst (λ (front : List Part). Keeps (standing groups classes front) rest) (sym (append-nil front)) keeps
keeps_after groups classes front (part ∷ xs) rest lacks keeps =
    let further = subst (λ (before : Before). Keeps before (xs ++ rest)) (passed_on (standing groups classes front) part (All-head (λ (part : Part). is_head part ≡ false) part xs lacks)) keeps.1 in
    subst (λ (front : List Part). Keeps (standing groups classes front) rest) (append_assoc front (part ∷ []) xs) (keeps_after groups classes (front ++ part ∷ []) xs rest (All-tail (λ (part : Part). is_head part ≡ false) part xs lacks) further)

-- ---- counts

abbrev pub weigh : {X : Type 0} → (X → Bool) → X → ℕ
weigh kind x = cond (kind x) 1 0

bounded : (weight : Part → ℕ) (most : ℕ) → ((before : Before) (part : Part) (rest : List Part) → cause_of before part rest ≡ None → sum_by weight before.front ≤ most → sum_by weight (before.front ++ part ∷ []) ≤ most)
    → (groups classes : List (List ℕ)) (front xs tail : List Part) → Lacks is_head xs → Keeps (standing groups classes front) (xs ++ tail) → sum_by weight front ≤ most → sum_by weight (front ++ xs) ≤ most
bounded weight most step groups classes front [] tail lacks keeps le = subst (λ (front : List Part). sum_by weight front ≤ most) (sym (append-nil front)) le
bounded weight most step groups classes front (part ∷ xs) tail lacks keeps le =
    let further = subst (λ (before : Before). Keeps before (xs ++ tail)) (passed_on (standing groups classes front) part (All-head (λ (part : Part). is_head part ≡ false) part xs lacks)) keeps.1 in
    let here = step (standing groups classes front) part (xs ++ tail) keeps.0 le in
    subst (λ (front : List Part). sum_by weight front ≤ most) (append_assoc front (part ∷ []) xs) (bounded weight most step groups classes (front ++ part ∷ []) xs tail (All-tail (λ (part : Part). is_head part ≡ false) part xs lacks) further here)

-- a part that weighs nothing
weightless : (weight : Part → ℕ) (most : ℕ) (front : List Part) (part : Part) → weight part ≡ 0 → sum_by weight front ≤ most → sum_by weight (front ++ part ∷ []) ≤ most
weightless weight most front part none le = let push = sum_by_push weight front part in omega arith

pub none_counted : {X : Type 0} (kind : X → Bool) (xs : List X) → list_any kind xs ≡ false → sum_by (weigh kind) xs ≡ 0
none_counted kind [] e = refl
none_counted kind (x ∷ xs) e = by_test (kind x) refl (λ later. none_counted kind xs later) where
  by_test : (b : Bool) → kind x ≡ b → (list_any kind xs ≡ false → sum_by (weigh kind) xs ≡ 0) → sum_by (weigh kind) (x ∷ xs) ≡ 0
  by_test true t others = let whole : list_any kind (x ∷ xs) ≡ true = rw t refl in absurd cc
  by_test false t others =
      let later : list_any kind xs ≡ false = rw t at e in
      let none = others later in
      let here : weigh kind x ≡ 0 = ap (λ (b : Bool). cond b 1 0) t in
      let whole = sum_by-cons (weigh kind) x xs in
      omega arith

pub any_from_count : {X : Type 0} (kind : X → Bool) (xs : List X) → sum_by (weigh kind) xs ≡ 0 → list_any kind xs ≡ false
any_from_count kind [] e = refl
any_from_count kind (x ∷ xs) e = by_test (kind x) refl (λ later. any_from_count kind xs later) where
  by_test : (b : Bool) → kind x ≡ b → (sum_by (weigh kind) xs ≡ 0 → list_any kind xs ≡ false) → list_any kind (x ∷ xs) ≡ false
  by_test true t others =
      let here : weigh kind x ≡ 1 = ap (λ (b : Bool). cond b 1 0) t in
      let whole = sum_by-cons (weigh kind) x xs in
      absurd (omega arith)
  by_test false t others =
      let here : weigh kind x ≡ 0 = ap (λ (b : Bool). cond b 1 0) t in
      let whole = sum_by-cons (weigh kind) x xs in
      let none = others (omega arith) in
      rw (t, none) refl

pub free_of : (b : Bool) (other : Option DdlCause) → (if b then Some Twice else other) ≡ None → b ≡ false
free_of true other e = absurd cc
free_of false other e = refl

pub room_of : (a b : Bool) → (if a then Some Twice else (if b then Some TooMany else None)) ≡ None → b ≡ false
room_of true b e = absurd cc
room_of false true e = absurd cc
room_of false false e = refl

pub index_room : (a b c : Bool) → (if a then Some Twice else (if b then Some BadKey else (if c then Some TooMany else None))) ≡ None → (b ≡ false) × (c ≡ false)
index_room true b c e = absurd cc
index_room false true c e = absurd cc
index_room false false true e = absurd cc
index_room false false false e = (refl, refl)

pub not_full : (most count : ℕ) → leb most count ≡ false → count < most
not_full most count e = grind (arith, nat_tests)

one_name : (name other : List ℕ) (front : List Part) → list_any (has_name other) front ≡ false → sum_by (weigh (has_name name)) front ≤ 1 → sum_by (weigh (has_name name)) front + cond (same other name) 1 0 ≤ 1
one_name name other front free le = by_test (same other name) refl where
  by_test : (b : Bool) → same other name ≡ b → sum_by (weigh (has_name name)) front + cond b 1 0 ≤ 1
  by_test false t = omega arith
  by_test true t =
      let is : other ≡ name = (bytes_eq-Decides other name).0 t in
      let none = none_counted (has_name name) front (subst (λ (n : List ℕ). list_any (has_name n) front ≡ false) is free) in
      omega arith

names_step : (name : List ℕ) (before : Before) (part : Part) (rest : List Part) → cause_of before part rest ≡ None → sum_by (weigh (has_name name)) before.front ≤ 1 → sum_by (weigh (has_name name)) (before.front ++ part ∷ []) ≤ 1
unfolding has_name
names_step name before (parts.Member other) rest e le =
    let push = sum_by_push (weigh (has_name name)) before.front (parts.Member other) in
    let here = one_name name other before.front (free_of (list_any (has_name other) before.front) _ e) le in omega arith
names_step name before (parts.IndexName other size) rest e le =
    let push = sum_by_push (weigh (has_name name)) before.front (parts.IndexName other size) in
    let here = one_name name other before.front (free_of (list_any (has_name other) before.front) _ e) le in omega arith
names_step name before (parts.EventName other) rest e le =
    let push = sum_by_push (weigh (has_name name)) before.front (parts.EventName other) in
    let here = one_name name other before.front (free_of (list_any (has_name other) before.front) _ e) le in omega arith
names_step name before part rest e le = weightless (weigh (has_name name)) 1 before.front part refl le

members_step : (before : Before) (part : Part) (rest : List Part) → cause_of before part rest ≡ None → sum_by (weigh is_member) before.front ≤ 32 → sum_by (weigh is_member) (before.front ++ part ∷ []) ≤ 32
unfolding is_member
members_step before (parts.Member other) rest e le =
    let push = sum_by_push (weigh is_member) before.front (parts.Member other) in
    let room = not_full 32 (sum_by (weigh is_member) before.front) (room_of (list_any (has_name other) before.front) (nat_le 32 (count_by is_member before.front)) e) in omega arith
members_step before part rest e le = weightless (weigh is_member) 32 before.front part refl le

indexes_step : (before : Before) (part : Part) (rest : List Part) → cause_of before part rest ≡ None → sum_by (weigh is_index_name) before.front ≤ 8 → sum_by (weigh is_index_name) (before.front ++ part ∷ []) ≤ 8
unfolding is_index_name
indexes_step before (parts.IndexName other size) rest e le =
    let push = sum_by_push (weigh is_index_name) before.front (parts.IndexName other size) in
    let room = not_full 8 (sum_by (weigh is_index_name) before.front) (index_room (list_any (has_name other) before.front) (is_unique_rtree (opening_of before.front)) (nat_le 8 (count_by is_index_name before.front)) e).1 in omega arith
indexes_step before part rest e le = weightless (weigh is_index_name) 8 before.front part refl le

events_step : (before : Before) (part : Part) (rest : List Part) → cause_of before part rest ≡ None → sum_by (weigh is_event_name) before.front ≤ 8 → sum_by (weigh is_event_name) (before.front ++ part ∷ []) ≤ 8
unfolding is_event_name
events_step before (parts.EventName other) rest e le =
    let push = sum_by_push (weigh is_event_name) before.front (parts.EventName other) in
    let room = not_full 8 (sum_by (weigh is_event_name) before.front) (room_of (list_any (has_name other) before.front) (nat_le 8 (count_by is_event_name before.front)) e) in omega arith
events_step before part rest e le = weightless (weigh is_event_name) 8 before.front part refl le

autoid_step : (before : Before) (part : Part) (rest : List Part) → cause_of before part rest ≡ None → sum_by (weigh is_autoid) before.front ≤ 1 → sum_by (weigh is_autoid) (before.front ++ part ∷ []) ≤ 1
unfolding is_autoid
autoid_step before (parts.Autoid size) rest e le =
    let push = sum_by_push (weigh is_autoid) before.front (parts.Autoid size) in
    let none = none_counted is_autoid before.front (free_of (list_any is_autoid before.front) None e) in omega arith
autoid_step before part rest e le = weightless (weigh is_autoid) 1 before.front part refl le

-- how often names, fields, indexes, events and autoids stand among members, in whatever order
pub record Counts (xs : List Part) : Type 0 where
  pub names : (name : List ℕ) → sum_by (weigh (has_name name)) xs ≤ 1
  pub members : sum_by (weigh is_member) xs ≤ 32
  pub indexes : sum_by (weigh is_index_name) xs ≤ 8
  pub events : sum_by (weigh is_event_name) xs ≤ 8
  pub autoids : sum_by (weigh is_autoid) xs ≤ 1

pub counts_of : (groups classes : List (List ℕ)) (xs tail : List Part) → Lacks is_head xs → Keeps (standing groups classes []) (xs ++ tail) → Counts xs
counts_of groups classes xs tail lacks keeps = record {
  names = λ name. bounded (weigh (has_name name)) 1 (names_step name) groups classes [] xs tail lacks keeps (omega arith);
  members = bounded (weigh is_member) 32 members_step groups classes [] xs tail lacks keeps (omega arith);
  indexes = bounded (weigh is_index_name) 8 indexes_step groups classes [] xs tail lacks keeps (omega arith);
  events = bounded (weigh is_event_name) 8 events_step groups classes [] xs tail lacks keeps (omega arith);
  autoids = bounded (weigh is_autoid) 1 autoid_step groups classes [] xs tail lacks keeps (omega arith);
}

-- ---- the type of a field

-- the type of the first field of that name
abbrev pub field_type : List ℕ → List Item → Option Part
field_type name [] = None
field_type name (FieldItem type other ∷ items) = cond (same other name) (Some type) (field_type name items)
field_type name (AutoidItem size ∷ items) = field_type name items
field_type name (IndexItem unique kind names other size ∷ items) = field_type name items
field_type name (EventItem kind other ∷ items) = field_type name items
field_type name (UpdateItem field other ∷ items) = field_type name items

no_field_here : (name : List ℕ) (part : Part) → is_member part ≡ false → is_field name part ≡ false
unfolding is_member is_field
no_field_here name (parts.Member other) e = absurd cc
no_field_here name part e = refl

begins_quiet : (name : List ℕ) (xs rest : List Part) → Lacks is_member xs → begins_with_field name rest ≡ false → begins_with_field name (xs ++ rest) ≡ false
begins_quiet name [] rest lacks e = e
begins_quiet name (part ∷ xs) rest lacks e = no_field_here name part (All-head (λ (part : Part). is_member part ≡ false) part xs lacks)

type_quiet : (name : List ℕ) (xs rest : List Part) → Lacks is_member xs → begins_with_field name rest ≡ false → type_in name (xs ++ rest) ≡ type_in name rest
type_quiet name [] rest lacks e = refl
type_quiet name (part ∷ xs) rest lacks e =
    let later = All-tail (λ (part : Part). is_member part ≡ false) part xs lacks in
    ap (λ (b : Bool). cond b (Some part) (type_in name (xs ++ rest))) (begins_quiet name xs rest later e) ∙ type_quiet name xs rest later e

type_none : (name : List ℕ) (xs : List Part) → Lacks is_member xs → type_in name xs ≡ None
type_none name xs lacks = ap (type_in name) (sym (append-nil xs)) ∙ type_quiet name xs [] lacks refl

items_begin : (name : List ℕ) (items : List Item) (rest : List Part) → All IsGoodItem items → begins_with_field name rest ≡ false → begins_with_field name (flat_map item_parts items ++ rest) ≡ false
unfolding is_field
items_begin name [] rest good e = e
items_begin name (item ∷ items) rest good e = by_item item (All-head IsGoodItem item items good) where
  by_item : (item : Item) → IsGoodItem item → begins_with_field name ((item_parts item ++ flat_map item_parts items) ++ rest) ≡ false
  by_item (FieldItem (parts.Plain ty vector) other) good = refl
  by_item (FieldItem (parts.Named named vector) other) good = refl
  by_item (FieldItem type other) good = absurd good.0
  by_item (AutoidItem size) good = refl
  by_item (IndexItem unique kind names other size) good = refl
  by_item (EventItem kind other) good = refl
  by_item (UpdateItem field other) good = refl

index_lacks_members : (unique : Bool) (kind : IndexKind) (names : List (List ℕ)) (name : List ℕ) (size : Option ℕ) → Lacks is_member (item_parts (IndexItem unique kind names name size))
unfolding is_member
index_lacks_members unique kind names name size = lacks_one is_member (parts.Index unique kind) (key_parts names ++ parts.IndexName name size ∷ []) refl (index_end_lacks is_member (λ name. refl) (λ name size. refl) names name size)

types_in : (name : List ℕ) (items : List Item) (xs : List Part) → All IsGoodItem items → Lacks is_member xs → type_in name (flat_map item_parts items ++ xs) ≡ field_type name items
unfolding is_field
types_in name [] xs good lacks = type_none name xs lacks
types_in name (item ∷ items) xs good lacks =
    by_item item (types_in name items xs later lacks) (items_begin name items xs later (begins_nothing xs lacks))
  where
    later : All IsGoodItem items
    later = All-tail IsGoodItem item items good

    begins_nothing : (xs : List Part) → Lacks is_member xs → begins_with_field name xs ≡ false
    begins_nothing [] lacks = refl
    begins_nothing (part ∷ xs) lacks = no_field_here name part (All-head (λ (part : Part). is_member part ≡ false) part xs lacks)

    by_item : (item : Item) → type_in name (flat_map item_parts items ++ xs) ≡ field_type name items → begins_with_field name (flat_map item_parts items ++ xs) ≡ false → type_in name ((item_parts item ++ flat_map item_parts items) ++ xs) ≡ field_type name (item ∷ items)
    by_item (FieldItem type other) others begins =
        ap (λ (b : Bool). cond (same other name) (Some type) (cond b (Some (parts.Member other)) (type_in name (flat_map item_parts items ++ xs)))) begins ∙ ap (λ (t : Option Part). cond (same other name) (Some type) t) others
    by_item (AutoidItem size) others begins = ap (λ (b : Bool). cond b (Some (parts.Autoid size)) (type_in name (flat_map item_parts items ++ xs))) begins ∙ others
    by_item (IndexItem unique kind names other size) others begins =
        let item = IndexItem unique kind names other size in
        ap (type_in name) (append_assoc (item_parts item) (flat_map item_parts items) xs) ∙ type_quiet name (item_parts item) (flat_map item_parts items ++ xs) (index_lacks_members unique kind names other size) begins ∙ others
    by_item (EventItem kind other) others begins = ap (λ (b : Bool). cond b (Some (parts.EventName other)) (type_in name (flat_map item_parts items ++ xs))) begins ∙ others
    by_item (UpdateItem field other) others begins = ap (λ (b : Bool). cond b (Some (parts.EventName other)) (type_in name (flat_map item_parts items ++ xs))) begins ∙ others

pub or_none : (x : Option Part) → or_else x None ≡ x
or_none None = refl
or_none (Some x) = refl

pub field_type_both : (name : List ℕ) (xs ys : List Item) → field_type name (xs ++ ys) ≡ or_else (field_type name xs) (field_type name ys)
field_type_both name [] ys = refl
field_type_both name (FieldItem type other ∷ xs) ys = by_test (same other name) (field_type_both name xs ys) where
  by_test : (b : Bool) → field_type name (xs ++ ys) ≡ or_else (field_type name xs) (field_type name ys) → cond b (Some type) (field_type name (xs ++ ys)) ≡ or_else (cond b (Some type) (field_type name xs)) (field_type name ys)
  by_test true others = refl
  by_test false others = others
field_type_both name (AutoidItem size ∷ xs) ys = field_type_both name xs ys
field_type_both name (IndexItem unique kind names other size ∷ xs) ys = field_type_both name xs ys
field_type_both name (EventItem kind other ∷ xs) ys = field_type_both name xs ys
field_type_both name (UpdateItem field other ∷ xs) ys = field_type_both name xs ys

-- what a rule finds from inside of a member is what the members have
pub type_found : (name : List ℕ) (front items : List Item) (item : Item) (xs ys tail : List Part) → All IsGoodItem front → All IsGoodItem items → field_type name (item ∷ items) ≡ field_type name items → Lacks is_member xs → Lacks is_member ys → Lacks is_head ys → StartsAnew tail
    → type_of name (flat_map item_parts front ++ xs) (ys ++ (flat_map item_parts items ++ tail)) ≡ field_type name (front ++ item ∷ items)
type_found name front items item xs ys tail good_front good quiet lacks_x lacks_y heads anew =
    let before : type_in name (flat_map item_parts front ++ xs) ≡ field_type name front = types_in name front xs good_front lacks_x in
    let body : body_of (ys ++ (flat_map item_parts items ++ tail)) ≡ ys ++ flat_map item_parts items =
    ap body_of (sym (append_assoc ys (flat_map item_parts items) tail)) ∙ body_is (ys ++ flat_map item_parts items) tail (lacks_both is_head ys (flat_map item_parts items) heads (items_lack_heads items good)) anew in
    let line : flat_map item_parts items ≡ flat_map item_parts items ++ [] = sym (append-nil (flat_map item_parts items)) in
    let begins : begins_with_field name (flat_map item_parts items) ≡ false = ap (begins_with_field name) line ∙ items_begin name items [] good refl in
    let later : type_in name (ys ++ flat_map item_parts items) ≡ field_type name items = type_quiet name ys (flat_map item_parts items) lacks_y begins ∙ ap (type_in name) line ∙ types_in name items [] good (lacks_nil is_member) in
    (λ i. or_else (before i) (type_in name (body i))) ∙ ap (or_else (field_type name front)) (later ∙ sym quiet) ∙ sym (field_type_both name front (item ∷ items))

-- ---- keys

abbrev pub key_choice : Option Part → List Part → Part → List ℕ → Option DdlCause
key_choice opening keys ty name = if breaks_key opening ty name keys then Some BadKey else (if nat_le 4 (length keys) then Some TooMany else None)

abbrev pub key_fault : Option Part → Part → List Part → List ℕ → Option DdlCause
key_fault None opening keys name = Some Unknown
key_fault (Some ty) opening keys name = key_choice (Some opening) keys ty name

-- each field of a key keeps the rules, by the fields before it
abbrev pub KeysFine : (List ℕ → Option Part) → Part → List (List ℕ) → List (List ℕ) → Type 0
KeysFine lookup opening done [] = Unit {0}
KeysFine lookup opening done (name ∷ names) = (key_fault (lookup name) opening (key_parts done) name ≡ None) × KeysFine lookup opening (done ++ name ∷ []) names

keys_alone : (names : List (List ℕ)) → All (λ part. is_key part ≡ true) (key_parts names)
unfolding is_key
keys_alone [] = All-nil (λ (part : Part). is_key part ≡ true)
keys_alone (name ∷ names) = All-cons (λ (part : Part). is_key part ≡ true) (parts.Key name) (key_parts names) refl (keys_alone names)

keys_begin : (front : List Part) (opening : Part) (done : List (List ℕ)) → is_key opening ≡ false → keys_at ((front ++ opening ∷ []) ++ key_parts done) ≡ length (front ++ opening ∷ [])
keys_begin front opening done no_key =
    let opened = front ++ opening ∷ [] in
    let all = opened ++ key_parts done in
    let opened_len : length opened ≡ length front + 1 = simp length-append (omega arith) in
    let all_len : length all ≡ length opened + length (key_parts done) = length-append opened (key_parts done) in
    let past : (k : ℕ) → length opened ≤ k → k < length all → is_key (get_or all k opening) ≡ true = λ k low high.
    subst (λ (part : Part). is_key part ≡ true) (sym (get_or-append_right opened (key_parts done) (length opened) k opening refl low)) (keys_alone done (k - length opened) opening (omega arith)) in
    let last : 0 < length opened → is_key (get_or all (length opened - 1) opening) ≡ false = λ some.
    let place : length opened - 1 ≡ length front = omega arith in
    let within : length front < length opened = omega arith in
    let here : get_or all (length opened - 1) opening ≡ opening = ap (λ (n : ℕ). get_or all n opening) place ∙ get_or_append_left opened (key_parts done) opening (length front) within ∙ get_or-append_seam front opening [] opening in
    ap is_key here ∙ no_key in
    let suffix : suffix_len is_key all ≡ length all - length opened = suffix_len_is is_key all (length opened) opening (omega arith) past last in
    omega arith

pub opening_is : (front : List Part) (opening : Part) (done : List (List ℕ)) → is_key opening ≡ false → opening_of ((front ++ opening ∷ []) ++ key_parts done) ≡ Some opening
opening_is front opening done no_key =
    let opened = front ++ opening ∷ [] in
    let opened_len : length opened ≡ length front + 1 = simp length-append (omega arith) in
    let place : length opened - 1 ≡ length front = omega arith in
    let within : length front < length opened = omega arith in
    ap (λ (n : ℕ). slice_get (take n (opened ++ key_parts done)) (n - 1)) (keys_begin front opening done no_key)
    ∙ ap (λ (xs : List Part). slice_get xs (length opened - 1)) (take-append_seam opened (key_parts done))
    ∙ ap (slice_get opened) place ∙ slice_get-get_or opened (length front) opening within ∙ ap (λ (part : Part). Some part) (get_or-append_seam front opening [] opening)

keys_so_far : (front : List Part) (opening : Part) (done : List (List ℕ)) → is_key opening ≡ false → keys_of ((front ++ opening ∷ []) ++ key_parts done) ≡ key_parts done
keys_so_far front opening done no_key = ap (λ (n : ℕ). drop n ((front ++ opening ∷ []) ++ key_parts done)) (keys_begin front opening done no_key) ∙ drop-append_seam (front ++ opening ∷ []) (key_parts done)

key_cause_is : (ty : Option Part) (front : List Part) (opening : Part) (done : List (List ℕ)) (name : List ℕ) → is_key opening ≡ false → key_cause ty ((front ++ opening ∷ []) ++ key_parts done) name ≡ key_fault ty opening (key_parts done) name
key_cause_is None front opening done name no_key = refl
key_cause_is (Some ty) front opening done name no_key =
    let opens = opening_is front opening done no_key in
    let keys = keys_so_far front opening done no_key in
    λ i. key_choice (opens i) (keys i) ty name

key_parts_more : (done : List (List ℕ)) (name : List ℕ) → key_parts (done ++ name ∷ []) ≡ key_parts done ++ parts.Key name ∷ []
key_parts_more [] name = refl
key_parts_more (other ∷ done) name = ap (λ (xs : List Part). parts.Key other ∷ xs) (key_parts_more done name)

one_key_more : (front : List Part) (opening : Part) (done : List (List ℕ)) (name : List ℕ) → ((front ++ opening ∷ []) ++ key_parts done) ++ parts.Key name ∷ [] ≡ (front ++ opening ∷ []) ++ key_parts (done ++ name ∷ [])
one_key_more front opening done name = append_assoc (front ++ opening ∷ []) (key_parts done) (parts.Key name ∷ []) ∙ ap (λ (xs : List Part). (front ++ opening ∷ []) ++ xs) (sym (key_parts_more done name))

pub keys_fine : (lookup : List ℕ → Option Part) (groups classes : List (List ℕ)) (front : List Part) (opening : Part) (done names : List (List ℕ)) (more : List Part) → is_key opening ≡ false
    → ((done names : List (List ℕ)) (name : List ℕ) → type_of name ((front ++ opening ∷ []) ++ key_parts done) (key_parts names ++ more) ≡ lookup name)
    → Keeps (standing groups classes ((front ++ opening ∷ []) ++ key_parts done)) (key_parts names ++ more) → KeysFine lookup opening done names
keys_fine lookup groups classes front opening done [] more no_key found keeps = tt
keys_fine lookup groups classes front opening done (name ∷ names) more no_key found keeps =
    let here : key_fault (lookup name) opening (key_parts done) name ≡ None = sym (ap (λ (ty : Option Part). key_cause ty ((front ++ opening ∷ []) ++ key_parts done) name) (found done names name) ∙ key_cause_is (lookup name) front opening done name no_key) ∙ keeps.0 in
    let further = subst (λ (front : List Part). Keeps (standing groups classes front) (key_parts names ++ more)) (one_key_more front opening done name) keeps.1 in
    (here, keys_fine lookup groups classes front opening (done ++ name ∷ []) names more no_key found further)

pub keys_keep : (lookup : List ℕ → Option Part) (groups classes : List (List ℕ)) (front : List Part) (opening : Part) (done names : List (List ℕ)) (more : List Part) → is_key opening ≡ false
    → ((done names : List (List ℕ)) (name : List ℕ) → type_of name ((front ++ opening ∷ []) ++ key_parts done) (key_parts names ++ more) ≡ lookup name)
    → KeysFine lookup opening done names → Keeps (standing groups classes ((front ++ opening ∷ []) ++ key_parts (done ++ names))) more → Keeps (standing groups classes ((front ++ opening ∷ []) ++ key_parts done)) (key_parts names ++ more)
keys_keep lookup groups classes front opening done [] more no_key found fine later = subst (λ (done : List (List ℕ)). Keeps (standing groups classes ((front ++ opening ∷ []) ++ key_parts done)) more) (append-nil done) later
keys_keep lookup groups classes front opening done (name ∷ names) more no_key found fine later =
    let here = ap (λ (ty : Option Part). key_cause ty ((front ++ opening ∷ []) ++ key_parts done) name) (found done names name) ∙ key_cause_is (lookup name) front opening done name no_key ∙ fine.0 in
    let end = subst (λ (done : List (List ℕ)). Keeps (standing groups classes ((front ++ opening ∷ []) ++ key_parts done)) more) (sym (append_assoc done (name ∷ []) names)) later in
    let further = keys_keep lookup groups classes front opening (done ++ name ∷ []) names more no_key found fine.1 end in
    (here, subst (λ (front : List Part). Keeps (standing groups classes front) (key_parts names ++ more)) (sym (one_key_more front opening done name)) further)
