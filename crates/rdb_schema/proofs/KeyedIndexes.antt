-- The keys of indexes whose parts break no rule are such that their kinds may have them.
use Rattle.std.proofs.Common.{◌≡◌, ◌≢◌, ℕ, ◌+◌, ◌<◌, ◌≤◌, Bool, true, false, cond, not, ◌||◌, List, [], ◌∷◌, ◌++◌, length, Option, Some, None, refl, sym, ap, ◌∙◌, arith, subst, slice_get}
use Rattle.std.specs.Prelude.{map, if◌then◌else◌, nat_le, nat_lt, IsTrue, IsSomeAnd}
use Rattle.std.specs.List.{flat_map, All, AllPairs, list_any, position_or_len}
use Rattle.std.proofs.lemmas.Bool.{ltb-false}
use Rattle.std.proofs.lemmas.Slice.Eq.{bytes_eq-Decides}
use Rattle.std.proofs.lemmas.List.Elements.{All-head, All-tail, All-cons, All-nil}
use Rattle.std.proofs.lemmas.List.Kept.{AllPairs-cons}
use Rattle.std.proofs.lemmas.List.Sums.{prefix_len-le-length}
use Rattle.rdb_schema.specs.declared.schema.Plain.{Plain}
use Rattle.rdb_schema.specs.declared.schema.Plain.TheVariants as plains
use Rattle.rdb_schema.specs.declared.schema.FieldType.{FieldType}
use Rattle.rdb_schema.specs.declared.schema.FieldType.TheVariants as types
use Rattle.rdb_schema.specs.declared.schema.IndexKind.{IndexKind}
use Rattle.rdb_schema.specs.declared.schema.IndexKind.TheVariants.{Hash, Tree, Rtree, Patricia}
use Rattle.rdb_schema.specs.declared.schema.Field.{Field}
use Rattle.rdb_schema.specs.declared.schema.Group.{Group}
use Rattle.rdb_schema.specs.declared.syntax.Part.{Part}
use Rattle.rdb_schema.specs.declared.syntax.Part.TheVariants as parts
use Rattle.rdb_schema.specs.declared.syntax.DdlCause.TheVariants.{BadKey, TooMany}
use Rattle.rdb_schema.specs.Rules.{same, is_sortable, is_text, is_box, is_bad_key, has_key, is_unique_rtree}
use Rattle.rdb_schema.specs.Meaning.{field_place, plain_type}
use Rattle.rdb_schema.specs.Names.{field_name}
use Rattle.rdb_schema.specs.Keys.{suits, has_one_field, IsKeyField, IsIndexKeyed}
use Rattle.rdb_schema.proofs.Items.{Item, FieldItem, AutoidItem, IndexItem, EventItem, UpdateItem, key_parts}
use Rattle.rdb_schema.proofs.ItemMeanings.{given, field_gives}
use Rattle.rdb_schema.proofs.Keeping.{field_type, key_fault, KeysFine}
use Rattle.rdb_schema.proofs.Sorting.{one_on, low}

-- ---- what the rules on a key give

bad_key_not : (a b : Bool) → (if a then Some BadKey else (if b then Some TooMany else None)) ≡ None → a ≡ false
bad_key_not true b e = absurd cc
bad_key_not false b e = refl

-- the field's type, of which the rules find no fault
record Suited (kind : IndexKind) (ty : Option Part) (keys : List Part) (name : List ℕ) : Type 0 where
  plain : Plain
  typed : ty ≡ Some (parts.Plain plain false)
  suited : suits kind (plain_type plain) ≡ true
  fresh : list_any (has_key name) keys ≡ false
  alone : has_one_field kind ≡ true → length keys ≡ 0

none_before : (n : ℕ) → nat_lt 0 n ≡ false → n ≡ 0
none_before n e = let le = ltb-false 0 n e in omega arith

-- keys that are none have no name
none_named : (name : List ℕ) (keys : List Part) → length keys ≡ 0 → list_any (has_key name) keys ≡ false
none_named name [] e = refl
none_named name (key ∷ keys) e = absurd (omega arith)

either : (a b : Bool) → (not a || b) ≡ false → (a ≡ true) × (b ≡ false)
either true false e = (refl, refl)
either true true e = absurd cc
either false b e = absurd cc

sortable_of : (kind : IndexKind) (part : Part) (keys : List Part) (name : List ℕ) → (suits kind (plain_type plains.Str) ≡ true) → ((bytes : ℕ) (signed : Bool) → suits kind (plain_type (plains.Num bytes signed)) ≡ true) → (has_one_field kind ≡ false)
    → is_sortable part ≡ true → list_any (has_key name) keys ≡ false → Suited kind (Some part) keys name
unfolding is_sortable
sortable_of kind (parts.Plain (plains.Num bytes signed) false) keys name a b c e fresh = record { plain = plains.Num bytes signed; typed = refl; suited = b bytes signed; fresh = fresh; alone = λ one. absurd cc }
sortable_of kind (parts.Plain plains.Str false) keys name a b c e fresh = record { plain = plains.Str; typed = refl; suited = a; fresh = fresh; alone = λ one. absurd cc }
sortable_of kind part keys name a b c e fresh = absurd cc

text_of : (part : Part) (keys : List Part) (name : List ℕ) → is_text part ≡ true → nat_lt 0 (length keys) ≡ false → Suited Patricia (Some part) keys name
unfolding is_text
text_of (parts.Plain plains.Str false) keys name e none =
    let empty = none_before (length keys) none in
    record { plain = plains.Str; typed = refl; suited = refl; fresh = none_named name keys empty; alone = λ one. empty }
text_of part keys name e none = absurd cc

box_of : (part : Part) (keys : List Part) (name : List ℕ) → is_box part ≡ true → nat_lt 0 (length keys) ≡ false → Suited Rtree (Some part) keys name
unfolding is_box
box_of (parts.Plain plains.Box4 false) keys name e none =
    let empty = none_before (length keys) none in
    record { plain = plains.Box4; typed = refl; suited = refl; fresh = none_named name keys empty; alone = λ one. empty }
box_of part keys name e none = absurd cc

suited_by_kind : (kind : IndexKind) (part : Part) (keys : List Part) (name : List ℕ) → is_bad_key kind part name keys ≡ false → Suited kind (Some part) keys name
suited_by_kind Hash part keys name e =
    let good = either (is_sortable part) (list_any (has_key name) keys) e in
    sortable_of Hash part keys name refl (λ bytes signed. refl) refl good.0 good.1
suited_by_kind Tree part keys name e =
    let good = either (is_sortable part) (list_any (has_key name) keys) e in
    sortable_of Tree part keys name refl (λ bytes signed. refl) refl good.0 good.1
suited_by_kind Patricia part keys name e = let good = either (is_text part) (nat_lt 0 (length keys)) e in text_of part keys name good.0 good.1
suited_by_kind Rtree part keys name e = let good = either (is_box part) (nat_lt 0 (length keys)) e in box_of part keys name good.0 good.1

suited_of : (unique : Bool) (kind : IndexKind) (ty : Option Part) (keys : List Part) (name : List ℕ) → key_fault ty (parts.Index unique kind) keys name ≡ None → Suited kind ty keys name
suited_of unique kind None keys name e = absurd cc
suited_of unique kind (Some part) keys name e = suited_by_kind kind part keys name (bad_key_not (is_bad_key kind part name keys) (nat_le 4 (length keys)) e)

-- ---- the field at a place

abbrev HasType : Plain → Field → Type 0
HasType plain field = field.ty ≡ plain_type plain

abbrev given_of : List Group → Option Part → FieldType
given_of groups None = types.Str
given_of groups (Some type) = given groups type

-- the first field of a name has the type that the members give it
found_type : (groups : List Group) (name : List ℕ) (plain : Plain) (items : List Item) → field_type name items ≡ Some (parts.Plain plain false)
    → IsSomeAnd (slice_get (flat_map (field_gives groups) items) (position_or_len (λ field. same field.name name) (flat_map (field_gives groups) items))) (HasType plain)
found_type groups name plain [] e = absurd cc
found_type groups name plain (FieldItem type other ∷ items) e = by_test (same other name) refl (found_type groups name plain items) where
  fields : List Field
  fields = flat_map (field_gives groups) items

  field : Field
  field = record { name = other; ty = given groups type }

  place : ℕ
  place = position_or_len (λ field. same field.name name) fields

  by_test : (b : Bool) → same other name ≡ b → (field_type name items ≡ Some (parts.Plain plain false) → IsSomeAnd (slice_get fields place) (HasType plain)) → IsSomeAnd (slice_get (field ∷ fields) (cond (not b) (1 + place) 0)) (HasType plain)
  by_test true t others =
      let this : Some type ≡ Some (parts.Plain plain false) = sym (ap (λ (b : Bool). cond b (Some type) (field_type name items)) t) ∙ e in
      ap (given_of groups) this
  by_test false t others =
      let later : field_type name items ≡ Some (parts.Plain plain false) = sym (ap (λ (b : Bool). cond b (Some type) (field_type name items)) t) ∙ e in
      subst (λ (n : ℕ). IsSomeAnd (slice_get (field ∷ fields) n) (HasType plain)) (sym (one_on place)) (others later)
found_type groups name plain (AutoidItem size ∷ items) e = found_type groups name plain items e
found_type groups name plain (IndexItem unique kind names other size ∷ items) e = found_type groups name plain items e
found_type groups name plain (EventItem kind other ∷ items) e = found_type groups name plain items e
found_type groups name plain (UpdateItem field other ∷ items) e = found_type groups name plain items e

suits_there : (kind : IndexKind) (plain : Plain) (field : Option Field) → suits kind (plain_type plain) ≡ true → IsSomeAnd field (HasType plain) → IsSomeAnd field (λ field. IsTrue (suits kind field.ty))
suits_there kind plain None suited is = is
suits_there kind plain (Some field) suited is = ap (suits kind) is ∙ suited

key_field : (groups : List Group) (items : List Item) (kind : IndexKind) (keys : List Part) (name : List ℕ) → length (flat_map (field_gives groups) items) ≤ 32 → Suited kind (field_type name items) keys name
    → IsKeyField (flat_map (field_gives groups) items) kind (field_place (flat_map (field_gives groups) items) name)
key_field groups items kind keys name few suited =
    let fields = flat_map (field_gives groups) items in
    let place = position_or_len (λ (field : Field). same field.name name) fields in
    let is : field_place fields name ≡ place = low place (length fields) 32 (prefix_len-le-length (λ (field : Field). not (same field.name name)) fields) few (omega arith) in
    subst (IsKeyField fields kind) (sym is) (suits_there kind suited.plain (slice_get fields place) suited.suited (found_type groups name suited.plain items suited.typed))

keys_suited : (groups : List Group) (items : List Item) (unique : Bool) (kind : IndexKind) (done names : List (List ℕ)) → length (flat_map (field_gives groups) items) ≤ 32 → KeysFine (λ name. field_type name items) (parts.Index unique kind) done names
    → All (IsKeyField (flat_map (field_gives groups) items) kind) (map (field_place (flat_map (field_gives groups) items)) names)
keys_suited groups items unique kind done [] few fine = All-nil (IsKeyField (flat_map (field_gives groups) items) kind)
keys_suited groups items unique kind done (name ∷ names) few fine =
    let fields = flat_map (field_gives groups) items in
    let here = suited_of unique kind (field_type name items) (key_parts done) name fine.0 in
    All-cons (IsKeyField fields kind) (field_place fields name) (map (field_place fields) names) (key_field groups items kind (key_parts done) name few here) (keys_suited groups items unique kind (done ++ name ∷ []) names few fine.1)

-- ---- each field once

neither : (a b : Bool) → (a || b) ≡ false → (a ≡ false) × (b ≡ false)
neither true b e = absurd cc
neither false b e = (refl, e)

before_more : (name other : List ℕ) (done : List (List ℕ)) → list_any (has_key other) (key_parts (done ++ name ∷ [])) ≡ false → (list_any (has_key other) (key_parts done) ≡ false) × (same name other ≡ false)
unfolding has_key
before_more name other [] e = (refl, (neither (same name other) false e).0)
before_more name other (first ∷ done) e =
    let both = neither (same first other) (list_any (has_key other) (key_parts (done ++ name ∷ []))) e in
    let rest = before_more name other done both.1 in
    (ap (λ (b : Bool). b || list_any (has_key other) (key_parts done)) both.0 ∙ rest.0, rest.1)

-- no later field of a key is among those before
abbrev IsFresh : List (List ℕ) → List ℕ → Type 0
IsFresh done name = list_any (has_key name) (key_parts done) ≡ false

all_fresh : (lookup : List ℕ → Option Part) (unique : Bool) (kind : IndexKind) (done names : List (List ℕ)) → KeysFine lookup (parts.Index unique kind) done names → All (IsFresh done) names
all_fresh lookup unique kind done [] fine = All-nil (IsFresh done)
all_fresh lookup unique kind done (name ∷ names) fine =
    let here = (suited_of unique kind (lookup name) (key_parts done) name fine.0).fresh in
    let later = all_fresh lookup unique kind (done ++ name ∷ []) names fine.1 in
    All-cons (IsFresh done) name names here (λ k d lt. (before_more name _ done (later k d lt)).0)

abbrev IsFound : List Field → List ℕ → Type 0
IsFound fields name = field_name fields (field_place fields name) ≡ name

not_both : (b : Bool) → b ≡ true → b ≡ false → ⊥
not_both true t f = absurd cc
not_both false t f = absurd cc

places_differ : (fields : List Field) (name : List ℕ) (names : List (List ℕ)) → IsFound fields name → All (IsFound fields) names → All (λ other. same name other ≡ false) names
    → All (λ place. field_place fields name ≢ place) (map (field_place fields) names)
places_differ fields name [] found all apart = All-nil (λ (place : ℕ). field_place fields name ≢ place)
places_differ fields name (other ∷ names) found all apart =
    let is = All-head (IsFound fields) other names all in
    let differs = All-head (λ (other : List ℕ). same name other ≡ false) other names apart in
    All-cons (λ (place : ℕ). field_place fields name ≢ place) (field_place fields other) (map (field_place fields) names)
    (λ e. not_both (same name other) ((bytes_eq-Decides name other).1 (sym found ∙ ap (field_name fields) e ∙ is)) differs)
    (places_differ fields name names found (All-tail (IsFound fields) other names all) (All-tail (λ (other : List ℕ). same name other ≡ false) other names apart))

keys_once : (fields : List Field) (lookup : List ℕ → Option Part) (unique : Bool) (kind : IndexKind) (done names : List (List ℕ)) → KeysFine lookup (parts.Index unique kind) done names → All (IsFound fields) names
    → AllPairs (λ place other. place ≢ other) (map (field_place fields) names)
keys_once fields lookup unique kind done [] fine all = λ i j d lt within. absurd (omega arith)
keys_once fields lookup unique kind done (name ∷ names) fine all =
    let fresh = all_fresh lookup unique kind (done ++ name ∷ []) names fine.1 in
    let apart : All (λ other. same name other ≡ false) names = λ k d lt. (before_more name _ done (fresh k d lt)).1 in
    let rest = All-tail (IsFound fields) name names all in
    AllPairs-cons (λ (place other : ℕ). place ≢ other) (field_place fields name) (map (field_place fields) names)
    (places_differ fields name names (All-head (IsFound fields) name names all) rest apart)
    (keys_once fields lookup unique kind (done ++ name ∷ []) names fine.1 rest)

-- ---- one field, and no unique R-tree

one_place : (fields : List Field) (lookup : List ℕ → Option Part) (unique : Bool) (kind : IndexKind) (names : List (List ℕ)) → 0 < length names → KeysFine lookup (parts.Index unique kind) [] names → has_one_field kind ≡ true
    → length (map (field_place fields) names) ≡ 1
one_place fields lookup unique kind [] some fine one = absurd (omega arith)
one_place fields lookup unique kind (name ∷ []) some fine one = refl
one_place fields lookup unique kind (name ∷ other ∷ names) some fine one =
    let none = (suited_of unique kind (lookup other) (key_parts (name ∷ [])) other fine.1.0).alone one in
    absurd (omega arith)

shared_of : (unique : Bool) (kind : IndexKind) → is_unique_rtree (Some (parts.Index unique kind)) ≡ false → kind ≡ Rtree → unique ≡ false
shared_of false kind e is = refl
shared_of true kind e is = let whole : is_unique_rtree (Some (parts.Index true Rtree)) ≡ false = subst (λ (kind : IndexKind). is_unique_rtree (Some (parts.Index true kind)) ≡ false) is e in absurd cc

-- an index whose parts break no rule
pub index_keyed : (groups : List Group) (items : List Item) (unique : Bool) (kind : IndexKind) (names : List (List ℕ)) (name : List ℕ) (size : Option ℕ) → length (flat_map (field_gives groups) items) ≤ 32 → 0 < length names
    → All (λ name. field_name (flat_map (field_gives groups) items) (field_place (flat_map (field_gives groups) items) name) ≡ name) names
    → KeysFine (λ name. field_type name items) (parts.Index unique kind) [] names → is_unique_rtree (Some (parts.Index unique kind)) ≡ false
    → IsIndexKeyed (flat_map (field_gives groups) items) (record { name = name; kind = kind; unique = unique; key = map (field_place (flat_map (field_gives groups) items)) names; estimate = size })
index_keyed groups items unique kind names name size few some found fine shared =
    let fields = flat_map (field_gives groups) items in
    let lookup = λ (name : List ℕ). field_type name items in
    record {
      suited = keys_suited groups items unique kind [] names few fine;
      once = keys_once fields lookup unique kind [] names fine found;
      single = one_place fields lookup unique kind names some fine;
      shared = shared_of unique kind shared;
    }
