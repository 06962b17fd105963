-- The members and declarations that the parts of a text of the grammar make up.
use Rattle.std.proofs.Common.{◌≡◌, ℕ, ◌<◌, Bool, true, false, List, [], ◌∷◌, ◌++◌, length, Option, refl, sym, ap, ◌∙◌, arith, append_assoc, ◌⊎◌, inl, inr}
use Rattle.std.specs.List.{flat_map, All}
use Rattle.std.proofs.lemmas.List.Elements.{All-cons, All-nil}
use Rattle.rdb_schema.specs.declared.schema.IndexKind.{IndexKind}
use Rattle.rdb_schema.specs.declared.schema.EventKind.{EventKind}
use Rattle.rdb_schema.specs.declared.schema.EventKind.TheVariants as events
use Rattle.rdb_schema.specs.declared.syntax.Part.{Part}
use Rattle.rdb_schema.specs.declared.syntax.Part.TheVariants as parts
use Rattle.rdb_schema.specs.Names.{IsName}
use Rattle.rdb_schema.specs.SpelledSchemas.{IsSizeSpelled}
use Rattle.rdb_schema.specs.PartOrder.{State, Start, Top, GroupMembers, GroupField, ClassMembers, ClassField, KeyFirst, Keys, Updating, Ending, IsPlainWord, Fits}

-- ---- members

pub data Item : Type 0 where
  FieldItem : (type : Part) (name : List ℕ) → Item
  AutoidItem : (size : Option ℕ) → Item
  IndexItem : (unique : Bool) (kind : IndexKind) (names : List (List ℕ)) (name : List ℕ) (size : Option ℕ) → Item
  EventItem : (kind : EventKind) (name : List ℕ) → Item
  UpdateItem : (field : List ℕ) (name : List ℕ) → Item

abbrev pub key_parts : List (List ℕ) → List Part
key_parts [] = []
key_parts (name ∷ names) = parts.Key name ∷ key_parts names

abbrev pub item_parts : Item → List Part
item_parts (FieldItem type name) = type ∷ parts.Member name ∷ []
item_parts (AutoidItem size) = parts.Autoid size ∷ []
item_parts (IndexItem unique kind names name size) = parts.Index unique kind ∷ (key_parts names ++ parts.IndexName name size ∷ [])
item_parts (EventItem kind name) = parts.Event kind ∷ parts.EventName name ∷ []
item_parts (UpdateItem field name) = parts.Event events.Update ∷ parts.Update field ∷ parts.EventName name ∷ []

abbrev pub IsGoodType : Part → Type 0
IsGoodType (parts.Plain ty vector) = IsPlainWord ty
IsGoodType (parts.Named name vector) = IsName name
IsGoodType _ = ⊥

abbrev pub IsGroupType : Part → Type 0
IsGroupType (parts.Plain ty false) = IsPlainWord ty
IsGroupType _ = ⊥

abbrev pub IsWholeKind : EventKind → Type 0
IsWholeKind events.New = Unit {0}
IsWholeKind events.Delete = Unit {0}
IsWholeKind events.Update = Unit {0}
IsWholeKind (events.UpdateField place) = ⊥

abbrev pub IsGoodItem : Item → Type 0
IsGoodItem (FieldItem type name) = IsGoodType type × IsName name
IsGoodItem (AutoidItem size) = IsSizeSpelled size
IsGoodItem (IndexItem unique kind names name size) = (0 < length names) × All IsName names × IsName name × IsSizeSpelled size
IsGoodItem (EventItem kind name) = IsWholeKind kind × IsName name
IsGoodItem (UpdateItem field name) = IsName field × IsName name

abbrev pub IsGroupItem : Item → Type 0
IsGroupItem (FieldItem type name) = IsGroupType type × IsName name
IsGroupItem _ = ⊥

-- ---- structs and classes

pub data Decl : Type 0 where
  GroupDecl : (name : List ℕ) (items : List Item) → Decl
  ClassDecl : (name : List ℕ) (items : List Item) → Decl

abbrev pub decl_parts : Decl → List Part
decl_parts (GroupDecl name items) = parts.Struct name ∷ flat_map item_parts items
decl_parts (ClassDecl name items) = parts.Class name ∷ flat_map item_parts items

abbrev pub IsGoodDecl : Decl → Type 0
IsGoodDecl (GroupDecl name items) = IsName name × (0 < length items) × All IsGroupItem items
IsGoodDecl (ClassDecl name items) = IsName name × All IsGoodItem items

-- ---- what parts that fit make up

pub record Decls (xs : List Part) : Type 0 where
  pub decls : List Decl
  pub split : xs ≡ flat_map decl_parts decls
  pub good : All IsGoodDecl decls

pub record Items (Good : Item → Type 0) (xs : List Part) : Type 0 where
  pub items : List Item
  pub decls : List Decl
  pub split : xs ≡ flat_map item_parts items ++ flat_map decl_parts decls
  pub good : All Good items
  pub more : All IsGoodDecl decls

record SomeItems (Good : Item → Type 0) (xs : List Part) : Type 0 where
  left : Items Good xs
  some : 0 < length left.items

record FieldLeft (Good : Item → Type 0) (xs : List Part) : Type 0 where
  name : List ℕ
  rest : List Part
  split : xs ≡ parts.Member name ∷ rest
  is : IsName name
  more : Items Good rest

record KeysLeft (xs : List Part) : Type 0 where
  names : List (List ℕ)
  name : List ℕ
  size : Option ℕ
  rest : List Part
  split : xs ≡ key_parts names ++ parts.IndexName name size ∷ rest
  keys : All IsName names
  is : IsName name
  sized : IsSizeSpelled size
  more : Items IsGoodItem rest

record FirstKeys (xs : List Part) : Type 0 where
  left : KeysLeft xs
  some : 0 < length left.names

record EndLeft (xs : List Part) : Type 0 where
  name : List ℕ
  rest : List Part
  split : xs ≡ parts.EventName name ∷ rest
  is : IsName name
  more : Items IsGoodItem rest

record UpdateLeft (xs : List Part) : Type 0 where
  field : List ℕ
  field_is : IsName field
  rest : List Part
  split : xs ≡ parts.Update field ∷ rest
  more : EndLeft rest

pub record Whole (xs : List Part) : Type 0 where
  pub name : List ℕ
  pub decls : List Decl
  pub split : xs ≡ parts.Database name ∷ flat_map decl_parts decls
  pub is : IsName name
  pub good : All IsGoodDecl decls

abbrev Claim : State → List Part → Type 0
Claim Start xs = Whole xs
Claim Top xs = Decls xs
Claim (GroupMembers true) xs = SomeItems IsGroupItem xs
Claim (GroupMembers false) xs = Items IsGroupItem xs
Claim GroupField xs = FieldLeft IsGroupItem xs
Claim ClassMembers xs = Items IsGoodItem xs
Claim ClassField xs = FieldLeft IsGoodItem xs
Claim KeyFirst xs = FirstKeys xs
Claim Keys xs = KeysLeft xs
Claim Updating xs = EndLeft xs ⊎ UpdateLeft xs
Claim Ending xs = EndLeft xs

no_items : (Good : Item → Type 0) (xs : List Part) → Decls xs → Items Good xs
no_items Good xs d = record { items = []; decls = d.decls; split = d.split; good = All-nil Good; more = d.good }

no_decls : Decls []
no_decls = record { decls = []; split = refl; good = All-nil IsGoodDecl }

abbrev add_field : (Good : Item → Type 0) (type : Part) (xs : List Part) → ((name : List ℕ) → IsName name → Good (FieldItem type name)) → FieldLeft Good xs → Items Good (type ∷ xs)
add_field Good type xs good left = record {
  items = FieldItem type left.name ∷ left.more.items;
  decls = left.more.decls;
  split = ap (λ (xs : List Part). type ∷ xs) (left.split ∙ ap (λ (rest : List Part). parts.Member left.name ∷ rest) left.more.split);
  good = All-cons Good (FieldItem type left.name) left.more.items (good left.name left.is) left.more.good;
  more = left.more.more;
}

add_index : (unique : Bool) (kind : IndexKind) (xs : List Part) → FirstKeys xs → Items IsGoodItem (parts.Index unique kind ∷ xs)
add_index unique kind xs first =
    let left = first.left in
    let item = IndexItem unique kind left.names left.name left.size in
    let rest = flat_map item_parts left.more.items ++ flat_map decl_parts left.more.decls in
    let line : ((key_parts left.names ++ parts.IndexName left.name left.size ∷ []) ++ flat_map item_parts left.more.items) ++ flat_map decl_parts left.more.decls ≡ key_parts left.names ++ parts.IndexName left.name left.size ∷ rest =
    append_assoc (key_parts left.names ++ parts.IndexName left.name left.size ∷ []) (flat_map item_parts left.more.items) (flat_map decl_parts left.more.decls) ∙ append_assoc (key_parts left.names) (parts.IndexName left.name left.size ∷ []) rest in
    record {
      items = item ∷ left.more.items;
      decls = left.more.decls;
      split = ap (λ (xs : List Part). parts.Index unique kind ∷ xs) (left.split ∙ ap (λ (rest : List Part). key_parts left.names ++ parts.IndexName left.name left.size ∷ rest) left.more.split ∙ sym line);
      good = All-cons IsGoodItem item left.more.items (first.some, left.keys, left.is, left.sized) left.more.good;
      more = left.more.more;
    }

add_autoid : (size : Option ℕ) (xs : List Part) → IsSizeSpelled size → Items IsGoodItem xs → Items IsGoodItem (parts.Autoid size ∷ xs)
add_autoid size xs sized more = record {
  items = AutoidItem size ∷ more.items;
  decls = more.decls;
  split = ap (λ (xs : List Part). parts.Autoid size ∷ xs) more.split;
  good = All-cons IsGoodItem (AutoidItem size) more.items sized more.good;
  more = more.more;
}

add_event : (kind : EventKind) (xs : List Part) → IsWholeKind kind → EndLeft xs → Items IsGoodItem (parts.Event kind ∷ xs)
add_event kind xs whole left = record {
  items = EventItem kind left.name ∷ left.more.items;
  decls = left.more.decls;
  split = ap (λ (xs : List Part). parts.Event kind ∷ xs) (left.split ∙ ap (λ (rest : List Part). parts.EventName left.name ∷ rest) left.more.split);
  good = All-cons IsGoodItem (EventItem kind left.name) left.more.items (whole, left.is) left.more.good;
  more = left.more.more;
}

add_update : (xs : List Part) → EndLeft xs ⊎ UpdateLeft xs → Items IsGoodItem (parts.Event events.Update ∷ xs)
add_update xs (inl left) = add_event events.Update xs tt left
add_update xs (inr update) =
    let left = update.more in
    record {
      items = UpdateItem update.field left.name ∷ left.more.items;
      decls = left.more.decls;
      split = ap (λ (xs : List Part). parts.Event events.Update ∷ xs) (update.split ∙ ap (λ (rest : List Part). parts.Update update.field ∷ rest) (left.split ∙ ap (λ (rest : List Part). parts.EventName left.name ∷ rest) left.more.split));
      good = All-cons IsGoodItem (UpdateItem update.field left.name) left.more.items (update.field_is, left.is) left.more.good;
      more = left.more.more;
    }

group_decl : (name : List ℕ) (xs : List Part) → IsName name → SomeItems IsGroupItem xs → Decls (parts.Struct name ∷ xs)
group_decl name xs is some = record {
  decls = GroupDecl name some.left.items ∷ some.left.decls;
  split = ap (λ (xs : List Part). parts.Struct name ∷ xs) some.left.split;
  good = All-cons IsGoodDecl (GroupDecl name some.left.items) some.left.decls (is, some.some, some.left.good) some.left.more;
}

class_decl : (name : List ℕ) (xs : List Part) → IsName name → Items IsGoodItem xs → Decls (parts.Class name ∷ xs)
class_decl name xs is left = record {
  decls = ClassDecl name left.items ∷ left.decls;
  split = ap (λ (xs : List Part). parts.Class name ∷ xs) left.split;
  good = All-cons IsGoodDecl (ClassDecl name left.items) left.decls (is, left.good) left.more;
}

claims : (state : State) (xs : List Part) → Fits state xs → Claim state xs
claims Top [] h = no_decls
claims (GroupMembers false) [] h = no_items IsGroupItem [] no_decls
claims ClassMembers [] h = no_items IsGoodItem [] no_decls
claims Start (parts.Database name ∷ xs) h =
    let d = claims Top xs h.1 in
    record { name = name; decls = d.decls; split = ap (λ (xs : List Part). parts.Database name ∷ xs) d.split; is = h.0; good = d.good }
claims Top (parts.Struct name ∷ xs) h = group_decl name xs h.0 (claims (GroupMembers true) xs h.1)
claims Top (parts.Class name ∷ xs) h = class_decl name xs h.0 (claims ClassMembers xs h.1)
claims (GroupMembers false) (parts.Plain ty false ∷ xs) h = add_field IsGroupItem (parts.Plain ty false) xs (λ name is. (h.0, is)) (claims GroupField xs h.1)
claims (GroupMembers true) (parts.Plain ty false ∷ xs) h = record { left = add_field IsGroupItem (parts.Plain ty false) xs (λ name is. (h.0, is)) (claims GroupField xs h.1); some = omega arith }
claims (GroupMembers false) (parts.Struct name ∷ xs) h = no_items IsGroupItem (parts.Struct name ∷ xs) (group_decl name xs h.0 (claims (GroupMembers true) xs h.1))
claims (GroupMembers false) (parts.Class name ∷ xs) h = no_items IsGroupItem (parts.Class name ∷ xs) (class_decl name xs h.0 (claims ClassMembers xs h.1))
claims GroupField (parts.Member name ∷ xs) h = record { name = name; rest = xs; split = refl; is = h.0; more = claims (GroupMembers false) xs h.1 }
claims ClassMembers (parts.Plain ty vector ∷ xs) h = add_field IsGoodItem (parts.Plain ty vector) xs (λ name is. (h.0, is)) (claims ClassField xs h.1)
claims ClassMembers (parts.Named named vector ∷ xs) h = add_field IsGoodItem (parts.Named named vector) xs (λ name is. (h.0, is)) (claims ClassField xs h.1)
claims ClassMembers (parts.Autoid size ∷ xs) h = add_autoid size xs h.0 (claims ClassMembers xs h.1)
claims ClassMembers (parts.Index unique kind ∷ xs) h = add_index unique kind xs (claims KeyFirst xs h.1)
claims ClassMembers (parts.Event events.New ∷ xs) h = add_event events.New xs tt (claims Ending xs h.1)
claims ClassMembers (parts.Event events.Delete ∷ xs) h = add_event events.Delete xs tt (claims Ending xs h.1)
claims ClassMembers (parts.Event events.Update ∷ xs) h = add_update xs (claims Updating xs h.1)
claims ClassMembers (parts.Struct name ∷ xs) h = no_items IsGoodItem (parts.Struct name ∷ xs) (group_decl name xs h.0 (claims (GroupMembers true) xs h.1))
claims ClassMembers (parts.Class name ∷ xs) h = no_items IsGoodItem (parts.Class name ∷ xs) (class_decl name xs h.0 (claims ClassMembers xs h.1))
claims ClassField (parts.Member name ∷ xs) h = record { name = name; rest = xs; split = refl; is = h.0; more = claims ClassMembers xs h.1 }
claims KeyFirst (parts.Key name ∷ xs) h =
    let left = claims Keys xs h.1 in
    record { left = record { names = name ∷ left.names; name = left.name; size = left.size; rest = left.rest; split = ap (λ (xs : List Part). parts.Key name ∷ xs) left.split; keys = All-cons IsName name left.names h.0 left.keys; is = left.is; sized = left.sized; more = left.more }; some = omega arith }
claims Keys (parts.Key name ∷ xs) h =
    let left = claims Keys xs h.1 in
    record { names = name ∷ left.names; name = left.name; size = left.size; rest = left.rest; split = ap (λ (xs : List Part). parts.Key name ∷ xs) left.split; keys = All-cons IsName name left.names h.0 left.keys; is = left.is; sized = left.sized; more = left.more }
claims Keys (parts.IndexName name size ∷ xs) h = record { names = []; name = name; size = size; rest = xs; split = refl; keys = All-nil IsName; is = h.0.0; sized = h.0.1; more = claims ClassMembers xs h.1 }
claims Updating (parts.Update field ∷ xs) h = inr (record { field = field; field_is = h.0; rest = xs; split = refl; more = claims Ending xs h.1 })
claims Updating (parts.EventName name ∷ xs) h = inl (record { name = name; rest = xs; split = refl; is = h.0; more = claims ClassMembers xs h.1 })
claims Ending (parts.EventName name ∷ xs) h = record { name = name; rest = xs; split = refl; is = h.0; more = claims ClassMembers xs h.1 }
claims Start [] h = absurd cc
claims (GroupMembers true) [] h = absurd cc
claims GroupField [] h = absurd cc
claims ClassField [] h = absurd cc
claims KeyFirst [] h = absurd cc
claims Keys [] h = absurd cc
claims Updating [] h = absurd cc
claims Ending [] h = absurd cc
claims state (part ∷ xs) h = absurd h.1

pub whole_of : (xs : List Part) → Fits Start xs → Whole xs
whole_of xs h = claims Start xs h
