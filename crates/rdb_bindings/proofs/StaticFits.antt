-- What the words of a line show of the schema.
use Rattle.std.proofs.Common.{◌≡◌, ℕ, ◌≤◌, ◌^◌, Bool, true, false, cond, ◌&&◌, List, [], length, slice_get, nat_lt, nat_le, Option, Some, None, refl, sym, ap, ◌∙◌}
use Rattle.std.specs.Prelude.{position}
use Rattle.std.specs.List.{position_or_len}
use Rattle.std.specs.Option.{option_and_then, option_map, option_map_or}
use Rattle.std.specs.Str.{bytes_eq}
use Rattle.std.proofs.lemmas.Bool.{le-leb}
use Rattle.rdb_schema.specs.declared.schema.Class.{Class}
use Rattle.rdb_schema.specs.declared.schema.IndexDecl.{IndexDecl}
use Rattle.rdb_schema.specs.declared.schema.IndexKind.{IndexKind}
use Rattle.rdb_schema.specs.declared.schema.Schema.{Schema}
use Rattle.rdb_script.specs.declared.statement.Member.{Member}
use Rattle.rdb_script.specs.Statements.{small, class_of, kind_of, index_of, index_with}
use Rattle.rdb_model.specs.Fits.{has_class, has_index}

pub both : (a b : Bool) → a ≡ true → b ≡ true → (a && b) ≡ true
both true b first second = second
both false b first second = (cc)

some_same : (a b : ℕ) → Some a ≡ Some b → a ≡ b
some_same a b e = (cc)

small_is : (o : Option ℕ) (n : ℕ) → small o ≡ Some n → o ≡ Some n
small_is None n e = absurd (cc)
small_is (Some m) n e = go (nat_lt m (2 ^ 32)) e
  where
    go : (b : Bool) → cond b (Some m) None ≡ Some n → Some m ≡ Some n
    go true e = e
    go false e = absurd (cc)

place_within : {X : Type 0} (test : X → Bool) (xs : List X) (n : ℕ) → position test xs ≡ Some n → nat_lt n (length xs) ≡ true
place_within test xs n e = go (nat_lt (position_or_len test xs) (length xs)) refl e
  where
    go : (b : Bool) → nat_lt (position_or_len test xs) (length xs) ≡ b → cond b (Some (position_or_len test xs)) None ≡ Some n → nat_lt n (length xs) ≡ true
    go true within e = ap (λ k. nat_lt k (length xs)) (sym (some_same (position_or_len test xs) n e)) ∙ within
    go false within e = absurd (cc)

-- a class that is named is there
pub class_there : (schema : Schema) (name : List ℕ) (class : ℕ) → class_of schema name ≡ Some class → has_class schema class ≡ true
unfolding class_of
class_there schema name class e =
    place_within (λ (c : Class). bytes_eq c.name name) schema.classes class (small_is (position (λ (c : Class). bytes_eq c.name name) schema.classes) class e)

-- an index that is named is there, and of its kind
kind_passes : (passes : IndexKind → Bool) (schema : Schema) (m : Member) (o : Option Member) → option_and_then (λ (n : Member). cond (option_map_or passes (kind_of schema n) false) (Some n) None) o ≡ Some m → option_map_or passes (kind_of schema m) false ≡ true
kind_passes passes schema m None e = absurd (cc)
kind_passes passes schema m (Some n) e = go (option_map_or passes (kind_of schema n) false) refl e
  where
    go : (b : Bool) → option_map_or passes (kind_of schema n) false ≡ b → ◌≡◌ {A = Option Member} (cond b (Some n) None) (Some m) → option_map_or passes (kind_of schema m) false ≡ true
    go true test e = let same : n ≡ m = cc in ap (λ (k : Member). option_map_or passes (kind_of schema k) false) (sym same) ∙ test
    go false test e = absurd (cc)

kind_there : (passes : IndexKind → Bool) (place : ℕ) (o : Option Class) → option_map_or passes (option_map_or (λ (c : Class). option_map (λ (i : IndexDecl). i.kind) (slice_get c.indexes place)) o None) false ≡ true → option_map_or (λ (i : IndexDecl). passes i.kind) (slice_get (option_map_or (λ (c : Class). c.indexes) o []) place) false ≡ true
kind_there passes place None e = absurd (cc)
kind_there passes place (Some c) e = go (slice_get c.indexes place) e
  where
    go : (i : Option IndexDecl) → option_map_or passes (option_map (λ (i : IndexDecl). i.kind) i) false ≡ true → option_map_or (λ (i : IndexDecl). passes i.kind) i false ≡ true
    go None e = e
    go (Some i) e = e

pub index_there : (passes : IndexKind → Bool) (schema : Schema) (w : List ℕ) (m : Member) → index_with passes schema w ≡ Some m → has_index schema m.class m.place passes ≡ true
unfolding index_with
index_there passes schema w m e = kind_there passes m.place (slice_get schema.classes m.class) (kind_passes passes schema m (index_of schema w) e)

pub at_most : (a b : ℕ) → a ≤ b → nat_le a b ≡ true
at_most a b h = le-leb a b h
