-- What a plain schema is, written out.
use Rattle.std.proofs.Common.{◌≡◌, ℕ, Bool, true, false, ◌&&◌, List, [], ◌∷◌, length, refl, ap, ◌∙◌, arith, eqb}
use Rattle.std.proofs.lemmas.Bool.Decides.{nat_tests}
use Rattle.std.proofs.lemmas.Bool.{false≢true}
use Rattle.rdb_schema.specs.declared.schema.Class.{Class}
use Rattle.rdb_schema.specs.declared.schema.Group.{Group}
use Rattle.rdb_schema.specs.declared.schema.Schema.{Schema}
use Rattle.rdb_runner.specs.PlainSchema.{are_numbers, is_plain_class, are_plain, is_plain_schema}

pub both_true : (a b : Bool) → (a && b) ≡ true → (a ≡ true) × (b ≡ true)
both_true true b h = (refl, h)
both_true false b h = absurd (false≢true h)

pub none_left : (n : ℕ) → eqb n 0 ≡ true → n ≡ 0
none_left n h = grind (arith, nat_tests)

-- a list without elements
empty_list : {X : Type 0} → (xs : List X) → eqb (length xs) 0 ≡ true → xs ≡ []
empty_list [] none = refl
empty_list (x ∷ xs) none = let no = none_left (length (x ∷ xs)) none in absurd (omega arith)

-- a schema's one class, which has no index
pub record HasOneClass (schema : Schema) : Type 0 where
  pub class : Class
  pub one : schema.classes ≡ class ∷ []
  pub no_indexes : class.indexes ≡ []

-- the schema with this one class, without its indexes
abbrev pub schema_of : Schema → Class → Schema
schema_of s c = record {
  name = s.name;
  groups = s.groups;
  classes = record { name = c.name; fields = c.fields; autoid = c.autoid; estimate = c.estimate; indexes = []; events = c.events } ∷ [];
}

no_index : (class : Class) → is_plain_class class ≡ true → class.indexes ≡ []
no_index class h =
    let rest = (both_true class.autoid (are_numbers class.fields && (eqb (length class.indexes) 0 && eqb (length class.events) 0)) h).1 in
    let lists = (both_true (are_numbers class.fields) (eqb (length class.indexes) 0 && eqb (length class.events) 0) rest).1 in
    empty_list class.indexes (both_true (eqb (length class.indexes) 0) (eqb (length class.events) 0) lists).0

of_classes : (classes : List Class) (groups : List Group) → are_plain classes groups ≡ true → (class : Class) × (classes ≡ class ∷ []) × (class.indexes ≡ [])
of_classes [] groups h = absurd (false≢true h)
of_classes (c ∷ []) groups h = (c, refl, no_index c (both_true (is_plain_class c) (eqb (length groups) 0) h).0)
of_classes (c ∷ d ∷ cs) groups h = absurd (false≢true h)

-- a plain schema has one class without an index
pub plain_has_one : (schema : Schema) → is_plain_schema schema ≡ true → HasOneClass schema
plain_has_one schema h = let found = of_classes schema.classes schema.groups h in record { class = found.0; one = found.1; no_indexes = found.2 }

-- and is written so
pub is_written : (schema : Schema) (h : HasOneClass schema) → schema ≡ schema_of schema h.class
is_written schema h =
    let c = h.class in
    let bare : c ≡ record { name = c.name; fields = c.fields; autoid = c.autoid; estimate = c.estimate; indexes = []; events = c.events } =
    λ i. record { name = c.name; fields = c.fields; autoid = c.autoid; estimate = c.estimate; indexes = h.no_indexes i; events = c.events } in
    let classes = h.one ∙ ap (λ (k : Class). k ∷ []) bare in
    λ i. record { name = schema.name; groups = schema.groups; classes = classes i }
