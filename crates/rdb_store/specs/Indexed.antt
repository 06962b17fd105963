-- The indexes of a class in a slice, each with its keys, and a version that is put into all of them, or taken from all.
use Rattle.std.specs.Prelude.{◌≡◌, ℕ, List, [], length, slice_get, sum_by, Option, Some, None, false}
use Rattle.rdb_base.specs.declared.value.Value.{Value}
use Rattle.rdb_schema.specs.declared.types.ValueType.{ValueType}
use Rattle.rdb_cells.specs.Index.{Nature}
use Rattle.rdb_cells.specs.Keys.{Meaning}
use Rattle.rdb_cells.specs.Work.{Work, reading}
use Rattle.rdb_sight.specs.Versions.{Object}
use Rattle.rdb_store.specs.Classes.{KeyedNature, ClassNature, AreLawful, never}
use Rattle.rdb_store.specs.Layouts.{Layout}
use Rattle.rdb_store.specs.Midway.{IsMidway, BeforePut, AfterTake}
use Rattle.rdb_store.specs.Stored.{HasRowAt}
use Rattle.rdb_store.specs.declared.keyed.Keyed.{Keyed}

-- what a class is beside its indexes: its number, the types of its fields, and the key of a row for the index at each place
pub record Declared : Type 0 where
  pub number : ℕ
  pub types : List ValueType
  pub key_at : ℕ → List Value → List Value

-- keys that say nothing
abbrev pub silent : Meaning
silent = record { version_of = λ image n. None; fits = λ key. false; encoding = λ key. [] }

-- the nature of an index with its keys, if it is there
abbrev pub keyed_nature : {I K : Type 0} → (I → Nature) → (K → Meaning) → (List Value → List Value) → Option (Keyed I K) → KeyedNature
keyed_nature nature meaning key None = record { index = never 0 0; keys = silent; key_in = key }
keyed_nature nature meaning key (Some keyed) = record { index = nature keyed.index; keys = meaning keyed.keys; key_in = key }

-- the class with these indexes
abbrev pub class_over : {I K : Type 0} → (I → Nature) → (K → Meaning) → List (Keyed I K) → Declared → ClassNature
class_over nature meaning indexes of = record {
  number = of.number;
  types = of.types;
  count = length indexes;
  at = λ place. keyed_nature nature meaning (of.key_at place) (slice_get indexes place);
}

-- the most free cells that a version takes in all of the indexes
abbrev pub parts_of : {I K : Type 0} → (I → Nature) → List (Keyed I K) → ℕ
parts_of nature indexes = sum_by (λ keyed. (nature keyed.index).part) indexes

-- no header stands loose
abbrev pub NoneLoose : ℕ → Type 0
NoneLoose header = ⊥

-- the version is in the indexes before a place, and in none from there on
abbrev pub IsPutUpTo : ClassNature → Work → List Object → ℕ → ℕ → Type 0
IsPutUpTo class w objects version next =
    (layout : Layout) × IsMidway class (reading w) w.class_of objects NoneLoose (BeforePut objects version next) layout

-- the version is in none of the indexes before a place, and in all from there on
abbrev pub IsTakenUpTo : ClassNature → Work → List Object → ℕ → ℕ → Type 0
IsTakenUpTo class w objects version next =
    (layout : Layout) × IsMidway class (reading w) w.class_of objects NoneLoose (AfterTake objects version next) layout

-- the class with the indexes, whose work it is, has a version with a row that no index lists yet
pub record LacksInAll {I K : Type 0} (nature : I → Nature) (meaning : K → Meaning) (indexes : List (Keyed I K)) (w : Work)
    (version : ℕ) : Type 0 where
  pub of : Declared
  pub lawful : AreLawful (class_over nature meaning indexes of)
  pub of_class : w.class ≡ of.number
  pub objects : List Object
  pub has : HasRowAt objects version
  pub lacks : IsPutUpTo (class_over nature meaning indexes of) w objects version 0

-- the version came to all of the indexes before a place
abbrev pub PutsInAll : {I K : Type 0} → (I → Nature) → (K → Meaning) → List (Keyed I K) → Work → Work → ℕ → ℕ → Type 0
PutsInAll nature meaning indexes before after version next =
    (of : Declared) → AreLawful (class_over nature meaning indexes of) → before.class ≡ of.number →
    (objects : List Object) → HasRowAt objects version →
    IsPutUpTo (class_over nature meaning indexes of) before objects version 0 →
    IsPutUpTo (class_over nature meaning indexes of) after objects version next

-- the class with the indexes, whose work it is, has a version with a row that every index lists
pub record HasInAll {I K : Type 0} (nature : I → Nature) (meaning : K → Meaning) (indexes : List (Keyed I K)) (w : Work)
    (version : ℕ) : Type 0 where
  pub of : Declared
  pub lawful : AreLawful (class_over nature meaning indexes of)
  pub of_class : w.class ≡ of.number
  pub objects : List Object
  pub has : HasRowAt objects version
  pub listed : IsTakenUpTo (class_over nature meaning indexes of) w objects version 0

-- the version went from all of the indexes before a place
abbrev pub TakesFromAll : {I K : Type 0} → (I → Nature) → (K → Meaning) → List (Keyed I K) → Work → Work → ℕ → ℕ → Type 0
TakesFromAll nature meaning indexes before after version next =
    (of : Declared) → AreLawful (class_over nature meaning indexes of) → before.class ≡ of.number →
    (objects : List Object) → HasRowAt objects version →
    IsTakenUpTo (class_over nature meaning indexes of) before objects version 0 →
    IsTakenUpTo (class_over nature meaning indexes of) after objects version next
