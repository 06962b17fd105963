-- Where fields begin in a row's bytes: the fields of one size are joined into offsets, and those that vary in size are steps.
use Rattle.std.specs.Prelude.{◌≡◌, ◌<◌, ℕ, suc, map, List, [], ◌∷◌, ◌++◌, length, drop, slice_get, Some, true}
use Rattle.rdb_base.specs.declared.value.Value.{Value}
use Rattle.rdb_schema.specs.declared.types.ValueType.{ValueType}
use Rattle.rdb_schema.specs.declared.types.ValueType.TheVariants as values
use Rattle.rdb_schema.specs.Encoding.{row_bytes}
use Rattle.rdb_schema.specs.Types.{row_fits}
use Rattle.rdb_rows.specs.declared.places.Step.{Step}
use Rattle.rdb_rows.specs.declared.places.Place.{Place}
use Rattle.rdb_rows.specs.declared.key_fields.KeyField.{KeyField}

-- in a row these bytes stand between where one field begins and where another does
pub record IsBetween (types : List ValueType) (row : List Value) (start end offset : ℕ) : Type 0 where
  pub bytes : List ℕ
  pub long : length bytes ≡ offset
  pub here : row_bytes (drop start types) (drop start row) ≡ bytes ++ row_bytes (drop end types) (drop end row)

-- whatever row it is, one field begins so many bytes behind another
abbrev pub AreApart : List ValueType → ℕ → ℕ → ℕ → Type 0
AreApart types start end offset = (row : List Value) → row_fits types row ≡ true → IsBetween types row start end offset

-- each step is at a field that begins so many bytes behind the one after the step before it
abbrev pub AreSteps : List ValueType → ℕ → List Step → Type 0
AreSteps types start [] = Unit {0}
AreSteps types start (s ∷ ss) = (s.field < length types) × AreApart types start s.field s.offset × AreSteps types (suc s.field) ss

-- the field that stands behind steps
abbrev pub behind : ℕ → List Step → ℕ
behind start [] = start
behind start (s ∷ ss) = behind (suc s.field) ss

-- a place says where the field of a number begins: so many bytes behind its steps
pub record IsPlace (types : List ValueType) (field : ℕ) (place : Place) : Type 0 where
  pub steps : AreSteps types 0 place.steps
  pub offset : AreApart types (behind 0 place.steps) field place.offset

-- a field of a key is a leaf of its type, and its place says where it begins
pub record IsKeyField (types : List ValueType) (f : KeyField) : Type 0 where
  pub leaf : slice_get types f.field ≡ Some (values.Leaf f.ty)
  pub place : IsPlace types f.field f.place

-- each of them is
abbrev pub AreKeyFields : List ValueType → List KeyField → Type 0
AreKeyFields types [] = Unit {0}
AreKeyFields types (f ∷ fs) = IsKeyField types f × AreKeyFields types fs

-- the numbers of a key's fields
abbrev pub numbers_in : List KeyField → List ℕ
numbers_in fields = map (λ f. f.field) fields
