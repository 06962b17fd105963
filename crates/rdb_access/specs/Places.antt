-- Where fields stand in a row's bytes.
use Rattle.std.specs.Prelude.{◌≡◌, ◌≤◌, ℕ, List, [], ◌∷◌, length, take, drop, slice_get, Some}
use Rattle.std.specs.Option.{option_map_or}
use Rattle.rdb_schema.specs.declared.types.ValueType.{ValueType}
use Rattle.rdb_access.specs.declared.places.Step.{Step}
use Rattle.rdb_access.specs.declared.places.Place.{Place}
use Rattle.rdb_access.specs.declared.places.Table.{Table}
use Rattle.rdb_access.specs.Walk.{after_value, after_values}

-- what is left behind the field of a step, which begins so many bytes on
abbrev pub after_step : List ValueType → Step → List ℕ → List ℕ
after_step types step xs = option_map_or (λ t. after_value t (drop step.offset xs)) (slice_get types step.field) xs

-- what is left behind steps, one after another
abbrev pub after_steps : List ValueType → List Step → List ℕ → List ℕ
after_steps types [] xs = xs
after_steps types (s ∷ ss) xs = after_steps types ss (after_step types s xs)

-- a place says where the field of its number begins, whatever the bytes are: so many bytes behind the first so many steps
pub record IsPlace (types : List ValueType) (steps : List Step) (k : ℕ) (place : Place) : Type 0 where
  pub there : place.steps ≤ length steps
  pub begins : (xs : List ℕ) → after_values (take k types) xs ≡ drop place.offset (after_steps types (take place.steps steps) xs)

-- each place says where the field of its number begins
abbrev pub ArePlaces : List ValueType → List Step → List Place → Type 0
ArePlaces types steps places = (k : ℕ) (place : Place) → slice_get places k ≡ Some place → IsPlace types steps k place

-- a table has the place of each field
pub record IsTable (types : List ValueType) (table : Table) : Type 0 where
  pub whole : length table.places ≡ length types
  pub right : ArePlaces types table.steps table.places

-- a table has the places of the first fields, and behind its steps the next one begins so many bytes on
pub record IsTableTo (types : List ValueType) (field offset : ℕ) (table : Table) : Type 0 where
  pub whole : length table.places ≡ field
  pub right : ArePlaces types table.steps table.places
  pub here : (xs : List ℕ) → after_values (take field types) xs ≡ drop offset (after_steps types table.steps xs)
