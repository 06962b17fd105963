-- The names of a schema, and the fields and structs that are named by their place.
use Rattle.std.specs.Prelude.{◌≡◌, ◌≤◌, ◌||◌, ◌==◌, ℕ, Bool, true, List, [], length, slice_get, slice_index, Option, Some, None}
use Rattle.std.specs.List.{AllPass}
use Rattle.std.specs.Char.{is_ascii_digit, is_ascii_alphabetic}
use Rattle.rdb_schema.specs.declared.schema.Field.{Field}
use Rattle.rdb_schema.specs.declared.schema.Group.{Group}
use Rattle.rdb_schema.specs.Keyword.{keyword_of}

-- letters and the underscore begin a name, and digits go on with it
abbrev pub begins_name : ℕ → Bool
begins_name byte = is_ascii_alphabetic byte || byte == 95

abbrev pub is_name_byte : ℕ → Bool
is_name_byte byte = begins_name byte || is_ascii_digit byte

-- at most 32 letters, digits and underscores, of which the first is no digit
pub record IsWord (name : List ℕ) : Type 0 where
  pub begins : begins_name (slice_index name 0) ≡ true
  pub goes_on : AllPass is_name_byte name
  pub short : length name ≤ 32

-- such a word that isn't reserved
pub record IsName (name : List ℕ) : Type 0 where
  pub word : IsWord name
  pub free : keyword_of name ≡ None

-- the name of the struct at a place, and of the field, and nothing where there is none
abbrev pub name_of_group : Option Group → List ℕ
name_of_group None = []
name_of_group (Some group) = group.name

abbrev pub name_of_field : Option Field → List ℕ
name_of_field None = []
name_of_field (Some field) = field.name

unfoldable pub group_name : List Group → ℕ → List ℕ
group_name groups place = name_of_group (slice_get groups place)

unfoldable pub field_name : List Field → ℕ → List ℕ
field_name fields place = name_of_field (slice_get fields place)
