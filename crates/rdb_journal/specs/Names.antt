-- Classes, indexes and events by the names that the schema gives them.
use Rattle.std.specs.Prelude.{ℕ, ◌<◌, List, [], ◌++◌, length, slice_get, codes, IsSomeAnd}
use Rattle.std.specs.Option.{option_map_or}
use Rattle.rdb_schema.specs.declared.schema.Schema.{Schema}

-- the name of a class, and nothing past the last class
abbrev pub class_name : Schema → ℕ → List ℕ
class_name schema class = option_map_or (λ declared. declared.name) (slice_get schema.classes class) []

-- the name of an index of a class, and nothing where there is none
abbrev pub index_name : Schema → ℕ → ℕ → List ℕ
index_name schema class index =
    option_map_or (λ declared. option_map_or (λ i. i.name) (slice_get declared.indexes index) []) (slice_get schema.classes class) []

-- the name of an event of a class, and nothing where there is none
abbrev pub event_name : Schema → ℕ → ℕ → List ℕ
event_name schema class event =
    option_map_or (λ declared. option_map_or (λ e. e.name) (slice_get declared.events event) []) (slice_get schema.classes class) []

-- an index as CLASS.INDEX
abbrev pub index_path : Schema → ℕ → ℕ → List ℕ
index_path schema class index = class_name schema class ++ codes "." ++ index_name schema class index

-- an event as CLASS.EVENT
abbrev pub event_path : Schema → ℕ → ℕ → List ℕ
event_path schema class event = class_name schema class ++ codes "." ++ event_name schema class event

-- the schema has a class of this number
abbrev pub HasClass : Schema → ℕ → Type 0
HasClass schema class = class < length schema.classes

-- the schema has a class of this number, and that class an index of this number
abbrev pub HasIndex : Schema → ℕ → ℕ → Type 0
HasIndex schema class index = IsSomeAnd (slice_get schema.classes class) (λ declared. index < length declared.indexes)

-- the schema has a class of this number, and that class an event of this number
abbrev pub HasEvent : Schema → ℕ → ℕ → Type 0
HasEvent schema class event = IsSomeAnd (slice_get schema.classes class) (λ declared. event < length declared.events)
