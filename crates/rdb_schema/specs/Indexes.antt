-- The indexes of a class: their keys' fields, and their kinds.
use Rattle.std.specs.Prelude.{ℕ, Bool, true, false, List, [], slice_get}
use Rattle.std.specs.List.{filter_map}
use Rattle.std.specs.Option.{option_map_or}
use Rattle.rdb_schema.specs.declared.schema.Field.{Field}
use Rattle.rdb_schema.specs.declared.schema.IndexDecl.{IndexDecl}
use Rattle.rdb_schema.specs.declared.schema.IndexKind.{IndexKind}
use Rattle.rdb_schema.specs.declared.schema.IndexKind.TheVariants as index_kind
use Rattle.rdb_schema.specs.declared.schema.Schema.{Schema}

-- the fields of a class
abbrev pub class_fields : Schema → ℕ → List Field
class_fields schema class = option_map_or (λ c. c.fields) (slice_get schema.classes class) []

-- the indexes of a class
abbrev pub indexes_of : Schema → ℕ → List IndexDecl
indexes_of schema class = option_map_or (λ c. c.indexes) (slice_get schema.classes class) []

-- the numbers of the fields of an index's key
abbrev pub fields_of : Schema → ℕ → ℕ → List ℕ
fields_of schema class index = option_map_or (λ i. i.key) (slice_get (indexes_of schema class) index) []

-- the declarations of the fields of an index's key
abbrev pub key_fields : Schema → ℕ → ℕ → List Field
key_fields schema class index = option_map_or (λ c. filter_map (slice_get c.fields) (fields_of schema class index)) (slice_get schema.classes class) []

-- the tests of an index's kind
abbrev pub finds_keys : IndexKind → Bool
finds_keys index_kind.Hash = true
finds_keys index_kind.Tree = true
finds_keys _ = false

abbrev pub is_tree : IndexKind → Bool
is_tree index_kind.Tree = true
is_tree _ = false

abbrev pub is_rtree : IndexKind → Bool
is_rtree index_kind.Rtree = true
is_rtree _ = false

abbrev pub is_patricia : IndexKind → Bool
is_patricia index_kind.Patricia = true
is_patricia _ = false
