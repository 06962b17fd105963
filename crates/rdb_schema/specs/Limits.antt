-- Schemas that have no more of anything than the rules allow.
use Rattle.std.specs.Prelude.{◌≤◌, All, length}
use Rattle.rdb_schema.specs.declared.schema.IndexDecl.{IndexDecl}
use Rattle.rdb_schema.specs.declared.schema.Group.{Group}
use Rattle.rdb_schema.specs.declared.schema.Class.{Class}
use Rattle.rdb_schema.specs.declared.schema.Schema.{Schema}

abbrev pub IsSmallGroup : Group → Type 0
IsSmallGroup group = length group.fields ≤ 32

abbrev pub IsShortKey : IndexDecl → Type 0
IsShortKey index = length index.key ≤ 4

pub record IsSmallClass (class : Class) : Type 0 where
  pub fields : length class.fields ≤ 32
  pub indexes : length class.indexes ≤ 8
  pub keys : All IsShortKey class.indexes
  pub events : length class.events ≤ 8

-- structs and classes, the fields of each, and the indexes, their keys and the events of each class
pub record IsWithinLimits (schema : Schema) : Type 0 where
  pub few_groups : length schema.groups ≤ 64
  pub groups : All IsSmallGroup schema.groups
  pub few_classes : length schema.classes ≤ 64
  pub classes : All IsSmallClass schema.classes
