-- What the calls that test a schema find, and the definition.
use Rattle.std.proofs.Common.{◌≤◌, length}
use Rattle.std.specs.List.{All}
use Rattle.rdb_schema.specs.declared.schema.Schema.{Schema}
use Rattle.rdb_schema.specs.Names.{IsName}
use Rattle.rdb_schema.specs.Checked.{IsGroupDeclared, IsClassDeclared}
use Rattle.rdb_schema.specs.Schemas.{IsSchema}

-- all of it is there
pub from_checks : (schema : Schema) → IsName schema.name → (length schema.groups ≤ 64) × All IsGroupDeclared schema.groups → (length schema.classes ≤ 64) × All (IsClassDeclared schema.groups) schema.classes → IsSchema schema
from_checks schema name groups classes = record {
  limits = record { few_groups = groups.0; groups = λ k d lt. (groups.1 k d lt).2; few_classes = classes.0; classes = λ k d lt. (classes.1 k d lt).2 };
  spelled = record { name = name; groups = λ k d lt. (groups.1 k d lt).0; classes = λ k d lt. (classes.1 k d lt).0 };
  resolved = record { groups = λ k d lt. (groups.1 k d lt).1; classes = λ k d lt. (classes.1 k d lt).1 };
  keyed = λ k d lt. (classes.1 k d lt).3;
}

-- the classes of a schema
pub to_classes : (schema : Schema) → IsSchema schema → (length schema.classes ≤ 64) × All (IsClassDeclared schema.groups) schema.classes
to_classes schema is = (is.limits.few_classes, λ k d lt. (is.spelled.classes k d lt, is.resolved.classes k d lt, is.limits.classes k d lt, is.keyed k d lt))
