use Rattle.std.proofs.Common.{◌≡◌, map, take}
use Rattle.rdb_schema.specs.Types.{value_type}
use Rattle.rdb_schema.proofs.types.class_types.Given as goal

abbrev pub invariant-loop-field : goal.invariant-loop-field
invariant-loop-field l = l.types ≡ map (λ f. value_type l.schema f.ty) (take l.field-index l.field-items)
