use Rattle.std.proofs.Common.{◌≡◌, ℕ, List, Some, slice_get, sym, subst}
use Rattle.std.specs.List.{Contains}
use Rattle.rdb_schema.specs.declared.schema.FieldType.{FieldType}
use Rattle.rdb_schema.specs.declared.types.ValueType.{ValueType}
use Rattle.rdb_schema.specs.declared.types.ValueType.TheVariants as values
use Rattle.rdb_rows.proofs.row_keys.RowKeys.of.Goals as goal

pub key_fields-requires : goal.key_fields-requires
key_fields-requires c field within =
    subst (λ (types : List ValueType). (ty : FieldType) × (slice_get types field ≡ Some (values.Leaf ty))) (sym c.in_ok-types.ensures)
    (c.requires field (subst (λ (ns : List ℕ). Contains ns field) c.numbers_of.ensures within))
