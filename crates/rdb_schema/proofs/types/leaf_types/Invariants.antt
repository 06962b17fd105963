use Rattle.std.proofs.Common.{◌≡◌, map, take}
use Rattle.rdb_schema.proofs.types.leaf_types.Given as goal

abbrev pub invariant-loop-field : goal.invariant-loop-field
invariant-loop-field l = l.types ≡ map (λ f. f.ty) (take l.field-index l.field-items)
