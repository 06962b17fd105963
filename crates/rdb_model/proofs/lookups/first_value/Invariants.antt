use Rattle.std.proofs.Common.{◌≡◌, drop, slice_get}
use Rattle.rdb_model.specs.Index.{key}
use Rattle.rdb_model.proofs.lookups.first_value.Given as goal

-- no field so far has a value
abbrev pub invariant-loop-field : goal.invariant-loop-field
invariant-loop-field l = slice_get (key (drop l.field-index l.field-items) l.row) 0 ≡ slice_get (key l.fields l.row) 0
