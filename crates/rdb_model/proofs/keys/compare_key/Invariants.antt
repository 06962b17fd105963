use Rattle.std.proofs.Common.{◌≡◌, ◌≤◌, drop, length}
use Rattle.rdb_base.specs.Order.{row_order}
use Rattle.rdb_model.specs.Index.{key}
use Rattle.rdb_model.proofs.keys.compare_key.Given as goal

-- the comparison of what is left is that of the whole
abbrev pub invariant-loop-field : goal.invariant-loop-field
invariant-loop-field l = record {
  in_range : l.place ≤ length l.wanted;
  left : row_order (key (drop l.field-index l.field-items) l.row) (drop l.place l.wanted) ≡ row_order (key l.fields l.row) l.wanted;
}
