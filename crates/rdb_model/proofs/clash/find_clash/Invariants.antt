use Rattle.std.proofs.Common.{◌≡◌, drop}
use Rattle.rdb_model.specs.Answer.{clash}
use Rattle.rdb_model.specs.Others.{others}
use Rattle.rdb_model.proofs.clash.find_clash.Given as goal

-- the indexes so far have no clash
abbrev pub invariant-loop-index : goal.invariant-loop-index
invariant-loop-index l = record {
  counted : l.number ≡ l.index-index;
  left : clash (drop l.index-index l.index-items) l.number l.row (others l.left_out l.objects) ≡ clash l.indexes 0 l.row (others l.left_out l.objects);
}
