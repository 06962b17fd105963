use Rattle.std.proofs.Common.{◌≡◌, drop}
use Rattle.rdb_model.specs.Index.{key}
use Rattle.rdb_model.specs.Others.{others, first_with}
use Rattle.rdb_model.proofs.clash.find_holder.Given as goal

-- no object so far has the key
abbrev pub invariant-loop-id : goal.invariant-loop-id
invariant-loop-id l = first_with l.fields (key l.fields l.row) (others l.left_out (drop l.id-index l.objects)) ≡ first_with l.fields (key l.fields l.row) (others l.left_out l.objects)
