use Rattle.std.proofs.Common.{◌≡◌, ◌++◌, drop}
use Rattle.rdb_model.specs.Index.{has_key}
use Rattle.rdb_model.specs.Answer.{ids_where}
use Rattle.rdb_model.proofs.lookups.ids_with_key.Given as goal

-- the ids so far, and those of the objects that are left, are those of all
abbrev pub invariant-loop-id : goal.invariant-loop-id
invariant-loop-id l = l.ids ++ ids_where (has_key l.fields l.wanted) (drop l.id-index l.objects) ≡ ids_where (has_key l.fields l.wanted) l.objects
