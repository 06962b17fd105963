use Rattle.std.proofs.Common.{◌≡◌, ◌++◌, drop}
use Rattle.rdb_model.specs.Index.{key}
use Rattle.rdb_model.specs.Answer.{ids_where, meets}
use Rattle.rdb_model.proofs.lookups.ids_with_box.Given as goal

-- the ids so far, and those of the objects that are left, are those of all
abbrev pub invariant-loop-id : goal.invariant-loop-id
invariant-loop-id l = l.ids ++ ids_where (λ row. meets l.rect l.inside (key l.fields row)) (drop l.id-index l.objects) ≡ ids_where (λ row. meets l.rect l.inside (key l.fields row)) l.objects
