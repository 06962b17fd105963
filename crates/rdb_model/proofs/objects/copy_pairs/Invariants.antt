use Rattle.std.proofs.Common.{◌≡◌, take}
use Rattle.rdb_model.proofs.objects.copy_pairs.Given as goal

-- the pairs so far are copied
abbrev pub invariant-loop-id : goal.invariant-loop-id
invariant-loop-id l = l.copies.items ≡ take l.id-index l.pairs
