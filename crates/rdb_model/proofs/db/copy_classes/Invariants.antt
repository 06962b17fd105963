use Rattle.std.proofs.Common.{◌≡◌, take}
use Rattle.rdb_model.proofs.db.copy_classes.Given as goal

-- the classes so far are copied
abbrev pub invariant-loop-objects : goal.invariant-loop-objects
invariant-loop-objects l = l.copies.items ≡ take l.objects-index l.classes
