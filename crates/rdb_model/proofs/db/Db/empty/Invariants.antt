use Rattle.std.proofs.Common.{◌≡◌}
use Rattle.rdb_model.specs.Database.{empty}
use Rattle.rdb_model.proofs.db.Db.empty.Given as goal

-- the classes so far have no object
abbrev pub invariant-loop-class : goal.invariant-loop-class
invariant-loop-class l = l.made.items ≡ empty l._class
