use Rattle.std.proofs.Common.{◌≡◌}
use Rattle.rdb_store.specs.Shapes.{shapes_from}
use Rattle.rdb_store.proofs.store.Store.of.Given as goal

abbrev pub invariant-loop-number : goal.invariant-loop-number
invariant-loop-number l = l.classes ≡ shapes_from l.schema 0 l.number
