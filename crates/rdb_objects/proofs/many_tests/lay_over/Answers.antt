use Rattle.std.proofs.Common.{List, Bor, sym, subst}
use Rattle.rdb_cells.specs.declared.pairs.Pair.{Pair}
use Rattle.rdb_cells.specs.Memory.{Memory, memory_image}
use Rattle.rdb_cells.specs.Overlays.{Laid}
use Rattle.rdb_cells.specs.Records.{planned}
use Rattle.rdb_objects.specs.Slots.{HoldsSome}
use Rattle.rdb_objects.proofs.many_tests.lay_over.Goals as goal

pub returns-clause-holds : goal.returns-clause-holds
returns-clause-holds c =
    let image = memory_image c.args.cells.now in
    subst (λ (o : Laid (Bor Memory)). HoldsSome (planned o.plan.pairs (memory_image o.cells.now)) 0) (sym c.over.ensures)
    (subst (λ (pairs : List Pair). HoldsSome (planned pairs image) 0) (sym c.requires.plan) c.requires.holds)
