use Rattle.std.proofs.Common.{sym, subst}
use Rattle.rdb_cells.specs.Overlays.{Laid}
use Rattle.rdb_cells.specs.Records.{planned}
use Rattle.rdb_cells.specs.Work.{work, reading}
use Rattle.rdb_objects.specs.Slots.{HoldsSome}
use Rattle.rdb_objects.proofs.TestLemmas.{starts_empty}
use Rattle.rdb_objects.proofs.tests.lay.Goals as goal

pub returns-clause-holds : goal.returns-clause-holds
returns-clause-holds g c =
    let image = g.C.Cells.image c.args.cells in
    subst (λ (o : Laid g.row.C.Denot). HoldsSome (reading (work g.C.Cells o)) 0) (sym c.over.ensures)
    (subst (λ (pairs : _). HoldsSome (planned pairs image) 0) (sym c.requires.plan) (starts_empty image c.requires.head))
