use Rattle.rdb_cells.proofs.seen.SeenCells.free_after.Goals as goal

pub returns-in-Bare-clause-none : goal.returns-in-Bare-clause-none
returns-in-Bare-clause-none g c = rw c.in-Bare.is c.free_after.ensures.none

pub returns-in-Settled-clause-none : goal.returns-in-Settled-clause-none
returns-in-Settled-clause-none g c = rw c.in-Settled.is c.free_after-in-Settled.ensures.none
