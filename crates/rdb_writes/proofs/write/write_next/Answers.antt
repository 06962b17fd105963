use Rattle.std.proofs.Common.{refl, inr}
use Rattle.rdb_registry.specs.Seats.{with_hand}
use Rattle.rdb_writes.specs.Grounds.{ground}
use Rattle.rdb_writes.proofs.StepLemmas.{next_written}
use Rattle.rdb_writes.proofs.WorkLemmas.{works_on_cells}
use Rattle.rdb_writes.proofs.write.write_next.Goals as goal

pub write_planned-requires-clause-cells : goal.write_planned-requires-clause-cells
write_planned-requires-clause-cells g c = λ n named.
    works_on_cells (ground g.C.Cells c.args.cells.now c.args.registry.now) c.args.c c.seat_mut-hand.result.now c.requires.works c.bounded.ensures.cells
    c.seat_mut-hand.ensures.value n (inr named)

pub returns-clause-written : goal.returns-clause-written
returns-clause-written g c =
    (next_written c.args.manager (ground g.C.Cells c.args.cells.now c.args.registry.now)
    (ground g.C.Cells c.write_planned.new.cells (record c.args.registry.now { seats = with_hand c.args.registry.now.seats c.args.c.slot c.end_plan.new.hand }))
    c.args.c c.seat_mut-hand.result.now c.write_planned.new.hand c.end_plan.new.hand c.end_plan.result c.seat_mut-hand.ensures.value
    c.sound.ensures.one_holder c.requires.works c.write_planned.ensures.written c.write_planned.ensures.classes c.end_plan.ensures.hand refl
    c.end_plan.ensures.last).0

pub returns-clause-works : goal.returns-clause-works
returns-clause-works g c =
    (next_written c.args.manager (ground g.C.Cells c.args.cells.now c.args.registry.now)
    (ground g.C.Cells c.write_planned.new.cells (record c.args.registry.now { seats = with_hand c.args.registry.now.seats c.args.c.slot c.end_plan.new.hand }))
    c.args.c c.seat_mut-hand.result.now c.write_planned.new.hand c.end_plan.new.hand c.end_plan.result c.seat_mut-hand.ensures.value
    c.sound.ensures.one_holder c.requires.works c.write_planned.ensures.written c.write_planned.ensures.classes c.end_plan.ensures.hand refl
    c.end_plan.ensures.last).1
