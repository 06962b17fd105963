use Rattle.std.proofs.Common.{◌-◌, length, refl, inl, arith, ◌<◌}
use Rattle.rdb_registry.specs.Seats.{with_hand}
use Rattle.rdb_writes.specs.Grounds.{ground}
use Rattle.rdb_writes.proofs.PlanLemmas.{pair_at}
use Rattle.rdb_writes.proofs.StepLemmas.{back_taken}
use Rattle.rdb_writes.proofs.WorkLemmas.{works_on_cells, lent_has}
use Rattle.rdb_writes.proofs.take_back.take_newest_back.Goals as goal

pub take_back-requires : goal.take_back-requires
take_back-requires g c =
    let hand = c.seat_mut-hand.result.now in
    let some = lent_has (λ h. 0 < length h.undo.pairs) c.args.registry.now.seats c.args.c hand c.seat_mut-hand.ensures.value c.requires.logged in
    pair_at (g.C.Cells.image c.args.cells.now) hand.undo.pairs (length hand.undo.pairs - 1)
    (λ n named. works_on_cells (ground g.C.Cells c.args.cells.now c.args.registry.now) c.args.c hand c.requires.works c.bounded.ensures.cells c.seat_mut-hand.ensures.value n (inl named))
    (omega (arith, some))

pub returns-clause-back : goal.returns-clause-back
returns-clause-back g c =
    let hand = c.seat_mut-hand.result.now in
    let now = record hand { undo = c.take_back.new.undo; plan = c.clear.new.self } in
    (back_taken (ground g.C.Cells c.args.cells.now c.args.registry.now)
    (ground g.C.Cells c.take_back.new.cells (record c.args.registry.now { seats = with_hand c.args.registry.now.seats c.args.c.slot now }))
    c.args.c hand now c.seat_mut-hand.ensures.value c.sound.ensures.one_holder c.requires.works c.take_back.ensures.back c.clear.ensures refl
    c.take_back.ensures.classes refl).0

pub returns-clause-works : goal.returns-clause-works
returns-clause-works g c =
    let hand = c.seat_mut-hand.result.now in
    let now = record hand { undo = c.take_back.new.undo; plan = c.clear.new.self } in
    (back_taken (ground g.C.Cells c.args.cells.now c.args.registry.now)
    (ground g.C.Cells c.take_back.new.cells (record c.args.registry.now { seats = with_hand c.args.registry.now.seats c.args.c.slot now }))
    c.args.c hand now c.seat_mut-hand.ensures.value c.sound.ensures.one_holder c.requires.works c.take_back.ensures.back c.clear.ensures refl
    c.take_back.ensures.classes refl).1
