use Rattle.std.proofs.Common.{arith}
use Rattle.rdb_cells.specs.Memory.{memory_image, memory_class}
use Rattle.rdb_writes.specs.Grounds.{IsWork}
use Rattle.rdb_writes.proofs.TestLemmas.{below_more, all_below}
use Rattle.rdb_writes.proofs.tests.are_works.Goals as goal

pub loop-slot-preserved : goal.loop-slot-preserved
loop-slot-preserved g c =
    below_more c.args.registry.now.seats
    (λ seat. IsWork (record { image = memory_image c.args.cells.now; class_of = memory_class c.args.cells.now; seats = c.args.registry.now.seats }) seat)
    c.loop-slot.slot c.loop-slot.invariant c.slot_works.ensures

pub returns : goal.returns
returns g c =
    let count = c.sound.ensures.count in
    let at_end = c.loop-slot-test.false in
    all_below c.args.registry.now.seats
    (λ seat. IsWork (record { image = memory_image c.args.cells.now; class_of = memory_class c.args.cells.now; seats = c.args.registry.now.seats }) seat)
    c.loop-slot.slot (omega (arith, count, at_end)) c.loop-slot.invariant
