use Rattle.std.proofs.Common.{◌≡◌, [], subst, arith}
use Rattle.rdb_cells.specs.Memory.{memory_image, memory_class}
use Rattle.rdb_cells.specs.Untaken.{HasUntaken}
use Rattle.rdb_rows.proofs.Rooms.{counted_more, all_counted}
use Rattle.rdb_rows.proofs.tests.has_free.Goals as goal

pub loop-preserved : goal.loop-preserved
loop-preserved g c =
    counted_more (memory_image c.args.cells.now) (memory_class c.args.cells.now) c.args.class c.loop.last.number c.loop.counter c.in-Some.at.number c.loop.invariant c.in-Some.ensures.found

pub returns : goal.returns
returns g c =
    let most = c.loop.auto.counter-end in
    let least = c.loop-test.false in
    let all : c.loop.counter ≡ c.args.many = omega arith in
    subst (HasUntaken [] (memory_image c.args.cells.now) (memory_class c.args.cells.now) c.args.class 0) all
    (all_counted (memory_image c.args.cells.now) (memory_class c.args.cells.now) c.args.class c.loop.last.number c.loop.counter c.loop.invariant)
