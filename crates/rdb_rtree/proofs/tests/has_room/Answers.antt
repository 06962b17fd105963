use Rattle.std.proofs.Common.{◌≡◌, [], subst, arith}
use Rattle.rdb_cells.specs.Untaken.{HasUntaken}
use Rattle.rdb_rtree.proofs.FreeCells.{none_counted, counted_more, all_counted}
use Rattle.rdb_rtree.proofs.tests.has_room.Goals as goal

pub loop-init : goal.loop-init
loop-init g c = none_counted (g.C.Cells.image c.args.cells.now) (g.C.Cells.class_of c.args.cells.now) c.args.class

pub loop-preserved : goal.loop-preserved
loop-preserved g c =
    counted_more (g.C.Cells.image c.args.cells.now) (g.C.Cells.class_of c.args.cells.now) c.args.class c.loop.last.number c.loop.counter c.in-Some.at.number c.loop.invariant c.in-Some.ensures.found

pub returns : goal.returns
returns g c =
    let most = c.loop.auto.counter-end in
    let least = c.loop-test.false in
    let all : c.loop.counter ≡ c.args.count = omega arith in
    subst (HasUntaken [] (g.C.Cells.image c.args.cells.now) (g.C.Cells.class_of c.args.cells.now) c.args.class 0) all
    (all_counted (g.C.Cells.image c.args.cells.now) (g.C.Cells.class_of c.args.cells.now) c.args.class c.loop.last.number c.loop.counter c.loop.invariant)
