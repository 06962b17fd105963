use Rattle.rdb_cursor.proofs.Passing.{passed_by, passing_first, passing_more, passing_never}
use Rattle.rdb_cursor.proofs.seek.seek.Goals as goal

pub loop-init : goal.loop-init
loop-init g c = passing_first c.args.view.now.class.now c.args.index (g.C.Cells.image c.args.view.now.cells.now) (g.C.Cells.class_of c.args.view.now.cells.now) (g.M.Marks.marked c.args.view.now.marks.now) c.args.view.now.reader c.args.up c.args.place.now c.in-Passed.next (passed_by c.args.view.now.class.now c.args.index (g.C.Cells.image c.args.view.now.cells.now) (g.C.Cells.class_of c.args.view.now.cells.now) (g.M.Marks.marked c.args.view.now.marks.now) c.args.view.now.reader c.args.up c.args.place.now c.in_ok-reply.field-0 c.in-Passed.next c.in-Passed.is c.in_ok-reply.ensures)

pub step_from-requires-in-loop-clause-place : goal.step_from-requires-in-loop-clause-place
step_from-requires-in-loop-clause-place g c = c.loop.invariant.fits

pub loop-preserved : goal.loop-preserved
loop-preserved g c =
    passing_more c.args.view.now.class.now c.args.index (g.C.Cells.image c.args.view.now.cells.now) (g.C.Cells.class_of c.args.view.now.cells.now) (g.M.Marks.marked c.args.view.now.marks.now) c.args.view.now.reader c.args.up c.args.place.now c.loop.passed c.in-Passed-2.next c.loop.counter c.loop.invariant (passed_by c.args.view.now.class.now c.args.index (g.C.Cells.image c.args.view.now.cells.now) (g.C.Cells.class_of c.args.view.now.cells.now) (g.M.Marks.marked c.args.view.now.marks.now) c.args.view.now.reader c.args.up c.loop.passed c.in_ok-reply-2.field-0 c.in-Passed-2.next c.in-Passed-2.is c.in_ok-reply-2.ensures)

pub unreachable-requires : goal.unreachable-requires
unreachable-requires g c =
    passing_never c.args.view.now.class.now c.args.index (g.C.Cells.image c.args.view.now.cells.now) (g.C.Cells.class_of c.args.view.now.cells.now) (g.M.Marks.marked c.args.view.now.marks.now) c.args.view.now.reader c.args.up
    c.requires.look c.requires.index c.bounded.ensures c.args.place.now c.loop.passed c.loop.counter c.loop.invariant c.loop-test.false
