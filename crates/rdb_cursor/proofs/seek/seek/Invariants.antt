use Rattle.rdb_cursor.proofs.Passing.{IsPassing}
use Rattle.rdb_cursor.proofs.seek.seek.Given as goal

-- from the place that was passed last a seek finds what it finds from the first one, and fewer versions are left than there were
abbrev pub invariant-loop : goal.invariant-loop
invariant-loop g l =
    IsPassing l.view.class.now l.index (g.C.Cells.image l.view.cells.now) (g.C.Cells.class_of l.view.cells.now) (g.M.Marks.marked l.view.marks.now) l.view.reader l.up l.fn.place l.counter l.passed
