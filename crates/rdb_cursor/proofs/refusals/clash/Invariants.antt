use Rattle.std.proofs.Common.{◌≡◌, List, drop}
use Rattle.rdb_model.specs.Answer.{clash}
use Rattle.rdb_model.specs.Others.{others}
use Rattle.rdb_sight.specs.Versions.{Object}
use Rattle.rdb_store.specs.Holds.{Holds}
use Rattle.rdb_store.specs.Shapes.{nature_of_class}
use Rattle.rdb_cursor.specs.Views.{rows_of}
use Rattle.rdb_cursor.proofs.refusals.clash.Given as goal

-- whatever objects the class holds, the indexes so far have no clash
abbrev pub invariant-loop-place : goal.invariant-loop-place
invariant-loop-place g l =
    (objects : List Object) → Holds (nature_of_class l.view.class.now) (g.C.Cells.image l.view.cells.now) (g.C.Cells.class_of l.view.cells.now) objects
    → clash (drop l.place l.indexes) l.place l.row (others l.left_out (rows_of (g.M.Marks.marked l.view.marks.now) l.view.reader objects)) ≡ clash l.indexes 0 l.row (others l.left_out (rows_of (g.M.Marks.marked l.view.marks.now) l.view.reader objects))
