use Rattle.std.proofs.Common.{◌≡◌, List, take}
use Rattle.std.specs.List.{filter_map}
use Rattle.rdb_cells.specs.Keys.{says}
use Rattle.rdb_sight.specs.Versions.{Object}
use Rattle.rdb_store.specs.Holds.{Holds}
use Rattle.rdb_store.specs.Shapes.{nature_of_class}
use Rattle.rdb_cursor.proofs.Finding.{shown_id}
use Rattle.rdb_cursor.proofs.ids.ids_with_key.Given as goal

-- whatever objects the class holds, the ids so far are those that the versions so far give
abbrev pub invariant-loop-version : goal.invariant-loop-version
invariant-loop-version g l =
    (objects : List Object) → Holds (nature_of_class l.view.class.now) (g.C.Cells.image l.view.cells.now) (g.C.Cells.class_of l.view.cells.now) objects
    → l.ids.items ≡ filter_map (shown_id (g.M.Marks.marked l.view.marks.now) l.view.reader (says ((nature_of_class l.view.class.now).at l.index).keys (g.C.Cells.image l.view.cells.now)) objects) (take l.version-index l.version-items)
