use Rattle.std.proofs.Common.{◌≤◌, List}
use Rattle.rdb_objects.specs.Objects.{Object as Linked}
use Rattle.rdb_objects.specs.Order.{ListsInOrder}
use Rattle.rdb_sight.specs.Versions.{Object}
use Rattle.rdb_shown.proofs.ChainMaps.{rises_from}
use Rattle.rdb_store.specs.Holds.{Holds}
use Rattle.rdb_store.specs.Shapes.{nature_of_class}
use Rattle.rdb_cursor.proofs.Counting.{IsCounting}
use Rattle.rdb_cursor.proofs.replies.count.Given as goal

-- whatever objects the class holds, in the order in which they come those before the next one were counted
abbrev pub invariant-loop : goal.invariant-loop
invariant-loop g l = record {
  so_far : (objects : List Object) (holds : Holds (nature_of_class l.view.class.now) (g.C.Cells.image l.view.cells.now) (g.C.Cells.class_of l.view.cells.now) objects)
      (ordered : List Linked) (lists : ListsInOrder (g.C.Cells.image l.view.cells.now) l.view.class.now.number ordered) →
      IsCounting l.view.class.now (g.C.Cells.image l.view.cells.now) (g.C.Cells.class_of l.view.cells.now) objects holds.0 holds.1 (rises_from objects holds.1.ascending) ordered lists
      (g.M.Marks.marked l.view.marks.now) l.view.reader l.counter l.next l.count;
  few : l.count ≤ l.counter;
}
