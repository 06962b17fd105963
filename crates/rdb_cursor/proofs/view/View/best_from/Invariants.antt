use Rattle.std.proofs.Common.{ℕ, List}
use Rattle.rdb_sight.specs.Versions.{Version}
use Rattle.rdb_cursor.specs.Views.{StandsFrom}
use Rattle.rdb_cursor.proofs.Walks.{IsWalking}
use Rattle.rdb_cursor.proofs.view.View.best_from.Given as goal

-- whatever versions stand from the newest on, the walk has come so far
abbrev pub invariant-loop : goal.invariant-loop
invariant-loop g l =
    (id : ℕ) (chain : List Version) → StandsFrom l.self.class.now (g.C.Cells.image l.self.cells.now) l.fn.newest id chain → IsWalking (g.M.Marks.marked l.self.marks.now) l.self.reader chain l.counter l.at l.best
