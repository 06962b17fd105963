-- The row is written over the one that the id had, or goes into the gap for it.
use Rattle.std.proofs.Common.{sym, subst}
use Rattle.rdb_model.specs.Database.{IsAscending}
use Rattle.rdb_model.proofs.ObjectsLemmas.{with_row_at, with_row_gap, smaller_before_at}
use Rattle.rdb_model.proofs.objects.Objects.put.Goals as goal

pub returns-in-Ok-clause-ok : goal.returns-in-Ok-clause-ok
returns-in-Ok-clause-ok c =
    let ascending = subst IsAscending c.self.view_is c.self.invariant in
    let at = c.in-Ok.ensures.found in
    rw c.self.view_is (sym (with_row_at c.args.self.now c.args.id c.args.row c.in-Ok.place at (smaller_before_at c.args.self.now ascending c.args.id c.in-Ok.place at)))

pub returns-in_ok-insert-in-Err-clause-ok : goal.returns-in_ok-insert-in-Err-clause-ok
returns-in_ok-insert-in-Err-clause-ok c =
    rw (c.in_ok-insert-in-Err.ensures.items, c.self.view_is) (sym (with_row_gap c.args.self.now c.args.id c.args.row _ c.in-Err.ensures.absent))
