-- The row at the place that was found is that of the id.
use Rattle.std.proofs.Common.{sym, subst, arith, []}
use Rattle.std.proofs.lemmas.List.{get_or_default}
use Rattle.rdb_model.specs.Database.{IsAscending}
use Rattle.rdb_model.proofs.ObjectsLemmas.{row_of_present, row_of_absent, none_before_at, none_at_gap}
use Rattle.rdb_model.proofs.objects.Objects.row.Goals as goal

pub returns-in-Ok : goal.returns-in-Ok
returns-in-Ok c =
    let ascending = subst IsAscending c.self.view_is c.self.invariant in
    let at = c.in-Ok.ensures.found in
    let value = row_of_present c.args.self.now c.args.id c.in-Ok.place at (none_before_at c.args.self.now ascending c.args.id c.in-Ok.place at) in
    let read = get_or_default c.args.self.now c.in-Ok.place c.index.result.now (0, []) at.in_range in
    grind (arith, c.self.view_is)

pub returns-in-Err : goal.returns-in-Err
returns-in-Err c = sym (row_of_absent c.args.self.now c.args.id (none_at_gap c.args.self.now c.args.id _ c.in-Err.ensures.absent))
