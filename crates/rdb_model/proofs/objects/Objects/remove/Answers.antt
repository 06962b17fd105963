-- The object at the place that was found goes.
use Rattle.std.proofs.Common.{sym, subst}
use Rattle.rdb_model.specs.Database.{IsAscending}
use Rattle.rdb_model.proofs.ObjectsLemmas.{without_at, without_absent, none_at_gap}
use Rattle.rdb_model.proofs.objects.Objects.remove.Goals as goal

pub returns-in-Ok : goal.returns-in-Ok
returns-in-Ok c =
    let ascending = subst IsAscending c.self.view_is c.self.invariant in
    rw (c.remove.ensures.items, c.self.view_is) (sym (without_at c.args.self.now c.args.id c.in-Ok.place c.in-Ok.ensures.found ascending))

pub returns-in_default : goal.returns-in_default
returns-in_default c = sym (without_absent c.args.self.now c.args.id (none_at_gap c.args.self.now c.args.id _ c.in_default.ensures.absent))
