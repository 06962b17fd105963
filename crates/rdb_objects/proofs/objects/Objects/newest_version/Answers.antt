use Rattle.std.proofs.Common.{◌≡◌, sym, ap, rules}
use Rattle.std.specs.List.{slice_get}
use Rattle.rdb_objects.proofs.ObjectLemmas.{none_found}
use Rattle.rdb_objects.proofs.objects.Objects.newest_version.Goals as goal

pub returns-then-eq : goal.returns-then-eq
returns-then-eq g c objects cells holds =
    let none : c.find-found.result.slot.number ≡ 0 = search rules in
    sym (ap (λ (vs : _). slice_get vs 0) (none_found (g.C.Cells.image c.args.cells.now) c.args.self.class c.args.id c.find-found.result objects cells holds (c.find-found.ensures holds.slots holds.tree) none))
