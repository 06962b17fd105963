use Rattle.std.proofs.Common.{◌∙◌, ℕ, sym, subst}
use Rattle.rdb_objects.specs.Slots.{HoldsSome, HoldsObjects}
use Rattle.rdb_sight.specs.Versions.{chain_of}
use Rattle.rdb_store.specs.Stored.{all_linked}
use Rattle.rdb_cursor.proofs.Looks.{none_shown, stands_from}
use Rattle.rdb_cursor.proofs.view.View.seen.Goals as goal

pub newest_version-requires-clause-holds : goal.newest_version-requires-clause-holds
newest_version-requires-clause-holds g c =
    let look = c.requires in
    subst (λ (n : ℕ). HoldsSome (g.C.Cells.image c.args.self.now.cells.now) n) (sym c.objects.ensures.class) (all_linked look.holds.0, look.holds.1.0.slots, look.holds.1.1.slots)

pub returns-in_err-newest_version : goal.returns-in_err-newest_version
returns-in_err-newest_version g c objects holds =
    c.from_residual.ensures
    ∙ none_shown c.args.self.now.class.now (g.C.Cells.image c.args.self.now.cells.now) (g.C.Cells.class_of c.args.self.now.cells.now) objects holds.0 holds.1 (g.M.Marks.marked c.args.self.now.marks.now) c.args.self.now.reader c.args.id
    (sym c.in_err-newest_version.was ∙ c.newest_version.ensures (all_linked objects) holds.0.slots (subst (λ (n : ℕ). HoldsObjects (g.C.Cells.image c.args.self.now.cells.now) n (all_linked objects) holds.0.slots) (sym c.objects.ensures.class) holds.1.slots))

pub seen_from-requires : goal.seen_from-requires
seen_from-requires g c =
    let look = c.requires in
    let objects = look.holds.0 in
    let holds = look.holds.1 in (
      c.args.id,
      chain_of objects c.args.id,
      stands_from c.args.self.now.class.now (g.C.Cells.image c.args.self.now.cells.now) (g.C.Cells.class_of c.args.self.now.cells.now) objects holds.0 holds.1 c.args.id c.in_ok-newest_version.field-0
          (sym c.in_ok-newest_version.was ∙ c.newest_version.ensures (all_linked objects) holds.0.slots (subst (λ (n : ℕ). HoldsObjects (g.C.Cells.image c.args.self.now.cells.now) n (all_linked objects) holds.0.slots) (sym c.objects.ensures.class) holds.1.slots)),
    )

pub returns : goal.returns
returns g c objects holds =
    c.seen_from.ensures c.args.id (chain_of objects c.args.id)
    (stands_from c.args.self.now.class.now (g.C.Cells.image c.args.self.now.cells.now) (g.C.Cells.class_of c.args.self.now.cells.now) objects holds.0 holds.1 c.args.id c.in_ok-newest_version.field-0
    (sym c.in_ok-newest_version.was ∙ c.newest_version.ensures (all_linked objects) holds.0.slots (subst (λ (n : ℕ). HoldsObjects (g.C.Cells.image c.args.self.now.cells.now) n (all_linked objects) holds.0.slots) (sym c.objects.ensures.class) holds.1.slots)))
