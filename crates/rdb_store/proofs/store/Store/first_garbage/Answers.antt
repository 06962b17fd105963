use Rattle.std.proofs.Common.{ℕ, sym, ap, subst, ◌∙◌}
use Rattle.rdb_store.specs.FirstGarbage.{HoldsChains}
use Rattle.rdb_store.specs.Shapes.{ClassShape, class_in}
use Rattle.rdb_store.proofs.HeldChains.{holds_chains}
use Rattle.rdb_store.proofs.store.Store.first_garbage.Goals as goal

pub first_garbage-requires-clause-holds : goal.first_garbage-requires-clause-holds
first_garbage-requires-clause-holds g c =
    let image = g.C.Cells.image c.args.cells.now in
    let held = c.requires.holds in (
      held.0,
      subst (λ (n : ℕ). HoldsChains image n held.0) (sym (c.objects.ensures.class ∙ ap (λ (s : ClassShape). s.number) c.class.ensures.shape))
          (holds_chains (class_in c.args.self.now c.args.class) image (g.C.Cells.class_of c.args.cells.now) held.0 held.1),
    )

pub returns : goal.returns
returns g c objects holds =
    let image = g.C.Cells.image c.args.cells.now in
    c.first_garbage.ensures objects
    (subst (λ (n : ℕ). HoldsChains image n objects) (sym (c.objects.ensures.class ∙ ap (λ (s : ClassShape). s.number) c.class.ensures.shape))
    (holds_chains (class_in c.args.self.now c.args.class) image (g.C.Cells.class_of c.args.cells.now) objects holds))
