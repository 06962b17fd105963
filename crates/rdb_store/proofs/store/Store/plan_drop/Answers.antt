use Rattle.std.proofs.Common.{◌≡◌, ◌<◌, ℕ, length, sym, ap, subst, ◌∙◌, arith}
use Rattle.rdb_cells.specs.References.{max_classes}
use Rattle.rdb_cells.specs.Work.{work}
use Rattle.rdb_store.specs.Shapes.{ClassShape, shape_in}
use Rattle.rdb_store.proofs.KeptClasses.{is_kept}
use Rattle.rdb_store.proofs.OwnPlans.{plans_only}
use Rattle.rdb_store.proofs.StorePlans.{stands_held, drops_it}
use Rattle.rdb_store.proofs.store.Store.plan_drop.Goals as goal

pub take_out-requires-clause-class : goal.take_out-requires-clause-class
take_out-requires-clause-class g c =
    let same = c.objects-objects.ensures.class ∙ ap (λ (s : ClassShape). s.number) c.class-kept.ensures.shape ∙ c.class-kept.ensures.number in
    (c.objects-objects.ensures.few, c.requires.fresh.of_class ∙ sym same)

pub take_out-requires-clause-held : goal.take_out-requires-clause-held
take_out-requires-clause-held g c =
    let shape = shape_in c.args.self.now c.args.class in
    let indexes = c.indexes-indexes.result.now in
    let kept = is_kept c.class-kept.result.now shape indexes c.class-kept.ensures.shape
    (subst (λ (n : ℕ). n < max_classes) c.objects-objects.ensures.class c.objects-objects.ensures.few) c.indexes-indexes.ensures.indexes c.indexes-indexes.ensures.shapes in
    let named = c.class-kept.ensures.number in
    let w = work g.C.Cells c.args.cells.now in
    stands_held shape indexes kept w c.args.class named c.requires.fresh c.args.version c.requires.holds c.requires.version

pub take_out-requires-clause-places : goal.take_out-requires-clause-places
take_out-requires-clause-places g c =
    let empty : length c.args.cells.now.plan.pairs ≡ 0 = ap (λ ps. length ps) c.requires.fresh.empty in
    let room = c.requires.fresh.room in
    let few = c.indexes-indexes.ensures.indexes.few in
    omega arith

pub returns-clause-drops : goal.returns-clause-drops
returns-clause-drops g c =
    let shape = shape_in c.args.self.now c.args.class in
    let indexes = c.indexes-indexes.result.now in
    let kept = is_kept c.class-kept.result.now shape indexes c.class-kept.ensures.shape
    (subst (λ (n : ℕ). n < max_classes) c.objects-objects.ensures.class c.objects-objects.ensures.few) c.indexes-indexes.ensures.indexes c.indexes-indexes.ensures.shapes in
    let named = c.class-kept.ensures.number in
    let w = work g.C.Cells c.args.cells.now in
    drops_it shape indexes kept w c.args.class named c.requires.fresh (work g.C.Cells c.take_out.new.cells) c.args.version.number c.take_out.ensures.drops

pub returns-clause-own : goal.returns-clause-own
returns-clause-own g c =
    let w = work g.C.Cells c.args.cells.now in
    plans_only c.args.class w (work g.C.Cells c.take_out.new.cells) c.requires.fresh.empty c.requires.fresh.of_class
    (ap g.C.Cells.class_of c.take_out.ensures.below.0) c.take_out.ensures.own
