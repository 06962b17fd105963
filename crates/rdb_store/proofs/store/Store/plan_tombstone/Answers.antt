use Rattle.std.proofs.Common.{◌≡◌, ◌<◌, ℕ, length, sym, ap, subst, ◌∙◌, arith}
use Rattle.rdb_cells.specs.References.{max_classes}
use Rattle.rdb_cells.specs.Work.{work}
use Rattle.rdb_cells.proofs.WorkLemmas.{at_most_then, none_at_most}
use Rattle.rdb_store.specs.Shapes.{ClassShape, shape_in}
use Rattle.rdb_store.proofs.KeptClasses.{is_kept}
use Rattle.rdb_store.proofs.OwnPlans.{own_then, plans_only}
use Rattle.rdb_store.proofs.StorePlans.{ready_for_death, can_take_by_death, puts_death}
use Rattle.rdb_store.proofs.store.Store.plan_tombstone.Goals as goal

pub put_death-version-requires-clause-class : goal.put_death-version-requires-clause-class
put_death-version-requires-clause-class g c =
    let same = c.objects-objects.ensures.class ∙ ap (λ (s : ClassShape). s.number) c.class-kept.ensures.shape ∙ c.class-kept.ensures.number in
    (c.objects-objects.ensures.few, c.requires.fresh.of_class ∙ sym same)

pub put_death-version-requires-clause-ready : goal.put_death-version-requires-clause-ready
put_death-version-requires-clause-ready g c =
    let shape = shape_in c.args.self.now c.args.new.now.class in
    let indexes = c.indexes-indexes.result.now in
    let kept = is_kept c.class-kept.result.now shape indexes c.class-kept.ensures.shape
    (subst (λ (n : ℕ). n < max_classes) c.objects-objects.ensures.class c.objects-objects.ensures.few) c.indexes-indexes.ensures.indexes c.indexes-indexes.ensures.shapes in
    let named = c.class-kept.ensures.number in
    let w = work g.C.Cells c.args.cells.now in
    ready_for_death shape indexes kept w c.args.new.now.class named c.requires.fresh c.args.new.now c.requires.serial c.requires.holds c.requires.object

pub put_death-version-requires-clause-places : goal.put_death-version-requires-clause-places
put_death-version-requires-clause-places g c =
    let empty : length c.args.cells.now.plan.pairs ≡ 0 = ap (λ ps. length ps) c.requires.fresh.empty in
    let room = c.requires.fresh.room in
    omega arith

pub take_replaced-requires-clause-class : goal.take_replaced-requires-clause-class
take_replaced-requires-clause-class g c =
    let same = c.objects-objects.ensures.class ∙ ap (λ (s : ClassShape). s.number) c.class-kept.ensures.shape ∙ c.class-kept.ensures.number in
    (c.objects-objects.ensures.few, c.put_death-version.ensures.below.1 ∙ c.requires.fresh.of_class ∙ sym same)

pub take_replaced-requires-clause-held : goal.take_replaced-requires-clause-held
take_replaced-requires-clause-held g c =
    let shape = shape_in c.args.self.now c.args.new.now.class in
    let indexes = c.indexes-indexes.result.now in
    let kept = is_kept c.class-kept.result.now shape indexes c.class-kept.ensures.shape
    (subst (λ (n : ℕ). n < max_classes) c.objects-objects.ensures.class c.objects-objects.ensures.few) c.indexes-indexes.ensures.indexes c.indexes-indexes.ensures.shapes in
    let named = c.class-kept.ensures.number in
    let w = work g.C.Cells c.args.cells.now in
    let put = work g.C.Cells c.put_death-version.new.cells in
    can_take_by_death shape indexes kept w c.args.new.now.class named c.requires.fresh c.args.new.now c.requires.serial
    put c.put_death-version.ensures.below.1 c.put_death-version.result.number c.put_death-version.ensures.puts c.requires.holds c.requires.replaces

pub take_replaced-requires-clause-places : goal.take_replaced-requires-clause-places
take_replaced-requires-clause-places g c =
    let empty : length c.args.cells.now.plan.pairs ≡ 0 = ap (λ ps. length ps) c.requires.fresh.empty in
    let room = c.put_death-version.ensures.room ∙ c.requires.fresh.room in
    let places = c.put_death-version.ensures.places in
    let few = c.indexes-indexes.ensures.indexes.few in
    omega arith

pub returns-clause-puts : goal.returns-clause-puts
returns-clause-puts g c =
    let shape = shape_in c.args.self.now c.args.new.now.class in
    let indexes = c.indexes-indexes.result.now in
    let kept = is_kept c.class-kept.result.now shape indexes c.class-kept.ensures.shape
    (subst (λ (n : ℕ). n < max_classes) c.objects-objects.ensures.class c.objects-objects.ensures.few) c.indexes-indexes.ensures.indexes c.indexes-indexes.ensures.shapes in
    let named = c.class-kept.ensures.number in
    let w = work g.C.Cells c.args.cells.now in
    let put = work g.C.Cells c.put_death-version.new.cells in
    puts_death shape indexes kept w c.args.new.now.class named c.requires.fresh c.args.new.now c.requires.serial
    put c.put_death-version.ensures.below.1 c.put_death-version.result.number (work g.C.Cells c.take_replaced.new.cells) c.take_replaced.ensures.takes
    c.put_death-version.ensures.puts

pub returns-clause-own : goal.returns-clause-own
returns-clause-own g c =
    let w = work g.C.Cells c.args.cells.now in
    let put = work g.C.Cells c.put_death-version.new.cells in
    let last = work g.C.Cells c.take_replaced.new.cells in
    let classes = ap g.C.Cells.class_of c.put_death-version.ensures.below.0 in
    plans_only c.args.new.now.class w last c.requires.fresh.empty c.requires.fresh.of_class
    (ap g.C.Cells.class_of c.take_replaced.ensures.below.0 ∙ classes)
    (own_then w put last classes c.put_death-version.ensures.below.1 c.put_death-version.ensures.own c.take_replaced.ensures.own)

pub returns-clause-claim : goal.returns-clause-claim
returns-clause-claim g c =
    let w = work g.C.Cells c.args.cells.now in
    let put = work g.C.Cells c.put_death-version.new.cells in
    let last = work g.C.Cells c.take_replaced.new.cells in
    at_most_then 1 0 w put last c.put_death-version.ensures.takes (none_at_most put last c.take_replaced.ensures.takes_none)
