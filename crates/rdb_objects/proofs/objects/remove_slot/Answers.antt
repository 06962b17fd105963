use Rattle.std.proofs.Common.{◌≡◌, ◌≢◌, ◌<◌, ◌^◌, length, Some, sym, ap, ap₂, subst, ◌∙◌, refl, rules}
use Rattle.rdb_pages.specs.Pages.{zero_cell}
use Rattle.rdb_cells.specs.declared.formats.object.ObjectSlot.{ObjectSlot}
use Rattle.rdb_cells.specs.ObjectFormat.{IsSlot}
use Rattle.rdb_cells.specs.Work.{Work, work, reading}
use Rattle.rdb_cells.proofs.WorkLemmas.{put_work, put_is}
use Rattle.rdb_objects.specs.Changes.{RemovesVersion}
use Rattle.rdb_objects.proofs.RemovingSlots.{removes_leaf}
use Rattle.rdb_objects.proofs.Moving.{removes_moved}
use Rattle.rdb_objects.proofs.objects.remove_slot.Goals as goal

pub returns-then-eq-clause-removes : goal.returns-then-eq-clause-removes
returns-then-eq-clause-removes g c =
    let w = work g.C.Cells c.args.cells.now in
    let leaf = c.lowest_leaf-leaf.result in
    let same : leaf.slot ≡ c.args.spot.slot = search rules in
    let w1 = put_work w leaf.slot zero_cell in
    let freed = put_is g.C.Cells c.args.cells.now c.put.new.self w leaf.slot zero_cell refl c.put.ensures.plan in
    let after : work g.C.Cells c.put-then-eq.new.self ≡ put_work w1 c.link-pair.result.at c.link-pair.result.cell = put_is g.C.Cells c.put.new.self c.put-then-eq.new.self w1 c.link-pair.result.at c.link-pair.result.cell freed c.put-then-eq.ensures.plan in
    subst (λ (v : Work). RemovesVersion c.args.class w v c.args.id c.args.version) (sym after)
    (removes_leaf c.args.class w c.args.spot leaf c.args.id c.args.version c.link-pair.result.at c.link-pair.result.cell c.requires.spot c.requires.last c.lowest_leaf-leaf.ensures c.link-pair.ensures same)

pub returns-else-eq-clause-removes : goal.returns-else-eq-clause-removes
returns-else-eq-clause-removes g c =
    let w = work g.C.Cells c.args.cells.now in
    let leaf = c.lowest_leaf-leaf.result in
    let differ : leaf.slot.number ≢ c.args.spot.slot.number = search rules in
    let small : c.of_cell-moved.result.newest.number < 2 ^ 24 = search rules in
    let w1 = put_work w c.link-pair.result.at c.link-pair.result.cell in
    let w2 = put_work w1 c.args.spot.slot c.to_cell.result in
    let linked : work g.C.Cells c.put-else-eq.new.self ≡ w1 = put_is g.C.Cells c.args.cells.now c.put-else-eq.new.self w c.link-pair.result.at c.link-pair.result.cell refl c.put-else-eq.ensures.plan in
    let moved = put_is g.C.Cells c.put-else-eq.new.self c.put-else-eq-2.new.self w1 c.args.spot.slot c.to_cell.result linked c.put-else-eq-2.ensures.plan in
    let after : work g.C.Cells c.put-else-eq-3.new.self ≡ put_work w2 leaf.slot zero_cell = put_is g.C.Cells c.put-else-eq-2.new.self c.put-else-eq-3.new.self w2 leaf.slot zero_cell moved c.put-else-eq-3.ensures.plan in
    subst (λ (v : Work). RemovesVersion c.args.class w v c.args.id c.args.version) (sym after)
    (removes_moved c.args.class w c.args.spot leaf c.args.id c.args.version c.link-pair.result.at c.link-pair.result.cell c.planned.result.now c.planned-else-eq.result.now c.to_cell.result
    c.requires.spot c.requires.last c.lowest_leaf-leaf.ensures c.link-pair.ensures differ c.planned.ensures.planned
    (subst (λ (v : Work). reading v c.args.spot.slot.number ≡ Some c.planned-else-eq.result.now) linked c.planned-else-eq.ensures.planned)
    c.to_cell.ensures.kind
    (subst IsSlot (sym c.to_cell.ensures.inverse) (ap (λ (s : ObjectSlot). length s.children) c.of_cell-slot.ensures.value, small))
    (c.to_cell.ensures.inverse
    ∙ ap₂ (λ (p q : ObjectSlot). (let s : ObjectSlot = record { newest = p.newest; id = p.id; children = q.children } in s)) c.of_cell-moved.ensures.value c.of_cell-slot.ensures.value))
