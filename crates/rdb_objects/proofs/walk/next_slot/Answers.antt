use Rattle.std.proofs.Common.{◌≡◌, ◌≢◌, refl, sym, ap, subst, ◌∙◌, rules, arith}
use Rattle.rdb_pages.specs.declared.cell.CellRef.{CellRef}
use Rattle.rdb_objects.specs.Order.{IsNext}
use Rattle.rdb_objects.specs.Slots.{Slot}
use Rattle.rdb_objects.proofs.OrderLemmas.{later_first, later_more, later_here, not_lost}
use Rattle.rdb_objects.proofs.TreeLemmas.{same_id}
use Rattle.rdb_objects.proofs.WalkLemmas.{sought_first, sought_has, sought_more, read_id}
use Rattle.rdb_objects.proofs.walk.next_slot.Goals as goal

pub loop-init : goal.loop-init
loop-init g c slots tree =
    let image = g.C.Cells.image c.args.cells.now in (
      sought_first image c.args.class slots tree c.args.id c.read.result.now c.of_cell.result.root _
          (ap (λ (r : CellRef). image r.number) (sym c.class_head.ensures.value) ∙ c.read.ensures)
          (ap (λ h. h.root) (sym c.of_cell.ensures.value)) refl refl,
      later_first slots,
    )

pub returns-then-eq : goal.returns-then-eq
returns-then-eq g c slots tree s one same =
    let none : c.loop.spot.slot.number ≡ 0 = search rules in
    absurd (not_lost (g.C.Cells.image c.args.cells.now) c.args.class slots tree c.args.id c.loop.counter c.loop.digits c.loop.spot (c.loop.invariant slots tree).0 none s one same)

pub returns-then-id_in-id : goal.returns-then-id_in-id
returns-then-id_in-id g c slots tree s one same =
    let image = g.C.Cells.image c.args.cells.now in
    let some : c.loop.spot.slot.number ≢ 0 = search rules in
    let its : c.id_in.result ≡ c.args.id = search rules in
    let so_far = c.loop.invariant slots tree in
    let has = sought_has image c.args.class slots tree c.args.id c.loop.counter c.loop.digits c.loop.spot so_far.0 some in
    let id = read_id image c.args.class slots tree so_far.0.path c.loop.spot.slot.number has c.read-cell.result.now c.read-cell.ensures in
    let it : has.slot ≡ s = same_id image c.args.class slots tree has.slot s has.one one (sym id ∙ sym c.id_in.ensures ∙ its ∙ sym same) in
    subst (λ (t : Slot). IsNext slots t c.sooner.result.number) it
    (later_here image c.args.class slots tree so_far.0.path c.loop.spot.slot.number has c.read-cell.result.now c.read-cell.ensures c.child_from.result c.loop.later c.sooner.result c.child_from.ensures c.sooner.ensures so_far.1)

pub loop-preserved : goal.loop-preserved
loop-preserved g c slots tree =
    let image = g.C.Cells.image c.args.cells.now in
    let some : c.loop.spot.slot.number ≢ 0 = search rules in
    let other : c.id_in.result ≢ c.args.id = search rules in
    let so_far = c.loop.invariant slots tree in
    let has = sought_has image c.args.class slots tree c.args.id c.loop.counter c.loop.digits c.loop.spot so_far.0 some in (
      sought_more image c.args.class slots tree c.args.id c.loop.counter c.loop.digits c.loop.spot so_far.0 some c.read-cell.result.now c.read-cell.ensures
          (λ same. other (c.id_in.ensures ∙ same)) c.ranges.id.fits _ c.child_in.ensures refl refl,
      later_more image c.args.class slots tree so_far.0.path c.loop.spot.slot.number has c.read-cell.result.now c.read-cell.ensures _ c.child_from-in-loop.result c.loop.later c.sooner-later.result c.child_from-in-loop.ensures c.sooner-later.ensures so_far.1,
    )

pub unreachable-requires : goal.unreachable-requires
unreachable-requires g c =
    let tree = c.requires.tree in
    let within = (c.loop.invariant tree.0 tree.1).0.within in
    let least = c.loop-test.false in
    absurd (omega arith)
