use Rattle.std.proofs.Common.{◌≡◌, ◌≢◌, refl, sym, ap, subst, ◌∙◌, rules, arith}
use Rattle.rdb_pages.specs.declared.cell.CellRef.{CellRef}
use Rattle.rdb_cells.specs.Images.{IsCell}
use Rattle.rdb_objects.proofs.WalkLemmas.{head_cell, sought_first, sought_none, sought_there, sought_found, sought_more}
use Rattle.rdb_objects.proofs.tree.find.Goals as goal

pub read-requires : goal.read-requires
read-requires g c =
    let image = g.C.Cells.image c.args.cells.now in
    subst (λ (r : CellRef). IsCell image r.number) (sym c.class_head.ensures.value) (head_cell image c.args.class c.requires.tree.0 c.requires.tree.1)

pub loop-init : goal.loop-init
loop-init g c slots tree =
    let image = g.C.Cells.image c.args.cells.now in
    sought_first image c.args.class slots tree c.args.id c.read.result.now c.of_cell.result.root _
    (ap (λ (r : CellRef). image r.number) (sym c.class_head.ensures.value) ∙ c.read.ensures)
    (ap (λ h. h.root) (sym c.of_cell.ensures.value)) refl refl

pub returns-then-eq : goal.returns-then-eq
returns-then-eq g c slots tree =
    let none : c.loop.spot.slot.number ≡ 0 = search rules in
    sought_none (g.C.Cells.image c.args.cells.now) c.args.class slots tree c.args.id c.loop.counter c.loop.digits c.loop.spot (c.loop.invariant slots tree) none

pub read-cell-requires : goal.read-cell-requires
read-cell-requires g c =
    let some : c.loop.spot.slot.number ≢ 0 = search rules in
    let tree = c.requires.tree in
    sought_there (g.C.Cells.image c.args.cells.now) c.args.class tree.0 tree.1 c.args.id c.loop.counter c.loop.digits c.loop.spot (c.loop.invariant tree.0 tree.1) some

pub returns-then-id_in-id : goal.returns-then-id_in-id
returns-then-id_in-id g c slots tree =
    let some : c.loop.spot.slot.number ≢ 0 = search rules in
    let same : c.id_in.result ≡ c.args.id = search rules in
    sought_found (g.C.Cells.image c.args.cells.now) c.args.class slots tree c.args.id c.loop.counter c.loop.digits c.loop.spot (c.loop.invariant slots tree) some c.read-cell.result.now c.read-cell.ensures
    (sym c.id_in.ensures ∙ same)

pub loop-preserved : goal.loop-preserved
loop-preserved g c slots tree =
    let some : c.loop.spot.slot.number ≢ 0 = search rules in
    let other : c.id_in.result ≢ c.args.id = search rules in
    sought_more (g.C.Cells.image c.args.cells.now) c.args.class slots tree c.args.id c.loop.counter c.loop.digits c.loop.spot (c.loop.invariant slots tree) some c.read-cell.result.now c.read-cell.ensures
    (λ same. other (c.id_in.ensures ∙ same)) c.ranges.id.fits _ c.child_in.ensures refl refl

pub unreachable-requires : goal.unreachable-requires
unreachable-requires g c =
    let tree = c.requires.tree in
    let within = (c.loop.invariant tree.0 tree.1).within in
    let least = c.loop-test.false in
    absurd (omega arith)
