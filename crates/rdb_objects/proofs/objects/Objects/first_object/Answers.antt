use Rattle.std.proofs.Common.{sym, ap, ◌∙◌}
use Rattle.rdb_pages.specs.declared.cell.CellRef.{CellRef}
use Rattle.rdb_objects.proofs.ListOrder.{first_told, root_cell}
use Rattle.rdb_objects.proofs.objects.Objects.first_object.Goals as goal

pub returns : goal.returns
returns g c objects lists =
    let image = g.C.Cells.image c.args.cells.now in
    first_told image c.args.self.class objects lists c.read.result.now c.of_cell-head.result.root
    (ap (λ (r : CellRef). image r.number) (sym c.class_head.ensures.value) ∙ c.read.ensures) (ap (λ h. h.root) c.of_cell-head.ensures.value) c.found_in.result c.found_in.ensures

pub found_in-requires : goal.found_in-requires
found_in-requires g c some =
    let image = g.C.Cells.image c.args.cells.now in
    let holds = c.requires.holds.2 in
    root_cell image c.args.self.class holds.slots holds.tree c.read.result.now c.of_cell-head.result.root
    (ap (λ (r : CellRef). image r.number) (sym c.class_head.ensures.value) ∙ c.read.ensures) (ap (λ h. h.root) c.of_cell-head.ensures.value) some
