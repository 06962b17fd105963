use Rattle.std.proofs.Common.{◌≡◌, ◌<◌, ◌^◌, sym, ap, subst, refl}
use Rattle.rdb_pages.specs.declared.cell.CellRef.{CellRef}
use Rattle.rdb_cells.specs.ObjectFormat.{IsSlot}
use Rattle.rdb_cells.specs.Overlays.{Laid}
use Rattle.rdb_cells.specs.Work.{Work, work, reading}
use Rattle.rdb_cells.proofs.WorkLemmas.{put_work, take_work, put_is, take_is, one_left}
use Rattle.rdb_objects.specs.Changes.{AddsVersion}
use Rattle.rdb_objects.specs.Objects.{newest_of, versions_of}
use Rattle.rdb_objects.specs.Walks.{IsLink}
use Rattle.rdb_objects.proofs.ObjectLemmas.{none_found}
use Rattle.rdb_objects.proofs.Adding.{adds_first, cell_small, version_there}
use Rattle.rdb_objects.proofs.objects.add_slot.Goals as goal

pub take-at-requires : goal.take-at-requires
take-at-requires g c =
    let w = work g.C.Cells c.args.cells.now in
    let can = c.requires.version in
    one_left w (c.requires.free can.objects can.cells can.holds
    (none_found (reading w) c.args.class c.args.id c.args.spot can.objects can.cells can.holds (c.requires.spot can.holds.slots can.holds.tree) (ap (λ (r : CellRef). r.number) c.requires.empty)))

pub returns-clause-adds : goal.returns-clause-adds
returns-clause-adds g c =
    let w = work g.C.Cells c.args.cells.now in
    let w1 = put_work (take_work w c.take-at.result) c.take-at.result c.to_cell.result in
    let taken = take_is g.C.Cells c.args.cells.now c.take-at.new.self w c.take-at.result refl c.take-at.ensures.taken in
    let entered = put_is g.C.Cells c.take-at.new.self c.put.new.self (take_work w c.take-at.result) c.take-at.result c.to_cell.result taken c.put.ensures.plan in
    let after : work g.C.Cells c.put-2.new.self ≡ put_work w1 c.link-pair.result.at c.link-pair.result.cell = put_is g.C.Cells c.put.new.self c.put-2.new.self w1 c.link-pair.result.at c.link-pair.result.cell entered c.put-2.ensures.plan in
    let linked = subst (λ (o : Laid g.row.C.Denot). IsLink (reading (work g.C.Cells o)) c.args.class c.args.spot c.take-at.result c.link-pair.result.at c.link-pair.result.cell) c.take-at.ensures.taken c.link-pair.ensures in
    let can = c.requires.version in
    let fits : c.args.version.number < 2 ^ 24 =
    cell_small (reading w) (g.C.Cells.class_of c.args.cells.now.cells) c.args.version.number c.bounded.ensures
    (version_there (reading w) c.args.id c.args.version (newest_of (versions_of can.objects c.args.id)) can.header) in
    subst (λ (v : Work). AddsVersion c.args.class w v c.args.id c.args.version) (sym after)
    (adds_first c.args.class w c.args.spot c.args.id c.args.version c.take-at.result c.link-pair.result.at c.link-pair.result.cell c.to_cell.result
    c.requires.spot (ap (λ (r : CellRef). r.number) c.requires.empty) c.requires.version c.ranges.id.fits c.take-at.ensures.lowest linked c.to_cell.ensures.kind (subst IsSlot (sym c.to_cell.ensures.inverse) (refl, fits)) c.to_cell.ensures.inverse)
