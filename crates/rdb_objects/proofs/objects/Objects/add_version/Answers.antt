use Rattle.std.proofs.Common.{◌≡◌, ◌≢◌, length, sym, ap, subst, ◌∙◌, refl, rules}
use Rattle.rdb_cells.specs.declared.formats.object.ObjectSlot.{ObjectSlot}
use Rattle.rdb_cells.specs.ObjectFormat.{IsSlot}
use Rattle.rdb_cells.specs.Work.{Work, work, reading}
use Rattle.rdb_cells.proofs.WorkLemmas.{put_work, put_is}
use Rattle.rdb_objects.specs.Changes.{AddsVersion}
use Rattle.rdb_objects.specs.Objects.{newest_of, versions_of}
use Rattle.rdb_objects.proofs.Adding.{adds_more, cell_small, version_there}
use Rattle.rdb_objects.proofs.objects.Objects.add_version.Goals as goal

pub to_cell-requires : goal.to_cell-requires
to_cell-requires g c =
    let w = work g.C.Cells c.args.cells.now in
    let can = c.requires.version in (
      ap (λ (s : ObjectSlot). length s.children) c.of_cell-slot.ensures.value,
      cell_small (reading w) (g.C.Cells.class_of c.args.cells.now.cells) c.args.version.number c.bounded.ensures
          (version_there (reading w) c.args.id c.args.version (newest_of (versions_of can.objects c.args.id)) can.header),
    )

pub returns-else-eq-clause-adds : goal.returns-else-eq-clause-adds
returns-else-eq-clause-adds g c =
    let w = work g.C.Cells c.args.cells.now in
    let can = c.requires.version in
    let small =
    cell_small (reading w) (g.C.Cells.class_of c.args.cells.now.cells) c.args.version.number c.bounded.ensures
    (version_there (reading w) c.args.id c.args.version (newest_of (versions_of can.objects c.args.id)) can.header) in
    let some : c.find-spot.result.slot.number ≢ 0 = search rules in
    let after : work g.C.Cells c.put.new.self ≡ put_work w c.find-spot.result.slot c.to_cell.result = put_is g.C.Cells c.args.cells.now c.put.new.self w c.find-spot.result.slot c.to_cell.result refl c.put.ensures.plan in
    subst (λ (v : Work). AddsVersion c.args.self.class w v c.args.id c.args.version) (sym after)
    (adds_more c.args.self.class w c.find-spot.result c.args.id c.args.version c.planned.result.now c.to_cell.result
    c.find-spot.ensures some c.requires.version c.planned.ensures.planned c.to_cell.ensures.kind
    (subst IsSlot (sym c.to_cell.ensures.inverse) (ap (λ (s : ObjectSlot). length s.children) c.of_cell-slot.ensures.value, small))
    (c.to_cell.ensures.inverse ∙ ap (λ (s : ObjectSlot). (let now : ObjectSlot = record s { newest = c.args.version } in now)) c.of_cell-slot.ensures.value))
