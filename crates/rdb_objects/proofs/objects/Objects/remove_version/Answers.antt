use Rattle.std.proofs.Common.{◌≡◌, ◌≢◌, length, sym, ap, subst, ◌∙◌, refl, rules}
use Rattle.rdb_cells.specs.declared.formats.object.ObjectSlot.{ObjectSlot}
use Rattle.rdb_cells.specs.ObjectFormat.{IsSlot}
use Rattle.rdb_cells.specs.Words.{no_ref}
use Rattle.rdb_cells.specs.Work.{Work, work, reading}
use Rattle.rdb_cells.proofs.WorkLemmas.{put_work, put_is}
use Rattle.rdb_objects.specs.Changes.{RemovesVersion}
use Rattle.rdb_objects.proofs.Removable.{has_slot, header_there, slot_there, older_small, behind, newer_there, last}
use Rattle.rdb_objects.proofs.Removing.{removes_older, removes_newest}
use Rattle.rdb_objects.proofs.objects.Objects.remove_version.Goals as goal

pub planned-requires : goal.planned-requires
planned-requires g c = header_there (reading (work g.C.Cells c.args.cells.now)) c.args.self.class c.find-spot.result c.args.id c.args.version c.find-spot.ensures c.requires.version

pub planned-requires-2 : goal.planned-requires-2
planned-requires-2 g c = slot_there (reading (work g.C.Cells c.args.cells.now)) c.args.self.class c.find-spot.result c.args.id c.args.version c.find-spot.ensures c.requires.version

pub newer_than-newer-requires : goal.newer_than-newer-requires
newer_than-newer-requires g c =
    let other : c.of_cell-slot.result.newest ≢ c.args.version = search rules in
    behind (reading (work g.C.Cells c.args.cells.now)) c.args.self.class c.find-spot.result c.args.id c.args.version c.find-spot.ensures c.requires.version c.planned.result.now c.older_in-older.result c.planned.ensures.planned c.older_in-older.ensures c.planned-2.result.now c.of_cell-slot.result.newest c.planned-2.ensures.planned (ap (λ (s : ObjectSlot). s.newest) c.of_cell-slot.ensures.value) other

pub planned-requires-then-ne : goal.planned-requires-then-ne
planned-requires-then-ne g c =
    newer_there (reading (work g.C.Cells c.args.cells.now)) c.args.self.class c.find-spot.result c.args.id c.args.version c.find-spot.ensures c.requires.version c.planned.result.now c.older_in-older.result c.planned.ensures.planned c.older_in-older.ensures c.planned-2.result.now c.of_cell-slot.result.newest c.planned-2.ensures.planned (ap (λ (s : ObjectSlot). s.newest) c.of_cell-slot.ensures.value) c.newer_than-newer.result c.newer_than-newer.ensures

pub with_older-cell-requires : goal.with_older-cell-requires
with_older-cell-requires g c =
    older_small (reading (work g.C.Cells c.args.cells.now)) c.args.self.class c.find-spot.result c.args.id c.args.version c.find-spot.ensures c.requires.version c.planned.result.now c.older_in-older.result c.planned.ensures.planned c.older_in-older.ensures (g.C.Cells.class_of c.args.cells.now.cells) c.bounded.ensures

pub returns-then-ne-clause-removes : goal.returns-then-ne-clause-removes
returns-then-ne-clause-removes g c =
    let w = work g.C.Cells c.args.cells.now in
    let some = has_slot (reading w) c.args.self.class c.find-spot.result c.args.id c.args.version c.find-spot.ensures c.requires.version in
    let after : work g.C.Cells c.put.new.self ≡ put_work w c.newer_than-newer.result c.with_older-cell.result = put_is g.C.Cells c.args.cells.now c.put.new.self w c.newer_than-newer.result c.with_older-cell.result refl c.put.ensures.plan in
    subst (λ (v : Work). RemovesVersion c.args.self.class w v c.args.id c.args.version) (sym after)
    (removes_older c.args.self.class w c.find-spot.result c.args.id c.args.version c.of_cell-slot.result.newest c.newer_than-newer.result c.older_in-older.result c.planned-2.result.now c.planned.result.now c.planned-then-ne.result.now c.with_older-cell.result
    c.find-spot.ensures some c.requires.version c.planned-2.ensures.planned (ap (λ (s : ObjectSlot). s.newest) c.of_cell-slot.ensures.value) c.planned.ensures.planned c.older_in-older.ensures
    c.newer_than-newer.ensures c.planned-then-ne.ensures.planned c.with_older-cell.ensures.kind c.with_older-cell.ensures.value c.with_older-cell.ensures.whole)

pub to_cell-requires : goal.to_cell-requires
to_cell-requires g c = (
  ap (λ (s : ObjectSlot). length s.children) c.of_cell-slot.ensures.value,
  older_small (reading (work g.C.Cells c.args.cells.now)) c.args.self.class c.find-spot.result c.args.id c.args.version c.find-spot.ensures c.requires.version c.planned.result.now c.older_in-older.result c.planned.ensures.planned c.older_in-older.ensures (g.C.Cells.class_of c.args.cells.now.cells) c.bounded.ensures,
)

pub returns-then-ne-2-clause-removes : goal.returns-then-ne-2-clause-removes
returns-then-ne-2-clause-removes g c =
    let w = work g.C.Cells c.args.cells.now in
    let some = has_slot (reading w) c.args.self.class c.find-spot.result c.args.id c.args.version c.find-spot.ensures c.requires.version in
    let same : c.of_cell-slot.result.newest ≡ c.args.version = search rules in
    let more : c.older_in-older.result ≢ no_ref = search rules in
    let small = older_small (reading w) c.args.self.class c.find-spot.result c.args.id c.args.version c.find-spot.ensures c.requires.version c.planned.result.now c.older_in-older.result c.planned.ensures.planned c.older_in-older.ensures (g.C.Cells.class_of c.args.cells.now.cells) c.bounded.ensures in
    let after : work g.C.Cells c.put-then-ne-2.new.self ≡ put_work w c.find-spot.result.slot c.to_cell.result = put_is g.C.Cells c.args.cells.now c.put-then-ne-2.new.self w c.find-spot.result.slot c.to_cell.result refl c.put-then-ne-2.ensures.plan in
    subst (λ (v : Work). RemovesVersion c.args.self.class w v c.args.id c.args.version) (sym after)
    (removes_newest c.args.self.class w c.find-spot.result c.args.id c.args.version c.older_in-older.result c.planned-2.result.now c.planned.result.now c.to_cell.result
    c.find-spot.ensures some c.requires.version c.planned-2.ensures.planned (sym same ∙ ap (λ (s : ObjectSlot). s.newest) c.of_cell-slot.ensures.value) c.planned.ensures.planned c.older_in-older.ensures more
    c.to_cell.ensures.kind
    (subst IsSlot (sym c.to_cell.ensures.inverse) (ap (λ (s : ObjectSlot). length s.children) c.of_cell-slot.ensures.value, small))
    (c.to_cell.ensures.inverse ∙ ap (λ (s : ObjectSlot). (let now : ObjectSlot = record s { newest = c.older_in-older.result } in now)) c.of_cell-slot.ensures.value))

pub remove_slot-requires-clause-last : goal.remove_slot-requires-clause-last
remove_slot-requires-clause-last g c =
    let same : c.of_cell-slot.result.newest ≡ c.args.version = search rules in
    let none : c.older_in-older.result ≡ no_ref = search rules in
    last (reading (work g.C.Cells c.args.cells.now)) c.args.self.class c.find-spot.result c.args.id c.args.version c.find-spot.ensures c.requires.version c.planned.result.now c.older_in-older.result c.planned.ensures.planned c.older_in-older.ensures c.planned-2.result.now c.of_cell-slot.result.newest c.planned-2.ensures.planned (ap (λ (s : ObjectSlot). s.newest) c.of_cell-slot.ensures.value) same none
