use Rattle.rdb_objects.proofs.ListOrder.{next_told, next_cell}
use Rattle.rdb_objects.proofs.objects.Objects.next_object.Goals as goal

pub returns : goal.returns
returns g c objects lists =
    next_told (g.C.Cells.image c.args.cells.now) c.args.self.class objects lists c.args.id c.requires.has c.next_slot-slot.result (c.next_slot-slot.ensures lists.slots lists.tree) c.found_in.result c.found_in.ensures

pub found_in-requires : goal.found_in-requires
found_in-requires g c some =
    let has = c.requires.has in
    next_cell (g.C.Cells.image c.args.cells.now) c.args.self.class c.args.id has c.next_slot-slot.result.number (c.next_slot-slot.ensures has.2.slots has.2.tree) some
