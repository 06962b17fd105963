use Rattle.rdb_cursor.proofs.Looks.{row_there, never_none, has_row}
use Rattle.rdb_cursor.proofs.view.View.row.Goals as goal

pub row_in-requires : goal.row_in-requires
row_in-requires g c =
    let look = c.requires.look in
    row_there c.args.self.now.class.now (g.C.Cells.image c.args.self.now.cells.now) (g.C.Cells.class_of c.args.self.now.cells.now) look.holds.0 look.holds.1.0 look.holds.1.1 c.args.version (c.requires.row look.holds.0 look.holds.1)

pub unreachable-requires : goal.unreachable-requires
unreachable-requires g c =
    let look = c.requires.look in
    never_none c.args.self.now.class.now (g.C.Cells.image c.args.self.now.cells.now) (g.C.Cells.class_of c.args.self.now.cells.now) look.holds.0 look.holds.1.0 look.holds.1.1 c.args.version c.in_ok-row.field-0 c.in-None.is c.in_ok-row.ensures (c.requires.row look.holds.0 look.holds.1)

pub returns : goal.returns
returns g c objects holds = has_row c.args.self.now.class.now (g.C.Cells.image c.args.self.now.cells.now) (g.C.Cells.class_of c.args.self.now.cells.now) objects holds.0 holds.1 c.args.version c.in-Some.row c.in_ok-row.field-0 c.in-Some.is c.in_ok-row.ensures
