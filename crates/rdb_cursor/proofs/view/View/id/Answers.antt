use Rattle.rdb_cursor.proofs.Looks.{header_there, id_is}
use Rattle.rdb_cursor.proofs.view.View.id.Goals as goal

pub id_in-requires : goal.id_in-requires
id_in-requires g c =
    let look = c.requires.look in
    header_there c.args.self.now.class.now (g.C.Cells.image c.args.self.now.cells.now) (g.C.Cells.class_of c.args.self.now.cells.now) look.holds.0 look.holds.1.0 look.holds.1.1 c.args.version (c.requires.version look.holds.0 look.holds.1)

pub returns : goal.returns
returns g c objects holds = id_is c.args.self.now.class.now (g.C.Cells.image c.args.self.now.cells.now) (g.C.Cells.class_of c.args.self.now.cells.now) objects holds.0 holds.1 c.args.version c.id_in.result c.id_in.ensures
