use Rattle.std.proofs.Common.{[]}
use Rattle.rdb_rows.proofs.KeyRows.{leaf_of, row_stands}
use Rattle.rdb_rows.proofs.key_fields.find_field.Goals as goal

pub returns : goal.returns
returns g c row begins =
    let image = g.C.Cells.image c.args.cells.now in
    leaf_of image c.args.first c.find.result c.args.types.now row c.args.field.now begins c.requires.field
    (c.find.ensures c.args.field.now.field row [] c.requires.field.place begins.fits (row_stands image c.args.first c.args.types.now row begins))
