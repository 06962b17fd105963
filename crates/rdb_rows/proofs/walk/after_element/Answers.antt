use Rattle.rdb_rows.proofs.WalkLemmas.{group_element}
use Rattle.rdb_rows.proofs.walk.after_element.Goals as goal

pub returns-in-Group : goal.returns-in-Group
returns-in-Group g c = group_element (g.C.Cells.image c.args.cells.now) c.args.spot c.after_leaves.result c.args.ty.now c.in-Group.types c.in-Group.is c.after_leaves.ensures
