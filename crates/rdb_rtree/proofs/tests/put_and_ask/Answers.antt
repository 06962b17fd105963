use Rattle.rdb_cells.specs.Keys.{says}
use Rattle.rdb_cells.specs.Work.{work, reading}
use Rattle.rdb_rtree.proofs.tests.put_and_ask.Goals as goal

pub boxes-requires : goal.boxes-requires
boxes-requires g c =
    let lacks = c.requires.lacks in
    let now = (c.put.ensures.puts lacks.listed lacks.nodes lacks.lists lacks.unlisted).0 in
    (now.listed, now.now_nodes, now.lists)

pub boxes-requires-2 : goal.boxes-requires-2
boxes-requires-2 g c =
    let lacks = c.requires.lacks in
    let now = (c.put.ensures.puts lacks.listed lacks.nodes lacks.lists lacks.unlisted).0 in
    (now.listed, now.now_nodes, now.lists)

pub refs-requires : goal.refs-requires
refs-requires g c =
    let lacks = c.requires.lacks in
    let now = (c.put.ensures.puts lacks.listed lacks.nodes lacks.lists lacks.unlisted).0 in
    (says (g.K.Keys.meaning c.args.keys.now) (reading (work g.C.Cells c.put.new.cells)), now.listed, now.now_nodes, now.lists)
