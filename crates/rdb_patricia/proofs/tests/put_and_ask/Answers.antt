use Rattle.rdb_cells.specs.Keys.{says}
use Rattle.rdb_cells.specs.Work.{work, reading}
use Rattle.rdb_patricia.proofs.tests.put_and_ask.Goals as goal

pub prefix-requires : goal.prefix-requires
prefix-requires g c =
    let lacks = c.requires.lacks in
    let now = (c.put.ensures.puts lacks.listed lacks.nodes lacks.lists lacks.unlisted).0 in
    (now.listed, now.now_nodes, now.lists)

pub prefix-requires-2 : goal.prefix-requires-2
prefix-requires-2 g c =
    let lacks = c.requires.lacks in
    let now = (c.put.ensures.puts lacks.listed lacks.nodes lacks.lists lacks.unlisted).0 in
    (now.listed, now.now_nodes, now.lists)

pub prefix-requires-3 : goal.prefix-requires-3
prefix-requires-3 g c =
    let lacks = c.requires.lacks in
    let now = (c.put.ensures.puts lacks.listed lacks.nodes lacks.lists lacks.unlisted).0 in
    (now.listed, now.now_nodes, now.lists)

pub refs-requires : goal.refs-requires
refs-requires g c =
    let lacks = c.requires.lacks in
    let now = (c.put.ensures.puts lacks.listed lacks.nodes lacks.lists lacks.unlisted).0 in
    (says (g.K.Keys.meaning c.args.keys.now) (reading (work g.C.Cells c.put.new.cells)), now.listed, now.now_nodes, now.lists)
