use Rattle.rdb_cells.specs.Keys.{says}
use Rattle.rdb_cells.specs.Work.{work, reading}
use Rattle.rdb_hash.proofs.tests.put_and_ask.Goals as goal

pub equal-requires-clause-stands : goal.equal-requires-clause-stands
equal-requires-clause-stands g c =
    let lacks = c.requires.lacks in
    let now = (c.put.ensures.puts lacks.listed lacks.nodes lacks.lists lacks.unlisted).0 in
    (now.listed, now.now_nodes, now.lists)

pub equal-requires-2-clause-stands : goal.equal-requires-2-clause-stands
equal-requires-2-clause-stands g c =
    let lacks = c.requires.lacks in
    let now = (c.put.ensures.puts lacks.listed lacks.nodes lacks.lists lacks.unlisted).0 in
    (now.listed, now.now_nodes, now.lists)

pub refs-requires : goal.refs-requires
refs-requires g c =
    let lacks = c.requires.lacks in
    let now = (c.put.ensures.puts lacks.listed lacks.nodes lacks.lists lacks.unlisted).0 in
    (says (g.K.Keys.meaning c.args.keys.now) (reading (work g.C.Cells c.put.new.cells)), now.listed, now.now_nodes, now.lists)
