use Rattle.std.proofs.Common.{◌≡◌, ◌≢◌, Some, rules}
use Rattle.rdb_cursor.proofs.Looks.{given_id, given_none}
use Rattle.rdb_cursor.proofs.view.View.id_if_seen.Goals as goal

pub returns-then-eq : goal.returns-then-eq
returns-then-eq g c objects holds =
    let it : c.seen.result ≡ Some c.args.version = search rules in
    given_id (g.M.Marks.marked c.args.self.now.marks.now) c.args.self.now.reader objects c.args.version c.id-id.result (c.id-id.ensures objects holds) c.seen.result (c.seen.ensures objects holds) it

pub returns-else-eq : goal.returns-else-eq
returns-else-eq g c objects holds =
    let other : c.seen.result ≢ Some c.args.version = search rules in
    given_none (g.M.Marks.marked c.args.self.now.marks.now) c.args.self.now.reader objects c.args.version c.id-id.result (c.id-id.ensures objects holds) c.seen.result (c.seen.ensures objects holds) other
