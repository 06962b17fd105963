use Rattle.std.proofs.Common.{◌≡◌, ◌+◌, ◌-◌, ◌*◌, sum_by, sym, subst, arith}
use Rattle.rdb_space.specs.Space.{PageTable, room_in}
use Rattle.rdb_space.specs.Tables.{free_in}
use Rattle.rdb_space.proofs.TableLemmas.{room_is}
use Rattle.rdb_space.proofs.space.Space.room.Goals as goal

pub returns : goal.returns
returns c =
    let ps = c.self.inside.pages.items in
    let rooms = room_is c.args.class ps c.self.inside.granted c.self.invariant.owners in
    let free : c.free_cells.result ≡ sum_by (free_in c.args.class) ps = subst (λ (t : PageTable). c.free_cells.result ≡ sum_by (free_in c.args.class) t.pages) (sym c.self.view_is) c.free_cells.ensures.free in
    let all : c.free_cells.result + 64 * (c.len.result - c.self.inside.granted) ≡ sum_by (room_in c.args.class) ps = omega arith in
    subst (λ (t : PageTable). c.free_cells.result + 64 * (c.len.result - c.self.inside.granted) ≡ sum_by (room_in c.args.class) t.pages) c.self.view_is all
