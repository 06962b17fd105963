use Rattle.std.proofs.Common.{◌≡◌, true, false, rules}
use Rattle.rdb_sight.specs.Garbage.{is_garbage}
use Rattle.rdb_store.proofs.UnseenChains.{tells_none, tells_commit, stamp_read, row_read, more_read}
use Rattle.rdb_store.proofs.garbage.unseen_commit.Goals as goal

pub returns-then-not-garbage : goal.returns-then-not-garbage
returns-then-not-garbage g c front v back there chain least =
    let image = g.C.Cells.image c.args.cells.now in
    let not_one : is_garbage c.stamp_in.result c.is_tombstone.result c.args.newer c.is_some-older.result c.args.floor ≡ false = search rules in
    tells_none c.args.floor c.args.newer front v back least c.stamp_in.result c.is_tombstone.result c.is_some-older.result
    (stamp_read image v back c.args.version.number there chain c.stamp_in.result c.stamp_in.ensures)
    (row_read image v back c.args.version.number there chain c.is_tombstone.result c.is_tombstone.ensures)
    (more_read image v back c.args.version.number there chain c.older_in.result c.is_some-older.result c.older_in.ensures c.is_some-older.ensures)
    not_one

pub returns : goal.returns
returns g c front v back there chain least =
    let image = g.C.Cells.image c.args.cells.now in
    let is_one : is_garbage c.stamp_in.result c.is_tombstone.result c.args.newer c.is_some-older.result c.args.floor ≡ true = search rules in
    rw c.commit_of.ensures
    (tells_commit c.args.floor c.args.newer front v back least c.stamp_in.result c.is_tombstone.result c.is_some-older.result
    (stamp_read image v back c.args.version.number there chain c.stamp_in.result c.stamp_in.ensures)
    (row_read image v back c.args.version.number there chain c.is_tombstone.result c.is_tombstone.ensures)
    (more_read image v back c.args.version.number there chain c.older_in.result c.is_some-older.result c.older_in.ensures c.is_some-older.ensures)
    is_one)
