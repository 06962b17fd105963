use Rattle.std.proofs.Common.{◌∙◌}
use Rattle.rdb_cursor.proofs.Looks.{asked_there, dead_seen, alive_seen, nothing_seen}
use Rattle.rdb_cursor.proofs.view.View.seen_from.Goals as goal

pub is_tombstone-requires : goal.is_tombstone-requires
is_tombstone-requires g c =
    asked_there c.args.self.now.class.now (g.C.Cells.image c.args.self.now.cells.now) c.args.newest c.requires.0 c.requires.1 c.requires.2 (g.M.Marks.marked c.args.self.now.marks.now) c.args.self.now.reader c.best_from.result (c.best_from.ensures c.requires.0 c.requires.1 c.requires.2) c.in_ok-version.version c.in_ok-version.field-0-1 c.in_ok-version.was

pub returns-in_err-version : goal.returns-in_err-version
returns-in_err-version g c id chain stands =
    c.from_residual.ensures
    ∙ nothing_seen c.args.self.now.class.now (g.C.Cells.image c.args.self.now.cells.now) c.args.newest id chain stands (g.M.Marks.marked c.args.self.now.marks.now) c.args.self.now.reader c.best_from.result (c.best_from.ensures id chain stands) c.in_err-version.was

pub returns-then-is_tombstone : goal.returns-then-is_tombstone
returns-then-is_tombstone g c id chain stands =
    dead_seen c.args.self.now.class.now (g.C.Cells.image c.args.self.now.cells.now) c.args.newest id chain stands (g.M.Marks.marked c.args.self.now.marks.now) c.args.self.now.reader c.best_from.result (c.best_from.ensures id chain stands) c.in_ok-version.version c.in_ok-version.field-0-1 c.in_ok-version.was
    c.is_tombstone.result c.is_tombstone.ensures c.if-is_tombstone.true

pub returns-else-is_tombstone : goal.returns-else-is_tombstone
returns-else-is_tombstone g c id chain stands =
    alive_seen c.args.self.now.class.now (g.C.Cells.image c.args.self.now.cells.now) c.args.newest id chain stands (g.M.Marks.marked c.args.self.now.marks.now) c.args.self.now.reader c.best_from.result (c.best_from.ensures id chain stands) c.in_ok-version.version c.in_ok-version.field-0-1 c.in_ok-version.was
    c.is_tombstone.result c.is_tombstone.ensures c.if-is_tombstone.false
