use Rattle.std.proofs.Common.{◌≡◌, ◌≢◌, rules}
use Rattle.rdb_cursor.proofs.Walks.{walking_first, walking_there, walking_more, walking_end, walking_all}
use Rattle.rdb_cursor.proofs.view.View.best_from.Goals as goal

pub loop-init : goal.loop-init
loop-init g c id chain stands = walking_first c.args.self.now.class.now (g.C.Cells.image c.args.self.now.cells.now) c.args.newest id chain (g.M.Marks.marked c.args.self.now.marks.now) c.args.self.now.reader stands

pub stamp-requires : goal.stamp-requires
stamp-requires g c =
    let some : c.loop.at.number ≢ 0 = search rules in
    walking_there c.args.self.now.class.now (g.C.Cells.image c.args.self.now.cells.now) c.args.newest c.requires.0 c.requires.1 c.requires.2 (g.M.Marks.marked c.args.self.now.marks.now) c.args.self.now.reader c.loop.counter c.loop.at c.loop.best (c.loop.invariant c.requires.0 c.requires.1 c.requires.2) some

pub older_in-at-requires : goal.older_in-at-requires
older_in-at-requires g c =
    let some : c.loop.at.number ≢ 0 = search rules in
    walking_there c.args.self.now.class.now (g.C.Cells.image c.args.self.now.cells.now) c.args.newest c.requires.0 c.requires.1 c.requires.2 (g.M.Marks.marked c.args.self.now.marks.now) c.args.self.now.reader c.loop.counter c.loop.at c.loop.best (c.loop.invariant c.requires.0 c.requires.1 c.requires.2) some

pub loop-preserved : goal.loop-preserved
loop-preserved g c id chain stands =
    let some : c.loop.at.number ≢ 0 = search rules in
    walking_more c.args.self.now.class.now (g.C.Cells.image c.args.self.now.cells.now) c.args.newest id chain stands (g.M.Marks.marked c.args.self.now.marks.now) c.args.self.now.reader c.loop.counter c.loop.at c.loop.best (c.loop.invariant id chain stands) some
    c.stamp.result c.older_in-at.result c.better_of-best.result c.stamp.ensures c.older_in-at.ensures c.better_of-best.ensures

pub returns-then-eq : goal.returns-then-eq
returns-then-eq g c id chain stands =
    let zero : c.loop.at.number ≡ 0 = search rules in
    walking_end c.args.self.now.class.now (g.C.Cells.image c.args.self.now.cells.now) c.args.newest id chain stands (g.M.Marks.marked c.args.self.now.marks.now) c.args.self.now.reader c.loop.counter c.loop.at c.loop.best (c.loop.invariant id chain stands) zero

pub returns : goal.returns
returns g c id chain stands =
    walking_all c.args.self.now.class.now (g.C.Cells.image c.args.self.now.cells.now) c.args.newest id chain stands (g.M.Marks.marked c.args.self.now.marks.now) c.args.self.now.reader c.loop.counter c.loop.at c.loop.best (c.loop.invariant id chain stands) (g.C.Cells.class_of c.args.self.now.cells.now) c.bounded.ensures c.loop-test.false
