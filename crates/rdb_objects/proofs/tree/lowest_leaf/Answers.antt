use Rattle.std.proofs.Common.{refl, arith}
use Rattle.rdb_objects.proofs.WalkLemmas.{descended_leaf, descended_more, descended_short}
use Rattle.rdb_objects.proofs.tree.lowest_leaf.Goals as goal

pub returns-in-None : goal.returns-in-None
returns-in-None g c slots tree path is =
    descended_leaf (g.C.Cells.image c.args.cells.now) c.args.class slots tree path c.loop.counter c.loop.spot (c.loop.invariant slots tree path is) c.read-cell.result.now c.read-cell.ensures c.in-None.ensures.none

pub loop-preserved : goal.loop-preserved
loop-preserved g c slots tree path is =
    descended_more (g.C.Cells.image c.args.cells.now) c.args.class slots tree path c.loop.counter c.loop.spot (c.loop.invariant slots tree path is) c.read-cell.result.now c.read-cell.ensures c.in-Some.place _ c.in-Some.ensures.within c.child_in.ensures c.in-Some.ensures.found refl refl

pub unreachable-requires : goal.unreachable-requires
unreachable-requires g c =
    let given = c.requires in
    let short = descended_short (g.C.Cells.image c.args.cells.now) c.args.class given.0 given.2 given.1 c.loop.counter c.loop.spot (c.loop.invariant given.0 given.2 given.1 given.3) in
    let least = c.loop-test.false in
    absurd (omega arith)
