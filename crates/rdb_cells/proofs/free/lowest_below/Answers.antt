use Rattle.std.proofs.Common.{rules}
use Rattle.rdb_cells.specs.Images.{IsFree}
use Rattle.rdb_cells.proofs.FreeLemmas.{passed-init, passed-step, passed-found, passed-none}
use Rattle.rdb_cells.proofs.free.lowest_below.Goals as goal

pub loop-next-init : goal.loop-next-init
loop-next-init g c = passed-init (g.L.Layer.image c.args.layer.now) (g.C.Cells.image c.args.below.now) (g.L.Layer.class_of c.args.layer.now) (g.C.Cells.class_of c.args.below.now) c.args.class c.args.above.number

pub returns-then-is_free : goal.returns-then-is_free
returns-then-is_free g c =
    let free : IsFree (g.L.Layer.image c.args.layer.now) (g.L.Layer.class_of c.args.layer.now) c.args.class c.in-Some.next.number = search rules in
    passed-found (g.L.Layer.image c.args.layer.now) (g.C.Cells.image c.args.below.now) (g.L.Layer.class_of c.args.layer.now) (g.C.Cells.class_of c.args.below.now) c.args.class c.args.above.number c.loop-next.last.number c.in-Some.next c.loop-next.invariant c.in-Some.ensures.found free

pub loop-next-preserved : goal.loop-next-preserved
loop-next-preserved g c =
    let filled : ¬ IsFree (g.L.Layer.image c.args.layer.now) (g.L.Layer.class_of c.args.layer.now) c.args.class c.in-Some.next.number = search rules in
    passed-step (g.L.Layer.image c.args.layer.now) (g.C.Cells.image c.args.below.now) (g.L.Layer.class_of c.args.layer.now) (g.C.Cells.class_of c.args.below.now) c.args.class c.args.above.number c.loop-next.last.number c.in-Some.next.number c.loop-next.invariant c.in-Some.ensures.found filled

pub returns : goal.returns
returns g c = passed-none (g.L.Layer.image c.args.layer.now) (g.C.Cells.image c.args.below.now) (g.L.Layer.class_of c.args.layer.now) (g.C.Cells.class_of c.args.below.now) c.args.class c.args.above.number c.loop-next.last.number c.loop-next.invariant c.in_default.ensures.none
