use Rattle.rdb_rtree.proofs.NodeLemmas.{refs_step}
use Rattle.rdb_rtree.proofs.node.node_of.Goals as goal

pub loop-place-preserved : goal.loop-place-preserved
loop-place-preserved c = refs_step c.args.entries.now c.loop-place.place _ c.loop-place.refs c.loop-place-test.true c.requires.entries.1 c.loop-place.invariant
