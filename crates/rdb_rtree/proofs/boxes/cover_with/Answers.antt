use Rattle.rdb_rtree.proofs.BoxLemmas.{covers_one, covers_step}
use Rattle.rdb_rtree.proofs.boxes.cover_with.Goals as goal

pub loop-entry-init : goal.loop-entry-init
loop-entry-init c = covers_one c.args.first

pub loop-entry-preserved : goal.loop-entry-preserved
loop-entry-preserved c = covers_step (λ entry. entry.cover) c.args.first c.args.rest.now c.loop-entry.entry-index _ c.loop-entry.cover c.joined-cover.result c.loop-entry-test.true c.loop-entry.invariant c.joined-cover.ensures
