use Rattle.rdb_sight.proofs.BestLemmas.{best_more, best_gone, best_row}
use Rattle.rdb_sight.proofs.seen.Goals as goal

pub loop-place-preserved : goal.loop-place-preserved
loop-place-preserved c = best_more c.args.snapshot c.args.tx c.args.versions.now c.loop-place.place c.loop-place.best c.better_of-best.result _ c.loop-place.invariant c.loop-place-test.true c.better_of-best.ensures

pub returns-then-versions-place-clause-none : goal.returns-then-versions-place-clause-none
returns-then-versions-place-clause-none c = best_gone c.args.snapshot c.args.tx c.args.versions.now c.loop-place.place c.in_ok-place.place c.in_ok-place.field-0-1 c.loop-place.best _ c.loop-place.invariant c.loop-place-test.false c.in_ok-place.was c.if-versions-place.true

pub returns-clause-place : goal.returns-clause-place
returns-clause-place c = best_row c.args.snapshot c.args.tx c.args.versions.now c.loop-place.place c.in_ok-place.place c.in_ok-place.field-0-1 c.loop-place.best _ c.loop-place.invariant c.loop-place-test.false c.in_ok-place.was c.if-versions-place.false
