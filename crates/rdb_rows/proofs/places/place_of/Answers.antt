use Rattle.std.proofs.Common.{◌<◌, arith}
use Rattle.rdb_rows.proofs.PlaceLemmas.{placing_passes, placing_steps}
use Rattle.rdb_rows.proofs.places.place_of.Goals as goal
use Rattle.rdb_rows.proofs.places.place_of.Goals.{in-Some, in-None+in_ok-push-in-None}

pub loop-at-preserved : goal.loop-at-preserved
loop-at-preserved c = elim c.match-offset_behind.branch [
  | in-Some w ↦
      let told = w.in-Some.ensures in
      rw (w.offset-is, w.steps-is, told.1)
      (placing_passes c.args.types.now c.loop-at.at c.loop-at.offset told.0 c.loop-at.steps c.at.result.now c.at.ensures told.2 c.loop-at.invariant)
  | in-None+in_ok-push-in-None w ↦
      let before : c.loop-at.at < c.args.field = c.loop-at-test.true in
      let within = c.requires in
      rw (w.offset-is, w.steps-is, w.in_ok-push-in-None.ensures.ok)
      (placing_steps c.args.types.now c.loop-at.at c.loop-at.offset c.loop-at.steps (omega arith) c.loop-at.invariant)
]
