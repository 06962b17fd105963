use Rattle.rdb_rows.proofs.PlaceLemmas.{sized_more}
use Rattle.rdb_rows.proofs.places.group_size.Goals as goal

pub loop-at-preserved : goal.loop-at-preserved
loop-at-preserved c =
    rw c.in-Some-checked_add.ensures.1 (sized_more c.args.types.now c.loop-at.at c.loop-at.total c.in-Some.size c.at.result.now c.at.ensures c.in-Some.ensures c.loop-at.invariant)
