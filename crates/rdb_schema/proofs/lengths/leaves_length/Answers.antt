-- One more length goes from what is left to the total.
use Rattle.std.proofs.Common.{arith}
use Rattle.rdb_schema.proofs.ValuesLemmas.{leaves_length_more, leaves_length_end}
use Rattle.rdb_schema.proofs.lengths.leaves_length.Goals as goal

pub loop-at-preserved : goal.loop-at-preserved
loop-at-preserved c =
    let more = leaves_length_more c.args.fields.now c.args.leaves.now c.loop-at.at c.at.result.now c.at-in-loop-at.result.now c.at.ensures c.at-in-loop-at.ensures in
    record { small = omega (arith, c.saturating_add-total.ensures); left = omega (arith, more, c.saturating_add-total.ensures, c.leaf_length.ensures, c.loop-at.invariant.left) }

pub returns : goal.returns
returns c =
    let end = leaves_length_end c.args.fields.now c.args.leaves.now c.loop-at.at (omega arith) in
    omega (arith, end, c.loop-at.invariant.left, c.loop-at.invariant.small)
