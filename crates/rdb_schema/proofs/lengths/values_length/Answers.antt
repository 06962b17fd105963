-- One more length goes from what is left to the total.
use Rattle.std.proofs.Common.{arith}
use Rattle.rdb_schema.proofs.ValuesLemmas.{values_length_more, values_length_end}
use Rattle.rdb_schema.proofs.lengths.values_length.Goals as goal

pub loop-at-preserved : goal.loop-at-preserved
loop-at-preserved c =
    let more = values_length_more c.args.schema.now c.args.fields.now c.args.row.now c.loop-at.at c.at.result.now c.at-in-loop-at.result.now c.at.ensures c.at-in-loop-at.ensures in
    record { small = omega (arith, c.saturating_add-total.ensures); left = omega (arith, more, c.saturating_add-total.ensures, c.value_length.ensures, c.loop-at.invariant.left) }

pub returns : goal.returns
returns c =
    let end = values_length_end c.args.schema.now c.args.fields.now c.args.row.now c.loop-at.at (omega arith) in
    omega (arith, end, c.loop-at.invariant.left, c.loop-at.invariant.small)
