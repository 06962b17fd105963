-- They hold as far as they were looked at.
use Rattle.std.proofs.Common.{sym, ◌∙◌, arith}
use Rattle.rdb_schema.proofs.ValuesLemmas.{values_unlike, values_more, holds_on, fails_on}
use Rattle.rdb_schema.proofs.values.values_hold.Goals as goal

pub returns-then-len : goal.returns-then-len
returns-then-len c = sym (values_unlike c.args.schema.now c.args.fields.now c.args.row.now (λ e. omega (arith, e)))

pub returns-then-not-holds : goal.returns-then-not-holds
returns-then-not-holds c =
    let more = values_more c.args.schema.now c.args.fields.now c.args.row.now c.loop-at.at c.at.result.now c.at-in-loop-at.result.now c.at.ensures c.at-in-loop-at.ensures in
    fails_on _ _ _ _ more (sym c.holds.ensures ∙ c.if-not-holds.true) c.loop-at.invariant.left

pub loop-at-preserved : goal.loop-at-preserved
loop-at-preserved c = record {
  as_many = c.loop-at.invariant.as_many;
  left =
      let more = values_more c.args.schema.now c.args.fields.now c.args.row.now c.loop-at.at c.at.result.now c.at-in-loop-at.result.now c.at.ensures c.at-in-loop-at.ensures in
      holds_on _ _ _ _ more (sym c.holds.ensures ∙ c.if-not-holds.false) c.loop-at.invariant.left;
}
