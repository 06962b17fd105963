-- They hold as far as they were looked at.
use Rattle.std.proofs.Common.{sym, ◌∙◌, arith}
use Rattle.rdb_schema.proofs.ValuesLemmas.{leaves_unlike, leaves_more, holds_on, fails_on}
use Rattle.rdb_schema.proofs.values.leaves_hold.Goals as goal

pub returns-then-len : goal.returns-then-len
returns-then-len c = sym (leaves_unlike c.args.fields.now c.args.leaves.now (λ e. omega (arith, e)))

pub returns-then-not-leaf_holds : goal.returns-then-not-leaf_holds
returns-then-not-leaf_holds c =
    let more = leaves_more c.args.fields.now c.args.leaves.now c.loop-at.at c.at.result.now c.at-in-loop-at.result.now c.at.ensures c.at-in-loop-at.ensures in
    fails_on _ _ _ _ more (sym c.leaf_holds.ensures ∙ c.if-not-leaf_holds.true) c.loop-at.invariant.left

pub loop-at-preserved : goal.loop-at-preserved
loop-at-preserved c = record {
  as_many = c.loop-at.invariant.as_many;
  left =
      let more = leaves_more c.args.fields.now c.args.leaves.now c.loop-at.at c.at.result.now c.at-in-loop-at.result.now c.at.ensures c.at-in-loop-at.ensures in
      holds_on _ _ _ _ more (sym c.leaf_holds.ensures ∙ c.if-not-leaf_holds.false) c.loop-at.invariant.left;
}
