use Rattle.std.proofs.Common.{◌∙◌}
use Rattle.rdb_store.proofs.ClassNumbers.{next_class, are_numbered}
use Rattle.rdb_store.proofs.store.Store.of.Goals as goal

pub loop-number-preserved : goal.loop-number-preserved
loop-number-preserved c = c.in_ok-push.ensures.ok ∙ next_class c.args.schema.now c.loop-number.number c.loop-number.classes c.in_ok-class.class c.loop-number.invariant c.in_ok-class.ensures

pub invariant_of-result : goal.invariant_of-result
invariant_of-result c = are_numbered c.args.schema.now c.loop-number.number c.loop-number.classes c.loop-number.invariant
