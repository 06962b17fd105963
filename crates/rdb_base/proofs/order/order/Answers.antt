-- The derived comparison computes the order of values.
use Rattle.std.proofs.Common.{ap, ◌∙◌}
use Rattle.rdb_base.proofs.OrderLemmas.{value_is}
use Rattle.rdb_base.proofs.order.order.Goals as goal

pub returns : goal.returns
returns c = c.cmp.ensures ∙ ap (λ R. R c.args.a.now c.args.b.now) value_is
