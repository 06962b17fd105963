-- A list's comparison goes by that of its elements, which is the order of values.
use Rattle.std.proofs.Common.{ap, ◌∙◌}
use Rattle.std.specs.Cmp.Lexicographic.{slice_cmp}
use Rattle.rdb_base.proofs.OrderLemmas.{value_is}
use Rattle.rdb_base.proofs.order.order_rows.Goals as goal

pub returns : goal.returns
returns c = c.cmp.ensures ∙ ap (λ R. slice_cmp R c.args.a.now c.args.b.now) value_is
