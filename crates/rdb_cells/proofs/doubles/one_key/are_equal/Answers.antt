use Rattle.std.proofs.Common.{◌∙◌, refl, sym}
use Rattle.std.proofs.lemmas.Bool.{false≢true}
use Rattle.rdb_base.proofs.OrderLemmas.{row_level}
use Rattle.rdb_cells.proofs.KeyLemmas.{level_when_equal}
use Rattle.rdb_cells.proofs.doubles.one_key.are_equal.Goals as goal

pub returns-in-Equal : goal.returns-in-Equal
returns-in-Equal c = (λ _. row_level c.args.left.now c.args.right.now (sym c.order_rows.ensures ∙ c.in-Equal.is), λ _. refl)

pub returns-in_default : goal.returns-in_default
returns-in_default c = (λ e. absurd (false≢true e), λ same. absurd (c.in_default.not-Equal (c.order_rows.ensures ∙ level_when_equal c.args.left.now c.args.right.now same)))
