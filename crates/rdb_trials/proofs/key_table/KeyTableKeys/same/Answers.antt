use Rattle.std.proofs.Common.{◌∙◌, refl, sym}
use Rattle.std.proofs.lemmas.Bool.{false≢true}
use Rattle.rdb_base.proofs.OrderLemmas.{row_level}
use Rattle.rdb_cells.proofs.KeyLemmas.{level_when_equal}
use Rattle.rdb_trials.proofs.key_table.KeyTableKeys.same.Goals as goal

pub returns-in-Equal : goal.returns-in-Equal
returns-in-Equal g c v held = (λ _. sym (c.key_of.ensures v held) ∙ row_level c.key_of.result.now c.args.key.now (sym c.order_rows.ensures ∙ c.in-Equal.is), λ _. refl)

pub returns-in_default : goal.returns-in_default
returns-in_default g c v held = (λ e. absurd (false≢true e), λ same. absurd (c.in_default.not-Equal (c.order_rows.ensures ∙ level_when_equal c.key_of.result.now c.args.key.now (c.key_of.ensures v held ∙ same))))
