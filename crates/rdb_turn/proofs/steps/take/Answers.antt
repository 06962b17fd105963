use Rattle.std.proofs.Common.{sym, ap, ◌∙◌, ◌∷◌, Some}
use Rattle.atomic_table.specs.Table.{rest}
use Rattle.rdb_turn.proofs.steps.take.Goals as goal

pub exchange-requires : goal.exchange-requires
exchange-requires g c = let slot = c.requires.slot in (c.requires.table.0, (Some slot.0, slot.1 ∙ ap (λ cs. (0, Some slot.0) ∷ rest cs) (sym slot.1)))
