use Rattle.std.proofs.Common.{sym, ap, ◌∙◌, ◌∷◌, None}
use Rattle.atomic_table.specs.Table.{rest}
use Rattle.rdb_turn.proofs.steps.put.Goals as goal

pub exchange-requires : goal.exchange-requires
exchange-requires g c = let slot = c.requires.slot in (c.requires.table.0, (None, slot ∙ ap (λ cs. (0, None) ∷ rest cs) (sym slot)))
