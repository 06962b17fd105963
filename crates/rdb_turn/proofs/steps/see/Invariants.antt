use Rattle.atomic_table.specs.Table.{Seen}
use Rattle.rdb_turn.specs.Rule.{Keeps}
use Rattle.rdb_turn.proofs.steps.see.Given as goal

-- the rule holds at the look, and the seat has what the pass then knows
abbrev pub ghosts-see_in : goal.ghosts-see_in
ghosts-see_in g a = record { fits = λ table view. Seen (Keeps g.T.Chronicle a.board.now.key.made.value a.board.now.key.boarded) a.place.now.id view table }
