use Rattle.std.proofs.Common.{ℕ, subst, sym}
use Rattle.rdb_turn.specs.Steps.{WasAsLong}
use Rattle.rdb_turn.proofs.steps.publish.Goals as goal

pub confirm-requires-clause-may : goal.confirm-requires-clause-may
confirm-requires-clause-may g c =
    (c.args.length, c.requires.may, subst (λ (l : ℕ). WasAsLong g.T.Chronicle c.args.place.now.me l) (sym c.if-length-before.true) c.requires.before)
