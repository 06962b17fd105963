use Rattle.std.proofs.Common.{rules, ◌≡◌, ◌+◌, ◌-◌, ℕ, subst, arith}
use Rattle.rdb_turn.specs.Steps.{Stops}
use Rattle.rdb_turn.proofs.Kept.{stops_word}
use Rattle.rdb_turn.proofs.steps.stop.Goals as goal

pub store-requires : goal.store-requires
store-requires g c = (search rules, omega (arith, c.requires.table.1, c.requires.client.0.1), stops_word g.T.Chronicle _ _ _ _ _ c.args.client c.requires.client.0 c.requires.client.1)

pub returns-clause-stopped : goal.returns-clause-stopped
returns-clause-stopped g c =
    let e : 2 + c.args.client - 2 ≡ c.args.client = omega arith in
    subst (λ (k : ℕ). Stops k c.args.place.now.me c.store.new.seat.me) e c.store.ensures.2
