use Rattle.std.proofs.Common.{rules, ◌≡◌, ◌+◌, ◌-◌, ℕ, subst, arith}
use Rattle.rdb_turn.specs.Steps.{Sees}
use Rattle.rdb_turn.proofs.Kept.{sees_word}
use Rattle.rdb_turn.proofs.steps.see_in.Goals as goal

pub load-requires : goal.load-requires
load-requires g c = (search rules, omega (arith, c.requires.table.1, c.requires.client.1), sees_word g.T.Chronicle _ _ _ _ _ g.K.Sight.fits c.requires.sight c.args.client c.requires.client)

pub returns-clause-saw : goal.returns-clause-saw
returns-clause-saw g c =
    let e : 2 + c.args.client - 2 ≡ c.args.client = omega arith in
    subst (λ (k : ℕ). Sees g.K.Sight.fits k c.args.place.now.me c.load.result c.load.new.seat.me) e c.load.ensures.2
