use Rattle.std.proofs.Common.{◌≡◌, true, ℕ, List, ◌∷◌, ap, sym, subst, Contains}
use Rattle.rdb_turn.specs.Passes.{Known}
use Rattle.rdb_turn.specs.declared.tests_of_parts.Count.{Count}
use Rattle.rdb_turn.proofs.Counting.{first_of, matched}
use Rattle.rdb_turn.proofs.tests_of_parts.look_and_meet.Goals as goal

pub returns-clause-true_of_client : goal.returns-clause-true_of_client
returns-clause-true_of_client c = λ is.
    let told = ap (λ (k : Known Count). k.stopped) (matched _ _ c.stopped-stopped.result is c.stopped-stopped.ensures.known) in
    c.meet.ensures.tells 1 c.requires.owns (subst (λ (ss : List ℕ). Contains ss 1) (sym told) (first_of 1 c.args.pass.now.place.me.0.stopped))
