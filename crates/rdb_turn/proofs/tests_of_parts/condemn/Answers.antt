use Rattle.std.proofs.Common.{rules, true, ◌≡◌, ◌≢◌, ◌≤◌, ℕ, cond, eqb, List, [], ◌∷◌, ap, sym, ◌∙◌, subst, inl, inr, arith, Contains}
use mathlib.Core.Logic.{dite}
use native.Mathlib.Decide.{ℕ_discrete}
use Rattle.rdb_turn.specs.Rule.{IsClient}
use Rattle.rdb_turn.specs.Passes.{Known}
use Rattle.rdb_turn.specs.declared.tests_of_parts.Count.{Count}
use Rattle.rdb_turn.proofs.Kept.{alone}
use Rattle.rdb_turn.proofs.Counting.{elsewhere, lowered, gone_of, gone_grows, first_of, matched}
use Rattle.rdb_turn.proofs.tests_of_parts.condemn.Goals as goal

pub leave-requires-clause-gone : goal.leave-requires-clause-gone
leave-requires-clause-gone g c =
    let gone = ap (λ (k : Known Count). k.gone) c.enter-counted.ensures.known in
    λ slot h. gone_grows c.enter-counted.result.condemned slot (subst (λ (gs : List ℕ). Contains gs slot) gone h)

pub leave-requires-clause-parts : goal.leave-requires-clause-parts
leave-requires-clause-parts g c = λ slot x saw mine. dite (ℕ_discrete slot 1)
    (λ (e : slot ≡ 1). inr (subst (λ (k : ℕ). Contains (gone_of true) k) (sym e) (first_of 1 []), lowered x.count (eqb slot 1)))
    (λ (ne : slot ≢ 1). inl (elsewhere slot 0 x.count ne))

pub leave-requires-clause-condemned : goal.leave-requires-clause-condemned
leave-requires-clause-condemned g c =
    let same = ap (λ (k : Known Count). k.stopped) c.enter-counted.ensures.known in
    let yes : c.stopped-stopped.result ≡ true = search rules in
    let told = ap (λ (k : Known Count). k.stopped) (matched _ _ c.stopped-stopped.result yes c.stopped-stopped.ensures.known) in
    let stopped = c.enter-counted.new.pass.place.me.0.stopped in
    let has : Contains stopped 1 = subst (λ (ss : List ℕ). Contains ss 1) (sym (same ∙ told)) (first_of 1 c.args.pass.now.place.me.0.stopped) in
    λ boarded slot h. inr (subst (λ (k : ℕ). IsClient k × Contains stopped k) (alone 1 slot h) ((omega arith, omega arith), has))

pub returns-clause-gone : goal.returns-clause-gone
returns-clause-gone g c = let gone = ap (λ (k : Known Count). k.gone) c.leave.ensures.known in λ _. subst (λ (gs : List ℕ). Contains gs 1) (sym gone) (first_of 1 [])
