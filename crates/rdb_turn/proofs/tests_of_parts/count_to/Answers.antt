use Rattle.std.proofs.Common.{◌≡◌, ℕ, ◌≤◌, List, ap, sym, subst, inl, inr, ⊎_elim, Contains}
use Rattle.rdb_turn.specs.Rule.{Owns, OwnsSlot}
use Rattle.rdb_turn.specs.Steps.{left_in}
use Rattle.rdb_turn.specs.Passes.{Known}
use Rattle.rdb_turn.specs.declared.tests_of_parts.Count.{Count}
use Rattle.rdb_turn.proofs.Parts.{owns_left, owned_left}
use Rattle.rdb_turn.proofs.Counting.{elsewhere}
use Rattle.rdb_turn.proofs.tests_of_parts.count_to.Goals as goal

pub leave-requires-clause-parts : goal.leave-requires-clause-parts
leave-requires-clause-parts g c =
    let owned = ap (λ (k : Known Count). k.owned) c.enter-counted.ensures.known in
    let owns = subst (λ (ps : List (ℕ × Count)). OwnsSlot ps 1) (sym owned) c.requires.owns in
    λ slot x saw mine. inl (elsewhere slot c.args.count x.count (λ (e : slot ≡ 1). mine (subst (OwnsSlot c.enter-counted.new.pass.place.me.0.owned) (sym e) owns)))

pub returns-clause-found : goal.returns-clause-found
returns-clause-found g c =
    let gone = ap (λ (k : Known Count). k.gone) c.leave.ensures.known in
    λ x o. ⊎_elim
    (λ (e : c.enter-counted.result.count ≡ x.count). inl e)
    (λ k. inr (subst (λ (gs : List ℕ). Contains gs 1) (sym gone) k.0, k.1))
    (c.enter-counted.ensures.parts 1 x o)

pub returns-clause-left : goal.returns-clause-left
returns-clause-left g c =
    let value : Count = record { count = c.args.count; condemned = c.enter-counted.result.condemned } in
    let ps = c.enter-counted.new.pass.place.me.0.owned in
    let owned = ap (λ (k : Known Count). k.owned) c.leave.ensures.known in
    λ x o. let same = (owned_left ps value 1 x (subst (λ (qs : List (ℕ × Count)). Owns qs 1 x) owned o)).1 in ap (λ (v : Count). v.count) (sym same)

pub returns-clause-owns : goal.returns-clause-owns
returns-clause-owns g c =
    let value : Count = record { count = c.args.count; condemned = c.enter-counted.result.condemned } in
    let ps = c.enter-counted.new.pass.place.me.0.owned in
    let before = ap (λ (k : Known Count). k.owned) c.enter-counted.ensures.known in
    let owned = ap (λ (k : Known Count). k.owned) c.leave.ensures.known in
    let owns = subst (λ (qs : List (ℕ × Count)). OwnsSlot qs 1) (sym before) c.requires.owns in
    (value, subst (λ (qs : List (ℕ × Count)). Owns qs 1 value) (sym owned) (owns_left ps value 1 owns))
