use Rattle.std.proofs.Common.{Option, ℕ, IsSome, subst}
use Rattle.std.proofs.lemmas.Bool.{false≢true}
use Rattle.rdb_space.proofs.tests.spaces.grant.Goals as goal

pub grant-requires-clause-left : goal.grant-requires-clause-left
grant-requires-clause-left g c = λ all.
    let here = c.in-Some.ensures.found.here in
    false≢true (subst (λ (o : Option ℕ). IsSome o) here.2 (all c.in-Some.field-0 here.0 here.1))
