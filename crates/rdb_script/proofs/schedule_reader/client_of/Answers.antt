use Rattle.std.proofs.Common.{sym, ap, ◌∙◌, arith, ◌≡◌, Some}
use Rattle.std.proofs.lemmas.Fmt.{decimal_injective}
use Rattle.rdb_script.proofs.schedule_reader.client_of.Goals as goal
use Rattle.rdb_script.proofs.schedule_reader.client_of.Goals.{then-client-eq0-via-then-client-eq0, then-client-eq0-via-else-client-eq0+then-client-from}

pub returns-then-client-eq0-clause-exact : goal.returns-then-client-eq0-clause-exact
returns-then-client-eq0-clause-exact c = λ client some le e.
    let same : c.in_ok-client.client ≡ client = decimal_injective c.in_ok-client.client client c.in_ok-client.ensures.some.1 (omega arith) (sym c.in_ok-client.ensures.some.0 ∙ e) in
    absurd (elim c.then-client-eq0.branch [ then-client-eq0-via-then-client-eq0 w ↦ omega arith | then-client-eq0-via-else-client-eq0+then-client-from w ↦ omega arith ])

pub returns-clause-exact : goal.returns-clause-exact
returns-clause-exact c = λ client some le e. ap Some (decimal_injective c.in_ok-client.client client c.in_ok-client.ensures.some.1 (omega arith) (sym c.in_ok-client.ensures.some.0 ∙ e))
