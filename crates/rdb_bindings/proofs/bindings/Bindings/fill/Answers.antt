-- What is kept of a name's source is what it stands for.
use Rattle.std.proofs.Common.{ap, ◌∙◌}
use Rattle.rdb_bindings.specs.Filling.{with_referent}
use Rattle.rdb_bindings.proofs.PlaceLemmas.{if_ok_then}
use Rattle.rdb_bindings.proofs.KeepingLemmas.{filled_there}
use Rattle.rdb_bindings.proofs.bindings.Bindings.fill.Goals as goal

pub returns-in-Some : goal.returns-in-Some
returns-in-Some c =
    if_ok_then _ _ c.with_referent.result
    (λ op is answered keeps there.
    filled_there answered c.args.self.now c.args.number c.args.line.now c.in-Some.field-0 op
    (is ∙ ap (λ found. with_referent found c.args.line.now.op) c.referent.ensures) c.in-Some.is keeps there)
    c.with_referent.ensures
