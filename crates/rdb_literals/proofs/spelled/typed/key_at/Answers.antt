use Rattle.std.proofs.Common.{◌≡◌, sym, ap, ◌∙◌}
use Rattle.std.proofs.lemmas.Bool.{false≢true}
use Rattle.rdb_schema.specs.Values.{values_hold}
use Rattle.rdb_schema.specs.Indexes.{key_fields}
use Rattle.rdb_literals.proofs.ListLemmas.{at_some, at_none}
use Rattle.rdb_literals.proofs.spelled.typed.key_at.Goals as goal
use Rattle.rdb_literals.proofs.spelled.typed.key_at.Goals.{in-Some+else-key_holds, in_default}

pub returns-then-key_holds-clause-exact : goal.returns-then-key_holds-clause-exact
returns-then-key_holds-clause-exact c = λ spelled rest key is e.
    at_some c.in_ok-key.field-0 (c.in-Some.key, c.in-Some.rest) (λ p. (p.0 ≡ key) × (p.1.now ≡ rest)) (c.in_ok-key.ensures.exact spelled rest key is.0 e) c.in-Some.is

pub returns-clause-exact : goal.returns-clause-exact
returns-clause-exact c = λ spelled rest key is e. elim c.match-branch-2.branch [
  | in-Some+else-key_holds w ↦
      let same = at_some c.in_ok-key.field-0 (w.in-Some.key, w.in-Some.rest) (λ p. (p.0 ≡ key) × (p.1.now ≡ rest)) (c.in_ok-key.ensures.exact spelled rest key is.0 e) w.in-Some.is in
      false≢true (sym w.if-key_holds.false ∙ w.key_holds.ensures ∙ ap (values_hold c.args.schema.now (key_fields c.args.schema.now c.args.class c.args.index)) same.0 ∙ is.1)
  | in_default w ↦ at_none c.in_ok-key.field-0 (λ p. (p.0 ≡ key) × (p.1.now ≡ rest)) (c.in_ok-key.ensures.exact spelled rest key is.0 e) w.in_default.is
]
