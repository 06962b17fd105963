use Rattle.std.proofs.Common.{◌≡◌, sym, ap, ◌∙◌}
use Rattle.std.proofs.lemmas.Bool.{false≢true}
use Rattle.rdb_schema.specs.Values.{row_holds}
use Rattle.rdb_literals.proofs.ListLemmas.{at_some, at_none}
use Rattle.rdb_literals.proofs.spelled.typed.row_at.Goals as goal
use Rattle.rdb_literals.proofs.spelled.typed.row_at.Goals.{in-Some+else-row_holds, in_default}

pub returns-then-row_holds-clause-exact : goal.returns-then-row_holds-clause-exact
returns-then-row_holds-clause-exact c = λ spelled rest row is e.
    at_some c.in_ok-row.field-0 (c.in-Some.row, c.in-Some.rest) (λ p. (p.0 ≡ row) × (p.1.now ≡ rest)) (c.in_ok-row.ensures.exact spelled rest row is.0 e) c.in-Some.is

pub returns-clause-exact : goal.returns-clause-exact
returns-clause-exact c = λ spelled rest row is e. elim c.match-branch-2.branch [
  | in-Some+else-row_holds w ↦
      let same = at_some c.in_ok-row.field-0 (w.in-Some.row, w.in-Some.rest) (λ p. (p.0 ≡ row) × (p.1.now ≡ rest)) (c.in_ok-row.ensures.exact spelled rest row is.0 e) w.in-Some.is in
      false≢true (sym w.if-row_holds.false ∙ w.row_holds.ensures ∙ ap (row_holds c.args.schema.now c.args.class) same.0 ∙ is.1)
  | in_default w ↦ at_none c.in_ok-row.field-0 (λ p. (p.0 ≡ row) × (p.1.now ≡ rest)) (c.in_ok-row.ensures.exact spelled rest row is.0 e) w.in_default.is
]
