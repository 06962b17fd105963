use Rattle.std.proofs.Common.{◌≡◌, sym, ap, ◌∙◌}
use Rattle.std.proofs.lemmas.Bool.{false≢true}
use Rattle.rdb_schema.specs.Values.{holds}
use Rattle.rdb_literals.proofs.ListLemmas.{at_some, at_none}
use Rattle.rdb_literals.proofs.spelled.typed.value_at.Goals as goal
use Rattle.rdb_literals.proofs.spelled.typed.value_at.Goals.{in-Some+else-holds+in-Leaf+in-Text-1, in-Some+else-holds+in-Leaf+in-Num-1, in-Some+else-holds+in-List-1, in-Some+else-holds+in-Group-1, in_default}

pub returns-then-holds-clause-exact : goal.returns-then-holds-clause-exact
returns-then-holds-clause-exact c = λ spelled rest value is ends e.
    at_some c.in_ok-value.field-0 (c.in-Some.value, c.in-Some.rest) (λ p. (p.0 ≡ value) × (p.1.now ≡ rest)) (c.in_ok-value.ensures.exact spelled rest value is.0 ends e) c.in-Some.is

pub returns-clause-exact : goal.returns-clause-exact
returns-clause-exact c = λ spelled rest value is ends e. elim c.match-branch-2.branch [
  | in-Some+else-holds+in-Leaf+in-Text-1 w ↦
      let same = at_some c.in_ok-value.field-0 (w.in-Some.value, w.in-Some.rest) (λ p. (p.0 ≡ value) × (p.1.now ≡ rest)) (c.in_ok-value.ensures.exact spelled rest value is.0 ends e) w.in-Some.is in
      false≢true (sym w.if-holds.false ∙ w.holds.ensures ∙ ap (holds c.args.schema.now c.args.ty.now) same.0 ∙ is.1)
  | in-Some+else-holds+in-Leaf+in-Num-1 w ↦
      let same = at_some c.in_ok-value.field-0 (w.in-Some.value, w.in-Some.rest) (λ p. (p.0 ≡ value) × (p.1.now ≡ rest)) (c.in_ok-value.ensures.exact spelled rest value is.0 ends e) w.in-Some.is in
      false≢true (sym w.if-holds.false ∙ w.holds.ensures ∙ ap (holds c.args.schema.now c.args.ty.now) same.0 ∙ is.1)
  | in-Some+else-holds+in-List-1 w ↦
      let same = at_some c.in_ok-value.field-0 (w.in-Some.value, w.in-Some.rest) (λ p. (p.0 ≡ value) × (p.1.now ≡ rest)) (c.in_ok-value.ensures.exact spelled rest value is.0 ends e) w.in-Some.is in
      false≢true (sym w.if-holds.false ∙ w.holds.ensures ∙ ap (holds c.args.schema.now c.args.ty.now) same.0 ∙ is.1)
  | in-Some+else-holds+in-Group-1 w ↦
      let same = at_some c.in_ok-value.field-0 (w.in-Some.value, w.in-Some.rest) (λ p. (p.0 ≡ value) × (p.1.now ≡ rest)) (c.in_ok-value.ensures.exact spelled rest value is.0 ends e) w.in-Some.is in
      false≢true (sym w.if-holds.false ∙ w.holds.ensures ∙ ap (holds c.args.schema.now c.args.ty.now) same.0 ∙ is.1)
  | in_default w ↦ at_none c.in_ok-value.field-0 (λ p. (p.0 ≡ value) × (p.1.now ≡ rest)) (c.in_ok-value.ensures.exact spelled rest value is.0 ends e) w.in_default.is
]
