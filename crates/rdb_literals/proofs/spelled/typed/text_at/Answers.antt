use Rattle.std.proofs.Common.{◌≡◌, length, ap, ◌∙◌, arith}
use Rattle.rdb_literals.proofs.ListLemmas.{at_some, at_none}
use Rattle.rdb_literals.proofs.spelled.typed.text_at.Goals as goal
use Rattle.rdb_literals.proofs.spelled.typed.text_at.Goals.{in-Some+else-as_str-le-MAX_TEXT, in_default}

pub returns-then-as_str-le-MAX_TEXT-clause-exact : goal.returns-then-as_str-le-MAX_TEXT-clause-exact
returns-then-as_str-le-MAX_TEXT-clause-exact c = λ spelled words rest is e.
    at_some c.in_ok-words.field-0 (c.in-Some.words, c.in-Some.rest) (λ p. (p.0 ≡ words) × (p.1.now ≡ rest)) (c.in_ok-words.ensures.exact spelled words rest is.0 e) c.in-Some.is

pub returns-clause-exact : goal.returns-clause-exact
returns-clause-exact c = λ spelled words rest is e. elim c.match-branch-2.branch [
  | in-Some+else-as_str-le-MAX_TEXT w ↦
      let same = at_some c.in_ok-words.field-0 (w.in-Some.words, w.in-Some.rest) (λ p. (p.0 ≡ words) × (p.1.now ≡ rest)) (c.in_ok-words.ensures.exact spelled words rest is.0 e) w.in-Some.is in
      let long = ap length (w.as_str.ensures ∙ same.0) in
      absurd (omega (arith, is.1, w.if-as_str-le-MAX_TEXT.false))
  | in_default w ↦ at_none c.in_ok-words.field-0 (λ p. (p.0 ≡ words) × (p.1.now ≡ rest)) (c.in_ok-words.ensures.exact spelled words rest is.0 e) w.in_default.is
]
