use Rattle.std.proofs.Common.{◌≡◌, List, [], ◌∷◌, ◌++◌, ap, ◌∙◌, subst, IfOk, IsSomeAnd}
use Rattle.rdb_literals.proofs.ListLemmas.{end_no_digit, at_some, at_none}
use Rattle.rdb_literals.proofs.spelled.lists.filled_at.Goals as goal

pub returns-in_default-clause-exact : goal.returns-in_default-clause-exact
returns-in_default-clause-exact g c = λ first spelled rest x more is_x is e.
    at_none c.in_ok-first.field-0 (λ p. (p.0 ≡ x) × (p.1.now ≡ spelled ++ rest)) (c.in_ok-first.ensures.exact first (spelled ++ rest) x is_x (end_no_digit g.T.Written.is_text c.args.close more spelled rest c.requires is) e) c.in_default.is

pub returns-clause-exact : goal.returns-clause-exact
returns-clause-exact g c = λ first spelled rest x more is_x is e.
    let same = at_some c.in_ok-first.field-0 (c.in-Some.first, c.in-Some.behind) (λ p. (p.0 ≡ x) × (p.1.now ≡ spelled ++ rest))
    (c.in_ok-first.ensures.exact first (spelled ++ rest) x is_x (end_no_digit g.T.Written.is_text c.args.close more spelled rest c.requires is) e) c.in-Some.is in
    let one = c.in_ok-push.ensures.ok ∙ ap (λ (l : List g.row.T.Denot). l ++ c.in-Some.first ∷ []) c.new-elements.ensures in
    subst (λ (l : List g.row.T.Denot). IfOk c.ended_at.result (λ o. IsSomeAnd o (λ p. (p.0 ≡ l) × (p.1.now ≡ rest))))
    (ap (λ (l : List g.row.T.Denot). l ++ more) one ∙ ap (λ (v : g.row.T.Denot). v ∷ more) same.0) (c.ended_at.ensures.exact spelled rest more is same.1)
