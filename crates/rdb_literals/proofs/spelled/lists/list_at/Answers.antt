use Rattle.std.proofs.Common.{◌≡◌, ◌∙◌, IfOk, IsSomeAnd}
use Rattle.rdb_literals.proofs.ListLemmas.{empty_text, inside_of, inside_empty, inside_filled, filled_found}
use Rattle.rdb_literals.proofs.spelled.lists.list_at.Goals as goal

pub returns-in-Some-closed_at-clause-found : goal.returns-in-Some-closed_at-clause-found
returns-in-Some-closed_at-clause-found g c =
    let opened = c.in-Some.ensures.found in
    let closed = c.in-Some-closed_at.ensures.found in
    rw c.new.ensures (empty_text g.T.Written.is_text c.args.close c.args.opening c.args.text.now c.in-Some.inner.now c.in-Some-closed_at.rest.now opened.0 closed.0 opened.1 closed.1 opened.2 closed.2)

pub returns-in-Some-closed_at-clause-exact : goal.returns-in-Some-closed_at-clause-exact
returns-in-Some-closed_at-clause-exact g c = λ spelled rest elements is e.
    let closed = c.in-Some-closed_at.ensures.found in
    let inside = inside_of g.T.Written.is_text c.args.close c.args.opening c.args.text.now spelled rest c.in-Some.inner.now elements c.requires g.met.T.Written.begins (λ b r hb hr e'. c.in-Some.ensures.exact b r hb hr e') is e in
    let empty = inside_empty g.T.Written.is_text c.args.close elements c.in-Some.inner.now rest c.in-Some-closed_at.rest.now closed.0 c.requires g.met.T.Written.begins closed.1 closed.2
    (λ b r hb e'. c.in-Some-closed_at.ensures.exact b r hb e') inside in
    (c.new.ensures ∙ empty.0, empty.1)

pub returns-clause-found : goal.returns-clause-found
returns-clause-found g c =
    let opened = c.in-Some.ensures.found in
    filled_found g.T.Written.is_text c.args.close c.args.opening c.args.text.now c.in-Some.inner.now opened.0 c.filled_at.result opened.1 opened.2 c.filled_at.ensures.found

pub returns-clause-exact : goal.returns-clause-exact
returns-clause-exact g c = λ spelled rest elements is e.
    let inside = inside_of g.T.Written.is_text c.args.close c.args.opening c.args.text.now spelled rest c.in-Some.inner.now elements c.requires g.met.T.Written.begins (λ b r hb hr e'. c.in-Some.ensures.exact b r hb hr e') is e in
    inside_filled g.T.Written.is_text c.args.close (λ es. IfOk c.filled_at.result (λ o. IsSomeAnd o (λ p. (p.0 ≡ es) × (p.1.now ≡ rest)))) elements c.in-Some.inner.now rest
    (λ b r hb e'. c.in_default-closed_at.ensures.exact b r hb e') (λ first more x xs h t e'. c.filled_at.ensures.exact first more rest x xs h t e') inside
