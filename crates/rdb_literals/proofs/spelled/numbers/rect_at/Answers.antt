use Rattle.rdb_literals.proofs.RectLemmas.{same_list}
use Rattle.rdb_literals.proofs.spelled.numbers.rect_at.Goals as goal

pub returns-in_err-edges-clause-exact : goal.returns-in_err-edges-clause-exact
returns-in_err-edges-clause-exact c = λ spelled rest rect is e. absurd (c.in_err-edges.ensures.exact spelled rest rect.x1 rect.y1 rect.x2 rect.y2 is.0 e)

pub returns-in_err-rect_of-clause-exact : goal.returns-in_err-rect_of-clause-exact
returns-in_err-rect_of-clause-exact c = λ spelled rest rect is e.
    let same = c.in_ok-edges.ensures.exact spelled rest rect.x1 rect.y1 rect.x2 rect.y2 is.0 e in
    absurd (c.in_err-rect_of.ensures.exact rect is.1 same.0 same.1 same.2 same.3)

pub returns-clause-found : goal.returns-clause-found
returns-clause-found c =
    let read = c.in_ok-edges.ensures.found in
    let made = c.in_ok-rect_of.ensures.some in
    (read.0, (same_list read.0 _ _ _ _ _ _ _ _ read.1 made.0 made.1 made.2 made.3, made.4), read.2)

pub returns-clause-exact : goal.returns-clause-exact
returns-clause-exact c = λ spelled rest rect is e.
    let same = c.in_ok-edges.ensures.exact spelled rest rect.x1 rect.y1 rect.x2 rect.y2 is.0 e in
    (c.in_ok-rect_of.ensures.exact rect is.1 same.0 same.1 same.2 same.3, same.4)
