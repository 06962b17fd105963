use Rattle.std.proofs.Common.{◌++◌, sym, ◌∙◌}
use Rattle.rdb_literals.proofs.BlankLemmas.{after_same}
use Rattle.rdb_literals.proofs.spelled.signs.opened_at.Goals as goal

pub returns-clause-exact : goal.returns-clause-exact
returns-clause-exact c = λ blanks rest are ends e.
    let found = c.after_blanks.ensures.found in
    after_same found.0 blanks c.after_blanks.result.now rest found.1 are c.after_blanks.ensures.ends ends (sym found.2 ∙ c.in_ok-rest.ensures.exact (blanks ++ rest) e)
