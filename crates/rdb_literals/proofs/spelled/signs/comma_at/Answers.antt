use Rattle.std.proofs.Common.{◌++◌, sym, ◌∙◌}
use Rattle.rdb_literals.proofs.BlankLemmas.{after_same}
use Rattle.rdb_literals.proofs.spelled.signs.comma_at.Goals as goal

pub returns-clause-exact : goal.returns-clause-exact
returns-clause-exact c = λ before behind rest left right ends e.
    let found = c.after_blanks.ensures.found in
    after_same found.0 behind c.after_blanks.result.now rest found.1 right c.after_blanks.ensures.ends ends (sym found.2 ∙ c.in_ok-rest.ensures.exact before (behind ++ rest) left e)
