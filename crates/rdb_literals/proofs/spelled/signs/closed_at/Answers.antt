use Rattle.std.proofs.Common.{◌∷◌, sym, ◌∙◌}
use Rattle.rdb_literals.proofs.BlankLemmas.{after_same}
use Rattle.rdb_literals.proofs.spelled.signs.closed_at.Goals as goal

pub returns-clause-exact : goal.returns-clause-exact
returns-clause-exact c = λ blanks rest are e.
    let found = c.after_blanks.ensures.found in
    c.after.ensures.exact rest (after_same found.0 blanks c.after_blanks.result.now (c.args.sign ∷ rest) found.1 are c.after_blanks.ensures.ends c.requires (sym found.2 ∙ e))
