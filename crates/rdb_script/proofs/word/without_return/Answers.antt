use Rattle.std.proofs.Common.{sym, ap, ◌∙◌}
use Rattle.rdb_script.specs.Lines.{without_return}
use Rattle.rdb_script.proofs.LineLemmas.{returned, not_returned}
use Rattle.rdb_script.proofs.word.without_return.Goals as goal

pub returns-in-Some : goal.returns-in-Some
returns-in-Some c = sym (ap without_return c.in-Some.ensures.found ∙ returned c.in-Some.front.now)

pub returns-in-None : goal.returns-in-None
returns-in-None c = not_returned c.args.line.now c.in-None.ensures.exact
