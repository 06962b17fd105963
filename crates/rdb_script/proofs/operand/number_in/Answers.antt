use Rattle.rdb_literals.proofs.SpellingLemmas.{digits_are_text}
use Rattle.rdb_script.proofs.operand.number_in.Goals as goal

pub returns-in_err-text_of-clause-exact : goal.returns-in_err-text_of-clause-exact
returns-in_err-text_of-clause-exact c = λ n h. absurd (c.in_err-text_of.ensures.none (digits_are_text c.args.word.now h.0))
