use Rattle.std.proofs.Common.{sym, ◌∙◌}
use Rattle.rdb_script.proofs.LineLemmas.{named_text}
use Rattle.rdb_script.proofs.word.name_in.Goals as goal

pub returns : goal.returns
returns c = named_text c.args.word.now c.text_of.result (sym c.is_name.ensures ∙ c.if-not-is_name.false) c.text_of.ensures.some c.text_of.ensures.none
