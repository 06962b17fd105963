use Rattle.std.proofs.Common.{map, string_bytes, arith, ap, ◌∙◌}
use Rattle.std.proofs.lemmas.Grind.{common_steps}
use Rattle.rdb_words.proofs.Parts.{if_none, no_option, no_equals}
use Rattle.rdb_words.proofs.definition.option_value.Goals as goal

pub returns-in_err-tail-clause-none : goal.returns-in_err-tail-clause-none
returns-in_err-tail-clause-none c =
    if_none _ (no_option _ _ _ _ (ap (map string_bytes) c.in_ok-word.ensures.cases.0)
    (λ more e. c.in_err-tail.ensures.cases more (c.as_str.ensures.value ∙ e)))

pub returns-in_err-value-2-clause-none : goal.returns-in_err-value-2-clause-none
returns-in_err-value-2-clause-none c =
    if_none _ (no_equals c.args.option.now _ c.in_ok-tail.tail.now _ _
    (ap (map string_bytes) c.in_ok-word.ensures.cases.0)
    (grind arith)
    (λ empty. grind arith)
    (λ more e. c.in_err-value-2.ensures.cases more (e ∙ grind (arith, common_steps))))
