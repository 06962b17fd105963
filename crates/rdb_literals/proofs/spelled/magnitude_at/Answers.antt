use Rattle.std.proofs.Common.{sym, ◌∙◌, subst}
use Rattle.std.specs.Str.{IsUtf8}
use Rattle.rdb_literals.proofs.SpellingLemmas.{split_at_digits, digits_are_text, no_value, read_value}
use Rattle.rdb_literals.proofs.spelled.magnitude_at.Goals as goal

pub returns-in_err-text_of-clause-exact : goal.returns-in_err-text_of-clause-exact
returns-in_err-text_of-clause-exact c = λ digits rest numeral small ends e.
    let s = split_at_digits c.args.text.now digits rest c.digits_in_front.result numeral ends e c.digits_in_front.ensures.count in
    absurd (c.in_err-text_of.ensures.none (subst IsUtf8 (sym (c.split_at.ensures.front ∙ s.0)) (digits_are_text digits numeral)))

pub returns-in_err-value-clause-exact : goal.returns-in_err-value-clause-exact
returns-in_err-value-clause-exact c = λ digits rest numeral small ends e.
    let s = split_at_digits c.args.text.now digits rest c.digits_in_front.result numeral ends e c.digits_in_front.ensures.count in
    absurd (no_value c.in_ok-text_of.field-0.now digits c.in_err-value.ensures (c.in_ok-text_of.ensures.some ∙ c.split_at.ensures.front ∙ s.0) numeral small)

pub returns-clause-exact : goal.returns-clause-exact
returns-clause-exact c = λ digits rest numeral small ends e.
    let s = split_at_digits c.args.text.now digits rest c.digits_in_front.result numeral ends e c.digits_in_front.ensures.count in
    (read_value c.in_ok-text_of.field-0.now digits c.in_ok-value.value c.in_ok-value.ensures (c.in_ok-text_of.ensures.some ∙ c.split_at.ensures.front ∙ s.0), c.split_at.ensures.back ∙ s.1)
