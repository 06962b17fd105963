use Rattle.std.proofs.Common.{ℕ, ◌<◌, ◌^◌, List, SomeIff, subst}
use Rattle.std.specs.Str.Parse.{IsNumeral, digits_value}
use Rattle.rdb_literals.proofs.DecimalLemmas.{printed_by_value, unprinted_by_value, leading_zero, printed_is_text, IfNone-is}
use Rattle.rdb_literals.proofs.decimal.printed.Goals as goal

pub returns-then-has_leading_zero-clause-none : goal.returns-then-has_leading_zero-clause-none
returns-then-has_leading_zero-clause-none c = λ n small e.
    leading_zero n c.args.digits.now small e c.if-has_leading_zero.ensures.yes.0 c.if-has_leading_zero.ensures.yes.1

pub returns-in_err-text_of-clause-none : goal.returns-in_err-text_of-clause-none
returns-in_err-text_of-clause-none c =
    IfNone-is c.from_residual.result _ (λ n small e. c.in_err-text_of.ensures.none (printed_is_text n c.args.digits.now small e))

pub returns-clause-some : goal.returns-clause-some
returns-clause-some c =
    printed_by_value c.args.digits.now c.number.result c.if-has_leading_zero.ensures.no
    (subst (λ (text : List ℕ). SomeIff c.number.result (IsNumeral 10 text × (digits_value 10 text < 2 ^ 64)) (digits_value 10 text)) c.in_ok-text_of.ensures.some c.number.ensures)

pub returns-clause-none : goal.returns-clause-none
returns-clause-none c =
    unprinted_by_value c.args.digits.now c.number.result
    (subst (λ (text : List ℕ). SomeIff c.number.result (IsNumeral 10 text × (digits_value 10 text < 2 ^ 64)) (digits_value 10 text)) c.in_ok-text_of.ensures.some c.number.ensures)
