use Rattle.std.proofs.Common.{◌∙◌, ap, sym, true, rules}
use Rattle.std.proofs.lemmas.Int.{to_z-of_z}
use mir.Syntax.{w128}
use mir.Val.{SFits, to_z, of_z}
use Rattle.rdb_literals.specs.Spelling.{with_sign}
use Rattle.rdb_literals.proofs.NumberLemmas.{minus_number, minus_read}
use Rattle.rdb_literals.proofs.spelled.numbers.number_at.Goals as goal

pub returns-in_err-size-clause-exact : goal.returns-in_err-size-clause-exact
returns-in_err-size-clause-exact c = λ spelled rest number is ends e.
    let d = minus_number c.args.text.now c.in-Some.digits.now spelled rest number c.in-Some.ensures.found is e in
    absurd (c.in_err-size.ensures.exact d.digits rest d.numeral d.small ends d.e)

pub returns-in-Some-clause-found : goal.returns-in-Some-clause-found
returns-in-Some-clause-found c =
    let found = c.in_ok-size.ensures.found in
    let fits : SFits w128 c.with_sign.result = search rules in
    minus_read c.args.text.now c.in-Some.digits.now c.in_ok-size.rest.now found.0 c.in_ok-size.size (to_z w128 (of_z w128 c.with_sign.result)) c.in-Some.ensures.found found.1 found.2 (search rules) (to_z-of_z w128 c.with_sign.result fits ∙ c.with_sign.ensures) found.3

pub returns-in-Some-clause-exact : goal.returns-in-Some-clause-exact
returns-in-Some-clause-exact c = λ spelled rest number is ends e.
    let d = minus_number c.args.text.now c.in-Some.digits.now spelled rest number c.in-Some.ensures.found is e in
    let same = c.in_ok-size.ensures.exact d.digits rest d.numeral d.small ends d.e in
    let fits : SFits w128 c.with_sign.result = search rules in
    (to_z-of_z w128 c.with_sign.result fits ∙ c.with_sign.ensures ∙ ap (with_sign true) same.0 ∙ sym d.value, same.1)
