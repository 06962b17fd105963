use Rattle.std.proofs.Common.{[], ◌∷◌, ◌++◌, ◌∙◌}
use Rattle.rdb_literals.specs.SpelledValues.{IsNumberText}
use Rattle.rdb_literals.proofs.ListLemmas.{end_close, end_step}
use Rattle.rdb_literals.proofs.NumberLemmas.{number_back}
use Rattle.rdb_literals.proofs.RectLemmas.{four_of, list_of, same_list}
use Rattle.rdb_literals.proofs.spelled.numbers.edges_at.Goals as goal

pub returns-in_err-opened_at-clause-exact : goal.returns-in_err-opened_at-clause-exact
returns-in_err-opened_at-clause-exact c = λ spelled rest x1 y1 x2 y2 is e.
    let f = four_of c.args.text.now spelled rest x1 y1 x2 y2 is e in
    absurd (c.in_err-opened_at.ensures.exact f.blanks (f.first ++ f.after_1) f.are f.begins f.e)

pub returns-in_err-x1-clause-exact : goal.returns-in_err-x1-clause-exact
returns-in_err-x1-clause-exact c = λ spelled rest x1 y1 x2 y2 is e.
    let f = four_of c.args.text.now spelled rest x1 y1 x2 y2 is e in
    let opened = c.in_ok-opened_at.ensures.exact f.blanks (f.first ++ f.after_1) f.are f.begins f.e in
    absurd (c.in_err-x1.ensures.exact f.first f.after_1 x1 f.is f.digits opened)

pub returns-in_err-y1-clause-exact : goal.returns-in_err-y1-clause-exact
returns-in_err-y1-clause-exact c = λ spelled rest x1 y1 x2 y2 is e.
    let f = four_of c.args.text.now spelled rest x1 y1 x2 y2 is e in
    let opened = c.in_ok-opened_at.ensures.exact f.blanks (f.first ++ f.after_1) f.are f.begins f.e in
    let one = c.in_ok-x1.ensures.exact f.first f.after_1 x1 f.is f.digits opened in
    absurd (c.in_err-y1.ensures.exact f.second.before f.second.behind f.second.first f.after_2 y1 f.second.left f.second.right f.second.is f.second.digits (one.1 ∙ f.second.e))

pub returns-in_err-x2-clause-exact : goal.returns-in_err-x2-clause-exact
returns-in_err-x2-clause-exact c = λ spelled rest x1 y1 x2 y2 is e.
    let f = four_of c.args.text.now spelled rest x1 y1 x2 y2 is e in
    let opened = c.in_ok-opened_at.ensures.exact f.blanks (f.first ++ f.after_1) f.are f.begins f.e in
    let one = c.in_ok-x1.ensures.exact f.first f.after_1 x1 f.is f.digits opened in
    let two = c.in_ok-y1.ensures.exact f.second.before f.second.behind f.second.first f.after_2 y1 f.second.left f.second.right f.second.is f.second.digits (one.1 ∙ f.second.e) in
    absurd (c.in_err-x2.ensures.exact f.third.before f.third.behind f.third.first f.after_3 x2 f.third.left f.third.right f.third.is f.third.digits (two.1 ∙ f.third.e))

pub returns-in_err-y2-clause-exact : goal.returns-in_err-y2-clause-exact
returns-in_err-y2-clause-exact c = λ spelled rest x1 y1 x2 y2 is e.
    let f = four_of c.args.text.now spelled rest x1 y1 x2 y2 is e in
    let opened = c.in_ok-opened_at.ensures.exact f.blanks (f.first ++ f.after_1) f.are f.begins f.e in
    let one = c.in_ok-x1.ensures.exact f.first f.after_1 x1 f.is f.digits opened in
    let two = c.in_ok-y1.ensures.exact f.second.before f.second.behind f.second.first f.after_2 y1 f.second.left f.second.right f.second.is f.second.digits (one.1 ∙ f.second.e) in
    let three = c.in_ok-x2.ensures.exact f.third.before f.third.behind f.third.first f.after_3 x2 f.third.left f.third.right f.third.is f.third.digits (two.1 ∙ f.third.e) in
    absurd (c.in_err-y2.ensures.exact f.fourth.before f.fourth.behind f.fourth.first f.after_4 y2 f.fourth.left f.fourth.right f.fourth.is f.fourth.digits (three.1 ∙ f.fourth.e))

pub returns-in_err-rest-clause-exact : goal.returns-in_err-rest-clause-exact
returns-in_err-rest-clause-exact c = λ spelled rest x1 y1 x2 y2 is e.
    let f = four_of c.args.text.now spelled rest x1 y1 x2 y2 is e in
    let opened = c.in_ok-opened_at.ensures.exact f.blanks (f.first ++ f.after_1) f.are f.begins f.e in
    let one = c.in_ok-x1.ensures.exact f.first f.after_1 x1 f.is f.digits opened in
    let two = c.in_ok-y1.ensures.exact f.second.before f.second.behind f.second.first f.after_2 y1 f.second.left f.second.right f.second.is f.second.digits (one.1 ∙ f.second.e) in
    let three = c.in_ok-x2.ensures.exact f.third.before f.third.behind f.third.first f.after_3 x2 f.third.left f.third.right f.third.is f.third.digits (two.1 ∙ f.third.e) in
    let four = c.in_ok-y2.ensures.exact f.fourth.before f.fourth.behind f.fourth.first f.after_4 y2 f.fourth.left f.fourth.right f.fourth.is f.fourth.digits (three.1 ∙ f.fourth.e) in
    absurd (c.in_err-rest.ensures.exact f.closing rest f.closing_are (four.1 ∙ f.end))

pub returns-clause-found : goal.returns-clause-found
returns-clause-found c =
    let opened = c.in_ok-opened_at.ensures.found in
    let one = c.in_ok-x1.ensures.found in
    let two = c.in_ok-y1.ensures.found in
    let three = c.in_ok-x2.ensures.found in
    let four = c.in_ok-y2.ensures.found in
    let end = c.in_ok-rest.ensures.found in
    let closed = end_close IsNumberText 93 c.in_ok-y2.rest.now c.in_ok-rest.rest.now end.0 end.1 end.2 in
    let fourth = end_step IsNumberText 93 c.in_ok-y2.y2 [] c.in_ok-x2.rest.now c.in_ok-y2.rest.now c.in_ok-rest.rest.now four.0 four.1 four.2 four.3 four.4 four.5 four.6 closed in
    let third = end_step IsNumberText 93 c.in_ok-x2.x2 (c.in_ok-y2.y2 ∷ []) c.in_ok-y1.rest.now c.in_ok-x2.rest.now c.in_ok-rest.rest.now three.0 three.1 three.2 three.3 three.4 three.5 three.6 fourth in
    let second = end_step IsNumberText 93 c.in_ok-y1.y1 (c.in_ok-x2.x2 ∷ c.in_ok-y2.y2 ∷ []) c.in_ok-x1.rest.now c.in_ok-y1.rest.now c.in_ok-rest.rest.now two.0 two.1 two.2 two.3 two.4 two.5 two.6 third in
    let whole = list_of c.args.text.now c.in_ok-opened_at.field-0.now c.in_ok-x1.rest.now c.in_ok-rest.rest.now opened.0 one.0 c.in_ok-x1.x1 (c.in_ok-y1.y1 ∷ c.in_ok-x2.x2 ∷ c.in_ok-y2.y2 ∷ []) opened.1 opened.2 one.1 one.2 second in
    (whole.0, same_list whole.0 c.in_ok-x1.x1 c.in_ok-y1.y1 c.in_ok-x2.x2 c.in_ok-y2.y2 _ _ _ _ whole.1 (number_back one.0 c.in_ok-x1.x1 one.1) (number_back two.2 c.in_ok-y1.y1 two.5) (number_back three.2 c.in_ok-x2.x2 three.5) (number_back four.2 c.in_ok-y2.y2 four.5), whole.2)

pub returns-clause-exact : goal.returns-clause-exact
returns-clause-exact c = λ spelled rest x1 y1 x2 y2 is e.
    let f = four_of c.args.text.now spelled rest x1 y1 x2 y2 is e in
    let opened = c.in_ok-opened_at.ensures.exact f.blanks (f.first ++ f.after_1) f.are f.begins f.e in
    let one = c.in_ok-x1.ensures.exact f.first f.after_1 x1 f.is f.digits opened in
    let two = c.in_ok-y1.ensures.exact f.second.before f.second.behind f.second.first f.after_2 y1 f.second.left f.second.right f.second.is f.second.digits (one.1 ∙ f.second.e) in
    let three = c.in_ok-x2.ensures.exact f.third.before f.third.behind f.third.first f.after_3 x2 f.third.left f.third.right f.third.is f.third.digits (two.1 ∙ f.third.e) in
    let four = c.in_ok-y2.ensures.exact f.fourth.before f.fourth.behind f.fourth.first f.after_4 y2 f.fourth.left f.fourth.right f.fourth.is f.fourth.digits (three.1 ∙ f.fourth.e) in
    let end = c.in_ok-rest.ensures.exact f.closing rest f.closing_are (four.1 ∙ f.end) in
    let read_1 = c.in_ok-x1.ensures.found in
    let read_2 = c.in_ok-y1.ensures.found in
    let read_3 = c.in_ok-x2.ensures.found in
    let read_4 = c.in_ok-y2.ensures.found in (
      number_back read_1.0 c.in_ok-x1.x1 read_1.1 ∙ one.0,
      number_back read_2.2 c.in_ok-y1.y1 read_2.5 ∙ two.0,
      number_back read_3.2 c.in_ok-x2.x2 read_3.5 ∙ three.0,
      number_back read_4.2 c.in_ok-y2.y2 read_4.5 ∙ four.0,
      end,
    )
