use Rattle.std.proofs.Common.{◌++◌}
use Rattle.rdb_literals.specs.FirstSigns.{number_begins}
use Rattle.rdb_literals.proofs.BlankLemmas.{value_no_blank}
use Rattle.rdb_literals.proofs.spelled.numbers.next_at.Goals as goal

pub returns-in_err-comma_at-clause-exact : goal.returns-in_err-comma_at-clause-exact
returns-in_err-comma_at-clause-exact c = λ before behind spelled rest number left right is ends e.
    absurd (c.in_err-comma_at.ensures.exact before behind (spelled ++ rest) left right (value_no_blank spelled rest (number_begins spelled number is)) e)

pub returns-clause-exact : goal.returns-clause-exact
returns-clause-exact c = λ before behind spelled rest number left right is ends e.
    c.number_at.ensures.exact spelled rest number is ends (c.in_ok-comma_at.ensures.exact before behind (spelled ++ rest) left right (value_no_blank spelled rest (number_begins spelled number is)) e)
