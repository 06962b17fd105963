use Rattle.rdb_literals.proofs.PrintedValueLemmas.{value_printed}
use Rattle.rdb_literals.proofs.spelled.typed.printed_values_are_spelled.Goals as goal

pub returns : goal.returns
returns c = λ schema ty value held proper. (value_printed schema ty value held proper, held)
