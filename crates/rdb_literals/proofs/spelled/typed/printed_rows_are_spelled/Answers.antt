use Rattle.rdb_literals.proofs.PrintedValueLemmas.{row_printed}
use Rattle.rdb_literals.proofs.spelled.typed.printed_rows_are_spelled.Goals as goal

pub returns : goal.returns
returns c = λ schema class row held proper. (row_printed schema class row held proper, held)
