-- Operation by operation.
use Rattle.rdb_bindings.proofs.AnswerFits.{rows_stay, empty_holds}
use Rattle.rdb_bindings.proofs.FoldFits.{rows_after, rows_folded}
use Rattle.rdb_bindings.proofs.laws.rows_stay_of_their_types.Goals as goal

pub returns : goal.returns
returns c = record { empty = empty_holds; answer = rows_stay; story = rows_after; fold = rows_folded }
