use Rattle.rdb_cells.proofs.PairLemmas.{written_next}
use Rattle.rdb_cells.proofs.laws.written_plan_reads_the_same.Goals as goal

pub returns : goal.returns
returns c = written_next
