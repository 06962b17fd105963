use Rattle.rdb_cells.proofs.OrderLemmas.{order_free}
use Rattle.rdb_cells.proofs.laws.records_go_back_in_any_order.Goals as goal

pub returns : goal.returns
returns c = order_free
