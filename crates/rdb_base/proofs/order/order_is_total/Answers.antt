-- The laws of the order.
use Rattle.rdb_base.proofs.OrderLemmas.{value_order_total, value_level, row_order_total, row_level}
use Rattle.rdb_base.proofs.order.order_is_total.Goals as goal

pub returns : goal.returns
returns c = record { total = value_order_total; same = value_level; rows_total = row_order_total; rows_same = row_level }
