use Rattle.std.proofs.Common.{◌≡◌, length, ap, arith}
use Rattle.rdb_transactions.proofs.connections.claims_of.Goals as goal

pub overflow_add-result : goal.overflow_add-result
overflow_add-result c =
    let same : length c.as_slice.result.now ≡ length c.args.seat.now.hand.done.items = ap length c.as_slice.ensures in
    omega arith
