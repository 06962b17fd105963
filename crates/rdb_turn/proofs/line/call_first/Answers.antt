use Rattle.std.proofs.Common.{rules, arith, eqb, bit_or}
use prog.Atomic.{either}
use Rattle.rdb_turn.proofs.Kept.{signals}
use Rattle.rdb_turn.proofs.line.call_first.Goals as goal

pub compare_exchange-requires : goal.compare_exchange-requires
compare_exchange-requires g c =
    let first = c.peek-first.result in
    (search rules, search rules, signals g.T.Chronicle _ _ _ _ _ _ (λ n. either (eqb n first) (bit_or first 1) n) (omega arith))
