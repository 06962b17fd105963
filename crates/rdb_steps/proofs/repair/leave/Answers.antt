use Rattle.std.proofs.Common.{sym, ◌∙◌}
use Rattle.rdb_steps.proofs.RepairLemmas.{leave_both}
use Rattle.rdb_steps.proofs.repair.leave.Goals as goal

pub returns-then-is_taken_back : goal.returns-then-is_taken_back
returns-then-is_taken_back c =
    leave_both c.args.registry.now c.args.d c.args.manager c.seat_mut.result.now c.leave_hand-is_taken_back.new.hand c.release_latches.new.self c.seat_mut.ensures.value c.leave_hand-is_taken_back.ensures.hand
    (sym c.leave_hand-is_taken_back.ensures.taken_back ∙ c.if-is_taken_back.true) c.release_latches.ensures
