use Rattle.std.proofs.Common.{◌≡◌, true, false, is_some, ap, sym, ◌∙◌, arith}
use Rattle.rdb_model.specs.Touch.{written_by}
use Rattle.rdb_history.proofs.TakingUp.{one_taken_off, none_taken_off}
use Rattle.rdb_history.proofs.rows.room_taken.Goals.{then-is_some, else-is_some}
use Rattle.rdb_history.proofs.rows.room_taken.Goals as goal

pub loop-operation-preserved : goal.loop-operation-preserved
loop-operation-preserved c =
    let done = c.in-Commit.story.done in
    let n = c.loop-operation.operation in
    let so_far = c.loop-operation.invariant in
    elim c.if-is_some.branch [
      | then-is_some w ↦
          let wrote : is_some (written_by c.at.result.now) ≡ true = ap is_some (sym c.written_by.ensures) ∙ sym c.is_some.ensures ∙ w.if-is_some.true in
          let e = one_taken_off done n c.at.result.now c.at.ensures wrote in
          let few = so_far.few in let sum = so_far.sum in let now = w.taken-is in
          record { few = omega arith; sum = omega arith }
      | else-is_some w ↦
          let wrote : is_some (written_by c.at.result.now) ≡ false = ap is_some (sym c.written_by.ensures) ∙ sym c.is_some.ensures ∙ w.if-is_some.false in
          let e = none_taken_off done n c.at.result.now c.at.ensures wrote in
          let few = so_far.few in let sum = so_far.sum in let now = w.taken-is in
          record { few = omega arith; sum = omega arith }
    ]
