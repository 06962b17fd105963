use Rattle.std.proofs.Common.{◌≡◌, Some, length, slice_get, true, false, is_some, refl, ap, sym, ◌∙◌, arith}
use Rattle.std.proofs.lemmas.Option.{slice_get_read}
use Rattle.rdb_model.specs.Touch.{written_by}
use Rattle.rdb_history.proofs.TakingUp.{one_taken_off, none_taken_off}
use Rattle.rdb_transactions.proofs.claims.writes_in.Goals.{then-is_some, else-is_some}
use Rattle.rdb_transactions.proofs.claims.writes_in.Goals as goal

pub loop-op-preserved : goal.loop-op-preserved
loop-op-preserved c =
    let done = c.args.done.now in
    let n = c.loop-op.op-index in
    let at : slice_get done n ≡ Some c.loop-op-item.result = slice_get_read done (length done) n c.loop-op-item.result refl c.loop-op-test.true c.loop-op-item.is in
    let so_far = c.loop-op.invariant in
    elim c.if-is_some.branch [
      | then-is_some w ↦
          let wrote : is_some (written_by c.loop-op-item.result) ≡ true = ap is_some (sym c.written_by.ensures) ∙ sym c.is_some.ensures ∙ w.if-is_some.true in
          let e = one_taken_off done n c.loop-op-item.result at wrote in
          let few = so_far.few in let sum = so_far.sum in let now = w.writes-is in
          record { few = omega arith; sum = omega arith }
      | else-is_some w ↦
          let wrote : is_some (written_by c.loop-op-item.result) ≡ false = ap is_some (sym c.written_by.ensures) ∙ sym c.is_some.ensures ∙ w.if-is_some.false in
          let e = none_taken_off done n c.loop-op-item.result at wrote in
          let few = so_far.few in let sum = so_far.sum in let now = w.writes-is in
          record { few = omega arith; sum = omega arith }
    ]
