use Rattle.std.proofs.Common.{◌≡◌, ℕ, ◌<◌, length, sym, arith}
use Rattle.std.specs.HashMap.{spare}
use Rattle.rdb_history.proofs.TakingUp.{room_left, nothing_written, one_taken_up}
use Rattle.rdb_history.proofs.index.index_writes.Goals.{in-Some, in_default}
use Rattle.rdb_history.proofs.index.index_writes.Goals as goal

pub index_write-requires-clause-room : goal.index_write-requires-clause-room
index_write-requires-clause-room c =
    let own : ℕ × ℕ = (c.in-Some.class, c.in-Some.id) in
    room_left c.args.done.now c.loop-operation.operation c.at.result.now c.at.ensures own c.loop-operation.writes.room (sym c.in-Some.ensures) c.loop-operation.invariant.room

pub index_write-requires-clause-table : goal.index_write-requires-clause-table
index_write-requires-clause-table c =
    let own : ℕ × ℕ = (c.in-Some.class, c.in-Some.id) in
    room_left c.args.done.now c.loop-operation.operation c.at.result.now c.at.ensures own (spare c.loop-operation.newest) (sym c.in-Some.ensures) c.loop-operation.invariant.table_room

pub loop-operation-preserved : goal.loop-operation-preserved
loop-operation-preserved c = elim c.match-written_by.branch [
  | in-Some w ↦
      let own : ℕ × ℕ = (w.in-Some.class, w.in-Some.id) in
      let starts : c.len-first.result ≡ length c.args.writes.now.items = c.len-first.ensures.value in
      rw (w.classes-is, w.class_set-own.ensures, w.writes-is, w.newest-is)
      (one_taken_up c.args.done.now c.loop-operation.operation c.at.result.now c.at.ensures c.args.place c.args.writes.now c.args.newest.now c.loop-operation.classes c.loop-operation.writes c.loop-operation.newest c.loop-operation.invariant own
      w.index_write.new.writes w.index_write.new.newest (sym w.in-Some.ensures)
      (λ i found high. w.index_write.ensures.again i found (omega arith))
      (λ below. w.index_write.ensures.first (λ i found. let low : i < length c.args.writes.now.items = below i found in omega arith))
      (room_left c.args.done.now c.loop-operation.operation c.at.result.now c.at.ensures own c.loop-operation.writes.room (sym w.in-Some.ensures) c.loop-operation.invariant.room))
  | in_default w ↦
      rw (w.classes-is, w.writes-is, w.newest-is)
      (nothing_written c.args.done.now c.loop-operation.operation c.at.result.now c.at.ensures c.args.place c.args.writes.now c.args.newest.now c.loop-operation.classes c.loop-operation.writes c.loop-operation.newest c.loop-operation.invariant (sym w.in_default.ensures))
]
