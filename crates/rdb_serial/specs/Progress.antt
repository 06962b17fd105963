-- How far a connection has come: what a serial history rests on of its record.
use Rattle.std.specs.Prelude.{ℕ, Bool, ◌&&◌, ◌==◌, not, List, [], ◌∷◌, ◌++◌, length, Option, Some, None, is_some, is_none, option_and_then, if◌then◌else◌}
use Rattle.std.specs.Int.{bit_at}
use Rattle.std.specs.Option.{option_map}
use Rattle.rdb_base.specs.declared.identity.ConnId.{ConnId}
use Rattle.rdb_base.specs.declared.identity.TxId.{TxId}
use Rattle.rdb_base.specs.declared.operation.Op.{Op}
use Rattle.rdb_base.specs.declared.operation.Op.TheVariants as op
use Rattle.rdb_base.specs.declared.operation.Reply.{Reply}
use Rattle.rdb_base.specs.declared.operation.Reply.TheVariants as reply
use Rattle.rdb_base.specs.declared.journal.Cause.{Cause}
use Rattle.rdb_base.specs.declared.journal.Story.{Story}
use Rattle.rdb_registry.specs.declared.hand.Work.{Work}
use Rattle.rdb_registry.specs.declared.seat.Seat.{Seat}
use Rattle.rdb_registry.specs.declared.seat.Transaction.{Transaction}
use Rattle.rdb_registry.specs.Seats.{Seats, seat_in, mark_if}
use Rattle.rdb_sight.specs.Versions.{Marks}

-- who it is, how many transactions it began, and the open one; its latches; whether it was condemned, and why it rolls back, if it does;
-- the story so far and the operation in work; and whether a part of its plan isn't written
pub record Progress : Type 0 where
  pub conn : ConnId
  pub begun : ℕ
  pub transaction : Option Transaction
  pub latches : ℕ
  pub condemned : Bool
  pub cause : Option Cause
  pub done : List (Op × Reply)
  pub work : Option Work
  pub plans : Bool

abbrev pub progress_of : Seat → Progress
progress_of seat = record {
  conn = seat.conn;
  begun = seat.begun;
  transaction = seat.transaction;
  latches = seat.latches;
  condemned = is_some seat.condemned;
  cause = seat.hand.cause;
  done = seat.hand.done.items;
  work = seat.hand.work;
  plans = not (length seat.hand.plan.pairs == 0);
}

-- the progress of each slot's connection: none where the slot is free
abbrev pub Course : Type 0
Course = ℕ → Option Progress

abbrev pub progress_in : Seats → Course
progress_in seats slot = option_map progress_of (seat_in seats slot)

-- the open transaction, as versions name it
abbrev pub tx_of : Progress → Transaction → TxId
tx_of p t = record { conn = p.conn; number = t.number }

-- whether a connection holds the latch of a class
abbrev pub holds : ℕ → ℕ → Bool
holds latches class = bit_at latches class == 1

-- whether a connection goes on with its transaction: it was neither condemned nor rolls back
abbrev pub is_live : Progress → Bool
is_live p = not p.condemned && is_none p.cause

-- what a write is told once it is done
abbrev pub reply_when_done : Op → Reply
reply_when_done (op.New class row id) = reply.Made id
reply_when_done _ = reply.Done

-- the operation in work with its reply, once its own plan is made
abbrev pub done_by_plan : Option Work → List (Op × Reply)
done_by_plan None = []
done_by_plan (Some work) = if is_some work.puts then (work.op, reply_when_done work.op) ∷ [] else []

-- the story so far, with the operation in work once its own plan is made
abbrev pub so_far : Progress → List (Op × Reply)
so_far p = p.done ++ done_by_plan p.work

-- the story of a connection's transaction, with these operations
abbrev pub story_with : Progress → Transaction → List (Op × Reply) → Story
story_with p t done = record { client = p.conn.slot; number = t.number; begun = t.begun; snapshot = t.snapshot; done = done }

-- the progress, if it is that of a connection
abbrev pub if_of : ConnId → Progress → Option Progress
if_of c p = if (p.conn.slot == c.slot) && (p.conn.serial == c.serial) then Some p else None

-- the mark of a transaction, if it is the open one of its connection
abbrev pub mark_in : TxId → Option Progress → Option ℕ
mark_in tx p = option_and_then (mark_if tx.number) (option_and_then (λ q. q.transaction) (option_and_then (if_of tx.conn) p))

-- the marks of the open transactions
abbrev pub marks_of : Course → Marks
marks_of course tx = mark_in tx (course tx.conn.slot)
