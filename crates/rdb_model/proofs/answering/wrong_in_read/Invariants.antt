use Rattle.std.proofs.Common.{◌≡◌, ◌+◌, [], drop}
use Rattle.rdb_model.specs.Journal.{wrong_reply}
use Rattle.rdb_model.proofs.answering.wrong_in_read.Given as goal

-- no operation so far is wrong
abbrev pub invariant-loop-place : goal.invariant-loop-place
invariant-loop-place l = record {
  same : l.db ≡ l.fn.db;
  left : wrong_reply l.schema l.fn.db [] (l.place + 1) (drop l.place l.operations) ≡ wrong_reply l.schema l.fn.db [] 1 l.done;
}
