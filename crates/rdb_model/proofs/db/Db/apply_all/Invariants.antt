use Rattle.std.proofs.Common.{◌≡◌, length, take, drop}
use Rattle.rdb_model.specs.Story.{after}
use Rattle.rdb_model.proofs.db.Db.apply_all.Given as goal

-- the database is the one after the operations so far, and after what is left it is the one after all
abbrev pub invariant-loop-op : goal.invariant-loop-op
invariant-loop-op l = record {
  as_many : length l.self ≡ length l.schema.classes;
  so_far : l.self ≡ after l.schema l.fn.self (take l.op-index l.op-items);
  left : after l.schema l.self (drop l.op-index l.op-items) ≡ after l.schema l.fn.self l.done;
}
