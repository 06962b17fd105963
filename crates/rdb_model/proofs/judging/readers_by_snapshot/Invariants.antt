use Rattle.std.proofs.Common.{take}
use Rattle.rdb_model.specs.Tallies.{AreReaders}
use Rattle.rdb_model.proofs.judging.readers_by_snapshot.Given as goal

-- the readers of the entries so far
abbrev pub invariant-loop-place : goal.invariant-loop-place
invariant-loop-place l = AreReaders (take l.place l.entries) l.readers.items
