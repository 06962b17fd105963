use Rattle.std.proofs.Common.{◌≡◌, take, map, true}
use Rattle.rdb_cells.specs.Free.{IsLowestAmong}
use Rattle.rdb_cells.specs.Records.{some_names}
use Rattle.rdb_cells.proofs.free.lowest_logged.Given as goal

abbrev pub invariant-loop-record : goal.invariant-loop-record
invariant-loop-record g l = IsLowestAmong (g.L.Layer.image l.layer) (g.L.Layer.class_of l.layer) l.class l.above.number (λ n. some_names (take l.record-index (map (λ r. r.now.pairs) l.records)) n ≡ true) l.best
