use Rattle.std.proofs.Common.{◌≡◌, take, true}
use Rattle.rdb_cells.specs.Free.{IsLowestAmong}
use Rattle.rdb_cells.specs.Records.{names}
use Rattle.rdb_cells.proofs.free.lowest_named.Given as goal

abbrev pub invariant-loop-pair : goal.invariant-loop-pair
invariant-loop-pair g l = IsLowestAmong (g.L.Layer.image l.layer) (g.L.Layer.class_of l.layer) l.class l.above.number (λ n. names (take l.pair-index l.pairs) n ≡ true) l.best
