use Rattle.std.proofs.Common.{◌≡◌}
use Rattle.rdb_cells.specs.Work.{work}
use Rattle.rdb_store.proofs.IndexLoops.{IsPutting}
use Rattle.rdb_store.proofs.keyed.put_into.Given as goal

abbrev pub invariant-loop-keyed : goal.invariant-loop-keyed
invariant-loop-keyed g l =
    IsPutting g.I.Index.nature g.K.Keys.meaning l.indexes (work g.C.Cells l.fn.cells) (work g.C.Cells l.cells) l.version.number l.keyed-index
    × (l.cells.cells ≡ l.fn.cells.cells) × (l.cells.class ≡ l.fn.cells.class)
