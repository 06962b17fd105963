use Rattle.std.proofs.Common.{subst}
use Rattle.rdb_store.specs.ClassIndexes.{index_nature}
use Rattle.rdb_store.specs.Lookups.{Stands}
use Rattle.rdb_store.specs.declared.class_index.ClassIndex.{ClassIndex}
use Rattle.rdb_store.proofs.class_index.ClassIndex.seek.Goals as goal

pub seek-requires-clause-standing : goal.seek-requires-clause-standing
seek-requires-clause-standing g c =
    subst (λ (i : ClassIndex). Stands (index_nature i) (g.K.Keys.meaning c.args.keys.now) (g.C.Cells.image c.args.cells.now)) c.in-Tree.is c.requires.stands

pub returns : goal.returns
returns g c = rw c.in-Tree.is c.seek.ensures.first
