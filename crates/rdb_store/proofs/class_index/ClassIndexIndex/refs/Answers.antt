use Rattle.std.proofs.Common.{subst}
use Rattle.rdb_cells.specs.Index.{IsStanding}
use Rattle.rdb_store.specs.ClassIndexes.{index_nature}
use Rattle.rdb_store.specs.declared.class_index.ClassIndex.{ClassIndex}
use Rattle.rdb_store.proofs.class_index.ClassIndexIndex.refs.Goals as goal

pub refs-requires : goal.refs-requires
refs-requires g c = subst (λ (i : ClassIndex). IsStanding (index_nature i) (g.C.Cells.image c.args.cells.now)) c.in-Hash.is c.requires

pub refs-requires-in-Tree : goal.refs-requires-in-Tree
refs-requires-in-Tree g c = subst (λ (i : ClassIndex). IsStanding (index_nature i) (g.C.Cells.image c.args.cells.now)) c.in-Tree.is c.requires
