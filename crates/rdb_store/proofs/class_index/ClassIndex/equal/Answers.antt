use Rattle.std.proofs.Common.{subst}
use Rattle.rdb_hash.specs.Shape.{hash_nature}
use Rattle.rdb_tree.specs.Nature.{tree_nature}
use Rattle.rdb_store.specs.ClassIndexes.{index_nature}
use Rattle.rdb_store.specs.Lookups.{Stands}
use Rattle.rdb_store.specs.declared.class_index.ClassIndex.{ClassIndex}
use Rattle.rdb_store.proofs.KeyLookups.{answered_by_hash, answered_by_tree}
use Rattle.rdb_store.proofs.class_index.ClassIndex.equal.Goals as goal

pub equal-requires-clause-stands : goal.equal-requires-clause-stands
equal-requires-clause-stands g c =
    subst (λ (i : ClassIndex). Stands (index_nature i) (g.K.Keys.meaning c.args.keys.now) (g.C.Cells.image c.args.cells.now)) c.in-Hash.is c.requires.stands

pub equal-requires-in-Tree-clause-standing : goal.equal-requires-in-Tree-clause-standing
equal-requires-in-Tree-clause-standing g c =
    subst (λ (i : ClassIndex). Stands (index_nature i) (g.K.Keys.meaning c.args.keys.now) (g.C.Cells.image c.args.cells.now)) c.in-Tree.is c.requires.stands

pub returns-in-Hash : goal.returns-in-Hash
returns-in-Hash g c =
    rw c.in-Hash.is
    (answered_by_hash (hash_nature c.in-Hash.hash.class c.in-Hash.hash.head.number) (g.K.Keys.meaning c.args.keys.now) (g.C.Cells.image c.args.cells.now) c.args.key.now
    c.equal.result c.equal.ensures)

pub returns-in-Tree : goal.returns-in-Tree
returns-in-Tree g c =
    rw c.in-Tree.is
    (answered_by_tree (tree_nature c.in-Tree.tree.class c.in-Tree.tree.head.number) (g.K.Keys.meaning c.args.keys.now) (g.C.Cells.image c.args.cells.now) c.args.key.now
    c.equal-in-Tree.result c.equal-in-Tree.ensures)
