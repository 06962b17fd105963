use Rattle.rdb_store.proofs.class_index.ClassIndexIndex.remove.Goals as goal

pub returns-in-Hash-clause-removes : goal.returns-in-Hash-clause-removes
returns-in-Hash-clause-removes g c = rw c.in-Hash.is c.remove.ensures.removes

pub returns-in-Hash-clause-own : goal.returns-in-Hash-clause-own
returns-in-Hash-clause-own g c = rw c.in-Hash.is c.remove.ensures.own

pub returns-in-Tree-clause-removes : goal.returns-in-Tree-clause-removes
returns-in-Tree-clause-removes g c = rw c.in-Tree.is c.remove-in-Tree.ensures.removes

pub returns-in-Tree-clause-own : goal.returns-in-Tree-clause-own
returns-in-Tree-clause-own g c = rw c.in-Tree.is c.remove-in-Tree.ensures.own
