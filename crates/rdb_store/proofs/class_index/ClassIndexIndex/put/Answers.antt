use Rattle.rdb_store.proofs.class_index.ClassIndexIndex.put.Goals as goal

pub returns-in-Hash-clause-puts : goal.returns-in-Hash-clause-puts
returns-in-Hash-clause-puts g c = rw c.in-Hash.is c.put.ensures.puts

pub returns-in-Hash-clause-own : goal.returns-in-Hash-clause-own
returns-in-Hash-clause-own g c = rw c.in-Hash.is c.put.ensures.own

pub returns-in-Tree-clause-puts : goal.returns-in-Tree-clause-puts
returns-in-Tree-clause-puts g c = rw c.in-Tree.is c.put-in-Tree.ensures.puts

pub returns-in-Tree-clause-own : goal.returns-in-Tree-clause-own
returns-in-Tree-clause-own g c = rw c.in-Tree.is c.put-in-Tree.ensures.own
