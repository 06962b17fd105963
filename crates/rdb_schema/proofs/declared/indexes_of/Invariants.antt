use Rattle.std.proofs.Common.{◌≡◌, ◌++◌, drop}
use Rattle.rdb_schema.specs.Meaning.{indexes_of}
use Rattle.rdb_schema.proofs.declared.indexes_of.Given as goal

abbrev pub invariant-loop-at : goal.invariant-loop-at
invariant-loop-at l = l.indexes ++ indexes_of l.fields (drop l.at l.body) ≡ indexes_of l.fields l.body
