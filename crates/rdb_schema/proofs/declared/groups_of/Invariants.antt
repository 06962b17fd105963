use Rattle.std.proofs.Common.{◌≡◌, ◌++◌, drop}
use Rattle.rdb_schema.specs.Meaning.{groups_of}
use Rattle.rdb_schema.proofs.declared.groups_of.Given as goal

abbrev pub invariant-loop-at : goal.invariant-loop-at
invariant-loop-at l = l.groups ++ groups_of (drop l.at l.syntax) ≡ groups_of l.syntax
