use Rattle.std.proofs.Common.{◌≡◌, ◌++◌, drop}
use Rattle.rdb_schema.specs.Meaning.{classes_of}
use Rattle.rdb_schema.proofs.declared.classes_of.Given as goal

abbrev pub invariant-loop-at : goal.invariant-loop-at
invariant-loop-at l = l.classes ++ classes_of l.groups (drop l.at l.syntax) ≡ classes_of l.groups l.syntax
