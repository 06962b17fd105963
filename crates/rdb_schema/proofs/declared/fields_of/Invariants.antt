use Rattle.std.proofs.Common.{◌≡◌, ◌++◌, drop}
use Rattle.rdb_schema.specs.Meaning.{fields_of}
use Rattle.rdb_schema.proofs.declared.fields_of.Given as goal

abbrev pub invariant-loop-at : goal.invariant-loop-at
invariant-loop-at l = l.fields ++ fields_of l.groups (drop l.at l.body) ≡ fields_of l.groups l.body
