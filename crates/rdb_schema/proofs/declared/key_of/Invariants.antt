use Rattle.std.proofs.Common.{◌≡◌, ◌++◌, drop}
use Rattle.rdb_schema.specs.Meaning.{key_of}
use Rattle.rdb_schema.proofs.declared.key_of.Given as goal

abbrev pub invariant-loop-part : goal.invariant-loop-part
invariant-loop-part l = l.key ++ key_of l.fields (drop l.part-index l.rest) ≡ key_of l.fields l.rest
