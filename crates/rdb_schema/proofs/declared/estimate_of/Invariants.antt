use Rattle.std.proofs.Common.{◌≡◌, drop}
use Rattle.rdb_schema.specs.Meaning.{estimate_of}
use Rattle.rdb_schema.proofs.declared.estimate_of.Given as goal

abbrev pub invariant-loop-part : goal.invariant-loop-part
invariant-loop-part l = estimate_of (drop l.part-index l.body) ≡ estimate_of l.body
