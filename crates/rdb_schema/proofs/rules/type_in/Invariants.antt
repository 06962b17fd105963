use Rattle.std.proofs.Common.{◌≡◌, drop}
use Rattle.rdb_schema.specs.Rules.{type_in}
use Rattle.rdb_schema.proofs.rules.type_in.Given as goal

abbrev pub invariant-loop-at : goal.invariant-loop-at
invariant-loop-at l = type_in l.name (drop l.at l.parts) ≡ type_in l.name l.parts
