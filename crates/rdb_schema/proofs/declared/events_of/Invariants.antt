use Rattle.std.proofs.Common.{◌≡◌, ◌++◌, drop}
use Rattle.rdb_schema.specs.Meaning.{events_of}
use Rattle.rdb_schema.proofs.declared.events_of.Given as goal

abbrev pub invariant-loop-at : goal.invariant-loop-at
invariant-loop-at l = l.events ++ events_of l.fields (drop l.at l.body) ≡ events_of l.fields l.body
