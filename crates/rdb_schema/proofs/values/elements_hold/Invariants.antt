use Rattle.std.proofs.Common.{◌≡◌, drop}
use Rattle.std.specs.List.{list_all}
use Rattle.rdb_schema.specs.Values.{element_holds}
use Rattle.rdb_schema.proofs.values.elements_hold.Given as goal

-- each element so far is one of the type
abbrev pub invariant-loop-element : goal.invariant-loop-element
invariant-loop-element l = list_all (element_holds l.schema l.of) (drop l.element-index l.element-items) ≡ list_all (element_holds l.schema l.of) l.elements
