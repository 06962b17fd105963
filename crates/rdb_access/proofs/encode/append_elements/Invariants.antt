use Rattle.std.proofs.Common.{◌≡◌, ◌++◌, drop, true, flat_map}
use Rattle.std.specs.List.{list_all}
use Rattle.rdb_schema.specs.Types.{element_fits}
use Rattle.rdb_schema.specs.Proper.{EachIs, IsProperElement}
use Rattle.rdb_schema.specs.Encoding.{element_bytes}
use Rattle.rdb_access.proofs.encode.append_elements.Given as goal

-- what is written and the bytes of the elements that are left are those of all
abbrev pub invariant-loop-at : goal.invariant-loop-at
invariant-loop-at l = record {
  written : l.out ++ flat_map (element_bytes l.of) (drop l.at l.elements) ≡ l.initial.out ++ flat_map (element_bytes l.of) l.elements;
  left : list_all (element_fits l.of) (drop l.at l.elements) ≡ true;
  proper : EachIs IsProperElement (drop l.at l.elements) → EachIs IsProperElement l.elements;
}
