use Rattle.std.proofs.Common.{◌≡◌, ◌++◌, List, ℕ, length, true, drop}
use Rattle.std.specs.List.{flat_map, list_all}
use Rattle.rdb_base.specs.declared.value.Element.{Element}
use Rattle.rdb_schema.specs.Encoding.{element_bytes}
use Rattle.rdb_schema.specs.Types.{element_fits}
use Rattle.rdb_rows.specs.Spots.{Stand}
use Rattle.rdb_rows.proofs.walk.after_elements.Given as goal

abbrev pub invariant-loop : goal.invariant-loop
invariant-loop g l = (es : List Element) (rest : List ℕ) → length es ≡ l.many → list_all (element_fits l.of) es ≡ true → Stand (g.C.Cells.image l.cells) l.fn.spot (flat_map (element_bytes l.of) es ++ rest)
    → Stand (g.C.Cells.image l.cells) l.behind (flat_map (element_bytes l.of) (drop l.counter es) ++ rest)
