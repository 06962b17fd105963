use Rattle.std.proofs.Common.{List}
use Rattle.rdb_objects.specs.Slots.{Path, Slot, AreSlots}
use Rattle.rdb_objects.specs.Walks.{IsSpot}
use Rattle.rdb_objects.proofs.WalkLemmas.{IsDescended}
use Rattle.rdb_objects.proofs.tree.lowest_leaf.Given as goal

abbrev pub invariant-loop : goal.invariant-loop
invariant-loop g l = (slots : List Slot) → AreSlots (g.C.Cells.image l.cells) l.fn.class slots → (path : Path) → IsSpot slots path l.fn.top → IsDescended slots path l.counter l.spot
