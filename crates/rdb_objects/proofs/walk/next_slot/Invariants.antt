use Rattle.std.proofs.Common.{List}
use Rattle.rdb_objects.specs.Slots.{Slot, AreSlots}
use Rattle.rdb_objects.proofs.WalkLemmas.{IsSought}
use Rattle.rdb_objects.proofs.OrderLemmas.{IsLater}
use Rattle.rdb_objects.proofs.walk.next_slot.Given as goal

abbrev pub invariant-loop : goal.invariant-loop
invariant-loop g l = (slots : List Slot) → AreSlots (g.C.Cells.image l.cells) l.fn.class slots → (so_far : IsSought slots l.id l.counter l.digits l.spot) × IsLater slots so_far.path l.later.number
