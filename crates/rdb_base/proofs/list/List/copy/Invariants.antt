-- The elements so far are copied.
use Rattle.std.proofs.Common.{◌≡◌, take}
use Rattle.rdb_base.proofs.list.List.copy.Given as goal

abbrev pub invariant-loop-element : goal.invariant-loop-element
invariant-loop-element g l = l.copies.items ≡ take l.element-index l.elements
