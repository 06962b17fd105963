use Rattle.std.proofs.Common.{◌∷◌, map, take}
use Rattle.rdb_rtree.specs.Boxes.{IsLeastCover}
use Rattle.rdb_rtree.proofs.boxes.cover_with.Given as goal

abbrev pub invariant-loop-entry : goal.invariant-loop-entry
invariant-loop-entry l = IsLeastCover (l.fn.first ∷ map (λ entry. entry.cover) (take l.entry-index l.rest)) l.cover
