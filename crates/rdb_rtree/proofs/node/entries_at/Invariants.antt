use Rattle.std.proofs.Common.{◌≡◌, ℕ, length, take}
use Rattle.rdb_cells.specs.Keys.{Sayings}
use Rattle.rdb_rtree.specs.Changes.{entries_above}
use Rattle.rdb_rtree.specs.Standing.{IsKeyedAt}
use Rattle.rdb_rtree.specs.Trees.{Node, RTree}
use Rattle.rdb_rtree.proofs.node.entries_at.Given as goal

abbrev pub invariant-loop-own : goal.invariant-loop-own
invariant-loop-own g l = record {
  read : (said : Sayings) (h : ℕ) (t : Node (RTree h)) → IsKeyedAt (g.K.Keys.meaning l.keys) said (g.C.Cells.image l.cells) l.fn.at l.level h t → l.entries.items ≡ entries_above said h (take l.own-index t.below);
  many : length l.entries.items ≡ l.own-index;
}
