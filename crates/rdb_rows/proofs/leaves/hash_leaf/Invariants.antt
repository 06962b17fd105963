use Rattle.std.proofs.Common.{◌≡◌, ◌++◌, drop, fold}
use Rattle.rdb_base.specs.declared.value.Leaf.{Leaf}
use Rattle.rdb_schema.specs.Encoding.{leaf_bytes}
use Rattle.rdb_cells.specs.Keys.{fnv_step}
use Rattle.rdb_rows.specs.Spots.{Stand, BeginsLeaf}
use Rattle.rdb_rows.proofs.leaves.hash_leaf.Given as goal

abbrev pub invariant-loop : goal.invariant-loop
invariant-loop g l = (m : Leaf) (begins : BeginsLeaf (g.C.Cells.image l.cells) l.fn.spot l.fn.ty m) →
    Stand (g.C.Cells.image l.cells) l.next (drop l.counter (leaf_bytes l.fn.ty m) ++ begins.rest)
    × (fold fnv_step l.hash (drop l.counter (leaf_bytes l.fn.ty m)) ≡ fold fnv_step l.fn.hash (leaf_bytes l.fn.ty m))
