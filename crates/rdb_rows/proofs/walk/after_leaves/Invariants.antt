use Rattle.std.proofs.Common.{◌≡◌, ◌++◌, List, ℕ, true, drop}
use Rattle.rdb_base.specs.declared.value.Leaf.{Leaf}
use Rattle.rdb_schema.specs.Encoding.{leaves_bytes}
use Rattle.rdb_schema.specs.Types.{all_pairs}
use Rattle.rdb_schema.specs.Values.{leaf_holds}
use Rattle.rdb_rows.specs.Spots.{Stand}
use Rattle.rdb_rows.proofs.walk.after_leaves.Given as goal

abbrev pub invariant-loop-at : goal.invariant-loop-at
invariant-loop-at g l = (ls : List Leaf) (rest : List ℕ) → all_pairs leaf_holds l.types ls ≡ true → Stand (g.C.Cells.image l.cells) l.fn.spot (leaves_bytes l.types ls ++ rest)
    → Stand (g.C.Cells.image l.cells) l.behind (leaves_bytes (drop l.at l.types) (drop l.at ls) ++ rest)
