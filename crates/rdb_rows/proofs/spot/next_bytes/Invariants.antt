use Rattle.std.proofs.Common.{◌≡◌, ◌≤◌, ℕ, List, length, take, drop}
use Rattle.rdb_rows.specs.Spots.{Stand}
use Rattle.rdb_rows.proofs.spot.next_bytes.Given as goal

abbrev pub invariant-loop-at : goal.invariant-loop-at
invariant-loop-at g l = (length l.bytes ≡ 8) × ((bytes : List ℕ) → l.many ≤ length bytes → Stand (g.C.Cells.image l.cells) l.fn.spot bytes
    → (take l.at l.bytes ≡ take l.at bytes) × Stand (g.C.Cells.image l.cells) l.spot (drop l.at bytes))
