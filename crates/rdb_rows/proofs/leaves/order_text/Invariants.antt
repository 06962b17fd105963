use Rattle.std.proofs.Common.{◌≡◌, ◌++◌, ◌∷◌, ℕ, List, length, drop, nat_cmp}
use Rattle.std.specs.Cmp.Lexicographic.{slice_cmp}
use Rattle.rdb_rows.specs.Spots.{Stand}
use Rattle.rdb_rows.proofs.leaves.order_text.Given as goal

abbrev pub invariant-loop-at : goal.invariant-loop-at
invariant-loop-at g l = (words rest : List ℕ) → Stand (g.C.Cells.image l.cells) l.fn.spot (length words ∷ (words ++ rest)) →
    (l.many ≡ length words) × Stand (g.C.Cells.image l.cells) l.left (drop l.at words ++ rest)
    × (slice_cmp nat_cmp words l.other ≡ slice_cmp nat_cmp (drop l.at words) (drop l.at l.other))
