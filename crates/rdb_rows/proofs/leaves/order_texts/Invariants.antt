use Rattle.std.proofs.Common.{◌≡◌, ◌++◌, ◌∷◌, ℕ, List, length, drop, nat_cmp}
use Rattle.std.specs.Cmp.Lexicographic.{slice_cmp}
use Rattle.rdb_rows.specs.Spots.{Stand}
use Rattle.rdb_rows.proofs.leaves.order_texts.Given as goal

abbrev pub invariant-loop : goal.invariant-loop
invariant-loop g l = (words rest : List ℕ) → Stand (g.C.Cells.image l.cells) l.fn.a (length words ∷ (words ++ rest)) → (others last : List ℕ) → Stand (g.C.Cells.image l.cells) l.fn.b (length others ∷ (others ++ last)) →
    (l.many ≡ length words) × (l.others ≡ length others)
    × Stand (g.C.Cells.image l.cells) l.left (drop l.counter words ++ rest) × Stand (g.C.Cells.image l.cells) l.right (drop l.counter others ++ last)
    × (slice_cmp nat_cmp words others ≡ slice_cmp nat_cmp (drop l.counter words) (drop l.counter others))
