-- What is left of a plan while it is written.
use Rattle.std.proofs.Common.{◌≡◌, ◌==◌, ℕ, List, [], ◌∷◌, ◌++◌, length, Option, IsSome, true, inl, inr, refl, sym, ap, subst, ◌∙◌, rules, arith, eq-eqb}
use Rattle.std.proofs.lemmas.Bool.{false≢true}
use Rattle.std.proofs.Permutation.{which}
use Rattle.rdb_pages.specs.declared.cell.Cell.{Cell}
use Rattle.rdb_cells.specs.declared.pairs.Pair.{Pair}
use Rattle.rdb_cells.specs.Images.{Image, IsCell, SameImage, Writes}
use Rattle.rdb_cells.specs.Overlays.{AreCells}
use Rattle.rdb_cells.specs.Records.{names, planned}
use Rattle.rdb_cells.proofs.PairLemmas.{any_right, either}

pub last_named : (ps : List Pair) (p : Pair) → names (ps ++ p ∷ []) p.at.number ≡ true
last_named [] p = rw (eq-eqb p.at.number p.at.number refl) refl
last_named (q ∷ ps) p = any_right (q.at.number == p.at.number) (names (ps ++ p ∷ []) p.at.number) (last_named ps p)

still_named : (ps : List Pair) (p : Pair) (n : ℕ) → names ps n ≡ true → names (ps ++ p ∷ []) n ≡ true
still_named [] p n named = absurd (false≢true named)
still_named (q ∷ ps) p n named = elim (either (q.at.number == n) (names ps n) named) [
  | inl here ↦ rw here refl
  | inr later ↦ any_right (q.at.number == n) (names (ps ++ p ∷ []) n) (still_named ps p n later)
]

-- a cell stays one after a write
there_still : (before after : Image) (at n : ℕ) (cell : Cell) → Writes before after at cell → IsCell before n → IsCell after n
there_still before after at n cell writes there = elim (which n at) [
  | inl same ↦ subst (λ (o : Option Cell). IsSome o) (sym (ap after same ∙ writes.here)) (search rules)
  | inr other ↦ subst (λ (o : Option Cell). IsSome o) (sym (writes.elsewhere n other)) there
]

-- the pairs that are left, once the newest one is written, are of cells
pub cells_left : (ps : List Pair) (p : Pair) (before after : Image) → AreCells before (ps ++ p ∷ []) → Writes before after p.at.number p.cell → AreCells after ps
cells_left ps p before after cells writes n named = there_still before after p.at.number n p.cell writes (cells n (still_named ps p n named))

-- without pairs cells are read as they stand
pub none_planned : (ps : List Pair) → length ps ≡ 0 → (image : Image) → SameImage image (planned ps image)
none_planned [] none image n = refl
none_planned (p ∷ ps) none image n = absurd (omega arith)
