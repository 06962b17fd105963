-- Overlays seen whole, and by their fields.
use Rattle.std.proofs.Common.{◌≡◌, ◌∙◌, ℕ, List, Option, IsSome, true, inl, inr, sym, ap, subst}
use Rattle.rdb_pages.specs.declared.cell.Cell.{Cell}
use Rattle.rdb_pages.specs.declared.cell.CellRef.{CellRef}
use Rattle.rdb_cells.specs.declared.pairs.Pair.{Pair}
use Rattle.rdb_cells.specs.Free.{IsLowestAmong, sooner_of}
use Rattle.rdb_cells.specs.Images.{Image, IsCell, IsFree, AreBounded}
use Rattle.rdb_cells.specs.Overlays.{Laid, AreCells}
use Rattle.rdb_cells.specs.Records.{planned, names, first_of}
use Rattle.rdb_cells.proofs.FreeLemmas.{planned_lowest, cell_when_planned}
use Rattle.rdb_cells.proofs.PairLemmas.{content_unnamed}
use Rattle.rdb_cells.proofs.SettledLemmas.{true_or_false}

module _ {X : Type 0} (image : X → Image) (class_of : X → ℕ → Option ℕ) (inside now : Laid X) (same : inside ≡ now) where
  pub cell_inside : (n : ℕ) → IsCell (image now.cells) n → IsCell (image inside.cells) n
  cell_inside n there = subst (λ (v : Laid X). IsCell (image v.cells) n) (sym same) there

  -- the searches in the plan and below it, put together
  pub laid_lowest : (of start : ℕ) (ps : List Pair) (a b r : Option CellRef) → ps ≡ inside.plan.pairs → IsLowestAmong (planned now.plan.pairs (image now.cells)) (class_of now.cells) of start (λ n. names ps n ≡ true) a → IsLowestAmong (planned now.plan.pairs (image now.cells)) (class_of now.cells) of start (IsFree (image inside.cells) (class_of inside.cells) of) b → r ≡ sooner_of a b → IsLowestAmong (planned now.plan.pairs (image now.cells)) (class_of now.cells) of start (IsFree (planned now.plan.pairs (image now.cells)) (class_of now.cells) of) r
  laid_lowest of start ps a b r are ha hb is =
      let in_plan = subst (λ (qs : List Pair). IsLowestAmong (planned now.plan.pairs (image now.cells)) (class_of now.cells) of start (λ n. names qs n ≡ true) a) (are ∙ ap (λ (v : Laid X). v.plan.pairs) same) ha in
      let below = subst (λ (v : Laid X). IsLowestAmong (planned now.plan.pairs (image now.cells)) (class_of now.cells) of start (IsFree (image v.cells) (class_of v.cells) of) b) same hb in
      planned_lowest now.plan.pairs (image now.cells) (class_of now.cells) of start a b r in_plan below is

module _ (ps : List Pair) (image : Image) (class_of : ℕ → Option ℕ) (are : AreCells image ps) where
  -- a plan adds no cell
  pub cell_below : (n : ℕ) → IsCell (planned ps image) n → IsCell image n
  cell_below n there = elim (true_or_false (names ps n)) [
    | inl named ↦ are n named
    | inr unnamed ↦ subst (λ (o : Option Cell). IsSome o) (ap (λ (o : Option Cell). first_of o (image n)) (content_unnamed ps n unnamed)) there
  ]

  pub planned_bounded : AreBounded image class_of → AreBounded (planned ps image) class_of
  planned_bounded below = record {
    numbers = λ n there. below.numbers n (cell_below n there);
    owned = λ n there. below.owned n (cell_below n there);
    heads = λ n there. below.heads n (cell_below n there);
    cells = λ n owned. cell_when_planned ps image n (below.cells n owned);
  }
