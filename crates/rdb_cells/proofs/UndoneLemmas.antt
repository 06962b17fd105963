-- Cells with records taken back, seen whole and by their fields.
use Rattle.std.proofs.Common.{◌≡◌, ℕ, List, Option, IsSome, true, inl, inr, sym, subst}
use Rattle.rdb_pages.specs.declared.cell.Cell.{Cell}
use Rattle.rdb_pages.specs.declared.cell.CellRef.{CellRef}
use Rattle.rdb_cells.specs.declared.pairs.Pair.{Pair}
use Rattle.rdb_cells.specs.Free.{IsLowestAmong, sooner_of}
use Rattle.rdb_cells.specs.Images.{Image, IsCell, IsFree, AreBounded}
use Rattle.rdb_cells.specs.Overlays.{Undone}
use Rattle.rdb_cells.specs.Records.{settled, some_names}
use Rattle.rdb_cells.proofs.FreeLemmas.{settled_lowest}
use Rattle.rdb_cells.proofs.SettledLemmas.{settled_cell, settled-other, true_or_false}

module _ {X : Type 0} (image : X → Image) (class_of : X → ℕ → Option ℕ) (inside now : Undone X) (same : inside ≡ now) where
  pub undone_cell : (n : ℕ) → IsCell (settled now.records (image now.cells)) n → IsCell (settled inside.records (image inside.cells)) n
  undone_cell n there = subst (λ (v : Undone X). IsCell (settled v.records (image v.cells)) n) (sym same) there

  -- the searches in the records and below them, put together
  pub undone_lowest : (of start : ℕ) (a b r : Option CellRef) → IsLowestAmong (settled now.records (image now.cells)) (class_of now.cells) of start (λ n. some_names inside.records n ≡ true) a → IsLowestAmong (settled now.records (image now.cells)) (class_of now.cells) of start (IsFree (image inside.cells) (class_of inside.cells) of) b → r ≡ sooner_of a b → IsLowestAmong (settled now.records (image now.cells)) (class_of now.cells) of start (IsFree (settled now.records (image now.cells)) (class_of now.cells) of) r
  undone_lowest of start a b r ha hb is =
      let logged = subst (λ (v : Undone X). IsLowestAmong (settled now.records (image now.cells)) (class_of now.cells) of start (λ n. some_names v.records n ≡ true) a) same ha in
      let below = subst (λ (v : Undone X). IsLowestAmong (settled now.records (image now.cells)) (class_of now.cells) of start (IsFree (image v.cells) (class_of v.cells) of) b) same hb in
      settled_lowest now.records (image now.cells) (class_of now.cells) of start a b r logged below is

module _ (rs : List (List Pair)) (image : Image) (class_of : ℕ → Option ℕ) (are : (n : ℕ) → some_names rs n ≡ true → IsCell image n) where
  -- records add no cell
  pub cell_as_it_stands : (n : ℕ) → IsCell (settled rs image) n → IsCell image n
  cell_as_it_stands n there = elim (true_or_false (some_names rs n)) [
    | inl named ↦ are n named
    | inr unnamed ↦ subst (λ (o : Option Cell). IsSome o) (settled-other rs image n unnamed) there
  ]

  pub settled_bounded : AreBounded image class_of → AreBounded (settled rs image) class_of
  settled_bounded below = record {
    numbers = λ n there. below.numbers n (cell_as_it_stands n there);
    owned = λ n there. below.owned n (cell_as_it_stands n there);
    heads = λ n there. below.heads n (cell_as_it_stands n there);
    cells = λ n owned. settled_cell rs image n (below.cells n owned);
  }
