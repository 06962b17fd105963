-- What slots spent, as one sum is written.
use Rattle.std.proofs.Common.{◌≡◌, ◌<◌, ◌+◌, inl, inr, ℕ, List, [], length, map, get_or, set, Some, slice_get, option_map, refl, sym, ap, ◌∙◌}
use Rattle.std.proofs.lemmas.List.{length-set}
use Rattle.std.proofs.lemmas.Option.{slice_get-map, slice_get_read, slice_get_within, get_or_from_slice_get}
use Rattle.std.proofs.lemmas.List.{get_or_read}
use Rattle.std.proofs.lemmas.Bool.{cases_eq}
use Rattle.rdb_base.specs.Room.{Reserved}
use Rattle.rdb_registry.specs.declared.seat.Slot.{Slot}
use Rattle.rdb_registry.specs.declared.seat.Condemnation.{Condemnation}
use Rattle.rdb_registry.specs.declared.transactions.Openings.{Openings}
use Rattle.rdb_registry.specs.Registry.{spent_by, with_spent}
use Rattle.rdb_registry.specs.Kept.{IsKept}
use Rattle.rdb_registry.proofs.SlotLemmas.{at_set_same, at_set_other}

-- the row of a slot, by what was found at its place
pub spent_row : {R : Type 0} (f : R → List ℕ) (rows : List R) (i : ℕ) (row : R) → i < length rows → row ≡ get_or rows i row → slice_get (map f rows) i ≡ Some (f row)
spent_row f rows i row lt e = slice_get-map f rows i ∙ ap (option_map f) (slice_get_read rows _ i row refl lt e)

-- the sum at a place of a slot's row
pub sum_at : (table : List (List ℕ)) (i class : ℕ) (row : List ℕ) (sum : ℕ) → slice_get table i ≡ Some row → class < length row → sum ≡ get_or row class sum → sum ≡ spent_by table i class
sum_at table i class row sum at lt e = get_or_read row class sum lt e 0 ∙ ap (λ (r : List ℕ). get_or r class 0) (sym (get_or_from_slice_get table i row [] at))

-- what is kept where a row is written whose length stays
pub kept_spent :
    {all : List Slot} {takers : List ℕ} {kept : Openings} {condemned : Reserved Condemnation} {table : List (List ℕ)} {serials : ℕ}
    → IsKept all takers kept condemned table serials → (i : ℕ) (row row' : List ℕ) → slice_get table i ≡ Some row → length row' ≡ length row
    → IsKept all takers kept condemned (set table i row') serials
kept_spent {takers = takers} {table = table} k i row row' at same =
    record {
      count = k.count;
      classes = k.classes;
      seated = k.seated;
      openings = k.openings;
      room = k.room;
      drawn = k.drawn;
      spent = length-set table i row' ∙ k.spent;
      rows = rows;
    }
  where
    one_row : (a b : List ℕ) → Some a ≡ Some b → a ≡ b
    one_row a b e = cc

    rows : (j : ℕ) (r : List ℕ) → slice_get (set table i row') j ≡ Some r → length r ≡ length takers
    rows j r there = elim (cases_eq j i) [
      | inl e ↦
          let mine : row' ≡ r = one_row row' r (sym (at_set_same table i row' (slice_get_within table i row at)) ∙ (ap (slice_get (set table i row')) (sym e) ∙ there)) in
          ap length (sym mine) ∙ (same ∙ k.rows i row at)
      | inr ne ↦ k.rows j r (sym (at_set_other table i j row' ne) ∙ there)
    ]

-- a sum written in a slot's row is that sum in the table
pub spent_set :
    (table : List (List ℕ)) (i class : ℕ) (row : List ℕ) (sum claim : ℕ) → slice_get table i ≡ Some row → sum ≡ spent_by table i class
    → set table i (set row class (sum + claim)) ≡ with_spent table i class (spent_by table i class + claim)
spent_set table i class row sum claim at e =
    let found : get_or table i [] ≡ row = get_or_from_slice_get table i row [] at in
    λ n. set table i (set (sym found n) class (e n + claim))
