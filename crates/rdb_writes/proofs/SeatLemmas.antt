-- Connections come and go.
use Rattle.std.proofs.Common.{◌≡◌, ◌∷◌, ℕ, zero, suc, List, [], length, set, replicate, Option, Some, None, true, not, refl, sym, ap, subst, ◌∙◌, arith, inl, inr}
use Rattle.std.proofs.Permutation.{which}
use Rattle.std.specs.List.{count_by}
use Rattle.rdb_cells.specs.declared.pairs.Pair.{Pair}
use Rattle.rdb_cells.specs.Images.{SameImage}
use Rattle.rdb_cells.specs.Records.{names, settled}
use Rattle.rdb_cells.proofs.SettledLemmas.{settled-same}
use Rattle.rdb_registry.specs.declared.hand.Hand.{Hand}
use Rattle.rdb_registry.specs.declared.seat.Seat.{Seat}
use Rattle.rdb_registry.specs.Seats.{Seats, seat_in}
use Rattle.rdb_registry.proofs.SlotLemmas.{seat_in_other}
use Rattle.rdb_writes.specs.Changes.{Comes, Goes}
use Rattle.rdb_writes.specs.Grounds.{Ground, WorksOn, HasPlaces, IsWork, AreWorks, settled_image, undo_records, logged_in}

-- a slot written so that its undo record stays
pub same_logged : (seats : Seats) (slot : ℕ) (x : Option Seat) → logged_in x ≡ logged_in (seat_in seats slot) → undo_records (set seats slot x) ≡ undo_records seats
same_logged [] slot x same = refl
same_logged (o ∷ os) zero x same = ap (λ (ps : List Pair). ps ∷ undo_records os) same
same_logged (o ∷ os) (suc slot) x same = ap (λ (rs : List (List Pair)). logged_in o ∷ rs) (same_logged os slot x same)

-- what is in a slot that was written
written_slot : (seats : Seats) (slot : ℕ) (x : Option Seat) (s : Seat) → seat_in (set seats slot x) slot ≡ Some s → x ≡ Some s
written_slot [] slot x s e = absurd (let no : None ≡ Some s = e in cc)
written_slot (o ∷ os) zero x s e = e
written_slot (o ∷ os) (suc slot) x s e = written_slot os slot x s e

-- nobody is there
nobody : (n slot : ℕ) (s : Seat) → ¬ (seat_in (replicate n None) slot ≡ Some s)
nobody zero slot s e = let no : None ≡ Some s = e in cc
nobody (suc n) zero s e = let no : None ≡ Some s = e in cc
nobody (suc n) (suc slot) s e = nobody n slot s e

pub nobody_works : (g : Ground) (n : ℕ) → g.seats ≡ replicate n None → AreWorks g
nobody_works g n none i s there = absurd (nobody n i s (ap (λ (seats : Seats). seat_in seats i) (sym none) ∙ there))

pub nobody_settled : (g : Ground) (n : ℕ) → g.seats ≡ replicate n None → SameImage (settled_image g) g.image
nobody_settled g n none m = ap (λ (seats : Seats). settled (undo_records seats) g.image m) none ∙ go n
  where
    go : (k : ℕ) → settled (undo_records (replicate k None)) g.image m ≡ g.image m
    go zero = refl
    go (suc k) = go k

idle_hand : (hand : Hand) → hand.undo.pairs ≡ [] → hand.plan.pairs ≡ [] → (n : ℕ) → ¬ WorksOn hand n
idle_hand hand undo plan n (inl logged) = let no : names [] n ≡ true = ap (λ (ps : List Pair). names ps n) (sym undo) ∙ logged in cc
idle_hand hand undo plan n (inr planned) = let no : names [] n ≡ true = ap (λ (ps : List Pair). names ps n) (sym plan) ∙ planned in cc

idle_places : (hand : Hand) → hand.undo.pairs ≡ [] → hand.plan.pairs ≡ [] → HasPlaces hand
idle_places hand undo plan =
    let none : length hand.undo.pairs ≡ 0 = ap (λ (ps : List Pair). length ps) undo in
    let few : count_by (λ (p : Pair). not (names hand.undo.pairs p.at.number)) hand.plan.pairs ≡ 0 = ap (λ (ps : List Pair). count_by (λ (p : Pair). not (names hand.undo.pairs p.at.number)) ps) plan in
    omega (arith, none, few)

module _ (before after : Ground) (slot : ℕ) (seat : Seat) (comes : Comes before after slot seat) where
  pub come_works : AreWorks before → AreWorks after
  come_works works i s there = elim (which i slot) [
    | inl same ↦
        let written : Some seat ≡ Some s = written_slot before.seats slot (Some seat) s (sym (ap (λ (seats : Seats). seat_in seats slot) comes.records) ∙ sym (ap (seat_in after.seats) same) ∙ there) in
        let is : seat ≡ s = cc in
        subst (λ (x : Seat). IsWork after x) is (record {
          latched = λ n on. absurd (idle_hand seat.hand comes.undo comes.plan n on);
          places = idle_places seat.hand comes.undo comes.plan;
        })
    | inr other ↦
        let was : seat_in before.seats i ≡ Some s = sym (seat_in_other before.seats slot i (Some seat) other) ∙ sym (ap (λ (seats : Seats). seat_in seats i) comes.records) ∙ there in
        let work = works i s was in
        record {
          latched = λ n on. let l = work.latched n on in (l.0, comes.cells.classes n ∙ l.1, l.2);
          places = work.places;
        }
  ]

  pub come_settled : SameImage (settled_image after) (settled_image before)
  come_settled n =
      ap (λ (rs : List (List Pair)). settled rs after.image n)
      (ap undo_records comes.records ∙ same_logged before.seats slot (Some seat) (comes.undo ∙ sym (ap logged_in comes.free)))
      ∙ settled-same (undo_records before.seats) after.image before.image n (comes.cells.image n)

module _ (before after : Ground) (slot : ℕ) (seat : Seat) (goes : Goes before after slot seat) where
  pub go_works : AreWorks before → AreWorks after
  go_works works i s there = elim (which i slot) [
    | inl same ↦
        let written : None ≡ Some s = written_slot before.seats slot None s (sym (ap (λ (seats : Seats). seat_in seats slot) goes.records) ∙ sym (ap (seat_in after.seats) same) ∙ there) in
        absurd cc
    | inr other ↦
        let was : seat_in before.seats i ≡ Some s = sym (seat_in_other before.seats slot i None other) ∙ sym (ap (λ (seats : Seats). seat_in seats i) goes.records) ∙ there in
        let work = works i s was in
        record {
          latched = λ n on. let l = work.latched n on in (l.0, goes.cells.classes n ∙ l.1, l.2);
          places = work.places;
        }
  ]

  pub go_settled : SameImage (settled_image after) (settled_image before)
  go_settled n =
      ap (λ (rs : List (List Pair)). settled rs after.image n)
      (ap undo_records goes.records ∙ same_logged before.seats slot None (sym (ap logged_in goes.held ∙ goes.undo)))
      ∙ settled-same (undo_records before.seats) after.image before.image n (goes.cells.image n)
