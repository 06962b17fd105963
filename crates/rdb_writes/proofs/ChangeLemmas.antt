-- Changes that write no cell.
use Rattle.std.proofs.Common.{◌≡◌, ℕ, List, [], set, Option, Some, None, IsSome, false, option_map, refl, sym, ap, subst, ◌∙◌, arith, inl, inr}
use Rattle.std.proofs.Permutation.{which}
use Rattle.rdb_base.specs.declared.identity.ConnId.{ConnId}
use Rattle.rdb_pages.specs.declared.cell.Cell.{Cell}
use Rattle.rdb_cells.specs.declared.pairs.Pair.{Pair}
use Rattle.rdb_cells.specs.Images.{Image, SameImage, Writes}
use Rattle.rdb_cells.specs.Records.{names, content, first_of, planned, settled, taken_back, NoneNames}
use Rattle.rdb_cells.proofs.PairLemmas.{content_unnamed}
use Rattle.rdb_cells.proofs.SettledLemmas.{true_or_false, settled-same, settled-other, settled_write}
use Rattle.rdb_registry.specs.declared.hand.Hand.{Hand}
use Rattle.rdb_registry.specs.declared.seat.Seat.{Seat}
use Rattle.rdb_registry.specs.Seats.{Seats, seat_in, HoldsLatch, NoneHolds, with_latches}
use Rattle.rdb_registry.proofs.SlotLemmas.{seat_in_other}
use Rattle.rdb_registry.proofs.RecordLaws.{changed_here}
use Rattle.rdb_writes.specs.Changes.{ChangesHand, ChangesLatches, Grows}
use Rattle.rdb_writes.specs.Grounds.{Ground, IsLatched, WorksOn, IsWork, AreWorks, HaveOneHolder, NoneWorksOn, settled_image, aimed_image, undo_records, logged_in}
use Rattle.rdb_writes.proofs.RecordLemmas.{none_names, settled_own}
use Rattle.rdb_writes.proofs.SeatLemmas.{same_logged}
use Rattle.rdb_writes.proofs.WorkLemmas.{others_lack}
use Rattle.rdb_writes.proofs.StepLemmas.{at, seats_are, own_settled, elsewhere_settled, works_now}

-- no record has a cell on which nobody works
none_logged : (g : Ground) (n : ℕ) → NoneWorksOn g n → NoneNames (undo_records g.seats) n
none_logged g n idle = none_names g.seats n (λ i s there. elim (true_or_false (names s.hand.undo.pairs n)) [
  | inl named ↦ absurd (idle i s there (inl named))
  | inr unnamed ↦ unnamed
])

planned_free : (hand : Hand) (image : Image) (n : ℕ) → ¬ WorksOn hand n → planned hand.plan.pairs image n ≡ image n
planned_free hand image n idle = ap (λ (o : Option Cell). first_of o (image n)) (content_unnamed hand.plan.pairs n unnamed)
  where
    unnamed : names hand.plan.pairs n ≡ false
    unnamed = elim (true_or_false (names hand.plan.pairs n)) [
      | inl named ↦ absurd (idle (inr named))
      | inr free ↦ free
    ]

-- by the holder of a class's latch
pub by_holder : (g : Ground) (slot n : ℕ) (seat : Seat) → AreWorks g → HaveOneHolder g.seats → seat_in g.seats slot ≡ Some seat → IsLatched g seat n → settled_image g n ≡ taken_back seat.hand.undo.pairs g.image n
by_holder g slot n seat works one there latched = settled_own g.seats slot seat there g.image n (others_lack g one works slot seat there n latched)

class_is : (o : Option ℕ) (a b : ℕ) → o ≡ Some a → o ≡ Some b → a ≡ b
class_is o a b e f = let same : Some a ≡ Some b = sym e ∙ f in cc

pub by_nobody : (g : Ground) (class n : ℕ) → AreWorks g → g.class_of n ≡ Some class → NoneHolds g.seats class → settled_image g n ≡ g.image n
by_nobody g class n works of none = settled-other (undo_records g.seats) g.image n (none_logged g n (λ i s there on.
    let own = (works i s there).latched n on in
    let holds : HoldsLatch s class = subst (λ (k : ℕ). HoldsLatch s k) (class_is (g.class_of n) own.0 class own.1 of) own.2 in
    let zero_bit = none i s there in
    absurd (omega (arith, holds, zero_bit))))

-- a record with the same pairs in a slot
same_records : (seats : Seats) (slot : ℕ) (seat : Seat) → seat_in seats slot ≡ Some seat → (other : Seat) → other.hand.undo.pairs ≡ seat.hand.undo.pairs → (after : Seats) → after ≡ set seats slot (Some other) → undo_records after ≡ undo_records seats
same_records seats slot seat there other same after is = ap undo_records is ∙ same_logged seats slot (Some other) (same ∙ sym (ap logged_in there))

-- another hand
module _ (before after : Ground) (c : ConnId) (seat : Seat) (hand : Hand) (works : AreWorks before) (one : HaveOneHolder before.seats) (changes : ChangesHand before after c seat hand) where
  pub hand_works : AreWorks after
  hand_works = works_now before after c seat hand changes.held one works changes.cells.classes changes.records changes.latched changes.places

  pub hand_same : hand.undo.pairs ≡ seat.hand.undo.pairs → SameImage (settled_image after) (settled_image before)
  hand_same same n =
      ap (λ (rs : List (List Pair)). settled rs after.image n) (same_records before.seats c.slot seat (at before after c seat hand changes.held one works changes.cells.classes changes.records changes.latched) (record seat { hand = hand }) same after.seats (seats_are before after c seat hand changes.held one works changes.cells.classes changes.records changes.latched))
      ∙ settled-same (undo_records before.seats) after.image before.image n (changes.cells.image n)

  pub hand_emptied : (n : ℕ) → hand.undo.pairs ≡ [] → IsLatched before seat n → settled_image after n ≡ after.image n
  hand_emptied n empty latched = own_settled before after c seat hand changes.held one works changes.cells.classes changes.records changes.latched n latched empty

  pub hand_others : (n : ℕ) → ¬ IsLatched before seat n → settled_image after n ≡ settled_image before n
  hand_others n free = elsewhere_settled before after c seat hand changes.held one works changes.cells.classes changes.records changes.latched n free (changes.cells.image n)

-- other latches
module _ (before after : Ground) (slot : ℕ) (seat : Seat) (latches : ℕ) (changes : ChangesLatches before after slot seat latches) where
  latched_now : after.seats ≡ set before.seats slot (Some (with_latches latches seat))
  latched_now = changes.records ∙ ap (λ (o : Option Seat). set before.seats slot (option_map (with_latches latches) o)) changes.held

  pub latches_settled : SameImage (settled_image after) (settled_image before)
  latches_settled n =
      ap (λ (rs : List (List Pair)). settled rs after.image n) (same_records before.seats slot seat changes.held (with_latches latches seat) refl after.seats latched_now)
      ∙ settled-same (undo_records before.seats) after.image before.image n (changes.cells.image n)

  pub latches_works : AreWorks before → AreWorks after
  latches_works works i s there = elim (which i slot) [
    | inl same ↦
        let here : seat_in after.seats slot ≡ Some (with_latches latches seat) =
        ap (λ (seats : Seats). seat_in seats slot) changes.records
        ∙ changed_here before.seats slot (with_latches latches)
        ∙ ap (option_map (with_latches latches)) changes.held in
        let is : s ≡ with_latches latches seat = (let both : Some s ≡ Some (with_latches latches seat) = sym there ∙ ap (seat_in after.seats) same ∙ here in cc) in
        subst (λ (x : Seat). IsWork after x) (sym is) (record {
          latched = λ n on. let l = changes.latched n on in (l.0, changes.cells.classes n ∙ l.1, l.2);
          places = (works slot seat changes.held).places;
        })
    | inr other ↦
        let was : seat_in before.seats i ≡ Some s =
        sym (seat_in_other before.seats slot i (option_map (with_latches latches) (seat_in before.seats slot)) other)
        ∙ sym (ap (λ (seats : Seats). seat_in seats i) changes.records)
        ∙ there in
        let work = works i s was in
        record {
          latched = λ n on. let l = work.latched n on in (l.0, changes.cells.classes n ∙ l.1, l.2);
          places = work.places;
        }
  ]

-- more cells
some_class : (o : Option ℕ) (class : ℕ) → o ≡ Some class → IsSome o
some_class o class e = subst (λ (x : Option ℕ). IsSome x) (sym e) refl

module _ (before after : Ground) (grows : Grows before after) where
  pub grown_works : AreWorks before → AreWorks after
  grown_works works i s there =
      let work = works i s (ap (λ (seats : Seats). seat_in seats i) (sym grows.records) ∙ there) in
      record {
        latched = λ n on. let l = work.latched n on in (l.0, grows.classes n (some_class (before.class_of n) l.0 l.1) ∙ l.1, l.2);
        places = work.places;
      }

  pub grown_settled : (n : ℕ) → IsSome (before.class_of n) → settled_image after n ≡ settled_image before n
  grown_settled n there =
      ap (λ (seats : Seats). settled (undo_records seats) after.image n) grows.records
      ∙ settled-same (undo_records before.seats) after.image before.image n (grows.image n there)

  pub grown_aimed : (hand : Hand) (n : ℕ) → IsSome (before.class_of n) → aimed_image after hand n ≡ aimed_image before hand n
  grown_aimed hand n there = ap (first_of (content hand.plan.pairs n)) (grows.image n there)

  none_there : AreWorks before → (n : ℕ) → before.class_of n ≡ None → NoneWorksOn before n
  none_there works n none i s there on =
      let l = (works i s there).latched n on in
      let both : None ≡ Some l.0 = sym none ∙ l.1 in cc

  pub grown_new : (n : ℕ) → AreWorks before → before.class_of n ≡ None → settled_image after n ≡ after.image n
  grown_new n works none =
      ap (λ (seats : Seats). settled (undo_records seats) after.image n) grows.records
      ∙ settled-other (undo_records before.seats) after.image n (none_logged before n (none_there works n none))

  pub grown_unplanned : (slot n : ℕ) (seat : Seat) → AreWorks before → seat_in before.seats slot ≡ Some seat → before.class_of n ≡ None → aimed_image after seat.hand n ≡ after.image n
  grown_unplanned slot n seat works there none = planned_free seat.hand after.image n (none_there works n none slot seat there)

-- a write of a cell on which nobody works
module _ (before after : Ground) (n : ℕ) (cell : Cell) (same : after.seats ≡ before.seats) (idle : NoneWorksOn before n) (writes : Writes before.image after.image n cell) where
  pub idle_settled : Writes (settled_image before) (settled_image after) n cell
  idle_settled = subst (λ (seats : Seats). Writes (settled_image before) (settled (undo_records seats) after.image) n cell) (sym same) (settled_write (undo_records before.seats) before.image after.image n cell (none_logged before n idle) writes)

  pub idle_aimed : (slot : ℕ) (seat : Seat) → seat_in before.seats slot ≡ Some seat → Writes (aimed_image before seat.hand) (aimed_image after seat.hand) n cell
  idle_aimed slot seat there = record {
    here = planned_free seat.hand after.image n (idle slot seat there) ∙ writes.here;
    elsewhere = λ other ne. ap (first_of (content seat.hand.plan.pairs other)) (writes.elsewhere other ne);
  }

-- where each cell is of the class that it was, each works on cells of its own classes still
pub same_works : (before after : Ground) → after.seats ≡ before.seats → ((n : ℕ) → after.class_of n ≡ before.class_of n) → AreWorks before → AreWorks after
same_works before after same classes works i s there =
    let work = works i s (ap (λ (seats : Seats). seat_in seats i) (sym same) ∙ there) in
    record {
      latched = λ n on. let l = work.latched n on in (l.0, classes n ∙ l.1, l.2);
      places = work.places;
    }
