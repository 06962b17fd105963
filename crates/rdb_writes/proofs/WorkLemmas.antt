-- Who works on a cell, and what is so of each connection's work once one connection's hand has changed.
use Rattle.std.proofs.Common.{◌≡◌, ◌≢◌, ℕ, Option, Some, None, IsSome, IsSomeAnd, false, option_map, option_and_then, refl, sym, ap, subst, ◌∙◌, inl, inr}
use Rattle.std.proofs.Permutation.{which}
use Rattle.rdb_base.specs.declared.identity.ConnId.{ConnId}
use Rattle.rdb_cells.specs.Records.{names}
use Rattle.rdb_cells.proofs.SettledLemmas.{true_or_false}
use Rattle.rdb_registry.specs.declared.hand.Hand.{Hand}
use Rattle.rdb_registry.specs.declared.seat.Seat.{Seat}
use Rattle.rdb_registry.specs.Seats.{Seats, seat_in, seat_of, if_conn, HoldsLatch, with_hand}
use Rattle.rdb_registry.proofs.SlotLemmas.{seat_in_other, some_and_of, if_conn_is}
use Rattle.rdb_registry.proofs.RecordLaws.{changed_here}
use Rattle.rdb_writes.specs.Grounds.{Ground, IsLatched, WorksOn, HasPlaces, IsWork, AreWorks, HaveOneHolder}
use Rattle.rdb_writes.proofs.RecordLemmas.{OthersLack}

and_then_some : {X Y : Type 0} (f : X → Option Y) (o : Option X) (y : Y) → option_and_then f o ≡ Some y → (x : X) × ((o ≡ Some x) × (f x ≡ Some y))
and_then_some f None y e = absurd (let none : None ≡ Some y = e in cc)
and_then_some f (Some x) y e = (x, (refl, e))

-- a connection's record stands in its slot
pub in_its_slot : (seats : Seats) (c : ConnId) (seat : Seat) → seat_of seats c ≡ Some seat → seat_in seats c.slot ≡ Some seat
in_its_slot seats c seat e =
    let there = and_then_some (if_conn c) (seat_in seats c.slot) seat e in
    there.1.0 ∙ ap (λ (s : Seat). Some s) (if_conn_is c there.0 seat there.1.1).1

class_is : (o : Option ℕ) (a b : ℕ) → o ≡ Some a → o ≡ Some b → a ≡ b
class_is o a b e f = let same : Some a ≡ Some b = sym e ∙ f in cc

module _ (g : Ground) (one : HaveOneHolder g.seats) (works : AreWorks g) (slot : ℕ) (seat : Seat) (at : seat_in g.seats slot ≡ Some seat) (n : ℕ) (latched : IsLatched g seat n) where
  -- on a cell of a connection's class no other works
  pub no_other_works : (i : ℕ) (s : Seat) → i ≢ slot → seat_in g.seats i ≡ Some s → ¬ WorksOn s.hand n
  no_other_works i s other there on =
      let own = (works i s there).latched n on in
      other (one latched.0 i slot s seat there at (subst (λ (class : ℕ). HoldsLatch s class) (class_is (g.class_of n) own.0 latched.0 own.1 latched.1) own.2) latched.2)

  pub others_lack : OthersLack g.seats slot n
  others_lack i s other there = elim (true_or_false (names s.hand.undo.pairs n)) [
    | inl named ↦ absurd (no_other_works i s other there (inl named))
    | inr unnamed ↦ unnamed
  ]

-- a cell of another class isn't worked on
pub unlatched : (g : Ground) (seat : Seat) (n : ℕ) → IsWork g seat → ¬ IsLatched g seat n → names seat.hand.undo.pairs n ≡ false
unlatched g seat n work free = elim (true_or_false (names seat.hand.undo.pairs n)) [
  | inl named ↦ absurd (free (work.latched n (inl named)))
  | inr unnamed ↦ unnamed
]

-- One connection's hand has changed: each still works on cells of its own classes alone, where that one does.
pub works_kept : (before after : Ground) (slot : ℕ) (seat : Seat) (hand : Hand) →
    seat_in before.seats slot ≡ Some seat →
    after.seats ≡ with_hand before.seats slot hand →
    ((n : ℕ) → after.class_of n ≡ before.class_of n) →
    ((n : ℕ) → WorksOn hand n → IsLatched before seat n) →
    HasPlaces hand →
    AreWorks before → AreWorks after
works_kept before after slot seat hand at records classes own places works i s there = elim (which i slot) [
  | inl same ↦
      let now : Seat = record seat { hand = hand } in
      let here : seat_in after.seats slot ≡ Some now =
      ap (λ (seats : Seats). seat_in seats slot) records
      ∙ changed_here before.seats slot (λ (x : Seat). record x { hand = hand })
      ∙ ap (option_map (λ (x : Seat). record x { hand = hand })) at in
      let is : s ≡ now = (let both : Some s ≡ Some now = sym there ∙ ap (seat_in after.seats) same ∙ here in cc) in
      subst (λ (x : Seat). IsWork after x) (sym is) (record {
        latched = λ n on. let l = own n on in (l.0, classes n ∙ l.1, l.2);
        places = places;
      })
  | inr other ↦
      let was : seat_in before.seats i ≡ Some s =
      sym (seat_in_other before.seats slot i (option_map (λ (x : Seat). record x { hand = hand }) (seat_in before.seats slot)) other)
      ∙ sym (ap (λ (seats : Seats). seat_in seats i) records)
      ∙ there in
      let work = works i s was in
      record {
        latched = λ n on. let l = work.latched n on in (l.0, classes n ∙ l.1, l.2);
        places = work.places;
      }
]

some_class : (o : Option ℕ) (class : ℕ) → o ≡ Some class → IsSome o
some_class o class e = subst (λ (x : Option ℕ). IsSome x) (sym e) refl

-- what a hand works on are cells
pub works_on_cells : (g : Ground) (c : ConnId) (hand : Hand) → AreWorks g → ((n : ℕ) → IsSome (g.class_of n) → IsSome (g.image n)) → IsSomeAnd (seat_of g.seats c) (λ seat. hand ≡ seat.hand) → (n : ℕ) → WorksOn hand n → IsSome (g.image n)
works_on_cells g c hand works cells lent n on =
    let found = some_and_of (λ seat. hand ≡ seat.hand) (seat_of g.seats c) lent in
    let latched = (works c.slot found.0 (in_its_slot g.seats c found.0 found.1.0)).latched n (subst (λ (h : Hand). WorksOn h n) found.1.1 on) in
    cells n (some_class (g.class_of n) latched.0 latched.1)

-- what is so of the record's hand is so of the hand that is lent
pub lent_has : (P : Hand → Type 0) (seats : Seats) (c : ConnId) (hand : Hand) → IsSomeAnd (seat_of seats c) (λ seat. hand ≡ seat.hand) → IsSomeAnd (seat_of seats c) (λ seat. P seat.hand) → P hand
lent_has P seats c hand = go (seat_of seats c)
  where
    go : (o : Option Seat) → IsSomeAnd o (λ seat. hand ≡ seat.hand) → IsSomeAnd o (λ seat. P seat.hand) → P hand
    go None lent has = absurd lent
    go (Some seat) lent has = subst (λ (h : Hand). P h) (sym lent) has
