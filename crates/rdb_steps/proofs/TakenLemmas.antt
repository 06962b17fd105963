-- Lists of versions that are taken over class by class.
use Rattle.std.proofs.Common.{◌≡◌, ◌⊎◌, ◌≤◌, ◌+◌, ◌==◌, ◌∷◌, ℕ, zero, suc, List, [], length, cond, false, Contains, AllPairs, refl, sym, ap, subst, ◌∙◌, arith, inl, inr}
use Rattle.std.proofs.lemmas.Bool.{cases_lt}
use Rattle.std.proofs.lemmas.List.{ext_get_or}
use Rattle.std.proofs.lemmas.Nat.Bits.{bit_at-zero, bit_at_ones}
use Rattle.std.specs.Int.{bit_at}
use Rattle.rdb_registry.specs.declared.seat.Seat.{Seat}
use Rattle.rdb_registry.specs.Seats.{Seats, HoldsLatch, all_latches}
use Rattle.rdb_sight.specs.Versions.{Object, Versions, objects_in, chain_of}
use Rattle.rdb_store.specs.Stored.{HasVersion}
use Rattle.rdb_steps.specs.Kept.{AreDrawn}
use Rattle.rdb_steps.specs.Lists.{taken_over, taken_over_from}
use Rattle.rdb_steps.specs.Stamped.{AreStamped, AreOfTwo}
use Rattle.rdb_steps.proofs.ListLemmas.{length_taken, taken_held, taken_free, held_or_not}

-- there is nothing in a class that isn't there
pub beyond : (versions : Versions) (class : ℕ) → length versions ≤ class → objects_in versions class ≡ []
beyond [] class past = refl
beyond (o ∷ os) zero past = absurd (omega (arith, past))
beyond (o ∷ os) (suc class) past = beyond os class (omega (arith, past))

-- whose latch is held, there all is of the other list
pub all_taken : (seat : Seat) (versions others : Versions) (class : ℕ) → length others ≡ length versions → HoldsLatch seat class →
    objects_in (taken_over seat versions others) class ≡ objects_in others class
all_taken seat versions others class count held = elim (cases_lt class (length versions)) [
  | inl within ↦ taken_held seat versions others class within held
  | inr past ↦
      let longer = length_taken seat.latches 0 versions others in
      beyond (taken_over seat versions others) class (omega (arith, past, longer))
      ∙ sym (beyond others class (omega (arith, past, count)))
]

-- each class's objects are of one list or of the other
pub either : (seat : Seat) (versions others : Versions) (class : ℕ) → length others ≡ length versions →
    (objects_in (taken_over seat versions others) class ≡ objects_in versions class) ⊎ (objects_in (taken_over seat versions others) class ≡ objects_in others class)
either seat versions others class count = elim (held_or_not seat class) [
  | inl held ↦ inr (all_taken seat versions others class count held)
  | inr free ↦ inl (taken_free seat versions others class free)
]

pub taken_drawn : (serials : ℕ) (ids : List ℕ) (seat : Seat) (versions others : Versions) → length others ≡ length versions →
    AreDrawn serials ids versions → AreDrawn serials ids others → AreDrawn serials ids (taken_over seat versions others)
taken_drawn serials ids seat versions others count a b = record {
  each_serial = λ class v has. elim (either seat versions others class count) [
    | inl same ↦ a.each_serial class v (subst (λ (objects : List Object). HasVersion objects v) same has)
    | inr same ↦ b.each_serial class v (subst (λ (objects : List Object). HasVersion objects v) same has)
  ];
  each_id = λ class id some. elim (either seat versions others class count) [
    | inl same ↦ a.each_id class id (λ none. some (ap (λ (objects : List Object). chain_of objects id) same ∙ none))
    | inr same ↦ b.each_id class id (λ none. some (ap (λ (objects : List Object). chain_of objects id) same ∙ none))
  ];
}

pub taken_stamped : (seats : Seats) (seat : Seat) (versions others : Versions) → length others ≡ length versions →
    AreStamped seats versions → AreStamped seats others → AreStamped seats (taken_over seat versions others)
taken_stamped seats seat versions others count a b = record {
  once = λ class id. elim (either seat versions others class count) [
    | inl same ↦ subst (λ (objects : List Object). AllPairs AreOfTwo (chain_of objects id)) (sym same) (a.once class id)
    | inr same ↦ subst (λ (objects : List Object). AllPairs AreOfTwo (chain_of objects id)) (sym same) (b.once class id)
  ];
  open_ones = λ class id v tx has is. elim (either seat versions others class count) [
    | inl same ↦ a.open_ones class id v tx (subst (λ (objects : List Object). Contains (chain_of objects id) v) same has) is
    | inr same ↦ b.open_ones class id v tx (subst (λ (objects : List Object). Contains (chain_of objects id) v) same has) is
  ];
}

-- without a latch nothing is taken over
none_from : (first : ℕ) (versions others : Versions) → taken_over_from 0 first versions others ≡ versions
none_from first [] others = refl
none_from first (o ∷ os) others =
    let bit : (bit_at 0 first == 1) ≡ false = ap (λ (b : ℕ). b == 1) (bit_at-zero first) in
    let rest = none_from (first + 1) os others in
    λ i. cond (bit i) (objects_in others first) o ∷ rest i

pub taken_none : (seat : Seat) (versions others : Versions) → seat.latches ≡ 0 → taken_over seat versions others ≡ versions
taken_none seat versions others none = ap (λ (latches : ℕ). taken_over_from latches 0 versions others) none ∙ none_from 0 versions others

-- with all latches everything is
pub taken_all : (seat : Seat) (versions others : Versions) → seat.latches ≡ all_latches (length versions) → length others ≡ length versions → taken_over seat versions others ≡ others
taken_all seat versions others all count =
    let longer = length_taken seat.latches 0 versions others in
    ext_get_or [] (taken_over seat versions others) others (longer ∙ sym count)
    (λ class within.
    taken_held seat versions others class (omega (arith, within, longer))
    (ap (λ (latches : ℕ). bit_at latches class) all ∙ bit_at_ones (length versions) class (omega (arith, within, longer))))
