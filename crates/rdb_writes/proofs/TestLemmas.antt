-- What is so of each record, slot by slot.
use Rattle.std.proofs.Common.{◌≡◌, ◌<◌, ◌≤◌, ◌+◌, ℕ, zero, suc, [], ◌∷◌, length, Some, None, sym, ap, ◌∙◌, arith, inl, inr}
use Rattle.std.proofs.Permutation.{which}
use Rattle.rdb_registry.specs.declared.seat.Seat.{Seat}
use Rattle.rdb_registry.specs.Seats.{Seats, seat_in}

-- it is so of the records in so many slots
abbrev pub EachBelow : Seats → (Seat → Type 0) → ℕ → Type 0
EachBelow seats P count = (i : ℕ) (s : Seat) → i < count → seat_in seats i ≡ Some s → P s

pub below_more : (seats : Seats) (P : Seat → Type 0) (count : ℕ) → EachBelow seats P count → ((s : Seat) → seat_in seats count ≡ Some s → P s) → EachBelow seats P (count + 1)
below_more seats P count so_far here i s within there = elim (which i count) [
  | inl same ↦ here s (ap (seat_in seats) (sym same) ∙ there)
  | inr other ↦ so_far i s (omega (arith, within, other)) there
]

in_slots : (seats : Seats) (i : ℕ) (s : Seat) → seat_in seats i ≡ Some s → i < length seats
in_slots [] i s e = absurd (let none : None ≡ Some s = e in cc)
in_slots (o ∷ os) zero s e = omega arith
in_slots (o ∷ os) (suc i) s e = let within = in_slots os i s e in omega (arith, within)

pub all_below : (seats : Seats) (P : Seat → Type 0) (count : ℕ) → length seats ≤ count → EachBelow seats P count → (i : ℕ) (s : Seat) → seat_in seats i ≡ Some s → P s
all_below seats P count few each i s there = let within = in_slots seats i s there in each i s (omega (arith, few, within)) there
