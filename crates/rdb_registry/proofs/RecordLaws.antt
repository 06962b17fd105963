-- Records by slot, as one of them changes.
use Rattle.std.proofs.Common.{◌≡◌, ◌≢◌, ◌&&◌, ◌==◌, ℕ, zero, suc, Bool, true, false, cond, List, [], ◌∷◌, set, Option, Some, None, slice_get, option_map, option_and_then, refl, sym, ap, ◌∙◌}
use Rattle.rdb_base.specs.declared.identity.ConnId.{ConnId}
use Rattle.rdb_registry.specs.declared.seat.Seat.{Seat}
use Rattle.rdb_registry.specs.Seats.{Seats, seat_in, seat_of, if_conn, changed, opening_in, openings}
use Rattle.rdb_registry.proofs.SlotLemmas.{seat_in_other}

-- in its slot
pub changed_here : (seats : Seats) (slot : ℕ) (change : Seat → Seat) → seat_in (changed seats slot change) slot ≡ option_map change (seat_in seats slot)
changed_here [] slot change = refl
changed_here (s ∷ ss) zero change = refl
changed_here (s ∷ ss) (suc slot) change = changed_here ss slot change

-- of its connection
pub changed_own : (seats : Seats) (c : ConnId) (change : Seat → Seat) → ((seat : Seat) → (change seat).conn ≡ seat.conn) → seat_of (changed seats c.slot change) c ≡ option_map change (seat_of seats c)
changed_own seats c change keeps = ap (option_and_then (if_conn c)) (changed_here seats c.slot change) ∙ go (seat_in seats c.slot)
  where
    pick : (b : Bool) (seat : Seat) → cond b (Some (change seat)) None ≡ option_map change (cond b (Some seat) None)
    pick true seat = refl
    pick false seat = refl

    go : (o : Option Seat) → option_and_then (if_conn c) (option_map change o) ≡ option_map change (option_and_then (if_conn c) o)
    go None = refl
    go (Some seat) =
        ap (λ (n : ConnId). cond ((n.slot == c.slot) && (n.serial == c.serial)) (Some (change seat)) None) (keeps seat)
        ∙ pick ((seat.conn.slot == c.slot) && (seat.conn.serial == c.serial)) seat

pub changed_others : (seats : Seats) (slot : ℕ) (c : ConnId) (change : Seat → Seat) → c.slot ≢ slot → seat_of (changed seats slot change) c ≡ seat_of seats c
changed_others seats slot c change ne = ap (option_and_then (if_conn c)) (seat_in_other seats slot c.slot (option_map change (seat_in seats slot)) ne)

-- the openings, where the change leaves its own
pub changed_openings : (seats : Seats) (slot : ℕ) (change : Seat → Seat) → ((seat : Seat) → opening_in (Some (change seat)) ≡ opening_in (Some seat)) → openings (changed seats slot change) ≡ openings seats
changed_openings [] slot change keeps = refl
changed_openings (None ∷ ss) zero change keeps = refl
changed_openings (Some seat ∷ ss) zero change keeps = ap (λ o. o ∷ openings ss) (keeps seat)
changed_openings (s ∷ ss) (suc slot) change keeps = ap (λ os. opening_in s ∷ os) (changed_openings ss slot change keeps)
