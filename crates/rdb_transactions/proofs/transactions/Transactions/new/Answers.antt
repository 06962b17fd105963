-- Nothing is claimed, since no slot is held.
use Rattle.std.proofs.Common.{◌≡◌, ◌+◌, ℕ, zero, suc, [], replicate, Some, None, sym, ap, subst, arith, length}
use Rattle.std.proofs.lemmas.List.Folds.{sum_by-replicate}
use Rattle.rdb_history.specs.Kept.{Kept}
use Rattle.rdb_registry.specs.declared.seat.Seat.{Seat}
use Rattle.rdb_registry.specs.Seats.{Seats, slot_count, seat_in, EachSeat}
use Rattle.rdb_transactions.specs.Claims.{places_in, writes_of_slot, AreClaimed}
use Rattle.rdb_transactions.specs.Sound.{IsOrderly}
use Rattle.rdb_transactions.specs.declared.claims.Claims.{Claims}
use Rattle.rdb_transactions.proofs.transactions.Transactions.new.Goals as goal

none_there : (P : ℕ → Seat → Type 0) (n slot : ℕ) (seat : Seat) → seat_in (replicate n None) slot ≡ Some seat → P slot seat
none_there P zero slot seat e = let no : None ≡ Some seat = e in absurd cc
none_there P (suc n) zero seat e = let no : None ≡ Some seat = e in absurd cc
none_there P (suc n) (suc slot) seat e = none_there (λ k. P (suc k)) n slot seat e

none_claimed : (seats : Seats) (claims : Claims) (journal : Kept) → seats ≡ replicate slot_count None → claims ≡ record { entries = 0; writes = 0 } → journal ≡ record { entries = []; room = 0; write_room = 0 } → AreClaimed [] seats claims journal
none_claimed seats claims journal s c j =
    rw (s, c, j)
    (record {
      entries = sym (sum_by-replicate places_in slot_count None);
      writes = sym (ap (λ n. n + 0) (sum_by-replicate writes_of_slot slot_count None));
      room = record { entries = omega arith; writes = omega arith; limit = omega arith };
    })

pub returns-clause-sound : goal.returns-clause-sound
returns-clause-sound c =
    let seats = ap (λ r. r.seats) c.in_ok-new.ensures in
    record {
      records = subst (λ (s : Seats). EachSeat (λ slot. IsOrderly (length c.new-2.result.entries)) s) (sym seats) (none_there (λ slot. IsOrderly (length c.new-2.result.entries)) slot_count);
      claims = none_claimed _ _ _ seats c.none.ensures c.new-2.ensures;
      spare = c.requires.spare;
    }
