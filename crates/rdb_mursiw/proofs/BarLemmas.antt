-- Which connections are in the way, by the openings of the slots.
use Rattle.std.proofs.Common.{◌≡◌, ◌<◌, ◌≤◌, ◌&&◌, ◌||◌, ◌==◌, ◌+◌, nat_lt, ltb-false, ℕ, zero, suc, Bool, true, false, cond, not, List, [], ◌∷◌, length, map, get_or, position, Option, Some, None, is_some, IfSome, IfNone, refl, sym, ap, subst, ◌∙◌, arith}
use Rattle.std.proofs.lemmas.Bool.{and_right}
use Rattle.std.specs.List.{position_or_len}
use Rattle.std.specs.Option.{option_map, option_map_or}
use Rattle.std.proofs.lemmas.List.Quantifiers.{position-Some}
use Rattle.rdb_base.specs.declared.identity.ConnId.{ConnId}
use Rattle.rdb_base.specs.declared.identity.Kind.{Kind}
use Rattle.rdb_base.specs.declared.identity.Kind.TheVariants as kind
use Rattle.rdb_registry.specs.declared.seat.Seat.{Seat}
use Rattle.rdb_registry.specs.declared.seat.Transaction.{Transaction}
use Rattle.rdb_registry.specs.Seats.{Seats, Opening, openings, opening_in, opening_of, is_writer, may_write, seat_in}
use Rattle.rdb_mursiw.specs.Admission.{bars, bars_in, is_same, keeps_out, NoneBarsBelow}

-- an opening is in the way of one of the kind
abbrev pub in_way : Kind → Option Opening → Bool
in_way kind.ReadWrite opening = is_some opening
in_way kind.ReadOnly opening = is_writer opening

-- a record whose opening isn't in the way doesn't bar
free_record : (k : Kind) (c : ConnId) (seat : Seat) → in_way k (opening_in (Some seat)) ≡ false → bars c k seat ≡ false
free_record k c seat e = and_right (not (is_same seat.conn c)) _ (go k seat.transaction e)
  where
    go : (k : Kind) (t : Option Transaction) → in_way k (option_map opening_of t) ≡ false → option_map_or (λ x. keeps_out k x.kind) t false ≡ false
    go k None e = refl
    go kind.ReadWrite (Some t) e = e
    go kind.ReadOnly (Some t) e = e

-- nor does a slot
free_slot : (k : Kind) (c : ConnId) (seats : Seats) (slot : ℕ) → in_way k (get_or (openings seats) slot None) ≡ false → bars_in seats c k slot ≡ false
free_slot k c [] slot e = refl
free_slot k c (None ∷ seats) zero e = refl
free_slot k c (Some seat ∷ seats) zero e = free_record k c seat e
free_slot k c (seat ∷ seats) (suc slot) e = free_slot k c seats slot e

-- no record stands past the end
pub past_end : (k : Kind) (c : ConnId) (seats : Seats) (slot : ℕ) → length seats ≤ slot → bars_in seats c k slot ≡ false
past_end k c [] slot le = refl
past_end k c (seat ∷ seats) zero le = absurd (omega arith)
past_end k c (seat ∷ seats) (suc slot) le = past_end k c seats slot (omega arith)

-- where a test holds of no element, it holds at no place
none_passes : (p : Option Opening → Bool) (xs : List (Option Opening)) → position p xs ≡ None → length xs ≤ position_or_len p xs
none_passes p xs none = go (nat_lt (position_or_len p xs) (length xs)) refl none
  where
    go : (b : Bool) → nat_lt (position_or_len p xs) (length xs) ≡ b → cond b (Some (position_or_len p xs)) None ≡ None → length xs ≤ position_or_len p xs
    go true is e = let no : Some (position_or_len p xs) ≡ None = e in absurd cc
    go false is e = ltb-false _ _ is

fails_at : (p : Option Opening → Bool) (xs : List (Option Opening)) → p None ≡ false → length xs ≤ position_or_len p xs → (k : ℕ) → p (get_or xs k None) ≡ false
fails_at p [] empty le k = empty
fails_at p (x ∷ xs) empty le k = go (p x) refl le k (λ le'. fails_at p xs empty le')
  where
    go : (b : Bool) → p x ≡ b → suc (length xs) ≤ cond (not b) (1 + position_or_len p xs) 0 → (k : ℕ)
        → (length xs ≤ position_or_len p xs → (j : ℕ) → p (get_or xs j None) ≡ false) → p (get_or (x ∷ xs) k None) ≡ false
    go true is le k later = absurd (omega arith)
    go false is le zero later = is
    go false is le (suc k) later = later (omega arith) k

-- no slot below the first that is in the way bars, and none at all where there is no first
pub below_found : (k : Kind) (seats : Seats) (first : Option ℕ) → first ≡ position (in_way k) (openings seats) → IfSome first (λ slot. (c : ConnId) → NoneBarsBelow seats c k slot)
below_found k seats None e = tt
below_found k seats (Some slot) e = λ c lower lt. free_slot k c seats lower ((position-Some (in_way k) (openings seats) slot None (sym e)).2 lower lt)

pub none_found : (k : Kind) (seats : Seats) (first : Option ℕ) → first ≡ position (in_way k) (openings seats) → IfNone first ((c : ConnId) (slot : ℕ) → bars_in seats c k slot ≡ false)
none_found k seats None e = λ c slot. free_slot k c seats slot (fails_at (in_way k) (openings seats) (empty k) (none_passes (in_way k) (openings seats) (sym e)) slot)
  where
    empty : (k : Kind) → in_way k None ≡ false
    empty kind.ReadWrite = refl
    empty kind.ReadOnly = refl
none_found k seats (Some slot) e = tt
