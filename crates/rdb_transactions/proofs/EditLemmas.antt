-- A record among others, as it changes.
use Rattle.std.proofs.Common.{◌≡◌, ◌≢◌, ℕ, zero, suc, true, [], ◌∷◌, set, Option, Some, None, IsSome, IsSomeAnd, slice_get, get_or, position, is_none, option_map, option_and_then, refl, sym, ap, subst, ◌∙◌}
use Rattle.std.proofs.lemmas.List.Quantifiers.{position-Some}
use Rattle.std.proofs.lemmas.Option.{slice_get-get_or}
use Rattle.rdb_base.specs.declared.identity.ConnId.{ConnId}
use Rattle.rdb_registry.specs.declared.hand.Hand.{Hand}
use Rattle.rdb_registry.specs.declared.seat.Seat.{Seat}
use Rattle.rdb_registry.specs.Registry.{Roll}
use Rattle.rdb_registry.specs.Seats.{Seats, seat_in, seat_of, if_conn, changed, with_hand, IsHeld}
use Rattle.rdb_registry.proofs.SlotLemmas.{some_of, some_and_of, is_some_from, if_conn_is, seat_in_other}
use Rattle.rdb_registry.proofs.RecordLaws.{changed_own}
use Rattle.rdb_transactions.specs.Records.{edited, on_hand}

-- the record of a connection stands in its slot, and names it
pub record Stands (seats : Seats) (c : ConnId) (seat : Seat) : Type 0 where
  pub there : seat_in seats c.slot ≡ Some seat
  pub conn : seat.conn ≡ c

pub stands : (seats : Seats) (c : ConnId) (seat : Seat) → seat_of seats c ≡ Some seat → Stands seats c seat
stands seats c seat e = go (seat_in seats c.slot) refl e
  where
    go : (o : Option Seat) → seat_in seats c.slot ≡ o → option_and_then (if_conn c) o ≡ Some seat → Stands seats c seat
    go None at none = absurd cc
    go (Some other) at one =
        let both = if_conn_is c other seat one in
        record { there = at ∙ ap Some both.1; conn = subst (λ (s : Seat). s.conn ≡ c) both.1 both.0 }

-- two changes one after the other
pub twice : (seats : Seats) (slot : ℕ) (f g : Seat → Seat) → changed (changed seats slot f) slot g ≡ changed seats slot (λ s. g (f s))
twice [] slot f g = refl
twice (None ∷ ss) zero f g = refl
twice (Some s ∷ ss) zero f g = refl
twice (s ∷ ss) (suc slot) f g = ap (λ xs. s ∷ xs) (twice ss slot f g)

-- two changes that are alike at the record in the slot
pub alike : (seats : Seats) (slot : ℕ) (seat : Seat) (f g : Seat → Seat) → seat_in seats slot ≡ Some seat → f seat ≡ g seat → changed seats slot f ≡ changed seats slot g
alike seats slot seat f g there same = ap (set seats slot) (ap (option_map f) there ∙ (ap Some same ∙ sym (ap (option_map g) there)))

-- the hand that was lent, changed, is the change of the record
pub edited_hand :
    (roll : Roll) (c : ConnId) (f : Hand → Hand) (h : Hand) → IsSomeAnd (seat_of roll.seats c) (λ seat. h ≡ seat.hand)
    → record roll { seats = with_hand roll.seats c.slot (f h) } ≡ edited roll c.slot (on_hand f)
edited_hand roll c f h lent = go (seat_of roll.seats c) refl lent
  where
    go : (o : Option Seat) → seat_of roll.seats c ≡ o → IsSomeAnd o (λ seat. h ≡ seat.hand) → record roll { seats = with_hand roll.seats c.slot (f h) } ≡ edited roll c.slot (on_hand f)
    go None at none = absurd none
    go (Some seat) at same =
        ap (λ (s : Seats). record roll { seats = s })
        (alike roll.seats c.slot seat (λ s. record s { hand = f h }) (on_hand f) (stands roll.seats c seat at).there
        (ap (λ (x : Hand). record seat { hand = f x }) same))

-- a connection is held after a change of its record
pub held_after : (seats : Seats) (c : ConnId) (f : Seat → Seat) → ((seat : Seat) → (f seat).conn ≡ seat.conn) → IsHeld seats c → IsHeld (changed seats c.slot f) c
held_after seats c f keeps held =
    let there = some_of (seat_of seats c) held in
    let e : seat_of (changed seats c.slot f) c ≡ Some (f there.0) = changed_own seats c f keeps ∙ ap (option_map f) there.1 in
    subst (λ (o : Option Seat). IsSome o) (sym e) refl

-- its record is the changed one
pub record_after : (seats : Seats) (c : ConnId) (f : Seat → Seat) (seat : Seat) → ((s : Seat) → (f s).conn ≡ s.conn) → seat_of seats c ≡ Some seat → seat_of (changed seats c.slot f) c ≡ Some (f seat)
record_after seats c f seat keeps at = changed_own seats c f keeps ∙ ap (option_map f) at

-- A change after a change.
pub then_edited :
    (r r1 r2 : Roll) (slot : ℕ) (f g : Seat → Seat) → r1 ≡ edited r slot f → r2 ≡ edited r1 slot g → r2 ≡ edited r slot (λ s. g (f s))
then_edited r r1 r2 slot f g e1 e2 =
    e2 ∙ (ap (λ (x : Roll). edited x slot g) e1 ∙ ap (λ (ss : Seats). record r { seats = ss }) (twice r.seats slot f g))

-- no change
pub unedited : (r : Roll) (c : ConnId) (seat : Seat) (f : Seat → Seat) → seat_of r.seats c ≡ Some seat → f seat ≡ seat → r ≡ edited r c.slot f
unedited r c seat f at same =
    ap (λ (ss : Seats). record r { seats = ss }) (sym (go r.seats c.slot (stands r.seats c seat at).there))
  where
    go : (ss : Seats) (slot : ℕ) → seat_in ss slot ≡ Some seat → changed ss slot f ≡ ss
    go [] slot e = refl
    go (s ∷ ss) zero e =
        let is : s ≡ Some seat = e in
        ap (λ (o : Option Seat). o ∷ ss) (ap (option_map f) is ∙ (ap Some same ∙ sym is))
    go (s ∷ ss) (suc slot) e = ap (λ xs. s ∷ xs) (go ss slot e)

-- a connection is held after a change of its record in the registry
pub held_edited : (r r1 : Roll) (c : ConnId) (f : Seat → Seat) → ((s : Seat) → (f s).conn ≡ s.conn) → r1 ≡ edited r c.slot f → IsHeld r.seats c → IsHeld r1.seats c
held_edited r r1 c f keeps e held = subst (λ (x : Roll). IsHeld x.seats c) (sym e) (held_after r.seats c f keeps held)

-- its record then
pub seat_edited : (r r1 : Roll) (c : ConnId) (f : Seat → Seat) (seat : Seat) → ((s : Seat) → (f s).conn ≡ s.conn) → r1 ≡ edited r c.slot f → seat_of r.seats c ≡ Some seat → seat_of r1.seats c ≡ Some (f seat)
seat_edited r r1 c f seat keeps e at = ap (λ (x : Roll). seat_of x.seats c) e ∙ record_after r.seats c f seat keeps at

-- what is so of the record of a connection that is held
pub of_held : (seats : Seats) (c : ConnId) (P : Seat → Type 0) → IsSomeAnd (seat_of seats c) P → (seat : Seat) × ((seat_of seats c ≡ Some seat) × P seat)
of_held seats c P h = some_and_of P (seat_of seats c) h

pub is_held : (seats : Seats) (c : ConnId) (P : Seat → Type 0) → IsSomeAnd (seat_of seats c) P → IsHeld seats c
is_held seats c P h = is_some_from P (seat_of seats c) h

-- what is so of the record in another slot
pub others_edited : (r r1 : Roll) (slot other : ℕ) (f : Seat → Seat) → other ≢ slot → r1 ≡ edited r slot f → seat_in r1.seats other ≡ seat_in r.seats other
others_edited r r1 slot other f ne e = ap (λ (x : Roll). seat_in x.seats other) e ∙ seat_in_other r.seats slot other (option_map f (seat_in r.seats slot)) ne

-- it is so of the record that the clause is about
pub has_from : (seats : Seats) (c : ConnId) (P : Seat → Type 0) (seat : Seat) → seat_of seats c ≡ Some seat → P seat → IsSomeAnd (seat_of seats c) P
has_from seats c P seat at p = subst (λ (o : Option Seat). IsSomeAnd o P) (sym at) p

pub has_after : (r r1 : Roll) (c : ConnId) (f : Seat → Seat) (P Q : Seat → Type 0) → ((s : Seat) → (f s).conn ≡ s.conn) → r1 ≡ edited r c.slot f
    → ((seat : Seat) → P seat → Q (f seat)) → IsSomeAnd (seat_of r.seats c) P → IsSomeAnd (seat_of r1.seats c) Q
has_after r r1 c f P Q keeps e goes h =
    let there = of_held r.seats c P h in
    has_from r1.seats c Q (f there.0) (seat_edited r r1 c f there.0 keeps e there.1.0) (goes there.0 there.1.1)

-- the one record of a connection
pub same_seat : (seats : Seats) (c : ConnId) (a b : Seat) → seat_of seats c ≡ Some a → seat_of seats c ≡ Some b → a ≡ b
same_seat seats c a b ea eb = let two : Some a ≡ Some b = sym ea ∙ eb in cc

-- what is so of a connection's record is so of the record that was found
pub has_seat : (seats : Seats) (c : ConnId) (P : Seat → Type 0) (seat : Seat) → IsSomeAnd (seat_of seats c) P → seat_of seats c ≡ Some seat → P seat
has_seat seats c P seat h at = subst (λ (o : Option Seat). IsSomeAnd o P) at h

-- a hand that was lent and came back as it was leaves the registry
pub hand_same :
    (roll : Roll) (c : ConnId) (h h' : Hand) → IsHeld roll.seats c → IsSomeAnd (seat_of roll.seats c) (λ seat. h ≡ seat.hand) → h' ≡ h
    → record roll { seats = with_hand roll.seats c.slot h' } ≡ roll
hand_same roll c h h' held lent same =
    let there = some_of (seat_of roll.seats c) held in
    let own = has_seat roll.seats c (λ seat. h ≡ seat.hand) there.0 lent there.1 in
    let e : record roll { seats = with_hand roll.seats c.slot h' } ≡ edited roll c.slot (on_hand (λ x. x)) =
    ap (λ (x : Hand). record roll { seats = with_hand roll.seats c.slot x }) same ∙ edited_hand roll c (λ x. x) h lent in
    e ∙ sym (unedited roll c there.0 (on_hand (λ x. x)) there.1 refl)

-- the records of a registry that was edited
pub seats_edited : (r r1 : Roll) (slot : ℕ) (f : Seat → Seat) → r1 ≡ edited r slot f → r1.seats ≡ changed r.seats slot f
seats_edited r r1 slot f e = ap (λ (x : Roll). x.seats) e

-- the lowest free slot is there and free
pub lowest_there : (seats : Seats) (slot : ℕ) → position is_none seats ≡ Some slot → slice_get seats slot ≡ Some None
lowest_there seats slot first =
    let facts = position-Some is_none seats slot None first in
    slice_get-get_or seats slot None facts.0 ∙ ap Some (none (get_or seats slot None) facts.1)
  where
    none : (o : Option Seat) → is_none o ≡ true → o ≡ None
    none None e = refl
    none (Some s) e = absurd cc

-- a slot that is freed after a change of its record
pub freed_changed : (seats : Seats) (slot : ℕ) (f : Seat → Seat) → set (changed seats slot f) slot None ≡ set seats slot None
freed_changed [] slot f = refl
freed_changed (s ∷ ss) zero f = refl
freed_changed (s ∷ ss) (suc slot) f = ap (λ xs. s ∷ xs) (freed_changed ss slot f)

pub freed_edited :
    (r r1 r2 : Roll) (slot : ℕ) (f : Seat → Seat) → r1 ≡ edited r slot f → r2 ≡ record r1 { seats = set r1.seats slot None }
    → r2 ≡ record r { seats = set r.seats slot None }
freed_edited r r1 r2 slot f e1 e2 =
    e2 ∙ (ap (λ (x : Roll). record x { seats = set x.seats slot None }) e1 ∙ ap (λ (ss : Seats). record r { seats = ss }) (freed_changed r.seats slot f))
