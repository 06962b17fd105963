-- Slots and records, as one of them is written.
use Rattle.std.proofs.Common.{◌≡◌, ◌≢◌, ◌<◌, ◌+◌, ℕ, zero, suc, Bool, true, false, cond, not, nat_lt, ◌&&◌, ◌==◌, List, [], ◌∷◌, length, map, get_or, set, position, Option, Some, None, is_none, IsSome, IsSomeAnd, slice_get, refl, sym, ap, subst, ◌∙◌, arith, eqb-true, eq-eqb}
use Rattle.std.specs.List.{count_by, position_or_len}
use Rattle.std.specs.Option.{option_map, option_and_then}
use Rattle.std.proofs.lemmas.List.{length-map}
use Rattle.std.proofs.lemmas.Option.{slice_get_within, slice_get_read, slice_get-map, get_or_from_slice_get}
use Rattle.std.proofs.lemmas.List.Quantifiers.{position-Some}
use Rattle.std.proofs.lemmas.List.Sums.{sum_by-set}
use Rattle.std.proofs.lemmas.Bool.{false≢true}
use Rattle.rdb_base.specs.declared.identity.ConnId.{ConnId}
use Rattle.rdb_registry.specs.declared.seat.Seat.{Seat}
use Rattle.rdb_registry.specs.declared.seat.Slot.{Slot}
use Rattle.rdb_registry.specs.Seats.{Seats, seat_in, seat_of, if_conn, IsHeld, Opening, openings, opening_in}
use Rattle.rdb_registry.specs.Kept.{record_of, seats_of}

-- 1 where a test holds
abbrev pub one_if : Bool → ℕ
one_if b = cond b 1 0

module _ {X : Type 0} where
  pub at_set_same : (xs : List X) (i : ℕ) (x : X) → i < length xs → slice_get (set xs i x) i ≡ Some x
  at_set_same [] i x lt = absurd (omega arith)
  at_set_same (y ∷ xs) zero x lt = refl
  at_set_same (y ∷ xs) (suc i) x lt = at_set_same xs i x (omega arith)

  pub at_set_other : (xs : List X) (i j : ℕ) (x : X) → j ≢ i → slice_get (set xs i x) j ≡ slice_get xs j
  at_set_other [] i j x ne = refl
  at_set_other (y ∷ xs) zero zero x ne = absurd (ne refl)
  at_set_other (y ∷ xs) zero (suc j) x ne = refl
  at_set_other (y ∷ xs) (suc i) zero x ne = refl
  at_set_other (y ∷ xs) (suc i) (suc j) x ne = at_set_other xs i j x (λ e. ne (ap suc e))

  pub set_same : (xs : List X) (i : ℕ) (x : X) → slice_get xs i ≡ Some x → set xs i x ≡ xs
  set_same [] i x at = let no : None ≡ Some x = at in absurd cc
  set_same (y ∷ xs) zero x at = let one : Some y ≡ Some x = at in let e : x ≡ y = cc in ap (λ z. z ∷ xs) e
  set_same (y ∷ xs) (suc i) x at = ap (λ zs. y ∷ zs) (set_same xs i x at)

  pub there : (xs : List X) (i : ℕ) → i < length xs → (x : X) × (slice_get xs i ≡ Some x)
  there [] i h = absurd (omega arith)
  there (x ∷ xs) zero h = (x, refl)
  there (x ∷ xs) (suc i) h = there xs i (omega arith)

  pub count_set : (p : X → Bool) (xs : List X) (i : ℕ) (x y : X) → slice_get xs i ≡ Some x → count_by p (set xs i y) + one_if (p x) ≡ count_by p xs + one_if (p y)
  count_set p xs i x y at =
      let within = slice_get_within xs i x at in
      let sums : count_by p (set xs i y) + one_if (p (get_or xs i x)) ≡ count_by p xs + one_if (p y) = sum_by-set (λ z. one_if (p z)) xs i y x within in
      subst (λ (z : X). count_by p (set xs i y) + one_if (p z) ≡ count_by p xs + one_if (p y)) (get_or_from_slice_get xs i x x at) sums

-- a slot that a connection holds, and its record
pub record HeldAt (all : List Slot) (c : ConnId) (seat : Seat) : Type 0 where
  pub slot : Slot
  pub at : slice_get all c.slot ≡ Some slot
  pub is_held : slot.is_held ≡ true
  pub seat_is : slot.seat ≡ seat
  pub conn : seat.conn ≡ c
  pub own : seat_of (seats_of all) c ≡ Some seat

-- what is in a slot
pub record_at : (all : List Slot) (i : ℕ) (slot : Slot) → slice_get all i ≡ Some slot → seat_in (seats_of all) i ≡ record_of slot
record_at all i slot at = ap (λ o. option_and_then (λ seat. seat) o) (slice_get-map record_of all i ∙ ap (λ o. option_map record_of o) at)

-- what is in a slot after a write of it, and in the others
pub seat_in_same : (seats : Seats) (i : ℕ) (seat : Option Seat) → i < length seats → seat_in (set seats i seat) i ≡ seat
seat_in_same seats i seat lt = ap (λ o. option_and_then (λ s. s) o) (at_set_same seats i seat lt)

pub seat_in_other : (seats : Seats) (i j : ℕ) (seat : Option Seat) → j ≢ i → seat_in (set seats i seat) j ≡ seat_in seats j
seat_in_other seats i j seat ne = ap (λ o. option_and_then (λ s. s) o) (at_set_other seats i j seat ne)

-- the value of an option that has one
pub some_of : {X : Type 0} (o : Option X) → IsSome o → (x : X) × (o ≡ Some x)
some_of None h = absurd (false≢true h)
some_of (Some x) h = (x, refl)

pub some_and_of : {X : Type 0} (P : X → Type 0) (o : Option X) → IsSomeAnd o P → (x : X) × ((o ≡ Some x) × P x)
some_and_of P None h = absurd h
some_and_of P (Some x) h = (x, (refl, h))

pub is_some_from : {X : Type 0} (P : X → Type 0) (o : Option X) → IsSomeAnd o P → IsSome o
is_some_from P None h = absurd h
is_some_from P (Some x) h = refl

cond_some : {X : Type 0} (b : Bool) (x y : X) → cond b (Some x) None ≡ Some y → (b ≡ true) × (x ≡ y)
cond_some true x y e = (refl, cc)
cond_some false x y e = absurd cc

and_true : (a b : Bool) → (a && b) ≡ true → (a ≡ true) × (b ≡ true)
and_true true b e = (refl, e)
and_true false b e = absurd cc

conn_is : (a b : ConnId) → a.slot ≡ b.slot → a.serial ≡ b.serial → a ≡ b
conn_is a b slots serials = λ i. record { slot = slots i; serial = serials i }

pub if_conn_is : (c : ConnId) (seat other : Seat) → if_conn c seat ≡ Some other → (seat.conn ≡ c) × (seat ≡ other)
if_conn_is c seat other e =
    let both = cond_some _ seat other e in
    let tests = and_true (seat.conn.slot == c.slot) (seat.conn.serial == c.serial) both.0 in
    (conn_is seat.conn c (eqb-true _ _ tests.0) (eqb-true _ _ tests.1), both.1)

pub seat_in_of : (all : List Slot) (i : ℕ) → seat_in (seats_of all) i ≡ option_and_then record_of (slice_get all i)
seat_in_of [] i = refl
seat_in_of (s ∷ ss) zero = refl
seat_in_of (s ∷ ss) (suc i) = seat_in_of ss i

-- the slot of a record
pub slot_of : (all : List Slot) (i : ℕ) (seat : Seat) → seat_in (seats_of all) i ≡ Some seat → (slot : Slot) × ((slice_get all i ≡ Some slot) × (slot.is_held ≡ true) × (slot.seat ≡ seat))
slot_of [] i seat e = absurd cc
slot_of (s ∷ ss) zero seat e = let both = cond_some s.is_held s.seat seat e in (s, (refl, both.0, both.1))
slot_of (s ∷ ss) (suc i) seat e = slot_of ss i seat e

and_then_some : {X Y : Type 0} (f : X → Option Y) (o : Option X) (y : Y) → option_and_then f o ≡ Some y → (x : X) × ((o ≡ Some x) × (f x ≡ Some y))
and_then_some f None y e = absurd cc
and_then_some f (Some x) y e = (x, (refl, e))

-- the slot that a connection holds
pub held_by : (all : List Slot) (c : ConnId) (seat : Seat) → seat_of (seats_of all) c ≡ Some seat → HeldAt all c seat
held_by all c seat e =
    let there = and_then_some (if_conn c) (seat_in (seats_of all) c.slot) seat e in
    let own = if_conn_is c there.0 seat there.1.1 in
    let s = slot_of all c.slot there.0 there.1.0 in
    record { slot = s.0; at = s.1.0; is_held = s.1.1; seat_is = s.1.2 ∙ own.1; conn = ap (λ (x : Seat). x.conn) (sym own.1) ∙ own.0; own = e }

pub held : (all : List Slot) (c : ConnId) → IsHeld (seats_of all) c → (seat : Seat) × HeldAt all c seat
held all c h = let there = some_of (seat_of (seats_of all) c) h in (there.0, held_by all c there.0 there.1)

-- the slot that was found at a connection's place, by the record that the connection has
pub record FoundAt (all : List Slot) (c : ConnId) (slot : Slot) : Type 0 where
  pub at : slice_get all c.slot ≡ Some slot
  pub is_held : slot.is_held ≡ true
  pub conn : slot.seat.conn ≡ c
  pub own : seat_of (seats_of all) c ≡ Some slot.seat

pub found_at : {all : List Slot} {c : ConnId} {seat : Seat} → HeldAt all c seat → (slot : Slot) → slot ≡ get_or all c.slot slot → FoundAt all c slot × (slot.seat ≡ seat)
found_at {all} {c} {seat} h slot e =
    let same : slot ≡ h.slot = e ∙ get_or_from_slice_get all c.slot h.slot slot h.at in (
      record {
        at = h.at ∙ ap (λ (s : Slot). Some s) (sym same);
        is_held = ap (λ (s : Slot). s.is_held) same ∙ h.is_held;
        conn = ap (λ (s : Slot). s.seat.conn) same ∙ (ap (λ (s : Seat). s.conn) h.seat_is ∙ h.conn);
        own = h.own ∙ ap (λ (s : Seat). Some s) (sym (ap (λ (s : Slot). s.seat) same ∙ h.seat_is));
      },
      ap (λ (s : Slot). s.seat) same ∙ h.seat_is,
    )

-- where a connection is held, its slot is one of those that there are
pub held_within : (all : List Slot) (c : ConnId) → IsHeld (seats_of all) c → c.slot < length all
held_within all c h = let there = held all c h in slice_get_within all c.slot there.1.slot there.1.at

pub found : (all : List Slot) (c : ConnId) (slot : Slot) → IsHeld (seats_of all) c → slot ≡ get_or all c.slot slot → FoundAt all c slot
found all c slot h e = let there = held all c h in (found_at there.1 slot e).0

-- the first place at which a test of what f gives holds
prefix_by : {X Y : Type 0} (p : Y → Bool) (f : X → Y) (q : X → Bool) → ((x : X) → q x ≡ p (f x)) → (xs : List X) → position_or_len q xs ≡ position_or_len p (map f xs)
prefix_by p f q same [] = refl
prefix_by p f q same (x ∷ xs) = let rest = prefix_by p f q same xs in λ i. cond (not (same x i)) (1 + rest i) 0

pub position_by : {X Y : Type 0} (p : Y → Bool) (f : X → Y) (q : X → Bool) → ((x : X) → q x ≡ p (f x)) → (xs : List X) → position q xs ≡ position p (map f xs)
position_by p f q same xs =
    let places = prefix_by p f q same xs in
    let lengths = sym (length-map xs f) in
    λ i. cond (nat_lt (places i) (lengths i)) (Some (places i)) None

-- the first slot at which a test of its opening holds
pub position_of_openings :
    (p : Option Opening → Bool) (q : Slot → Bool) → ((slot : Slot) → q slot ≡ p (opening_in (record_of slot))) → (all : List Slot)
    → position q all ≡ position p (openings (seats_of all))
position_of_openings p q same all =
    position_by (λ seat. p (opening_in seat)) record_of q same all ∙ position_by p opening_in (λ seat. p (opening_in seat)) (λ seat. refl) (seats_of all)

-- whether a slot is free
pub free_is : (slot : Slot) → not slot.is_held ≡ is_none (record_of slot)
free_is slot = go slot.is_held
  where
    go : (b : Bool) → not b ≡ is_none (cond b (Some slot.seat) None)
    go true = refl
    go false = refl

-- a record is that of the connection that it names
pub own_seat : (seats : Seats) (slot : ℕ) (seat : Seat) → seat_in seats slot ≡ Some seat → seat.conn.slot ≡ slot → seat_of seats seat.conn ≡ Some seat
own_seat seats slot seat there place =
    let at : seat_in seats seat.conn.slot ≡ Some seat = ap (seat_in seats) place ∙ there in
    ap (option_and_then (if_conn seat.conn)) at ∙ itself
  where
    itself : if_conn seat.conn seat ≡ Some seat
    itself =
        let first : (seat.conn.slot == seat.conn.slot) ≡ true = eq-eqb _ _ refl in
        let second : (seat.conn.serial == seat.conn.serial) ≡ true = eq-eqb _ _ refl in
        λ i. cond (first i && second i) (Some seat) None

-- the lowest slot without a record is free
pub lowest_is_free : (all : List Slot) (i : ℕ) (slot : Slot) → position is_none (seats_of all) ≡ Some i → slot ≡ get_or all i slot → slice_get all i ≡ Some slot × (slot.is_held ≡ false)
lowest_is_free all i slot first e =
    let facts = position-Some is_none (seats_of all) i None first in
    let lengths = length-map all record_of in
    let at : slice_get all i ≡ Some slot = slice_get_read all _ i slot refl (omega (arith, facts.0, lengths)) e in
    let there : slice_get (seats_of all) i ≡ Some (record_of slot) = slice_get-map record_of all i ∙ ap (option_map record_of) at in
    let none : is_none (record_of slot) ≡ true = ap is_none (sym (get_or_from_slice_get (seats_of all) i (record_of slot) None there)) ∙ facts.1 in
    (at, not_held slot.is_held (free_is slot ∙ none))
  where
    not_held : (b : Bool) → not b ≡ true → b ≡ false
    not_held true e = absurd cc
    not_held false e = refl
