-- What a registry keeps, as one slot is written.
use Rattle.std.proofs.Common.{◌≡◌, ◌≢◌, ◌<◌, ◌≤◌, ◌+◌, ◌^◌, max, ℕ, zero, suc, Bool, true, false, cond, List, [], ◌∷◌, ◌++◌, length, set, replicate, Result, Ok, Err, OnErr, Option, Some, None, is_none, slice_get, option_map, count_by, find, ◌&&◌, ◌==◌, ne_eqb, eq-eqb, ◌-◌, refl, sym, ap, subst, inl, inr, ◌∙◌, arith}
use Rattle.std.proofs.lemmas.List.{map-set, length-set, length-map, length-replicate}
use Rattle.std.proofs.lemmas.Option.{slice_get_within, slice_get-map}
use Rattle.std.proofs.lemmas.Bool.{cases_eq, cases_lt}
use Rattle.std.proofs.lemmas.Bool.{and_left, and_right}
use Rattle.std.proofs.lemmas.List.Sums.{count_by-le-length}
use Rattle.std.proofs.lemmas.Nat.Bits.{bit_at-zero, bit_at-lt, bit_at_or, bit_at-pow_other, bit_at_ones_above}
use Rattle.std.specs.Int.{bit_at}
use Rattle.rdb_base.specs.Room.{Reserved}
use Rattle.rdb_base.specs.declared.identity.ConnId.{ConnId}
use Rattle.rdb_registry.specs.declared.seat.Seat.{Seat}
use Rattle.rdb_registry.specs.declared.seat.Slot.{Slot}
use Rattle.rdb_registry.specs.declared.seat.Condemnation.{Condemnation}
use Rattle.rdb_registry.specs.declared.transactions.Openings.{Openings}
use Rattle.rdb_registry.specs.Seats.{Seats, slot_count, seat_in, seat_of, changed, Opening, openings, opening_in, opening_of, HoldsLatch, condemned_in, with_condemned, is_of, IsNew, NoneHolds, NoOtherHolds, with_latch, all_latches}
use Rattle.rdb_registry.specs.Registry.{Roll, IsRoll, Connects, max_classes}
use Rattle.rdb_registry.specs.Kept.{record_of, seats_of, AreOpenings, is_live, IsSlot, IsKept}
use Rattle.rdb_registry.proofs.SlotLemmas.{at_set_same, at_set_other, set_same, one_if, count_set, held_by, seat_in_same, seat_in_other, record_at}

-- the slot with another record
abbrev pub with_seat : Slot → Seat → Slot
with_seat slot seat = record slot { seat = seat }

-- the records after a write of a slot
pub seats_of_set : (all : List Slot) (i : ℕ) (slot : Slot) → seats_of (set all i slot) ≡ set (seats_of all) i (record_of slot)
seats_of_set all i slot = map-set record_of all i slot

-- the record of a slot that is held
pub record_held : (slot : Slot) → slot.is_held ≡ true → record_of slot ≡ Some slot.seat
record_held slot held = ap (λ b. cond b (Some slot.seat) None) held

-- a change of the record of a slot that is held
pub changed_is :
    (all : List Slot) (i : ℕ) (slot : Slot) (change : Seat → Seat) → slice_get all i ≡ Some slot → slot.is_held ≡ true
    → seats_of (set all i (with_seat slot (change slot.seat))) ≡ changed (seats_of all) i change
changed_is all i slot change at held =
    let was : seat_in (seats_of all) i ≡ Some slot.seat = record_at all i slot at ∙ record_held slot held in
    seats_of_set all i (with_seat slot (change slot.seat)) ∙ ap (set (seats_of all) i) (record_held (with_seat slot (change slot.seat)) held ∙ sym (ap (option_map change) was))

-- What is kept after a write of a slot, where what stands beside the slots may have changed too.
pub kept_set :
    {all : List Slot} {takers takers' : List ℕ} {kept kept' : Openings} {condemned condemned' : Reserved Condemnation} {table : List (List ℕ)} {serials serials' : ℕ}
    → IsKept all takers kept condemned table serials → (i : ℕ) (slot : Slot) → i < length all
    → length takers' ≡ length takers
    → ((j : ℕ) (seat : Seat) → j ≢ i → seat_in (seats_of all) j ≡ Some seat → IsSlot takers' condemned'.items serials' j seat)
    → ((seat : Seat) → record_of slot ≡ Some seat → IsSlot takers' condemned'.items serials' i seat)
    → AreOpenings (openings (seats_of (set all i slot))) kept'
    → count_by is_live (seats_of (set all i slot)) ≤ condemned'.room
    → ((place : ℕ) (entry : Condemnation) → slice_get condemned'.items place ≡ Some entry → entry.conn.serial ≤ serials')
    → IsKept (set all i slot) takers' kept' condemned' table serials'
kept_set {all} {takers} {takers'} {kept} {kept'} {condemned} {condemned'} {table} {serials} {serials'} k i slot lt same others here opened room drawn =
    let within : i < length (seats_of all) = subst (λ (n : ℕ). i < n) (sym (length-map all record_of)) lt in
    record {
      count = length-set all i slot ∙ k.count;
      classes = rw same k.classes;
      seated = λ j seat there. at j seat (sym (ap (λ s. seat_in s j) (seats_of_set all i slot)) ∙ there);
      openings = opened;
      room = room;
      drawn = drawn;
      spent = k.spent;
      rows = λ j row there. k.rows j row there ∙ sym same;
    }
  where
    at : (j : ℕ) (seat : Seat) → seat_in (set (seats_of all) i (record_of slot)) j ≡ Some seat → IsSlot takers' condemned'.items serials' j seat
    at j seat there = elim (cases_eq j i) [
      | inl e ↦
          let here' : record_of slot ≡ Some seat = sym (seat_in_same (seats_of all) i (record_of slot) (subst (λ (n : ℕ). i < n) (sym (length-map all record_of)) lt)) ∙ (ap (seat_in (set (seats_of all) i (record_of slot))) (sym e) ∙ there) in
          subst (λ (n : ℕ). IsSlot takers' condemned'.items serials' n seat) (sym e) (here seat here')
      | inr ne ↦ others j seat ne (sym (seat_in_other (seats_of all) i j (record_of slot) ne) ∙ there)
    ]

-- the openings after a write of a slot
pub openings_set : (all : List Slot) (i : ℕ) (slot : Slot) → openings (seats_of (set all i slot)) ≡ set (openings (seats_of all)) i (opening_in (record_of slot))
openings_set all i slot = ap openings (seats_of_set all i slot) ∙ map-set opening_in (seats_of all) i (record_of slot)

pub openings_same :
    (all : List Slot) (i : ℕ) (slot slot' : Slot) → slice_get all i ≡ Some slot → opening_in (record_of slot') ≡ opening_in (record_of slot)
    → openings (seats_of (set all i slot')) ≡ openings (seats_of all)
openings_same all i slot slot' at same =
    let there : slice_get (openings (seats_of all)) i ≡ Some (opening_in (record_of slot)) =
    slice_get-map opening_in (seats_of all) i ∙ ap (option_map opening_in) (slice_get-map record_of all i ∙ ap (option_map record_of) at) in
    openings_set all i slot' ∙ (ap (set (openings (seats_of all)) i) same ∙ set_same (openings (seats_of all)) i (opening_in (record_of slot)) there)

-- how many may yet be condemned, after a write of a slot
pub live_set :
    (all : List Slot) (i : ℕ) (slot slot' : Slot) → slice_get all i ≡ Some slot
    → count_by is_live (seats_of (set all i slot')) + one_if (is_live (record_of slot)) ≡ count_by is_live (seats_of all) + one_if (is_live (record_of slot'))
live_set all i slot slot' at =
    let there : slice_get (seats_of all) i ≡ Some (record_of slot) = slice_get-map record_of all i ∙ ap (option_map record_of) at in
    let counts = count_set is_live (seats_of all) i (record_of slot) (record_of slot') there in
    rw (seats_of_set all i slot') counts

-- a record that differs only in what is said here, and in what nothing beside the slots speaks of
pub record IsLike (before after : Seat) : Type 0 where
  pub conn : after.conn ≡ before.conn
  pub condemned : after.condemned ≡ before.condemned

-- What is kept where a record changes whose connection was and is not condemned alike: with openings as they then are.
pub kept_opened :
    {all : List Slot} {takers takers' : List ℕ} {kept kept' : Openings} {condemned : Reserved Condemnation} {table : List (List ℕ)} {serials : ℕ}
    → IsKept all takers kept condemned table serials → (i : ℕ) (slot : Slot) (seat : Seat) → slice_get all i ≡ Some slot → slot.is_held ≡ true
    → IsLike slot.seat seat
    → length takers' ≡ length takers
    → ((class j : ℕ) (other : Seat) → j ≢ i → seat_in (seats_of all) j ≡ Some other → HoldsLatch other class → slice_get takers class ≡ Some j → slice_get takers' class ≡ Some j)
    → ((class : ℕ) → HoldsLatch seat class → slice_get takers' class ≡ Some i)
    → AreOpenings (openings (seats_of (set all i (with_seat slot seat)))) kept'
    → IsKept (set all i (with_seat slot seat)) takers' kept' condemned table serials
kept_opened {all} {takers} {takers'} {kept} {kept'} {condemned} {table} {serials} k i slot seat at held like same others here opened =
    let was : seat_in (seats_of all) i ≡ Some slot.seat = record_at all i slot at ∙ record_held slot held in
    let facts = k.seated i slot.seat was in
    let live = live_set all i slot (with_seat slot seat) at in
    let alike : is_live (record_of (with_seat slot seat)) ≡ is_live (record_of slot) =
    ap is_live (record_held (with_seat slot seat) held) ∙ (ap (λ o. is_none o) like.condemned ∙ sym (ap is_live (record_held slot held))) in
    let fewer : count_by is_live (seats_of (set all i (with_seat slot seat))) ≤ condemned.room =
    let ones : one_if (is_live (record_of (with_seat slot seat))) ≡ one_if (is_live (record_of slot)) = ap one_if alike in let room = k.room in omega (arith, ones, live) in
    kept_set k i (with_seat slot seat) (slice_get_within all i slot at) same
    (λ j other ne there.
    let f = k.seated j other there in
    record { place = f.place; serial = f.serial; condemned = f.condemned; latches = λ class h. others class j other ne there h (f.latches class h) })
    (λ other there.
    let e : seat ≡ other = let two : Some seat ≡ Some other = sym (record_held (with_seat slot seat) held) ∙ there in cc in
    subst (λ (o : Seat). IsSlot takers' condemned.items serials i o) e
    (record {
      place = ap (λ (c : ConnId). c.slot) like.conn ∙ facts.place;
      serial = subst (λ (c : ConnId). c.serial ≤ serials) (sym like.conn) facts.serial;
      condemned = like.condemned ∙ (facts.condemned ∙ ap (condemned_in condemned.items) (sym like.conn));
      latches = here;
    }))
    opened fewer k.drawn

-- What is kept where a record changes in what opens no transaction and closes none.
pub kept_seat :
    {all : List Slot} {takers takers' : List ℕ} {kept : Openings} {condemned : Reserved Condemnation} {table : List (List ℕ)} {serials : ℕ}
    → IsKept all takers kept condemned table serials → (i : ℕ) (slot : Slot) (seat : Seat) → slice_get all i ≡ Some slot → slot.is_held ≡ true
    → IsLike slot.seat seat
    → length takers' ≡ length takers
    → ((class j : ℕ) (other : Seat) → j ≢ i → seat_in (seats_of all) j ≡ Some other → HoldsLatch other class → slice_get takers class ≡ Some j → slice_get takers' class ≡ Some j)
    → ((class : ℕ) → HoldsLatch seat class → slice_get takers' class ≡ Some i)
    → opening_in (Some seat) ≡ opening_in (Some slot.seat)
    → IsKept (set all i (with_seat slot seat)) takers' kept condemned table serials
kept_seat {all} {kept = kept} k i slot seat at held like same others here opened =
    let e : openings (seats_of (set all i (with_seat slot seat))) ≡ openings (seats_of all) =
    openings_same all i slot (with_seat slot seat) at
    (ap opening_in (record_held (with_seat slot seat) held) ∙ (opened ∙ sym (ap opening_in (record_held slot held)))) in
    kept_opened k i slot seat at held like same others here (subst (λ (o : List (Option Opening)). AreOpenings o kept) (sym e) k.openings)

-- a registry's contents with a change of one record
pub told :
    (r now : Roll) (seats : Seats) (slot : ℕ) (change : Seat → Seat) → r ≡ now → seats ≡ changed r.seats slot change
    → record r { seats = seats } ≡ record now { seats = changed now.seats slot change }
told r now seats slot change same e =
    subst (λ (n : Roll). record r { seats = seats } ≡ record n { seats = changed n.seats slot change }) same (ap (λ (s : Seats). record r { seats = s }) e)

-- no latch is held where the number of latches is 0
pub no_latch : (P : ℕ → Type 0) (class : ℕ) → bit_at 0 class ≡ 1 → P class
no_latch P class h = let z = bit_at-zero class in absurd (omega arith)

-- who holds a latch took it last
pub latches_of :
    {all : List Slot} {takers : List ℕ} {kept : Openings} {condemned : Reserved Condemnation} {table : List (List ℕ)} {serials : ℕ}
    → IsKept all takers kept condemned table serials → (i : ℕ) (slot : Slot) → slice_get all i ≡ Some slot → slot.is_held ≡ true
    → (class : ℕ) → HoldsLatch slot.seat class → slice_get takers class ≡ Some i
latches_of {all} k i slot at held class h = (k.seated i slot.seat (record_at all i slot at ∙ record_held slot held)).latches class h

-- what is so of a registry, by what it keeps
pub roll_of :
    {all : List Slot} {takers : List ℕ} {kept : Openings} {condemned : Reserved Condemnation} {table : List (List ℕ)} {serials : ℕ}
    → IsKept all takers kept condemned table serials
    → IsRoll (record { classes = length takers; seats = seats_of all; condemned = condemned.items; spent = table; serials = serials })
roll_of {all} {takers} {kept} {condemned} {table} {serials} k =
    record {
      count = length-map all record_of ∙ k.count;
      classes = k.classes;
      seated = λ slot seat there.
          let f = k.seated slot seat there in
          record { place = f.place; serial = f.serial; condemned = f.condemned; latches = λ class h. slice_get_within takers class slot (f.latches class h) };
      one_holder = λ class i j a b first second ha hb. one_slot i j ((sym ((k.seated i a first).latches class ha)) ∙ (k.seated j b second).latches class hb);
      drawn = k.drawn;
      spent = k.spent;
      rows = k.rows;
    }
  where
    one_slot : (i j : ℕ) → Some i ≡ Some j → i ≡ j
    one_slot i j e = cc

-- who took a latch last is the only one that may hold it
pub none_holds :
    {all : List Slot} {takers : List ℕ} {kept : Openings} {condemned : Reserved Condemnation} {table : List (List ℕ)} {serials : ℕ}
    → IsKept all takers kept condemned table serials → (class taker : ℕ) → slice_get takers class ≡ Some taker
    → ((seat : Seat) → seat_in (seats_of all) taker ≡ Some seat → HoldsLatch seat class → ⊥) → NoneHolds (seats_of all) class
none_holds {all} {takers} k class taker at none slot seat there =
    let below = bit_at-lt seat.latches class in
    elim (cases_eq (bit_at seat.latches class) 1) [
      | inl holds ↦
          let same : taker ≡ slot = one_slot taker slot (sym at ∙ (k.seated slot seat there).latches class holds) in
          absurd (none seat (ap (seat_in (seats_of all)) same ∙ there) holds)
      | inr not ↦ omega arith
    ]
  where
    one_slot : (i j : ℕ) → Some i ≡ Some j → i ≡ j
    one_slot i j e = cc

-- what the list says of a connection that is held
pub condemned_told :
    {all : List Slot} {takers : List ℕ} {kept : Openings} {condemned : Reserved Condemnation} {table : List (List ℕ)} {serials : ℕ}
    → IsKept all takers kept condemned table serials → (c : ConnId) (seat : Seat) → seat_of (seats_of all) c ≡ Some seat
    → seat.condemned ≡ condemned_in condemned.items c
condemned_told {all} {condemned = condemned} k c seat own =
    let h = held_by all c seat own in
    let was : seat_in (seats_of all) c.slot ≡ Some seat = record_at all c.slot h.slot h.at ∙ (record_held h.slot h.is_held ∙ ap (λ (s : Seat). Some s) h.seat_is) in
    (k.seated c.slot seat was).condemned ∙ ap (condemned_in condemned.items) h.conn

-- the latch of a class that no other holds goes to the one in a slot
pub latch_others :
    (seats : Seats) (takers : List ℕ) (i class : ℕ) → NoOtherHolds seats i class
    → (other_class j : ℕ) (other : Seat) → j ≢ i → seat_in seats j ≡ Some other → HoldsLatch other other_class → slice_get takers other_class ≡ Some j
    → slice_get (set takers class i) other_class ≡ Some j
latch_others seats takers i class none other_class j other ne there holds taken =
    elim (cases_eq other_class class) [
      | inl same ↦ let zero_bit = none j other ne there in let one : bit_at other.latches class ≡ 1 = ap (bit_at other.latches) (sym same) ∙ holds in absurd (omega arith)
      | inr apart ↦ at_set_other takers class other_class i apart ∙ taken
    ]

pub latch_here :
    (takers : List ℕ) (i class latches : ℕ) → class < length takers → ((k : ℕ) → bit_at latches k ≡ 1 → slice_get takers k ≡ Some i)
    → (k : ℕ) → bit_at (with_latch latches class) k ≡ 1 → slice_get (set takers class i) k ≡ Some i
latch_here takers i class latches lt before k holds =
    elim (cases_eq k class) [
      | inl same ↦ ap (slice_get (set takers class i)) same ∙ at_set_same takers class i lt
      | inr apart ↦
          let both : bit_at (with_latch latches class) k ≡ max (bit_at latches k) (bit_at (2 ^ class) k) = bit_at_or latches (2 ^ class) k in
          let none : bit_at (2 ^ class) k ≡ 0 = bit_at-pow_other class k apart in
          let one : bit_at latches k ≡ 1 = omega arith in
          at_set_other takers class k i apart ∙ before k one
    ]

-- all latches, where no other holds any
pub all_others :
    (seats : Seats) (takers : List ℕ) (i : ℕ) → ((class : ℕ) → NoOtherHolds seats i class)
    → (class j : ℕ) (other : Seat) → j ≢ i → seat_in seats j ≡ Some other → HoldsLatch other class → slice_get takers class ≡ Some j
all_others seats takers i none class j other ne there holds = let zero_bit = none class j other ne there in absurd (omega arith)

pub all_here : (classes i class : ℕ) → bit_at (all_latches classes) class ≡ 1 → slice_get (replicate classes i) class ≡ Some i
all_here classes i class holds = elim (cases_lt class classes) [
  | inl lt ↦ filled classes class i lt
  | inr ge ↦ let none = bit_at_ones_above classes class ge in absurd (omega arith)
]
  where
    filled : (n k x : ℕ) → k < n → slice_get (replicate n x) k ≡ Some x
    filled zero k x lt = absurd (omega arith)
    filled (suc n) zero x lt = refl
    filled (suc n) (suc k) x lt = filled n k x (omega arith)

-- a registry's contents, part by part
pub roll_is :
    (r : Roll) (classes : ℕ) (seats : Seats) → classes ≡ r.classes → (seats' : Seats) → seats ≡ seats'
    → record r { classes = classes; seats = seats } ≡ record r { seats = seats' }
roll_is r classes seats same seats' e = λ i. record r { classes = same i; seats = e i }

-- what became of a registry's contents, by what they were
pub told_by : (r now new : Roll) (F : Roll → Roll) → r ≡ now → new ≡ F r → new ≡ F now
told_by r now new F same e = e ∙ ap F same

-- what is kept rests on the records that the slots have, and on how many there are
pub kept_same :
    {all all' : List Slot} {takers : List ℕ} {kept : Openings} {condemned condemned' : Reserved Condemnation} {table : List (List ℕ)} {serials : ℕ}
    → IsKept all takers kept condemned table serials → seats_of all' ≡ seats_of all → length all' ≡ length all
    → condemned'.items ≡ condemned.items → condemned.room ≤ condemned'.room
    → IsKept all' takers kept condemned' table serials
kept_same {all} {all'} {takers} {kept} {condemned} {condemned'} {table} {serials} k seats count items room =
    let live : count_by is_live (seats_of all') ≡ count_by is_live (seats_of all) = ap (count_by is_live) seats in
    let enough = k.room in
    record {
      count = count ∙ k.count;
      classes = k.classes;
      seated = λ slot seat there.
          subst (λ (list : List Condemnation). IsSlot takers list serials slot seat) (sym items) (k.seated slot seat (ap (λ (s : Seats). seat_in s slot) (sym seats) ∙ there));
      openings = subst (λ (s : Seats). AreOpenings (openings s) kept) (sym seats) k.openings;
      room = omega arith;
      drawn = λ place entry there. k.drawn place entry (ap (λ (list : List Condemnation). slice_get list place) (sym items) ∙ there);
      spent = k.spent;
      rows = k.rows;
    }

-- a slot that is freed has no record
pub record_free : (slot : Slot) → slot.is_held ≡ false → record_of slot ≡ None
record_free slot free = ap (λ b. cond b (Some slot.seat) None) free

-- a slot that was free and stays so leaves the records as they were
pub still_free : (all : List Slot) (i : ℕ) (slot slot' : Slot) → slice_get all i ≡ Some slot → slot.is_held ≡ false → slot'.is_held ≡ false → seats_of (set all i slot') ≡ seats_of all
still_free all i slot slot' at free free' =
    let none : record_of slot ≡ None = record_free slot free in
    let there : slice_get (seats_of all) i ≡ Some None = slice_get-map record_of all i ∙ (ap (option_map record_of) at ∙ ap (λ o. Some o) none) in
    seats_of_set all i slot' ∙ (ap (set (seats_of all) i) (record_free slot' free') ∙ set_same (seats_of all) i None there)

-- what is kept where a slot is freed
pub kept_freed :
    {all : List Slot} {takers : List ℕ} {kept kept' : Openings} {condemned : Reserved Condemnation} {table : List (List ℕ)} {serials : ℕ}
    → IsKept all takers kept condemned table serials → (i : ℕ) (slot slot' : Slot) → slice_get all i ≡ Some slot → slot'.is_held ≡ false
    → AreOpenings (openings (seats_of (set all i slot'))) kept'
    → IsKept (set all i slot') takers kept' condemned table serials
kept_freed {all} {takers} {kept} {kept'} {condemned} {table} {serials} k i slot slot' at free opened =
    let live = live_set all i slot slot' at in
    let gone : one_if (is_live (record_of slot')) ≡ 0 = ap (λ o. one_if (is_live o)) (record_free slot' free) in
    let enough = k.room in
    kept_set k i slot' (slice_get_within all i slot at) refl
    (λ j seat ne there. k.seated j seat there)
    (λ seat there. none_some seat (sym (record_free slot' free) ∙ there))
    opened (omega (arith, live, gone, enough)) k.drawn
  where
    none_some : {P : Type 0} (seat : Seat) → None ≡ Some seat → P
    none_some seat e = absurd cc

-- no entry of the list is of a connection whose serial is above those that were drawn
pub not_condemned :
    (list : List Condemnation) (c : ConnId) (serials : ℕ) → ((place : ℕ) (entry : Condemnation) → slice_get list place ≡ Some entry → entry.conn.serial ≤ serials)
    → serials < c.serial → condemned_in list c ≡ None
not_condemned [] c serials drawn above = refl
not_condemned (entry ∷ rest) c serials drawn above =
    let first = drawn 0 entry refl in
    let other : (entry.conn.serial == c.serial) ≡ false = ne_eqb _ _ (λ e. absurd (omega (arith, e))) in
    let test : is_of c entry ≡ false = and_right (entry.conn.slot == c.slot) (entry.conn.serial == c.serial) other in
    ap (λ b. option_map (λ (e : Condemnation). e.condemned) (cond b (Some entry) (find (is_of c) rest))) test
    ∙ not_condemned rest c serials (λ place e there. drawn (suc place) e there) above

-- what is kept where a free slot goes to a connection with a new record
pub kept_connected :
    {all : List Slot} {takers : List ℕ} {kept : Openings} {condemned : Reserved Condemnation} {table : List (List ℕ)} {serials : ℕ}
    → IsKept all takers kept condemned table serials → (i : ℕ) (slot slot' : Slot) (c : ConnId) → slice_get all i ≡ Some slot → slot.is_held ≡ false
    → slot'.is_held ≡ true → IsNew c slot'.seat → c.slot ≡ i → c.serial ≡ serials + 1 → slot_count ≤ condemned.room
    → IsKept (set all i slot') takers kept condemned table (serials + 1)
kept_connected {all} {takers} {kept} {condemned} {table} {serials} k i slot slot' c at free held new place serial room =
    let record' : record_of slot' ≡ Some slot'.seat = record_held slot' held in
    let same : opening_in (record_of slot') ≡ opening_in (record_of slot) =
    ap opening_in record' ∙ (ap (option_map opening_of) new.transaction ∙ sym (ap opening_in (record_free slot free))) in
    let count = k.count in
    let count' = length-set all i slot' in
    let records : length (seats_of (set all i slot')) ≡ length (set all i slot') = length-map (set all i slot') record_of in
    let live = count_by-le-length is_live (seats_of (set all i slot')) in
    kept_set k i slot' (slice_get_within all i slot at) refl
    (λ j seat ne there.
    let f = k.seated j seat there in
    record { place = f.place; serial = (let le = f.serial in omega arith); condemned = f.condemned; latches = f.latches })
    (λ seat there.
    let e : slot'.seat ≡ seat = let two : Some slot'.seat ≡ Some seat = sym record' ∙ there in cc in
    subst (λ (s : Seat). IsSlot takers condemned.items (serials + 1) i s) e
    (record {
      place = ap (λ (n : ConnId). n.slot) new.conn ∙ place;
      serial = (let n = ap (λ (n : ConnId). n.serial) new.conn in omega arith);
      condemned = new.condemned ∙ (sym (not_condemned condemned.items c serials k.drawn (omega arith)) ∙ ap (condemned_in condemned.items) (sym new.conn));
      latches = λ class holds. no_latch (λ k. slice_get takers k ≡ Some i) class (ap (λ n. bit_at n class) (sym new.latches) ∙ holds);
    }))
    (subst (λ (o : List (Option Opening)). AreOpenings o kept) (sym (openings_same all i slot slot' at same)) k.openings)
    (omega (arith, live, records, count, count', room))
    (λ p entry there. let le = k.drawn p entry there in omega arith)

-- an entry more says nothing of other connections
pub others_condemned : (list : List Condemnation) (entry : Condemnation) (c : ConnId) → c.slot ≢ entry.conn.slot → condemned_in (list ++ entry ∷ []) c ≡ condemned_in list c
others_condemned [] entry c ne =
    let other : (entry.conn.slot == c.slot) ≡ false = ne_eqb _ _ (λ e. ne (sym e)) in
    let test : is_of c entry ≡ false = and_left (entry.conn.slot == c.slot) (entry.conn.serial == c.serial) other in
    ap (λ b. option_map (λ (e : Condemnation). e.condemned) (cond b (Some entry) None)) test
others_condemned (first ∷ rest) entry c ne = go (is_of c first) (others_condemned rest entry c ne)
  where
    go : (b : Bool) → condemned_in (rest ++ entry ∷ []) c ≡ condemned_in rest c
        → option_map (λ (e : Condemnation). e.condemned) (cond b (Some first) (find (is_of c) (rest ++ entry ∷ [])))
        ≡ option_map (λ (e : Condemnation). e.condemned) (cond b (Some first) (find (is_of c) rest))
    go true e = refl
    go false e = e

-- and it says of its own, where no earlier one did
pub now_condemned : (list : List Condemnation) (entry : Condemnation) (c : ConnId) → entry.conn ≡ c → None ≡ condemned_in list c → condemned_in (list ++ entry ∷ []) c ≡ Some entry.condemned
now_condemned [] entry c same none =
    let first : (entry.conn.slot == c.slot) ≡ true = eq-eqb _ _ (ap (λ (n : ConnId). n.slot) same) in
    let second : (entry.conn.serial == c.serial) ≡ true = eq-eqb _ _ (ap (λ (n : ConnId). n.serial) same) in
    λ i. option_map (λ (e : Condemnation). e.condemned) (cond (first i && second i) (Some entry) None)
now_condemned (other ∷ rest) entry c same none = go (is_of c other) (now_condemned rest entry c same) none
  where
    go : (b : Bool) → (None ≡ condemned_in rest c → condemned_in (rest ++ entry ∷ []) c ≡ Some entry.condemned) → None ≡ option_map (λ (e : Condemnation). e.condemned) (cond b (Some other) (find (is_of c) rest))
        → option_map (λ (e : Condemnation). e.condemned) (cond b (Some other) (find (is_of c) (rest ++ entry ∷ []))) ≡ Some entry.condemned
    go true later e = let no : None ≡ Some other.condemned = e in absurd cc
    go false later e = later e

-- the entries of a list with one more
in_longer : {P : Condemnation → Type 0} (list : List Condemnation) (entry : Condemnation) → ((place : ℕ) (e : Condemnation) → slice_get list place ≡ Some e → P e) → P entry
    → (place : ℕ) (e : Condemnation) → slice_get (list ++ entry ∷ []) place ≡ Some e → P e
in_longer {P} [] entry each mine zero e there = let same : Some entry ≡ Some e = there in let one : entry ≡ e = cc in subst P one mine
in_longer [] entry each mine (suc place) e there = let no : None ≡ Some e = there in absurd cc
in_longer {P} (first ∷ rest) entry each mine zero e there = each 0 e there
in_longer {P} (first ∷ rest) entry each mine (suc place) e there = in_longer {P = P} rest entry (λ p x t. each (suc p) x t) mine place e there

-- whether the record of a slot that is held may be condemned
live_is : (slot : Slot) → slot.is_held ≡ true → is_live (record_of slot) ≡ is_none slot.seat.condemned
live_is slot held = ap is_live (record_held slot held)

-- there is room to condemn one that wasn't
pub room_to_condemn :
    {all : List Slot} {takers : List ℕ} {kept : Openings} {condemned : Reserved Condemnation} {table : List (List ℕ)} {serials : ℕ}
    → IsKept all takers kept condemned table serials → (i : ℕ) (slot : Slot) → slice_get all i ≡ Some slot → slot.is_held ≡ true → slot.seat.condemned ≡ None
    → 0 < condemned.room
room_to_condemn {all} k i slot at held none =
    let free : Slot = record slot { is_held = false } in
    let counts = live_set all i slot free at in
    let one : one_if (is_live (record_of slot)) ≡ 1 = ap one_if (live_is slot held ∙ ap is_none none) in
    let room = k.room in
    omega (arith, counts, one, room)

-- what is kept where a connection is condemned
pub kept_condemned :
    {all : List Slot} {takers : List ℕ} {kept : Openings} {condemned : Reserved Condemnation} {table : List (List ℕ)} {serials : ℕ}
    → IsKept all takers kept condemned table serials → (i : ℕ) (slot : Slot) (entry : Condemnation) → slice_get all i ≡ Some slot → slot.is_held ≡ true
    → slot.seat.condemned ≡ None → slot.seat.conn ≡ entry.conn → entry.conn.slot ≡ i
    → IsKept (set all i (with_seat slot (with_condemned entry.condemned slot.seat))) takers kept (record { items = condemned.items ++ entry ∷ []; room = condemned.room - 1 }) table serials
kept_condemned {all} {takers} {kept} {condemned} {table} {serials} k i slot entry at held none conn place =
    let was : seat_in (seats_of all) i ≡ Some slot.seat = record_at all i slot at ∙ record_held slot held in
    let facts = k.seated i slot.seat was in
    let after = with_seat slot (with_condemned entry.condemned slot.seat) in
    let live = live_set all i slot after at in
    let before_one : one_if (is_live (record_of slot)) ≡ 1 = ap one_if (live_is slot held ∙ ap is_none none) in
    let after_none : one_if (is_live (record_of after)) ≡ 0 = ap one_if (live_is after held) in
    let room = k.room in
    let mine : entry.conn.serial ≤ serials = subst (λ (c : ConnId). c.serial ≤ serials) conn facts.serial in
    kept_set k i after (slice_get_within all i slot at) refl
    (λ j seat ne there.
    let f = k.seated j seat there in
    let apart : seat.conn.slot ≢ entry.conn.slot = λ e. ne (sym f.place ∙ (e ∙ place)) in
    record { place = f.place; serial = f.serial; condemned = f.condemned ∙ sym (others_condemned condemned.items entry seat.conn apart); latches = f.latches })
    (λ seat there.
    let e : after.seat ≡ seat = let two : Some after.seat ≡ Some seat = sym (record_held after held) ∙ there in cc in
    subst (λ (s : Seat). IsSlot takers (condemned.items ++ entry ∷ []) serials i s) e
    (record {
      place = facts.place;
      serial = facts.serial;
      condemned = sym (now_condemned condemned.items entry slot.seat.conn (sym conn) (sym none ∙ facts.condemned));
      latches = facts.latches;
    }))
    (subst (λ (o : List (Option Opening)). AreOpenings o kept) (sym (openings_same all i slot after at (ap opening_in (record_held after held) ∙ sym (ap opening_in (record_held slot held))))) k.openings)
    (omega (arith, live, before_one, after_none, room))
    (in_longer {P = λ e. e.conn.serial ≤ serials} condemned.items entry k.drawn mine)

-- a fact that holds whatever a call answers
pub on_err : {T E : Type 0} (r : Result T E) (P : Type 0) → P → OnErr r P
on_err (Ok x) P p = tt
on_err (Err e) P p = p

-- a list of one element, repeated
of_replicate : {X : Type 0} (n i : ℕ) (x y : X) → slice_get (replicate n x) i ≡ Some y → x ≡ y
of_replicate zero i x y e = let no : None ≡ Some y = e in absurd cc
of_replicate (suc n) zero x y e = let one : Some x ≡ Some y = e in cc
of_replicate (suc n) (suc i) x y e = of_replicate n i x y e

nobody : (n i : ℕ) (seat : Seat) → seat_in (replicate n None) i ≡ Some seat → ⊥
nobody zero i seat e = let no : None ≡ Some seat = e in cc
nobody (suc n) zero seat e = let no : None ≡ Some seat = e in cc
nobody (suc n) (suc i) seat e = nobody n i seat e

none_open : (n slot : ℕ) (o : Opening) → slice_get (openings (replicate n None)) slot ≡ Some (Some o) → ⊥
none_open zero slot o e = let no : None ≡ Some (Some o) = e in cc
none_open (suc n) zero o e = let no : Some None ≡ Some (Some o) = e in cc
none_open (suc n) (suc slot) o e = none_open n slot o e

-- nothing spent, in so many classes
abbrev zeros : ℕ → List ℕ
zeros n = replicate n 0

-- what is kept where nobody is connected
pub kept_none :
    (all : List Slot) (takers : List ℕ) (table : List (List ℕ)) (classes : ℕ) → length all ≡ slot_count → seats_of all ≡ replicate slot_count None
    → length takers ≡ classes → classes ≤ max_classes → table ≡ replicate slot_count (zeros classes)
    → IsKept all takers (record { lowest = None; writer = None; least = None }) (record { items = []; room = 0 }) table 0
kept_none all takers table classes count seats count' few empty = record {
  count = count;
  classes = rw count' few;
  seated = λ slot seat there. absurd (nobody slot_count slot seat (ap (λ (s : Seats). seat_in s slot) (sym seats) ∙ there));
  openings = subst (λ (s : Seats). AreOpenings (openings s) (record { lowest = None; writer = None; least = None })) (sym seats) (record { lowest = refl; writer = refl; least = none_open slot_count });
  room = subst (λ (s : Seats). count_by is_live s ≤ 0) (sym seats) (omega arith);
  drawn = λ place entry there. (let no : None ≡ Some entry = there in absurd cc);
  spent = ap length empty ∙ length-replicate slot_count (zeros classes);
  rows = λ slot row there.
      let same = of_replicate slot_count slot (zeros classes) row (ap (λ (t : List (List ℕ)). slice_get t slot) (sym empty) ∙ there) in
      ap length (sym same) ∙ (length-replicate classes 0 ∙ sym count');
}

-- a registry's contents with equal records and an equal list
pub roll_same : (r : Roll) (seats : Seats) (list : List Condemnation) → seats ≡ r.seats → list ≡ r.condemned → record r { seats = seats; condemned = list } ≡ r
roll_same r seats list e f = λ i. record r { seats = e i; condemned = f i }

pub roll_after :
    (r : Roll) (seats seats' : Seats) (list : List Condemnation) (serials : ℕ) → seats ≡ seats' → list ≡ r.condemned
    → record r { seats = seats; condemned = list; serials = serials } ≡ record r { seats = seats'; serials = serials }
roll_after r seats seats' list serials e f = λ i. record r { seats = e i; condemned = f i; serials = serials }

-- a connection that was made, in a registry's contents
pub connects_is : (r now new : Roll) (c : ConnId) → r ≡ now → Connects r new c → Connects now new c
connects_is r now new c same made = subst (λ (x : Roll). Connects x new c) same made
