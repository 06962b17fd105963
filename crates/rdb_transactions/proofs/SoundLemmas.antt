-- What is so between two calls, as one slot changes.
use Rattle.std.proofs.Common.{◌≡◌, ◌+◌, ◌≤◌, ◌++◌, Result, Ok, Err, OnOk, OnErr, ℕ, zero, suc, Bool, true, false, cond, List, [], ◌∷◌, length, set, Option, Some, None, slice_get, option_map, refl, sym, ap, subst, ◌∙◌, arith}
use Rattle.std.specs.List.{sum_by}
use Rattle.std.proofs.lemmas.List.{append-nil}
use Rattle.std.proofs.lemmas.List.Sums.{sum_by-set, length-filter, count_by-le-length}
use Rattle.std.proofs.lemmas.Option.{slice_get_within, get_or_from_slice_get}
use Rattle.rdb_base.specs.Entries.{is_commit}
use Rattle.rdb_base.specs.declared.identity.ConnId.{ConnId}
use Rattle.rdb_base.specs.declared.journal.Entry.{Entry}
use Rattle.rdb_base.specs.declared.operation.Op.{Op}
use Rattle.rdb_base.specs.declared.operation.Reply.{Reply}
use Rattle.rdb_cells.specs.Records.{Record}
use Rattle.rdb_model.specs.Journal.{commits, done_of}
use Rattle.rdb_registry.specs.declared.seat.Seat.{Seat}
use Rattle.rdb_registry.specs.Registry.{Roll}
use Rattle.rdb_registry.specs.Seats.{Seats, seat_in, seat_of, EachSeat, changed}
use Rattle.rdb_transactions.specs.declared.transactions.Transactions.{Transactions}
use Rattle.rdb_transactions.specs.Claims.{places_of, writes_of, places_in, writes_of_slot, writes_in, is_unmarked, HasRoom, Covers}
use Rattle.rdb_transactions.specs.declared.claims.Claims.{Claims}
use Rattle.rdb_transactions.specs.Moves.{IsSame}
use Rattle.rdb_transactions.specs.Sound.{IsOrderly, IsSoundBut, IsSound}
use Rattle.rdb_transactions.proofs.EditLemmas.{stands}

-- what is so of each record, as one slot is written
pub each_set :
    {P Q : Seat → Type 0} (seats : Seats) (slot : ℕ) (new : Option Seat) → ((seat : Seat) → P seat → Q seat)
    → ((seat : Seat) → new ≡ Some seat → Q seat) → EachSeat (λ _. P) seats → EachSeat (λ _. Q) (set seats slot new)
each_set [] slot new keep here all j seat e = let no : None ≡ Some seat = e in absurd cc
each_set (s ∷ ss) zero new keep here all zero seat e = here seat e
each_set (s ∷ ss) zero new keep here all (suc j) seat e = keep seat (all (suc j) seat e)
each_set (s ∷ ss) (suc slot) new keep here all zero seat e = keep seat (all zero seat e)
each_set (s ∷ ss) (suc slot) new keep here all (suc j) seat e = each_set ss slot new keep here (λ k x h. all (suc k) x h) j seat e

-- a sum over the slots, as one is written
pub sum_set : (f : Option Seat → ℕ) (seats : Seats) (slot : ℕ) (old new : Option Seat) → slice_get seats slot ≡ Some old → sum_by f (set seats slot new) + f old ≡ sum_by f seats + f new
sum_set f seats slot old new at =
    let within = slice_get_within seats slot old at in
    subst (λ (o : Option Seat). sum_by f (set seats slot new) + f o ≡ sum_by f seats + f new) (get_or_from_slice_get seats slot old old at) (sum_by-set f seats slot new old within)

-- a record in a slot stands there
pub slot_there : (seats : Seats) (slot : ℕ) (seat : Seat) → seat_in seats slot ≡ Some seat → slice_get seats slot ≡ Some (Some seat)
slot_there [] slot seat e = let no : None ≡ Some seat = e in absurd cc
slot_there (s ∷ ss) zero seat e = ap Some e
slot_there (s ∷ ss) (suc slot) seat e = slot_there ss slot seat e

-- a longer journal leaves a record in order
pub orderly_later : (n m : ℕ) (seat : Seat) → n ≤ m → IsOrderly n seat → IsOrderly m seat
orderly_later n m seat le o = let begun = o.begun in record { phase = o.phase; begun = omega arith }

-- What is so after one slot is written, and what is claimed follows.
pub sound_set :
    (away away' : List (Op × Reply)) (before after : Transactions) (slot : ℕ) (old new : Option Seat)
    → IsSoundBut away before → slice_get before.registry.seats slot ≡ Some old
    → after.registry.seats ≡ set before.registry.seats slot new
    → ((seat : Seat) → new ≡ Some seat → IsOrderly (length after.journal.entries) seat)
    → after.claims.entries + places_in old ≡ before.claims.entries + places_in new
    → after.claims.writes + (writes_of_slot old + writes_in away) ≡ before.claims.writes + (writes_of_slot new + writes_in away')
    → HasRoom after.claims after.journal
    → length before.journal.entries ≤ length after.journal.entries
    → after.spare_undo.pairs ≡ []
    → IsSoundBut away' after
sound_set away away' before after slot old new s at seats here entries writes room longer spare =
    let places = sum_set places_in before.registry.seats slot old new at in
    let all_writes = sum_set writes_of_slot before.registry.seats slot old new at in
    let claimed = s.claims.entries in
    let written = s.claims.writes in
    record {
      records = subst (λ (ss : Seats). EachSeat (λ _. IsOrderly (length after.journal.entries)) ss) (sym seats)
          (each_set before.registry.seats slot new (λ seat o. orderly_later (length before.journal.entries) (length after.journal.entries) seat longer o) here s.records);
      claims = record {
        entries =
            let sum : after.claims.entries ≡ sum_by places_in (set before.registry.seats slot new) = omega (arith, places, claimed, entries) in
            sum ∙ sym (ap (sum_by places_in) seats);
        writes =
            let sum : after.claims.writes ≡ sum_by writes_of_slot (set before.registry.seats slot new) + writes_in away' = omega (arith, all_writes, written, writes) in
            sum ∙ sym (ap (λ (ss : Seats). sum_by writes_of_slot ss + writes_in away') seats);
        room = room;
      };
      spare = spare;
    }

-- The same, where the record of a connection changes.
pub sound_edit :
    (away away' : List (Op × Reply)) (before after : Transactions) (c : ConnId) (seat : Seat) (change : Seat → Seat)
    → IsSoundBut away before → seat_of before.registry.seats c ≡ Some seat
    → after.registry.seats ≡ changed before.registry.seats c.slot change
    → IsOrderly (length after.journal.entries) (change seat)
    → after.claims.entries + places_of seat ≡ before.claims.entries + places_of (change seat)
    → after.claims.writes + (writes_of seat + writes_in away) ≡ before.claims.writes + (writes_of (change seat) + writes_in away')
    → HasRoom after.claims after.journal
    → length before.journal.entries ≤ length after.journal.entries
    → after.spare_undo.pairs ≡ []
    → IsSoundBut away' after
sound_edit away away' before after c seat change s at seats here entries writes room longer spare =
    let there = (stands before.registry.seats c seat at).there in
    sound_set away away' before after c.slot (Some seat) (Some (change seat)) s (slot_there before.registry.seats c.slot seat there)
    (seats ∙ ap (λ (o : Option Seat). set before.registry.seats c.slot (option_map change o)) there)
    (λ other e. let same : change seat ≡ other = cc in subst (λ (x : Seat). IsOrderly (length after.journal.entries) x) same here)
    entries writes room longer spare

-- The same, where what is claimed stays and the journal and the spare record are the same.
pub sound_still :
    (before : Transactions) (registry : Roll) (c : ConnId) (seat : Seat) (change : Seat → Seat)
    → IsSound before → seat_of before.registry.seats c ≡ Some seat
    → registry.seats ≡ changed before.registry.seats c.slot change
    → IsOrderly (length before.journal.entries) (change seat)
    → places_of (change seat) ≡ places_of seat → writes_of (change seat) ≡ writes_of seat
    → IsSound (record before { registry = registry })
sound_still before registry c seat change s at seats here places writes =
    sound_edit [] [] before (record before { registry = registry }) c seat change s at seats here
    (ap (λ n. before.claims.entries + n) (sym places)) (ap (λ n. before.claims.writes + (n + 0)) (sym writes)) s.claims.room (omega arith) s.spare

-- another registry that is the same
pub sound_unchanged : (before : Transactions) (registry : Roll) → IsSound before → registry ≡ before.registry → IsSound (record before { registry = registry })
sound_unchanged before registry s same = subst (λ (r : Roll). IsSound (record before { registry = r })) (sym same) s

-- nothing but room has changed
pub sound_same :
    (away : List (Op × Reply)) (before after : Transactions) → IsSoundBut away before → IsSame before after → after.claims ≡ before.claims
    → HasRoom after.claims after.journal → IsSoundBut away after
sound_same away before after s same claims room = record {
  records =
      subst (λ (r : Roll). EachSeat (λ _. IsOrderly (length after.journal.entries)) r.seats) (sym same.registry)
      (subst (λ (es : List Entry). EachSeat (λ _. IsOrderly (length es)) before.registry.seats) (sym same.entries) s.records);
  claims = record {
    entries = ap (λ (x : Claims). x.entries) claims ∙ (s.claims.entries ∙ ap (λ (r : Roll). sum_by places_in r.seats) (sym same.registry));
    writes = ap (λ (x : Claims). x.writes) claims ∙ (s.claims.writes ∙ ap (λ (r : Roll). sum_by writes_of_slot r.seats + writes_in away) (sym same.registry));
    room = room;
  };
  spare = ap (λ (r : Record). r.pairs) same.spare ∙ s.spare;
}

-- a connection's record is in order
pub orderly_of : (away : List (Op × Reply)) (t : Transactions) (c : ConnId) (seat : Seat) → IsSoundBut away t → seat_of t.registry.seats c ≡ Some seat → IsOrderly (length t.journal.entries) seat
orderly_of away t c seat s at = s.records c.slot seat (stands t.registry.seats c seat at).there

-- a part of a sum over the slots
pub part_of_sum : (f : Option Seat → ℕ) (seats : Seats) (slot : ℕ) (old : Option Seat) → f None ≡ 0 → slice_get seats slot ≡ Some old → f old ≤ sum_by f seats
part_of_sum f seats slot old zero_there at = let sums = sum_set f seats slot old None at in omega (arith, sums, zero_there)

-- a record claims its own leave at least
pub places_some : (seat : Seat) → 1 ≤ places_of seat
places_some seat = go (is_unmarked seat)
  where
    go : (b : Bool) → 1 ≤ cond b 2 1
    go true = omega arith
    go false = omega arith

pub places_at : (seat : Seat) (b : Bool) → is_unmarked seat ≡ b → places_of seat ≡ cond b 2 1
places_at seat b e = ap (λ x. cond x 2 1) e

-- what the record of a connection claims is claimed
pub record BothClaimed (claims : Claims) (away : List (Op × Reply)) (seat : Seat) : Type 0 where
  pub places : places_of seat ≤ claims.entries
  pub writes : writes_of seat + writes_in away ≤ claims.writes

pub claimed_by_seat : (away : List (Op × Reply)) (t : Transactions) (c : ConnId) (seat : Seat) → IsSoundBut away t → seat_of t.registry.seats c ≡ Some seat → BothClaimed t.claims away seat
claimed_by_seat away t c seat s at =
    let there = slot_there t.registry.seats c.slot seat (stands t.registry.seats c seat at).there in
    let entries = part_of_sum places_in t.registry.seats c.slot (Some seat) refl there in
    let writes = part_of_sum writes_of_slot t.registry.seats c.slot (Some seat) refl there in
    let claimed = s.claims.entries in
    let written = s.claims.writes in
    record { places = omega (arith, entries, claimed); writes = omega (arith, writes, written) }

-- an ending whose story was moved out is covered
pub covers_story :
    (done : List (Op × Reply)) (t : Transactions) (c : ConnId) (seat : Seat) (given : Claims) (entry : Entry) → IsSoundBut done t → seat_of t.registry.seats c ≡ Some seat
    → given ≡ record { entries = 1; writes = writes_in done } → writes_in (done_of entry) ≤ writes_in done → Covers given t.claims entry
covers_story done t c seat given entry s at is few =
    let both = claimed_by_seat done t c seat s at in
    let place = places_some seat in
    let entries : given.entries ≡ 1 = ap (λ (x : Claims). x.entries) is in
    let writes : given.writes ≡ writes_in done = ap (λ (x : Claims). x.writes) is in
    let all_places = both.places in
    let all_writes = both.writes in
    record { place = omega arith; entries = omega arith; writes = omega arith; story = omega arith }

-- as many commits as entries at most
pub commits_few : (journal : List Entry) → commits journal ≤ length journal
commits_few journal = rw (length-filter is_commit journal) (count_by-le-length is_commit journal)

pub nothing_more : (entries : List Entry) → entries ≡ entries ++ []
nothing_more entries = sym (append-nil entries)

-- from an answer that is Ok or Err
pub ok_or_err : {T E : Type 0} {P Q R : Type 0} (r : Result T E) → OnOk r P → OnErr r Q → (P → R) → (Q → R) → R
ok_or_err (Ok x) p q f g = f p
ok_or_err (Err e) p q f g = g q

pub on_err_map : {T E : Type 0} {P Q : Type 0} (r : Result T E) → (P → Q) → OnErr r P → OnErr r Q
on_err_map (Ok x) f h = h
on_err_map (Err e) f h = f h

pub on_ok_map : {T E : Type 0} {P Q : Type 0} (r : Result T E) → (P → Q) → OnOk r P → OnOk r Q
on_ok_map (Ok x) f h = f h
on_ok_map (Err e) f h = h
