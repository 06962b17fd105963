-- The room that records have, and how far numbers were drawn, as one slot's record is another.
use Rattle.std.proofs.Common.{◌≡◌, ◌≢◌, ◌<◌, ◌≤◌, ◌+◌, ◌*◌, ◌++◌, ◌∷◌, ◌||◌, ℕ, zero, suc, List, [], length, set, get_or, sum_by, Bool, true, false, not, cond, Option, Some, None, is_some, is_none, option_map, option_and_then, append-nil, mul-one, refl, sym, ap, subst, ◌∙◌, arith, mul-add, length-append, inl, inr}
use Rattle.std.proofs.Math.Nat.{mul-le-mul_left}
use Rattle.std.proofs.lemmas.Bool.{false≢true}
use Rattle.std.proofs.lemmas.List.Quantifiers.{position-Some}
use Rattle.std.proofs.lemmas.List.Sums.{sum_by-set}
use Rattle.std.proofs.Permutation.{which}
use Rattle.std.specs.Option.{option_map_or}
use Rattle.rdb_base.specs.declared.identity.ConnId.{ConnId}
use Rattle.rdb_base.specs.declared.identity.Manager.{Manager}
use Rattle.rdb_base.specs.declared.identity.Manager.TheVariants as manager
use Rattle.rdb_base.specs.declared.journal.Cause.{Cause}
use Rattle.rdb_base.specs.declared.journal.Entry.{Entry}
use Rattle.rdb_base.specs.declared.limits.TheConstants.{MAX_OPERATIONS}
use Rattle.rdb_schema.specs.declared.schema.Schema.{Schema}
use Rattle.rdb_cells.specs.Records.{max_plan}
use Rattle.rdb_registry.specs.declared.hand.Work.{Work}
use Rattle.rdb_registry.specs.declared.seat.Condemned.{Condemned}
use Rattle.rdb_registry.specs.declared.seat.Seat.{Seat}
use Rattle.rdb_registry.specs.declared.seat.Transaction.{Transaction}
use Rattle.rdb_registry.specs.Hands.{undo_places}
use Rattle.rdb_registry.specs.Registry.{Roll, spent_by}
use Rattle.rdb_registry.specs.Seats.{Seats, EachSeat, IsNew, may_write, marked, seat_in, seat_of, with_condemned}
use Rattle.rdb_registry.proofs.SlotLemmas.{seat_in_other}
use Rattle.rdb_transactions.specs.declared.transactions.Transactions.{Transactions}
use Rattle.rdb_transactions.specs.Claims.{is_unmarked}
use Rattle.rdb_transactions.specs.Moves.{Moves, Comes, Condemns, Leaves, KeepsSpare}
use Rattle.rdb_transactions.specs.Records.{becomes_marked, is_single_writer, rolls_back}
use Rattle.rdb_writes.proofs.WorkLemmas.{in_its_slot}
use Rattle.rdb_writes.specs.Steps.{spans_one_plan}
use Rattle.rdb_steps.specs.Kept.{is_rolling_back}
use Rattle.rdb_steps.specs.Moves.{TellsAlone}
use Rattle.rdb_steps.specs.Rooms.{HaveRooms, KeepRooms, TellsFew}
use Rattle.rdb_steps.proofs.AlikeLemmas.{told}
use Rattle.rdb_steps.proofs.MoveLemmas.{of_one, of_none}
use Rattle.rdb_steps.specs.States.{IsFurnished, SpareFits, AreFewer, operations_of, planned_so_far, planned_by, planned_in, ever_planned}

-- what stands in a slot is another record, or none; so many entries come; the spare undo record and what was spent stay
pub record MovesSlot (before after : Transactions) (slot : ℕ) (was now : Option Seat) (more : List Entry) : Type 0 where
  pub manager : after.manager ≡ before.manager
  pub within : slot < length before.registry.seats
  pub held : seat_in before.registry.seats slot ≡ was
  pub seats : after.registry.seats ≡ set before.registry.seats slot now
  pub spent : after.registry.spent ≡ before.registry.spent
  pub entries : after.journal.entries ≡ before.journal.entries ++ more
  pub spare : after.spare_undo ≡ before.spare_undo

pub within_of : (seats : Seats) (slot : ℕ) (s : Seat) → seat_in seats slot ≡ Some s → slot < length seats
within_of [] slot s e = absurd (let no : None ≡ Some s = e in cc)
within_of (o ∷ os) zero s e = omega arith
within_of (o ∷ os) (suc slot) s e = let rest = within_of os slot s e in omega (arith, rest)

get_is : (seats : Seats) (slot : ℕ) → slot < length seats → get_or seats slot None ≡ seat_in seats slot
get_is [] slot within = absurd (omega (arith, within))
get_is (o ∷ os) zero within = refl
get_is (o ∷ os) (suc slot) within = get_is os slot (omega (arith, within))

written : (seats : Seats) (slot : ℕ) (x : Option Seat) (s : Seat) → seat_in (set seats slot x) slot ≡ Some s → x ≡ Some s
written [] slot x s e = absurd (let no : None ≡ Some s = e in cc)
written (o ∷ os) zero x s e = e
written (o ∷ os) (suc slot) x s e = written os slot x s e

more_planned : (e s e_now s_now p q m : ℕ) → s_now + p ≡ s + q → p ≤ q + m → e_now ≡ e + m → e + s ≤ e_now + s_now
more_planned e s e_now s_now p q m sums few is = omega (arith, sums, few, is)

module _ (before after : Transactions) (slot : ℕ) (was now : Option Seat) (more : List Entry) (m : MovesSlot before after slot was now more) where
  others_stay : (i : ℕ) → i ≢ slot → seat_in after.registry.seats i ≡ seat_in before.registry.seats i
  others_stay i other = ap (λ (seats : Seats). seat_in seats i) m.seats ∙ seat_in_other before.registry.seats slot i now other

  there_now : (i : ℕ) (s : Seat) → i ≡ slot → seat_in after.registry.seats i ≡ Some s → now ≡ Some s
  there_now i s same there =
      written before.registry.seats slot now s (sym (ap (λ (seats : Seats). seat_in seats slot) m.seats) ∙ sym (ap (seat_in after.registry.seats) same) ∙ there)

  -- no fewer operations are planned
  planned_stays : planned_in was ≤ planned_in now + MAX_OPERATIONS * length more → ever_planned before ≤ ever_planned after
  planned_stays few =
      more_planned (MAX_OPERATIONS * length before.journal.entries) (sum_by planned_in before.registry.seats)
      (MAX_OPERATIONS * length after.journal.entries) (sum_by planned_in after.registry.seats) (planned_in was) (planned_in now) (MAX_OPERATIONS * length more)
      (ap (λ (seats : Seats). sum_by planned_in seats + planned_in was) m.seats
      ∙ ap (λ (o : Option Seat). sum_by planned_in (set before.registry.seats slot now) + planned_in o) (sym (get_is before.registry.seats slot m.within ∙ m.held))
      ∙ sum_by-set planned_in before.registry.seats slot now None m.within)
      few
      (ap (λ (es : List Entry). MAX_OPERATIONS * length es) m.entries
      ∙ ap (λ (n : ℕ). MAX_OPERATIONS * n) (length-append before.journal.entries more)
      ∙ mul-add MAX_OPERATIONS (length before.journal.entries) (length more))

  pub fewer_stay : (serials : ℕ) (ids : List ℕ) → planned_in was ≤ planned_in now + MAX_OPERATIONS * length more → AreFewer serials ids before → AreFewer serials ids after
  fewer_stay serials ids few fewer =
      let grows = planned_stays few in
      record {
        serials = (let had = fewer.serials in omega (arith, had, grows));
        ids = λ class. (let had = fewer.ids class in omega (arith, had, grows));
        spent = λ place class.
            subst (λ (table : List (List ℕ)). spent_by table place class ≤ max_plan * ever_planned after) (sym m.spent)
            (let had = fewer.spent place class in let more_room = mul-le-mul_left max_plan grows in omega (arith, had, more_room));
      }

  pub furnished_stay : (schema : Schema) (cells : ℕ) → EachSeat (λ i. IsFurnished schema before.manager cells) before.registry.seats → ((s : Seat) → now ≡ Some s → IsFurnished schema before.manager cells s) →
      EachSeat (λ i. IsFurnished schema after.manager cells) after.registry.seats
  furnished_stay schema cells each own i s there = subst (λ (manager : Manager). IsFurnished schema manager cells s) (sym m.manager) (elim (which i slot) [
    | inl same ↦ own s (there_now i s same there)
    | inr other ↦ each i s (sym (others_stay i other) ∙ there)
  ])

  -- where it is the single writer's if it was, the spare undo record fits still
  pub spare_stays : (cells : ℕ) → ((s : Seat) → was ≡ Some s → ((x : Seat) → now ≡ Some x → is_single_writer before.manager x ≡ false) → is_single_writer before.manager s ≡ false) →
      ((x : Seat) → now ≡ Some x → is_single_writer before.manager x ≡ true → (s : Seat) × (was ≡ Some s) × (is_single_writer before.manager s ≡ true)) → SpareFits cells before → SpareFits cells after
  spare_stays cells quiet still fits = record {
    spare = λ single none.
        subst (λ (r : ℕ). cells ≤ r) (sym (ap (λ u. u.room) m.spare))
        (fits.spare (ap spans_one_plan (sym m.manager) ∙ single) (λ i s there. elim (which i slot) [
          | inl same ↦
              quiet s (sym m.held ∙ sym (ap (seat_in before.registry.seats) same) ∙ there) (λ x is. none_now none i x same is)
          | inr other ↦
              ap (λ (k : Manager). is_single_writer k s) (sym m.manager) ∙ none i s (others_stay i other ∙ there)
        ]));
    own = λ i s there writes.
        subst (λ (r : ℕ). undo_places ≤ r) (sym (ap (λ u. u.room) m.spare))
        (elim (which i slot) [
          | inl same ↦
              let had = still s (there_now i s same there) (ap (λ (k : Manager). is_single_writer k s) (sym m.manager) ∙ writes) in
              fits.own slot had.0 (m.held ∙ had.1) had.2
          | inr other ↦ fits.own i s (sym (others_stay i other) ∙ there) (ap (λ (k : Manager). is_single_writer k s) (sym m.manager) ∙ writes)
        ]);
  }
    where
      here : (seats : Seats) (k : ℕ) (x : Seat) → k < length seats → seat_in (set seats k (Some x)) k ≡ Some x
      here [] k x within = absurd (omega (arith, within))
      here (o ∷ os) zero x within = refl
      here (o ∷ os) (suc k) x within = here os k x (omega (arith, within))

      none_now : EachSeat (λ k s. is_single_writer after.manager s ≡ false) after.registry.seats → (i : ℕ) (x : Seat) → i ≡ slot → now ≡ Some x → is_single_writer before.manager x ≡ false
      none_now none i x same is =
          ap (λ (k : Manager). is_single_writer k x) (sym m.manager)
          ∙ none slot x (ap (λ (seats : Seats). seat_in seats slot) m.seats ∙ ap (λ (o : Option Seat). seat_in (set before.registry.seats slot o) slot) is ∙ here before.registry.seats slot x m.within)

  rooms_stay : planned_in was ≤ planned_in now + MAX_OPERATIONS * length more → (schema : Schema) (cells serials : ℕ) (ids : List ℕ) → HaveRooms schema cells serials ids before →
      ((s : Seat) → now ≡ Some s → IsFurnished schema before.manager cells s) →
      ((s : Seat) → was ≡ Some s → ((x : Seat) → now ≡ Some x → is_single_writer before.manager x ≡ false) → is_single_writer before.manager s ≡ false) →
      ((x : Seat) → now ≡ Some x → is_single_writer before.manager x ≡ true → (s : Seat) × (was ≡ Some s) × (is_single_writer before.manager s ≡ true)) → HaveRooms schema cells serials ids after
  rooms_stay few schema cells serials ids rooms own quiet still = record {
    furnished = furnished_stay schema cells rooms.furnished own;
    spare = spare_stays cells quiet still rooms.spare;
    fewer = fewer_stay serials ids few rooms.fewer;
  }

-- a record is the single writer's as its transaction may write
pub by_transaction : (m : Manager) (a b : Seat) → a.transaction ≡ b.transaction → is_single_writer m a ≡ is_single_writer m b
by_transaction manager.Mursiw a b same = ap (λ (o : Option Transaction). option_map_or (λ t. may_write t.kind) o false) same
by_transaction manager.Mvcc a b same = refl

pub none_open : (m : Manager) (s : Seat) → s.transaction ≡ None → is_single_writer m s ≡ false
none_open manager.Mursiw s none = ap (λ (o : Option Transaction). option_map_or (λ t. may_write t.kind) o false) none
none_open manager.Mvcc s none = refl

by_mark : (m : Manager) (number : ℕ) (s : Seat) → is_single_writer m (becomes_marked number s) ≡ is_single_writer m s
by_mark manager.Mvcc number s = refl
by_mark manager.Mursiw number s = go s.transaction
  where
    go : (o : Option Transaction) → option_map_or (λ t. may_write t.kind) (option_map (marked number) o) false ≡ option_map_or (λ t. may_write t.kind) o false
    go None = refl
    go (Some t) = refl

puts_in : (work : Option Work) → is_some (option_and_then (λ w. w.puts) work) ≡ true → is_some work ≡ true
puts_in None e = e
puts_in (Some w) e = refl

fewer_puts : (n : ℕ) (a b : Bool) → (a ≡ true → b ≡ true) → n + cond b 1 0 ≤ MAX_OPERATIONS → n + cond a 1 0 ≤ MAX_OPERATIONS
fewer_puts n true true follows had = had
fewer_puts n true false follows had = absurd (false≢true (follows refl))
fewer_puts n false true follows had = omega (arith, had)
fewer_puts n false false follows had = had

-- a record plans no more than a transaction may
pub planned_few : (schema : Schema) (m : Manager) (cells : ℕ) (s : Seat) → IsFurnished schema m cells s → planned_by s ≤ MAX_OPERATIONS
planned_few schema m cells s furnished = go (not (is_unmarked s)) (is_some s.condemned) (is_rolling_back s.hand.phase)
  where
    so_far : planned_so_far s ≤ MAX_OPERATIONS
    so_far = fewer_puts (length s.hand.done.items) (is_some (option_and_then (λ w. w.puts) s.hand.work)) (is_some s.hand.work) (puts_in s.hand.work) furnished.few

    go : (a b c : Bool) → cond a 0 (cond (b || c) MAX_OPERATIONS (planned_so_far s)) ≤ MAX_OPERATIONS
    go true b c = omega arith
    go false true c = omega arith
    go false false true = omega arith
    go false false false = so_far

-- a record with the same rooms and nothing in work
workless : (schema : Schema) (m : Manager) (cells : ℕ) (seat now : Seat) → IsFurnished schema m cells seat → now.hand.plan.room ≡ seat.hand.plan.room → now.hand.undo.room ≡ seat.hand.undo.room →
    is_single_writer m now ≡ is_single_writer m seat → now.hand.work ≡ None → now.hand.done.items ≡ seat.hand.done.items → IsFurnished schema m cells now
workless schema m cells seat now f plan undo same none done = record {
  plan = plan ∙ f.plan;
  undo = λ quiet. subst (λ (r : ℕ). undo_places ≤ r) (sym undo) (f.undo (sym same ∙ quiet));
  single = λ writes. subst (λ (r : ℕ). cells ≤ r) (sym undo) (f.single (sym same ∙ writes));
  work = λ work is. absurd (let no : None ≡ Some work = sym none ∙ is in cc);
  done = λ some. absurd (false≢true (ap is_some (sym none) ∙ some));
  own = λ some. absurd (false≢true (ap is_some (sym none) ∙ some));
  few =
      let stays : length now.hand.done.items ≡ length seat.hand.done.items = ap length done in
      let nothing : ◌≡◌ {A = ℕ} (cond (is_some now.hand.work) 1 0) 0 = ap (λ (o : Option Work). cond (is_some o) 1 0) none in
      let had = f.few in
      omega (arith, stays, nothing, had);
}

pub moves_slot : (before after : Transactions) (c : ConnId) (seat : Seat) (change : Seat → Seat) (more : List Entry) → Moves before after c change more → KeepsSpare before after → seat_of before.registry.seats c ≡ Some seat →
    MovesSlot before after c.slot (Some seat) (Some (change seat)) more
moves_slot before after c seat change more moves spare held =
    let at = in_its_slot before.registry.seats c seat held in
    record {
      manager = moves.manager;
      within = within_of before.registry.seats c.slot seat at;
      held = at;
      seats = ap (λ (r : Roll). r.seats) moves.registry ∙ ap (λ (o : Option Seat). set before.registry.seats c.slot (option_map change o)) at;
      spent = ap (λ (r : Roll). r.spent) moves.registry;
      entries = moves.entries;
      spare = spare;
    }

-- of a record that is the single writer's exactly if it was
module _ (before after : Transactions) (slot : ℕ) (seat now : Seat) (more : List Entry) (m : MovesSlot before after slot (Some seat) (Some now) more) (same : is_single_writer before.manager now ≡ is_single_writer before.manager seat) where
  pub same_rooms : planned_by seat ≤ planned_by now + MAX_OPERATIONS * length more → (schema : Schema) (cells serials : ℕ) (ids : List ℕ) → HaveRooms schema cells serials ids before → IsFurnished schema before.manager cells now →
      HaveRooms schema cells serials ids after
  same_rooms few schema cells serials ids rooms furnished =
      rooms_stay before after slot (Some seat) (Some now) more m few schema cells serials ids rooms
      (of_one (λ (s : Seat). IsFurnished schema before.manager cells s) now furnished)
      (of_one (λ (s : Seat). ((x : Seat) → Some now ≡ Some x → is_single_writer before.manager x ≡ false) → is_single_writer before.manager s ≡ false) seat (λ none. sym same ∙ none now refl))
      (of_one (λ (x : Seat). is_single_writer before.manager x ≡ true → (s : Seat) × (Some seat ≡ Some s) × (is_single_writer before.manager s ≡ true)) now (λ writes. (seat, refl, sym same ∙ writes)))

one_more : (n q : ℕ) → n ≤ MAX_OPERATIONS → n ≤ q + MAX_OPERATIONS * 1
one_more n q few = let once = mul-one MAX_OPERATIONS in omega (arith, few, once)

-- a connection comes
pub comes_rooms : (before after : Transactions) (c : ConnId) → Comes before after c → KeepRooms before after
comes_rooms before after c comes schema cells serials ids rooms =
    rooms_stay before after c.slot None (Some seat) [] m (omega arith) schema cells serials ids rooms
    (of_one (λ (s : Seat). IsFurnished schema before.manager cells s) seat (record {
      plan = new.hand.plan;
      undo = λ quiet. new.hand.undo;
      single = λ writes. absurd (false≢true (sym quiet_now ∙ writes));
      work = λ work is. absurd (let no : None ≡ Some work = sym new.hand.clear.work ∙ is in cc);
      done = λ some. absurd (false≢true (ap is_some (sym new.hand.clear.work) ∙ some));
      own = λ some. absurd (false≢true (ap is_some (sym new.hand.clear.work) ∙ some));
      few =
          let none : length seat.hand.done.items ≡ 0 = ap length new.hand.clear.done in
          let nothing : ◌≡◌ {A = ℕ} (cond (is_some seat.hand.work) 1 0) 0 = ap (λ (o : Option Work). cond (is_some o) 1 0) new.hand.clear.work in
          omega (arith, none, nothing);
    }))
    (of_none (λ (s : Seat). ((x : Seat) → Some seat ≡ Some x → is_single_writer before.manager x ≡ false) → is_single_writer before.manager s ≡ false))
    (of_one (λ (x : Seat). is_single_writer before.manager x ≡ true → (s : Seat) × (None ≡ Some s) × (is_single_writer before.manager s ≡ true)) seat (λ writes. absurd (false≢true (sym quiet_now ∙ writes))))
  where
    seat : Seat
    seat = comes.registry.seat.0

    new : IsNew c comes.registry.seat.0
    new = comes.registry.seat.1

    quiet_now : is_single_writer before.manager comes.registry.seat.0 ≡ false
    quiet_now = none_open before.manager comes.registry.seat.0 new.transaction

    none_is : (o : Option Seat) → is_none o ≡ true → o ≡ None
    none_is None e = refl
    none_is (Some s) e = absurd (false≢true e)

    m : MovesSlot before after c.slot None (Some comes.registry.seat.0) []
    m =
        let facts = position-Some is_none before.registry.seats c.slot None comes.registry.slot in
        record {
          manager = comes.manager;
          within = facts.0;
          held = sym (get_is before.registry.seats c.slot facts.0) ∙ none_is (get_or before.registry.seats c.slot None) facts.1;
          seats = ap (λ (r : Roll). r.seats) comes.registry.seat.2;
          spent = ap (λ (r : Roll). r.spent) comes.registry.seat.2;
          entries = comes.entries ∙ sym (append-nil before.journal.entries);
          spare = comes.spare;
        }

-- a connection closes
pub closes_rooms : (before after : Transactions) (c : ConnId) (entry : Entry) (seat : Seat) → Leaves before after c entry → KeepsSpare before after → seat_of before.registry.seats c ≡ Some seat → seat.transaction ≡ None → KeepRooms before after
closes_rooms before after c entry seat leaves spare held none schema cells serials ids rooms =
    let at = in_its_slot before.registry.seats c seat held in
    let m : MovesSlot before after c.slot (Some seat) None (entry ∷ []) = record {
      manager = leaves.manager;
      within = within_of before.registry.seats c.slot seat at;
      held = at;
      seats = ap (λ (r : Roll). r.seats) leaves.registry;
      spent = ap (λ (r : Roll). r.spent) leaves.registry;
      entries = leaves.entries;
      spare = spare;
    } in
    rooms_stay before after c.slot (Some seat) None (entry ∷ []) m
    (one_more (planned_by seat) 0 (planned_few schema before.manager cells seat (rooms.furnished c.slot seat at))) schema cells serials ids rooms
    (of_none (λ (s : Seat). IsFurnished schema before.manager cells s))
    (of_one (λ (s : Seat). ((x : Seat) → None ≡ Some x → is_single_writer before.manager x ≡ false) → is_single_writer before.manager s ≡ false) seat (λ all. none_open before.manager seat none))
    (of_none (λ (x : Seat). is_single_writer before.manager x ≡ true → (s : Seat) × (Some seat ≡ Some s) × (is_single_writer before.manager s ≡ true)))

-- a mark
pub marks_rooms : (before after : Transactions) (c : ConnId) (seat : Seat) (number : ℕ) (entry : Entry) → Moves before after c (becomes_marked number) (entry ∷ []) → KeepsSpare before after →
    seat_of before.registry.seats c ≡ Some seat → seat.hand.work ≡ None → KeepRooms before after
marks_rooms before after c seat number entry moves spare held none schema cells serials ids rooms =
    let f = rooms.furnished c.slot seat (in_its_slot before.registry.seats c seat held) in
    same_rooms before after c.slot seat (becomes_marked number seat) (entry ∷ []) (moves_slot before after c seat (becomes_marked number) (entry ∷ []) moves spare held) (by_mark before.manager number seat)
    (one_more (planned_by seat) (planned_by (becomes_marked number seat)) (planned_few schema before.manager cells seat f)) schema cells serials ids rooms
    (workless schema before.manager cells seat (becomes_marked number seat) f refl refl (by_mark before.manager number seat) none refl)

-- a condemnation, and a roll-back: as many are counted as a transaction may have
all_counted : (a b c : Bool) (x n : ℕ) → cond a 0 (cond (b || c) n x) ≤ n → cond a 0 (cond (b || c) n x) ≤ cond a 0 n
all_counted true b c x n few = omega arith
all_counted false b c x n few = few

pub condemned_rooms : (before after : Transactions) (d by : ConnId) (seat : Seat) → Condemns before after d by → seat_of before.registry.seats d ≡ Some seat → KeepRooms before after
condemned_rooms before after d by seat condemns held schema cells serials ids rooms =
    let at = in_its_slot before.registry.seats d seat held in
    let f = rooms.furnished d.slot seat at in
    let condemned : Condemned = record { by = by; at = length before.journal.entries } in
    let m : MovesSlot before after d.slot (Some seat) (Some (with_condemned condemned seat)) [] = record {
      manager = condemns.manager;
      within = within_of before.registry.seats d.slot seat at;
      held = at;
      seats = ap (λ (r : Roll). r.seats) condemns.registry ∙ ap (λ (o : Option Seat). set before.registry.seats d.slot (option_map (with_condemned condemned) o)) at;
      spent = ap (λ (r : Roll). r.spent) condemns.registry;
      entries = ap (λ j. j.entries) condemns.journal ∙ sym (append-nil before.journal.entries);
      spare = condemns.spare;
    } in
    same_rooms before after d.slot seat (with_condemned condemned seat) [] m (by_transaction before.manager (with_condemned condemned seat) seat refl)
    (let counted = all_counted (not (is_unmarked seat)) (is_some seat.condemned) (is_rolling_back seat.hand.phase) (planned_so_far seat) MAX_OPERATIONS (planned_few schema before.manager cells seat f) in omega (arith, counted))
    schema cells serials ids rooms
    (record {
      plan = f.plan;
      undo = λ quiet. f.undo (sym (by_transaction before.manager (with_condemned condemned seat) seat refl) ∙ quiet);
      single = λ writes. f.single (sym (by_transaction before.manager (with_condemned condemned seat) seat refl) ∙ writes);
      work = f.work;
      done = f.done;
      own = f.own;
      few = f.few;
    })

-- a roll-back begins
back_transaction : (m : Manager) (cause : Cause) (s : Seat) → (rolls_back m cause s).transaction ≡ s.transaction
back_transaction manager.Mvcc cause s = refl
back_transaction manager.Mursiw cause s = refl

back_counted : (a b c : Bool) (x y n : ℕ) → cond a 0 (cond (b || c) n x) ≤ n → cond a 0 (cond (b || c) n x) ≤ cond a 0 (cond (b || true) n y)
back_counted true b c x y n few = omega arith
back_counted false true c x y n few = few
back_counted false false c x y n few = few

back_planned : (m : Manager) (cause : Cause) (s : Seat) → planned_by s ≤ MAX_OPERATIONS → planned_by s ≤ planned_by (rolls_back m cause s)
back_planned manager.Mvcc cause s few =
    back_counted (not (is_unmarked s)) (is_some s.condemned) (is_rolling_back s.hand.phase) (planned_so_far s) (planned_so_far (rolls_back manager.Mvcc cause s)) MAX_OPERATIONS few
back_planned manager.Mursiw cause s few =
    back_counted (not (is_unmarked s)) (is_some s.condemned) (is_rolling_back s.hand.phase) (planned_so_far s) (planned_so_far (rolls_back manager.Mursiw cause s)) MAX_OPERATIONS few

back_furnished : (schema : Schema) (m : Manager) (cells : ℕ) (cause : Cause) (s : Seat) → IsFurnished schema m cells s → IsFurnished schema m cells (rolls_back m cause s)
back_furnished schema manager.Mvcc cells cause s f = workless schema manager.Mvcc cells s (rolls_back manager.Mvcc cause s) f refl refl refl refl refl
back_furnished schema manager.Mursiw cells cause s f = workless schema manager.Mursiw cells s (rolls_back manager.Mursiw cause s) f refl refl refl refl refl

pub back_rooms : (before after : Transactions) (c : ConnId) (seat : Seat) (cause : Cause) → Moves before after c (rolls_back before.manager cause) [] → KeepsSpare before after → seat_of before.registry.seats c ≡ Some seat → KeepRooms before after
back_rooms before after c seat cause moves spare held schema cells serials ids rooms =
    let f = rooms.furnished c.slot seat (in_its_slot before.registry.seats c seat held) in
    same_rooms before after c.slot seat (rolls_back before.manager cause seat) [] (moves_slot before after c seat (rolls_back before.manager cause) [] moves spare held)
    (by_transaction before.manager (rolls_back before.manager cause seat) seat (back_transaction before.manager cause seat))
    (let counted = back_planned before.manager cause seat (planned_few schema before.manager cells seat f) in omega (arith, counted))
    schema cells serials ids rooms (back_furnished schema before.manager cells cause seat f)

-- a story grows, or a watch changes
pub told_counted : (a b c : Bool) (x y n : ℕ) → x ≤ y → cond a 0 (cond (b || c) n x) ≤ cond a 0 (cond (b || c) n y)
told_counted true b c x y n grows = omega arith
told_counted false true c x y n grows = omega arith
told_counted false false true x y n grows = omega arith
told_counted false false false x y n grows = grows

told_planned : (seat now : Seat) → length seat.hand.done.items ≤ length now.hand.done.items → planned_by seat ≤ planned_by (told seat now)
told_planned seat now grows =
    told_counted (not (is_unmarked seat)) (is_some seat.condemned) (is_rolling_back seat.hand.phase) (planned_so_far seat) (planned_so_far (told seat now)) MAX_OPERATIONS
    (omega (arith, grows))

pub told_rooms : (before after : Transactions) (c : ConnId) (seat : Seat) (change : Seat → Seat) → Moves before after c change [] → KeepsSpare before after → seat_of before.registry.seats c ≡ Some seat → TellsAlone seat (change seat) →
    TellsFew seat (change seat) → KeepRooms before after
told_rooms before after c seat change moves spare held tells small schema cells serials ids rooms =
    let f = rooms.furnished c.slot seat (in_its_slot before.registry.seats c seat held) in
    let same = by_transaction before.manager (told seat (change seat)) seat refl in
    let counted = told_planned seat (change seat) small.grows in
    same_rooms before after c.slot seat (told seat (change seat)) []
    (subst (λ (x : Seat). MovesSlot before after c.slot (Some seat) (Some x) []) tells.rest (moves_slot before after c seat change [] moves spare held))
    same (omega (arith, counted)) schema cells serials ids rooms
    (record {
      plan = f.plan;
      undo = λ quiet. f.undo (sym same ∙ quiet);
      single = λ writes. f.single (sym same ∙ writes);
      work = f.work;
      done = small.room;
      own = f.own;
      few = subst (λ (x : Seat). operations_of x ≤ MAX_OPERATIONS) tells.rest small.few;
    })
