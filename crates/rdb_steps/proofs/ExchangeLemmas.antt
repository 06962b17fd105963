-- The room that records have, as a transaction begins or ends: the single writer's undo record is lent to it, and given back.
use Rattle.std.proofs.Common.{◌≡◌, ◌≢◌, ◌<◌, ◌≤◌, ◌+◌, ◌*◌, ◌++◌, ◌∷◌, ◌||◌, ℕ, zero, suc, List, [], length, set, Bool, true, false, not, cond, Option, Some, None, is_some, is_none, option_map, option_and_then, append-nil, refl, sym, ap, subst, ◌∙◌, arith, mul-one, inl, inr}
use Rattle.std.proofs.Math.Nat.{mul-le-mul_left}
use Rattle.std.proofs.lemmas.Bool.{false≢true}
use Rattle.std.proofs.Permutation.{which}
use Rattle.std.specs.Option.{option_map_or}
use Rattle.rdb_base.specs.declared.identity.ConnId.{ConnId}
use Rattle.rdb_base.specs.declared.identity.Kind.{Kind}
use Rattle.rdb_base.specs.declared.identity.Kind.TheVariants as kind
use Rattle.rdb_base.specs.declared.identity.Manager.{Manager}
use Rattle.rdb_base.specs.declared.identity.Manager.TheVariants as manager
use Rattle.rdb_base.specs.declared.journal.Entry.{Entry}
use Rattle.rdb_base.specs.declared.limits.TheConstants.{MAX_OPERATIONS}
use Rattle.rdb_schema.specs.declared.schema.Schema.{Schema}
use Rattle.rdb_cells.specs.Records.{Record}
use Rattle.rdb_model.specs.Journal.{commits}
use Rattle.rdb_registry.specs.declared.hand.Work.{Work}
use Rattle.rdb_registry.specs.declared.seat.Seat.{Seat}
use Rattle.rdb_registry.specs.declared.seat.Transaction.{Transaction}
use Rattle.rdb_registry.specs.Hands.{undo_places}
use Rattle.rdb_registry.specs.Registry.{Roll}
use Rattle.rdb_registry.specs.Seats.{Seats, EachSeat, may_write, seat_in, seat_of}
use Rattle.rdb_registry.proofs.SlotLemmas.{seat_in_other}
use Rattle.rdb_transactions.specs.declared.transactions.Transactions.{Transactions}
use Rattle.rdb_transactions.specs.Claims.{is_unmarked}
use Rattle.rdb_transactions.specs.Hands.{with_undo}
use Rattle.rdb_transactions.specs.Moves.{Moves, ExchangesSpare, Leaves, begins, opens, ends}
use Rattle.rdb_transactions.specs.Records.{closed, exchanged, is_single_writer, latched, on_hand, opened, spare_left}
use Rattle.rdb_writes.proofs.WorkLemmas.{in_its_slot}
use Rattle.rdb_writes.specs.Steps.{spans_one_plan}
use Rattle.rdb_steps.specs.Kept.{is_rolling_back}
use Rattle.rdb_steps.specs.Moves.{MayBegin}
use Rattle.rdb_steps.specs.Phases.{IsIdle}
use Rattle.rdb_steps.specs.Rooms.{HaveRooms, KeepRooms, IsOnlyWriter, KeepsFurniture}
use Rattle.rdb_steps.specs.States.{IsFurnished, SpareFits, planned_by, planned_so_far}
use Rattle.rdb_steps.proofs.MoveLemmas.{of_one, of_none}
use Rattle.rdb_steps.proofs.RoomLemmas.{MovesSlot, by_transaction, fewer_stay, furnished_stay, none_open, planned_few, spare_stays, within_of}

-- the same with the spare undo record that was before
abbrev as_before : Transactions → Transactions → Transactions
as_before before after = record after { spare_undo = before.spare_undo }

-- what stands in a slot is another record, or none, and the spare undo record that is there now fits
exchange_rooms : (before after : Transactions) (slot : ℕ) (was now : Option Seat) (more : List Entry) → MovesSlot before (as_before before after) slot was now more →
    option_map_or planned_by was 0 ≤ option_map_or planned_by now 0 + MAX_OPERATIONS * length more → (schema : Schema) (cells serials : ℕ) (ids : List ℕ) → HaveRooms schema cells serials ids before →
    ((s : Seat) → now ≡ Some s → IsFurnished schema before.manager cells s) → SpareFits cells after → HaveRooms schema cells serials ids after
exchange_rooms before after slot was now more m few schema cells serials ids rooms own fits =
    let counted = fewer_stay before (as_before before after) slot was now more m serials ids few rooms.fewer in
    record {
      furnished = furnished_stay before (as_before before after) slot was now more m schema cells rooms.furnished own;
      spare = fits;
      fewer = record { serials = counted.serials; ids = counted.ids; spent = counted.spent };
    }

-- with the spare undo record that was before, it fits as it did
same_spare : (cells : ℕ) (before after : Transactions) → after.spare_undo ≡ before.spare_undo → SpareFits cells (as_before before after) → SpareFits cells after
same_spare cells before after same fits = record {
  spare = λ single none. subst (λ (r : ℕ). cells ≤ r) (sym (ap (λ u. u.room) same)) (fits.spare single none);
  own = λ i s there writes. subst (λ (r : ℕ). undo_places ≤ r) (sym (ap (λ u. u.room) same)) (fits.own i s there writes);
}

-- where many may write none is lent
none_lent : (cells : ℕ) (after : Transactions) → after.manager ≡ manager.Mvcc → SpareFits cells after
none_lent cells after many = record {
  spare = λ single none. absurd (false≢true (sym single ∙ ap spans_one_plan many));
  own = λ i s there writes. absurd (false≢true (sym (ap (λ (k : Manager). is_single_writer k s) many) ∙ writes));
}

here : (seats : Seats) (k : ℕ) (x : Seat) → k < length seats → seat_in (set seats k (Some x)) k ≡ Some x
here [] k x within = absurd (omega (arith, within))
here (o ∷ os) zero x within = refl
here (o ∷ os) (suc k) x within = here os k x (omega (arith, within))

there : (seats : Seats) (k : ℕ) (x : Option Seat) (s : Seat) → seat_in (set seats k x) k ≡ Some s → x ≡ Some s
there [] k x s e = absurd (let no : None ≡ Some s = e in cc)
there (o ∷ os) zero x s e = e
there (o ∷ os) (suc k) x s e = there os k x s e

-- a single writer has an open transaction that may write
pub writer_of : (s : Seat) → is_single_writer manager.Mursiw s ≡ true → (t : Transaction) × (s.transaction ≡ Some t) × (may_write t.kind ≡ true)
writer_of s writes = go s.transaction refl
  where
    go : (o : Option Transaction) → s.transaction ≡ o → (t : Transaction) × (s.transaction ≡ Some t) × (may_write t.kind ≡ true)
    go None e = absurd (false≢true (sym (ap (λ (o : Option Transaction). option_map_or (λ t. may_write t.kind) o false) e) ∙ writes))
    go (Some t) e = (t, e, sym (ap (λ (o : Option Transaction). option_map_or (λ t. may_write t.kind) o false) e) ∙ writes)

-- what stands in a slot afterwards
module _ (before after : Transactions) (slot : ℕ) (was now : Option Seat) (more : List Entry) (m : MovesSlot before (as_before before after) slot was now more) where
  others : (i : ℕ) → i ≢ slot → seat_in after.registry.seats i ≡ seat_in before.registry.seats i
  others i other = ap (λ (seats : Seats). seat_in seats i) m.seats ∙ seat_in_other before.registry.seats slot i now other

  stands : (i : ℕ) (s : Seat) → i ≡ slot → seat_in after.registry.seats i ≡ Some s → now ≡ Some s
  stands i s same is =
      there before.registry.seats slot now s (sym (ap (λ (seats : Seats). seat_in seats slot) m.seats) ∙ sym (ap (seat_in after.registry.seats) same) ∙ is)

-- A transaction begins.
abbrev begun_seat : Manager → Record → ℕ → Kind → ℕ → ℕ → Seat → Seat
begun_seat m spare classes wanted begun snapshot seat = exchanged m spare (latched m classes (opened wanted begun snapshot seat))

furnished_begun : (schema : Schema) (m : Manager) (cells classes : ℕ) (spare : Record) (wanted : Kind) (begun snapshot : ℕ) (seat : Seat) → IsFurnished schema m cells seat → IsIdle seat →
    (spans_one_plan m ≡ false → wanted ≡ kind.ReadWrite → cells ≤ spare.room) → IsFurnished schema m cells (exchanged m spare (latched m classes (opened wanted begun snapshot seat)))
furnished_begun schema manager.Mvcc cells classes spare wanted begun snapshot seat f idle lends = record {
  plan = f.plan;
  undo = λ quiet. f.undo refl;
  single = λ writes. absurd (false≢true writes);
  work = f.work;
  done = f.done;
  own = f.own;
  few = f.few;
}
furnished_begun schema manager.Mursiw cells classes spare kind.ReadOnly begun snapshot seat f idle lends = record {
  plan = f.plan;
  undo = λ quiet. f.undo (none_open manager.Mursiw seat idle.transaction);
  single = λ writes. absurd (false≢true writes);
  work = f.work;
  done = f.done;
  own = f.own;
  few = f.few;
}
furnished_begun schema manager.Mursiw cells classes spare kind.ReadWrite begun snapshot seat f idle lends = record {
  plan = f.plan;
  undo = λ quiet. absurd (false≢true (sym quiet));
  single = λ writes. lends refl refl;
  work = f.work;
  done = f.done;
  own = f.own;
  few = f.few;
}

fits_begun : (m : Manager) (wanted : Kind) (schema : Schema) (cells classes begun snapshot : ℕ) (before after : Transactions) (slot : ℕ) (seat : Seat) → before.manager ≡ m → after.manager ≡ m →
    after.spare_undo ≡ spare_left m before.spare_undo (latched m classes (opened wanted begun snapshot seat)) →
    MovesSlot before (as_before before after) slot (Some seat) (Some (exchanged m before.spare_undo (latched m classes (opened wanted begun snapshot seat)))) [] → IsIdle seat → IsFurnished schema m cells seat →
    MayBegin m before.registry.seats slot wanted → SpareFits cells before → SpareFits cells after
fits_begun manager.Mvcc wanted schema cells classes begun snapshot before after slot seat is is_now lends m idle f may fits = none_lent cells after is_now
fits_begun manager.Mursiw kind.ReadOnly schema cells classes begun snapshot before after slot seat is is_now lends m idle f may fits =
    same_spare cells before after lends (spare_stays before (as_before before after) slot (Some seat) (Some (opened kind.ReadOnly begun snapshot seat)) [] m cells
    (of_one (λ (s : Seat). ((x : Seat) → Some (opened kind.ReadOnly begun snapshot seat) ≡ Some x → is_single_writer before.manager x ≡ false) → is_single_writer before.manager s ≡ false) seat
    (λ all. none_open before.manager seat idle.transaction))
    (of_one (λ (x : Seat). is_single_writer before.manager x ≡ true → (s : Seat) × (Some seat ≡ Some s) × (is_single_writer before.manager s ≡ true)) (opened kind.ReadOnly begun snapshot seat)
    (λ writes. absurd (false≢true (sym (ap (λ (k : Manager). is_single_writer k (opened kind.ReadOnly begun snapshot seat)) is) ∙ writes))))
    fits)
fits_begun manager.Mursiw kind.ReadWrite schema cells classes begun snapshot before after slot seat is is_now lends m idle f may fits = record {
  spare = λ single none.
      let now = begun_seat manager.Mursiw before.spare_undo classes kind.ReadWrite begun snapshot seat in
      absurd (false≢true (sym (none slot now (ap (λ (seats : Seats). seat_in seats slot) m.seats ∙ here before.registry.seats slot now m.within)) ∙ ap (λ (k : Manager). is_single_writer k now) is_now));
  own = λ i s held writes. elim (which i slot) [
    | inl same ↦ subst (λ (r : ℕ). undo_places ≤ r) (sym (ap (λ u. u.room) lends)) (f.undo (none_open manager.Mursiw seat idle.transaction))
    | inr other ↦
        let open_one = writer_of s (sym (ap (λ (k : Manager). is_single_writer k s) is_now) ∙ writes) in
        let alone = may refl i s open_one.0 other
        (sym (others before after slot (Some seat) (Some (begun_seat manager.Mursiw before.spare_undo classes kind.ReadWrite begun snapshot seat)) [] m i other) ∙ held) open_one.1 in
        absurd (let no : kind.ReadWrite ≡ kind.ReadOnly = alone.0 in cc)
  ];
}

unmarked_none : (seat : Seat) → is_unmarked seat ≡ false → planned_by seat ≡ 0
unmarked_none seat marked = ap (λ (b : Bool). cond (not b) 0 (planned_else seat)) marked
  where
    planned_else : Seat → ℕ
    planned_else s = cond (is_some s.condemned || is_rolling_back s.hand.phase) MAX_OPERATIONS (planned_so_far s)

none_planned : (s : Seat) → s.transaction ≡ None → planned_by s ≡ 0
none_planned s none = unmarked_none s (ap (λ (o : Option Transaction). option_map_or (λ t. is_none t.mark) o false) none)

pub begins_rooms : (before after : Transactions) (c : ConnId) (seat : Seat) (wanted : Kind) → Moves before after c (begins before wanted) [] → ExchangesSpare before after c (opens before wanted) →
    seat_of before.registry.seats c ≡ Some seat → IsIdle seat → MayBegin before.manager before.registry.seats c.slot wanted → KeepRooms before after
begins_rooms before after c seat wanted moves lends held idle may schema cells serials ids rooms =
    exchange_rooms before after c.slot (Some seat) (Some (begins before wanted seat)) [] m (omega (arith, nothing)) schema cells serials ids rooms
    (of_one (λ (s : Seat). IsFurnished schema before.manager cells s) (begins before wanted seat)
    (furnished_begun schema before.manager cells before.registry.classes before.spare_undo wanted (length before.journal.entries) (commits before.journal.entries) seat f idle lent))
    (fits_begun before.manager wanted schema cells before.registry.classes (length before.journal.entries) (commits before.journal.entries) before after c.slot seat refl moves.manager (lends seat held) m idle f may rooms.spare)
  where
    at : seat_in before.registry.seats c.slot ≡ Some seat
    at = in_its_slot before.registry.seats c seat held

    f : IsFurnished schema before.manager cells seat
    f = rooms.furnished c.slot seat at

    nothing : planned_by seat ≡ 0
    nothing = none_planned seat idle.transaction

    m : MovesSlot before (as_before before after) c.slot (Some seat) (Some (begins before wanted seat)) []
    m = record {
      manager = moves.manager;
      within = within_of before.registry.seats c.slot seat at;
      held = at;
      seats = ap (λ (r : Roll). r.seats) moves.registry ∙ ap (λ (o : Option Seat). set before.registry.seats c.slot (option_map (begins before wanted) o)) at;
      spent = ap (λ (r : Roll). r.spent) moves.registry;
      entries = moves.entries;
      spare = refl;
    }

    -- nobody else has the spare undo record where a writer begins
    lent : spans_one_plan before.manager ≡ false → wanted ≡ kind.ReadWrite → cells ≤ before.spare_undo.room
    lent single writer = rooms.spare.spare single (λ i s is. quiet before.manager refl i s is)
      where
        quiet : (k : Manager) → before.manager ≡ k → (i : ℕ) (s : Seat) → seat_in before.registry.seats i ≡ Some s → is_single_writer k s ≡ false
        quiet manager.Mvcc e i s is = refl
        quiet manager.Mursiw e i s is = elim (which i c.slot) [
          | inl same ↦
              none_open manager.Mursiw s (of_one (λ (x : Seat). x.transaction ≡ None) seat idle.transaction s (sym at ∙ sym (ap (seat_in before.registry.seats) same) ∙ is))
          | inr other ↦ alone s i is other (is_single_writer manager.Mursiw s) refl
        ]
          where
            alone : (s : Seat) (i : ℕ) → seat_in before.registry.seats i ≡ Some s → i ≢ c.slot → (b : Bool) → is_single_writer manager.Mursiw s ≡ b → is_single_writer manager.Mursiw s ≡ false
            alone s i is other false none = none
            alone s i is other true writes =
                let open_one = writer_of s writes in
                let only = may single i s open_one.0 other is open_one.1 in
                absurd (let no : kind.ReadWrite ≡ kind.ReadOnly = sym writer ∙ only.0 in cc)

-- A transaction ends, whose record may first become another.
shorten : (n : ℕ) (b : Bool) → n + cond b 1 0 ≤ MAX_OPERATIONS → n ≤ MAX_OPERATIONS
shorten n true had = omega (arith, had)
shorten n false had = omega (arith, had)

few_without : (n most : ℕ) (work : Option Work) → work ≡ None → n ≤ most → most ≤ MAX_OPERATIONS → n + cond (is_some work) 1 0 ≤ MAX_OPERATIONS
few_without n most None e fewer few = omega (arith, fewer, few)
few_without n most (Some work) e fewer few = absurd (let no : Some work ≡ None = e in cc)

furnished_ended : (schema : Schema) (m : Manager) (cells : ℕ) (spare : Record) (seat last : Seat) → IsFurnished schema m cells seat → KeepsFurniture m seat last →
    (is_single_writer m seat ≡ true → undo_places ≤ spare.room) → IsFurnished schema m cells (closed (exchanged m spare last))
furnished_ended schema m cells spare seat last f keeps own_back = go (is_single_writer m last) refl
  where
    few : length last.hand.done.items + cond (is_some last.hand.work) 1 0 ≤ MAX_OPERATIONS
    few = few_without (length last.hand.done.items) (length seat.hand.done.items) last.hand.work keeps.work keeps.done (shorten (length seat.hand.done.items) (is_some seat.hand.work) f.few)

    go : (b : Bool) → is_single_writer m last ≡ b → IsFurnished schema m cells (closed (cond b (on_hand (with_undo spare) last) last))
    go true writes = record {
      plan = keeps.plan ∙ f.plan;
      undo = λ quiet. own_back (sym keeps.writer ∙ writes);
      single = λ again. absurd (false≢true (sym (none_open m (closed (on_hand (with_undo spare) last)) refl) ∙ again));
      work = λ work is. absurd (let no : None ≡ Some work = sym keeps.work ∙ is in cc);
      done = λ some. absurd (false≢true (ap is_some (sym keeps.work) ∙ some));
      own = λ some. absurd (false≢true (ap is_some (sym keeps.work) ∙ some));
      few = few;
    }
    go false reads = record {
      plan = keeps.plan ∙ f.plan;
      undo = λ quiet. subst (λ (r : ℕ). undo_places ≤ r) (sym keeps.undo) (f.undo (sym keeps.writer ∙ reads));
      single = λ again. absurd (false≢true (sym (none_open m (closed last) refl) ∙ again));
      work = λ work is. absurd (let no : None ≡ Some work = sym keeps.work ∙ is in cc);
      done = λ some. absurd (false≢true (ap is_some (sym keeps.work) ∙ some));
      own = λ some. absurd (false≢true (ap is_some (sym keeps.work) ∙ some));
      few = few;
    }

-- the undo record that is spare once the single writer's is given back
fits_ended : (m : Manager) (schema : Schema) (cells : ℕ) (before after : Transactions) (slot : ℕ) (seat last : Seat) (now : Option Seat) (more : List Entry) → before.manager ≡ m → after.manager ≡ m →
    after.spare_undo ≡ spare_left m before.spare_undo last → MovesSlot before (as_before before after) slot (Some seat) now more → ((x : Seat) → now ≡ Some x → is_single_writer m x ≡ false) → IsFurnished schema m cells seat →
    last.hand.undo.room ≡ seat.hand.undo.room → is_single_writer m last ≡ is_single_writer m seat → IsOnlyWriter m before.registry.seats slot seat → SpareFits cells before → SpareFits cells after
fits_ended manager.Mvcc schema cells before after slot seat last now more is is_now left m none f room same only fits = none_lent cells after is_now
fits_ended manager.Mursiw schema cells before after slot seat last now more is is_now left m none f room same only fits = go (is_single_writer manager.Mursiw last) refl left
  where
    go : (b : Bool) → is_single_writer manager.Mursiw last ≡ b → after.spare_undo ≡ cond b last.hand.undo before.spare_undo → SpareFits cells after
    go true writes left = record {
      spare = λ single quiet. subst (λ (r : ℕ). cells ≤ r) (sym (ap (λ u. u.room) left ∙ room)) (f.single (sym same ∙ writes));
      own = λ i s held again. elim (which i slot) [
        | inl at ↦
            absurd (false≢true (sym (none s (stands before after slot (Some seat) now more m i s at held)) ∙ sym (ap (λ (k : Manager). is_single_writer k s) is_now) ∙ again))
        | inr other ↦
            absurd (false≢true (sym (only (sym same ∙ writes) i s other (sym (others before after slot (Some seat) now more m i other) ∙ held)) ∙ sym (ap (λ (k : Manager). is_single_writer k s) is_now) ∙ again))
      ];
    }
    go false reads left =
        same_spare cells before after left (spare_stays before (as_before before after) slot (Some seat) now more m cells
        (of_one (λ (s : Seat). ((x : Seat) → now ≡ Some x → is_single_writer before.manager x ≡ false) → is_single_writer before.manager s ≡ false) seat
        (λ all. ap (λ (k : Manager). is_single_writer k seat) is ∙ sym same ∙ reads))
        (λ x at again. absurd (false≢true (sym (none x at) ∙ sym (ap (λ (k : Manager). is_single_writer k x) is) ∙ again)))
        fits)

-- what a transaction planned is counted by the entry that comes
counted : (schema : Schema) (m : Manager) (cells : ℕ) (seat : Seat) (more : List Entry) (p : ℕ) → IsFurnished schema m cells seat → (more ≡ [] → is_unmarked seat ≡ false) → planned_by seat ≤ p + MAX_OPERATIONS * length more
counted schema m cells seat [] p f marked = let none = unmarked_none seat (marked refl) in omega (arith, none)
counted schema m cells seat (e ∷ es) p f marked =
    let few = planned_few schema m cells seat f in
    let once = mul-one MAX_OPERATIONS in
    let one : 1 ≤ length (e ∷ es) = omega arith in
    let more_room = mul-le-mul_left MAX_OPERATIONS one in
    omega (arith, few, once, more_room)

-- the undo record that a single writer kept meanwhile is its own again
own_again : (cells : ℕ) (before : Transactions) (slot : ℕ) (seat : Seat) → seat_in before.registry.seats slot ≡ Some seat → SpareFits cells before → is_single_writer before.manager seat ≡ true → undo_places ≤ before.spare_undo.room
own_again cells before slot seat at fits writes = fits.own slot seat at writes

pub ends_rooms : (before after : Transactions) (c : ConnId) (seat : Seat) (first : Seat → Seat) (more : List Entry) → Moves before after c (λ s. ends before (first s)) more → ExchangesSpare before after c first →
    seat_of before.registry.seats c ≡ Some seat → KeepsFurniture before.manager seat (first seat) → (more ≡ [] → is_unmarked seat ≡ false) → IsOnlyWriter before.manager before.registry.seats c.slot seat → KeepRooms before after
ends_rooms before after c seat first more moves left held keeps marked only schema cells serials ids rooms =
    exchange_rooms before after c.slot (Some seat) (Some (ends before (first seat))) more m (counted schema before.manager cells seat more (planned_by (ends before (first seat))) f marked) schema cells serials ids rooms
    (of_one (λ (s : Seat). IsFurnished schema before.manager cells s) (ends before (first seat))
    (furnished_ended schema before.manager cells before.spare_undo seat (first seat) f keeps (own_again cells before c.slot seat at rooms.spare)))
    (fits_ended before.manager schema cells before after c.slot seat (first seat) (Some (ends before (first seat))) more refl moves.manager (left seat held) m
    (of_one (λ (x : Seat). is_single_writer before.manager x ≡ false) (ends before (first seat)) (none_open before.manager (ends before (first seat)) refl)) f keeps.undo keeps.writer only rooms.spare)
  where
    at : seat_in before.registry.seats c.slot ≡ Some seat
    at = in_its_slot before.registry.seats c seat held

    f : IsFurnished schema before.manager cells seat
    f = rooms.furnished c.slot seat at

    m : MovesSlot before (as_before before after) c.slot (Some seat) (Some (ends before (first seat))) more
    m = record {
      manager = moves.manager;
      within = within_of before.registry.seats c.slot seat at;
      held = at;
      seats = ap (λ (r : Roll). r.seats) moves.registry ∙ ap (λ (o : Option Seat). set before.registry.seats c.slot (option_map (λ s. ends before (first s)) o)) at;
      spent = ap (λ (r : Roll). r.spent) moves.registry;
      entries = moves.entries;
      spare = refl;
    }

-- a connection of which nothing is left goes
pub leaves_rooms : (before after : Transactions) (c : ConnId) (entry : Entry) (seat : Seat) → Leaves before after c entry → ExchangesSpare before after c (λ s. s) → seat_of before.registry.seats c ≡ Some seat →
    IsOnlyWriter before.manager before.registry.seats c.slot seat → KeepRooms before after
leaves_rooms before after c entry seat leaves left held only schema cells serials ids rooms =
    exchange_rooms before after c.slot (Some seat) None (entry ∷ []) m (counted schema before.manager cells seat (entry ∷ []) 0 f (λ none. absurd (let no : entry ∷ [] ≡ [] = none in cc))) schema cells serials ids rooms
    (of_none (λ (s : Seat). IsFurnished schema before.manager cells s))
    (fits_ended before.manager schema cells before after c.slot seat seat None (entry ∷ []) refl leaves.manager (left seat held) m
    (of_none (λ (x : Seat). is_single_writer before.manager x ≡ false)) f refl refl only rooms.spare)
  where
    at : seat_in before.registry.seats c.slot ≡ Some seat
    at = in_its_slot before.registry.seats c seat held

    f : IsFurnished schema before.manager cells seat
    f = rooms.furnished c.slot seat at

    m : MovesSlot before (as_before before after) c.slot (Some seat) None (entry ∷ [])
    m = record {
      manager = leaves.manager;
      within = within_of before.registry.seats c.slot seat at;
      held = at;
      seats = ap (λ (r : Roll). r.seats) leaves.registry;
      spent = ap (λ (r : Roll). r.spent) leaves.registry;
      entries = leaves.entries;
      spare = refl;
    }
