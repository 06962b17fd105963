-- What each change of a record leaves of what its phase says.
use Rattle.std.proofs.Common.{◌≡◌, ◌+◌, ◌≤◌, ◌++◌, ℕ, Bool, true, false, cond, List, [], ◌∷◌, length, filter_map, Option, Some, None, IsSome, IsSomeAnd, is_none, is_some, refl, sym, ap, subst, ◌∙◌, ◌⊎◌, inl, inr, arith}
use Rattle.std.specs.Option.{option_map, option_map_or}
use Rattle.std.specs.List.{cons_option}
use Rattle.std.proofs.lemmas.List.Elements.{filter_map-append}
use Rattle.rdb_base.specs.declared.identity.ConnId.{ConnId}
use Rattle.rdb_base.specs.declared.identity.Kind.{Kind}
use Rattle.rdb_base.specs.declared.identity.Kind.TheVariants as kind
use Rattle.rdb_base.specs.declared.identity.Manager.{Manager}
use Rattle.rdb_base.specs.declared.identity.Manager.TheVariants as manager
use Rattle.rdb_base.specs.declared.identity.Phase.{Phase}
use Rattle.rdb_base.specs.declared.identity.Phase.TheVariants as phase
use Rattle.rdb_base.specs.declared.journal.Cause.{Cause}
use Rattle.rdb_base.specs.declared.operation.Op.{Op}
use Rattle.rdb_base.specs.declared.operation.Reply.{Reply}
use Rattle.rdb_cells.specs.Records.{Record}
use Rattle.rdb_model.specs.Touch.{written_by}
use Rattle.rdb_registry.specs.declared.hand.Subscription.{Subscription}
use Rattle.rdb_registry.specs.declared.seat.Condemned.{Condemned}
use Rattle.rdb_registry.specs.declared.seat.Seat.{Seat}
use Rattle.rdb_registry.specs.declared.seat.Transaction.{Transaction}
use Rattle.rdb_registry.specs.declared.hand.Work.{Work}
use Rattle.rdb_registry.specs.Kept.{is_live}
use Rattle.rdb_registry.specs.Seats.{with_condemned, marked, may_write, with_latches, all_latches, IsNew, Seats, seat_of, HasUnmarked}
use Rattle.rdb_registry.proofs.SlotLemmas.{one_if, some_and_of, some_of, is_some_from}
use Rattle.rdb_transactions.specs.Claims.{places_of, writes_of, writes_in, is_unmarked}
use Rattle.rdb_transactions.specs.Hands.{without_story, with_story, noted, with_undo}
use Rattle.rdb_transactions.specs.Phases.{IsUnmarked, IsIdle, IsReading, IsRunning, IsRollingBack, IsStamping, IsInPhase}
use Rattle.rdb_transactions.specs.Records.{on_hand, is_single_writer, exchanged, spare_left, latched, unlatched, opened, closed, becomes_marked, rolls_back}
use Rattle.rdb_transactions.specs.Sound.{IsOrderly}

-- what a record of a phase is in
pub in_its_phase : (n : ℕ) (seat : Seat) (p : Phase) → IsOrderly n seat → seat.hand.phase ≡ p → IsInPhase p seat
in_its_phase n seat p o is = subst (λ (q : Phase). IsInPhase q seat) is o.phase

-- a transaction that has no mark
pub unmarked_of : (seat : Seat) → IsUnmarked seat → is_unmarked seat ≡ true
unmarked_of seat h =
    let t = some_and_of (λ (t : Transaction). t.mark ≡ None) seat.transaction h in
    ap (λ (o : Option Transaction). option_map_or (λ t. is_none t.mark) o false) t.1.0 ∙ ap is_none t.1.1

-- no transaction
pub unmarked_none : (seat : Seat) → seat.transaction ≡ None → is_unmarked seat ≡ false
unmarked_none seat h = ap (λ (o : Option Transaction). option_map_or (λ t. is_none t.mark) o false) h

pub unmarked_stamping : (seat : Seat) → IsStamping seat → is_unmarked seat ≡ false
unmarked_stamping seat s =
    let t = some_and_of (λ (t : Transaction). (t.kind ≡ kind.ReadWrite) × IsSome t.mark) seat.transaction s.transaction in
    let m = some_of t.0.mark t.1.1.1 in
    ap (λ (o : Option Transaction). option_map_or (λ t. is_none t.mark) o false) t.1.0 ∙ ap is_none m.1

pub unmarked_kind : (seat : Seat) (k : Kind) → IsSomeAnd seat.transaction (λ t. (t.kind ≡ k) × (t.mark ≡ None)) → IsUnmarked seat
unmarked_kind seat k h = go seat.transaction h
  where
    go : (o : Option Transaction) → IsSomeAnd o (λ t. (t.kind ≡ k) × (t.mark ≡ None)) → IsSomeAnd o (λ t. t.mark ≡ None)
    go None f = absurd f
    go (Some t) f = f.1

-- 1 for an open transaction that has no mark
pub one_open : (seat : Seat) (b : Bool) → is_unmarked seat ≡ b → one_if (is_unmarked seat) ≡ one_if b
one_open seat b e = ap one_if e

-- How what a record claims changes: so many places and writes before and after.
pub record Claiming (before after : Seat) (places places' : ℕ) : Type 0 where
  pub was : places_of before ≡ places
  pub now : places_of after ≡ places'
  pub writes : writes_of after ≡ writes_of before

-- a transaction opens
pub opened_orderly :
    (m : Manager) (k : Kind) (spare : Record) (classes begun snapshot n : ℕ) (seat : Seat) → IsIdle seat → seat.begun ≤ n
    → IsOrderly n (exchanged m spare (latched m classes (opened k begun snapshot seat)))
opened_orderly manager.Mursiw kind.ReadOnly spare classes begun snapshot n seat i le =
    let more : seat.begun + 1 ≤ n + 1 = omega arith in
    record { phase = record { rest = record { work = i.rest.work; plan = i.rest.plan; undo = i.rest.undo; latches = i.rest.latches }; transaction = (refl, refl); cause = i.cause; done = ap (filter_map written_by) i.done; own = i.own }; begun = more }
opened_orderly manager.Mvcc kind.ReadOnly spare classes begun snapshot n seat i le =
    let more : seat.begun + 1 ≤ n + 1 = omega arith in
    record { phase = record { rest = record { work = i.rest.work; plan = i.rest.plan; undo = i.rest.undo; latches = i.rest.latches }; transaction = (refl, refl); cause = i.cause; done = ap (filter_map written_by) i.done; own = i.own }; begun = more }
opened_orderly manager.Mursiw kind.ReadWrite spare classes begun snapshot n seat i le =
    let more : seat.begun + 1 ≤ n + 1 = omega arith in
    record { phase = record { work = i.rest.work; plan = λ _. i.rest.plan; transaction = (refl, refl); cause = i.cause }; begun = more }
opened_orderly manager.Mvcc kind.ReadWrite spare classes begun snapshot n seat i le =
    let more : seat.begun + 1 ≤ n + 1 = omega arith in
    record { phase = record { work = i.rest.work; plan = λ _. i.rest.plan; transaction = (refl, refl); cause = i.cause }; begun = more }

pub opened_claiming :
    (m : Manager) (k : Kind) (spare : Record) (classes begun snapshot : ℕ) (seat : Seat) → IsIdle seat
    → Claiming seat (exchanged m spare (latched m classes (opened k begun snapshot seat))) 1 2
opened_claiming manager.Mursiw kind.ReadOnly spare classes begun snapshot seat i = record { was = ap (λ b. cond b 2 1) (unmarked_none seat i.transaction); now = refl; writes = refl }
opened_claiming manager.Mvcc kind.ReadOnly spare classes begun snapshot seat i = record { was = ap (λ b. cond b 2 1) (unmarked_none seat i.transaction); now = refl; writes = refl }
opened_claiming manager.Mursiw kind.ReadWrite spare classes begun snapshot seat i = record { was = ap (λ b. cond b 2 1) (unmarked_none seat i.transaction); now = refl; writes = refl }
opened_claiming manager.Mvcc kind.ReadWrite spare classes begun snapshot seat i = record { was = ap (λ b. cond b 2 1) (unmarked_none seat i.transaction); now = refl; writes = refl }

-- a story is moved out
pub storyless : (p : Phase) (seat : Seat) → IsInPhase p seat → IsInPhase p (on_hand without_story seat)
storyless phase.Idle seat i = record { rest = record { work = i.rest.work; plan = i.rest.plan; undo = i.rest.undo; latches = i.rest.latches }; transaction = i.transaction; cause = i.cause; done = refl; own = i.own }
storyless (phase.Running kind.ReadOnly) seat i = record { rest = record { work = i.rest.work; plan = i.rest.plan; undo = i.rest.undo; latches = i.rest.latches }; transaction = i.transaction; cause = i.cause; done = refl; own = i.own }
storyless (phase.Running kind.ReadWrite) seat i = record { work = i.work; plan = i.plan; transaction = i.transaction; cause = i.cause }
storyless phase.Writing seat i = record { transaction = i.transaction; cause = i.cause }
storyless phase.RollingBack seat i = record { work = i.work; transaction = i.transaction; cause = i.cause }
storyless phase.Stamping seat i = record { work = i.work; plan = i.plan; undo = i.undo; transaction = i.transaction; cause = i.cause; done = refl }
storyless phase.Condemned seat i = i
storyless phase.Absent seat i = i

-- a connection is condemned
pub condemned_phase : (p : Phase) (condemned : Condemned) (seat : Seat) → IsInPhase p seat → IsInPhase p (with_condemned condemned seat)
condemned_phase phase.Idle condemned seat i = record { rest = record { work = i.rest.work; plan = i.rest.plan; undo = i.rest.undo; latches = i.rest.latches }; transaction = i.transaction; cause = i.cause; done = i.done; own = i.own }
condemned_phase (phase.Running kind.ReadOnly) condemned seat i = record { rest = record { work = i.rest.work; plan = i.rest.plan; undo = i.rest.undo; latches = i.rest.latches }; transaction = i.transaction; cause = i.cause; done = i.done; own = i.own }
condemned_phase (phase.Running kind.ReadWrite) condemned seat i = record { work = i.work; plan = λ e. let no : Some condemned ≡ None = e in absurd cc; transaction = i.transaction; cause = i.cause }
condemned_phase phase.Writing condemned seat i = record { transaction = i.transaction; cause = i.cause }
condemned_phase phase.RollingBack condemned seat i = record { work = i.work; transaction = i.transaction; cause = i.cause }
condemned_phase phase.Stamping condemned seat i = record { work = i.work; plan = i.plan; undo = i.undo; transaction = i.transaction; cause = i.cause; done = i.done }
condemned_phase phase.Condemned condemned seat i = i
condemned_phase phase.Absent condemned seat i = i

-- a story is moved back
pub with_story_phase : (done : List (Op × Reply)) (seat : Seat) → IsRunning seat → IsRunning (on_hand (with_story done) seat)
with_story_phase done seat i = record { work = i.work; plan = i.plan; transaction = i.transaction; cause = i.cause }

-- an operation that wrote nothing adds no write
pub no_write_more : (done : List (Op × Reply)) (d : Op × Reply) → written_by d ≡ None → filter_map written_by (done ++ d ∷ []) ≡ filter_map written_by done
no_write_more done d none =
    filter_map-append written_by done (d ∷ []) ∙ (ap (λ w. filter_map written_by done ++ cons_option w []) none ∙ append_none (filter_map written_by done))
  where
    append_none : (xs : List (ℕ × ℕ)) → xs ++ [] ≡ xs
    append_none [] = refl
    append_none (x ∷ xs) = ap (λ ys. x ∷ ys) (append_none xs)

pub noted_phase : (k : Kind) (op : Op) (reply : Reply) (seat : Seat) → written_by (op, reply) ≡ None → IsInPhase (phase.Running k) seat → IsInPhase (phase.Running k) (on_hand (noted op reply) seat)
noted_phase kind.ReadOnly op reply seat none i = record { rest = record { work = i.rest.work; plan = i.rest.plan; undo = i.rest.undo; latches = i.rest.latches }; transaction = i.transaction; cause = i.cause; done = no_write_more seat.hand.done.items (op, reply) none ∙ i.done; own = i.own }
noted_phase kind.ReadWrite op reply seat none i = record { work = i.work; plan = i.plan; transaction = i.transaction; cause = i.cause }

-- a transaction is marked
pub marked_phase : (commit : ℕ) (seat : Seat) → IsRunning seat → seat.condemned ≡ None → seat.hand.done.items ≡ [] → IsStamping (becomes_marked commit seat)
marked_phase commit seat i live empty =
    record { work = i.work; plan = i.plan live; undo = refl; transaction = go seat.transaction i.transaction; cause = i.cause; done = empty }
  where
    go : (o : Option Transaction) → IsSomeAnd o (λ t. (t.kind ≡ kind.ReadWrite) × (t.mark ≡ None)) → IsSomeAnd (option_map (marked commit) o) (λ t. (t.kind ≡ kind.ReadWrite) × IsSome t.mark)
    go None f = absurd f
    go (Some t) f = (f.0, refl)

-- a roll-back begins
pub rolls_back_phase : (m : Manager) (cause : Cause) (seat : Seat) → IsUnmarked seat → IsRollingBack (rolls_back m cause seat)
rolls_back_phase manager.Mursiw cause seat h = record { work = refl; transaction = h; cause = refl }
rolls_back_phase manager.Mvcc cause seat h = record { work = refl; transaction = h; cause = refl }

-- an idle connection watches
pub watching_phase : (watches : List Subscription) (seat : Seat) → IsIdle seat → IsIdle (record seat { hand = record seat.hand { subscriptions = watches } })
watching_phase watches seat i = record { rest = record { work = i.rest.work; plan = i.rest.plan; undo = i.rest.undo; latches = i.rest.latches }; transaction = i.transaction; cause = i.cause; done = i.done; own = i.own }

-- a transaction is over
pub closed_phase :
    (m : Manager) (spare : Record) (seat : Seat) → seat.hand.work ≡ None → seat.hand.plan.pairs ≡ [] → seat.hand.undo.pairs ≡ [] → spare.pairs ≡ [] → seat.hand.done.items ≡ []
    → IsIdle (closed (exchanged m spare seat))
closed_phase manager.Mvcc spare seat work plan undo empty done =
    record { rest = record { work = work; plan = plan; undo = undo; latches = refl }; transaction = refl; cause = refl; done = done; own = refl }
closed_phase manager.Mursiw spare seat work plan undo empty done = go (option_map_or (λ t. may_write t.kind) seat.transaction false)
  where
    go : (b : Bool) → IsIdle (closed (cond b (on_hand (with_undo spare) seat) seat))
    go true = record { rest = record { work = work; plan = plan; undo = empty; latches = refl }; transaction = refl; cause = refl; done = done; own = refl }
    go false = record { rest = record { work = work; plan = plan; undo = undo; latches = refl }; transaction = refl; cause = refl; done = done; own = refl }

-- a record in a phase, in order
pub orderly_in : (n : ℕ) (p : Phase) (seat : Seat) → seat.hand.phase ≡ p → IsInPhase p seat → seat.begun ≤ n + cond (is_unmarked seat) 1 0 → IsOrderly n seat
orderly_in n p seat is i begun = record { phase = subst (λ (q : Phase). IsInPhase q seat) (sym is) i; begun = begun }

-- watches leave a record in order
pub watching_orderly :
    (n : ℕ) (watches : List Subscription) (seat : Seat) → IsOrderly n seat → seat.hand.phase ≡ phase.Idle
    → IsOrderly n (record seat { hand = record seat.hand { subscriptions = watches } })
watching_orderly n watches seat o idle =
    orderly_in n phase.Idle (record seat { hand = record seat.hand { subscriptions = watches } }) idle (watching_phase watches seat (in_its_phase n seat phase.Idle o idle)) o.begun

-- the single writer's changes leave another record
pub latched_not : (m : Manager) (classes : ℕ) (seat : Seat) → is_single_writer m seat ≡ false → latched m classes seat ≡ seat
latched_not m classes seat e = ap (λ b. cond b (with_latches (all_latches classes) seat) seat) e

pub exchanged_not : (m : Manager) (spare : Record) (seat : Seat) → is_single_writer m seat ≡ false → exchanged m spare seat ≡ seat
exchanged_not m spare seat e = ap (λ b. cond b (on_hand (with_undo spare) seat) seat) e

-- whose record it is
pub exchanged_conn : (m : Manager) (spare : Record) (seat : Seat) → (exchanged m spare seat).conn ≡ seat.conn
exchanged_conn m spare seat = go (is_single_writer m seat)
  where
    go : (b : Bool) → (cond b (on_hand (with_undo spare) seat) seat).conn ≡ seat.conn
    go true = refl
    go false = refl

pub exchanged_transaction : (m : Manager) (spare : Record) (seat : Seat) → (exchanged m spare seat).transaction ≡ seat.transaction
exchanged_transaction m spare seat = go (is_single_writer m seat)
  where
    go : (b : Bool) → (cond b (on_hand (with_undo spare) seat) seat).transaction ≡ seat.transaction
    go true = refl
    go false = refl

pub latched_conn : (m : Manager) (classes : ℕ) (seat : Seat) → (latched m classes seat).conn ≡ seat.conn
latched_conn m classes seat = go (is_single_writer m seat)
  where
    go : (b : Bool) → (cond b (with_latches (all_latches classes) seat) seat).conn ≡ seat.conn
    go true = refl
    go false = refl

pub unlatched_conn : (m : Manager) (seat : Seat) → (unlatched m seat).conn ≡ seat.conn
unlatched_conn manager.Mursiw seat = refl
unlatched_conn manager.Mvcc seat = refl

-- what is spare after an exchange is empty where both were
pub spare_empty : (m : Manager) (spare : Record) (seat : Seat) → spare.pairs ≡ [] → seat.hand.undo.pairs ≡ [] → (spare_left m spare seat).pairs ≡ []
spare_empty m spare seat empty undo = go (is_single_writer m seat)
  where
    go : (b : Bool) → (cond b seat.hand.undo spare).pairs ≡ []
    go true = undo
    go false = empty

-- what a closed record claims
pub closed_places : (m : Manager) (spare : Record) (seat : Seat) → places_of (closed (exchanged m spare seat)) ≡ 1
closed_places m spare seat = refl

pub closed_writes : (m : Manager) (spare : Record) (seat : Seat) → writes_of (closed (exchanged m spare seat)) ≡ writes_of seat
closed_writes m spare seat = go (is_single_writer m seat)
  where
    go : (b : Bool) → writes_of (closed (cond b (on_hand (with_undo spare) seat) seat)) ≡ writes_of seat
    go true = refl
    go false = refl

pub closed_begun : (m : Manager) (spare : Record) (seat : Seat) → (closed (exchanged m spare seat)).begun ≡ seat.begun
closed_begun m spare seat = go (is_single_writer m seat)
  where
    go : (b : Bool) → (closed (cond b (on_hand (with_undo spare) seat) seat)).begun ≡ seat.begun
    go true = refl
    go false = refl

-- a closed record in order
pub closed_orderly :
    (m : Manager) (spare : Record) (n : ℕ) (seat : Seat) → seat.hand.work ≡ None → seat.hand.plan.pairs ≡ [] → seat.hand.undo.pairs ≡ [] → spare.pairs ≡ [] → seat.hand.done.items ≡ []
    → seat.begun ≤ n → IsOrderly n (closed (exchanged m spare seat))
closed_orderly m spare n seat work plan undo empty done le =
    let same = closed_begun m spare seat in
    let begun : (closed (exchanged m spare seat)).begun ≤ n + 0 = omega (arith, same) in
    record { phase = closed_phase m spare seat work plan undo empty done; begun = begun }

-- the writes that a record claims without an operation in work
pub writes_done : (seat : Seat) → seat.hand.work ≡ None → writes_of seat ≡ writes_in seat.hand.done.items + 0
writes_done seat none = ap (λ (o : Option Work). writes_in seat.hand.done.items + cond (is_some o) 1 0) none

-- an idle record claims no write
pub idle_writes : (seat : Seat) → IsIdle seat → writes_of seat ≡ 0
idle_writes seat i = writes_done seat i.rest.work ∙ ap (λ (d : List (Op × Reply)). writes_in d + 0) i.done

-- a connection that wasn't condemned
pub live_there : (o : Option Seat) → is_live o ≡ true → (seat : Seat) × ((o ≡ Some seat) × (seat.condemned ≡ None))
live_there None e = absurd cc
live_there (Some seat) e = (seat, (refl, none seat.condemned e))
  where
    none : (x : Option Condemned) → is_none x ≡ true → x ≡ None
    none None f = refl
    none (Some y) f = absurd cc

-- a record as it is made is in order
pub new_orderly : (n : ℕ) (c : ConnId) (seat : Seat) → IsNew c seat → IsOrderly n seat
new_orderly n c seat i =
    let begun = i.begun in
    orderly_in n phase.Idle seat i.hand.clear.phase
    (record { rest = record { work = i.hand.clear.work; plan = i.hand.clear.plan; undo = i.hand.clear.undo; latches = i.latches }; transaction = i.transaction; cause = i.hand.clear.cause; done = i.hand.clear.done; own = i.hand.clear.own })
    (omega (arith, begun))

pub new_claims : (c : ConnId) (seat : Seat) → IsNew c seat → (places_of seat ≡ 1) × (writes_of seat ≡ 0)
new_claims c seat i =
    (ap (λ b. cond b 2 1) (unmarked_none seat i.transaction), writes_done seat i.hand.clear.work ∙ ap (λ (d : List (Op × Reply)). writes_in d + 0) i.hand.clear.done)

-- the kind of a reader
pub reader_not_single : (m : Manager) (seat : Seat) → IsSomeAnd seat.transaction (λ t. (t.kind ≡ kind.ReadOnly) × (t.mark ≡ None)) → is_single_writer m seat ≡ false
reader_not_single manager.Mvcc seat h = refl
reader_not_single manager.Mursiw seat h =
    let t = some_and_of (λ (t : Transaction). (t.kind ≡ kind.ReadOnly) × (t.mark ≡ None)) seat.transaction h in
    ap (λ (o : Option Transaction). option_map_or (λ x. may_write x.kind) o false) t.1.0 ∙ ap may_write t.1.1.0

-- in every phase but the first a transaction is open
pub open_in_phase : (p : Phase) (seat : Seat) → IsInPhase p seat → (p ≡ phase.Idle) ⊎ IsSome seat.transaction
open_in_phase phase.Idle seat i = inl refl
open_in_phase (phase.Running kind.ReadOnly) seat i = inr (is_some_from (λ (t : Transaction). (t.kind ≡ kind.ReadOnly) × (t.mark ≡ None)) seat.transaction i.transaction)
open_in_phase (phase.Running kind.ReadWrite) seat i = inr (is_some_from (λ (t : Transaction). (t.kind ≡ kind.ReadWrite) × (t.mark ≡ None)) seat.transaction i.transaction)
open_in_phase phase.Writing seat i = inr (is_some_from (λ (t : Transaction). (t.kind ≡ kind.ReadWrite) × (t.mark ≡ None)) seat.transaction i.transaction)
open_in_phase phase.RollingBack seat i = inr (is_some_from (λ (t : Transaction). t.mark ≡ None) seat.transaction i.transaction)
open_in_phase phase.Stamping seat i = inr (is_some_from (λ (t : Transaction). (t.kind ≡ kind.ReadWrite) × IsSome t.mark) seat.transaction i.transaction)
open_in_phase phase.Condemned seat i = absurd i
open_in_phase phase.Absent seat i = absurd i

-- a story is moved out: what the record claims is less by its writes
pub storyless_orderly : (n : ℕ) (seat : Seat) → IsOrderly n seat → IsOrderly n (on_hand without_story seat)
storyless_orderly n seat o = record { phase = storyless seat.hand.phase seat o.phase; begun = o.begun }

pub storyless_writes : (seat : Seat) → writes_of seat ≡ writes_in seat.hand.done.items + writes_of (on_hand without_story seat)
storyless_writes seat =
    let now : writes_of (on_hand without_story seat) ≡ 0 + cond (is_some seat.hand.work) 1 0 = refl in
    let was : writes_of seat ≡ writes_in seat.hand.done.items + cond (is_some seat.hand.work) 1 0 = refl in
    omega (arith, now, was)

pub with_story_writes : (done : List (Op × Reply)) (seat : Seat) → seat.hand.done.items ≡ [] → writes_of (on_hand (with_story done) seat) ≡ writes_of seat + writes_in done
with_story_writes done seat empty =
    let was : writes_of seat ≡ 0 + cond (is_some seat.hand.work) 1 0 = ap (λ (d : List (Op × Reply)). writes_in d + cond (is_some seat.hand.work) 1 0) empty in
    omega (arith, was)

pub noted_writes : (op : Op) (reply : Reply) (seat : Seat) → written_by (op, reply) ≡ None → writes_of (on_hand (noted op reply) seat) ≡ writes_of seat
noted_writes op reply seat none = ap (λ (w : List (ℕ × ℕ)). length w + cond (is_some seat.hand.work) 1 0) (no_write_more seat.hand.done.items (op, reply) none)

-- a roll-back claims nothing for an operation in work
pub rolls_back_claims :
    (m : Manager) (cause : Cause) (seat : Seat) → (places_of (rolls_back m cause seat) ≡ places_of seat) × (writes_of seat ≡ writes_of (rolls_back m cause seat) + cond (is_some seat.hand.work) 1 0)
rolls_back_claims manager.Mursiw cause seat = (refl, omega arith)
rolls_back_claims manager.Mvcc cause seat = (refl, omega arith)

pub rolls_back_begun :
    (m : Manager) (cause : Cause) (n : ℕ) (seat : Seat) → seat.begun ≤ n + cond (is_unmarked seat) 1 0 → (rolls_back m cause seat).begun ≤ n + cond (is_unmarked (rolls_back m cause seat)) 1 0
rolls_back_begun manager.Mursiw cause n seat le = le
rolls_back_begun manager.Mvcc cause n seat le = le

-- a connection's record with a transaction that has no mark
pub has_unmarked : (seats : Seats) (c : ConnId) (seat : Seat) → seat_of seats c ≡ Some seat → IsUnmarked seat → HasUnmarked (seat_of seats c)
has_unmarked seats c seat at h = subst (λ (o : Option Seat). HasUnmarked o) (sym at) h

-- the mark of a transaction that is to be stamped
pub stamping_mark : (seat : Seat) → IsStamping seat → IsSomeAnd seat.transaction (λ t. IsSome t.mark)
stamping_mark seat s = go seat.transaction s.transaction
  where
    go : (o : Option Transaction) → IsSomeAnd o (λ t. (t.kind ≡ kind.ReadWrite) × IsSome t.mark) → IsSomeAnd o (λ t. IsSome t.mark)
    go None f = absurd f
    go (Some t) f = f.1

-- a reader's transaction, and one that rolls back, are open
pub reading_open : (seat : Seat) → IsReading seat → IsSome seat.transaction
reading_open seat i = is_some_from (λ (t : Transaction). (t.kind ≡ kind.ReadOnly) × (t.mark ≡ None)) seat.transaction i.transaction

pub rolling_open : (seat : Seat) → IsRollingBack seat → IsSome seat.transaction
rolling_open seat i = is_some_from (λ (t : Transaction). t.mark ≡ None) seat.transaction i.transaction

pub spare_left_not : (m : Manager) (spare : Record) (seat : Seat) → is_single_writer m seat ≡ false → spare_left m spare seat ≡ spare
spare_left_not m spare seat e = ap (λ b. cond b seat.hand.undo spare) e
