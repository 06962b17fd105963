-- A running transaction is rolled back, as its client asks: what is kept of a World.
use Rattle.std.proofs.Common.{◌≡◌, ◌≢◌, ◌<◌, ◌≤◌, ◌+◌, ℕ, Bool, true, false, cond, List, [], ◌∷◌, length, Option, Some, None, IsSome, IsSomeAnd, refl, sym, ap, subst, ◌∙◌, inl, arith}
use Rattle.std.proofs.lemmas.Bool.{false≢true}
use Rattle.std.specs.Option.{option_map_or}
use Rattle.rdb_base.specs.declared.identity.ConnId.{ConnId}
use Rattle.rdb_base.specs.declared.identity.Kind.{Kind}
use Rattle.rdb_base.specs.declared.identity.Kind.TheVariants as kind
use Rattle.rdb_base.specs.declared.identity.Manager.{Manager}
use Rattle.rdb_base.specs.declared.identity.Manager.TheVariants as manager
use Rattle.rdb_base.specs.declared.identity.Phase.{Phase}
use Rattle.rdb_base.specs.declared.identity.Phase.TheVariants as phase
use Rattle.rdb_base.specs.declared.journal.Cause.{Cause}
use Rattle.rdb_base.specs.declared.journal.Cause.TheVariants as cause
use Rattle.rdb_base.specs.declared.journal.Entry.{Entry}
use Rattle.rdb_base.specs.declared.journal.Entry.TheVariants as entry
use Rattle.rdb_cells.specs.Records.{Record}
use Rattle.rdb_registry.specs.declared.seat.Seat.{Seat}
use Rattle.rdb_registry.specs.declared.seat.Transaction.{Transaction}
use Rattle.rdb_registry.specs.Registry.{Roll, IsRoll}
use Rattle.rdb_registry.specs.Seats.{Seats, condemned_in, may_write, seat_in, seat_of}
use Rattle.rdb_registry.proofs.SlotLemmas.{some_and_of}
use Rattle.rdb_sight.specs.Versions.{Versions}
use Rattle.rdb_answers.specs.declared.answer.Answer.{Answer}
use Rattle.rdb_answers.specs.declared.answer.Answer.TheVariants as answer
use Rattle.rdb_answers.specs.declared.answer.Outcome.TheVariants as outcome
use Rattle.rdb_answers.specs.Callers.{IsAllowed, IsLive, Runs}
use Rattle.rdb_answers.specs.Ends.{IsClean, RollBackAnswer, RollsBack, RollsBackAtOnce}
use Rattle.rdb_transactions.specs.declared.transactions.Transactions.{Transactions}
use Rattle.rdb_transactions.specs.Claims.{is_unmarked}
use Rattle.rdb_transactions.specs.Hands.{without_story}
use Rattle.rdb_transactions.specs.Moves.{ExchangesSpare, Moves, ends_with_story}
use Rattle.rdb_transactions.specs.Records.{exchanged, is_single_writer, on_hand, rolls_back, spare_left, story_in}
use Rattle.rdb_transactions.specs.Sound.{IsSound}
use Rattle.rdb_transactions.proofs.EditLemmas.{of_held, stands}
use Rattle.rdb_writes.proofs.WorkLemmas.{in_its_slot}
use Rattle.rdb_steps.specs.declared.state.State.{State}
use Rattle.rdb_steps.specs.Invariant.{IsSingle}
use Rattle.rdb_steps.specs.Lists.{taken_over}
use Rattle.rdb_steps.specs.Moves.{HasNothingLeft}
use Rattle.rdb_steps.specs.Phases.{IsBetween, IsReading, RestsIn}
use Rattle.rdb_steps.specs.Rooms.{IsOnlyWriter, KeepRooms, KeepsFurniture}
use Rattle.rdb_steps.specs.States.{IsKeptSomehow, IsWhole, Keeps, ground_in}
use Rattle.rdb_steps.proofs.ClosedLemmas.{back_over}
use Rattle.rdb_steps.proofs.ExchangeLemmas.{ends_rooms, writer_of}
use Rattle.rdb_steps.proofs.IdleLemmas.{ends_kept}
use Rattle.rdb_steps.proofs.RoomLemmas.{back_rooms}
use Rattle.rdb_steps.proofs.WithoutLemmas.{back_kept}
use Rattle.rdb_core.specs.Calls.{aimed_by_rolling_back}
use Rattle.rdb_core.proofs.MovedLemmas.{kept_same, kept_under, placed_in, rooms_same, unchanged, whole_moved}

-- the record of a connection that wasn't condemned says so
live_seat : (t : Transactions) (c : ConnId) (seat : Seat) → IsRoll t.registry → IsLive t c → seat_of t.registry.seats c ≡ Some seat → seat.condemned ≡ None
live_seat t c seat roll live at =
    let there = stands t.registry.seats c seat at in
    (roll.seated c.slot seat there.there).condemned ∙ (ap (condemned_in t.registry.condemned) there.conn ∙ live)

writes_kind : (k : Kind) → may_write k ≡ true → k ≡ kind.ReadWrite
writes_kind kind.ReadWrite e = refl
writes_kind kind.ReadOnly e = absurd (false≢true e)

-- under the manager of a single writer there is one
pub only_writer : (m : Manager) (seats : Seats) → IsSingle m seats → (slot : ℕ) (seat : Seat) → seat_in seats slot ≡ Some seat → IsOnlyWriter m seats slot seat
only_writer manager.Mvcc seats single slot seat at writes other one different there = absurd (false≢true writes)
only_writer manager.Mursiw seats single slot seat at writes other one different there = go (is_single_writer manager.Mursiw one) refl
  where
    go : (b : Bool) → is_single_writer manager.Mursiw one ≡ b → is_single_writer manager.Mursiw one ≡ false
    go false none = none
    go true also =
        let first = writer_of seat writes in
        let second = writer_of one also in
        absurd (different (sym (single refl slot other seat one first.0 second.0 at there first.1 (writes_kind first.0.kind first.2) second.1)))

-- what a running transaction has in hand by its kind
module _ {P : Type 0} (s : State P) (c : ConnId) (roll : IsRoll s.transactions.registry) (live : IsLive s.transactions c) (settled aimed : Versions) (keeps : Keeps s settled aimed) (seat : Seat) (held : seat_of s.transactions.registry.seats c ≡ Some seat) (runs : Runs seat) where
  pub is_live : seat.condemned ≡ None
  is_live = live_seat s.transactions c seat roll live held

  pub rests : (p : Phase) → seat.hand.phase ≡ p → RestsIn s.transactions.manager (length s.schema.classes) seat p
  rests p is =
      subst (λ (q : Phase). RestsIn s.transactions.manager (length s.schema.classes) seat q) is
      (keeps.rests c.slot seat (in_its_slot s.transactions.registry.seats c seat held))

  opened_by : (k : Kind) → seat.hand.phase ≡ phase.Running k → (t : Transaction) × (seat.transaction ≡ Some t)
  opened_by kind.ReadOnly is =
      let one = some_and_of (λ (t : Transaction). t.kind ≡ kind.ReadOnly) seat.transaction (rests (phase.Running kind.ReadOnly) is).reader in
      (one.0, one.1.0)
  opened_by kind.ReadWrite is =
      let one = some_and_of (λ (t : Transaction). t.kind ≡ kind.ReadWrite) seat.transaction (rests (phase.Running kind.ReadWrite) is).writer.0 in
      (one.0, one.1.0)

  pub open_one : (t : Transaction) × (seat.transaction ≡ Some t)
  open_one = opened_by runs.0 runs.1

  planless : (k : Kind) → seat.hand.phase ≡ phase.Running k → seat.hand.plan.pairs ≡ []
  planless kind.ReadOnly is = (rests (phase.Running kind.ReadOnly) is).rest.plan
  planless kind.ReadWrite is = (rests (phase.Running kind.ReadWrite) is).plan is_live

  pub no_plan : seat.hand.plan.pairs ≡ []
  no_plan = planless runs.0 runs.1

  -- one that has something to take back may write
  may_have : (k : Kind) → seat.hand.phase ≡ phase.Running k → ¬ IsClean seat → seat.hand.phase ≡ phase.Running kind.ReadWrite
  may_have kind.ReadWrite is some = is
  may_have kind.ReadOnly is some = absurd (some ((rests (phase.Running kind.ReadOnly) is).rest.undo, (rests (phase.Running kind.ReadOnly) is).own))

-- the record with its story moved out, as its roll-back begins
abbrev first_of : Manager → Seat → Seat
first_of m seat = on_hand without_story (rolls_back m cause.Asked seat)

same_writer : (m : Manager) (seat : Seat) → is_single_writer m (first_of m seat) ≡ is_single_writer m seat
same_writer manager.Mvcc seat = refl
same_writer manager.Mursiw seat = refl

same_left : (m : Manager) (spare : Record) (seat : Seat) → spare_left m spare (rolls_back m cause.Asked seat) ≡ spare_left m spare (first_of m seat)
same_left manager.Mvcc spare seat = refl
same_left manager.Mursiw spare seat = refl

furnishes : (m : Manager) (seat : Seat) → KeepsFurniture m seat (first_of m seat)
furnishes manager.Mvcc seat = record { plan = refl; undo = refl; writer = refl; work = refl; done = omega arith }
furnishes manager.Mursiw seat = record { plan = refl; undo = refl; writer = refl; work = refl; done = omega arith }

module _ {P : Type 0} (s : State P) (u : Transactions) (c : ConnId) (whole : IsWhole s) (roll : IsRoll s.transactions.registry) (running : IsAllowed s.transactions c Runs) where
  -- at once
  module _ (b : RollsBackAtOnce s.transactions u c) (settled aimed : Versions) (keeps : Keeps s settled aimed) (seat : Seat) (held : seat_of s.transactions.registry.seats c ≡ Some seat) (runs : Runs seat) where
    open_t : (t : Transaction) × (seat.transaction ≡ Some t)
    open_t = open_one s c roll b.live settled aimed keeps seat held runs

    moves : Moves s.transactions u c (λ x. ends_with_story s.transactions (rolls_back s.transactions.manager cause.Asked x)) (entry.Abort (story_in c open_t.0 seat.hand) cause.Asked ∷ [])
    moves = b.moves seat open_t.0 held open_t.1

    clean : HasNothingLeft seat
    clean =
        let none = b.clean seat open_t.0 held open_t.1 in
        record { plan = no_plan s c roll b.live settled aimed keeps seat held runs; undo = none.0; own = none.1 }

    at_once_kept : Keeps (record s { transactions = u }) settled aimed
    at_once_kept =
        let t = s.transactions in
        kept_under s u settled aimed moves.manager
        (ends_kept s.schema t.manager (ground_in s.memory t.registry) (ground_in s.memory u.registry) c seat (λ x. ends_with_story t (rolls_back t.manager cause.Asked x)) whole.lawful (placed_in t.registry roll)
        (record { cells = record { image = λ n. refl; classes = λ n. refl }; held = held; records = ap (λ (r : Roll). r.seats) moves.registry })
        clean (back_over t.manager t.spare_undo cause.Asked seat clean whole.sound.spare) s.counters.serials s.counters.ids.items settled aimed keeps)

    at_once_rooms : KeepRooms s.transactions u
    at_once_rooms =
        let t = s.transactions in
        ends_rooms t u c seat (first_of t.manager) (entry.Abort (story_in c open_t.0 seat.hand) cause.Asked ∷ []) moves
        (λ x at. b.spare x at ∙ same_left t.manager t.spare_undo x)
        held (furnishes t.manager seat) (λ none. absurd (let no : entry.Abort (story_in c open_t.0 seat.hand) cause.Asked ∷ [] ≡ [] = none in cc))
        (only_writer t.manager t.registry.seats keeps.single c.slot seat (in_its_slot t.registry.seats c seat held))

  -- it goes on
  module _ (b : RollsBack s.transactions u c) (settled aimed : Versions) (keeps : Keeps s settled aimed) (seat : Seat) (held : seat_of s.transactions.registry.seats c ≡ Some seat) (runs : Runs seat) where
    unclean : ¬ IsClean seat
    unclean = let one = open_one s c roll b.live settled aimed keeps seat held runs in b.unclean seat one.0 held one.1

    goes_kept_on : Keeps (record s { transactions = u }) settled (taken_over seat aimed settled)
    goes_kept_on =
        let t = s.transactions in
        kept_under s u settled (taken_over seat aimed settled) b.moves.manager
        (back_kept s.schema t.manager (ground_in s.memory t.registry) (ground_in s.memory u.registry) c seat cause.Asked whole.lawful
        (record { cells = record { image = λ n. refl; classes = λ n. refl }; held = held; records = ap (λ (r : Roll). r.seats) b.moves.registry })
        (is_live s c roll b.live settled aimed keeps seat held runs) (no_plan s c roll b.live settled aimed keeps seat held runs)
        (inl (may_have s c roll b.live settled aimed keeps seat held runs runs.0 runs.1 unclean)) s.counters.serials s.counters.ids.items settled aimed keeps)

    aims_after : Keeps (record s { transactions = u }) settled (aimed_by_rolling_back answer.More (seat_of s.transactions.registry.seats c) settled aimed)
    aims_after =
        subst (λ (o : Option Seat). Keeps (record s { transactions = u }) settled (aimed_by_rolling_back answer.More o settled aimed)) (sym held) goes_kept_on

  pub roll_back_kept : (a : Answer) → RollBackAnswer s.transactions u c a → (settled aimed : Versions) → Keeps s settled aimed →
      Keeps (record s { transactions = u }) settled (aimed_by_rolling_back a (seat_of s.transactions.registry.seats c) settled aimed)
  roll_back_kept (answer.Ready (outcome.Begun snapshot at)) b settled aimed keeps = absurd b
  roll_back_kept (answer.Ready (outcome.Did reply)) b settled aimed keeps = absurd b
  roll_back_kept (answer.Ready (outcome.Committed commit)) b settled aimed keeps = absurd b
  roll_back_kept (answer.Ready (outcome.Ended at)) b settled aimed keeps = absurd b
  roll_back_kept (answer.Ready outcome.RolledBack) b settled aimed keeps =
      let found = of_held s.transactions.registry.seats c Runs (running b.live) in
      at_once_kept b settled aimed keeps found.0 found.1.0 found.1.1
  roll_back_kept (answer.Ready (outcome.Watching at)) b settled aimed keeps = absurd b
  roll_back_kept (answer.Ready (outcome.Event commit id)) b settled aimed keeps = absurd b
  roll_back_kept (answer.Ready (outcome.NoEvent at)) b settled aimed keeps = absurd b
  roll_back_kept (answer.Ready outcome.Closed) b settled aimed keeps = absurd b
  roll_back_kept answer.More b settled aimed keeps =
      let found = of_held s.transactions.registry.seats c Runs (running b.live) in
      aims_after b settled aimed keeps found.0 found.1.0 found.1.1
  roll_back_kept (answer.Busy holder) b settled aimed keeps = absurd b
  roll_back_kept (answer.Conflict commit operation) b settled aimed keeps = absurd b
  roll_back_kept (answer.Full need room) b settled aimed keeps = absurd b
  roll_back_kept (answer.Gone by at) b settled aimed keeps = kept_same s u (unchanged s.transactions u b.same) settled aimed keeps
  roll_back_kept answer.NoMemory b settled aimed keeps = absurd b

  pub roll_back_whole : (a : Answer) → RollBackAnswer s.transactions u c a → IsKeptSomehow s → IsSound u → IsWhole (record s { transactions = u })
  roll_back_whole (answer.Ready (outcome.Begun snapshot at)) b kept sound = absurd b
  roll_back_whole (answer.Ready (outcome.Did reply)) b kept sound = absurd b
  roll_back_whole (answer.Ready (outcome.Committed commit)) b kept sound = absurd b
  roll_back_whole (answer.Ready (outcome.Ended at)) b kept sound = absurd b
  roll_back_whole (answer.Ready outcome.RolledBack) b kept sound =
      let found = of_held s.transactions.registry.seats c Runs (running b.live) in
      whole_moved s u whole (ap (λ (r : Roll). r.classes) (moves b kept.0 kept.1 kept.2 found.0 found.1.0 found.1.1).registry) sound
      (at_once_rooms b kept.0 kept.1 kept.2 found.0 found.1.0 found.1.1)
  roll_back_whole (answer.Ready (outcome.Watching at)) b kept sound = absurd b
  roll_back_whole (answer.Ready (outcome.Event commit id)) b kept sound = absurd b
  roll_back_whole (answer.Ready (outcome.NoEvent at)) b kept sound = absurd b
  roll_back_whole (answer.Ready outcome.Closed) b kept sound = absurd b
  roll_back_whole answer.More b kept sound =
      let found = of_held s.transactions.registry.seats c Runs (running b.live) in
      whole_moved s u whole (ap (λ (r : Roll). r.classes) b.moves.registry) sound
      (back_rooms s.transactions u c found.0 cause.Asked b.moves b.spare found.1.0)
  roll_back_whole (answer.Busy holder) b kept sound = absurd b
  roll_back_whole (answer.Conflict commit operation) b kept sound = absurd b
  roll_back_whole (answer.Full need room) b kept sound = absurd b
  roll_back_whole (answer.Gone by at) b kept sound = whole_moved s u whole (ap (λ x. x.registry.classes) b.same) sound (rooms_same s.transactions u (unchanged s.transactions u b.same))
  roll_back_whole answer.NoMemory b kept sound = absurd b
