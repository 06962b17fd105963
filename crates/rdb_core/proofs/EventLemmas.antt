-- A connection watches an event, and is told the next one: what is kept of a World.
use Rattle.std.proofs.Common.{◌≡◌, ◌<◌, ◌≤◌, ◌+◌, ℕ, zero, suc, List, [], ◌∷◌, length, Option, Some, None, IsSome, is_some, slice_get, refl, sym, ap, subst, ◌∙◌, arith}
use Rattle.std.proofs.lemmas.Bool.{false≢true}
use Rattle.std.proofs.lemmas.List.Quantifiers.{position-Some}
use Rattle.rdb_base.specs.declared.identity.ConnId.{ConnId}
use Rattle.rdb_base.specs.declared.identity.Phase.{Phase}
use Rattle.rdb_base.specs.declared.limits.TheConstants.{MAX_OPERATIONS}
use Rattle.rdb_history.specs.Watches.{watch_place}
use Rattle.rdb_registry.specs.declared.hand.Hand.{Hand}
use Rattle.rdb_registry.specs.declared.hand.Work.{Work}
use Rattle.rdb_registry.specs.declared.hand.Subscription.{Subscription}
use Rattle.rdb_registry.specs.declared.seat.Seat.{Seat}
use Rattle.rdb_registry.specs.Registry.{Roll}
use Rattle.rdb_registry.specs.Seats.{seat_of}
use Rattle.rdb_schema.specs.declared.schema.Schema.{Schema}
use Rattle.rdb_sight.specs.Versions.{Versions}
use Rattle.rdb_answers.specs.declared.answer.Answer.{Answer}
use Rattle.rdb_answers.specs.declared.answer.Answer.TheVariants as answer
use Rattle.rdb_answers.specs.declared.answer.Outcome.TheVariants as outcome
use Rattle.rdb_answers.specs.Callers.{IsAllowed, IsIdle, IsLive}
use Rattle.rdb_answers.specs.Watching.{PollAnswer, Tells, TellsNone, WatchAnswer, Watches, WatchesEvent, watching}
use Rattle.rdb_transactions.specs.declared.transactions.Transactions.{Transactions}
use Rattle.rdb_transactions.specs.Hands.{is_watch_of, watch_of, with_watch, with_watch_at}
use Rattle.rdb_transactions.specs.Moves.{IsSame, KeepsSpare, Moves}
use Rattle.rdb_transactions.specs.Records.{on_hand}
use Rattle.rdb_transactions.specs.Sound.{IsSound}
use Rattle.rdb_transactions.proofs.EditLemmas.{has_seat, of_held}
use Rattle.rdb_writes.proofs.WorkLemmas.{in_its_slot}
use Rattle.rdb_steps.specs.declared.state.State.{State}
use Rattle.rdb_steps.specs.Phases.{IsIdle as IsResting, RestsIn}
use Rattle.rdb_steps.specs.States.{IsKeptSomehow, IsWhole, Keeps, ground_in, operations_of}
use Rattle.rdb_steps.proofs.AlikeLemmas.{told_kept}
use Rattle.rdb_steps.proofs.RoomLemmas.{told_rooms}
use Rattle.rdb_core.proofs.MovedLemmas.{kept_same, kept_under, rooms_same, unchanged, whole_moved}

-- each answer of `watch` that comes
module _ (t u : Transactions) (c : ConnId) (class event : ℕ) (Q : Type 0) (told : (at : ℕ) → Watches t u c class event at → Q) (same : IsSame t u → Q) where
  watch_cases : (a : Answer) → WatchAnswer t u c class event a → Q
  watch_cases (answer.Ready (outcome.Begun snapshot at)) b = absurd b
  watch_cases (answer.Ready (outcome.Did reply)) b = absurd b
  watch_cases (answer.Ready (outcome.Committed commit)) b = absurd b
  watch_cases (answer.Ready (outcome.Ended at)) b = absurd b
  watch_cases (answer.Ready outcome.RolledBack) b = absurd b
  watch_cases (answer.Ready (outcome.Watching at)) b = told at b
  watch_cases (answer.Ready (outcome.Event commit id)) b = absurd b
  watch_cases (answer.Ready (outcome.NoEvent at)) b = absurd b
  watch_cases (answer.Ready outcome.Closed) b = absurd b
  watch_cases answer.More b = absurd b
  watch_cases (answer.Busy holder) b = absurd b
  watch_cases (answer.Conflict commit operation) b = absurd b
  watch_cases (answer.Full need room) b = absurd b
  watch_cases (answer.Gone by at) b = same (unchanged t u b.same)
  watch_cases answer.NoMemory b = same b.1

-- each answer of `poll` that comes
module _ (schema : Schema) (t u : Transactions) (c : ConnId) (class event : ℕ) (Q : Type 0) (told : (commit id : ℕ) → Tells schema t u c class event commit id → Q) (same : u ≡ t → Q) where
  poll_cases : (a : Answer) → PollAnswer schema t u c class event a → Q
  poll_cases (answer.Ready (outcome.Begun snapshot at)) b = absurd b
  poll_cases (answer.Ready (outcome.Did reply)) b = absurd b
  poll_cases (answer.Ready (outcome.Committed commit)) b = absurd b
  poll_cases (answer.Ready (outcome.Ended at)) b = absurd b
  poll_cases (answer.Ready outcome.RolledBack) b = absurd b
  poll_cases (answer.Ready (outcome.Watching at)) b = absurd b
  poll_cases (answer.Ready (outcome.Event commit id)) b = told commit id b
  poll_cases (answer.Ready (outcome.NoEvent at)) b = same b.same
  poll_cases (answer.Ready outcome.Closed) b = absurd b
  poll_cases answer.More b = absurd b
  poll_cases (answer.Busy holder) b = absurd b
  poll_cases (answer.Conflict commit operation) b = absurd b
  poll_cases (answer.Full need room) b = absurd b
  poll_cases (answer.Gone by at) b = same b.same
  poll_cases answer.NoMemory b = absurd b

-- the watch of an event stands among the watches of a connection
watch_there : (xs : List Subscription) (k : ℕ) → k < length xs → (x : Subscription) × (slice_get xs k ≡ Some x)
watch_there [] k within = absurd (omega (arith, within))
watch_there (x ∷ xs) zero within = (x, refl)
watch_there (x ∷ xs) (suc k) within = watch_there xs k (omega (arith, within))

number_of : (class event : ℕ) (xs : List Subscription) (o : Option ℕ) → watch_of class event xs ≡ o → IsSome o → (k : ℕ) × (watch_of class event xs ≡ Some k)
number_of class event xs None is some = absurd (false≢true some)
number_of class event xs (Some k) is some = (k, is)

-- An idle connection's watches are others.
module _ {P : Type 0} (s : State P) (u : Transactions) (c : ConnId) (whole : IsWhole s) (seat : Seat) (held : seat_of s.transactions.registry.seats c ≡ Some seat) (phase : IsIdle seat) (change : Hand → Hand)
    (moves : Moves s.transactions u c (on_hand change) []) (tells : change seat.hand ≡ record seat.hand { subscriptions = (change seat.hand).subscriptions }) where
  idle_rests : (settled aimed : Versions) → Keeps s settled aimed → IsResting seat
  idle_rests settled aimed keeps =
      subst (λ (p : Phase). RestsIn s.transactions.manager (length s.schema.classes) seat p) phase (keeps.rests c.slot seat (in_its_slot s.transactions.registry.seats c seat held))

  watches_kept : (settled aimed : Versions) → Keeps s settled aimed → Keeps (record s { transactions = u }) settled aimed
  watches_kept settled aimed keeps =
      let t = s.transactions in
      kept_under s u settled aimed moves.manager
      (told_kept s.schema t.manager (ground_in s.memory t.registry) (ground_in s.memory u.registry) c seat (on_hand change) whole.lawful
      (record { cells = record { image = λ n. refl; classes = λ n. refl }; held = held; records = ap (λ (r : Roll). r.seats) moves.registry })
      (record {
        rest = same_rest;
        idle = λ is. ap (λ (h : Hand). h.done.items) tells ∙ (idle_rests settled aimed keeps).done;
      })
      s.counters.serials s.counters.ids.items settled aimed keeps)
    where
      same_rest : on_hand change seat ≡ record seat { hand = record seat.hand { done = (change seat.hand).done; subscriptions = (change seat.hand).subscriptions } }
      same_rest =
          ap (λ (h : Hand). record seat { hand = h }) tells
          ∙ ap (λ (d : Hand). record seat { hand = record seat.hand { done = d.done; subscriptions = (change seat.hand).subscriptions } }) (sym tells)

  watches_whole : KeepsSpare s.transactions u → IsKeptSomehow s → IsSound u → IsWhole (record s { transactions = u })
  watches_whole spare kept sound =
      let t = s.transactions in
      let f = whole.furnished c.slot seat (in_its_slot t.registry.seats c seat held) in
      let rests = idle_rests kept.0 kept.1 kept.2 in
      whole_moved s u whole (ap (λ (r : Roll). r.classes) moves.registry) sound
      (told_rooms t u c seat (on_hand change) moves spare held
      (record {
        rest = ap (λ (h : Hand). record seat { hand = h }) tells
            ∙ ap (λ (d : Hand). record seat { hand = record seat.hand { done = d.done; subscriptions = (change seat.hand).subscriptions } }) (sym tells);
        idle = λ is. ap (λ (h : Hand). h.done.items) tells ∙ rests.done;
      })
      (record {
        grows = (let same : length seat.hand.done.items ≡ length (change seat.hand).done.items = ap (λ (h : Hand). length h.done.items) (sym tells) in omega (arith, same));
        few = subst (λ (h : Hand). operations_of (record seat { hand = h }) ≤ MAX_OPERATIONS) (sym tells) f.few;
        room = λ some. absurd (false≢true (ap (λ (o : Option Work). is_some o) (sym rests.rest.work) ∙ some));
      }))

module _ {P : Type 0} (s : State P) (u : Transactions) (c : ConnId) (class event : ℕ) (whole : IsWhole s) (idle : IsAllowed s.transactions c IsIdle) where
  pub watch_kept : (a : Answer) → WatchAnswer s.transactions u c class event a → (settled aimed : Versions) → Keeps s settled aimed → Keeps (record s { transactions = u }) settled aimed
  watch_kept a b settled aimed keeps =
      watch_cases s.transactions u c class event (Keeps (record s { transactions = u }) settled aimed) told (λ same. kept_same s u same settled aimed keeps) a b
    where
      told : (at : ℕ) → Watches s.transactions u c class event at → Keeps (record s { transactions = u }) settled aimed
      told at b =
          let held = of_held s.transactions.registry.seats c IsIdle (idle b.live) in
          watches_kept s u c whole held.0 held.1.0 held.1.1 (with_watch (watching class event (watch_place at))) b.moves refl settled aimed keeps

  pub watch_whole : (a : Answer) → WatchAnswer s.transactions u c class event a → IsKeptSomehow s → IsSound u → IsWhole (record s { transactions = u })
  watch_whole a b kept sound =
      watch_cases s.transactions u c class event (IsWhole (record s { transactions = u })) told
      (λ same. whole_moved s u whole (ap (λ (r : Roll). r.classes) same.registry) sound (rooms_same s.transactions u same)) a b
    where
      told : (at : ℕ) → Watches s.transactions u c class event at → IsWhole (record s { transactions = u })
      told at b =
          let held = of_held s.transactions.registry.seats c IsIdle (idle b.live) in
          watches_whole s u c whole held.0 held.1.0 held.1.1 (with_watch (watching class event (watch_place at))) b.moves refl b.spare kept sound

  module _ (watched : IsAllowed s.transactions c (WatchesEvent class event)) where
    -- the move of the watch of the event
    moved_watch : (commit id : ℕ) → Tells s.schema s.transactions u c class event commit id → (seat : Seat) → seat_of s.transactions.registry.seats c ≡ Some seat →
        (number : ℕ) × Moves s.transactions u c (on_hand (with_watch_at number (watching class event (commit, id)))) []
    moved_watch commit id b seat held =
        let some = has_seat s.transactions.registry.seats c (WatchesEvent class event) seat (watched b.live) held in
        let number = number_of class event seat.hand.subscriptions (watch_of class event seat.hand.subscriptions) refl some in
        let facts = position-Some (is_watch_of class event) seat.hand.subscriptions number.0 nobody number.1 in
        let watch = watch_there seat.hand.subscriptions number.0 facts.0 in
        (number.0, b.moves seat number.0 watch.0 held number.1 watch.1)
      where
        nobody : Subscription
        nobody = record { class = 0; event = 0; place = record { commit = 0; id = 0 } }

    pub poll_kept : (a : Answer) → PollAnswer s.schema s.transactions u c class event a → (settled aimed : Versions) → Keeps s settled aimed → Keeps (record s { transactions = u }) settled aimed
    poll_kept a b settled aimed keeps =
        poll_cases s.schema s.transactions u c class event (Keeps (record s { transactions = u }) settled aimed) told (λ same. kept_same s u (unchanged s.transactions u same) settled aimed keeps) a b
      where
        told : (commit id : ℕ) → Tells s.schema s.transactions u c class event commit id → Keeps (record s { transactions = u }) settled aimed
        told commit id b =
            let held = of_held s.transactions.registry.seats c IsIdle (idle b.live) in
            let move = moved_watch commit id b held.0 held.1.0 in
            watches_kept s u c whole held.0 held.1.0 held.1.1 (with_watch_at move.0 (watching class event (commit, id))) move.1 refl settled aimed keeps

    pub poll_whole : (a : Answer) → PollAnswer s.schema s.transactions u c class event a → IsKeptSomehow s → IsSound u → IsWhole (record s { transactions = u })
    poll_whole a b kept sound =
        poll_cases s.schema s.transactions u c class event (IsWhole (record s { transactions = u })) told
        (λ same. whole_moved s u whole (ap (λ x. x.registry.classes) same) sound (rooms_same s.transactions u (unchanged s.transactions u same))) a b
      where
        told : (commit id : ℕ) → Tells s.schema s.transactions u c class event commit id → IsWhole (record s { transactions = u })
        told commit id b =
            let held = of_held s.transactions.registry.seats c IsIdle (idle b.live) in
            let move = moved_watch commit id b held.0 held.1.0 in
            watches_whole s u c whole held.0 held.1.0 held.1.1 (with_watch_at move.0 (watching class event (commit, id))) move.1 refl b.spare kept sound
