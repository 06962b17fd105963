-- A running transaction is ended, marked, or refused for a conflict: what is kept of a World.
use Rattle.std.proofs.Common.{◌≡◌, ◌≢◌, ◌<◌, ◌≤◌, ◌+◌, ℕ, Bool, true, false, cond, List, [], ◌∷◌, ◌*◌, length, Option, Some, None, IsSome, IsSomeAnd, is_some, option_map, append-nil, mul-one, refl, sym, ap, subst, ◌∙◌, inl, arith}
use Rattle.std.proofs.lemmas.Bool.{false≢true}
use Rattle.std.specs.Option.{option_map_or}
use Rattle.rdb_base.specs.declared.identity.ConnId.{ConnId}
use Rattle.rdb_base.specs.declared.identity.Kind.{Kind}
use Rattle.rdb_base.specs.declared.identity.Kind.TheVariants as kind
use Rattle.rdb_base.specs.declared.identity.Manager.{Manager}
use Rattle.rdb_base.specs.declared.identity.Manager.TheVariants as manager
use Rattle.rdb_base.specs.declared.identity.Phase.{Phase}
use Rattle.rdb_base.specs.declared.identity.Phase.TheVariants as phase
use Rattle.rdb_base.specs.declared.journal.Cause.{Cause}
use Rattle.rdb_base.specs.declared.journal.Cause.TheVariants as cause
use Rattle.rdb_base.specs.declared.journal.Entry.{Entry}
use Rattle.rdb_base.specs.declared.journal.Entry.TheVariants as entry
use Rattle.rdb_base.specs.declared.limits.TheConstants.{MAX_OPERATIONS}
use Rattle.rdb_cells.specs.Records.{Record}
use Rattle.rdb_registry.specs.declared.hand.Work.{Work}
use Rattle.rdb_registry.specs.declared.seat.Seat.{Seat}
use Rattle.rdb_registry.specs.declared.seat.Transaction.{Transaction}
use Rattle.rdb_registry.specs.Registry.{Roll, IsRoll}
use Rattle.rdb_registry.specs.Seats.{Seats, marked, may_write, seat_in, seat_of}
use Rattle.rdb_registry.proofs.SlotLemmas.{some_and_of}
use Rattle.rdb_sight.specs.Versions.{Versions}
use Rattle.rdb_answers.specs.declared.answer.Answer.{Answer}
use Rattle.rdb_answers.specs.declared.answer.Answer.TheVariants as answer
use Rattle.rdb_answers.specs.declared.answer.Outcome.TheVariants as outcome
use Rattle.rdb_answers.specs.Callers.{IsAllowed, IsLive, Runs}
use Rattle.rdb_answers.specs.Ends.{CommitAnswer, Commits, Conflicts, EndsRead, IsMarked, marks}
use Rattle.rdb_transactions.specs.declared.transactions.Transactions.{Transactions}
use Rattle.rdb_transactions.specs.Claims.{is_unmarked}
use Rattle.rdb_transactions.specs.Hands.{with_story, without_story}
use Rattle.rdb_transactions.specs.Moves.{Moves, ends, ends_with_story}
use Rattle.rdb_transactions.specs.Records.{becomes_marked, edited, is_single_writer, on_hand, rolls_back, spare_left, story_in}
use Rattle.rdb_transactions.specs.Sound.{IsSound}
use Rattle.rdb_transactions.proofs.EditLemmas.{of_held, record_after, same_seat, twice}
use Rattle.rdb_writes.proofs.WorkLemmas.{in_its_slot}
use Rattle.rdb_steps.specs.declared.state.State.{State}
use Rattle.rdb_writes.specs.Grounds.{Ground}
use Rattle.rdb_steps.specs.Invariant.{IsKept}
use Rattle.rdb_steps.specs.Lists.{taken_over}
use Rattle.rdb_steps.specs.Moves.{ArePlaced, HasNothingLeft, TellsAlone}
use Rattle.rdb_steps.specs.Phases.{IsReading}
use Rattle.rdb_steps.specs.Rooms.{IsOnlyWriter, KeepRooms, KeepsFurniture}
use Rattle.rdb_steps.specs.States.{IsFurnished, IsKeptSomehow, IsWhole, Keeps, cell_count, ground_in, planned_by}
use Rattle.rdb_steps.specs.Steps.{aimed_by_taking_back}
use Rattle.rdb_steps.proofs.ClosedLemmas.{closed_over, told_over}
use Rattle.rdb_steps.proofs.AlikeLemmas.{told_kept}
use Rattle.rdb_steps.proofs.ExchangeLemmas.{ends_rooms}
use Rattle.rdb_steps.proofs.MarkLemmas.{marked_kept}
use Rattle.rdb_steps.proofs.MoveLemmas.{changes_replace, each_now, of_one}
use Rattle.rdb_steps.proofs.IdleLemmas.{ends_kept}
use Rattle.rdb_steps.proofs.RoomLemmas.{back_rooms, by_transaction, moves_slot, planned_few, same_rooms, told_rooms}
use Rattle.rdb_steps.proofs.WithoutLemmas.{back_kept}
use Rattle.rdb_core.specs.Calls.{aimed_by_committing, settled_by_committing, settled_by_mark}
use Rattle.rdb_core.proofs.ClosingLemmas.{is_live, no_plan, only_writer, open_one, rests}
use Rattle.rdb_core.proofs.MovedLemmas.{kept_same, kept_under, placed_in, rooms_same, unchanged, whole_moved}

-- the record with its story moved out
abbrev untold : Seat → Seat
untold seat = on_hand without_story seat

-- the record with its story put back, in no more room than it needs
abbrev retold : Seat → Seat
retold seat = on_hand (λ hand. with_story hand.done.items hand) seat

-- two changes of one record, of one registry
edited_twice : (r : Roll) (slot : ℕ) (f g : Seat → Seat) → edited r slot (λ s. g (f s)) ≡ edited (edited r slot f) slot g
edited_twice r slot f g = ap (λ (ss : Seats). record r { seats = ss }) (sym (twice r.seats slot f g))

kind_of : (o : Option Transaction) (t : Transaction) → o ≡ Some t → (k : Kind) → IsSomeAnd o (λ x. x.kind ≡ k) → t.kind ≡ k
kind_of None t is k some = absurd (let no : None ≡ Some t = is in cc)
kind_of (Some x) t is k some = let same : x ≡ t = cc in subst (λ (y : Transaction). y.kind ≡ k) same some

reader_alone : (m : Manager) (s : Seat) (t : Transaction) → s.transaction ≡ Some t → t.kind ≡ kind.ReadOnly → is_single_writer m s ≡ false
reader_alone manager.Mvcc s t is reads = refl
reader_alone manager.Mursiw s t is reads =
    ap (λ (o : Option Transaction). option_map_or (λ x. may_write x.kind) o false) is ∙ ap may_write reads

-- a reader leaves the spare undo record
left_by_reader : (m : Manager) (spare : Record) (s : Seat) → is_single_writer m s ≡ false → spare_left m spare s ≡ spare
left_by_reader m spare s none = ap (λ (b : Bool). cond b s.hand.undo spare) none

by_mark : (m : Manager) (commit : ℕ) (s : Seat) → is_single_writer m (becomes_marked commit s) ≡ is_single_writer m s
by_mark manager.Mvcc commit s = refl
by_mark manager.Mursiw commit s = go s.transaction
  where
    go : (o : Option Transaction) → option_map_or (λ t. may_write t.kind) (option_map (marked commit) o) false ≡ option_map_or (λ t. may_write t.kind) o false
    go None = refl
    go (Some t) = refl

marked_writer : (m : Manager) (commit : ℕ) (s : Seat) → is_single_writer m (marks commit s) ≡ is_single_writer m s
marked_writer m commit s = by_mark m commit (untold s) ∙ by_transaction m (untold s) s refl

one_more : (n q : ℕ) → n ≤ MAX_OPERATIONS → n ≤ q + MAX_OPERATIONS * 1
one_more n q few = let once = mul-one MAX_OPERATIONS in omega (arith, few, once)

workless_few : (o : Option Work) → o ≡ None → 0 + cond (is_some o) 1 0 ≤ MAX_OPERATIONS
workless_few None e = omega arith
workless_few (Some w) e = absurd (let no : Some w ≡ None = e in cc)

module _ {P : Type 0} (s : State P) (u : Transactions) (c : ConnId) (whole : IsWhole s) (roll : IsRoll s.transactions.registry) (live : IsLive s.transactions c) (settled aimed : Versions) (keeps : Keeps s settled aimed) (seat : Seat) (held : seat_of s.transactions.registry.seats c ≡ Some seat) (runs : Runs seat) where
  at : seat_in s.transactions.registry.seats c.slot ≡ Some seat
  at = in_its_slot s.transactions.registry.seats c seat held

  open_t : (t : Transaction) × (seat.transaction ≡ Some t)
  open_t = open_one s c roll live settled aimed keeps seat held runs

  alive : seat.condemned ≡ None
  alive = is_live s c roll live settled aimed keeps seat held runs

  planless : seat.hand.plan.pairs ≡ []
  planless = no_plan s c roll live settled aimed keeps seat held runs

  -- by the kind of its transaction
  phase_by : (k q : Kind) → seat.hand.phase ≡ phase.Running k → open_t.0.kind ≡ q → k ≡ q
  phase_by kind.ReadOnly q is has =
      sym (kind_of seat.transaction open_t.0 open_t.1 kind.ReadOnly (rests s c roll live settled aimed keeps seat held runs (phase.Running kind.ReadOnly) is).reader) ∙ has
  phase_by kind.ReadWrite q is has =
      sym (kind_of seat.transaction open_t.0 open_t.1 kind.ReadWrite (rests s c roll live settled aimed keeps seat held runs (phase.Running kind.ReadWrite) is).writer.0) ∙ has

  runs_as : (q : Kind) → open_t.0.kind ≡ q → seat.hand.phase ≡ phase.Running q
  runs_as q has = runs.1 ∙ ap phase.Running (phase_by runs.0 q runs.1 has)

  workless_now : (k : Kind) → seat.hand.phase ≡ phase.Running k → seat.hand.work ≡ None
  workless_now kind.ReadOnly is = (rests s c roll live settled aimed keeps seat held runs (phase.Running kind.ReadOnly) is).rest.work
  workless_now kind.ReadWrite is = (rests s c roll live settled aimed keeps seat held runs (phase.Running kind.ReadWrite) is).work

  none_works : seat.hand.work ≡ None
  none_works = workless_now runs.0 runs.1

  only : IsOnlyWriter s.transactions.manager s.transactions.registry.seats c.slot seat
  only = only_writer s.transactions.manager s.transactions.registry.seats keeps.single c.slot seat at

  furnished : IsFurnished s.schema s.transactions.manager (cell_count s.schema s.memory) seat
  furnished = whole.furnished c.slot seat at

  -- A transaction that only read ends.
  module _ (n : ℕ) (b : EndsRead s.transactions u c n) where
    read_moves : Moves s.transactions u c (ends_with_story s.transactions) (entry.Read (story_in c open_t.0 seat.hand) ∷ [])
    read_moves = b.moves seat open_t.0 held open_t.1

    reading : IsReading seat
    reading = rests s c roll live settled aimed keeps seat held runs (phase.Running kind.ReadOnly) (runs_as kind.ReadOnly (b.reads seat open_t.0 held open_t.1).0)

    read_clean : HasNothingLeft seat
    read_clean = record { plan = reading.rest.plan; undo = reading.rest.undo; own = reading.own }

    read_kept : Keeps (record s { transactions = u }) settled aimed
    read_kept =
        let t = s.transactions in
        kept_under s u settled aimed read_moves.manager
        (ends_kept s.schema t.manager (ground_in s.memory t.registry) (ground_in s.memory u.registry) c seat (ends_with_story t) whole.lawful (placed_in t.registry roll)
        (record { cells = record { image = λ i. refl; classes = λ i. refl }; held = held; records = ap (λ (r : Roll). r.seats) read_moves.registry })
        read_clean (told_over t.manager t.spare_undo seat read_clean none_works whole.sound.spare) s.counters.serials s.counters.ids.items settled aimed keeps)

    read_rooms : KeepRooms s.transactions u
    read_rooms =
        let t = s.transactions in
        ends_rooms t u c seat untold (entry.Read (story_in c open_t.0 seat.hand) ∷ []) read_moves
        (λ x has.
        let one : untold x ≡ untold seat = ap untold (same_seat t.registry.seats c x seat has held) in
        b.spare ∙ sym (ap (spare_left t.manager t.spare_undo) one
        ∙ left_by_reader t.manager t.spare_undo (untold seat) (reader_alone t.manager (untold seat) open_t.0 open_t.1 (b.reads seat open_t.0 held open_t.1).0)))
        held
        (record { plan = refl; undo = refl; writer = by_transaction t.manager (untold seat) seat refl; work = none_works; done = omega arith })
        (λ none. absurd (let no : entry.Read (story_in c open_t.0 seat.hand) ∷ [] ≡ [] = none in cc)) only

  -- Its story is moved out, or put back, and then it is marked, or rolls back.
  told_first : (f : Seat → Seat) → TellsAlone seat (f seat) → IsKept s.schema s.transactions.manager s.counters.serials s.counters.ids.items (ground_in s.memory (edited s.transactions.registry c.slot f)) settled aimed
  told_first f tells =
      told_kept s.schema s.transactions.manager (ground_in s.memory s.transactions.registry) (ground_in s.memory (edited s.transactions.registry c.slot f)) c seat f whole.lawful
      (record { cells = record { image = λ i. refl; classes = λ i. refl }; held = held; records = refl })
      tells s.counters.serials s.counters.ids.items settled aimed keeps

  not_idle : open_t.0.kind ≡ kind.ReadWrite → seat.hand.phase ≡ phase.Idle → ⊥
  not_idle writes idle = let no : phase.Running kind.ReadWrite ≡ phase.Idle = sym (runs_as kind.ReadWrite writes) ∙ idle in cc

  untold_tells : TellsAlone seat (untold seat)
  untold_tells = record { rest = refl; idle = λ idle. refl }

  retold_tells : open_t.0.kind ≡ kind.ReadWrite → TellsAlone seat (retold seat)
  retold_tells writes = record { rest = refl; idle = λ idle. absurd (not_idle writes idle) }

  held_after : (f : Seat → Seat) → ((x : Seat) → (f x).conn ≡ x.conn) → seat_of (edited s.transactions.registry c.slot f).seats c ≡ Some (f seat)
  held_after f keeps_conn = record_after s.transactions.registry.seats c f seat keeps_conn held

  -- marked, in the registry after
  marked_ground : (after : Roll) (commit : ℕ) → open_t.0.kind ≡ kind.ReadWrite → after ≡ edited s.transactions.registry c.slot (marks commit) →
      IsKept s.schema s.transactions.manager s.counters.serials s.counters.ids.items (ground_in s.memory after) (taken_over seat settled aimed) aimed
  marked_ground after commit writes is =
      marked_kept s.schema s.transactions.manager (ground_in s.memory (edited s.transactions.registry c.slot untold)) (ground_in s.memory after) c (untold seat) commit whole.lawful
      (record {
        cells = record { image = λ i. refl; classes = λ i. refl };
        held = held_after untold (λ x. refl);
        records = ap (λ (r : Roll). r.seats) is ∙ sym (twice s.transactions.registry.seats c.slot untold (becomes_marked commit));
      })
      alive (runs_as kind.ReadWrite writes) s.counters.serials s.counters.ids.items settled aimed (told_first untold untold_tells)

  mark_furnishes : (m : Manager) (commit : ℕ) → KeepsFurniture m seat (marks commit seat)
  mark_furnishes m commit = record { plan = refl; undo = refl; writer = marked_writer m commit seat; work = none_works; done = omega arith }

  -- It is marked, and has versions to be stamped.
  module _ (commit : ℕ) (b : IsMarked s.schema s.transactions u c commit) where
    mark_moves : Moves s.transactions u c (marks commit) (entry.Commit (story_in c open_t.0 seat.hand) commit ∷ [])
    mark_moves = b.marks_it.moves seat open_t.0 held open_t.1

    mark_kept : Keeps (record s { transactions = u }) (taken_over seat settled aimed) aimed
    mark_kept = kept_under s u (taken_over seat settled aimed) aimed mark_moves.manager (marked_ground u.registry commit (b.marks_it.writes seat open_t.0 held open_t.1) mark_moves.registry)

    mark_rooms : KeepRooms s.transactions u
    mark_rooms schema cells serials ids rooms =
        let t = s.transactions in
        let f = rooms.furnished c.slot seat at in
        let same = marked_writer t.manager commit seat in
        let few = planned_few schema t.manager cells seat f in
        same_rooms t u c.slot seat (marks commit seat) (entry.Commit (story_in c open_t.0 seat.hand) commit ∷ [])
        (moves_slot t u c seat (marks commit) (entry.Commit (story_in c open_t.0 seat.hand) commit ∷ []) mark_moves b.spare held) same
        (one_more (planned_by seat) (planned_by (marks commit seat)) few)
        schema cells serials ids rooms
        (record {
          plan = f.plan;
          undo = λ quiet. f.undo (sym same ∙ quiet);
          single = λ writes. f.single (sym same ∙ writes);
          work = λ work is. absurd (let no : None ≡ Some work = sym none_works ∙ is in cc);
          done = λ some. absurd (false≢true (ap is_some (sym none_works) ∙ some));
          own = λ some. absurd (false≢true (ap is_some (sym none_works) ∙ some));
          few = workless_few seat.hand.work none_works;
        })

  -- It is marked, and over.
  module _ (commit : ℕ) (b : Commits s.schema s.transactions u c commit) where
    commit_moves : Moves s.transactions u c (λ x. ends s.transactions (marks commit x)) (entry.Commit (story_in c open_t.0 seat.hand) commit ∷ [])
    commit_moves = b.marks_it.moves seat open_t.0 held open_t.1

    commit_clean : HasNothingLeft (marks commit seat)
    commit_clean = record { plan = planless; undo = refl; own = b.none_left seat open_t.0 held open_t.1 }

    placed_between : ArePlaced (edited s.transactions.registry c.slot (marks commit)).seats
    placed_between =
        let t = s.transactions in
        each_now (ground_in s.memory t.registry) (ground_in s.memory (edited t.registry c.slot (marks commit))) c.slot (Some seat) (Some (marks commit seat))
        (changes_replace (ground_in s.memory t.registry) (ground_in s.memory (edited t.registry c.slot (marks commit))) c seat (marks commit)
        (record { cells = record { image = λ i. refl; classes = λ i. refl }; held = held; records = refl }))
        (λ slot x. x.conn.slot ≡ slot) (λ slot x. x.conn.slot ≡ slot) (placed_in t.registry roll) (λ i x other has place. place)
        (of_one (λ (x : Seat). x.conn.slot ≡ c.slot) (marks commit seat) (placed_in t.registry roll c.slot seat at))

    commit_kept : Keeps (record s { transactions = u }) (taken_over seat settled aimed) aimed
    commit_kept =
        let t = s.transactions in
        kept_under s u (taken_over seat settled aimed) aimed commit_moves.manager
        (ends_kept s.schema t.manager (ground_in s.memory (edited t.registry c.slot (marks commit))) (ground_in s.memory u.registry) c (marks commit seat) (ends t) whole.lawful placed_between
        (record {
          cells = record { image = λ i. refl; classes = λ i. refl };
          held = held_after (marks commit) (λ x. refl);
          records = ap (λ (r : Roll). r.seats) commit_moves.registry ∙ sym (twice t.registry.seats c.slot (marks commit) (ends t));
        })
        commit_clean (closed_over t.manager t.spare_undo (marks commit seat) commit_clean none_works whole.sound.spare refl)
        s.counters.serials s.counters.ids.items (taken_over seat settled aimed) aimed
        (marked_ground (edited t.registry c.slot (marks commit)) commit (b.marks_it.writes seat open_t.0 held open_t.1) refl))

    commit_rooms : KeepRooms s.transactions u
    commit_rooms =
        ends_rooms s.transactions u c seat (marks commit) (entry.Commit (story_in c open_t.0 seat.hand) commit ∷ []) commit_moves b.spare held (mark_furnishes s.transactions.manager commit)
        (λ none. absurd (let no : entry.Commit (story_in c open_t.0 seat.hand) commit ∷ [] ≡ [] = none in cc)) only

  -- A later commit touches it, and it rolls back.
  module _ (commit operation : ℕ) (b : Conflicts s.schema s.transactions u c commit operation) where
    back_registry : u.registry ≡ edited (edited s.transactions.registry c.slot retold) c.slot (rolls_back s.transactions.manager (cause.Conflict commit operation))
    back_registry = b.moves.registry ∙ edited_twice s.transactions.registry c.slot retold (rolls_back s.transactions.manager (cause.Conflict commit operation))

    writes_too : open_t.0.kind ≡ kind.ReadWrite
    writes_too = b.writes seat open_t.0 held open_t.1

    conflict_kept : Keeps (record s { transactions = u }) settled (taken_over seat aimed settled)
    conflict_kept =
        let t = s.transactions in
        kept_under s u settled (taken_over seat aimed settled) b.moves.manager
        (back_kept s.schema t.manager (ground_in s.memory (edited t.registry c.slot retold)) (ground_in s.memory u.registry) c (retold seat) (cause.Conflict commit operation) whole.lawful
        (record { cells = record { image = λ i. refl; classes = λ i. refl }; held = held_after retold (λ x. refl); records = ap (λ (r : Roll). r.seats) back_registry })
        alive planless (inl (runs_as kind.ReadWrite writes_too)) s.counters.serials s.counters.ids.items settled aimed (told_first retold (retold_tells writes_too)))

    conflict_rooms : KeepRooms s.transactions u
    conflict_rooms schema cells serials ids rooms =
        let t = s.transactions in
        let mid = record t { registry = edited t.registry c.slot retold } in
        let f = rooms.furnished c.slot seat at in
        back_rooms mid u c (retold seat) (cause.Conflict commit operation)
        (record { manager = b.moves.manager; registry = back_registry; entries = b.moves.entries }) b.spare (held_after retold (λ x. refl)) schema cells serials ids
        (told_rooms t mid c seat retold (record { manager = refl; registry = refl; entries = sym (append-nil t.journal.entries) }) refl held (retold_tells writes_too)
        (record { grows = omega arith; few = f.few; room = λ some. absurd (false≢true (ap is_some (sym none_works) ∙ some)) })
        schema cells serials ids rooms)

module _ {P : Type 0} (s : State P) (u : Transactions) (c : ConnId) (whole : IsWhole s) (roll : IsRoll s.transactions.registry) (running : IsAllowed s.transactions c Runs) where
  -- what is settled and aimed at after, by the record that was found
  settled_at : (seat : Seat) → seat_of s.transactions.registry.seats c ≡ Some seat → (settled aimed : Versions) → Keeps (record s { transactions = u }) (taken_over seat settled aimed) aimed →
      Keeps (record s { transactions = u }) (settled_by_mark (seat_of s.transactions.registry.seats c) settled aimed) aimed
  settled_at seat held settled aimed keeps =
      subst (λ (o : Option Seat). Keeps (record s { transactions = u }) (settled_by_mark o settled aimed) aimed) (sym held) keeps

  aimed_at : (seat : Seat) → seat_of s.transactions.registry.seats c ≡ Some seat → (settled aimed : Versions) → Keeps (record s { transactions = u }) settled (taken_over seat aimed settled) →
      Keeps (record s { transactions = u }) settled (aimed_by_taking_back (seat_of s.transactions.registry.seats c) settled aimed)
  aimed_at seat held settled aimed keeps =
      subst (λ (o : Option Seat). Keeps (record s { transactions = u }) settled (aimed_by_taking_back o settled aimed)) (sym held) keeps

  pub commit_call_kept : (a : Answer) → CommitAnswer s.schema s.transactions u c a → (settled aimed : Versions) → Keeps s settled aimed →
      Keeps (record s { transactions = u }) (settled_by_committing a (seat_of s.transactions.registry.seats c) settled aimed) (aimed_by_committing a (seat_of s.transactions.registry.seats c) settled aimed)
  commit_call_kept (answer.Ready (outcome.Begun snapshot n)) b settled aimed keeps = absurd b
  commit_call_kept (answer.Ready (outcome.Did reply)) b settled aimed keeps = absurd b
  commit_call_kept (answer.Ready (outcome.Committed commit)) b settled aimed keeps =
      let found = of_held s.transactions.registry.seats c Runs (running b.marks_it.live) in
      settled_at found.0 found.1.0 settled aimed (commit_kept s u c whole roll b.marks_it.live settled aimed keeps found.0 found.1.0 found.1.1 commit b)
  commit_call_kept (answer.Ready (outcome.Ended n)) b settled aimed keeps =
      let found = of_held s.transactions.registry.seats c Runs (running b.live) in
      read_kept s u c whole roll b.live settled aimed keeps found.0 found.1.0 found.1.1 n b
  commit_call_kept (answer.Ready outcome.RolledBack) b settled aimed keeps = absurd b
  commit_call_kept (answer.Ready (outcome.Watching n)) b settled aimed keeps = absurd b
  commit_call_kept (answer.Ready (outcome.Event commit id)) b settled aimed keeps = absurd b
  commit_call_kept (answer.Ready (outcome.NoEvent n)) b settled aimed keeps = absurd b
  commit_call_kept (answer.Ready outcome.Closed) b settled aimed keeps = absurd b
  commit_call_kept answer.More b settled aimed keeps =
      let found = of_held s.transactions.registry.seats c Runs (running b.1.marks_it.live) in
      settled_at found.0 found.1.0 settled aimed (mark_kept s u c whole roll b.1.marks_it.live settled aimed keeps found.0 found.1.0 found.1.1 b.0 b.1)
  commit_call_kept (answer.Busy holder) b settled aimed keeps = absurd b
  commit_call_kept (answer.Conflict commit operation) b settled aimed keeps =
      let found = of_held s.transactions.registry.seats c Runs (running b.live) in
      aimed_at found.0 found.1.0 settled aimed (conflict_kept s u c whole roll b.live settled aimed keeps found.0 found.1.0 found.1.1 commit operation b)
  commit_call_kept (answer.Full need room) b settled aimed keeps = absurd b
  commit_call_kept (answer.Gone by n) b settled aimed keeps = kept_same s u (unchanged s.transactions u b.same) settled aimed keeps
  commit_call_kept answer.NoMemory b settled aimed keeps = absurd b

  pub commit_call_whole : (a : Answer) → CommitAnswer s.schema s.transactions u c a → IsKeptSomehow s → IsSound u → IsWhole (record s { transactions = u })
  commit_call_whole (answer.Ready (outcome.Begun snapshot n)) b kept sound = absurd b
  commit_call_whole (answer.Ready (outcome.Did reply)) b kept sound = absurd b
  commit_call_whole (answer.Ready (outcome.Committed commit)) b kept sound =
      let found = of_held s.transactions.registry.seats c Runs (running b.marks_it.live) in
      whole_moved s u whole (ap (λ (r : Roll). r.classes) (commit_moves s u c whole roll b.marks_it.live kept.0 kept.1 kept.2 found.0 found.1.0 found.1.1 commit b).registry) sound
      (commit_rooms s u c whole roll b.marks_it.live kept.0 kept.1 kept.2 found.0 found.1.0 found.1.1 commit b)
  commit_call_whole (answer.Ready (outcome.Ended n)) b kept sound =
      let found = of_held s.transactions.registry.seats c Runs (running b.live) in
      whole_moved s u whole (ap (λ (r : Roll). r.classes) (read_moves s u c whole roll b.live kept.0 kept.1 kept.2 found.0 found.1.0 found.1.1 n b).registry) sound
      (read_rooms s u c whole roll b.live kept.0 kept.1 kept.2 found.0 found.1.0 found.1.1 n b)
  commit_call_whole (answer.Ready outcome.RolledBack) b kept sound = absurd b
  commit_call_whole (answer.Ready (outcome.Watching n)) b kept sound = absurd b
  commit_call_whole (answer.Ready (outcome.Event commit id)) b kept sound = absurd b
  commit_call_whole (answer.Ready (outcome.NoEvent n)) b kept sound = absurd b
  commit_call_whole (answer.Ready outcome.Closed) b kept sound = absurd b
  commit_call_whole answer.More b kept sound =
      let found = of_held s.transactions.registry.seats c Runs (running b.1.marks_it.live) in
      whole_moved s u whole (ap (λ (r : Roll). r.classes) (mark_moves s u c whole roll b.1.marks_it.live kept.0 kept.1 kept.2 found.0 found.1.0 found.1.1 b.0 b.1).registry) sound
      (mark_rooms s u c whole roll b.1.marks_it.live kept.0 kept.1 kept.2 found.0 found.1.0 found.1.1 b.0 b.1)
  commit_call_whole (answer.Busy holder) b kept sound = absurd b
  commit_call_whole (answer.Conflict commit operation) b kept sound =
      let found = of_held s.transactions.registry.seats c Runs (running b.live) in
      whole_moved s u whole (ap (λ (r : Roll). r.classes) b.moves.registry) sound
      (conflict_rooms s u c whole roll b.live kept.0 kept.1 kept.2 found.0 found.1.0 found.1.1 commit operation b)
  commit_call_whole (answer.Full need room) b kept sound = absurd b
  commit_call_whole (answer.Gone by n) b kept sound = whole_moved s u whole (ap (λ x. x.registry.classes) b.same) sound (rooms_same s.transactions u (unchanged s.transactions u b.same))
  commit_call_whole answer.NoMemory b kept sound = absurd b
