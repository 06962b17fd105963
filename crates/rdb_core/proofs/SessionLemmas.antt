-- A connection begins a transaction, goes, or is condemned: what is kept of a World.
use Rattle.std.proofs.Common.{◌≡◌, ◌≢◌, ◌&&◌, ◌||◌, ◌==◌, ℕ, Bool, true, false, not, cond, List, [], length, Option, Some, None, IsSome, IsSomeAnd, is_some, option_map, ne_eqb, refl, sym, ap, subst, ◌∙◌}
use Rattle.std.proofs.lemmas.Bool.{false≢true}
use Rattle.std.specs.Option.{option_map_or}
use Rattle.rdb_base.specs.declared.identity.ConnId.{ConnId}
use Rattle.rdb_base.specs.declared.identity.Kind.{Kind}
use Rattle.rdb_base.specs.declared.identity.Kind.TheVariants as kind
use Rattle.rdb_base.specs.declared.identity.Manager.{Manager}
use Rattle.rdb_base.specs.declared.identity.Manager.TheVariants as manager
use Rattle.rdb_base.specs.declared.identity.Phase.{Phase}
use Rattle.rdb_base.specs.declared.identity.Phase.TheVariants as phase
use Rattle.rdb_base.specs.declared.journal.Entry.TheVariants as entry
use Rattle.rdb_model.specs.Journal.{commits}
use Rattle.rdb_mursiw.specs.Admission.{bars, bars_in, keeps_out}
use Rattle.rdb_registry.specs.declared.seat.Condemned.{Condemned}
use Rattle.rdb_registry.specs.declared.seat.Seat.{Seat}
use Rattle.rdb_registry.specs.declared.seat.Transaction.{Transaction}
use Rattle.rdb_registry.specs.Registry.{Roll, IsRoll}
use Rattle.rdb_registry.specs.Seats.{Seats, changed, may_write, seat_in, seat_of, with_condemned}
use Rattle.rdb_sight.specs.Versions.{Versions}
use Rattle.rdb_answers.specs.declared.answer.Answer.{Answer}
use Rattle.rdb_answers.specs.declared.answer.Answer.TheVariants as answer
use Rattle.rdb_answers.specs.declared.answer.Outcome.TheVariants as outcome
use Rattle.rdb_answers.specs.Begin.{BeginAnswer, Begins, IsBusy, LacksMemory}
use Rattle.rdb_answers.specs.Callers.{IsAllowed, IsFree, IsGone, IsIdle, IsLive}
use Rattle.rdb_answers.specs.Leave.{Closes, CondemnAnswer, DisconnectAnswer, IsCondemned}
use Rattle.rdb_transactions.specs.declared.transactions.Transactions.{Transactions}
use Rattle.rdb_transactions.specs.Moves.{Condemns, IsSame, Leaves, begins}
use Rattle.rdb_transactions.specs.Records.{exchanged, latched, opened}
use Rattle.rdb_transactions.specs.Sound.{IsSound}
use Rattle.rdb_transactions.proofs.EditLemmas.{has_from, of_held}
use Rattle.rdb_writes.proofs.WorkLemmas.{in_its_slot}
use Rattle.rdb_writes.specs.Steps.{spans_one_plan}
use Rattle.rdb_steps.specs.declared.state.State.{State}
use Rattle.rdb_steps.specs.Moves.{HasNothingLeft, MayBegin, aimed_without}
use Rattle.rdb_steps.specs.Phases.{IsIdle as IsResting, Rests, RestsIn}
use Rattle.rdb_steps.specs.Rooms.{KeepRooms}
use Rattle.rdb_steps.specs.States.{IsKeptSomehow, IsWhole, Keeps, ground_in}
use Rattle.rdb_steps.proofs.BeginLemmas.{begins_kept}
use Rattle.rdb_steps.proofs.ExchangeLemmas.{begins_rooms}
use Rattle.rdb_steps.proofs.IdleLemmas.{goes_kept}
use Rattle.rdb_steps.proofs.RoomLemmas.{closes_rooms, condemned_rooms}
use Rattle.rdb_steps.proofs.WithoutLemmas.{condemned_kept}
use Rattle.rdb_core.specs.Calls.{aimed_by_condemning, aimed_once_condemned}
use Rattle.rdb_core.proofs.MovedLemmas.{kept_same, kept_under, placed_in, rooms_same, unchanged, whole_moved}

-- each answer of `begin` that comes
module _ (t u : Transactions) (c : ConnId) (k : Kind) (Q : Type 0) (begun : (snapshot at : ℕ) → Begins t u c k snapshot at → Q) (same : IsSame t u → Q) where
  begin_cases : (a : Answer) → BeginAnswer t u c k a → Q
  begin_cases (answer.Ready (outcome.Begun snapshot at)) b = begun snapshot at b
  begin_cases (answer.Ready (outcome.Did reply)) b = absurd b
  begin_cases (answer.Ready (outcome.Committed commit)) b = absurd b
  begin_cases (answer.Ready (outcome.Ended at)) b = absurd b
  begin_cases (answer.Ready outcome.RolledBack) b = absurd b
  begin_cases (answer.Ready (outcome.Watching at)) b = absurd b
  begin_cases (answer.Ready (outcome.Event commit id)) b = absurd b
  begin_cases (answer.Ready (outcome.NoEvent at)) b = absurd b
  begin_cases (answer.Ready outcome.Closed) b = absurd b
  begin_cases answer.More b = absurd b
  begin_cases (answer.Busy holder) b = same (unchanged t u b.same)
  begin_cases (answer.Conflict commit operation) b = absurd b
  begin_cases (answer.Full need room) b = absurd b
  begin_cases (answer.Gone by at) b = same (unchanged t u b.same)
  begin_cases answer.NoMemory b = same b.same

single_is : (m : Manager) → spans_one_plan m ≡ false → m ≡ manager.Mursiw
single_is manager.Mursiw e = refl
single_is manager.Mvcc e = absurd (false≢true (sym e))

reads_only : (k : Kind) → may_write k ≡ false → k ≡ kind.ReadOnly
reads_only kind.ReadOnly e = refl
reads_only kind.ReadWrite e = absurd (false≢true (sym e))

neither : (a b : Bool) → (a || b) ≡ false → (a ≡ false) × (b ≡ false)
neither true b e = absurd (false≢true (sym e))
neither false b e = (refl, e)

then_not : (a b rest : Bool) → a ≡ false → (not (a && rest) && b) ≡ false → b ≡ false
then_not true b rest e n = absurd (false≢true (sym e))
then_not false b rest e n = n

-- who is free to begin finds only readers beside it, under the manager of a single writer
may_begin : (t : Transactions) (c : ConnId) (k : Kind) → IsRoll t.registry → IsFree t c k → MayBegin t.manager t.registry.seats c.slot k
may_begin t c k roll free single other seat open_one different at has =
    let clear : bars c k seat ≡ false = sym (ap (λ (o : Option Seat). option_map_or (bars c k) o false) at) ∙ free (single_is t.manager single) other in
    let place : seat.conn.slot ≡ other = (roll.seated other seat at).place in
    let apart : (seat.conn.slot == c.slot) ≡ false = ne_eqb seat.conn.slot c.slot (λ e. different (sym place ∙ e)) in
    let kept_out = then_not (seat.conn.slot == c.slot) (option_map_or (λ x. keeps_out k x.kind) seat.transaction false) (seat.conn.serial == c.serial) apart clear in
    let writes : (may_write k || may_write open_one.kind) ≡ false = sym (ap (λ (o : Option Transaction). option_map_or (λ x. keeps_out k x.kind) o false) has) ∙ kept_out in
    let both = neither (may_write k) (may_write open_one.kind) writes in
    (reads_only k both.0, reads_only open_one.kind both.1)

module _ {P : Type 0} (s : State P) (u : Transactions) (c : ConnId) (k : Kind) (whole : IsWhole s) (roll : IsRoll s.transactions.registry) (idle : IsAllowed s.transactions c IsIdle) where
  pub begin_kept : (a : Answer) → BeginAnswer s.transactions u c k a → (settled aimed : Versions) → Keeps s settled aimed → Keeps (record s { transactions = u }) settled aimed
  begin_kept a b settled aimed keeps = begin_cases s.transactions u c k (Keeps (record s { transactions = u }) settled aimed) begun (λ same. kept_same s u same settled aimed keeps) a b
    where
      begun : (snapshot at : ℕ) → Begins s.transactions u c k snapshot at → Keeps (record s { transactions = u }) settled aimed
      begun snapshot at b =
          let t = s.transactions in
          let held = of_held t.registry.seats c IsIdle (idle b.live) in
          kept_under s u settled aimed b.moves.manager
          (begins_kept s.schema t.manager (ground_in s.memory t.registry) (ground_in s.memory u.registry) c held.0 k (length t.journal.entries) (commits t.journal.entries) t.spare_undo whole.lawful
          (placed_in t.registry roll)
          (record {
            cells = record { image = λ n. refl; classes = λ n. refl };
            held = held.1.0;
            records = ap (λ (r : Roll). r.seats) b.moves.registry
                ∙ ap (λ (n : ℕ). changed t.registry.seats c.slot (λ x. exchanged t.manager t.spare_undo (latched t.manager n (opened k (length t.journal.entries) (commits t.journal.entries) x)))) whole.classes;
          })
          held.1.1 whole.sound.spare (may_begin t c k roll b.free) s.counters.serials s.counters.ids.items settled aimed keeps)

  pub begin_whole : (a : Answer) → BeginAnswer s.transactions u c k a → IsKeptSomehow s → IsSound u → IsWhole (record s { transactions = u })
  begin_whole a b kept sound = begin_cases s.transactions u c k (IsWhole (record s { transactions = u })) begun (λ same. whole_moved s u whole (ap (λ (r : Roll). r.classes) same.registry) sound (rooms_same s.transactions u same)) a b
    where
      begun : (snapshot at : ℕ) → Begins s.transactions u c k snapshot at → IsWhole (record s { transactions = u })
      begun snapshot at b =
          let t = s.transactions in
          let held = of_held t.registry.seats c IsIdle (idle b.live) in
          let rests : Rests t.manager (length s.schema.classes) held.0 = kept.2.rests c.slot held.0 (in_its_slot t.registry.seats c held.0 held.1.0) in
          whole_moved s u whole (ap (λ (r : Roll). r.classes) b.moves.registry) sound
          (begins_rooms t u c held.0 k b.moves b.spare held.1.0 (subst (λ (p : Phase). RestsIn t.manager (length s.schema.classes) held.0 p) held.1.1 rests) (may_begin t c k roll b.free))

-- each answer of `disconnect` that comes
module _ (t u : Transactions) (c : ConnId) (Q : Type 0) (closes : Closes t u c → Q) (same : u ≡ t → Q) where
  disconnect_cases : (a : Answer) → DisconnectAnswer t u c a → Q
  disconnect_cases (answer.Ready (outcome.Begun snapshot at)) b = absurd b
  disconnect_cases (answer.Ready (outcome.Did reply)) b = absurd b
  disconnect_cases (answer.Ready (outcome.Committed commit)) b = absurd b
  disconnect_cases (answer.Ready (outcome.Ended at)) b = absurd b
  disconnect_cases (answer.Ready outcome.RolledBack) b = absurd b
  disconnect_cases (answer.Ready (outcome.Watching at)) b = absurd b
  disconnect_cases (answer.Ready (outcome.Event commit id)) b = absurd b
  disconnect_cases (answer.Ready (outcome.NoEvent at)) b = absurd b
  disconnect_cases (answer.Ready outcome.Closed) b = closes b
  disconnect_cases answer.More b = absurd b
  disconnect_cases (answer.Busy holder) b = absurd b
  disconnect_cases (answer.Conflict commit operation) b = absurd b
  disconnect_cases (answer.Full need room) b = absurd b
  disconnect_cases (answer.Gone by at) b = same b.same
  disconnect_cases answer.NoMemory b = absurd b

-- an idle record has nothing left
nothing_left : (seat : Seat) → IsResting seat → HasNothingLeft seat
nothing_left seat idle = record { plan = idle.rest.plan; undo = idle.rest.undo; own = idle.own }

module _ {P : Type 0} (s : State P) (u : Transactions) (c : ConnId) (whole : IsWhole s) (roll : IsRoll s.transactions.registry) (idle : IsAllowed s.transactions c IsIdle) where
  resting : IsLive s.transactions c → IsKeptSomehow s → (seat : Seat) × (seat_of s.transactions.registry.seats c ≡ Some seat) × IsResting seat
  resting live kept =
      let held = of_held s.transactions.registry.seats c IsIdle (idle live) in (
        held.0,
        held.1.0,
        subst (λ (p : Phase). RestsIn s.transactions.manager (length s.schema.classes) held.0 p) held.1.1
            (kept.2.rests c.slot held.0 (in_its_slot s.transactions.registry.seats c held.0 held.1.0)),
      )

  pub disconnect_kept : (a : Answer) → DisconnectAnswer s.transactions u c a → (settled aimed : Versions) → Keeps s settled aimed → Keeps (record s { transactions = u }) settled aimed
  disconnect_kept a b settled aimed keeps =
      disconnect_cases s.transactions u c (Keeps (record s { transactions = u }) settled aimed) closes (λ same. kept_same s u (unchanged s.transactions u same) settled aimed keeps) a b
    where
      closes : Closes s.transactions u c → Keeps (record s { transactions = u }) settled aimed
      closes b =
          let t = s.transactions in
          let held = resting b.live (settled, aimed, keeps) in
          kept_under s u settled aimed b.leaves.manager
          (goes_kept s.schema t.manager (ground_in s.memory t.registry) (ground_in s.memory u.registry) c.slot held.0 whole.lawful (placed_in t.registry roll)
          (record {
            cells = record { image = λ n. refl; classes = λ n. refl };
            held = in_its_slot t.registry.seats c held.0 held.1;
            undo = held.2.rest.undo;
            records = ap (λ (r : Roll). r.seats) b.leaves.registry;
          })
          (nothing_left held.0 held.2) s.counters.serials s.counters.ids.items settled aimed keeps)

  pub disconnect_whole : (a : Answer) → DisconnectAnswer s.transactions u c a → IsKeptSomehow s → IsSound u → IsWhole (record s { transactions = u })
  disconnect_whole a b kept sound =
      disconnect_cases s.transactions u c (IsWhole (record s { transactions = u })) closes
      (λ same. whole_moved s u whole (ap (λ x. x.registry.classes) same) sound (rooms_same s.transactions u (unchanged s.transactions u same))) a b
    where
      closes : Closes s.transactions u c → IsWhole (record s { transactions = u })
      closes b =
          let held = resting b.live kept in
          whole_moved s u whole (ap (λ (r : Roll). r.classes) b.leaves.registry) sound
          (closes_rooms s.transactions u c (entry.Closed c.slot) held.0 b.leaves b.spare held.1 held.2.transaction)

-- A connection is condemned.
module _ {P : Type 0} (s : State P) (u : Transactions) (by d : ConnId) (whole : IsWhole s) where
  condemned_now : (seat : Seat) → seat_of s.transactions.registry.seats d ≡ Some seat → IsCondemned s.transactions u by d → (settled aimed : Versions) → Keeps s settled aimed →
      Keeps (record s { transactions = u }) settled (cond (is_some seat.condemned) aimed (aimed_without seat settled aimed))
  condemned_now seat at b settled aimed keeps = go seat.condemned refl
    where
      go : (o : Option Condemned) → seat.condemned ≡ o → Keeps (record s { transactions = u }) settled (cond (is_some o) aimed (aimed_without seat settled aimed))
      go (Some one) is =
          kept_same s u
          (b.again (has_from s.transactions.registry.seats d (λ x. IsSome x.condemned) seat at (subst (λ (o : Option Condemned). IsSome o) (sym is) refl)))
          settled aimed keeps
      go None is =
          let t = s.transactions in
          let condemns = b.first (has_from t.registry.seats d (λ x. x.condemned ≡ None) seat at is) in
          kept_under s u settled (aimed_without seat settled aimed) condemns.manager
          (condemned_kept s.schema t.manager (ground_in s.memory t.registry) (ground_in s.memory u.registry) d seat (record { by = by; at = length t.journal.entries }) whole.lawful
          (record {
            cells = record { image = λ n. refl; classes = λ n. refl };
            held = at;
            records = ap (λ (r : Roll). r.seats) condemns.registry;
          })
          is s.counters.serials s.counters.ids.items settled aimed keeps)

  condemned_one : (o : Option Seat) → seat_of s.transactions.registry.seats d ≡ o → IsCondemned s.transactions u by d → (settled aimed : Versions) → Keeps s settled aimed →
      Keeps (record s { transactions = u }) settled (aimed_once_condemned o settled aimed)
  condemned_one None at b settled aimed keeps = kept_same s u (b.absent at) settled aimed keeps
  condemned_one (Some seat) at b settled aimed keeps = condemned_now seat at b settled aimed keeps

  pub condemn_kept : (a : Answer) → CondemnAnswer s.transactions u by d a → (settled aimed : Versions) → Keeps s settled aimed →
      Keeps (record s { transactions = u }) settled (aimed_by_condemning a (seat_of s.transactions.registry.seats d) settled aimed)
  condemn_kept (answer.Ready (outcome.Begun snapshot at)) b settled aimed keeps = absurd b
  condemn_kept (answer.Ready (outcome.Did reply)) b settled aimed keeps = absurd b
  condemn_kept (answer.Ready (outcome.Committed commit)) b settled aimed keeps = absurd b
  condemn_kept (answer.Ready (outcome.Ended at)) b settled aimed keeps = absurd b
  condemn_kept (answer.Ready outcome.RolledBack) b settled aimed keeps = condemned_one (seat_of s.transactions.registry.seats d) refl b settled aimed keeps
  condemn_kept (answer.Ready (outcome.Watching at)) b settled aimed keeps = absurd b
  condemn_kept (answer.Ready (outcome.Event commit id)) b settled aimed keeps = absurd b
  condemn_kept (answer.Ready (outcome.NoEvent at)) b settled aimed keeps = absurd b
  condemn_kept (answer.Ready outcome.Closed) b settled aimed keeps = absurd b
  condemn_kept answer.More b settled aimed keeps = absurd b
  condemn_kept (answer.Busy holder) b settled aimed keeps = absurd b
  condemn_kept (answer.Conflict commit operation) b settled aimed keeps = absurd b
  condemn_kept (answer.Full need room) b settled aimed keeps = absurd b
  condemn_kept (answer.Gone who at) b settled aimed keeps = kept_same s u (unchanged s.transactions u b.same) settled aimed keeps
  condemn_kept answer.NoMemory b settled aimed keeps = absurd b

  rooms_condemned : (o : Option Seat) → seat_of s.transactions.registry.seats d ≡ o → IsCondemned s.transactions u by d → KeepRooms s.transactions u × (u.registry.classes ≡ s.transactions.registry.classes)
  rooms_condemned None at b = (rooms_same s.transactions u (b.absent at), ap (λ (r : Roll). r.classes) (b.absent at).registry)
  rooms_condemned (Some seat) at b = go seat.condemned refl
    where
      go : (o : Option Condemned) → seat.condemned ≡ o → KeepRooms s.transactions u × (u.registry.classes ≡ s.transactions.registry.classes)
      go (Some one) is =
          let same = b.again (has_from s.transactions.registry.seats d (λ x. IsSome x.condemned) seat at (subst (λ (o : Option Condemned). IsSome o) (sym is) refl)) in
          (rooms_same s.transactions u same, ap (λ (r : Roll). r.classes) same.registry)
      go None is =
          let condemns = b.first (has_from s.transactions.registry.seats d (λ x. x.condemned ≡ None) seat at is) in
          (condemned_rooms s.transactions u d by seat condemns at, ap (λ (r : Roll). r.classes) condemns.registry)

  pub condemn_whole : (a : Answer) → CondemnAnswer s.transactions u by d a → IsSound u → IsWhole (record s { transactions = u })
  condemn_whole (answer.Ready (outcome.Begun snapshot at)) b sound = absurd b
  condemn_whole (answer.Ready (outcome.Did reply)) b sound = absurd b
  condemn_whole (answer.Ready (outcome.Committed commit)) b sound = absurd b
  condemn_whole (answer.Ready (outcome.Ended at)) b sound = absurd b
  condemn_whole (answer.Ready outcome.RolledBack) b sound =
      let rooms = rooms_condemned (seat_of s.transactions.registry.seats d) refl b in
      whole_moved s u whole rooms.1 sound rooms.0
  condemn_whole (answer.Ready (outcome.Watching at)) b sound = absurd b
  condemn_whole (answer.Ready (outcome.Event commit id)) b sound = absurd b
  condemn_whole (answer.Ready (outcome.NoEvent at)) b sound = absurd b
  condemn_whole (answer.Ready outcome.Closed) b sound = absurd b
  condemn_whole answer.More b sound = absurd b
  condemn_whole (answer.Busy holder) b sound = absurd b
  condemn_whole (answer.Conflict commit operation) b sound = absurd b
  condemn_whole (answer.Full need room) b sound = absurd b
  condemn_whole (answer.Gone who at) b sound = whole_moved s u whole (ap (λ x. x.registry.classes) b.same) sound (rooms_same s.transactions u (unchanged s.transactions u b.same))
  condemn_whole answer.NoMemory b sound = absurd b
