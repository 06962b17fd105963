-- What every step keeps, as a condemned connection gives up its plan, its operation in work and its latches.
use Rattle.std.proofs.Common.{◌≡◌, ◌⊎◌, ℕ, List, [], length, Bool, true, false, not, Option, Some, None, IsSome, IsSomeAnd, is_some, refl, sym, ap, subst, ◌∙◌, arith, inl, inr}
use Rattle.std.proofs.lemmas.Bool.{false≢true}
use Rattle.rdb_base.specs.declared.identity.ConnId.{ConnId}
use Rattle.rdb_base.specs.declared.identity.Kind.TheVariants as kind
use Rattle.rdb_base.specs.declared.identity.Manager.{Manager}
use Rattle.rdb_base.specs.declared.identity.Phase.{Phase}
use Rattle.rdb_base.specs.declared.identity.Phase.TheVariants as phase
use Rattle.rdb_base.specs.Room.{Reserved}
use Rattle.rdb_schema.specs.declared.schema.Schema.{Schema}
use Rattle.rdb_cells.specs.declared.pairs.Pair.{Pair}
use Rattle.rdb_cells.specs.Records.{Record, names}
use Rattle.rdb_cells.proofs.SettledLemmas.{true_or_false}
use Rattle.rdb_registry.specs.declared.hand.Hand.{Hand}
use Rattle.rdb_registry.specs.declared.hand.Work.{Work}
use Rattle.rdb_registry.specs.declared.own_writes.OwnWrite.{OwnWrite}
use Rattle.rdb_registry.specs.declared.seat.Condemned.{Condemned}
use Rattle.rdb_registry.specs.declared.seat.Seat.{Seat}
use Rattle.rdb_registry.specs.Registry.{Roll, IsRoll}
use Rattle.rdb_registry.specs.Seats.{Seats, IsHeld, seat_in, seat_of, changed, with_hand, with_latches}
use Rattle.rdb_registry.proofs.SlotLemmas.{some_and_of}
use Rattle.rdb_sight.specs.Versions.{Versions}
use Rattle.rdb_space.specs.Memory.{RegionCells}
use Rattle.rdb_transactions.specs.declared.transactions.Transactions.{Transactions}
use Rattle.rdb_transactions.specs.Hands.{given_up}
use Rattle.rdb_transactions.specs.Records.{edited, on_hand}
use Rattle.rdb_transactions.proofs.EditLemmas.{alike, held_after, then_edited, twice, unedited}
use Rattle.rdb_writes.specs.Changes.{ChangesHand}
use Rattle.rdb_writes.specs.Grounds.{Ground, AreWorks, HaveOneHolder, HasPlaces, WorksOn}
use Rattle.rdb_writes.proofs.ChangeLemmas.{hand_works}
use Rattle.rdb_writes.proofs.WorkLemmas.{in_its_slot}
use Rattle.rdb_steps.specs.Invariant.{IsKept}
use Rattle.rdb_steps.specs.Kept.{Agrees, IsLawful, OwnAre, is_dropping, is_marked, takes_back}
use Rattle.rdb_steps.specs.Lists.{taken_over}
use Rattle.rdb_steps.specs.Phases.{IsAtRest, Rests, RestsIn}
use Rattle.rdb_steps.specs.Repairs.{Repairs, set_free}
use Rattle.rdb_steps.specs.States.{ground_in}
use Rattle.rdb_steps.specs.Steps.{aimed_by_taking_back}
use Rattle.rdb_steps.proofs.BackLemmas.{back_kept, own_back, own_marked, silent}
use Rattle.rdb_steps.proofs.HandKept.{or_first, turned_by, turned_then}
use Rattle.rdb_steps.proofs.HandLemmas.{plan_given_up}
use Rattle.rdb_steps.proofs.KeptLemmas.{Turns, ArePlaced, holders_turned}
use Rattle.rdb_steps.proofs.LatchLemmas.{latches_given_up}
use Rattle.rdb_steps.proofs.MixLemmas.{taken_twice}
use Rattle.rdb_steps.proofs.ReleaseLemmas.{with_seats, no_latches}
use Rattle.rdb_steps.proofs.RestLemmas.{HasWriter, writer_of}
use Rattle.rdb_steps.proofs.TakenLemmas.{taken_none}

-- who was condemned isn't live
pub not_live : (o : Option Condemned) → IsSome o → o ≡ None → ⊥
not_live None some e = false≢true some
not_live (Some x) some e = absurd cc

-- What is left of a condemned record, its operation in work and its plan being given up: where it had nothing to take back, all else that it
-- had in hand but its latches, which are given up.
pub rests_repaired : (manager : Manager) (classes : ℕ) (seat : Seat) (latches : ℕ) (undo plan : Record) (own : Reserved OwnWrite) → IsSome seat.condemned → plan.pairs ≡ [] →
    (seat.hand.undo.pairs ≡ [] → (latches ≡ 0) × (undo ≡ seat.hand.undo) × (own ≡ seat.hand.own)) → Rests manager classes seat →
    Rests manager classes (record seat { latches = latches; hand = record seat.hand { undo = undo; plan = plan; work = None; own = own } })
rests_repaired manager classes seat latches undo plan own condemned no_plan rest rests = go seat.hand.phase rests
  where
    go : (p : Phase) → RestsIn manager classes seat p → RestsIn manager classes (record seat { latches = latches; hand = record seat.hand { undo = undo; plan = plan; work = None; own = own } }) p
    go phase.Idle q = let r = rest q.rest.undo in record {
      rest = record { latches = r.0; plan = no_plan; undo = ap (λ (x : Record). x.pairs) r.1 ∙ q.rest.undo; work = refl };
      transaction = q.transaction;
      own = ap (λ (x : Reserved OwnWrite). x.items) r.2 ∙ q.own;
      done = q.done;
      cause = q.cause;
    }
    go (phase.Running kind.ReadOnly) q = let r = rest q.rest.undo in record {
      rest = record { latches = r.0; plan = no_plan; undo = ap (λ (x : Record). x.pairs) r.1 ∙ q.rest.undo; work = refl };
      reader = q.reader;
      own = ap (λ (x : Reserved OwnWrite). x.items) r.2 ∙ q.own;
      cause = q.cause;
    }
    go (phase.Running kind.ReadWrite) q = record {
      writer = q.writer;
      work = refl;
      cause = q.cause;
      plan = λ live. no_plan;
      undo = λ live. absurd (not_live seat.condemned condemned live);
      latches = λ live. absurd (not_live seat.condemned condemned live);
    }
    go phase.Writing q = record {
      writer = q.writer;
      cause = q.cause;
      work = λ live. absurd (not_live seat.condemned condemned live);
      one = λ live. absurd (not_live seat.condemned condemned live);
      undo = λ live. absurd (not_live seat.condemned condemned live);
      latch = λ work had. absurd (let no : None ≡ Some work = had in cc);
      unplanned = λ work live. absurd (not_live seat.condemned condemned live);
      all = λ live. absurd (not_live seat.condemned condemned live);
    }
    go phase.RollingBack q = record {
      writer = q.writer;
      work = refl;
      cause = q.cause;
      free = λ live. absurd (not_live seat.condemned condemned live);
      plan = λ single live. no_plan;
      all = λ single live. absurd (not_live seat.condemned condemned live);
    }
    go phase.Stamping q = let r = rest q.undo in record {
      writer = q.writer;
      work = refl;
      plan = no_plan;
      undo = ap (λ (x : Record). x.pairs) r.1 ∙ q.undo;
      latches = λ many. r.0;
    }
    go phase.Condemned q = absurd q
    go phase.Absent q = absurd q

-- a record is a writer's, or at rest
pub writer_or_rest : (manager : Manager) (classes : ℕ) (seat : Seat) → Rests manager classes seat → HasWriter seat ⊎ IsAtRest seat
writer_or_rest manager classes seat rests = go seat.hand.phase rests
  where
    go : (p : Phase) → RestsIn manager classes seat p → HasWriter seat ⊎ IsAtRest seat
    go phase.Idle q = inr q.rest
    go (phase.Running kind.ReadOnly) q = inr q.rest
    go (phase.Running kind.ReadWrite) q = inl (writer_of seat false q.writer)
    go phase.Writing q = inl (writer_of seat false q.writer)
    go phase.RollingBack q = inl (writer_of seat false q.writer)
    go phase.Stamping q = inl (writer_of seat true q.writer)
    go phase.Condemned q = absurd q
    go phase.Absent q = absurd q

-- one at rest has nothing to give up
free_already : (seat : Seat) → IsAtRest seat → set_free seat ≡ seat
free_already seat rest = λ i. record seat {
  latches = sym rest.latches i;
  hand = record seat.hand { plan = record seat.hand.plan { pairs = sym rest.plan i }; work = sym rest.work i };
}

-- a plan and an operation in work are given up
module _ (schema : Schema) (manager : Manager) (g : Ground) (c : ConnId) (seat : Seat) (lawful : IsLawful schema) (works : AreWorks g) (one : HaveOneHolder g.seats) (held : seat_of g.seats c ≡ Some seat) where
  at : seat_in g.seats c.slot ≡ Some seat
  at = in_its_slot g.seats c seat held

  still_on : (n : ℕ) → WorksOn (given_up seat.hand) n → WorksOn seat.hand n
  still_on n (inl logged) = inl logged
  still_on n (inr planned) = absurd (let none : names [] n ≡ true = planned in cc)

  gives : ChangesHand g (with_seats g (with_hand g.seats c.slot (given_up seat.hand))) c seat (given_up seat.hand)
  gives = record {
    cells = record { image = λ n. refl; classes = λ n. refl };
    held = held;
    records = refl;
    latched = λ n on. (works c.slot seat at).latched n (still_on n on);
    places = let had = (works c.slot seat at).places in omega (arith, had);
  }

  works_given : AreWorks (with_seats g (with_hand g.seats c.slot (given_up seat.hand)))
  works_given = hand_works g (with_seats g (with_hand g.seats c.slot (given_up seat.hand))) c seat (given_up seat.hand) works one gives

  pub turns_given : Turns g.seats (with_hand g.seats c.slot (given_up seat.hand)) c.slot seat (on_hand given_up seat)
  turns_given = turned_by g.seats (with_hand g.seats c.slot (given_up seat.hand)) c seat (λ (s : Seat). record s { hand = given_up seat.hand }) at refl refl refl (λ class has. has)

  pub turns_free : Turns g.seats (changed (with_hand g.seats c.slot (given_up seat.hand)) c.slot (with_latches 0)) c.slot seat (set_free seat)
  turns_free = turned_then turns_given
      (turned_by (with_hand g.seats c.slot (given_up seat.hand)) (changed (with_hand g.seats c.slot (given_up seat.hand)) c.slot (with_latches 0)) c (on_hand given_up seat) (with_latches 0) turns_given.is refl refl refl
      (λ class has. absurd (no_latches (on_hand given_up seat) class has)))

  -- and latches, where nothing is left to take back
  pub free_lists : seat.hand.undo.pairs ≡ [] → takes_back manager (on_hand given_up seat) ≡ true → (settled aimed : Versions) → Agrees schema manager g settled aimed →
      Agrees schema manager (with_seats g (changed (with_hand g.seats c.slot (given_up seat.hand)) c.slot (with_latches 0))) settled (taken_over seat aimed settled)
  free_lists empty taking settled aimed agrees =
      subst (λ (vs : Versions). Agrees schema manager (with_seats g (changed (with_hand g.seats c.slot (given_up seat.hand)) c.slot (with_latches 0))) settled vs)
      (taken_twice seat settled aimed)
      (latches_given_up schema manager (with_seats g (with_hand g.seats c.slot (given_up seat.hand))) (with_seats g (changed (with_hand g.seats c.slot (given_up seat.hand)) c.slot (with_latches 0))) c.slot (on_hand given_up seat) 0 lawful works_given
      (record {
        cells = record { image = λ n. refl; classes = λ n. refl };
        held = turns_given.is;
        records = refl;
        latched = λ n on. absurd (idle n on);
      })
      (λ class. no_latches (on_hand given_up seat) class)
      (holders_turned g.seats (with_hand g.seats c.slot (given_up seat.hand)) c.slot seat (on_hand given_up seat) turns_given one)
      settled (taken_over seat aimed settled)
      (plan_given_up schema manager g (with_seats g (with_hand g.seats c.slot (given_up seat.hand))) c seat (given_up seat.hand) lawful one works gives refl refl
      (silent manager (on_hand given_up seat) refl taking) settled aimed agrees))
    where
      idle : (n : ℕ) → WorksOn (given_up seat.hand) n → ⊥
      idle n (inl logged) = let none : names [] n ≡ true = ap (λ (ps : List Pair). names ps n) (sym empty) ∙ logged in cc
      idle n (inr planned) = let none : names [] n ≡ true = planned in cc

-- of who was condemned and has nothing to take back, the own writes are what they were
own_freed : (manager : Manager) (seat : Seat) (settled aimed aimed_now : Versions) → seat.hand.undo.pairs ≡ [] → takes_back manager (set_free seat) ≡ true → OwnAre manager seat settled aimed → OwnAre manager (set_free seat) settled aimed_now
own_freed manager seat settled aimed aimed_now empty taking own = elim (true_or_false (is_marked seat)) [
  | inl marked ↦ own_marked manager seat (set_free seat) refl refl settled aimed aimed_now own taking marked refl
  | inr unmarked ↦ own_back manager seat (set_free seat) refl refl settled aimed aimed_now own taking unmarked (λ many. refl) (λ single none. own.none_logged single unmarked empty)
]

module _ (schema : Schema) (manager : Manager) (serials : ℕ) (ids : List ℕ) (memory : RegionCells) (roll mid : Roll) (c : ConnId) (seat : Seat) (lawful : IsLawful schema) (sound : IsRoll roll) (held : seat_of roll.seats c ≡ Some seat) (gives : mid ≡ edited roll c.slot (on_hand given_up)) (condemned : IsSome seat.condemned) (empty : seat.hand.undo.pairs ≡ []) (settled aimed : Versions) (kept : IsKept schema manager serials ids (ground_in memory roll) settled aimed) where
  mid_is : mid.seats ≡ with_hand roll.seats c.slot (given_up seat.hand)
  mid_is = ap (λ (r : Roll). r.seats) gives ∙ alike roll.seats c.slot seat (on_hand given_up) (λ (s : Seat). record s { hand = given_up seat.hand }) (in_its_slot roll.seats c seat held) refl

  -- the latches too
  pub seats_are : changed mid.seats c.slot (with_latches 0) ≡ changed roll.seats c.slot set_free
  seats_are = ap (λ (seats : Seats). changed seats c.slot (with_latches 0)) (ap (λ (r : Roll). r.seats) gives) ∙ twice roll.seats c.slot (on_hand given_up) (with_latches 0)

  taking : takes_back manager (set_free seat) ≡ true
  taking = or_first (is_some seat.condemned) _ condemned

  freed_writer : HasWriter seat → IsKept schema manager serials ids (with_seats (ground_in memory roll) (changed (with_hand roll.seats c.slot (given_up seat.hand)) c.slot (with_latches 0))) settled (taken_over seat aimed settled)
  freed_writer writer =
      back_kept schema manager serials ids (ground_in memory roll) (with_seats (ground_in memory roll) (changed (with_hand roll.seats c.slot (given_up seat.hand)) c.slot (with_latches 0))) c.slot seat (set_free seat)
      (turns_free schema manager (ground_in memory roll) c seat lawful kept.agrees.works kept.one_holder held) settled aimed kept
      writer.transaction writer.open_one writer.writes (λ i s there. (sound.seated i s there).place)
      (free_lists schema manager (ground_in memory roll) c seat lawful kept.agrees.works kept.one_holder held empty taking settled aimed kept.agrees)
      (own_freed manager seat settled aimed (taken_over seat aimed settled) empty taking (kept.own c.slot seat (in_its_slot roll.seats c seat held))) refl taking
      (rests_repaired manager (length schema.classes) seat 0 seat.hand.undo (record seat.hand.plan { pairs = [] }) seat.hand.own condemned refl (λ none. (refl, refl, refl)) (kept.rests c.slot seat (in_its_slot roll.seats c seat held)))

  freed_rest : IsAtRest seat → IsKept schema manager serials ids (with_seats (ground_in memory roll) (changed (with_hand roll.seats c.slot (given_up seat.hand)) c.slot (with_latches 0))) settled (taken_over seat aimed settled)
  freed_rest rest =
      subst (λ (vs : Versions). IsKept schema manager serials ids (with_seats (ground_in memory roll) (changed (with_hand roll.seats c.slot (given_up seat.hand)) c.slot (with_latches 0))) settled vs)
      (sym (taken_none seat aimed settled rest.latches))
      (subst (λ (seats : Seats). IsKept schema manager serials ids (with_seats (ground_in memory roll) seats) settled aimed)
      (ap (λ (r : Roll). r.seats) (unedited roll c seat set_free held (free_already seat rest))
      ∙ sym seats_are
      ∙ ap (λ (seats : Seats). changed seats c.slot (with_latches 0)) mid_is)
      kept)

  pub freed_kept : IsKept schema manager serials ids (ground_in memory (record mid { seats = changed mid.seats c.slot (with_latches 0) })) settled (aimed_by_taking_back (seat_of roll.seats c) settled aimed)
  freed_kept =
      subst (λ (vs : Versions). IsKept schema manager serials ids (with_seats (ground_in memory roll) (changed mid.seats c.slot (with_latches 0))) settled vs)
      (sym (ap (λ (o : Option Seat). aimed_by_taking_back o settled aimed) held))
      (subst (λ (seats : Seats). IsKept schema manager serials ids (with_seats (ground_in memory roll) (changed seats c.slot (with_latches 0))) settled (taken_over seat aimed settled)) (sym mid_is)
      (elim (writer_or_rest manager (length schema.classes) seat (kept.rests c.slot seat (in_its_slot roll.seats c seat held))) [
        | inl writer ↦ freed_writer writer
        | inr rest ↦ freed_rest rest
      ]))

module _ (t u : Transactions) (c : ConnId) (gives : IsSomeAnd (seat_of t.registry.seats c) (λ seat. Repairs t u c seat (on_hand given_up))) where
  found : (seat : Seat) × ((seat_of t.registry.seats c ≡ Some seat) × Repairs t u c seat (on_hand given_up))
  found = some_and_of (λ (seat : Seat). Repairs t u c seat (on_hand given_up)) (seat_of t.registry.seats c) gives

  of_found : (Q : Seat → Type 0) → IsSomeAnd (seat_of t.registry.seats c) Q → Q found.0
  of_found Q h = subst (λ (o : Option Seat). IsSomeAnd o Q) found.1.0 h

  pub still_held : IsHeld u.registry.seats c
  still_held =
      subst (λ (r : Roll). IsHeld r.seats c) (sym found.1.1.registry)
      (held_after t.registry.seats c (on_hand given_up) (λ s. refl) (subst (λ (o : Option Seat). IsSome o) (sym found.1.0) refl))

  pub state_freed : (schema : Schema) (serials : ℕ) (ids : List ℕ) (memory : RegionCells) → IsLawful schema → IsRoll t.registry →
      IsSomeAnd (seat_of t.registry.seats c) (λ seat. IsSome seat.condemned) → IsSomeAnd (seat_of t.registry.seats c) (λ seat. seat.hand.undo.pairs ≡ []) →
      (settled aimed : Versions) → IsKept schema t.manager serials ids (ground_in memory t.registry) settled aimed →
      IsKept schema u.manager serials ids (ground_in memory (record u.registry { seats = changed u.registry.seats c.slot (with_latches 0) })) settled (aimed_by_taking_back (seat_of t.registry.seats c) settled aimed)
  state_freed schema serials ids memory lawful sound condemned empty settled aimed kept =
      subst (λ (m : Manager). IsKept schema m serials ids (ground_in memory (record u.registry { seats = changed u.registry.seats c.slot (with_latches 0) })) settled (aimed_by_taking_back (seat_of t.registry.seats c) settled aimed))
      (sym (ap (λ (x : Transactions). x.manager) found.1.1.rest))
      (freed_kept schema t.manager serials ids memory t.registry u.registry c found.0 lawful sound found.1.0 found.1.1.registry
      (of_found (λ seat. IsSome seat.condemned) condemned) (of_found (λ seat. seat.hand.undo.pairs ≡ []) empty) settled aimed kept)

  pub record_freed : IsSomeAnd (seat_of t.registry.seats c) (λ seat. Repairs t (record u { registry = record u.registry { seats = changed u.registry.seats c.slot (with_latches 0) } }) c seat set_free)
  record_freed =
      subst (λ (o : Option Seat). IsSomeAnd o (λ seat. Repairs t (record u { registry = record u.registry { seats = changed u.registry.seats c.slot (with_latches 0) } }) c seat set_free)) (sym found.1.0)
      (record {
        held = found.1.0;
        registry = then_edited t.registry u.registry (record u.registry { seats = changed u.registry.seats c.slot (with_latches 0) }) c.slot (on_hand given_up) (with_latches 0) found.1.1.registry refl;
        writes = found.1.1.writes;
        rest = ap (λ (x : Transactions). record x { registry = record u.registry { seats = changed u.registry.seats c.slot (with_latches 0) } }) found.1.1.rest;
      })
