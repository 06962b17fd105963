-- What is so of a World's state beside its cells, as a connection's hand gets on with a plan, or takes a pair back.
use Rattle.std.proofs.Common.{◌≡◌, ◌<◌, ◌≤◌, ◌+◌, ◌-◌, ◌||◌, ◌++◌, ◌∷◌, ℕ, [], length, Bool, true, false, not, cond, Option, Some, None, IsSome, is_some, option_and_then, append-nil, length-append, refl, sym, ap, subst, ◌∙◌, arith}
use Rattle.std.specs.List.{filter_map}
use Rattle.std.proofs.lemmas.Bool.{false≢true}
use Rattle.std.proofs.lemmas.List.Elements.{filter_map-append}
use Rattle.rdb_base.specs.declared.identity.ConnId.{ConnId}
use Rattle.rdb_base.specs.declared.identity.Kind.TheVariants as kind
use Rattle.rdb_base.specs.declared.identity.Manager.{Manager}
use Rattle.rdb_base.specs.declared.identity.Phase.{Phase}
use Rattle.rdb_base.specs.declared.identity.Phase.TheVariants as phase
use Rattle.rdb_base.specs.declared.limits.TheConstants.{MAX_OPERATIONS}
use Rattle.rdb_base.specs.declared.operation.Op.{Op}
use Rattle.rdb_base.specs.declared.operation.Op.TheVariants as op
use Rattle.rdb_base.specs.Operations.{is_write}
use Rattle.rdb_schema.specs.declared.schema.Schema.{Schema}
use Rattle.rdb_model.specs.Touch.{written_by}
use Rattle.rdb_registry.specs.declared.hand.Hand.{Hand}
use Rattle.rdb_registry.specs.declared.hand.Work.{Work}
use Rattle.rdb_registry.specs.declared.seat.Seat.{Seat}
use Rattle.rdb_registry.specs.Hands.{undo_places}
use Rattle.rdb_registry.specs.Registry.{Roll}
use Rattle.rdb_registry.specs.Seats.{seat_of}
use Rattle.rdb_space.specs.Memory.{RegionCells}
use Rattle.rdb_transactions.specs.Claims.{is_unmarked, places_of, writes_of}
use Rattle.rdb_transactions.specs.Phases.{IsInPhase, IsWriting}
use Rattle.rdb_transactions.specs.Records.{edited, is_single_writer}
use Rattle.rdb_transactions.specs.Sound.{IsOrderly}
use Rattle.rdb_transactions.proofs.SoundLemmas.{sound_still}
use Rattle.rdb_steps.specs.declared.state.State.{State}
use Rattle.rdb_steps.specs.Kept.{is_rolling_back}
use Rattle.rdb_steps.specs.Rooms.{HaveRooms}
use Rattle.rdb_steps.specs.States.{IsFurnished, IsWhole, cell_count, planned_by, planned_so_far}
use Rattle.rdb_steps.specs.Steps.{WritesOne, reply_to}
use Rattle.rdb_steps.proofs.RoomLemmas.{by_transaction, moves_slot, same_rooms, told_counted}
use Rattle.rdb_steps.proofs.WholeLemmas.{classes_stay, whole_changed}

-- what a record that changed is to what it was, where all else stays
pub record Follows (schema : Schema) (manager : Manager) (cells entries : ℕ) (seat now : Seat) : Type 0 where
  pub orderly : IsOrderly entries now
  pub places : places_of now ≡ places_of seat
  pub writes : writes_of now ≡ writes_of seat
  pub planned : planned_by seat ≤ planned_by now
  pub transaction : now.transaction ≡ seat.transaction
  pub furnished : IsFurnished schema manager cells now

-- one cell is written, and one record changed so
pub whole_step : {P : Type 0} (s : State P) (memory : RegionCells) (registry : Roll) (c : ConnId) (seat : Seat) (change : Seat → Seat) → IsWhole s → WritesOne s.memory memory →
    seat_of s.transactions.registry.seats c ≡ Some seat → registry ≡ edited s.transactions.registry c.slot change →
    Follows s.schema s.transactions.manager (cell_count s.schema s.memory) (length s.transactions.journal.entries) seat (change seat) →
    IsWhole (record s { memory = memory; transactions = record s.transactions { registry = registry } })
whole_step s memory registry c seat change whole one held edits f =
    whole_changed s memory (record s.transactions { registry = registry }) whole (ap length one.owners) (classes_stay s.schema s.memory memory whole.cells one)
    (ap (λ (r : Roll). r.classes) edits)
    (sound_still s.transactions registry c seat change whole.sound held (ap (λ (r : Roll). r.seats) edits) f.orderly f.places f.writes)
    rooms.furnished rooms.spare rooms.fewer
  where
    rooms : HaveRooms s.schema (cell_count s.schema s.memory) s.counters.serials s.counters.ids.items (record s.transactions { registry = registry })
    rooms =
        same_rooms s.transactions (record s.transactions { registry = registry }) c.slot seat (change seat) []
        (moves_slot s.transactions (record s.transactions { registry = registry }) c seat change []
        (record { manager = refl; registry = edits; entries = sym (append-nil s.transactions.journal.entries) }) refl held)
        (by_transaction s.transactions.manager (change seat) seat f.transaction)
        (let planned = f.planned in omega (arith, planned))
        s.schema (cell_count s.schema s.memory) s.counters.serials s.counters.ids.items
        (record { furnished = whole.furnished; spare = whole.spare; fewer = whole.fewer }) f.furnished

le_self : (n : ℕ) → n ≤ n
le_self n = omega arith

at_most_one : (b : Bool) → ◌≤◌ (cond {A = ℕ} b 1 0) 1
at_most_one true = omega arith
at_most_one false = omega arith

-- an operation that wrote, with its reply, is counted as one
writes_one : (o : Op) → is_write o ≡ true → length (filter_map written_by ((o, reply_to o) ∷ [])) ≡ 1
writes_one (op.New class row id) e = refl
writes_one (op.Put class id row) e = refl
writes_one (op.Del class id) e = refl
writes_one (op.Get class id) e = absurd (false≢true e)
writes_one (op.Find class index key) e = absurd (false≢true e)
writes_one (op.Seek class index from up) e = absurd (false≢true e)
writes_one (op.Area class index rect inside) e = absurd (false≢true e)
writes_one (op.Prefix class index text way) e = absurd (false≢true e)
writes_one (op.Count class) e = absurd (false≢true e)

module _ (schema : Schema) (manager : Manager) (cells entries : ℕ) (seat : Seat) (h o : Hand) (latches : ℕ) (orderly : IsOrderly entries seat) (f : IsFurnished schema manager cells seat) (plan : h.plan.room ≡ seat.hand.plan.room) (undo : h.undo.room ≡ seat.hand.undo.room) where
  -- while its plan isn't written it stays in its phase
  pub phase_stays : (p : Phase) → IsInPhase p seat → ¬ (seat.hand.plan.pairs ≡ []) →
      IsInPhase p (record seat { hand = record seat.hand { undo = h.undo; plan = h.plan; own = o.own }; latches = latches })
  phase_stays phase.Idle q some = absurd (some q.rest.plan)
  phase_stays (phase.Running kind.ReadOnly) q some = absurd (some q.rest.plan)
  phase_stays (phase.Running kind.ReadWrite) q some = record { work = q.work; plan = λ live. absurd (some (q.plan live)); transaction = q.transaction; cause = q.cause }
  phase_stays phase.Writing q some = record { transaction = q.transaction; cause = q.cause }
  phase_stays phase.RollingBack q some = record { work = q.work; transaction = q.transaction; cause = q.cause }
  phase_stays phase.Stamping q some = absurd (some q.plan)
  phase_stays phase.Condemned q some = absurd q
  phase_stays phase.Absent q some = absurd q

  -- it has another undo record, another plan, other own writes, and other latches
  pub kept_follows : IsInPhase seat.hand.phase (record seat { hand = record seat.hand { undo = h.undo; plan = h.plan; own = o.own }; latches = latches }) →
      (IsSome seat.hand.work → 0 < o.own.room) →
      Follows schema manager cells entries seat (record seat { hand = record seat.hand { undo = h.undo; plan = h.plan; own = o.own }; latches = latches })
  kept_follows in_phase own = record {
    orderly = record { phase = in_phase; begun = orderly.begun };
    places = refl;
    writes = refl;
    planned = le_self (planned_by seat);
    transaction = refl;
    furnished = record {
      plan = plan ∙ f.plan;
      undo = λ quiet. subst (λ (r : ℕ). undo_places ≤ r) (sym undo) (f.undo (sym same ∙ quiet));
      single = λ writes. subst (λ (r : ℕ). cells ≤ r) (sym undo) (f.single (sym same ∙ writes));
      work = f.work;
      done = f.done;
      own = own;
      few = f.few;
    };
  }
    where
      same : is_single_writer manager (record seat { hand = record seat.hand { undo = h.undo; plan = h.plan; own = o.own }; latches = latches }) ≡ is_single_writer manager seat
      same = by_transaction manager (record seat { hand = record seat.hand { undo = h.undo; plan = h.plan; own = o.own }; latches = latches }) seat refl

  -- its operation in work, a write, ends
  pub done_follows : seat.hand.phase ≡ phase.Writing → (work : Work) → seat.hand.work ≡ Some work → h.plan.pairs ≡ [] →
      Follows schema manager cells entries seat (record seat {
        hand = record seat.hand {
          undo = h.undo;
          plan = h.plan;
          phase = phase.Running kind.ReadWrite;
          work = None;
          done = record { items = seat.hand.done.items ++ (work.op, reply_to work.op) ∷ []; room = seat.hand.done.room - 1 };
          own = o.own;
        };
        latches = latches;
      })
  done_follows writing work had empty = record {
    orderly = record {
      phase = record { work = refl; plan = λ live. empty; transaction = q.transaction; cause = q.cause };
      begun = orderly.begun;
    };
    places = refl;
    writes =
        let parts : length (filter_map written_by (seat.hand.done.items ++ (work.op, reply_to work.op) ∷ [])) ≡
        length (filter_map written_by seat.hand.done.items) + length (filter_map written_by ((work.op, reply_to work.op) ∷ [])) =
        ap length (filter_map-append written_by seat.hand.done.items ((work.op, reply_to work.op) ∷ []))
        ∙ length-append (filter_map written_by seat.hand.done.items) (filter_map written_by ((work.op, reply_to work.op) ∷ [])) in
        let one = writes_one work.op (f.work work had).write in
        omega (arith, parts, one, in_work);
    planned = subst (λ (n : ℕ). n ≤ planned_by now) (sym was)
        (told_counted (not (is_unmarked seat)) (is_some seat.condemned) false (planned_so_far seat) (planned_so_far now) MAX_OPERATIONS
        (let most = at_most_one (is_some (option_and_then (λ (w : Work). w.puts) seat.hand.work)) in omega (arith, most, longer)));
    transaction = refl;
    furnished = record {
      plan = plan ∙ f.plan;
      undo = λ quiet. subst (λ (r : ℕ). undo_places ≤ r) (sym undo) (f.undo (sym same ∙ quiet));
      single = λ writes. subst (λ (r : ℕ). cells ≤ r) (sym undo) (f.single (sym same ∙ writes));
      work = λ other is. absurd (let no : None ≡ Some other = is in cc);
      done = λ some. absurd (false≢true some);
      own = λ some. absurd (false≢true some);
      few = (let few = f.few in omega (arith, few, longer, in_work));
    };
  }
    where
      now : Seat
      now = record seat {
        hand = record seat.hand {
          undo = h.undo;
          plan = h.plan;
          phase = phase.Running kind.ReadWrite;
          work = None;
          done = record { items = seat.hand.done.items ++ (work.op, reply_to work.op) ∷ []; room = seat.hand.done.room - 1 };
          own = o.own;
        };
        latches = latches;
      }

      q : IsWriting seat
      q = subst (λ (p : Phase). IsInPhase p seat) writing orderly.phase

      in_work : cond {A = ℕ} (is_some seat.hand.work) 1 0 ≡ 1
      in_work = ap (λ (w : Option Work). cond {A = ℕ} (is_some w) 1 0) had

      longer : length (seat.hand.done.items ++ (work.op, reply_to work.op) ∷ []) ≡ length seat.hand.done.items + 1
      longer = length-append seat.hand.done.items ((work.op, reply_to work.op) ∷ [])

      was : planned_by seat ≡ cond (not (is_unmarked seat)) 0 (cond (is_some seat.condemned || false) MAX_OPERATIONS (planned_so_far seat))
      was = ap (λ (p : Phase). cond (not (is_unmarked seat)) 0 (cond (is_some seat.condemned || is_rolling_back p) MAX_OPERATIONS (planned_so_far seat))) writing

      same : is_single_writer manager now ≡ is_single_writer manager seat
      same = by_transaction manager now seat refl
