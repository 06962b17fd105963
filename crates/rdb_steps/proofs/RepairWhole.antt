-- What is so of a World's state beside its cells, as a condemned connection's record is repaired.
use Rattle.std.proofs.Common.{◌≡◌, ◌<◌, ◌≤◌, ◌+◌, ◌||◌, ℕ, [], length, Bool, true, false, not, cond, Option, Some, None, IsSome, IsSomeAnd, is_some, append-nil, refl, sym, ap, subst, ◌∙◌, arith}
use Rattle.std.proofs.lemmas.Bool.{false≢true}
use Rattle.rdb_base.specs.declared.identity.ConnId.{ConnId}
use Rattle.rdb_base.specs.declared.identity.Kind.TheVariants as kind
use Rattle.rdb_base.specs.declared.identity.Manager.{Manager}
use Rattle.rdb_base.specs.declared.identity.Phase.{Phase}
use Rattle.rdb_base.specs.declared.identity.Phase.TheVariants as phase
use Rattle.rdb_base.specs.declared.limits.TheConstants.{MAX_OPERATIONS}
use Rattle.rdb_base.specs.Room.{Reserved}
use Rattle.rdb_schema.specs.declared.schema.Schema.{Schema}
use Rattle.rdb_cells.specs.Records.{Record}
use Rattle.rdb_history.specs.Kept.{Kept}
use Rattle.rdb_registry.specs.declared.hand.Work.{Work}
use Rattle.rdb_registry.specs.declared.own_writes.OwnWrite.{OwnWrite}
use Rattle.rdb_registry.specs.declared.seat.Condemned.{Condemned}
use Rattle.rdb_registry.specs.declared.seat.Seat.{Seat}
use Rattle.rdb_registry.specs.Hands.{undo_places}
use Rattle.rdb_registry.specs.Registry.{Roll}
use Rattle.rdb_space.specs.Memory.{RegionCells}
use Rattle.rdb_transactions.specs.declared.claims.Claims.{Claims}
use Rattle.rdb_transactions.specs.declared.transactions.Transactions.{Transactions}
use Rattle.rdb_transactions.specs.Claims.{HasRoom, is_unmarked, places_of, writes_in, writes_of}
use Rattle.rdb_transactions.specs.Phases.{IsInPhase}
use Rattle.rdb_transactions.specs.Records.{edited, is_single_writer}
use Rattle.rdb_transactions.specs.Sound.{IsOrderly, IsSound}
use Rattle.rdb_transactions.proofs.SoundLemmas.{sound_edit}
use Rattle.rdb_steps.specs.declared.state.State.{State}
use Rattle.rdb_steps.specs.Kept.{is_rolling_back}
use Rattle.rdb_steps.specs.Repairs.{Repairs, in_work}
use Rattle.rdb_steps.specs.Rooms.{HaveRooms}
use Rattle.rdb_steps.specs.States.{HasClasses, IsFurnished, IsWhole, cell_count, planned_by, planned_so_far}
use Rattle.rdb_steps.proofs.FreeLemmas.{not_live}
use Rattle.rdb_steps.proofs.RoomLemmas.{by_transaction, moves_slot, same_rooms}
use Rattle.rdb_steps.proofs.WholeLemmas.{whole_changed}

-- a condemned record, in its phase, without an operation in work and a plan
pub phase_repaired : (seat : Seat) (latches : ℕ) (undo plan : Record) (own : Reserved OwnWrite) → IsSome seat.condemned → plan.pairs ≡ [] →
    (seat.hand.undo.pairs ≡ [] → (latches ≡ 0) × (undo ≡ seat.hand.undo) × (own ≡ seat.hand.own)) → (p : Phase) → IsInPhase p seat →
    IsInPhase p (record seat { latches = latches; hand = record seat.hand { undo = undo; plan = plan; work = None; own = own } })
phase_repaired seat latches undo plan own condemned no_plan rest phase.Idle q = let r = rest q.rest.undo in record {
  rest = record { work = refl; plan = no_plan; undo = ap (λ (x : Record). x.pairs) r.1 ∙ q.rest.undo; latches = r.0 };
  transaction = q.transaction;
  cause = q.cause;
  done = q.done;
  own = ap (λ (x : Reserved OwnWrite). x.items) r.2 ∙ q.own;
}
phase_repaired seat latches undo plan own condemned no_plan rest (phase.Running kind.ReadOnly) q = let r = rest q.rest.undo in record {
  rest = record { work = refl; plan = no_plan; undo = ap (λ (x : Record). x.pairs) r.1 ∙ q.rest.undo; latches = r.0 };
  transaction = q.transaction;
  cause = q.cause;
  done = q.done;
  own = ap (λ (x : Reserved OwnWrite). x.items) r.2 ∙ q.own;
}
phase_repaired seat latches undo plan own condemned no_plan rest (phase.Running kind.ReadWrite) q = record { work = refl; plan = λ live. no_plan; transaction = q.transaction; cause = q.cause }
phase_repaired seat latches undo plan own condemned no_plan rest phase.Writing q = record { transaction = q.transaction; cause = q.cause }
phase_repaired seat latches undo plan own condemned no_plan rest phase.RollingBack q = record { work = refl; transaction = q.transaction; cause = q.cause }
phase_repaired seat latches undo plan own condemned no_plan rest phase.Stamping q = let r = rest q.undo in record {
  work = refl;
  plan = no_plan;
  undo = ap (λ (x : Record). x.pairs) r.1 ∙ q.undo;
  transaction = q.transaction;
  cause = q.cause;
  done = q.done;
}
phase_repaired seat latches undo plan own condemned no_plan rest phase.Condemned q = absurd q
phase_repaired seat latches undo plan own condemned no_plan rest phase.Absent q = absurd q

-- it may plan as many operations as before
same_planned : (seat : Seat) (latches : ℕ) (undo plan : Record) (own : Reserved OwnWrite) → IsSome seat.condemned →
    planned_by seat ≡ planned_by (record seat { latches = latches; hand = record seat.hand { undo = undo; plan = plan; work = None; own = own } })
same_planned seat latches undo plan own condemned =
    let now : Seat = record seat { latches = latches; hand = record seat.hand { undo = undo; plan = plan; work = None; own = own } } in
    (λ i. cond (not (is_unmarked seat)) 0 (cond (condemned i || is_rolling_back seat.hand.phase) MAX_OPERATIONS (planned_so_far seat)))
    ∙ sym (λ i. cond (not (is_unmarked seat)) 0 (cond (condemned i || is_rolling_back seat.hand.phase) MAX_OPERATIONS (planned_so_far now)))

-- and has room for what comes
pub furnished_repaired : (schema : Schema) (manager : Manager) (cells : ℕ) (seat : Seat) (latches : ℕ) (undo plan : Record) (own : Reserved OwnWrite) → IsFurnished schema manager cells seat → undo.room ≡ seat.hand.undo.room →
    plan.room ≡ seat.hand.plan.room → IsFurnished schema manager cells (record seat { latches = latches; hand = record seat.hand { undo = undo; plan = plan; work = None; own = own } })
furnished_repaired schema manager cells seat latches undo plan own f same_undo same_plan = record {
  plan = same_plan ∙ f.plan;
  undo = λ quiet. subst (λ (r : ℕ). undo_places ≤ r) (sym same_undo) (f.undo (sym same ∙ quiet));
  single = λ writes. subst (λ (r : ℕ). cells ≤ r) (sym same_undo) (f.single (sym same ∙ writes));
  work = λ other is. absurd (let no : None ≡ Some other = is in cc);
  done = λ some. absurd (false≢true some);
  own = λ some. absurd (false≢true some);
  few = (let few = f.few in omega (arith, few));
}
  where
    same : is_single_writer manager (record seat { latches = latches; hand = record seat.hand { undo = undo; plan = plan; work = None; own = own } }) ≡ is_single_writer manager seat
    same = by_transaction manager (record seat { latches = latches; hand = record seat.hand { undo = undo; plan = plan; work = None; own = own } }) seat refl

-- memory may change, one record is repaired, and the place of its write in work is given up
module _ {P : Type 0} (s : State P) (memory : RegionCells) (t : Transactions) (c : ConnId) (seat : Seat) (change : Seat → Seat) (whole : IsWhole s) (owners : length memory.owners ≡ length s.memory.owners) (cells : HasClasses s.schema memory)
    (r : Repairs s.transactions t c seat change) (condemned : IsSome seat.condemned)
    (latches : ℕ) (undo plan : Record) (own : Reserved OwnWrite) (is : change seat ≡ record seat { latches = latches; hand = record seat.hand { undo = undo; plan = plan; work = None; own = own } })
    (same_undo : undo.room ≡ seat.hand.undo.room) (same_plan : plan.room ≡ seat.hand.plan.room) (no_plan : plan.pairs ≡ [])
    (rest : seat.hand.undo.pairs ≡ [] → (latches ≡ 0) × (undo ≡ seat.hand.undo) × (own ≡ seat.hand.own)) (orderly : IsOrderly (length s.transactions.journal.entries) seat)
    (furnished : IsFurnished s.schema s.transactions.manager (cell_count s.schema s.memory) seat) where
  now : Seat
  now = record seat { latches = latches; hand = record seat.hand { undo = undo; plan = plan; work = None; own = own } }

  journal_same : t.journal ≡ s.transactions.journal
  journal_same = ap (λ (x : Transactions). x.journal) r.rest

  entries_same : t.claims.entries ≡ s.transactions.claims.entries
  entries_same = ap (λ (x : Transactions). x.claims.entries) r.rest

  orderly_now : IsOrderly (length t.journal.entries) (change seat)
  orderly_now =
      subst (λ (x : Seat). IsOrderly (length t.journal.entries) x) (sym is)
      (subst (λ (k : Kept). IsOrderly (length k.entries) (record seat { latches = latches; hand = record seat.hand { undo = undo; plan = plan; work = None; own = own } })) (sym journal_same)
      (record { phase = phase_repaired seat latches undo plan own condemned no_plan rest seat.hand.phase orderly.phase; begun = orderly.begun }))

  room : HasRoom t.claims t.journal
  room =
      let claimed = whole.sound.claims.room.writes in
      let fewer = r.writes in
      let entries = whole.sound.claims.room.entries in
      subst (λ (k : Kept). HasRoom t.claims k) (sym journal_same)
      (record { entries = (let e = entries_same in omega (arith, e, entries)); writes = omega (arith, claimed, fewer); limit = whole.sound.claims.room.limit })

  sound : IsSound t
  sound =
      sound_edit [] [] s.transactions t c seat change whole.sound r.held (ap (λ (x : Roll). x.seats) r.registry) orderly_now
      (let e = entries_same in let places = ap places_of is in omega (arith, e, places))
      (let fewer = r.writes in let writes = ap writes_of is in omega (arith, fewer, writes))
      room (let e = ap (λ (k : Kept). length k.entries) journal_same in omega (arith, e)) (ap (λ (x : Transactions). x.spare_undo.pairs) r.rest ∙ whole.sound.spare)

  rooms : HaveRooms s.schema (cell_count s.schema s.memory) s.counters.serials s.counters.ids.items t
  rooms =
      same_rooms s.transactions t c.slot seat (change seat) []
      (moves_slot s.transactions t c seat change []
      (record { manager = ap (λ (x : Transactions). x.manager) r.rest; registry = r.registry; entries = ap (λ (k : Kept). k.entries) journal_same ∙ sym (append-nil s.transactions.journal.entries) })
      (ap (λ (x : Transactions). x.spare_undo) r.rest) r.held)
      (by_transaction s.transactions.manager (change seat) seat (ap (λ (x : Seat). x.transaction) is))
      (let planned = same_planned seat latches undo plan own condemned in let changed = ap planned_by is in omega (arith, planned, changed))
      s.schema (cell_count s.schema s.memory) s.counters.serials s.counters.ids.items
      (record { furnished = whole.furnished; spare = whole.spare; fewer = whole.fewer })
      (subst (λ (x : Seat). IsFurnished s.schema s.transactions.manager (cell_count s.schema s.memory) x) (sym is)
      (furnished_repaired s.schema s.transactions.manager (cell_count s.schema s.memory) seat latches undo plan own furnished same_undo same_plan))

  pub whole_repaired : IsWhole (record s { memory = memory; transactions = t })
  whole_repaired = whole_changed s memory t whole owners cells (ap (λ (x : Roll). x.classes) r.registry) sound rooms.furnished rooms.spare rooms.fewer
