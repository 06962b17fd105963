-- A record's aims are no longer spoken of: a roll-back begins, or its connection is condemned.
use Rattle.std.proofs.Common.{◌≡◌, ◌≢◌, ◌⊎◌, ◌≤◌, ◌+◌, ◌&&◌, ◌||◌, ◌==◌, ℕ, List, [], length, Bool, true, false, not, cond, Option, Some, None, is_some, option_map, option_and_then, refl, sym, ap, ◌∙◌, arith, inl, inr}
use Rattle.std.proofs.lemmas.Bool.{false≢true, and_parts}
use Rattle.rdb_base.specs.declared.identity.ConnId.{ConnId}
use Rattle.rdb_base.specs.declared.identity.Kind.TheVariants as kind
use Rattle.rdb_base.specs.declared.identity.Manager.{Manager}
use Rattle.rdb_base.specs.declared.identity.Manager.TheVariants as manager
use Rattle.rdb_base.specs.declared.identity.Phase.{Phase}
use Rattle.rdb_base.specs.declared.identity.Phase.TheVariants as phase
use Rattle.rdb_base.specs.declared.journal.Cause.{Cause}
use Rattle.rdb_schema.specs.declared.schema.Schema.{Schema}
use Rattle.rdb_cells.proofs.SettledLemmas.{true_or_false}
use Rattle.rdb_registry.specs.declared.own_writes.OwnWrite.{OwnWrite}
use Rattle.rdb_registry.specs.declared.seat.Condemned.{Condemned}
use Rattle.rdb_registry.specs.declared.seat.Seat.{Seat}
use Rattle.rdb_registry.specs.declared.seat.Transaction.{Transaction}
use Rattle.rdb_registry.specs.OwnWrites.{header_of}
use Rattle.rdb_registry.specs.Seats.{HoldsLatch, seat_in, with_condemned}
use Rattle.rdb_sight.specs.Versions.{Object, Versions, objects_in, chain_of, chain_in, own_version}
use Rattle.rdb_store.specs.Stored.{ref_of}
use Rattle.rdb_transactions.specs.Records.{rolls_back}
use Rattle.rdb_writes.specs.Grounds.{Ground, WorksOn, HasPlaces, IsLatched, IsWork}
use Rattle.rdb_writes.specs.Steps.{spans_one_plan, is_written}
use Rattle.rdb_steps.specs.Invariant.{IsKept, DropsNone}
use Rattle.rdb_steps.specs.Kept.{IsLawful, OwnAre, Owns, HasNoVersion, aims, is_dropping, is_marked, takes_back, tx_of}
use Rattle.rdb_steps.specs.Lists.{the_settled, taken_over}
use Rattle.rdb_steps.specs.Moves.{ChangesSeat, KeptBy, KeptByGivingUp, aimed_without}
use Rattle.rdb_steps.specs.Phases.{Rests, RestsIn, IsBetween, IsWriting}
use Rattle.rdb_steps.specs.Planned.{PlanIsGood, IsWithin, all_but}
use Rattle.rdb_steps.proofs.AlikeLemmas.{alike_kept}
use Rattle.rdb_steps.proofs.IdleLemmas.{works_nowhere, has_places}
use Rattle.rdb_steps.proofs.ListLemmas.{taken_free, held_or_not}
use Rattle.rdb_steps.proofs.MoveLemmas.{Replaces, changes_replace, changed_there, of_one, each_now, others_stay, works_after, one_after, single_after, agrees_without}
use Rattle.rdb_steps.proofs.OpenLemmas.{HasNumber, stamped_still}
use Rattle.rdb_steps.proofs.RestLemmas.{no_pairs, no_latch, or_first, or_second, latched_writer, empty_without_plan, owns_nothing}
use Rattle.rdb_steps.proofs.TakenLemmas.{taken_drawn, taken_stamped}

-- what another record owns, and where its plan leads, by lists that are the same as far as it speaks of them
pub other_owns : (manager : Manager) (s : Seat) (settled aimed settled_now aimed_now : Versions) →
    ((t : Transaction) → s.transaction ≡ Some t → (class : ℕ) → objects_in settled_now class ≡ objects_in settled class) →
    (spans_one_plan manager ≡ false → (t : Transaction) → s.transaction ≡ Some t → (class : ℕ) → objects_in aimed_now class ≡ objects_in aimed class) →
    OwnAre manager s settled aimed → OwnAre manager s settled_now aimed_now
other_owns manager s settled aimed settled_now aimed_now same same_aimed own = record {
  are_settled = λ owned t open_one class id.
      own.are_settled owned t open_one class id
      ∙ sym (ap (λ (objects : List Object). option_map ref_of (own_version (tx_of s t) (chain_of objects id))) (same t open_one class));
  are_made = λ made live written t open_one class id. elim (true_or_false (spans_one_plan manager)) [
    | inl spans ↦
        absurd (false≢true (sym made ∙ or_first (spans_one_plan manager) (is_marked s || (takes_back manager s && (length s.hand.undo.pairs == 0))) spans))
    | inr single ↦
        own.are_made made live written t open_one class id
        ∙ sym (ap (λ (objects : List Object). option_map ref_of (own_version (tx_of s t) (chain_of objects id))) (same_aimed single t open_one class))
  ];
  none_settled = λ single unmarked t open_one class id.
      ap (λ (objects : List Object). own_version (tx_of s t) (chain_of objects id)) (same t open_one class)
      ∙ own.none_settled single unmarked t open_one class id;
  none_logged = own.none_logged;
}

pub other_plans : (manager : Manager) (s : Seat) (settled aimed settled_now aimed_now : Versions) →
    ((t : Transaction) → s.transaction ≡ Some t → (class : ℕ) → objects_in settled_now class ≡ objects_in settled class) →
    ((t : Transaction) → s.transaction ≡ Some t → (class : ℕ) → IsWithin manager s class → objects_in aimed_now class ≡ objects_in aimed class) →
    PlanIsGood manager s settled aimed → PlanIsGood manager s settled_now aimed_now
other_plans manager s settled aimed settled_now aimed_now same same_aimed good speaks unwritten =
    let leads = good speaks unwritten in
    record {
      own = λ t open_one class id within.
          leads.own t open_one class id within
          ∙ sym (ap (λ (objects : List Object). option_map ref_of (own_version (tx_of s t) (chain_of objects id))) (same_aimed t open_one class within));
      others = λ spans t open_one other differs class id held.
          ap (λ (objects : List Object). own_version other (chain_of objects id)) (same_aimed t open_one class (λ too. held))
          ∙ leads.others spans t open_one other differs class id held
          ∙ sym (ap (λ (objects : List Object). own_version other (chain_of objects id)) (same t open_one class));
      drop = λ spans dropping t open_one class id held.
          ap (λ (objects : List Object). all_but (tx_of s t) (chain_of objects id)) (same_aimed t open_one class (λ too. held))
          ∙ leads.drop spans dropping t open_one class id held
          ∙ sym (ap (λ (objects : List Object). all_but (tx_of s t) (chain_of objects id)) (same t open_one class));
      first = leads.first;
    }

-- what a record owns that takes back, by what it owned
module _ (manager : Manager) (seat now : Seat) (conn : now.conn ≡ seat.conn) (transaction : now.transaction ≡ seat.transaction) (items : now.hand.own.items ≡ seat.hand.own.items) (undo : now.hand.undo.pairs ≡ seat.hand.undo.pairs) where
  still_owns : (versions : Versions) → Owns seat versions → Owns now versions
  still_owns versions owns t open_one class id =
      ap (λ (ws : List OwnWrite). header_of ws (class, id)) items
      ∙ owns t (sym transaction ∙ open_one) class id
      ∙ ap (λ (c : ConnId). option_map ref_of (own_version (record { conn = c; number = t.number }) (chain_in versions class id))) (sym conn)

  still_none : (versions : Versions) → HasNoVersion seat versions → HasNoVersion now versions
  still_none versions none t open_one class id =
      ap (λ (c : ConnId). own_version (record { conn = c; number = t.number }) (chain_in versions class id)) conn
      ∙ none t (sym transaction ∙ open_one) class id

  same_mark : is_marked now ≡ is_marked seat
  same_mark = ap (λ (o : Option Transaction). is_some (option_and_then (λ t. t.mark) o)) transaction

  none_left : (s m t z : Bool) → (s || (m || (t && z))) ≡ true → s ≡ false → m ≡ false → z ≡ true
  none_left true m t z e no_s no_m = absurd (false≢true (sym no_s))
  none_left false true t z e no_s no_m = absurd (false≢true (sym no_m))
  none_left false false t z e no_s no_m = (and_parts t z e).1

  pub taking_owns : (settled aimed aimed_now : Versions) → takes_back manager now ≡ true ⊎ (spans_one_plan manager ≡ true) → OwnAre manager seat settled aimed → OwnAre manager now settled aimed_now
  taking_owns settled aimed aimed_now taking own = record {
    are_settled = λ owned. elim (true_or_false (spans_one_plan manager)) [
      | inl spans ↦
          still_owns settled
          (own.are_settled (or_first (spans_one_plan manager) (is_marked seat || (takes_back manager seat && (length seat.hand.undo.pairs == 0))) spans))
      | inr single ↦ elim (true_or_false (is_marked seat)) [
        | inl marked ↦
            still_owns settled
            (own.are_settled
            (or_second (spans_one_plan manager) (is_marked seat || (takes_back manager seat && (length seat.hand.undo.pairs == 0)))
            (or_first (is_marked seat) (takes_back manager seat && (length seat.hand.undo.pairs == 0)) marked)))
        | inr unmarked ↦
            let empty = no_pairs now.hand.undo.pairs
            (none_left (spans_one_plan manager) (is_marked now) (takes_back manager now) (length now.hand.undo.pairs == 0) owned single (same_mark ∙ unmarked)) in
            still_owns settled (owns_nothing seat settled (own.none_logged single unmarked (sym undo ∙ empty)) (own.none_settled single unmarked))
      ]
    ];
    are_made = λ made live written. elim taking [
      | inl back ↦ absurd (false≢true (sym live ∙ back))
      | inr spans ↦
          absurd (false≢true (sym made ∙ or_first (spans_one_plan manager) (is_marked now || (takes_back manager now && (length now.hand.undo.pairs == 0))) spans))
    ];
    none_settled = λ single unmarked. still_none settled (own.none_settled single (sym same_mark ∙ unmarked));
    none_logged = λ single unmarked empty. items ∙ own.none_logged single (sym same_mark ∙ unmarked) (sym undo ∙ empty);
  }

-- a record whose aims are no longer spoken of, and that keeps its transaction, its pairs and its own writes
pub record GivesUpAims (manager : Manager) (classes : ℕ) (seat now : Seat) : Type 0 where
  pub conn : now.conn ≡ seat.conn
  pub transaction : now.transaction ≡ seat.transaction
  pub own : now.hand.own.items ≡ seat.hand.own.items
  pub undo : now.hand.undo.pairs ≡ seat.hand.undo.pairs
  pub fewer : (class : ℕ) → HoldsLatch now class → HoldsLatch seat class
  pub silent : (class : ℕ) → HoldsLatch now class → aims manager now ≡ false
  pub planless : aims manager now ≡ true → is_written now.hand ≡ false → ⊥
  pub taking : takes_back manager now ≡ true ⊎ (spans_one_plan manager ≡ true)
  pub works : (g : Ground) → IsWork g seat → IsWork g now
  pub drops : DropsNone manager now
  pub rests : Rests manager classes now

module _ (schema : Schema) (manager : Manager) (before after : Ground) (slot : ℕ) (seat now : Seat) (r : Replaces before after slot (Some seat) (Some now)) (there : seat_in after.seats slot ≡ Some now) (lawful : IsLawful schema) (gives_up : GivesUpAims manager (length schema.classes) seat now) where
  pub without_kept : KeptByGivingUp schema manager before after seat
  without_kept serials ids settled aimed kept = record {
    agrees =
        agrees_without schema manager before after slot seat now r lawful kept.one_holder settled aimed kept.agrees
        (works_after before after slot (Some seat) (Some now) r kept.agrees.works
        (of_one (λ (s : Seat). (n : ℕ) → WorksOn s.hand n → IsLatched before s n) now (gives_up.works before (kept.agrees.works slot seat r.held)).latched)
        (of_one (λ (s : Seat). HasPlaces s.hand) now (gives_up.works before (kept.agrees.works slot seat r.held)).places))
        gives_up.undo gives_up.silent;
    one_holder =
        one_after before after slot (Some seat) (Some now) r kept.one_holder
        (λ s is class held. (seat, refl, of_one (λ (x : Seat). HoldsLatch x class → HoldsLatch seat class) now (gives_up.fewer class) s is held));
    single =
        single_after before after slot (Some seat) (Some now) r manager kept.single
        (λ s u is open_one. (seat, u, refl, of_one (λ (x : Seat). x.transaction ≡ Some u → seat.transaction ≡ Some u) now (λ e. sym gives_up.transaction ∙ e) s is open_one, refl));
    own =
        each_now before after slot (Some seat) (Some now) r (λ i s. OwnAre manager s settled aimed) (λ i s. OwnAre manager s settled (taken_over seat aimed settled)) kept.own
        (λ i s other at had.
        other_owns manager s settled aimed settled (taken_over seat aimed settled) (λ t open_one class. refl)
        (λ single t open_one class. same_aimed i s other at t open_one class (λ spans. absurd (false≢true (sym single ∙ spans)))) had)
        (of_one (λ (s : Seat). OwnAre manager s settled (taken_over seat aimed settled)) now
        (taking_owns manager seat now gives_up.conn gives_up.transaction gives_up.own gives_up.undo settled aimed (taken_over seat aimed settled) gives_up.taking (kept.own slot seat r.held)));
    plans =
        each_now before after slot (Some seat) (Some now) r (λ i s. PlanIsGood manager s settled aimed) (λ i s. PlanIsGood manager s settled (taken_over seat aimed settled)) kept.plans
        (λ i s other at had.
        other_plans manager s settled aimed settled (taken_over seat aimed settled) (λ t open_one class. refl)
        (λ t open_one class within. same_aimed i s other at t open_one class within) had)
        (of_one (λ (s : Seat). PlanIsGood manager s settled (taken_over seat aimed settled)) now (λ speaks unwritten. absurd (gives_up.planless speaks unwritten)));
    drops =
        each_now before after slot (Some seat) (Some now) r (λ i s. DropsNone manager s) (λ i s. DropsNone manager s) kept.drops (λ i s other at had. had)
        (of_one (λ (s : Seat). DropsNone manager s) now gives_up.drops);
    rests =
        each_now before after slot (Some seat) (Some now) r (λ i s. Rests manager (length schema.classes) s) (λ i s. Rests manager (length schema.classes) s) kept.rests (λ i s other at had. had)
        (of_one (λ (s : Seat). Rests manager (length schema.classes) s) now gives_up.rests);
    stamped = stamped_still before.seats after.seats slot (others_stay before after slot (Some seat) (Some now) r) seat now r.held there gives_up.conn same_number settled kept.stamped;
    stamped_aimed =
        stamped_still before.seats after.seats slot (others_stay before after slot (Some seat) (Some now) r) seat now r.held there gives_up.conn same_number (taken_over seat aimed settled)
        (taken_stamped before.seats seat aimed settled (counts settled aimed kept) kept.stamped_aimed kept.stamped);
    drawn = kept.drawn;
    drawn_aimed = taken_drawn serials ids seat aimed settled (counts settled aimed kept) kept.drawn_aimed kept.drawn;
  }
    where
      counts : (settled aimed : Versions) → IsKept schema manager serials ids before settled aimed → length settled ≡ length aimed
      counts settled aimed kept = kept.agrees.stands.count ∙ sym kept.agrees.rest.count

      same_number : (t : Transaction) → seat.transaction ≡ Some t → HasNumber now t.number
      same_number t open_one = record { transaction = t; open_one = gives_up.transaction ∙ open_one; number_is = refl }

      same_aimed : (i : ℕ) (s : Seat) → i ≢ slot → seat_in before.seats i ≡ Some s → (t : Transaction) → s.transaction ≡ Some t → (class : ℕ) → IsWithin manager s class →
          objects_in (taken_over seat aimed settled) class ≡ objects_in aimed class
      same_aimed i s other at t open_one class within = elim (held_or_not seat class) [
        | inr free ↦ taken_free seat aimed settled class free
        | inl held ↦ elim (true_or_false (spans_one_plan manager)) [
          | inl spans ↦ absurd (other (kept.one_holder class i slot s seat at r.held (within spans) held))
          | inr single ↦
              let writer = latched_writer manager (length schema.classes) seat (kept.rests slot seat r.held) class held in
              absurd (other (sym (kept.single single slot i seat s writer.transaction t r.held at writer.open_one writer.writes open_one)))
        ]
      ]

-- a roll-back that begins, by the manager
between_back : (m : Manager) (classes : ℕ) (cause : Cause) (seat : Seat) → IsBetween m classes seat → seat.condemned ≡ None → Rests m classes (rolls_back m cause seat)
between_back manager.Mvcc classes cause seat r live = record {
  writer = r.writer;
  work = refl;
  cause = refl;
  free = λ alive spans undropped. record { latches = refl; plan = refl; undo = r.undo live refl; work = refl };
  plan = λ single alive. refl;
  all = λ single. absurd (false≢true (sym single));
}
between_back manager.Mursiw classes cause seat r live = record {
  writer = r.writer;
  work = refl;
  cause = refl;
  free = λ alive spans. absurd (false≢true spans);
  plan = λ single alive. refl;
  all = λ single alive. (r.latches live).1 refl;
}

writing_back : (m : Manager) (classes : ℕ) (cause : Cause) (seat : Seat) → IsWriting m classes seat → seat.condemned ≡ None → seat.hand.plan.pairs ≡ [] → Rests m classes (rolls_back m cause seat)
writing_back manager.Mvcc classes cause seat r live none = record {
  writer = r.writer;
  work = refl;
  cause = refl;
  free = λ alive spans undropped. record { latches = refl; plan = refl; undo = r.undo live refl none; work = refl };
  plan = λ single alive. refl;
  all = λ single. absurd (false≢true (sym single));
}
writing_back manager.Mursiw classes cause seat r live none = record {
  writer = r.writer;
  work = refl;
  cause = refl;
  free = λ alive spans. absurd (false≢true spans);
  plan = λ single alive. refl;
  all = λ single alive. r.all live refl;
}

abbrev may_begin_back : Phase → Bool
may_begin_back (phase.Running kind.ReadWrite) = true
may_begin_back phase.Writing = true
may_begin_back _ = false

begins_back : (p : Phase) → ((p ≡ phase.Running kind.ReadWrite) ⊎ (p ≡ phase.Writing)) → may_begin_back p ≡ true
begins_back p (inl e) = ap may_begin_back e
begins_back p (inr e) = ap may_begin_back e

back_rests : (m : Manager) (classes : ℕ) (cause : Cause) (seat : Seat) (p : Phase) → RestsIn m classes seat p → seat.condemned ≡ None → seat.hand.plan.pairs ≡ [] → may_begin_back p ≡ true → Rests m classes (rolls_back m cause seat)
back_rests m classes cause seat phase.Idle r live none begins = absurd (false≢true begins)
back_rests m classes cause seat (phase.Running kind.ReadOnly) r live none begins = absurd (false≢true begins)
back_rests m classes cause seat (phase.Running kind.ReadWrite) r live none begins = between_back m classes cause seat r live
back_rests m classes cause seat phase.Writing r live none begins = writing_back m classes cause seat r live none
back_rests m classes cause seat phase.RollingBack r live none begins = absurd (false≢true begins)
back_rests m classes cause seat phase.Stamping r live none begins = absurd (false≢true begins)
back_rests m classes cause seat phase.Condemned r live none begins = absurd r
back_rests m classes cause seat phase.Absent r live none begins = absurd r

back_gives_up : (m : Manager) (classes : ℕ) (cause : Cause) (seat : Seat) → Rests m classes seat → seat.condemned ≡ None → seat.hand.plan.pairs ≡ [] → Rests m classes (rolls_back m cause seat) →
    GivesUpAims m classes seat (rolls_back m cause seat)
back_gives_up manager.Mvcc classes cause seat rests live none now_rests = record {
  conn = refl;
  transaction = refl;
  own = refl;
  undo = refl;
  fewer = λ class held. absurd (no_latch (rolls_back manager.Mvcc cause seat) class refl held);
  silent = λ class held. absurd (no_latch (rolls_back manager.Mvcc cause seat) class refl held);
  planless = λ speaks unwritten. false≢true (sym unwritten);
  taking = inr refl;
  works = λ g work. record {
    latched = λ n on. absurd (works_nowhere (rolls_back manager.Mvcc cause seat).hand (empty_without_plan manager.Mvcc classes seat rests refl live none) refl n on);
    places = has_places (rolls_back manager.Mvcc cause seat).hand (empty_without_plan manager.Mvcc classes seat rests refl live none) refl;
  };
  drops = λ single. refl;
  rests = now_rests;
}
back_gives_up manager.Mursiw classes cause seat rests live none now_rests = record {
  conn = refl;
  transaction = refl;
  own = refl;
  undo = refl;
  fewer = λ class held. held;
  silent = λ class held. ap not (or_second (is_some seat.condemned) true refl);
  planless = λ speaks unwritten. false≢true (sym unwritten);
  taking = inl (or_second (is_some seat.condemned) true refl);
  works = λ g work. record {
    latched = λ n on. still_latched g work n on;
    places = fits work.places;
  };
  drops = λ single. refl;
  rests = now_rests;
}
  where
    still_latched : (g : Ground) → IsWork g seat → (n : ℕ) → WorksOn (rolls_back manager.Mursiw cause seat).hand n → IsLatched g seat n
    still_latched g work n (inl logged) = work.latched n (inl logged)
    still_latched g work n (inr planned) = absurd (false≢true planned)

    fits : HasPlaces seat.hand → length seat.hand.undo.pairs + 0 ≤ seat.hand.undo.room
    fits places = omega (arith, places)

pub back_kept : (schema : Schema) (manager : Manager) (before after : Ground) (c : ConnId) (seat : Seat) (cause : Cause) → IsLawful schema → ChangesSeat before after c seat (rolls_back manager cause) → seat.condemned ≡ None → seat.hand.plan.pairs ≡ [] →
    ((seat.hand.phase ≡ phase.Running kind.ReadWrite) ⊎ (seat.hand.phase ≡ phase.Writing)) → KeptByGivingUp schema manager before after seat
back_kept schema manager before after c seat cause lawful changes live none between serials ids settled aimed kept =
    let r = changes_replace before after c seat (rolls_back manager cause) changes in
    let there = changed_there before after c seat (rolls_back manager cause) changes in
    let rests = kept.rests c.slot seat r.held in
    let now_rests = back_rests manager (length schema.classes) cause seat seat.hand.phase rests live none (begins_back seat.hand.phase between) in
    without_kept schema manager before after c.slot seat (rolls_back manager cause seat) r there lawful
    (back_gives_up manager (length schema.classes) cause seat rests live none now_rests) serials ids settled aimed kept

-- a condemnation
dead : {A : Type 0} (condemned : Condemned) → Some condemned ≡ None → A
dead condemned live = absurd cc

condemned_rests : (m : Manager) (classes : ℕ) (condemned : Condemned) (seat : Seat) (p : Phase) → RestsIn m classes seat p → RestsIn m classes (with_condemned condemned seat) p
condemned_rests m classes condemned seat phase.Idle r = record {
  rest = record { latches = r.rest.latches; plan = r.rest.plan; undo = r.rest.undo; work = r.rest.work };
  transaction = r.transaction;
  own = r.own;
  done = r.done;
  cause = r.cause;
}
condemned_rests m classes condemned seat (phase.Running kind.ReadOnly) r = record {
  rest = record { latches = r.rest.latches; plan = r.rest.plan; undo = r.rest.undo; work = r.rest.work };
  reader = r.reader;
  own = r.own;
  cause = r.cause;
}
condemned_rests m classes condemned seat (phase.Running kind.ReadWrite) r = record {
  writer = r.writer;
  work = r.work;
  cause = r.cause;
  plan = λ live. dead condemned live;
  undo = λ live. dead condemned live;
  latches = λ live. dead condemned live;
}
condemned_rests m classes condemned seat phase.Writing r = record {
  writer = r.writer;
  cause = r.cause;
  work = λ live. dead condemned live;
  one = λ live. dead condemned live;
  undo = λ live. dead condemned live;
  latch = r.latch;
  unplanned = λ work live. dead condemned live;
  all = λ live. dead condemned live;
}
condemned_rests m classes condemned seat phase.RollingBack r = record {
  writer = r.writer;
  work = r.work;
  cause = r.cause;
  free = λ live. dead condemned live;
  plan = λ single live. dead condemned live;
  all = λ single live. dead condemned live;
}
condemned_rests m classes condemned seat phase.Stamping r = record { writer = r.writer; work = r.work; plan = r.plan; undo = r.undo; latches = r.latches }
condemned_rests m classes condemned seat phase.Condemned r = absurd r
condemned_rests m classes condemned seat phase.Absent r = absurd r

condemned_gives_up : (m : Manager) (classes : ℕ) (condemned : Condemned) (seat : Seat) → is_dropping seat.hand ≡ false → Rests m classes seat → GivesUpAims m classes seat (with_condemned condemned seat)
condemned_gives_up m classes condemned seat undropped rests = record {
  conn = refl;
  transaction = refl;
  own = refl;
  undo = refl;
  fewer = λ class held. held;
  silent = λ class held. quiet;
  planless = λ speaks unwritten. false≢true (sym quiet ∙ speaks);
  taking = inl refl;
  works = λ g work. record { latched = work.latched; places = work.places };
  drops = λ single. undropped;
  rests = condemned_rests m classes condemned seat seat.hand.phase rests;
}
  where
    quiet : aims m (with_condemned condemned seat) ≡ false
    quiet = ap (λ (b : Bool). b || false) undropped

module _ (schema : Schema) (manager : Manager) (before after : Ground) (d : ConnId) (seat : Seat) (condemned : Condemned) (lawful : IsLawful schema) (changes : ChangesSeat before after d seat (with_condemned condemned)) where
  condemned_dropping : (serials : ℕ) (ids : List ℕ) (settled aimed : Versions) → IsKept schema manager serials ids before settled aimed → is_dropping seat.hand ≡ true → IsKept schema manager serials ids after settled aimed
  condemned_dropping serials ids settled aimed kept dropping =
      let r = changes_replace before after d seat (with_condemned condemned) changes in
      let there = changed_there before after d seat (with_condemned condemned) changes in
      alike_kept schema manager before after d.slot seat (with_condemned condemned seat) r there
      (record { latches = refl; undo = refl; plan = refl; aims = speaks_now ∙ sym speaks }) lawful refl refl serials ids settled aimed kept
      (taking_owns manager seat (with_condemned condemned seat) refl refl refl refl settled aimed aimed (inl refl) (kept.own d.slot seat r.held))
      (good (kept.plans d.slot seat r.held))
      (kept.drops d.slot seat r.held)
      (condemned_rests manager (length schema.classes) condemned seat seat.hand.phase (kept.rests d.slot seat r.held))
    where
      speaks : aims manager seat ≡ true
      speaks = or_first (is_dropping seat.hand) (not (takes_back manager seat)) dropping

      speaks_now : aims manager (with_condemned condemned seat) ≡ true
      speaks_now = or_first (is_dropping seat.hand) false dropping

      good : PlanIsGood manager seat settled aimed → PlanIsGood manager (with_condemned condemned seat) settled aimed
      good had speaks_so unwritten =
          let leads = had speaks unwritten in
          record { own = leads.own; others = leads.others; drop = leads.drop; first = leads.first }

  pub condemned_kept : seat.condemned ≡ None → KeptBy schema manager before after the_settled (aimed_without seat)
  condemned_kept live serials ids settled aimed kept = go (is_dropping seat.hand) refl
    where
      go : (b : Bool) → is_dropping seat.hand ≡ b → IsKept schema manager serials ids after settled (cond b aimed (taken_over seat aimed settled))
      go true dropping = condemned_dropping serials ids settled aimed kept dropping
      go false undropped =
          let r = changes_replace before after d seat (with_condemned condemned) changes in
          let there = changed_there before after d seat (with_condemned condemned) changes in
          without_kept schema manager before after d.slot seat (with_condemned condemned seat) r there lawful
          (condemned_gives_up manager (length schema.classes) condemned seat undropped (kept.rests d.slot seat r.held)) serials ids settled aimed kept
