-- A record changes of which the cells, latches and aims are as they were: its story, its watches, or that it was condemned.
use Rattle.std.proofs.Common.{◌≡◌, ◌<◌, ◌≤◌, ◌+◌, ℕ, List, [], length, count_by, not, true, Some, refl, sym, ap, subst, ◌∙◌, inl, inr}
use Rattle.std.proofs.lemmas.Bool.{false≢true}
use Rattle.std.specs.Int.{bit_at}
use Rattle.rdb_base.specs.declared.identity.ConnId.{ConnId}
use Rattle.rdb_base.specs.declared.identity.Kind.TheVariants as kind
use Rattle.rdb_base.specs.declared.identity.Manager.{Manager}
use Rattle.rdb_base.specs.declared.identity.Phase.{Phase}
use Rattle.rdb_base.specs.declared.identity.Phase.TheVariants as phase
use Rattle.rdb_schema.specs.declared.schema.Schema.{Schema}
use Rattle.rdb_cells.specs.declared.pairs.Pair.{Pair}
use Rattle.rdb_cells.specs.Records.{Record, names, planned}
use Rattle.rdb_registry.specs.declared.seat.Seat.{Seat}
use Rattle.rdb_registry.specs.declared.seat.Transaction.{Transaction}
use Rattle.rdb_registry.specs.Seats.{HoldsLatch, seat_in}
use Rattle.rdb_sight.specs.Versions.{Versions, objects_in}
use Rattle.rdb_writes.specs.Grounds.{Ground, WorksOn, HasPlaces, IsLatched}
use Rattle.rdb_steps.specs.Invariant.{IsKept, DropsNone}
use Rattle.rdb_steps.specs.Kept.{IsLawful, HoldsClass, Agrees, OwnAre, IsUnaimed, AimsAt, aims}
use Rattle.rdb_steps.specs.Moves.{ChangesSeat, KeptByBoth, TellsAlone}
use Rattle.rdb_steps.specs.Phases.{Rests, RestsIn}
use Rattle.rdb_steps.specs.Planned.{PlanIsGood}
use Rattle.rdb_steps.proofs.MoveLemmas.{Replaces, changes_replace, changed_there, of_one, each_now, others_stay, works_after, one_after, single_after, agrees_same}
use Rattle.rdb_steps.proofs.OpenLemmas.{HasNumber, stamped_still}

-- a record has the same latches, pairs, plan and aims
pub record AreAlike (manager : Manager) (seat now : Seat) : Type 0 where
  pub latches : now.latches ≡ seat.latches
  pub undo : now.hand.undo ≡ seat.hand.undo
  pub plan : now.hand.plan.pairs ≡ seat.hand.plan.pairs
  pub aims : aims manager now ≡ aims manager seat

module _ (manager : Manager) (seat now : Seat) (alike : AreAlike manager seat now) where
  pub held_too : (class : ℕ) → HoldsLatch now class → HoldsLatch seat class
  held_too class held = subst (λ (latches : ℕ). bit_at latches class ≡ 1) alike.latches held

  pub still_held : (class : ℕ) → HoldsLatch seat class → HoldsLatch now class
  still_held class held = subst (λ (latches : ℕ). bit_at latches class ≡ 1) (sym alike.latches) held

  worked : (n : ℕ) → WorksOn now.hand n → WorksOn seat.hand n
  worked n (inl logged) = inl (sym (ap (λ (u : Record). names u.pairs n) alike.undo) ∙ logged)
  worked n (inr planned) = inr (sym (ap (λ (ps : List Pair). names ps n) alike.plan) ∙ planned)

  pub latched_too : (g : Ground) → ((n : ℕ) → WorksOn seat.hand n → IsLatched g seat n) → (n : ℕ) → WorksOn now.hand n → IsLatched g now n
  latched_too g latched n on = let l = latched n (worked n on) in (l.0, l.1, still_held l.0 l.2)

  pub places_too : HasPlaces seat.hand → HasPlaces now.hand
  places_too places = subst (λ (ps : List Pair). length now.hand.undo.pairs + count_by (λ p. not (names now.hand.undo.pairs p.at.number)) ps ≤ now.hand.undo.room) (sym alike.plan)
      (subst (λ (u : Record). length u.pairs + count_by (λ p. not (names u.pairs p.at.number)) seat.hand.plan.pairs ≤ u.room) (sym alike.undo) places)

module _ (schema : Schema) (manager : Manager) (before after : Ground) (slot : ℕ) (seat now : Seat) (r : Replaces before after slot (Some seat) (Some now)) (there : seat_in after.seats slot ≡ Some now) (alike : AreAlike manager seat now) (lawful : IsLawful schema) where
  pub agrees_alike : (settled aimed : Versions) → Agrees schema manager before settled aimed → Agrees schema manager after settled aimed
  agrees_alike settled aimed agrees =
      agrees_same before after slot (Some seat) (Some now) r schema manager lawful settled aimed agrees
      (works_after before after slot (Some seat) (Some now) r agrees.works
      (of_one (λ (s : Seat). (n : ℕ) → WorksOn s.hand n → IsLatched before s n) now (latched_too manager seat now alike before (agrees.works slot seat r.held).latched))
      (of_one (λ (s : Seat). HasPlaces s.hand) now (places_too manager seat now alike (agrees.works slot seat r.held).places)))
      (ap (λ (u : Record). u.pairs) alike.undo)
      (of_one (λ (s : Seat). aims manager s ≡ true → (class : ℕ) → class < length schema.classes → HoldsLatch s class → AimsAt schema before s class (objects_in aimed class)) now
      (λ speaks class within held.
      subst (λ (ps : List Pair). HoldsClass schema before (planned ps before.image) class (objects_in aimed class)) (sym alike.plan)
      (agrees.aims slot seat r.held (sym alike.aims ∙ speaks) class within (held_too manager seat now alike class held))))
      (of_one (λ (s : Seat). aims manager s ≡ true → (class : ℕ) → class < length schema.classes → HoldsLatch s class → IsUnaimed manager after class → objects_in aimed class ≡ objects_in settled class) seat
      (λ speaks class within held unaimed.
      absurd (false≢true (sym (unaimed slot now there (still_held manager seat now alike class held)) ∙ alike.aims ∙ speaks))))

  -- both lists stay where its transaction does, and what the phase and the own writes say holds still
  pub alike_kept : now.conn ≡ seat.conn → now.transaction ≡ seat.transaction → (serials : ℕ) (ids : List ℕ) (settled aimed : Versions) → IsKept schema manager serials ids before settled aimed →
      OwnAre manager now settled aimed → PlanIsGood manager now settled aimed → DropsNone manager now → Rests manager (length schema.classes) now → IsKept schema manager serials ids after settled aimed
  alike_kept conn transaction serials ids settled aimed kept own good drops rests = record {
    agrees = agrees_alike settled aimed kept.agrees;
    one_holder =
        one_after before after slot (Some seat) (Some now) r kept.one_holder
        (λ s is class held. (seat, refl, of_one (λ (x : Seat). HoldsLatch x class → HoldsLatch seat class) now (held_too manager seat now alike class) s is held));
    single =
        single_after before after slot (Some seat) (Some now) r manager kept.single
        (λ s u is open_one. (seat, u, refl, of_one (λ (x : Seat). x.transaction ≡ Some u → seat.transaction ≡ Some u) now (λ e. sym transaction ∙ e) s is open_one, refl));
    own =
        each_now before after slot (Some seat) (Some now) r (λ i s. OwnAre manager s settled aimed) (λ i s. OwnAre manager s settled aimed) kept.own (λ i s other at had. had)
        (of_one (λ (s : Seat). OwnAre manager s settled aimed) now own);
    plans =
        each_now before after slot (Some seat) (Some now) r (λ i s. PlanIsGood manager s settled aimed) (λ i s. PlanIsGood manager s settled aimed) kept.plans (λ i s other at had. had)
        (of_one (λ (s : Seat). PlanIsGood manager s settled aimed) now good);
    drops =
        each_now before after slot (Some seat) (Some now) r (λ i s. DropsNone manager s) (λ i s. DropsNone manager s) kept.drops (λ i s other at had. had)
        (of_one (λ (s : Seat). DropsNone manager s) now drops);
    rests =
        each_now before after slot (Some seat) (Some now) r (λ i s. Rests manager (length schema.classes) s) (λ i s. Rests manager (length schema.classes) s) kept.rests (λ i s other at had. had)
        (of_one (λ (s : Seat). Rests manager (length schema.classes) s) now rests);
    stamped = stamped_still before.seats after.seats slot (others_stay before after slot (Some seat) (Some now) r) seat now r.held there conn same_number settled kept.stamped;
    stamped_aimed = stamped_still before.seats after.seats slot (others_stay before after slot (Some seat) (Some now) r) seat now r.held there conn same_number aimed kept.stamped_aimed;
    drawn = kept.drawn;
    drawn_aimed = kept.drawn_aimed;
  }
    where
      same_number : (t : Transaction) → seat.transaction ≡ Some t → HasNumber now t.number
      same_number t open_one = record { transaction = t; open_one = transaction ∙ open_one; number_is = refl }

-- another story, and other watches
abbrev pub told : Seat → Seat → Seat
told seat now = record seat { hand = record seat.hand { done = now.hand.done; subscriptions = now.hand.subscriptions } }

told_owns : (manager : Manager) (seat now : Seat) (settled aimed : Versions) → OwnAre manager seat settled aimed → OwnAre manager (told seat now) settled aimed
told_owns manager seat now settled aimed own = record { are_settled = own.are_settled; are_made = own.are_made; none_settled = own.none_settled; none_logged = own.none_logged }

told_plans : (manager : Manager) (seat now : Seat) (settled aimed : Versions) → PlanIsGood manager seat settled aimed → PlanIsGood manager (told seat now) settled aimed
told_plans manager seat now settled aimed good speaks unwritten =
    let leads = good speaks unwritten in
    record { own = leads.own; others = leads.others; drop = leads.drop; first = leads.first }

told_rests : (manager : Manager) (classes : ℕ) (seat now : Seat) (p : Phase) → (p ≡ phase.Idle → now.hand.done.items ≡ []) → RestsIn manager classes seat p → RestsIn manager classes (told seat now) p
told_rests manager classes seat now phase.Idle none r = record {
  rest = record { latches = r.rest.latches; plan = r.rest.plan; undo = r.rest.undo; work = r.rest.work };
  transaction = r.transaction;
  own = r.own;
  done = none refl;
  cause = r.cause;
}
told_rests manager classes seat now (phase.Running kind.ReadOnly) none r = record {
  rest = record { latches = r.rest.latches; plan = r.rest.plan; undo = r.rest.undo; work = r.rest.work };
  reader = r.reader;
  own = r.own;
  cause = r.cause;
}
told_rests manager classes seat now (phase.Running kind.ReadWrite) none r = record { writer = r.writer; work = r.work; cause = r.cause; plan = r.plan; undo = r.undo; latches = r.latches }
told_rests manager classes seat now phase.Writing none r = record { writer = r.writer; cause = r.cause; work = r.work; one = r.one; undo = r.undo; latch = r.latch; unplanned = r.unplanned; all = r.all }
told_rests manager classes seat now phase.RollingBack none r = record {
  writer = r.writer;
  work = r.work;
  cause = r.cause;
  free = λ live spans undropped.
      let rest = r.free live spans undropped in
      record { latches = rest.latches; plan = rest.plan; undo = rest.undo; work = rest.work };
  plan = r.plan;
  all = r.all;
}
told_rests manager classes seat now phase.Stamping none r = record { writer = r.writer; work = r.work; plan = r.plan; undo = r.undo; latches = r.latches }
told_rests manager classes seat now phase.Condemned none r = absurd r
told_rests manager classes seat now phase.Absent none r = absurd r

pub told_kept : (schema : Schema) (manager : Manager) (before after : Ground) (c : ConnId) (seat : Seat) (change : Seat → Seat) → IsLawful schema → ChangesSeat before after c seat change → TellsAlone seat (change seat) → KeptByBoth schema manager before after
told_kept schema manager before after c seat change lawful changes tells serials ids settled aimed kept =
    let it : Replaces before after c.slot (Some seat) (Some (told seat (change seat))) =
    subst (λ (x : Seat). Replaces before after c.slot (Some seat) (Some x)) tells.rest (changes_replace before after c seat change changes) in
    let there : seat_in after.seats c.slot ≡ Some (told seat (change seat)) = changed_there before after c seat change changes ∙ ap (λ (x : Seat). Some x) tells.rest in
    alike_kept schema manager before after c.slot seat (told seat (change seat)) it there
    (record { latches = refl; undo = refl; plan = refl; aims = refl }) lawful refl refl serials ids settled aimed kept
    (told_owns manager seat (change seat) settled aimed (kept.own c.slot seat it.held))
    (told_plans manager seat (change seat) settled aimed (kept.plans c.slot seat it.held))
    (kept.drops c.slot seat it.held)
    (told_rests manager (length schema.classes) seat (change seat) seat.hand.phase tells.idle (kept.rests c.slot seat it.held))
