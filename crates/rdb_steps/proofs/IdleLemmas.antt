-- A connection comes, or its transaction ends, or it goes: whatever stands in its slot afterwards is idle.
use Rattle.std.proofs.Common.{◌≡◌, ◌<◌, ℕ, List, [], length, not, true, Option, Some, None, Contains, count_by, refl, sym, ap, subst, ◌∙◌, arith, inl, inr}
use Rattle.rdb_base.specs.declared.identity.ConnId.{ConnId}
use Rattle.rdb_base.specs.declared.identity.Manager.{Manager}
use Rattle.rdb_base.specs.declared.identity.Phase.{Phase}
use Rattle.rdb_base.specs.declared.identity.Phase.TheVariants as phase
use Rattle.rdb_base.specs.declared.identity.Stamp.TheVariants as stamp
use Rattle.rdb_base.specs.declared.identity.TxId.{TxId}
use Rattle.rdb_schema.specs.declared.schema.Schema.{Schema}
use Rattle.rdb_cells.specs.declared.pairs.Pair.{Pair}
use Rattle.rdb_cells.specs.Records.{names}
use Rattle.rdb_registry.specs.declared.hand.Hand.{Hand}
use Rattle.rdb_registry.specs.declared.seat.Seat.{Seat}
use Rattle.rdb_registry.specs.declared.seat.Transaction.{Transaction}
use Rattle.rdb_registry.specs.Seats.{HoldsLatch, IsNew, seat_in}
use Rattle.rdb_sight.specs.Versions.{Version, Versions, objects_in, chain_in}
use Rattle.rdb_writes.specs.Changes.{Comes, Goes}
use Rattle.rdb_writes.specs.Grounds.{Ground, WorksOn, HasPlaces, logged_in}
use Rattle.rdb_steps.specs.Invariant.{IsKept, DropsNone}
use Rattle.rdb_steps.specs.Kept.{IsLawful, HasNoVersion, IsUnaimed, OwnAre, aims}
use Rattle.rdb_steps.specs.Moves.{ChangesSeat, ArePlaced, HasNothingLeft, IsOver, KeptByBoth}
use Rattle.rdb_steps.specs.Phases.{IsIdle, Rests, RestsIn}
use Rattle.rdb_steps.specs.Planned.{PlanIsGood}
use Rattle.rdb_steps.specs.Stamped.{IsOpen}
use Rattle.rdb_steps.proofs.AimLemmas.{alike_there, none_aimed}
use Rattle.rdb_steps.proofs.MoveLemmas.{Replaces, changes_replace, of_one, of_none, each_now, others_stay, works_after, one_after, single_after, agrees_same}
use Rattle.rdb_steps.proofs.OpenLemmas.{named, stamped_without, unnamed}
use Rattle.rdb_steps.proofs.RestLemmas.{no_latch, good_without_plan, drops_none, none_settled}

-- a record without plan and pair works nowhere, and has places enough
pub works_nowhere : (hand : Hand) → hand.undo.pairs ≡ [] → hand.plan.pairs ≡ [] → (n : ℕ) → ¬ WorksOn hand n
works_nowhere hand undo plan n (inl logged) = let no : names [] n ≡ true = ap (λ (ps : List Pair). names ps n) (sym undo) ∙ logged in cc
works_nowhere hand undo plan n (inr planned) = let no : names [] n ≡ true = ap (λ (ps : List Pair). names ps n) (sym plan) ∙ planned in cc

pub has_places : (hand : Hand) → hand.undo.pairs ≡ [] → hand.plan.pairs ≡ [] → HasPlaces hand
has_places hand undo plan =
    let none : length hand.undo.pairs ≡ 0 = ap (λ (ps : List Pair). length ps) undo in
    let few : count_by (λ (p : Pair). not (names hand.undo.pairs p.at.number)) hand.plan.pairs ≡ 0 = ap (λ (ps : List Pair). count_by (λ (p : Pair). not (names hand.undo.pairs p.at.number)) ps) plan in
    omega (arith, none, few)

none_open : (seat : Seat) → seat.transaction ≡ None → (t : Transaction) → seat.transaction ≡ Some t → ⊥
none_open seat closed t open_one = let no : None ≡ Some t = sym closed ∙ open_one in cc

idle_owns : (manager : Manager) (seat : Seat) (settled aimed : Versions) → IsIdle seat → OwnAre manager seat settled aimed
idle_owns manager seat settled aimed idle = record {
  are_settled = λ owned t open_one. absurd (none_open seat idle.transaction t open_one);
  are_made = λ made live written t open_one. absurd (none_open seat idle.transaction t open_one);
  none_settled = λ single unmarked t open_one. absurd (none_open seat idle.transaction t open_one);
  none_logged = λ single unmarked empty. idle.own;
}

-- the record is idle
pub record LiesIdle (seat : Seat) : Type 0 where
  pub phase : seat.hand.phase ≡ phase.Idle
  pub idle : IsIdle seat

logged_nothing : (o : Option Seat) → ((s : Seat) → o ≡ Some s → LiesIdle s) → logged_in o ≡ []
logged_nothing None lies = refl
logged_nothing (Some s) lies = (lies s refl).idle.rest.undo

module _ (schema : Schema) (manager : Manager) (before after : Ground) (slot : ℕ) (was now : Option Seat) (r : Replaces before after slot was now) (lawful : IsLawful schema) (lies : (s : Seat) → now ≡ Some s → LiesIdle s) where
  idle_kept : (serials : ℕ) (ids : List ℕ) (settled aimed : Versions) → IsKept schema manager serials ids before settled aimed → logged_in was ≡ [] →
      ((s : Seat) → was ≡ Some s → aims manager s ≡ true → (class : ℕ) → class < length schema.classes → HoldsLatch s class → IsUnaimed manager after class →
      objects_in aimed class ≡ objects_in settled class) →
      ((tx : TxId) (class id : ℕ) (v : Version) → tx.conn.slot ≡ slot → IsOpen before.seats tx → Contains (chain_in settled class id) v → v.stamp ≡ stamp.By tx → ⊥) →
      ((tx : TxId) (class id : ℕ) (v : Version) → tx.conn.slot ≡ slot → IsOpen before.seats tx → Contains (chain_in aimed class id) v → v.stamp ≡ stamp.By tx → ⊥) →
      IsKept schema manager serials ids after settled aimed
  idle_kept serials ids settled aimed kept empty silent none_named none_named_aimed = record {
    agrees =
        agrees_same before after slot was now r schema manager lawful settled aimed kept.agrees
        (works_after before after slot was now r kept.agrees.works
        (λ s is n on. absurd (works_nowhere s.hand (lies s is).idle.rest.undo (lies s is).idle.rest.plan n on))
        (λ s is. has_places s.hand (lies s is).idle.rest.undo (lies s is).idle.rest.plan))
        (logged_nothing now lies ∙ sym empty)
        (λ s is speaks class within held. absurd (no_latch s class (lies s is).idle.rest.latches held))
        silent;
    one_holder = one_after before after slot was now r kept.one_holder (λ s is class held. absurd (no_latch s class (lies s is).idle.rest.latches held));
    single = single_after before after slot was now r manager kept.single (λ s u is open_one. absurd (none_open s (lies s is).idle.transaction u open_one));
    own =
        each_now before after slot was now r (λ i s. OwnAre manager s settled aimed) (λ i s. OwnAre manager s settled aimed) kept.own (λ i s other there own. own)
        (λ s is. idle_owns manager s settled aimed (lies s is).idle);
    plans =
        each_now before after slot was now r (λ i s. PlanIsGood manager s settled aimed) (λ i s. PlanIsGood manager s settled aimed) kept.plans (λ i s other there good. good)
        (λ s is. good_without_plan manager s settled aimed (lies s is).idle.rest.plan);
    drops =
        each_now before after slot was now r (λ i s. DropsNone manager s) (λ i s. DropsNone manager s) kept.drops (λ i s other there drops. drops)
        (λ s is. drops_none manager s (lies s is).idle.rest.plan);
    rests =
        each_now before after slot was now r (λ i s. Rests manager (length schema.classes) s) (λ i s. Rests manager (length schema.classes) s) kept.rests (λ i s other there rests. rests)
        (λ s is. subst (λ (p : Phase). RestsIn manager (length schema.classes) s p) (sym (lies s is).phase) (lies s is).idle);
    stamped = stamped_without before.seats after.seats slot (others_stay before after slot was now r) settled none_named kept.stamped;
    stamped_aimed = stamped_without before.seats after.seats slot (others_stay before after slot was now r) aimed none_named_aimed kept.stamped_aimed;
    drawn = kept.drawn;
    drawn_aimed = kept.drawn_aimed;
  }

-- a connection comes
pub comes_kept : (schema : Schema) (manager : Manager) (before after : Ground) (c : ConnId) (seat : Seat) → IsLawful schema → Comes before after c.slot seat → IsNew c seat → KeptByBoth schema manager before after
comes_kept schema manager before after c seat lawful comes new serials ids settled aimed kept =
    idle_kept schema manager before after c.slot None (Some seat) (record { cells = comes.cells; held = comes.free; records = comes.records }) lawful
    (of_one LiesIdle seat (record {
      phase = new.hand.clear.phase;
      idle = record {
        rest = record { latches = new.latches; plan = new.hand.clear.plan; undo = new.hand.clear.undo; work = new.hand.clear.work };
        transaction = new.transaction;
        own = new.hand.clear.own;
        done = new.hand.clear.done;
        cause = new.hand.clear.cause;
      };
    }))
    serials ids settled aimed kept refl
    (λ s is. absurd (let no : None ≡ Some s = is in cc))
    (λ tx class id v place open_tx has is. nobody tx place open_tx)
    (λ tx class id v place open_tx has is. nobody tx place open_tx)
  where
    nobody : (tx : TxId) → tx.conn.slot ≡ c.slot → IsOpen before.seats tx → ⊥
    nobody tx place open_tx =
        let n = named tx.conn (seat_in before.seats tx.conn.slot) open_tx.seat open_tx.held in
        let no : None ≡ Some open_tx.seat = sym comes.free ∙ sym (ap (seat_in before.seats) place) ∙ n.there in
        cc

-- a transaction ends of which nothing is left, or its connection goes
module _ (schema : Schema) (manager : Manager) (before after : Ground) (slot : ℕ) (seat : Seat) (now : Option Seat) (r : Replaces before after slot (Some seat) now) (lawful : IsLawful schema) (lies : (s : Seat) → now ≡ Some s → LiesIdle s) (in_place : ArePlaced before.seats) (clean : HasNothingLeft seat) where
  pub clean_kept : KeptByBoth schema manager before after
  clean_kept serials ids settled aimed kept =
      let no_settled = none_settled manager seat settled aimed (kept.own slot seat r.held) clean.own in
      let no_aimed : HasNoVersion seat aimed = λ t open_one class id.
      none_aimed schema manager serials ids before settled aimed lawful in_place kept slot seat r.held clean.plan clean.undo no_settled t open_one class id in
      idle_kept schema manager before after slot (Some seat) now r lawful lies serials ids settled aimed kept clean.undo
      (of_one (λ (s : Seat). aims manager s ≡ true → (class : ℕ) → class < length schema.classes → HoldsLatch s class → IsUnaimed manager after class → objects_in aimed class ≡ objects_in settled class) seat
      (λ speaks class within held unaimed.
      alike_there schema manager before settled aimed lawful kept.one_holder kept.agrees slot seat r.held clean.plan clean.undo speaks class within held))
      (unnamed before.seats slot seat r.held settled no_settled)
      (unnamed before.seats slot seat r.held aimed no_aimed)

pub goes_kept : (schema : Schema) (manager : Manager) (before after : Ground) (slot : ℕ) (seat : Seat) → IsLawful schema → ArePlaced before.seats → Goes before after slot seat → HasNothingLeft seat → KeptByBoth schema manager before after
goes_kept schema manager before after slot seat lawful in_place goes clean =
    clean_kept schema manager before after slot seat None (record { cells = goes.cells; held = goes.held; records = goes.records }) lawful (of_none LiesIdle) in_place clean

pub ends_kept : (schema : Schema) (manager : Manager) (before after : Ground) (c : ConnId) (seat : Seat) (change : Seat → Seat) → IsLawful schema → ArePlaced before.seats → ChangesSeat before after c seat change → HasNothingLeft seat →
    IsOver seat (change seat) → KeptByBoth schema manager before after
ends_kept schema manager before after c seat change lawful in_place changes clean over =
    clean_kept schema manager before after c.slot seat (Some (change seat)) (changes_replace before after c seat change changes) lawful
    (of_one LiesIdle (change seat) (record { phase = over.phase; idle = over.idle })) in_place clean
