-- A transaction begins.
use Rattle.std.proofs.Common.{◌≡◌, ◌≢◌, ◌<◌, ◌+◌, ℕ, List, [], length, true, false, Some, None, refl, sym, ap, subst, ◌∙◌, arith, inl, inr}
use Rattle.std.proofs.lemmas.Bool.{false≢true}
use Rattle.std.proofs.lemmas.Nat.Bits.{bit_at-lt}
use Rattle.std.proofs.Permutation.{which}
use Rattle.std.specs.Int.{bit_at}
use Rattle.rdb_base.specs.declared.identity.ConnId.{ConnId}
use Rattle.rdb_base.specs.declared.identity.Kind.{Kind}
use Rattle.rdb_base.specs.declared.identity.Kind.TheVariants as kind
use Rattle.rdb_base.specs.declared.identity.Manager.{Manager}
use Rattle.rdb_base.specs.declared.identity.Manager.TheVariants as manager
use Rattle.rdb_base.specs.declared.identity.Phase.{Phase}
use Rattle.rdb_base.specs.declared.identity.Phase.TheVariants as phase
use Rattle.rdb_base.specs.declared.identity.TxId.{TxId}
use Rattle.rdb_schema.specs.declared.schema.Schema.{Schema}
use Rattle.rdb_cells.specs.declared.pairs.Pair.{Pair}
use Rattle.rdb_cells.specs.Records.{Record, planned}
use Rattle.rdb_registry.specs.declared.seat.Seat.{Seat}
use Rattle.rdb_registry.specs.declared.seat.Transaction.{Transaction}
use Rattle.rdb_registry.specs.Seats.{EachSeat, HoldsLatch, NoneHolds, seat_in}
use Rattle.rdb_sight.specs.Versions.{Object, Versions, objects_in}
use Rattle.rdb_transactions.specs.Records.{latched, exchanged, opened}
use Rattle.rdb_writes.specs.Grounds.{Ground, HaveOneHolder, WorksOn, HasPlaces, IsLatched, settled_image, aimed_image}
use Rattle.rdb_writes.specs.Steps.{spans_one_plan}
use Rattle.rdb_writes.proofs.ChangeLemmas.{by_nobody}
use Rattle.rdb_steps.specs.Invariant.{IsKept, IsSingle, DropsNone}
use Rattle.rdb_steps.specs.Kept.{IsLawful, OwnAre, HasNoVersion, AimsAt, IsUnaimed, aims, tx_of}
use Rattle.rdb_steps.specs.Moves.{ChangesSeat, ArePlaced, KeptByBoth, MayBegin}
use Rattle.rdb_steps.specs.Phases.{IsIdle, Rests, RestsIn}
use Rattle.rdb_steps.specs.Planned.{PlanIsGood}
use Rattle.rdb_steps.specs.Stamped.{IsOpen, AreStamped}
use Rattle.rdb_steps.proofs.IdleLemmas.{works_nowhere, has_places}
use Rattle.rdb_steps.proofs.ListLemmas.{holds_same}
use Rattle.rdb_steps.proofs.MoveLemmas.{Replaces, changes_replace, of_one, each_now, others_stay, there_now, works_after, agrees_same}
use Rattle.rdb_steps.proofs.OpenLemmas.{open_in, stamped_without, none_yet}
use Rattle.rdb_steps.proofs.RestLemmas.{no_latch, latched_writer, good_without_plan, drops_none, owns_nothing}

-- the record of an idle connection in which a transaction begins
pub record IsBegun (manager : Manager) (classes : ℕ) (wanted : Kind) (seat now : Seat) : Type 0 where
  pub conn : now.conn ≡ seat.conn
  pub transaction : Transaction
  pub open_one : now.transaction ≡ Some transaction
  pub kind_is : transaction.kind ≡ wanted
  pub plan : now.hand.plan.pairs ≡ []
  pub undo : now.hand.undo.pairs ≡ []
  pub own : now.hand.own.items ≡ []
  pub latches : (class : ℕ) → HoldsLatch now class → (spans_one_plan manager ≡ false) × (wanted ≡ kind.ReadWrite)
  pub rests : Rests manager classes now

module _ (schema : Schema) (manager : Manager) (before after : Ground) (slot : ℕ) (seat now : Seat) (wanted : Kind) (r : Replaces before after slot (Some seat) (Some now)) (lawful : IsLawful schema) (placed : ArePlaced before.seats) (idle : IsIdle seat) (may : MayBegin manager before.seats slot wanted) (begun : IsBegun manager (length schema.classes) wanted seat now) where
  -- where a single writer begins nobody holds a latch
  alone : EachSeat (λ i s. Rests manager (length schema.classes) s) before.seats → (spans_one_plan manager ≡ false) × (wanted ≡ kind.ReadWrite) → (class i : ℕ) (s : Seat) → seat_in before.seats i ≡ Some s → ¬ HoldsLatch s class
  alone rests writer class i s at held = elim (which i slot) [
    | inl same ↦
        of_one (λ (x : Seat). ¬ HoldsLatch x class) seat (no_latch seat class idle.rest.latches) s (sym r.held ∙ sym (ap (seat_in before.seats) same) ∙ at) held
    | inr other ↦
        let holder = latched_writer manager (length schema.classes) s (rests i s at) class held in
        let both = may writer.0 i s holder.transaction other at holder.open_one in
        let no : kind.ReadOnly ≡ kind.ReadWrite = sym both.1 ∙ holder.writes in
        cc
  ]

  one_begun : EachSeat (λ i s. Rests manager (length schema.classes) s) before.seats → HaveOneHolder before.seats → HaveOneHolder after.seats
  one_begun rests one class i j a b at_i at_j holds_a holds_b = elim (which i slot) [
    | inl same_i ↦ elim (which j slot) [
      | inl same_j ↦ same_i ∙ sym same_j
      | inr other_j ↦ absurd (alone rests (writer_now i a same_i at_i holds_a) class j b (sym (others_stay before after slot (Some seat) (Some now) r j other_j) ∙ at_j) holds_b)
    ]
    | inr other_i ↦ elim (which j slot) [
      | inl same_j ↦ absurd (alone rests (writer_now j b same_j at_j holds_b) class i a (sym (others_stay before after slot (Some seat) (Some now) r i other_i) ∙ at_i) holds_a)
      | inr other_j ↦
          one class i j a b (sym (others_stay before after slot (Some seat) (Some now) r i other_i) ∙ at_i) (sym (others_stay before after slot (Some seat) (Some now) r j other_j) ∙ at_j) holds_a holds_b
    ]
  ]
    where
      writer_now : (k : ℕ) (s : Seat) → k ≡ slot → seat_in after.seats k ≡ Some s → HoldsLatch s class → (spans_one_plan manager ≡ false) × (wanted ≡ kind.ReadWrite)
      writer_now k s same at holds =
          of_one (λ (x : Seat). HoldsLatch x class → (spans_one_plan manager ≡ false) × (wanted ≡ kind.ReadWrite)) now (begun.latches class) s
          (there_now before after slot (Some seat) (Some now) r k s same at) holds

  kind_of : (k : ℕ) (s : Seat) (t : Transaction) → k ≡ slot → seat_in after.seats k ≡ Some s → s.transaction ≡ Some t → t.kind ≡ wanted
  kind_of k s t same at open_one =
      let opens : now.transaction ≡ Some t = of_one (λ (x : Seat). x.transaction ≡ Some t → now.transaction ≡ Some t) now (λ e. e) s (there_now before after slot (Some seat) (Some now) r k s same at) open_one in
      let both : Some begun.transaction ≡ Some t = sym begun.open_one ∙ opens in
      let is : begun.transaction ≡ t = cc in
      ap (λ (x : Transaction). x.kind) (sym is) ∙ begun.kind_is

  single_begun : IsSingle manager before.seats → IsSingle manager after.seats
  single_begun single spans i j a b t u at_i at_j open_a writes open_b = elim (which i slot) [
    | inl same_i ↦ elim (which j slot) [
      | inl same_j ↦ same_i ∙ sym same_j
      | inr other_j ↦
          let both = may spans j b u other_j (sym (others_stay before after slot (Some seat) (Some now) r j other_j) ∙ at_j) open_b in
          let no : kind.ReadOnly ≡ kind.ReadWrite = sym both.0 ∙ sym (kind_of i a t same_i at_i open_a) ∙ writes in
          absurd cc
    ]
    | inr other_i ↦ elim (which j slot) [
      | inl same_j ↦
          let both = may spans i a t other_i (sym (others_stay before after slot (Some seat) (Some now) r i other_i) ∙ at_i) open_a in
          let no : kind.ReadOnly ≡ kind.ReadWrite = sym both.1 ∙ writes in
          absurd cc
      | inr other_j ↦
          single spans i j a b t u (sym (others_stay before after slot (Some seat) (Some now) r i other_i) ∙ at_i) (sym (others_stay before after slot (Some seat) (Some now) r j other_j) ∙ at_j) open_a writes open_b
    ]
  ]

  nobody_open : (tx : TxId) → tx.conn.slot ≡ slot → IsOpen before.seats tx → ⊥
  nobody_open tx place open_tx =
      let was = open_in before.seats slot seat tx r.held place open_tx in
      let no : None ≡ Some was.transaction = sym idle.transaction ∙ was.open_one in
      cc

  none_named : (versions : Versions) → AreStamped before.seats versions → HasNoVersion now versions
  none_named versions stamped t open_one class id =
      none_yet before.seats slot seat r.held idle.transaction versions stamped (tx_of now t) (ap (λ (c : ConnId). c.slot) begun.conn ∙ placed slot seat r.held) class id

  -- what a single writer aims at as it begins is settled
  begun_aims : (serials : ℕ) (ids : List ℕ) (settled aimed : Versions) → IsKept schema manager serials ids before settled aimed → (class : ℕ) → class < length schema.classes → HoldsLatch now class →
      AimsAt schema before now class (objects_in aimed class)
  begun_aims serials ids settled aimed kept class within held =
      let nobody = alone kept.rests (begun.latches class held) class in
      let none_holds : NoneHolds before.seats class = λ i s at.
      (let few = bit_at-lt s.latches class in let free : bit_at s.latches class ≢ 1 = nobody i s at in omega (arith, few, free)) in
      let same : objects_in aimed class ≡ objects_in settled class = kept.agrees.rest.same class within (λ i s at holds. absurd (nobody i s at holds)) in
      subst (λ (objects : List Object). AimsAt schema before now class objects) (sym same)
      (holds_same schema lawful before before (settled_image before) (aimed_image before now.hand) class (objects_in settled class) within (λ n. refl)
      (λ n of.
      ap (λ (ps : List Pair). planned ps before.image n) begun.plan
      ∙ sym (by_nobody before class n kept.agrees.works of none_holds))
      (kept.agrees.stands.each class within))

  pub begun_kept : KeptByBoth schema manager before after
  begun_kept serials ids settled aimed kept = record {
    agrees =
        agrees_same before after slot (Some seat) (Some now) r schema manager lawful settled aimed kept.agrees
        (works_after before after slot (Some seat) (Some now) r kept.agrees.works
        (of_one (λ (s : Seat). (n : ℕ) → WorksOn s.hand n → IsLatched before s n) now (λ n on. absurd (works_nowhere now.hand begun.undo begun.plan n on)))
        (of_one (λ (s : Seat). HasPlaces s.hand) now (has_places now.hand begun.undo begun.plan)))
        (begun.undo ∙ sym idle.rest.undo)
        (of_one (λ (s : Seat). aims manager s ≡ true → (class : ℕ) → class < length schema.classes → HoldsLatch s class → AimsAt schema before s class (objects_in aimed class)) now
        (λ speaks class within held. begun_aims serials ids settled aimed kept class within held))
        (of_one (λ (s : Seat). aims manager s ≡ true → (class : ℕ) → class < length schema.classes → HoldsLatch s class → IsUnaimed manager after class → objects_in aimed class ≡ objects_in settled class) seat
        (λ speaks class within held. absurd (no_latch seat class idle.rest.latches held)));
    one_holder = one_begun kept.rests kept.one_holder;
    single = single_begun kept.single;
    own =
        each_now before after slot (Some seat) (Some now) r (λ i s. OwnAre manager s settled aimed) (λ i s. OwnAre manager s settled aimed) kept.own (λ i s other at had. had)
        (of_one (λ (s : Seat). OwnAre manager s settled aimed) now (record {
          are_settled = λ owned. owns_nothing now settled begun.own (none_named settled kept.stamped);
          are_made = λ made live written. owns_nothing now aimed begun.own (none_named aimed kept.stamped_aimed);
          none_settled = λ single unmarked. none_named settled kept.stamped;
          none_logged = λ single unmarked empty. begun.own;
        }));
    plans =
        each_now before after slot (Some seat) (Some now) r (λ i s. PlanIsGood manager s settled aimed) (λ i s. PlanIsGood manager s settled aimed) kept.plans (λ i s other at had. had)
        (of_one (λ (s : Seat). PlanIsGood manager s settled aimed) now (good_without_plan manager now settled aimed begun.plan));
    drops =
        each_now before after slot (Some seat) (Some now) r (λ i s. DropsNone manager s) (λ i s. DropsNone manager s) kept.drops (λ i s other at had. had)
        (of_one (λ (s : Seat). DropsNone manager s) now (drops_none manager now begun.plan));
    rests =
        each_now before after slot (Some seat) (Some now) r (λ i s. Rests manager (length schema.classes) s) (λ i s. Rests manager (length schema.classes) s) kept.rests (λ i s other at had. had)
        (of_one (λ (s : Seat). Rests manager (length schema.classes) s) now begun.rests);
    stamped =
        stamped_without before.seats after.seats slot (others_stay before after slot (Some seat) (Some now) r) settled
        (λ tx class id v place open_tx has is. nobody_open tx place open_tx) kept.stamped;
    stamped_aimed =
        stamped_without before.seats after.seats slot (others_stay before after slot (Some seat) (Some now) r) aimed
        (λ tx class id v place open_tx has is. nobody_open tx place open_tx) kept.stamped_aimed;
    drawn = kept.drawn;
    drawn_aimed = kept.drawn_aimed;
  }

-- the record that begins, by the manager and what is wanted
module _ (classes begun snapshot : ℕ) (spare : Record) (seat : Seat) (idle : IsIdle seat) (empty : spare.pairs ≡ []) where
  is_begun : (m : Manager) (wanted : Kind) → IsBegun m classes wanted seat (exchanged m spare (latched m classes (opened wanted begun snapshot seat)))
  is_begun manager.Mvcc kind.ReadOnly = record {
    conn = refl;
    transaction = record { number = seat.begun + 1; kind = kind.ReadOnly; begun = begun; snapshot = snapshot; mark = None };
    open_one = refl;
    kind_is = refl;
    plan = idle.rest.plan;
    undo = idle.rest.undo;
    own = idle.own;
    latches = λ class held. absurd (no_latch seat class idle.rest.latches held);
    rests = record {
      rest = record { latches = idle.rest.latches; plan = idle.rest.plan; undo = idle.rest.undo; work = idle.rest.work };
      reader = refl;
      own = idle.own;
      cause = idle.cause;
    };
  }
  is_begun manager.Mursiw kind.ReadOnly = record {
    conn = refl;
    transaction = record { number = seat.begun + 1; kind = kind.ReadOnly; begun = begun; snapshot = snapshot; mark = None };
    open_one = refl;
    kind_is = refl;
    plan = idle.rest.plan;
    undo = idle.rest.undo;
    own = idle.own;
    latches = λ class held. absurd (no_latch seat class idle.rest.latches held);
    rests = record {
      rest = record { latches = idle.rest.latches; plan = idle.rest.plan; undo = idle.rest.undo; work = idle.rest.work };
      reader = refl;
      own = idle.own;
      cause = idle.cause;
    };
  }
  is_begun manager.Mvcc kind.ReadWrite = record {
    conn = refl;
    transaction = record { number = seat.begun + 1; kind = kind.ReadWrite; begun = begun; snapshot = snapshot; mark = None };
    open_one = refl;
    kind_is = refl;
    plan = idle.rest.plan;
    undo = idle.rest.undo;
    own = idle.own;
    latches = λ class held. absurd (no_latch seat class idle.rest.latches held);
    rests = record {
      writer = (refl, refl);
      work = idle.rest.work;
      cause = idle.cause;
      plan = λ live. idle.rest.plan;
      undo = λ live spans. idle.rest.undo;
      latches = λ live. (λ spans. idle.rest.latches, λ single. absurd (false≢true (sym single)));
    };
  }
  is_begun manager.Mursiw kind.ReadWrite = record {
    conn = refl;
    transaction = record { number = seat.begun + 1; kind = kind.ReadWrite; begun = begun; snapshot = snapshot; mark = None };
    open_one = refl;
    kind_is = refl;
    plan = idle.rest.plan;
    undo = empty;
    own = idle.own;
    latches = λ class held. (refl, refl);
    rests = record {
      writer = (refl, refl);
      work = idle.rest.work;
      cause = idle.cause;
      plan = λ live. idle.rest.plan;
      undo = λ live spans. absurd (false≢true spans);
      latches = λ live. (λ spans. absurd (false≢true spans), λ single. refl);
    };
  }

pub begins_kept : (schema : Schema) (manager : Manager) (before after : Ground) (c : ConnId) (seat : Seat) (wanted : Kind) (begun snapshot : ℕ) (spare : Record) → IsLawful schema → ArePlaced before.seats →
    ChangesSeat before after c seat (λ s. exchanged manager spare (latched manager (length schema.classes) (opened wanted begun snapshot s))) →
    seat.hand.phase ≡ phase.Idle → spare.pairs ≡ [] → MayBegin manager before.seats c.slot wanted → KeptByBoth schema manager before after
begins_kept schema manager before after c seat wanted begun snapshot spare lawful placed changes is_idle empty may serials ids settled aimed kept =
    let r = changes_replace before after c seat (λ s. exchanged manager spare (latched manager (length schema.classes) (opened wanted begun snapshot s))) changes in
    let idle : IsIdle seat = subst (λ (p : Phase). RestsIn manager (length schema.classes) seat p) is_idle (kept.rests c.slot seat r.held) in
    begun_kept schema manager before after c.slot seat (exchanged manager spare (latched manager (length schema.classes) (opened wanted begun snapshot seat))) wanted r lawful placed idle may
    (is_begun (length schema.classes) begun snapshot spare seat idle empty manager wanted) serials ids settled aimed kept
