-- A transaction is marked: what its connection aimed at is settled.
use Rattle.std.proofs.Common.{◌≡◌, ◌≢◌, ◌&&◌, ◌||◌, ◌==◌, ℕ, length, Bool, true, false, not, Option, Some, None, is_some, IsSomeAnd, option_map, option_and_then, refl, sym, ap, subst, ◌∙◌, set-set, inl, inr}
use Rattle.std.proofs.lemmas.Bool.{false≢true}
use Rattle.rdb_base.specs.declared.identity.ConnId.{ConnId}
use Rattle.rdb_base.specs.declared.identity.Kind.TheVariants as kind
use Rattle.rdb_base.specs.declared.identity.Manager.{Manager}
use Rattle.rdb_base.specs.declared.identity.Phase.{Phase}
use Rattle.rdb_base.specs.declared.identity.Phase.TheVariants as phase
use Rattle.rdb_schema.specs.declared.schema.Schema.{Schema}
use Rattle.rdb_cells.proofs.SettledLemmas.{true_or_false}
use Rattle.rdb_registry.specs.declared.seat.Seat.{Seat}
use Rattle.rdb_registry.specs.declared.seat.Transaction.{Transaction}
use Rattle.rdb_registry.specs.Seats.{HoldsLatch, all_latches, marked, seat_in, with_hand}
use Rattle.rdb_registry.proofs.RecordLaws.{changed_here}
use Rattle.rdb_sight.specs.Versions.{Versions, objects_in, chain_in, own_version}
use Rattle.rdb_store.specs.Stored.{ref_of}
use Rattle.rdb_transactions.specs.Hands.{to_be_stamped}
use Rattle.rdb_transactions.specs.Records.{becomes_marked}
use Rattle.rdb_writes.specs.Changes.{ChangesHand}
use Rattle.rdb_writes.specs.Grounds.{Ground, WorksOn, IsWork, IsLatched, HaveOneHolder}
use Rattle.rdb_writes.specs.Steps.{spans_one_plan}
use Rattle.rdb_steps.specs.Invariant.{DropsNone}
use Rattle.rdb_steps.specs.Kept.{IsLawful, Agrees, OwnAre, Owns, aims, is_dropping, is_marked, is_rolling_back, owns_settled, takes_back, tx_of}
use Rattle.rdb_steps.specs.Lists.{taken_over}
use Rattle.rdb_steps.specs.Moves.{ChangesSeat, KeptBySettling}
use Rattle.rdb_steps.specs.Phases.{Rests, RestsIn, IsBetween, IsStamping}
use Rattle.rdb_steps.specs.Planned.{PlanIsGood}
use Rattle.rdb_steps.proofs.AlikeLemmas.{agrees_alike}
use Rattle.rdb_steps.proofs.HandLemmas.{mark_settles}
use Rattle.rdb_steps.proofs.IdleLemmas.{has_places}
use Rattle.rdb_steps.proofs.ListLemmas.{taken_free, held_or_not}
use Rattle.rdb_steps.proofs.MoveLemmas.{Replaces, changes_replace, changed_there, of_one, each_now, others_stay, one_after, single_after}
use Rattle.rdb_steps.proofs.OpenLemmas.{HasNumber, stamped_still}
use Rattle.rdb_steps.proofs.RestLemmas.{HasWriter, writer_of, no_latch, or_first, or_second, plan_written, drops_none, good_without_plan}
use Rattle.rdb_steps.proofs.TakenLemmas.{taken_drawn, taken_stamped, taken_none, taken_all}
use Rattle.rdb_steps.proofs.WithoutLemmas.{other_owns, other_plans}

all_false : (a b c d : Bool) → a ≡ false → b ≡ false → c ≡ false → (a || (b || (c && d))) ≡ false
all_false a b c d no_a no_b no_c = λ i. no_a i || (no_b i || (no_c i && d))

-- a live writer between two operations
module _ (manager : Manager) (classes : ℕ) (seat : Seat) (between : IsBetween manager classes seat) (live : seat.condemned ≡ None) (runs : seat.hand.phase ≡ phase.Running kind.ReadWrite) where
  takes_nothing : takes_back manager seat ≡ false
  takes_nothing = λ i. is_some (live i) || (is_rolling_back (runs i) && not (spans_one_plan manager))

  speaks : aims manager seat ≡ true
  speaks = or_second (is_dropping seat.hand) (not (takes_back manager seat)) (ap not takes_nothing)

  made_not_settled : spans_one_plan manager ≡ false → owns_settled manager seat ≡ false
  made_not_settled single =
      all_false (spans_one_plan manager) (is_marked seat) (takes_back manager seat) (length seat.hand.undo.pairs == 0) single between.writer.1 takes_nothing

  -- its own writes are those of its versions once what it aimed at is settled
  owns_taken : (settled aimed : Versions) → length settled ≡ classes → length aimed ≡ classes → OwnAre manager seat settled aimed → Owns seat (taken_over seat settled aimed)
  owns_taken settled aimed count count_aimed own = elim (true_or_false (spans_one_plan manager)) [
    | inl spans ↦
        subst (λ (versions : Versions). Owns seat versions) (sym (taken_none seat settled aimed ((between.latches live).0 spans)))
        (own.are_settled (or_first (spans_one_plan manager) (is_marked seat || (takes_back manager seat && (length seat.hand.undo.pairs == 0))) spans))
    | inr single ↦
        subst (λ (versions : Versions). Owns seat versions)
        (sym (taken_all seat settled aimed ((between.latches live).1 single ∙ ap (λ (n : ℕ). all_latches n) (sym count)) (count_aimed ∙ sym count)))
        (own.are_made (made_not_settled single) takes_nothing (plan_written seat.hand (between.plan live)))
  ]

module _ (seat : Seat) (commit : ℕ) (t : Transaction) (open_one : seat.transaction ≡ Some t) where
  marked_open : (becomes_marked commit seat).transaction ≡ Some (marked commit t)
  marked_open = ap (option_map (marked commit)) open_one

  marked_now : is_marked (becomes_marked commit seat) ≡ true
  marked_now = ap (λ (o : Option Transaction). is_some (option_and_then (λ x. x.mark) o)) marked_open

  marked_writer : t.kind ≡ kind.ReadWrite → IsSomeAnd (becomes_marked commit seat).transaction (λ x. x.kind ≡ kind.ReadWrite)
  marked_writer writes = subst (λ (o : Option Transaction). IsSomeAnd o (λ x. x.kind ≡ kind.ReadWrite)) (sym marked_open) writes

  owns_marked : (versions : Versions) → Owns seat versions → Owns (becomes_marked commit seat) versions
  owns_marked versions owns u open_now class id =
      let both : Some (marked commit t) ≡ Some u = sym marked_open ∙ open_now in
      let is : marked commit t ≡ u = cc in
      owns t open_one class id
      ∙ ap (λ (x : Transaction). option_map ref_of (own_version (tx_of seat x) (chain_in versions class id))) is

  -- its kind is what it was
  kind_was : (u : Transaction) → (becomes_marked commit seat).transaction ≡ Some u → t.kind ≡ u.kind
  kind_was u open_now =
      let both : Some (marked commit t) ≡ Some u = sym marked_open ∙ open_now in
      let is : marked commit t ≡ u = cc in
      ap (λ (x : Transaction). x.kind) is

  same_number : (u : Transaction) → seat.transaction ≡ Some u → HasNumber (becomes_marked commit seat) u.number
  same_number u was_open = record {
    transaction = marked commit u;
    open_one = ap (option_map (marked commit)) was_open;
    number_is = refl;
  }

module _ (schema : Schema) (manager : Manager) (before after : Ground) (c : ConnId) (seat : Seat) (commit : ℕ) (lawful : IsLawful schema) (changes : ChangesSeat before after c seat (becomes_marked commit)) (live : seat.condemned ≡ None) (runs : seat.hand.phase ≡ phase.Running kind.ReadWrite) where
  -- the cells, by way of the record with its hand changed alone
  marked_agrees : (settled aimed : Versions) → Agrees schema manager before settled aimed → HaveOneHolder before.seats → IsBetween manager (length schema.classes) seat → seat_in before.seats c.slot ≡ Some seat →
      Agrees schema manager after (taken_over seat settled aimed) aimed
  marked_agrees settled aimed agrees one between there =
      let empty = between.plan live in
      let middle : Ground = record before { seats = with_hand before.seats c.slot (to_be_stamped seat.hand) } in
      let hand_changes : ChangesHand before middle c seat (to_be_stamped seat.hand) = record {
        cells = record { image = λ n. refl; classes = λ n. refl };
        held = changes.held;
        records = refl;
        latched = λ n on. still_latched (agrees.works c.slot seat there) n on;
        places = has_places (to_be_stamped seat.hand) refl empty;
      } in
      let half = mark_settles schema manager before middle c seat (to_be_stamped seat.hand) lawful one agrees.works hand_changes empty empty refl
      (speaks manager (length schema.classes) seat between live runs) settled aimed agrees in
      let marks : Replaces middle after c.slot (Some (record seat { hand = to_be_stamped seat.hand })) (Some (becomes_marked commit seat)) = record {
        cells = record { image = changes.cells.image; classes = changes.cells.classes };
        held = changed_here before.seats c.slot (λ (s : Seat). record s { hand = to_be_stamped seat.hand }) ∙ ap (option_map (λ (s : Seat). record s { hand = to_be_stamped seat.hand })) there;
        records =
            (changes_replace before after c seat (becomes_marked commit) changes).records
            ∙ sym (set-set before.seats c.slot (option_map (λ (s : Seat). record s { hand = to_be_stamped seat.hand }) (seat_in before.seats c.slot)) (Some (becomes_marked commit seat)));
      } in
      agrees_alike schema manager middle after c.slot (record seat { hand = to_be_stamped seat.hand }) (becomes_marked commit seat) marks
      (changed_there before after c seat (becomes_marked commit) changes)
      (record { latches = refl; undo = refl; plan = refl; aims = refl }) lawful (taken_over seat settled aimed) aimed half
    where
      still_latched : IsWork before seat → (n : ℕ) → WorksOn (to_be_stamped seat.hand) n → IsLatched before seat n
      still_latched work n (inl logged) = absurd (false≢true logged)
      still_latched work n (inr planned) = work.latched n (inr planned)

  marked_owns : (settled aimed : Versions) → length settled ≡ length schema.classes → length aimed ≡ length schema.classes → IsBetween manager (length schema.classes) seat → HasWriter seat →
      OwnAre manager seat settled aimed → OwnAre manager (becomes_marked commit seat) (taken_over seat settled aimed) aimed
  marked_owns settled aimed count count_aimed between writer own =
      let mark = marked_now seat commit writer.transaction writer.open_one in
      record {
        are_settled = λ owned.
            owns_marked seat commit writer.transaction writer.open_one (taken_over seat settled aimed)
            (owns_taken manager (length schema.classes) seat between live runs settled aimed count count_aimed own);
        are_made = λ made. absurd (false≢true (sym made ∙ or_second (spans_one_plan manager)
            (is_marked (becomes_marked commit seat) || (takes_back manager (becomes_marked commit seat) && (length (becomes_marked commit seat).hand.undo.pairs == 0)))
            (or_first (is_marked (becomes_marked commit seat)) (takes_back manager (becomes_marked commit seat) && (length (becomes_marked commit seat).hand.undo.pairs == 0)) mark)));
        none_settled = λ single unmarked. absurd (false≢true (sym unmarked ∙ mark));
        none_logged = λ single unmarked. absurd (false≢true (sym unmarked ∙ mark));
      }

  marked_rests : IsBetween manager (length schema.classes) seat → HasWriter seat → IsStamping manager (becomes_marked commit seat)
  marked_rests between writer = record {
    writer = (marked_writer seat commit writer.transaction writer.open_one writer.writes, marked_now seat commit writer.transaction writer.open_one);
    work = between.work;
    plan = between.plan live;
    undo = refl;
    latches = λ spans. (between.latches live).0 spans;
  }

  pub marked_kept : KeptBySettling schema manager before after seat
  marked_kept serials ids settled aimed kept = record {
    agrees = marked_agrees settled aimed kept.agrees kept.one_holder between r.held;
    one_holder =
        one_after before after c.slot (Some seat) (Some (becomes_marked commit seat)) r kept.one_holder
        (λ s is class held. (seat, refl, of_one (λ (x : Seat). HoldsLatch x class → HoldsLatch seat class) (becomes_marked commit seat) (λ h. h) s is held));
    single =
        single_after before after c.slot (Some seat) (Some (becomes_marked commit seat)) r manager kept.single
        (λ s u is open_now. (
          seat,
          writer.transaction,
          refl,
          writer.open_one,
          of_one (λ (x : Seat). x.transaction ≡ Some u → writer.transaction.kind ≡ u.kind) (becomes_marked commit seat) (kind_was seat commit writer.transaction writer.open_one u) s is open_now,
        ));
    own =
        each_now before after c.slot (Some seat) (Some (becomes_marked commit seat)) r (λ i s. OwnAre manager s settled aimed) (λ i s. OwnAre manager s (taken_over seat settled aimed) aimed) kept.own
        (λ i s other at had. other_owns manager s settled aimed (taken_over seat settled aimed) aimed (same_settled i s other at) (λ single t open_one class. refl) had)
        (of_one (λ (s : Seat). OwnAre manager s (taken_over seat settled aimed) aimed) (becomes_marked commit seat)
        (marked_owns settled aimed kept.agrees.stands.count kept.agrees.rest.count between writer (kept.own c.slot seat r.held)));
    plans =
        each_now before after c.slot (Some seat) (Some (becomes_marked commit seat)) r (λ i s. PlanIsGood manager s settled aimed) (λ i s. PlanIsGood manager s (taken_over seat settled aimed) aimed) kept.plans
        (λ i s other at had. other_plans manager s settled aimed (taken_over seat settled aimed) aimed (same_settled i s other at) (λ t open_one class within. refl) had)
        (of_one (λ (s : Seat). PlanIsGood manager s (taken_over seat settled aimed) aimed) (becomes_marked commit seat)
        (good_without_plan manager (becomes_marked commit seat) (taken_over seat settled aimed) aimed (between.plan live)));
    drops =
        each_now before after c.slot (Some seat) (Some (becomes_marked commit seat)) r (λ i s. DropsNone manager s) (λ i s. DropsNone manager s) kept.drops (λ i s other at had. had)
        (of_one (λ (s : Seat). DropsNone manager s) (becomes_marked commit seat) (drops_none manager (becomes_marked commit seat) (between.plan live)));
    rests =
        each_now before after c.slot (Some seat) (Some (becomes_marked commit seat)) r (λ i s. Rests manager (length schema.classes) s) (λ i s. Rests manager (length schema.classes) s) kept.rests (λ i s other at had. had)
        (of_one (λ (s : Seat). Rests manager (length schema.classes) s) (becomes_marked commit seat) (marked_rests between writer));
    stamped =
        stamped_still before.seats after.seats c.slot (others_stay before after c.slot (Some seat) (Some (becomes_marked commit seat)) r) seat (becomes_marked commit seat) r.held there refl
        (same_number seat commit writer.transaction writer.open_one) (taken_over seat settled aimed)
        (taken_stamped before.seats seat settled aimed counts kept.stamped kept.stamped_aimed);
    stamped_aimed =
        stamped_still before.seats after.seats c.slot (others_stay before after c.slot (Some seat) (Some (becomes_marked commit seat)) r) seat (becomes_marked commit seat) r.held there refl
        (same_number seat commit writer.transaction writer.open_one) aimed kept.stamped_aimed;
    drawn = taken_drawn serials ids seat settled aimed counts kept.drawn kept.drawn_aimed;
    drawn_aimed = kept.drawn_aimed;
  }
    where
      r : Replaces before after c.slot (Some seat) (Some (becomes_marked commit seat))
      r = changes_replace before after c seat (becomes_marked commit) changes

      there : seat_in after.seats c.slot ≡ Some (becomes_marked commit seat)
      there = changed_there before after c seat (becomes_marked commit) changes

      between : IsBetween manager (length schema.classes) seat
      between = subst (λ (p : Phase). RestsIn manager (length schema.classes) seat p) runs (kept.rests c.slot seat r.held)

      writer : HasWriter seat
      writer = writer_of seat false between.writer

      counts : length aimed ≡ length settled
      counts = kept.agrees.rest.count ∙ sym kept.agrees.stands.count

      same_settled : (i : ℕ) (s : Seat) → i ≢ c.slot → seat_in before.seats i ≡ Some s → (t : Transaction) → s.transaction ≡ Some t → (class : ℕ) →
          objects_in (taken_over seat settled aimed) class ≡ objects_in settled class
      same_settled i s other at t open_one class = elim (held_or_not seat class) [
        | inr free ↦ taken_free seat settled aimed class free
        | inl held ↦ elim (true_or_false (spans_one_plan manager)) [
          | inl spans ↦ absurd (no_latch seat class ((between.latches live).0 spans) held)
          | inr single ↦ absurd (other (sym (kept.single single c.slot i seat s writer.transaction t r.held at writer.open_one writer.writes open_one)))
        ]
      ]
