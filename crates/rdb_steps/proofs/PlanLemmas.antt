-- A plan that is made: its connection aims at what the plan leads to.
use Rattle.std.proofs.Common.{◌≡◌, ◌≢◌, ◌<◌, ℕ, List, length, false, Option, Some, option_map, refl, sym, ap, subst, ◌∙◌, arith, inl, inr}
use Rattle.std.proofs.lemmas.Bool.{false≢true}
use Rattle.std.proofs.Permutation.{which}
use Rattle.rdb_base.specs.declared.identity.ConnId.{ConnId}
use Rattle.rdb_base.specs.declared.identity.Manager.{Manager}
use Rattle.rdb_schema.specs.declared.schema.Schema.{Schema}
use Rattle.rdb_pages.specs.declared.cell.Cell.{Cell}
use Rattle.rdb_cells.specs.declared.pairs.Pair.{Pair}
use Rattle.rdb_cells.specs.Records.{names, content, first_of, planned}
use Rattle.rdb_cells.proofs.PairLemmas.{content_unnamed}
use Rattle.rdb_cells.proofs.SettledLemmas.{true_or_false}
use Rattle.rdb_registry.specs.declared.hand.Hand.{Hand}
use Rattle.rdb_registry.specs.declared.seat.Seat.{Seat}
use Rattle.rdb_registry.specs.Seats.{Seats, seat_in, HoldsLatch}
use Rattle.rdb_registry.proofs.SlotLemmas.{seat_in_other}
use Rattle.rdb_registry.proofs.RecordLaws.{changed_here}
use Rattle.rdb_sight.specs.Versions.{Version, Object, Versions, objects_in, chain_in, with_chain, with_chain_in}
use Rattle.rdb_writes.specs.Grounds.{Ground, AreWorks, HaveOneHolder, settled_image, aimed_image}
use Rattle.rdb_writes.proofs.ChangeLemmas.{hand_works, hand_same}
use Rattle.rdb_writes.proofs.WorkLemmas.{in_its_slot}
use Rattle.rdb_steps.specs.Kept.{IsLawful, HoldsClass, Agrees, AimsAt}
use Rattle.rdb_steps.specs.Lists.{LaysPlan, AimsAtChain}
use Rattle.rdb_steps.proofs.ListLemmas.{holds_same, class_is}
use Rattle.rdb_steps.proofs.RestingLemmas.{stands_now}
use Rattle.rdb_steps.proofs.StampLemmas.{set_here, set_elsewhere, set_length}

module _ (schema : Schema) (manager : Manager) (before after : Ground) (c : ConnId) (seat : Seat) (hand : Hand) (class id : ℕ) (was chain : List Version) (lawful : IsLawful schema) (one : HaveOneHolder before.seats) (works : AreWorks before) (lays : LaysPlan schema manager before after c seat hand class id was chain) (here : class < length schema.classes) where
  at : seat_in before.seats c.slot ≡ Some seat
  at = in_its_slot before.seats c seat lays.changes.held

  at_now : seat_in after.seats c.slot ≡ Some (record seat { hand = hand })
  at_now =
      ap (λ (seats : Seats). seat_in seats c.slot) lays.changes.records
      ∙ changed_here before.seats c.slot (λ (s : Seat). record s { hand = hand })
      ∙ ap (option_map (λ (s : Seat). record s { hand = hand })) at

  others_stay : (i : ℕ) → i ≢ c.slot → seat_in after.seats i ≡ seat_in before.seats i
  others_stay i other =
      ap (λ (seats : Seats). seat_in seats i) lays.changes.records
      ∙ seat_in_other before.seats c.slot i (option_map (λ (s : Seat). record s { hand = hand }) (seat_in before.seats c.slot)) other

  mine : (i : ℕ) (s : Seat) → i ≡ c.slot → seat_in after.seats i ≡ Some s → s ≡ record seat { hand = hand }
  mine i s same there = let both : Some s ≡ Some (record seat { hand = hand }) = sym there ∙ ap (seat_in after.seats) same ∙ at_now in cc

  was_mine : (i : ℕ) (s : Seat) → i ≡ c.slot → seat_in before.seats i ≡ Some s → s ≡ seat
  was_mine i s same there = let both : Some s ≡ Some seat = sym there ∙ ap (seat_in before.seats) same ∙ at in cc

  -- before the step the connection aims at what stands
  aimed_stands : (settled aimed : Versions) → Agrees schema manager before settled aimed → (other : ℕ) → other < length schema.classes → HoldsLatch seat other → HoldsClass schema before before.image other (objects_in aimed other)
  aimed_stands settled aimed agrees other within held =
      stands_now schema manager before settled aimed c.slot seat lawful one agrees at lays.had_none lays.stands other within held

  -- the plan has no cell of another class
  unplanned : (other n : ℕ) → other ≢ class → before.class_of n ≡ Some other → names hand.plan.pairs n ≡ false
  unplanned other n ne of = elim (true_or_false (names hand.plan.pairs n)) [
    | inl named ↦ absurd (ne (class_is (before.class_of n) other class of (lays.only n named)))
    | inr free ↦ free
  ]

  own_aim : (settled aimed : Versions) → Agrees schema manager before settled aimed → chain_in aimed class id ≡ was → (other : ℕ) → other < length schema.classes → HoldsLatch seat other →
      HoldsClass schema after (aimed_image after hand) other (objects_in (with_chain_in aimed class id chain) other)
  own_aim settled aimed agrees is other within held = elim (which other class) [
    | inl same ↦
        subst (λ (k : ℕ). HoldsClass schema after (aimed_image after hand) k (objects_in (with_chain_in aimed class id chain) k)) (sym same)
        (subst (λ (objects : List Object). HoldsClass schema after (aimed_image after hand) class objects)
        (sym (set_here aimed class (with_chain (objects_in aimed class) id chain) (omega (arith, here, agrees.rest.count))))
        (holds_same schema lawful before after (planned hand.plan.pairs before.image) (aimed_image after hand) class (with_chain (objects_in aimed class) id chain) here lays.changes.cells.classes
        (λ n of. ap (first_of (content hand.plan.pairs n)) (lays.changes.cells.image n))
        (lays.leads (objects_in aimed class) (aimed_stands settled aimed agrees class here lays.latch) is)))
    | inr ne ↦
        subst (λ (objects : List Object). HoldsClass schema after (aimed_image after hand) other objects)
        (sym (set_elsewhere aimed class other (with_chain (objects_in aimed class) id chain) ne))
        (holds_same schema lawful before after before.image (aimed_image after hand) other (objects_in aimed other) within lays.changes.cells.classes
        (λ n of. ap (λ (o : Option Cell). first_of o (after.image n)) (content_unnamed hand.plan.pairs n (unplanned other n ne of)) ∙ lays.changes.cells.image n)
        (aimed_stands settled aimed agrees other within held))
  ]

  pub plan_lists : AimsAtChain schema manager before after class id was chain
  plan_lists settled aimed agrees is = record {
    works = hand_works before after c seat hand works one lays.changes;
    stands = record {
      count = agrees.stands.count;
      each = λ other within.
          holds_same schema lawful before after (settled_image before) (settled_image after) other (objects_in settled other) within lays.changes.cells.classes
          (λ n of. hand_same before after c seat hand works one lays.changes lays.undo n) (agrees.stands.each other within);
    };
    aims = λ i s there speaks other within held. elim (which i c.slot) [
      | inl same ↦
          let me = mine i s same there in
          subst (λ (x : Seat). AimsAt schema after x other (objects_in (with_chain_in aimed class id chain) other)) (sym me)
          (own_aim settled aimed agrees is other within (subst (λ (x : Seat). HoldsLatch x other) me held))
      | inr ne_slot ↦
          let there_before = sym (others_stay i ne_slot) ∙ there in
          let ne : other ≢ class = λ same. ne_slot (one class i c.slot s seat there_before at (subst (λ (k : ℕ). HoldsLatch s k) same held) lays.latch) in
          subst (λ (objects : List Object). HoldsClass schema after (aimed_image after s.hand) other objects)
          (sym (set_elsewhere aimed class other (with_chain (objects_in aimed class) id chain) ne))
          (holds_same schema lawful before after (aimed_image before s.hand) (aimed_image after s.hand) other (objects_in aimed other) within lays.changes.cells.classes
          (λ n of. ap (first_of (content s.hand.plan.pairs n)) (lays.changes.cells.image n))
          (agrees.aims i s there_before speaks other within held))
    ];
    rest = record {
      count = set_length aimed class (with_chain (objects_in aimed class) id chain) ∙ agrees.rest.count;
      same = λ other within unaimed.
          let ne : other ≢ class = λ same.
          false≢true (sym (unaimed c.slot (record seat { hand = hand }) at_now (subst (λ (k : ℕ). HoldsLatch seat k) (sym same) lays.latch)) ∙ lays.aims) in
          set_elsewhere aimed class other (with_chain (objects_in aimed class) id chain) ne
          ∙ agrees.rest.same other within (λ i s there held. elim (which i c.slot) [
            | inl same ↦
                let me = was_mine i s same there in
                absurd (false≢true (sym (unaimed c.slot (record seat { hand = hand }) at_now (subst (λ (x : Seat). HoldsLatch x other) me held)) ∙ lays.aims))
            | inr ne_slot ↦ unaimed i s (others_stay i ne_slot ∙ there) held
          ]);
    };
  }
