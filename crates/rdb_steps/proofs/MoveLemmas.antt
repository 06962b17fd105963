-- One slot's record is another, or comes, or goes, and no cell is written: what is kept, part by part.
use Rattle.std.proofs.Common.{◌≡◌, ◌≢◌, ◌<◌, ℕ, zero, suc, List, [], ◌∷◌, length, set, true, false, Option, Some, None, option_map, refl, sym, ap, subst, ◌∙◌, arith, inl, inr}
use Rattle.std.proofs.lemmas.Bool.{false≢true}
use Rattle.std.proofs.Permutation.{which}
use Rattle.rdb_base.specs.declared.identity.ConnId.{ConnId}
use Rattle.rdb_base.specs.declared.identity.Manager.{Manager}
use Rattle.rdb_schema.specs.declared.schema.Schema.{Schema}
use Rattle.rdb_cells.specs.declared.pairs.Pair.{Pair}
use Rattle.rdb_cells.specs.Records.{content, first_of, settled}
use Rattle.rdb_cells.proofs.SettledLemmas.{true_or_false, settled-same}
use Rattle.rdb_registry.specs.declared.seat.Seat.{Seat}
use Rattle.rdb_registry.specs.declared.seat.Transaction.{Transaction}
use Rattle.rdb_registry.specs.Seats.{Seats, EachSeat, HoldsLatch, seat_in}
use Rattle.rdb_registry.proofs.SlotLemmas.{seat_in_other}
use Rattle.rdb_registry.proofs.RecordLaws.{changed_here}
use Rattle.rdb_sight.specs.Versions.{Object, Versions, objects_in}
use Rattle.rdb_writes.specs.Changes.{SameCells}
use Rattle.rdb_writes.specs.Grounds.{Ground, IsLatched, WorksOn, HasPlaces, IsWork, AreWorks, HaveOneHolder, settled_image, aimed_image, undo_records, logged_in}
use Rattle.rdb_writes.proofs.SeatLemmas.{same_logged}
use Rattle.rdb_writes.proofs.WorkLemmas.{in_its_slot}
use Rattle.rdb_steps.specs.Invariant.{IsSingle}
use Rattle.rdb_steps.specs.Kept.{IsLawful, HoldsClass, Agrees, AimsAt, IsUnaimed, aims}
use Rattle.rdb_steps.specs.Lists.{taken_over}
use Rattle.rdb_steps.specs.Moves.{ChangesSeat}
use Rattle.rdb_steps.proofs.ListLemmas.{holds_same, length_taken, taken_held, taken_free, held_or_not}

-- what stands in a slot is another record, or a record where there was none, or none
pub record Replaces (before after : Ground) (slot : ℕ) (was now : Option Seat) : Type 0 where
  pub cells : SameCells before after
  pub held : seat_in before.seats slot ≡ was
  pub records : after.seats ≡ set before.seats slot now

written_slot : (seats : Seats) (slot : ℕ) (x : Option Seat) (s : Seat) → seat_in (set seats slot x) slot ≡ Some s → x ≡ Some s
written_slot [] slot x s e = absurd (let no : None ≡ Some s = e in cc)
written_slot (o ∷ os) zero x s e = e
written_slot (o ∷ os) (suc slot) x s e = written_slot os slot x s e

pub changes_replace : (before after : Ground) (c : ConnId) (seat : Seat) (change : Seat → Seat) → ChangesSeat before after c seat change → Replaces before after c.slot (Some seat) (Some (change seat))
changes_replace before after c seat change changes =
    let at = in_its_slot before.seats c seat changes.held in
    record {
      cells = changes.cells;
      held = at;
      records = changes.records ∙ ap (λ (o : Option Seat). set before.seats c.slot (option_map change o)) at;
    }

-- the changed record stands in the slot
pub changed_there : (before after : Ground) (c : ConnId) (seat : Seat) (change : Seat → Seat) → ChangesSeat before after c seat change → seat_in after.seats c.slot ≡ Some (change seat)
changed_there before after c seat change changes =
    ap (λ (seats : Seats). seat_in seats c.slot) changes.records
    ∙ changed_here before.seats c.slot change
    ∙ ap (option_map change) (in_its_slot before.seats c seat changes.held)

-- what is so of one record is so of whatever stands there, and of what doesn't stand there everything is
pub of_one : (P : Seat → Type 0) (a : Seat) → P a → (s : Seat) → Some a ≡ Some s → P s
of_one P a p s e = let same : a ≡ s = cc in subst P same p

pub of_none : (P : Seat → Type 0) (s : Seat) → None ≡ Some s → P s
of_none P s e = absurd cc

module _ (before after : Ground) (slot : ℕ) (was now : Option Seat) (r : Replaces before after slot was now) where
  pub others_stay : (i : ℕ) → i ≢ slot → seat_in after.seats i ≡ seat_in before.seats i
  others_stay i other = ap (λ (seats : Seats). seat_in seats i) r.records ∙ seat_in_other before.seats slot i now other

  pub there_now : (i : ℕ) (s : Seat) → i ≡ slot → seat_in after.seats i ≡ Some s → now ≡ Some s
  there_now i s same there =
      written_slot before.seats slot now s (sym (ap (λ (seats : Seats). seat_in seats slot) r.records) ∙ sym (ap (seat_in after.seats) same) ∙ there)

  there_before : (i : ℕ) (s : Seat) → i ≡ slot → seat_in before.seats i ≡ Some s → was ≡ Some s
  there_before i s same there = sym r.held ∙ sym (ap (seat_in before.seats) same) ∙ there

  -- each record that was another's, and that of the slot
  pub each_now : (P Q : ℕ → Seat → Type 0) → EachSeat P before.seats → ((i : ℕ) (s : Seat) → i ≢ slot → seat_in before.seats i ≡ Some s → P i s → Q i s) →
      ((s : Seat) → now ≡ Some s → Q slot s) → EachSeat Q after.seats
  each_now P Q each others own i s there = elim (which i slot) [
    | inl same ↦ subst (λ (k : ℕ). Q k s) (sym same) (own s (there_now i s same there))
    | inr other ↦
        let there_too = sym (others_stay i other) ∙ there in
        others i s other there_too (each i s there_too)
  ]

  pub works_after : AreWorks before → ((s : Seat) → now ≡ Some s → (n : ℕ) → WorksOn s.hand n → IsLatched before s n) → ((s : Seat) → now ≡ Some s → HasPlaces s.hand) → AreWorks after
  works_after works latched places =
      each_now (λ i s. IsWork before s) (λ i s. IsWork after s) works
      (λ i s other there work. record { latched = λ n on. carried s n (work.latched n on); places = work.places })
      (λ s there. record { latched = λ n on. carried s n (latched s there n on); places = places s there })
    where
      carried : (s : Seat) (n : ℕ) → IsLatched before s n → IsLatched after s n
      carried s n l = (l.0, r.cells.classes n ∙ l.1, l.2)

  pub settled_stays : logged_in now ≡ logged_in was → (n : ℕ) → settled_image after n ≡ settled_image before n
  settled_stays same n =
      ap (λ (rs : List (List Pair)). settled rs after.image n)
      (ap undo_records r.records ∙ same_logged before.seats slot now (same ∙ sym (ap logged_in r.held)))
      ∙ settled-same (undo_records before.seats) after.image before.image n (r.cells.image n)

  -- whose latch it has it had, so no latch has two holders
  pub one_after : HaveOneHolder before.seats → ((s : Seat) → now ≡ Some s → (class : ℕ) → HoldsLatch s class → (x : Seat) × (was ≡ Some x) × HoldsLatch x class) → HaveOneHolder after.seats
  one_after one fewer class i j a b at_i at_j holds_a holds_b =
      let x = held_before i a at_i holds_a in
      let y = held_before j b at_j holds_b in
      one class i j x.0 y.0 x.1 y.1 x.2 y.2
    where
      held_before : (k : ℕ) (s : Seat) → seat_in after.seats k ≡ Some s → HoldsLatch s class → (x : Seat) × (seat_in before.seats k ≡ Some x) × HoldsLatch x class
      held_before k s there holds = elim (which k slot) [
        | inl same ↦
            let had = fewer s (there_now k s same there) class holds in
            (had.0, ap (seat_in before.seats) same ∙ r.held ∙ had.1, had.2)
        | inr other ↦ (s, sym (others_stay k other) ∙ there, holds)
      ]

  -- its transaction is of the kind of which it was, so a single writer works alone
  pub single_after : (manager : Manager) → IsSingle manager before.seats →
      ((s : Seat) (u : Transaction) → now ≡ Some s → s.transaction ≡ Some u → (x : Seat) × (t : Transaction) × (was ≡ Some x) × (x.transaction ≡ Some t) × (t.kind ≡ u.kind)) →
      IsSingle manager after.seats
  single_after manager single keeps spans i j a b t u at_i at_j open_a writes open_b =
      let x = open_before i a t at_i open_a in
      let y = open_before j b u at_j open_b in
      single spans i j x.0 y.0 x.1 y.1 x.2 y.2 x.3 (x.4 ∙ writes) y.3
    where
      open_before : (k : ℕ) (s : Seat) (v : Transaction) → seat_in after.seats k ≡ Some s → s.transaction ≡ Some v →
          (x : Seat) × (w : Transaction) × (seat_in before.seats k ≡ Some x) × (x.transaction ≡ Some w) × (w.kind ≡ v.kind)
      open_before k s v there open_s = elim (which k slot) [
        | inl same ↦
            let had = keeps s v (there_now k s same there) open_s in
            (had.0, had.1, ap (seat_in before.seats) same ∙ r.held ∙ had.2, had.3, had.4)
        | inr other ↦ (s, v, sym (others_stay k other) ∙ there, open_s, refl)
      ]

  module _ (schema : Schema) (manager : Manager) (lawful : IsLawful schema) (settled_list aimed : Versions) (agrees : Agrees schema manager before settled_list aimed) where
    pub settled_stands : logged_in now ≡ logged_in was → (class : ℕ) → class < length schema.classes → HoldsClass schema after (settled_image after) class (objects_in settled_list class)
    settled_stands same class within =
        holds_same schema lawful before after (settled_image before) (settled_image after) class (objects_in settled_list class) within r.cells.classes
        (λ n of. settled_stays same n) (agrees.stands.each class within)

    pub aims_after : (s : Seat) (class : ℕ) → class < length schema.classes → (objects : List Object) → AimsAt schema before s class objects → AimsAt schema after s class objects
    aims_after s class within objects holds =
        holds_same schema lawful before after (aimed_image before s.hand) (aimed_image after s.hand) class objects within r.cells.classes
        (λ n of. ap (first_of (content s.hand.plan.pairs n)) (r.cells.image n)) holds

    -- where nobody's aims are spoken of now, and this record's weren't, nobody's were
    pub unaimed_before : (class : ℕ) → IsUnaimed manager after class → ((s : Seat) → was ≡ Some s → HoldsLatch s class → aims manager s ≡ false) → IsUnaimed manager before class
    unaimed_before class unaimed own i s there held = elim (which i slot) [
      | inl same ↦ own s (there_before i s same there) held
      | inr other ↦ unaimed i s (others_stay i other ∙ there) held
    ]

    -- what a record aimed at whose aims are spoken of no more is settled
    pub agrees_same : AreWorks after → logged_in now ≡ logged_in was →
        ((s : Seat) → now ≡ Some s → aims manager s ≡ true → (class : ℕ) → class < length schema.classes → HoldsLatch s class → AimsAt schema before s class (objects_in aimed class)) →
        ((s : Seat) → was ≡ Some s → aims manager s ≡ true → (class : ℕ) → class < length schema.classes → HoldsLatch s class → IsUnaimed manager after class →
        objects_in aimed class ≡ objects_in settled_list class) →
        Agrees schema manager after settled_list aimed
    agrees_same works same own silent = record {
      works = works;
      stands = record { count = agrees.stands.count; each = λ class within. settled_stands same class within };
      aims =
          each_now (λ i s. aims manager s ≡ true → (class : ℕ) → class < length schema.classes → HoldsLatch s class → AimsAt schema before s class (objects_in aimed class))
          (λ i s. aims manager s ≡ true → (class : ℕ) → class < length schema.classes → HoldsLatch s class → AimsAt schema after s class (objects_in aimed class))
          agrees.aims
          (λ i s other there aimed_so speaks class within held. aims_after s class within (objects_in aimed class) (aimed_so speaks class within held))
          (λ s there speaks class within held. aims_after s class within (objects_in aimed class) (own s there speaks class within held));
      rest = record {
        count = agrees.rest.count;
        same = λ class within unaimed. rest_same class within unaimed was refl;
      };
    }
      where
        rest_same : (class : ℕ) → class < length schema.classes → IsUnaimed manager after class → (o : Option Seat) → was ≡ o → objects_in aimed class ≡ objects_in settled_list class
        rest_same class within unaimed None none =
            agrees.rest.same class within (unaimed_before class unaimed (λ s there held. let no : None ≡ Some s = sym none ∙ there in absurd cc))
        rest_same class within unaimed (Some s) is = elim (held_or_not s class) [
          | inl held ↦ elim (true_or_false (aims manager s)) [
            | inl speaks ↦ silent s is speaks class within held unaimed
            | inr quiet ↦
                agrees.rest.same class within (unaimed_before class unaimed (λ x there holds.
                of_one (λ (y : Seat). aims manager y ≡ false) s quiet x (sym is ∙ there)))
          ]
          | inr free ↦
              agrees.rest.same class within (unaimed_before class unaimed (λ x there holds.
              absurd (of_one (λ (y : Seat). ¬ HoldsLatch y class) s free x (sym is ∙ there) holds)))
        ]

-- What a record aimed at is no longer spoken of.
module _ (schema : Schema) (manager : Manager) (before after : Ground) (slot : ℕ) (seat now : Seat) (r : Replaces before after slot (Some seat) (Some now)) (lawful : IsLawful schema) (one : HaveOneHolder before.seats) where
  pub agrees_without : (settled_list aimed : Versions) → Agrees schema manager before settled_list aimed → AreWorks after → now.hand.undo.pairs ≡ seat.hand.undo.pairs →
      ((class : ℕ) → HoldsLatch now class → aims manager now ≡ false) → Agrees schema manager after settled_list (taken_over seat aimed settled_list)
  agrees_without settled_list aimed agrees works same silent = record {
    works = works;
    stands = record { count = agrees.stands.count; each = λ class within. settled_stands before after slot (Some seat) (Some now) r schema manager lawful settled_list aimed agrees same class within };
    aims =
        each_now before after slot (Some seat) (Some now) r
        (λ i s. aims manager s ≡ true → (class : ℕ) → class < length schema.classes → HoldsLatch s class → AimsAt schema before s class (objects_in aimed class))
        (λ i s. aims manager s ≡ true → (class : ℕ) → class < length schema.classes → HoldsLatch s class → AimsAt schema after s class (objects_in (taken_over seat aimed settled_list) class))
        agrees.aims
        (λ i s other there aimed_so speaks class within held.
        subst (λ (objects : List Object). AimsAt schema after s class objects)
        (sym (taken_free seat aimed settled_list class (λ mine. other (one class i slot s seat there r.held held mine))))
        (aims_after before after slot (Some seat) (Some now) r schema manager lawful settled_list aimed agrees s class within (objects_in aimed class) (aimed_so speaks class within held)))
        (λ s there speaks class within held.
        absurd (of_one (λ (x : Seat). HoldsLatch x class → aims manager x ≡ true → ⊥) now (λ holds spoken. false≢true (sym (silent class holds) ∙ spoken)) s there held speaks));
    rest = record {
      count = length_taken seat.latches 0 aimed settled_list ∙ agrees.rest.count;
      same = λ class within unaimed. elim (held_or_not seat class) [
        | inl held ↦ taken_held seat aimed settled_list class (omega (arith, within, agrees.rest.count)) held
        | inr free ↦
            taken_free seat aimed settled_list class free
            ∙ agrees.rest.same class within (unaimed_before before after slot (Some seat) (Some now) r schema manager lawful settled_list aimed agrees class unaimed (λ x there holds.
            absurd (of_one (λ (y : Seat). ¬ HoldsLatch y class) seat free x there holds)))
      ];
    };
  }
