-- A connection that has no plan, in the classes whose latch it holds: what it aims at stands there, and where it has nothing to take back,
-- it is settled. Its own writes are those of the versions aimed at.
use Rattle.std.proofs.Common.{◌≡◌, ◌≢◌, ◌⊎◌, ◌<◌, ◌≤◌, ◌||◌, ◌&&◌, ◌==◌, ℕ, List, [], length, Bool, true, false, Option, Some, option_map, get_or, refl, sym, ap, subst, ◌∙◌, arith, inl, inr}
use Rattle.std.proofs.lemmas.Bool.{cases_lt, or_from}
use Rattle.std.proofs.lemmas.List.{get_or_past}
use Rattle.rdb_base.specs.declared.identity.Manager.{Manager}
use Rattle.rdb_schema.specs.declared.schema.Schema.{Schema}
use Rattle.rdb_cells.specs.declared.pairs.Pair.{Pair}
use Rattle.rdb_cells.specs.Records.{planned, taken_back}
use Rattle.rdb_cells.proofs.SettledLemmas.{true_or_false}
use Rattle.rdb_registry.specs.declared.seat.Seat.{Seat}
use Rattle.rdb_registry.specs.declared.seat.Transaction.{Transaction}
use Rattle.rdb_registry.specs.OwnWrites.{header_of}
use Rattle.rdb_registry.specs.Seats.{seat_in, HoldsLatch}
use Rattle.rdb_sight.specs.Versions.{Version, Object, Versions, IsAscending, objects_in, chain_in, chain_of, own_version}
use Rattle.rdb_store.specs.Stored.{ref_of}
use Rattle.rdb_writes.specs.Grounds.{Ground, HaveOneHolder, settled_image, aimed_image}
use Rattle.rdb_writes.specs.Steps.{spans_one_plan, is_written}
use Rattle.rdb_writes.proofs.ChangeLemmas.{by_holder}
use Rattle.rdb_steps.specs.Kept.{IsLawful, HoldsClass, Agrees, OwnAre, aims, is_marked, takes_back, tx_of}
use Rattle.rdb_steps.specs.Planned.{IsWithin}
use Rattle.rdb_steps.proofs.ListLemmas.{holds_same}

module _ (schema : Schema) (manager : Manager) (g : Ground) (settled aimed : Versions) (slot : ℕ) (seat : Seat) (lawful : IsLawful schema) (one : HaveOneHolder g.seats) (agrees : Agrees schema manager g settled aimed)
    (at : seat_in g.seats slot ≡ Some seat) (no_plan : seat.hand.plan.pairs ≡ []) where
  settled_stands : seat.hand.undo.pairs ≡ [] → (k : ℕ) → k < length schema.classes → HoldsLatch seat k → HoldsClass schema g g.image k (objects_in settled k)
  settled_stands empty k within held =
      holds_same schema lawful g g (settled_image g) g.image k (objects_in settled k) within (λ n. refl)
      (λ n of. sym (by_holder g slot n seat agrees.works one at (k, of, held) ∙ ap (λ (ps : List Pair). taken_back ps g.image n) empty))
      (agrees.stands.each k within)

  aimed_stands : aims manager seat ≡ true → (k : ℕ) → k < length schema.classes → HoldsLatch seat k → HoldsClass schema g g.image k (objects_in aimed k)
  aimed_stands speaks k within held =
      holds_same schema lawful g g (aimed_image g seat.hand) g.image k (objects_in aimed k) within (λ n. refl)
      (λ n of. sym (ap (λ (ps : List Pair). planned ps g.image n) no_plan))
      (agrees.aims slot seat at speaks k within held)

  same_within : seat.hand.undo.pairs ≡ [] → (k : ℕ) → k < length schema.classes → HoldsLatch seat k → objects_in aimed k ≡ objects_in settled k
  same_within empty k within held = elim (true_or_false (aims manager seat)) [
    | inl speaks ↦
        (lawful k within).one g.image g.class_of (objects_in aimed k) (objects_in settled k) (aimed_stands speaks k within held) (settled_stands empty k within held)
    | inr silent ↦ agrees.rest.same k within (λ i s there held_too.
        let here : i ≡ slot = one k i slot s seat there at held_too held in
        let both : Some s ≡ Some seat = sym there ∙ ap (seat_in g.seats) here ∙ at in
        let same : s ≡ seat = cc in
        ap (aims manager) same ∙ silent)
  ]

  -- where it has nothing to take back, what is aimed at in its classes is settled
  pub same_at_rest : seat.hand.undo.pairs ≡ [] → (k : ℕ) → HoldsLatch seat k → objects_in aimed k ≡ objects_in settled k
  same_at_rest empty k held = elim (cases_lt k (length schema.classes)) [
    | inl within ↦ same_within empty k within held
    | inr past ↦
        let aims_at = agrees.rest.count in
        let stands = agrees.stands.count in
        get_or_past aimed k [] (omega (arith, past, aims_at)) ∙ sym (get_or_past settled k [] (omega (arith, past, stands)))
  ]

  -- what it aims at stands in its classes
  pub stands_now : (aims manager seat ≡ true) ⊎ (seat.hand.undo.pairs ≡ []) → (k : ℕ) → k < length schema.classes → HoldsLatch seat k → HoldsClass schema g g.image k (objects_in aimed k)
  stands_now (inl speaks) k within held = aimed_stands speaks k within held
  stands_now (inr empty) k within held =
      subst (λ (objects : List Object). HoldsClass schema g g.image k objects) (sym (same_within empty k within held)) (settled_stands empty k within held)

  pub ascends : (aims manager seat ≡ true) ⊎ (seat.hand.undo.pairs ≡ []) → (k : ℕ) → k < length schema.classes → HoldsLatch seat k → IsAscending (objects_in aimed k)
  ascends rests k within held = (stands_now rests k within held).1.ascending

-- its own writes, where its aims are spoken of, are its transaction's versions that are aimed at
pub owned_at_rest : (manager : Manager) (seat now : Seat) (settled aimed : Versions) (t : Transaction) → OwnAre manager seat settled aimed → seat.transaction ≡ Some t → seat.hand.plan.pairs ≡ [] →
    (spans_one_plan manager ≡ true → (k : ℕ) → HoldsLatch now k → objects_in aimed k ≡ objects_in settled k) →
    (spans_one_plan manager ≡ false → (is_marked seat ≡ false) × (takes_back manager seat ≡ false)) →
    (k j : ℕ) → IsWithin manager now k → header_of seat.hand.own.items (k, j) ≡ option_map ref_of (own_version (tx_of seat t) (chain_in aimed k j))
owned_at_rest manager seat now settled aimed t own opened no_plan same live k j inside = elim (true_or_false (spans_one_plan manager)) [
  | inl spans ↦
      own.are_settled (ap (λ b. b || (is_marked seat || (takes_back manager seat && (length seat.hand.undo.pairs == 0)))) spans) t opened k j
      ∙ sym (ap (λ (objects : List Object). option_map ref_of (own_version (tx_of seat t) (chain_of objects j))) (same spans k (inside spans)))
  | inr alone ↦
      let lives = live alone in
      own.are_made
      (or_from (spans_one_plan manager) _ alone (or_from (is_marked seat) _ lives.0 (ap (λ b. b && (length seat.hand.undo.pairs == 0)) lives.1)))
      lives.1 (ap (λ (ps : List Pair). length ps == 0) no_plan) t opened k j
]
