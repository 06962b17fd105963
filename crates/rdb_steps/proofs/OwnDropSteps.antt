-- The drop of an own version is planned over a registry that was found to have the latch.
use Rattle.std.proofs.Common.{◌≡◌, ℕ, List, [], length, Option, Some, None, IsSomeAnd, slice_get, refl, sym, ap, subst, ◌∙◌}
use Rattle.rdb_base.specs.declared.identity.ConnId.{ConnId}
use Rattle.rdb_registry.specs.declared.hand.Hand.{Hand}
use Rattle.rdb_registry.specs.declared.own_writes.OwnWrite.{OwnWrite}
use Rattle.rdb_registry.specs.declared.seat.Seat.{Seat}
use Rattle.rdb_registry.specs.declared.seat.Transaction.{Transaction}
use Rattle.rdb_registry.specs.OwnWrites.{AreOrdered}
use Rattle.rdb_registry.specs.Registry.{IsRoll, Roll}
use Rattle.rdb_registry.specs.Seats.{NoneHolds, add_latch, changed, seat_of, with_hand}
use Rattle.rdb_sight.specs.Versions.{Versions}
use Rattle.rdb_space.specs.Memory.{class_of, image_of}
use Rattle.rdb_store.specs.Shapes.{class_in}
use Rattle.rdb_transactions.specs.Records.{edited}
use Rattle.rdb_transactions.proofs.EditLemmas.{has_from, record_after}
use Rattle.rdb_steps.specs.declared.state.State.{State}
use Rattle.rdb_steps.specs.Invariant.{IsKept}
use Rattle.rdb_steps.specs.Kept.{tx_of}
use Rattle.rdb_steps.specs.Laid.{IsPlanOn, LeadsWithout}
use Rattle.rdb_steps.specs.Making.{without_own}
use Rattle.rdb_steps.specs.Planning.{FirstWrite, IsToDrop, LaysLatched, planning}
use Rattle.rdb_steps.specs.States.{IsWhole, Keeps, ground_in}
use Rattle.rdb_steps.specs.Steps.{OnlySeat}
use Rattle.rdb_steps.specs.Written.{FallsDebt}
use Rattle.rdb_steps.proofs.OwnDropPlans.{drop_nearer, lays_latched, nearer_of, only_latched, own_planned, own_some, whole_dropping}

-- of the first object that a connection's transaction wrote, this is so
pub first_write : {P : Type 0} (s : State P) (c : ConnId) (seat : Seat) → seat_of s.transactions.registry.seats c ≡ Some seat → (own : OwnWrite) → slice_get seat.hand.own.items 0 ≡ Some own →
    (Is : Seat → OwnWrite → Type 0) → Is seat own → FirstWrite s c Is
first_write s c seat held own first Is is =
    has_from s.transactions.registry.seats c (λ x. IsSomeAnd (slice_get x.hand.own.items 0) (Is x)) seat held (subst (λ (o : Option OwnWrite). IsSomeAnd o (Is seat)) (sym first) is)

-- the hand that was lent once the latch was taken
pub lent_after : {P : Type 0} (s : State P) (c : ConnId) (seat : Seat) → seat_of s.transactions.registry.seats c ≡ Some seat → (mid : Roll) (class : ℕ) → mid ≡ edited s.transactions.registry c.slot (add_latch class) →
    (was : Hand) → IsSomeAnd (seat_of mid.seats c) (λ x. was ≡ x.hand) → was ≡ seat.hand
lent_after s c seat held mid class latched was lent =
    subst (λ (o : Option Seat). IsSomeAnd o (λ x. was ≡ x.hand)) (record_after s.transactions.registry.seats c (add_latch class) seat (λ x. refl) held)
    (subst (λ (r : Roll). IsSomeAnd (seat_of r.seats c) (λ x. was ≡ x.hand)) latched lent)

module _ {P : Type 0} (s : State P) (c : ConnId) (whole : IsWhole s) (seat : Seat) (held_by : seat_of s.transactions.registry.seats c ≡ Some seat) (due_is : IsToDrop seat) (own_is : OwnWrite) (first_is : slice_get seat.hand.own.items 0 ≡ Some own_is)
    (mid : Roll) (latched : mid ≡ edited s.transactions.registry c.slot (add_latch own_is.class)) (free_now : NoneHolds s.transactions.registry.seats own_is.class) (sound_mid : IsRoll mid) (was h : Hand)
    (lent : IsSomeAnd (seat_of mid.seats c) (λ x. was ≡ x.hand)) (laid : h ≡ planning h.plan was) (on_class : IsPlanOn own_is.class (image_of s.memory) (class_of s.memory) h.plan)
    (leads_out : LeadsWithout (class_in s.store own_is.class) (image_of s.memory) (class_of s.memory) h.plan.pairs own_is.header.number) where
  sound_then : IsRoll (edited s.transactions.registry c.slot (add_latch own_is.class))
  sound_then = subst (λ (r : Roll). IsRoll r) latched sound_mid

  lent_then : IsSomeAnd (seat_of (changed s.transactions.registry.seats c.slot (add_latch own_is.class)) c) (λ x. was ≡ x.hand)
  lent_then = subst (λ (r : Roll). IsSomeAnd (seat_of r.seats c) (λ x. was ≡ x.hand)) latched lent

  was_is : was ≡ seat.hand
  was_is =
      subst (λ (o : Option Seat). IsSomeAnd o (λ x. was ≡ x.hand)) (record_after s.transactions.registry.seats c (add_latch own_is.class) seat (λ x. refl) held_by) lent_then

  hand_is : h ≡ record seat.hand { plan = h.plan }
  hand_is = laid ∙ ap (λ (x : Hand). record x { plan = h.plan }) was_is

  pub dropped_kept : (settled aimed : Versions) → Keeps s settled aimed → AreOrdered seat.hand.own.items → (t : Transaction) → seat.transaction ≡ Some t →
      IsKept s.schema s.transactions.manager s.counters.serials s.counters.ids.items (ground_in s.memory (record mid { seats = with_hand mid.seats c.slot h })) settled (without_own aimed own_is.class own_is.id (tx_of seat t))
  dropped_kept settled aimed kept ordered t opened =
      subst (λ (r : Roll). IsKept s.schema s.transactions.manager s.counters.serials s.counters.ids.items (ground_in s.memory (record r { seats = with_hand r.seats c.slot h })) settled (without_own aimed own_is.class own_is.id (tx_of seat t)))
      (sym latched)
      (own_planned s c whole seat held_by due_is settled aimed kept own_is first_is free_now sound_then h h.plan hand_is ordered on_class leads_out t opened)

  pub dropped_only : OnlySeat s.transactions.registry (record mid { seats = with_hand mid.seats c.slot h }) c
  dropped_only = subst (λ (r : Roll). OnlySeat s.transactions.registry (record r { seats = with_hand r.seats c.slot h }) c) (sym latched) (only_latched s.transactions.registry c own_is.class h)

  pub dropped_lays : (settled aimed : Versions) → Keeps s settled aimed →
      LaysLatched s (record s { transactions = record s.transactions { registry = record mid { seats = with_hand mid.seats c.slot h } } }) c own_is.class
  dropped_lays settled aimed kept =
      subst (λ (r : Roll). LaysLatched s (record s { transactions = record s.transactions { registry = record r { seats = with_hand r.seats c.slot h } } }) c own_is.class) (sym latched)
      (lays_latched s c own_is.class was h h.plan lent_then laid (own_some s c whole seat held_by due_is settled aimed kept own_is first_is free_now sound_then h.plan.pairs leads_out))

  pub dropped_nearer : (settled aimed : Versions) → Keeps s settled aimed →
      (x now : Seat) → seat_of s.transactions.registry.seats c ≡ Some x → seat_of (with_hand mid.seats c.slot h) c ≡ Some now → FallsDebt s.transactions.manager x now
  dropped_nearer settled aimed kept x now held_x there =
      nearer_of s c whole seat held_by due_is settled aimed kept own_is first_is h
      (drop_nearer s c whole seat held_by due_is settled aimed kept own_is first_is h h.plan hand_is
      (own_some s c whole seat held_by due_is settled aimed kept own_is first_is free_now sound_then h.plan.pairs leads_out) on_class.once on_class.room)
      x now held_x (subst (λ (r : Roll). seat_of (with_hand r.seats c.slot h) c ≡ Some now) latched there)

  pub dropped_whole : (settled aimed : Versions) → Keeps s settled aimed → IsWhole (record s { transactions = record s.transactions { registry = record mid { seats = with_hand mid.seats c.slot h } } })
  dropped_whole settled aimed kept =
      subst (λ (r : Roll). IsWhole (record s { transactions = record s.transactions { registry = record r { seats = with_hand r.seats c.slot h } } })) (sym latched)
      (whole_dropping s c whole seat held_by due_is settled aimed kept own_is first_is (record s.transactions.registry { seats = with_hand (changed s.transactions.registry.seats c.slot (add_latch own_is.class)) c.slot h }) h h.plan refl hand_is on_class.room)
