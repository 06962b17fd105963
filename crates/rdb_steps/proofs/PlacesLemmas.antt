-- A connection's undo record has a place for each cell of a plan that is laid in its hand.
use Rattle.std.proofs.Common.{◌≡◌, ◌<◌, ◌≤◌, ◌+◌, ℕ, [], length, count_by, not, true, false, Option, Some, IsSome, refl, sym, ap, subst, ◌∙◌, arith, inl, inr}
use Rattle.std.specs.Option.{option_map_or}
use Rattle.std.proofs.lemmas.Bool.{false≢true}
use Rattle.std.proofs.lemmas.List.Sums.{count_by-le-length}
use Rattle.rdb_base.specs.declared.identity.Kind.TheVariants as kind
use Rattle.rdb_base.specs.declared.identity.Manager.{Manager}
use Rattle.rdb_base.specs.declared.identity.Manager.TheVariants as manager
use Rattle.rdb_schema.specs.declared.schema.Schema.{Schema}
use Rattle.rdb_cells.proofs.SettledLemmas.{true_or_false}
use Rattle.rdb_cells.specs.declared.pairs.Pair.{Pair}
use Rattle.rdb_cells.specs.Records.{IsRecord, Record, names}
use Rattle.rdb_registry.specs.declared.hand.Work.{Work}
use Rattle.rdb_registry.specs.declared.seat.Seat.{Seat}
use Rattle.rdb_registry.specs.declared.seat.Transaction.{Transaction}
use Rattle.rdb_registry.specs.Seats.{may_write}
use Rattle.rdb_space.specs.Memory.{RegionCells, class_of, image_of}
use Rattle.rdb_transactions.specs.Records.{is_single_writer}
use Rattle.rdb_writes.specs.Grounds.{HasPlaces}
use Rattle.rdb_writes.specs.Steps.{spans_one_plan}
use Rattle.rdb_steps.specs.Laid.{IsPlanOn}
use Rattle.rdb_steps.specs.Making.{with_plan}
use Rattle.rdb_steps.specs.States.{HasClasses, IsFurnished, cell_count}
use Rattle.rdb_steps.proofs.PlaceCounts.{has_places}

-- a writer is the single one where the undo record spans its transaction
pub single_if : (m : Manager) (seat : Seat) (t : Transaction) → spans_one_plan m ≡ false → seat.transaction ≡ Some t → t.kind ≡ kind.ReadWrite → is_single_writer m seat ≡ true
single_if manager.Mvcc seat t alone opened writes = absurd (false≢true (sym alone))
single_if manager.Mursiw seat t alone opened writes = ap (λ (o : Option Transaction). option_map_or (λ (x : Transaction). may_write x.kind) o false) opened ∙ ap may_write writes

pub quiet_if : (m : Manager) (seat : Seat) → spans_one_plan m ≡ true → is_single_writer m seat ≡ false
quiet_if manager.Mvcc seat spans = refl
quiet_if manager.Mursiw seat spans = absurd (false≢true spans)

-- so many cells of a plan, none of which is logged, have places
pub places_few : (logged unlogged pairs room places : ℕ) → logged ≡ 0 → unlogged ≤ pairs → pairs ≤ room → room ≡ 1024 → 1024 ≤ places → logged + unlogged ≤ places
places_few logged unlogged pairs room places none few within full enough = omega (arith, none, few, within, full, enough)

pub places_for_plan : (schema : Schema) (manager : Manager) (memory : RegionCells) (seat : Seat) (t : Transaction) (class : ℕ) (plan : Record) (work : Option Work) → HasClasses schema memory →
    IsFurnished schema manager (cell_count schema memory) seat → seat.transaction ≡ Some t → t.kind ≡ kind.ReadWrite → IsRecord seat.hand.undo →
    (spans_one_plan manager ≡ true → seat.hand.undo.pairs ≡ []) → ((n : ℕ) → names seat.hand.undo.pairs n ≡ true → IsSome (class_of memory n)) →
    IsPlanOn class (image_of memory) (class_of memory) plan → HasPlaces (with_plan plan work seat.hand)
places_for_plan schema manager memory seat t class plan work classes f opened writes once empty logged on = elim (true_or_false (spans_one_plan manager)) [
  | inl spans ↦
      places_few (length seat.hand.undo.pairs) (count_by (λ (p : Pair). not (names seat.hand.undo.pairs p.at.number)) plan.pairs) (length plan.pairs) plan.room seat.hand.undo.room
      (ap length (empty spans)) (count_by-le-length (λ (p : Pair). not (names seat.hand.undo.pairs p.at.number)) plan.pairs) on.once.within on.room (f.undo (quiet_if manager seat spans))
  | inr alone ↦
      has_places schema memory classes (with_plan plan work seat.hand) once.once on.once.once
      (λ n works. elim works [
        | inl named ↦ logged n named
        | inr named ↦ subst (λ (o : Option ℕ). IsSome o) (sym (on.only n named)) refl
      ])
      (f.single (single_if manager seat t alone opened writes))
]
