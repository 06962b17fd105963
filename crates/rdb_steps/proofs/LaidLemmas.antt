-- A plan that is taken from an overlay over a region's memory, on one class.
use Rattle.std.proofs.Common.{◌≡◌, ◌≢◌, ◌↔◌, ℕ, List, true, false, Option, Some, None, Bor, IsSomeAnd, refl, sym, ap, subst, ◌∙◌, inl, inr}
use Rattle.std.proofs.lemmas.Bool.{false≢true}
use Rattle.rdb_base.specs.declared.operation.Op.{Op}
use Rattle.rdb_base.specs.declared.operation.Op.TheVariants as op
use Rattle.rdb_base.specs.declared.value.Value.{Value}
use Rattle.rdb_base.specs.Operations.{is_write}
use Rattle.rdb_schema.specs.declared.types.ValueType.{ValueType}
use Rattle.rdb_schema.specs.Encodes.{Encodes}
use Rattle.rdb_pages.specs.declared.cell.Cell.{Cell}
use Rattle.rdb_cells.specs.Images.{Image, SameImage}
use Rattle.rdb_cells.specs.Overlays.{Laid, AreCells}
use Rattle.rdb_cells.specs.Records.{Record, IsRecord, names, planned, first_of, max_plan}
use Rattle.rdb_cells.proofs.PairLemmas.{content_unnamed}
use Rattle.rdb_cells.proofs.SettledLemmas.{true_or_false}
use Rattle.rdb_sight.specs.Versions.{Object}
use Rattle.rdb_space.specs.Memory.{RegionCells, image_of, class_of}
use Rattle.rdb_store.specs.Classes.{ClassNature}
use Rattle.rdb_store.specs.Holds.{Holds, Whatever}
use Rattle.rdb_steps.specs.Laid.{IsPlanOn, Spells}
use Rattle.rdb_steps.specs.Making.{row_written}

-- an overlay over these cells, with a plan for a class, of which nothing is taken
abbrev pub laid_over : Bor RegionCells → Record → ℕ → Laid (Bor RegionCells)
laid_over memory plan class = record { cells = memory; plan = plan; class = class; taken = record { number = 0 } }

-- what is so whatever the cells hold, below an overlay that was laid over them
pub whatever_below : (memory : Bor RegionCells) (plan : Record) (of : ℕ) (laid : Laid (Bor RegionCells)) (class : ClassNature) (Is : List Object → Type 0) → laid ≡ laid_over memory plan of →
    Whatever class (image_of memory.now) (class_of memory.now) Is → Whatever class (image_of laid.cells.now) (class_of laid.cells.now) Is
whatever_below memory plan of laid class Is same here = subst (λ (o : Laid (Bor RegionCells)). Whatever class (image_of o.cells.now) (class_of o.cells.now) Is) (sym same) here

-- what the cells hold, below that overlay
pub holds_below : (memory : Bor RegionCells) (plan : Record) (of : ℕ) (laid : Laid (Bor RegionCells)) (class : ClassNature) (objects : List Object) → laid ≡ laid_over memory plan of →
    Holds class (image_of memory.now) (class_of memory.now) objects → Holds class (image_of laid.cells.now) (class_of laid.cells.now) objects
holds_below memory plan of laid class objects same here = subst (λ (o : Laid (Bor RegionCells)). Holds class (image_of o.cells.now) (class_of o.cells.now) objects) (sym same) here

-- what is read through the overlay, once its plan is taken
pub led : (memory : Bor RegionCells) (plan : Record) (of : ℕ) (before after : Laid (Bor RegionCells)) (result : Record) (class : ClassNature) (objects : List Object) → before ≡ laid_over memory plan of → after.cells ≡ before.cells →
    SameImage (planned result.pairs (image_of after.cells.now)) (planned after.plan.pairs (image_of after.cells.now)) →
    Holds class (planned after.plan.pairs (image_of after.cells.now)) (class_of after.cells.now) objects →
    Holds class (planned result.pairs (image_of memory.now)) (class_of memory.now) objects
led memory plan of before after result class objects same below reading holds =
    subst (λ (m : Bor RegionCells). Holds class (planned result.pairs (image_of m.now)) (class_of m.now) objects) (below ∙ ap (λ (o : Laid (Bor RegionCells)). o.cells) same)
    (subst (λ (image : Image). Holds class image (class_of after.cells.now) objects) (sym (λ i n. reading n i)) holds)

-- a cell that isn't planned is read as it is
named_if : (plan : Record) (image : Image) (n : ℕ) → planned plan.pairs image n ≢ image n → names plan.pairs n ≡ true
named_if plan image n changed = elim (true_or_false (names plan.pairs n)) [
  | inl named ↦ named
  | inr free ↦ absurd (changed (ap (λ (o : Option Cell). first_of o (image n)) (content_unnamed plan.pairs n free)))
]

pub plan_on : (memory : Bor RegionCells) (plan : Record) (of : ℕ) (before after : Laid (Bor RegionCells)) (result : Record) → before ≡ laid_over memory plan of → after.cells ≡ before.cells →
    plan.room ≡ max_plan → after.plan.room ≡ before.plan.room → result.room ≡ after.plan.room → IsRecord result →
    ((n : ℕ) → names after.plan.pairs n ≡ true → class_of after.cells.now n ≡ Some of) →
    ((n : ℕ) → (names result.pairs n ≡ true) ↔ (planned after.plan.pairs (image_of after.cells.now) n ≢ image_of after.cells.now n)) →
    AreCells (image_of after.cells.now) result.pairs →
    IsPlanOn of (image_of memory.now) (class_of memory.now) result
plan_on memory plan of before after result same below room room_after room_result once own changed cells =
    let is : after.cells ≡ memory = below ∙ ap (λ (o : Laid (Bor RegionCells)). o.cells) same in
    record {
      once = once;
      room = room_result ∙ room_after ∙ ap (λ (o : Laid (Bor RegionCells)). o.plan.room) same ∙ room;
      only = λ n named.
          ap (λ (m : Bor RegionCells). class_of m.now n) (sym is)
          ∙ own n (named_if after.plan (image_of after.cells.now) n ((changed n).0 named));
      cells = subst (λ (m : Bor RegionCells). AreCells (image_of m.now) result.pairs) is cells;
    }

pub some_of_work : {X : Type 0} (o : Option X) (x : X) (P : X → Type 0) → o ≡ Some x → P x → IsSomeAnd o P
some_of_work o x P e p = subst (λ y. IsSomeAnd y P) (sym e) p

-- a write that deletes nothing writes a row, of which these are the bytes
pub spelled : (types : List ValueType) (o : Op) (bytes : List ℕ) → is_write o ≡ true → ((class id : ℕ) → o ≡ op.Del class id → ⊥) → Spells types o bytes →
    (row : List Value) × (row_written o ≡ Some row) × Encodes types row bytes
spelled types (op.New class row id) bytes write not_del spells = (row, refl, spells)
spelled types (op.Put class id row) bytes write not_del spells = (row, refl, spells)
spelled types (op.Del class id) bytes write not_del spells = absurd (not_del class id refl)
spelled types (op.Get class id) bytes write not_del spells = absurd (false≢true write)
spelled types (op.Find class index key) bytes write not_del spells = absurd (false≢true write)
spelled types (op.Seek class index place up) bytes write not_del spells = absurd (false≢true write)
spelled types (op.Area class index rect inside) bytes write not_del spells = absurd (false≢true write)
spelled types (op.Prefix class index text how) bytes write not_del spells = absurd (false≢true write)
spelled types (op.Count class) bytes write not_del spells = absurd (false≢true write)
