-- A plan on one class, and what the class's cells will hold by it.
use Rattle.std.specs.Prelude.{◌≡◌, ◌≢◌, ◌≤◌, ◌∷◌, ℕ, List, [], length, Option, Some, None, true}
use Rattle.rdb_base.specs.declared.limits.TheConstants.{MAX_ROW}
use Rattle.rdb_base.specs.Operations.{is_write}
use Rattle.rdb_base.specs.declared.operation.Op.{Op}
use Rattle.rdb_base.specs.declared.operation.Op.TheVariants as op
use Rattle.rdb_base.specs.declared.value.Value.{Value}
use Rattle.rdb_schema.specs.declared.types.ValueType.{ValueType}
use Rattle.rdb_schema.specs.Encodes.{Encodes}
use Rattle.rdb_cells.specs.declared.pairs.Pair.{Pair}
use Rattle.rdb_cells.specs.Images.{Image}
use Rattle.rdb_cells.specs.Overlays.{AreCells}
use Rattle.rdb_cells.specs.Records.{Record, IsRecord, names, planned, max_plan}
use Rattle.rdb_cells.specs.Untaken.{HasUntaken}
use Rattle.rdb_registry.specs.declared.hand.Work.{Work}
use Rattle.rdb_sight.specs.Versions.{Version, chain_of, with_chain}
use Rattle.rdb_store.specs.declared.plans.NewVersion.{NewVersion}
use Rattle.rdb_store.specs.Chains.{IsLeft, IsWithoutHeader, CanReplace, IsNewSerial}
use Rattle.rdb_store.specs.Classes.{ClassNature}
use Rattle.rdb_store.specs.Holds.{Holds, Whatever}
use Rattle.rdb_store.specs.Plans.{made_at}
use Rattle.rdb_store.specs.Shapes.{ClassShape, class_in, claim_in, shape_in}
use Rattle.rdb_steps.specs.Making.{row_written}

-- Each cell of the plan is one of the class, and stands there once; and the plan has room for as many as a plan can have.
pub record IsPlanOn (class : ℕ) (image : Image) (class_of : ℕ → Option ℕ) (plan : Record) : Type 0 where
  pub once : IsRecord plan
  pub room : plan.room ≡ max_plan
  pub only : (n : ℕ) → names plan.pairs n ≡ true → class_of n ≡ Some class
  pub cells : AreCells image plan.pairs

-- once these pairs are written, the class's cells hold what they did, without the version at this header
abbrev pub LeadsWithout : ClassNature → Image → (ℕ → Option ℕ) → List Pair → ℕ → Type 0
LeadsWithout class image class_of pairs header = Whatever class image class_of (λ objects. (id : ℕ) (rest : List Version) →
    IsWithoutHeader header (chain_of objects id) rest → Holds class (planned pairs image) class_of (with_chain objects id rest))

-- once these pairs are written, the class's cells hold what they did, with this version first in its object's chain, and without the one
-- that it replaces, if it replaces one
abbrev pub LeadsToPut : ClassNature → Image → (ℕ → Option ℕ) → List Pair → NewVersion → ℕ → Option (List Value) → Type 0
LeadsToPut class image class_of pairs new header row = Whatever class image class_of (λ objects. (rest : List Version) →
    IsLeft new.replaces (chain_of objects new.id) rest
    → Holds class (planned pairs image) class_of (with_chain objects new.id (made_at header new row ∷ rest)))

-- the row that an operation writes, if it writes one, has these bytes
abbrev pub Spells : List ValueType → Op → List ℕ → Type 0
Spells types (op.New class row id) bytes = Encodes types row bytes
Spells types (op.Put class id row) bytes = Encodes types row bytes
Spells types _ bytes = Unit {0}

-- the most free cells that the version of an operation takes
abbrev pub taken_by : Op → ℕ → ℕ
taken_by (op.Del class id) most = 1
taken_by _ most = most

-- An operation in work can put a version in a class whose cells hold some objects: its row, if it writes one, has its bytes; no version has
-- the new serial; what is replaced is there, and so is the object that is deleted; and enough cells are free.
pub record IsReadyToPut (shapes : List ClassShape) (image : Image) (class_of : ℕ → Option ℕ) (new : NewVersion) (work : Work) : Type 0 where
  pub write : is_write work.op ≡ true
  pub row : Spells (class_in shapes new.class).types work.op work.bytes
  pub short : length work.bytes ≤ MAX_ROW
  pub free : HasUntaken [] image class_of new.class 0 (taken_by work.op (claim_in (shape_in shapes new.class) (length work.bytes)))
  pub serial : Whatever (class_in shapes new.class) image class_of (IsNewSerial new.serial)
  pub replaced : Whatever (class_in shapes new.class) image class_of (λ objects. CanReplace new.replaces (chain_of objects new.id))
  pub object : Whatever (class_in shapes new.class) image class_of (λ objects. row_written work.op ≡ None → chain_of objects new.id ≢ [])
