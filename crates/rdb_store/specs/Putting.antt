-- A version is put into what a class holds, step by step.
use Rattle.std.specs.Prelude.{◌≡◌, ◌≢◌, ◌∷◌, ℕ, List, [], Option, Some, None}
use Rattle.rdb_base.specs.declared.value.Value.{Value}
use Rattle.rdb_schema.specs.Encodes.{Encodes}
use Rattle.rdb_pages.specs.declared.cell.CellRef.{CellRef}
use Rattle.rdb_cells.specs.Index.{Nature}
use Rattle.rdb_cells.specs.Keys.{Meaning}
use Rattle.rdb_cells.specs.Work.{Work}
use Rattle.rdb_rows.specs.declared.label.Label.{Label}
use Rattle.rdb_sight.specs.Versions.{Object, chain_of, with_chain}
use Rattle.rdb_store.specs.Chains.{IsNewSerial}
use Rattle.rdb_store.specs.Classes.{ClassNature, AreLawful}
use Rattle.rdb_store.specs.Indexed.{Declared, class_over}
use Rattle.rdb_store.specs.Plans.{made_at}
use Rattle.rdb_store.specs.Shapes.{ClassShape, nature_of_class}
use Rattle.rdb_store.specs.Taking.{HoldsNow}
use Rattle.rdb_store.specs.declared.keyed.Keyed.{Keyed}
use Rattle.rdb_store.specs.declared.plans.NewVersion.{NewVersion}

-- what a new version of a class says of itself, in front of the older one
abbrev pub label_over : ℕ → NewVersion → CellRef → Label
label_over class new older = record { class = class; id = new.id; serial = new.serial; stamp = new.stamp; older = older }

-- the class, whose work it is, holds objects, none of which has a version with the new one's serial
pub record IsReady (class : ClassNature) (w : Work) (new : NewVersion) : Type 0 where
  pub lawful : AreLawful class
  pub of_class : w.class ≡ class.number
  pub objects : List Object
  pub serial : IsNewSerial new.serial objects
  pub holds : HoldsNow class w objects

-- the class with the indexes is ready for the new version, and the bytes are those of a row of the class
pub record IsReadyForRow {I K : Type 0} (nature : I → Nature) (meaning : K → Meaning) (indexes : List (Keyed I K)) (w : Work)
    (new : NewVersion) (bytes : List ℕ) : Type 0 where
  pub of : Declared
  pub ready : IsReady (class_over nature meaning indexes of) w new
  pub row : List Value
  pub encodes : Encodes of.types row bytes

-- a class is ready for the new version, and its object has one already
pub record IsReadyForDeath (w : Work) (new : NewVersion) : Type 0 where
  pub shape : ClassShape
  pub ready : IsReady (nature_of_class shape) w new
  pub object : chain_of ready.objects new.id ≢ []

-- whatever the class held, without a version of that serial: the new version came first in its object's chain, and else all stayed
abbrev pub PutsFirst : ClassNature → Work → Work → NewVersion → ℕ → Option (List Value) → Type 0
PutsFirst class before after new header row = (objects : List Object) → IsNewSerial new.serial objects → HoldsNow class before objects →
    HoldsNow class after (with_chain objects new.id (made_at header new row ∷ chain_of objects new.id))

-- in a class with the indexes, a version with the row that the bytes encode came first
abbrev pub PutsRow : {I K : Type 0} → (I → Nature) → (K → Meaning) → List (Keyed I K) → Work → Work → NewVersion → ℕ → List ℕ → Type 0
PutsRow nature meaning indexes before after new header bytes =
    (of : Declared) → AreLawful (class_over nature meaning indexes of) → before.class ≡ of.number →
    (row : List Value) → Encodes of.types row bytes → PutsFirst (class_over nature meaning indexes of) before after new header (Some row)

-- in a class, a tombstone came first
abbrev pub PutsDeath : Work → Work → NewVersion → ℕ → Type 0
PutsDeath before after new header = (shape : ClassShape) → AreLawful (nature_of_class shape) → before.class ≡ shape.number →
    PutsFirst (nature_of_class shape) before after new header None
