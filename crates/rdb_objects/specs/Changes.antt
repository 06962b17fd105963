-- What a change of one object's versions leaves and makes, by the work on a plan before and after it.
use Rattle.std.specs.Prelude.{◌≡◌, ◌≢◌, ◌+◌, ◌≤◌, ◌⊎◌, ◌++◌, ℕ, List, [], ◌∷◌, length, map, Some, Contains}
use Rattle.rdb_pages.specs.declared.cell.Cell.{Cell}
use Rattle.rdb_pages.specs.declared.cell.CellRef.{CellRef}
use Rattle.rdb_pages.specs.Pages.{zero_cell}
use Rattle.rdb_cells.specs.declared.formats.version.VersionHeader.{VersionHeader}
use Rattle.rdb_cells.specs.declared.kind.Kind.TheVariants as kind
use Rattle.rdb_cells.specs.HeadFormat.{class_head_cell, empty_class_head}
use Rattle.rdb_cells.specs.Images.{Image, Writes}
use Rattle.rdb_cells.specs.Index.{KeepsAccount}
use Rattle.rdb_cells.specs.Keys.{SameVersionCells}
use Rattle.rdb_cells.specs.Links.{IsAmong, AreOf, AreOnce, SameOn}
use Rattle.rdb_cells.specs.Records.{content}
use Rattle.rdb_cells.specs.References.{class_head_ref}
use Rattle.rdb_cells.specs.VersionFormat.{IsHeader, header_cell, header_in, with_older}
use Rattle.rdb_cells.specs.Words.{IsOfKind, HasKind}
use Rattle.rdb_cells.specs.Work.{Work, reading, IsLeft, HasLeft, TakesAtMost, TakesNone, GoesOn}
use Rattle.rdb_objects.specs.Objects.{Object, ids_of, newest_of, versions_of, HaveVersions, SameObjects, with_version, without_version}
use Rattle.rdb_objects.specs.Slots.{IsVersion, HoldsObjects, Whatever}

-- the class's cells hold objects, and the version's header stands and leads to what is the newest version of its object
pub record CanAdd (image : Image) (class id : ℕ) (version : CellRef) : Type 0 where
  pub objects : List Object
  pub cells : List ℕ
  pub holds : HoldsObjects image class objects cells
  pub header : IsVersion image id version (newest_of (versions_of objects id))

-- the class's cells hold objects, and one of this id has the version
pub record HasVersion (image : Image) (class id : ℕ) (version : CellRef) : Type 0 where
  pub objects : List Object
  pub cells : List ℕ
  pub holds : HoldsObjects image class objects cells
  pub within : Contains (versions_of objects id) version

-- the class's cells hold objects, and of this id one with this version alone
pub record HasLast (image : Image) (class id : ℕ) (version : CellRef) : Type 0 where
  pub objects : List Object
  pub cells : List ℕ
  pub holds : HoldsObjects image class objects cells
  pub last : versions_of objects id ≡ version ∷ []

-- where no object has this id, a cell can be taken for its slot
abbrev pub HasRoom : Work → ℕ → ℕ → Type 0
HasRoom w class id = Whatever (reading w) class (λ objects cells. versions_of objects id ≡ [] → HasLeft w 1)

-- the class's cells hold these objects now, in these slots
pub record HoldsAnew (before after : Work) (class : ℕ) (objects : List Object) (cells now_cells : List ℕ) : Type 0 where
  pub holds : HoldsObjects (reading after) class objects now_cells
  pub account : KeepsAccount before after cells now_cells

-- of every cell that is neither the class's head nor a slot nor a cell that can be taken, the plan says what it said before
abbrev pub PlansOnlySlots : ℕ → Work → Work → Type 0
PlansOnlySlots class before after = Whatever (reading before) class (λ objects cells.
    (n : ℕ) → (content after.pairs n ≡ content before.pairs n) ⊎ (n ≡ (class_head_ref class).number) ⊎ IsAmong cells n ⊎ IsLeft before n)

-- the version came to those of the object with this id, as the newest; no cell of a row or a header changed
pub record AddsVersion (class : ℕ) (before after : Work) (id : ℕ) (version : CellRef) : Type 0 where
  pub holds : Whatever (reading before) class (λ objects cells.
      (now_cells : List ℕ) × HoldsAnew before after class (with_version objects id version) cells now_cells)
  pub own : PlansOnlySlots class before after
  pub versions : SameVersionCells (reading before) (reading after)
  pub takes : TakesAtMost 1 before after
  pub takes_none : Whatever (reading before) class (λ objects cells. ¬ (versions_of objects id ≡ []) → TakesNone before after)
  pub places : length after.pairs ≤ length before.pairs + 2
  pub goes_on : GoesOn before after

-- the header there leads to this older version now, and is as it was in all else
pub record LeadsAnew (before after : Image) (n : ℕ) (older : CellRef) : Type 0 where
  pub cell : Cell
  pub now : Cell
  pub was : before n ≡ Some cell
  pub here : after n ≡ Some now
  pub was_header : IsOfKind cell kind.Version
  pub header : IsOfKind now kind.Version
  pub says : header_in now ≡ with_older (header_in cell) older
  pub whole : (h : VersionHeader) → IsHeader h → cell ≡ header_cell h → now ≡ header_cell (with_older h older)

-- the version is the newest of these, and no cell of a row or a header changed
abbrev pub RelinksSlot : Image → Image → List CellRef → CellRef → Type 0
RelinksSlot before after versions version = (newest_of versions ≡ version) × SameVersionCells before after

-- the header of the version that is directly newer leads past this one, and no other cell changed
pub record RelinksHeader (before after : Image) (versions : List CellRef) (version : CellRef) : Type 0 where
  pub front : List CellRef
  pub newer : CellRef
  pub back : List CellRef
  pub split : versions ≡ front ++ newer ∷ version ∷ back
  pub leads : LeadsAnew before after newer.number (newest_of back)
  pub elsewhere : (n : ℕ) → n ≢ newer.number → after n ≡ before n

abbrev pub Relinks : Image → Image → List CellRef → CellRef → Type 0
Relinks before after versions version = RelinksSlot before after versions version ⊎ RelinksHeader before after versions version

-- of every cell that is neither the class's head nor a slot nor a header of the object, the plan says what it said before
abbrev pub PlansOnlyObject : ℕ → ℕ → Work → Work → Type 0
PlansOnlyObject class id before after = Whatever (reading before) class (λ objects cells.
    (n : ℕ) → (content after.pairs n ≡ content before.pairs n)
    ⊎ (n ≡ (class_head_ref class).number) ⊎ IsAmong cells n ⊎ IsAmong (map (λ v. v.number) (versions_of objects id)) n)

-- the version went from those of the object with this id, with the object where it was the last; its own cells stay
pub record RemovesVersion (class : ℕ) (before after : Work) (id : ℕ) (version : CellRef) : Type 0 where
  pub holds : Whatever (reading before) class (λ objects cells.
      (now_cells : List ℕ) × HoldsAnew before after class (without_version objects id version) cells now_cells × AreOf cells now_cells)
  pub own : PlansOnlyObject class id before after
  pub itself : reading after version.number ≡ reading before version.number
  pub versions : Whatever (reading before) class (λ objects cells. Relinks (reading before) (reading after) (versions_of objects id) version)
  pub takes_none : TakesNone before after
  pub places : length after.pairs ≤ length before.pairs + 3
  pub goes_on : GoesOn before after

-- two images say the same of these versions: of which object they are, and to which older one each leads
abbrev pub SameLinks : Image → Image → List Object → Type 0
SameLinks before after objects = (id : ℕ) (version older : CellRef) → Contains (versions_of objects id) version → IsVersion before id version older → IsVersion after id version older

-- what objects a class's cells hold rests on its head, its slots and the links of its headers
abbrev pub RestsOnObjects : Type 0
RestsOnObjects = (before after : Image) (class : ℕ) (objects : List Object) (cells : List ℕ) → HoldsObjects before class objects cells →
    SameOn ((class_head_ref class).number ∷ cells) before after → SameLinks before after objects → HoldsObjects after class objects cells

-- what is written to a free cell leaves the objects as they are
abbrev pub LeavesObjects : Type 0
LeavesObjects = (before after : Image) (class : ℕ) (objects : List Object) (cells : List ℕ) (n : ℕ) (cell : Cell) → HoldsObjects before class objects cells →
    before n ≡ Some zero_cell → Writes before after n cell → HoldsObjects after class objects cells

-- a class with an empty head holds no object in no slot
abbrev pub StartsEmpty : Type 0
StartsEmpty = (image : Image) (class : ℕ) → image (class_head_ref class).number ≡ Some (class_head_cell empty_class_head) → HoldsObjects image class [] []

-- a class's cells hold one list of objects, but for its order, in one set of slots
abbrev pub HoldsOne : Type 0
HoldsOne = (image : Image) (class : ℕ) (xs ys : List Object) (ms ns : List ℕ) → HoldsObjects image class xs ms → HoldsObjects image class ys ns →
    SameObjects xs ys × AreOf ms ns

-- the same objects in another order, each once and with a version, are held as well
abbrev pub HoldsInAnyOrder : Type 0
HoldsInAnyOrder = (image : Image) (class : ℕ) (xs ys : List Object) (ns : List ℕ) → HoldsObjects image class xs ns →
    SameObjects xs ys → AreOnce (ids_of ys) → HaveVersions ys → HoldsObjects image class ys ns

-- a version is one of one object alone
abbrev pub OfOneObject : Type 0
OfOneObject = (image : Image) (class : ℕ) (objects : List Object) (cells : List ℕ) → HoldsObjects image class objects cells →
    (a b : ℕ) (version : CellRef) → Contains (versions_of objects a) version → Contains (versions_of objects b) version → a ≡ b

-- the kinds of the cells of a class's objects: its head, its slots, each once, and the headers of its versions
pub record AreObjectCells (image : Image) (class : ℕ) (objects : List Object) (cells : List ℕ) : Type 0 where
  pub head : HasKind image kind.ClassHead (class_head_ref class).number
  pub slots : (n : ℕ) → IsAmong cells n → HasKind image kind.Object n
  pub once : AreOnce cells
  pub headers : (id : ℕ) (version : CellRef) → Contains (versions_of objects id) version → HasKind image kind.Version version.number

abbrev pub HasObjectCells : Type 0
HasObjectCells = (image : Image) (class : ℕ) (objects : List Object) (cells : List ℕ) → HoldsObjects image class objects cells → AreObjectCells image class objects cells
