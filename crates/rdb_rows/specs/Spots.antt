-- Places in a row in cells, and the values that begin there.
use Rattle.std.specs.Prelude.{◌≡◌, ◌<◌, ◌+◌, ◌^◌, ℕ, List, ◌∷◌, ◌++◌, length, drop, true}
use Rattle.rdb_base.specs.declared.value.Leaf.{Leaf}
use Rattle.rdb_schema.specs.declared.schema.FieldType.{FieldType}
use Rattle.std.specs.List.{flat_map, list_all}
use Rattle.rdb_base.specs.declared.value.Element.{Element}
use Rattle.rdb_schema.specs.declared.types.ElementType.{ElementType}
use Rattle.rdb_schema.specs.Encoding.{leaf_bytes, element_bytes}
use Rattle.rdb_schema.specs.Types.{element_fits}
use Rattle.rdb_schema.specs.Values.{leaf_holds}
use Rattle.rdb_access.specs.Read.{read_leaf}
use Rattle.rdb_cells.specs.Images.{Image}
use Rattle.rdb_rows.specs.declared.spot.Spot.{Spot}
use Rattle.rdb_rows.specs.RowKeys.{bytes_from}

-- these bytes of a row stand from a spot on, before what fills its last cell
pub record Stand (image : Image) (spot : Spot) (bytes : List ℕ) : Type 0 where
  pub many : ℕ
  pub fill : List ℕ
  pub here : drop spot.place (bytes_from image many spot.cell.number) ≡ bytes ++ fill
  pub near : spot.place + length bytes < 2 ^ 32

-- so many bytes stand there at least
pub record HasBytes (image : Image) (spot : Spot) (many : ℕ) : Type 0 where
  pub bytes : List ℕ
  pub rest : List ℕ
  pub long : length bytes ≡ many
  pub stand : Stand image spot (bytes ++ rest)

-- the bytes of values of some types begin there
pub record Begin {T V : Type 0} (bytes_of : T → V → List ℕ) (Fits : T → V → Type 0) (image : Image) (spot : Spot) (ty : T) : Type 0 where
  pub value : V
  pub rest : List ℕ
  pub fits : Fits ty value
  pub stand : Stand image spot (bytes_of ty value ++ rest)

-- behind the bytes of whatever value of the type begins at a spot stands the other
abbrev pub Leads : {T V : Type 0} → (T → V → List ℕ) → (T → V → Type 0) → Image → Spot → T → Spot → Type 0
Leads {T = T} {V = V} bytes_of Fits image spot ty behind =
    (value : V) (rest : List ℕ) → Fits ty value → Stand image spot (bytes_of ty value ++ rest) → Stand image behind rest

-- a leaf of the type begins there, and is what is read from its bytes
pub record BeginsLeaf (image : Image) (spot : Spot) (ty : FieldType) (l : Leaf) : Type 0 where
  pub bytes : List ℕ
  pub rest : List ℕ
  pub holds : leaf_holds ty l ≡ true
  pub is : bytes ≡ leaf_bytes ty l ++ rest
  pub read : l ≡ read_leaf ty bytes
  pub stand : Stand image spot bytes

-- whatever leaf of the type begins there, this holds
abbrev pub ForLeaf : Image → Spot → FieldType → (Leaf → Type 0) → Type 0
ForLeaf image spot ty Holds = (l : Leaf) → BeginsLeaf image spot ty l → Holds l

-- so many elements of a type begin there
pub record BeginElements (image : Image) (spot : Spot) (of : ElementType) (many : ℕ) : Type 0 where
  pub elements : List Element
  pub rest : List ℕ
  pub count : length elements ≡ many
  pub fit : list_all (element_fits of) elements ≡ true
  pub stand : Stand image spot (flat_map (element_bytes of) elements ++ rest)

-- behind whatever so many elements of the type begin at a spot stands the other
abbrev pub LeadsElements : Image → Spot → ElementType → ℕ → Spot → Type 0
LeadsElements image spot of many behind =
    (elements : List Element) (rest : List ℕ) → length elements ≡ many → list_all (element_fits of) elements ≡ true
    → Stand image spot (flat_map (element_bytes of) elements ++ rest) → Stand image behind rest

-- a leaf of the type begins there
abbrev pub HasLeaf : Image → Spot → FieldType → Type 0
HasLeaf image spot ty = (l : Leaf) × BeginsLeaf image spot ty l

-- a text begins there: its length in one byte, and its bytes
pub record HasText (image : Image) (spot : Spot) : Type 0 where
  pub words : List ℕ
  pub rest : List ℕ
  pub stand : Stand image spot (length words ∷ (words ++ rest))

-- whatever text begins there, this holds
abbrev pub ForText : Image → Spot → (List ℕ → Type 0) → Type 0
ForText image spot Holds = (words rest : List ℕ) → Stand image spot (length words ∷ (words ++ rest)) → Holds words
