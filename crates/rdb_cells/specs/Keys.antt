-- What the keys of an index mean: which versions have a key, their order, and the hash of a key.
use Rattle.std.specs.Prelude.{◌≡◌, ◌==◌, ◌↔◌, ◌⊎◌, ℕ, ◌*◌, ◌%◌, ◌^◌, List, [], ◌∷◌, slice_get, fold, Option, Some, None, IsSome, Bool, true, bit_xor, Contains}
use Rattle.std.specs.List.{count_by}
use Rattle.std.specs.Option.{ForSome}
use Rattle.std.specs.Ordering.{nat_cmp, ordering_then}
use Rattle.std.specs.declared.cmp.Ordering.{Ordering}
use Rattle.rdb_base.specs.declared.value.Value.{Value}
use Rattle.rdb_base.specs.declared.value.Value.TheVariants as value
use Rattle.rdb_base.specs.declared.value.Leaf.TheVariants as leaf
use Rattle.rdb_base.specs.declared.value.Rect.{Rect}
use Rattle.rdb_base.specs.Order.{row_order}
use Rattle.rdb_pages.specs.declared.cell.Cell.{Cell}
use Rattle.rdb_pages.specs.declared.cell.CellRef.{CellRef}
use Rattle.rdb_cells.specs.declared.kind.Kind.TheVariants as kind
use Rattle.rdb_cells.specs.Images.{Image}
use Rattle.rdb_cells.specs.Words.{IsOfKind, HasKind}

-- a version, as an index over it knows it
pub record Version : Type 0 where
  pub key : List Value
  pub id : ℕ
  pub serial : ℕ

-- versions go by key, then id, then serial
abbrev pub version_order : Version → Version → Ordering
version_order v w = ordering_then (row_order v.key w.key) (ordering_then (nat_cmp v.id w.id) (nat_cmp v.serial w.serial))

-- a version against a key and, where one is given, then an id
abbrev pub key_order : Version → List Value → Option ℕ → Ordering
key_order v key None = row_order v.key key
key_order v key (Some id) = ordering_then (row_order v.key key) (nat_cmp v.id id)

-- the hash FNV-1a with 32 bits (Fowler, Noll and Vo)
abbrev pub fnv_step : ℕ → ℕ → ℕ
fnv_step hash byte = bit_xor hash byte * 16777619 % 2 ^ 32

abbrev pub fnv1a : List ℕ → ℕ
fnv1a bytes = fold fnv_step 2166136261 bytes

-- the bytes of a key that is one text
abbrev pub text_of : List Value → Option (List ℕ)
text_of (value.Leaf (leaf.Text bytes) ∷ []) = Some bytes
text_of _ = None

-- the box of a key that is one box
abbrev pub box_of : List Value → Option Rect
box_of (value.Leaf (leaf.Rect rect) ∷ []) = Some rect
box_of _ = None

-- a cell of a row or of a version's header
abbrev pub IsOfVersion : Cell → Type 0
IsOfVersion cell = IsOfKind cell kind.Row ⊎ IsOfKind cell kind.Version

-- two images hold the same cells of rows and headers
abbrev pub SameVersionCells : Image → Image → Type 0
SameVersionCells a b = (n : ℕ) (cell : Cell) → IsOfVersion cell → (a n ≡ Some cell) ↔ (b n ≡ Some cell)

-- no cell of a row or of a header stands there
abbrev pub HasNoVersionCell : Image → ℕ → Type 0
HasNoVersionCell image n = (cell : Cell) → image n ≡ Some cell → ¬ IsOfVersion cell

-- what the keys of an index say of an image: the version of each number, if it is that of a version with a key, and the hash
-- of each key
pub record Sayings : Type 0 where
  pub version_of : ℕ → Option Version
  pub hash_of : List Value → ℕ

-- two sayings are the same of these versions and of all hashes
pub record SaySame (s t : Sayings) (listed : List CellRef) : Type 0 where
  pub versions : (r : CellRef) → Contains listed r → t.version_of r.number ≡ s.version_of r.number
  pub hashes : (key : List Value) → t.hash_of key ≡ s.hash_of key

-- the two are versions with keys, of one id and one serial
pub record AreTwins (s : Sayings) (q r : CellRef) : Type 0 where
  pub first : Version
  pub second : Version
  pub is_first : s.version_of q.number ≡ Some first
  pub is_second : s.version_of r.number ≡ Some second
  pub ids : first.id ≡ second.id
  pub serials : first.serial ≡ second.serial

-- a version with a key that isn't listed, neither itself nor by its id and serial
pub record IsUnlisted (s : Sayings) (listed : List CellRef) (version : CellRef) : Type 0 where
  pub keyed : IsSome (s.version_of version.number)
  pub itself : ¬ Contains listed version
  pub otherwise : (r : CellRef) → Contains listed r → ¬ AreTwins s version r

-- how often a version is listed
abbrev pub times_listed : List CellRef → CellRef → ℕ
times_listed listed r = count_by (λ q. q.number == r.number) listed

-- each listed version has a key and is listed once, and no two have one id and serial
pub record ListsVersions (s : Sayings) (listed : List CellRef) : Type 0 where
  pub keyed : (r : CellRef) → Contains listed r → IsSome (s.version_of r.number)
  pub once : (r : CellRef) → Contains listed r → times_listed listed r ≡ 1
  pub differ : (q r : CellRef) → Contains listed q → Contains listed r → AreTwins s q r → q ≡ r

-- what the keys of an index mean: which version, if one with a key, stands at each number of an image; which keys have the
-- types of the index's fields; and the encoding of a key
pub record Meaning : Type 0 where
  pub version_of : Image → ℕ → Option Version
  pub fits : List Value → Bool
  pub encoding : List Value → List ℕ

abbrev pub says : Meaning → Image → Sayings
says meaning image = record { version_of = meaning.version_of image; hash_of = λ key. fnv1a (meaning.encoding key) }

-- the hash of a key
abbrev pub hash_by : Meaning → List Value → ℕ
hash_by keys key = fnv1a (keys.encoding key)

-- a version with a key stands there
abbrev pub HasKey : Meaning → Image → CellRef → Type 0
HasKey keys image at = IsSome (keys.version_of image at.number)

-- this holds of the version that stands there
abbrev pub ForVersion : Meaning → Image → CellRef → (Version → Type 0) → Type 0
ForVersion keys image at Holds = ForSome (keys.version_of image at.number) Holds

-- this is how the versions that stand at two places go
abbrev pub IsOrderOf : Meaning → Image → CellRef → CellRef → Ordering → Type 0
IsOrderOf keys image a b order = ForVersion keys image a (λ v. ForVersion keys image b (λ w. order ≡ version_order v w))

-- the version that stands there has a key of one text, or of one box
abbrev pub HasText : Meaning → Image → CellRef → Type 0
HasText keys image at = (v : Version) × (keys.version_of image at.number ≡ Some v) × IsSome (text_of v.key)

abbrev pub HasBox : Meaning → Image → CellRef → Type 0
HasBox keys image at = (v : Version) × (keys.version_of image at.number ≡ Some v) × IsSome (box_of v.key)

-- this is the byte at a place of the text that is the key there, and none past its end
abbrev pub IsByteAt : Meaning → Image → CellRef → ℕ → Option ℕ → Type 0
IsByteAt keys image at place byte = ForVersion keys image at (λ v. ForSome (text_of v.key) (λ text. byte ≡ slice_get text place))

-- the laws of keys: each key has the types of the index's fields
abbrev pub KeysFit : Meaning → Type 0
KeysFit keys = (image : Image) (n : ℕ) → ForSome (keys.version_of image n) (λ v. keys.fits v.key ≡ true)

-- what is said of versions rests on the cells of rows and headers alone
abbrev pub RestsOnVersions : Meaning → Type 0
RestsOnVersions keys = (a b : Image) → SameVersionCells a b → (n : ℕ) → keys.version_of a n ≡ keys.version_of b n

-- a version stands where its header does
abbrev pub StandsAtHeader : Meaning → Type 0
StandsAtHeader keys = (image : Image) (n : ℕ) → IsSome (keys.version_of image n) → HasKind image kind.Version n
