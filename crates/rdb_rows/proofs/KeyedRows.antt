-- A version with a key, and where its row begins.
use Rattle.std.proofs.Common.{◌≡◌, ◌<◌, ◌≤◌, ◌++◌, ◌==◌, zero, suc, ℕ, List, slice_get, get_or, [], ◌∷◌, length, drop, true, Option, Some, None, IsSome, refl, sym, ap, ap₂, subst, ◌∙◌, arith, length-take}
use Rattle.std.specs.Option.{option_map_or}
use Rattle.std.proofs.lemmas.Bool.{false≢true, eqb-true}
use Rattle.std.proofs.lemmas.List.{take-append-drop}
use Rattle.rdb_base.specs.declared.value.Leaf.{Leaf}
use Rattle.rdb_base.specs.declared.value.Leaf.TheVariants as leaf
use Rattle.rdb_base.specs.declared.value.Rect.{Rect}
use Rattle.rdb_base.specs.declared.value.Value.{Value}
use Rattle.rdb_base.specs.declared.value.Value.TheVariants as value
use Rattle.rdb_schema.specs.declared.schema.FieldType.{FieldType}
use Rattle.rdb_schema.specs.declared.schema.FieldType.TheVariants as ty
use Rattle.rdb_schema.specs.Values.{leaf_holds}
use Rattle.rdb_schema.specs.Encoding.{leaf_bytes, row_bytes}
use Rattle.rdb_access.specs.Read.{read_values}
use Rattle.rdb_access.proofs.Pairs.{first_of, second_of}
use Rattle.rdb_pages.specs.declared.cell.Cell.{Cell}
use Rattle.rdb_cells.specs.Images.{Image}
use Rattle.rdb_cells.specs.Keys.{Version, text_of, box_of}
use Rattle.rdb_cells.specs.VersionFormat.{header_in}
use Rattle.rdb_rows.specs.declared.spot.Spot.{Spot}
use Rattle.rdb_rows.specs.KeyLaws.{none_some, keyed_is}
use Rattle.rdb_rows.specs.RowKeys.{KeyShape, bytes_from, same_bytes, row_at, keyed, version_at}
use Rattle.rdb_rows.specs.Rows.{cells_for}
use Rattle.rdb_rows.specs.RowSpots.{BeginsRow}
use Rattle.rdb_rows.specs.Spots.{Stand, BeginsLeaf}

pub bytes_are : (xs ys : List ℕ) → same_bytes xs ys ≡ true → xs ≡ ys
bytes_are [] [] same = refl
bytes_are [] (y ∷ ys) same = absurd (false≢true same)
bytes_are (x ∷ xs) [] same = absurd (false≢true same)
bytes_are (x ∷ xs) (y ∷ ys) same =
    ap₂ (λ (z : ℕ) (zs : List ℕ). z ∷ zs) (eqb-true x y (first_of (x == y) (same_bytes xs ys) same)) (bytes_are xs ys (second_of (x == y) (same_bytes xs ys) same))

-- what is known of a version with a key: its header, and where its row begins
pub record Known (shape : KeyShape) (image : Image) (v : Version) (cell : Cell) (first : Spot) : Type 0 where
  pub row : List Value
  pub begins : BeginsRow image first shape.types row
  pub is : v ≡ keyed shape (header_in cell) row

pub known : (shape : KeyShape) (image : Image) (n : ℕ) (v : Version) (cell : Cell) (first : Spot) → version_at shape image n ≡ Some v → image n ≡ Some cell → first ≡ record { cell = (header_in cell).first_row; place = 0 } → (header_in cell).row_length < 4294967296 → Known shape image v cell first
known shape image n v cell first said held at short =
    let is = keyed_is shape image n v said in
    let same : is.cell ≡ cell = ap (λ (o : Option Cell). option_map_or (λ c. c) o cell) (sym is.here ∙ held) in
    let bytes : row_bytes shape.types is.row ≡ row_at image (header_in cell) = bytes_are (row_bytes shape.types is.row) (row_at image (header_in is.cell)) is.bytes ∙ ap (λ (c : Cell). row_at image (header_in c)) same in
    let all : List ℕ = bytes_from image (cells_for (header_in cell).row_length) (header_in cell).first_row.number in
    let many : ℕ = (header_in cell).row_length in
    let long = ap (λ (xs : List ℕ). length xs) bytes ∙ length-take many all in
    let begin : Stand image (record { cell = (header_in cell).first_row; place = 0 }) (row_bytes shape.types is.row) = record {
      many = cells_for many;
      fill = drop many all;
      here = sym (take-append-drop many all) ∙ ap (λ (xs : List ℕ). xs ++ drop many all) (sym bytes);
      near = omega arith;
    } in
    record {
      row = is.row;
      begins = record {
        fits = is.fits;
        read = is.read ∙ ap (λ (c : Cell). read_values shape.types (row_at image (header_in c))) same ∙ ap (read_values shape.types) (sym bytes);
        stand = subst (λ (s : Spot). Stand image s (row_bytes shape.types is.row)) (sym at) begin;
      };
      is = is.is ∙ ap (λ (c : Cell). keyed shape (header_in c) is.row) same;
    }

-- who has a key has a version
pub the_version : (o : Option Version) → IsSome o → (v : Version) × (o ≡ Some v)
the_version None some = absurd (false≢true some)
the_version (Some v) some = (v, refl)

-- and a header
pub has_header : (shape : KeyShape) (image : Image) (n : ℕ) → IsSome (version_at shape image n) → IsSome (image n)
has_header shape image n some =
    let v = the_version (version_at shape image n) some in
    let is = keyed_is shape image n v.0 v.1 in
    subst (λ (o : Option Cell). IsSome o) (sym is.here) refl

-- a version with a key, by the keys as they are held
pub known_by : (own shape : KeyShape) (image : Image) (n : ℕ) (v : Version) (cell : Cell) (first : Spot) → own ≡ shape → version_at shape image n ≡ Some v → image n ≡ Some cell → first ≡ record { cell = (header_in cell).first_row; place = 0 } → (header_in cell).row_length < 4294967296 → Known own image v cell first
known_by own shape image n v cell first is said held at short =
    known own image n v cell first (subst (λ (s : KeyShape). version_at s image n ≡ Some v) (sym is) said) held at short

pub has_row : (own shape : KeyShape) (image : Image) (n : ℕ) (cell : Cell) (first : Spot) → own ≡ shape → IsSome (version_at shape image n) → image n ≡ Some cell → first ≡ record { cell = (header_in cell).first_row; place = 0 } → (header_in cell).row_length < 4294967296 → (row : List Value) × BeginsRow image first own.types row
has_row own shape image n cell first is some held at short =
    let v = the_version (version_at shape image n) some in
    let k = known_by own shape image n v.0 cell first is v.1 held at short in
    (k.row, k.begins)

-- keys of one text, and of one box
pub text_key : (l : Leaf) (rest : List Value) (words : List ℕ) → text_of (value.Leaf l ∷ rest) ≡ Some words → l ≡ leaf.Text words
text_key (leaf.Num n) [] words e = absurd (none_some words e)
text_key (leaf.Num n) (v ∷ vs) words e = absurd (none_some words e)
text_key (leaf.Text own) [] words e = ap leaf.Text (ap (λ (o : Option (List ℕ)). option_map_or (λ w. w) o own) e)
text_key (leaf.Text own) (v ∷ vs) words e = absurd (none_some words e)
text_key (leaf.Rect box) [] words e = absurd (none_some words e)
text_key (leaf.Rect box) (v ∷ vs) words e = absurd (none_some words e)

pub box_key : (l : Leaf) (rest : List Value) (box : Rect) → box_of (value.Leaf l ∷ rest) ≡ Some box → l ≡ leaf.Rect box
box_key (leaf.Num n) [] box e = absurd (none_some box e)
box_key (leaf.Num n) (v ∷ vs) box e = absurd (none_some box e)
box_key (leaf.Text own) [] box e = absurd (none_some box e)
box_key (leaf.Text own) (v ∷ vs) box e = absurd (none_some box e)
box_key (leaf.Rect own) [] box e = ap leaf.Rect (ap (λ (o : Option Rect). option_map_or (λ r. r) o own) e)
box_key (leaf.Rect own) (v ∷ vs) box e = absurd (none_some box e)

pub some_of : {A : Type 0} (o : Option A) → IsSome o → (x : A) × (o ≡ Some x)
some_of None some = absurd (false≢true some)
some_of (Some x) some = (x, refl)

-- where a text begins, its type is a text's
pub text_begins : (image : Image) (spot : Spot) (t : FieldType) (l : Leaf) (words : List ℕ) → (begins : BeginsLeaf image spot t l) → l ≡ leaf.Text words → Stand image spot (length words ∷ (words ++ begins.rest))
text_begins image spot t l words begins is = by_type t refl (subst (λ (m : Leaf). leaf_holds t m ≡ true) is begins.holds)
  where
    by_type : (u : FieldType) → t ≡ u → leaf_holds u (leaf.Text words) ≡ true → Stand image spot (length words ∷ (words ++ begins.rest))
    by_type (ty.Num b s) same holds = absurd (false≢true holds)
    by_type ty.Str same holds = subst (Stand image spot) (begins.is ∙ ap₂ (λ (u : FieldType) (m : Leaf). leaf_bytes u m ++ begins.rest) same is) begins.stand
    by_type ty.Box4 same holds = absurd (false≢true holds)
    by_type (ty.Vector of) same holds = absurd (false≢true holds)
    by_type (ty.Struct n) same holds = absurd (false≢true holds)

pub box_begins : (image : Image) (spot : Spot) (t : FieldType) (l : Leaf) (box : Rect) → (begins : BeginsLeaf image spot t l) → l ≡ leaf.Rect box → t ≡ ty.Box4
box_begins image spot t l box begins is = by_type t (subst (λ (m : Leaf). leaf_holds t m ≡ true) is begins.holds)
  where
    by_type : (u : FieldType) → leaf_holds u (leaf.Rect box) ≡ true → u ≡ ty.Box4
    by_type (ty.Num b s) holds = absurd (false≢true holds)
    by_type ty.Str holds = absurd (false≢true holds)
    by_type ty.Box4 holds = refl
    by_type (ty.Vector of) holds = absurd (false≢true holds)
    by_type (ty.Struct n) holds = absurd (false≢true holds)

pub the_box : (a b : Rect) → leaf.Rect a ≡ leaf.Rect b → a ≡ b
the_box a b e = ap (λ (l : Leaf). box_in l a) e
  where
    box_in : Leaf → Rect → Rect
    box_in (leaf.Num n) other = other
    box_in (leaf.Text words) other = other
    box_in (leaf.Rect box) other = box

-- a byte at a place, and none past the end
pub byte_past : (words : List ℕ) (i : ℕ) → length words ≤ i → None ≡ slice_get words i
byte_past [] i past = refl
byte_past (w ∷ words) zero past = absurd (omega arith)
byte_past (w ∷ words) (suc i) past = byte_past words i (omega arith)

pub byte_at : (words : List ℕ) (i : ℕ) → i < length words → Some (get_or words i 0) ≡ slice_get words i
byte_at [] i below = absurd (omega arith)
byte_at (w ∷ words) zero below = refl
byte_at (w ∷ words) (suc i) below = byte_at words i (omega arith)
