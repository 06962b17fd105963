-- What is said of keys has the laws of keys. The trait's laws cite this, so no tactic stands here.
use Rattle.std.specs.Prelude.{◌≡◌, ◌≢◌, ◌⊎◌, ◌↔◌, ◌&&◌, ◌++◌, ℕ, zero, suc, List, [], ◌∷◌, take, slice_get, Option, Some, None, IsSome, is_some, Bool, true, false, refl, eqb, if◌then◌else◌}
use Rattle.std.specs.List.{cons_option}
use Rattle.std.specs.Option.{option_map, option_map_or, option_and_then}
use mathlib.Core.Bool.{false≢true}
use mathlib.Core.Logic.{inl, inr}
use mathlib.Core.Path.{sym, ap, ◌∙◌}
use borrow.Author.Tests.{eqb-true, eqb-false, eq-eqb, ne_eqb}
use Rattle.rdb_base.specs.declared.value.Value.{Value}
use Rattle.rdb_schema.specs.declared.types.ValueType.{ValueType}
use Rattle.rdb_schema.specs.Types.{row_fits, value_fits}
use Rattle.rdb_pages.specs.declared.cell.Cell.{Cell}
use Rattle.rdb_cells.specs.declared.kind.Kind.{Kind}
use Rattle.rdb_cells.specs.declared.kind.Kind.TheVariants as kind
use Rattle.rdb_cells.specs.declared.formats.version.VersionHeader.{VersionHeader}
use Rattle.rdb_cells.specs.Images.{Image}
use Rattle.rdb_cells.specs.Keys.{Version, SameVersionCells, KeysFit, RestsOnVersions, StandsAtHeader}
use Rattle.rdb_cells.specs.RowFormat.{row_in}
use Rattle.rdb_cells.specs.VersionFormat.{header_in}
use Rattle.rdb_cells.specs.Words.{kind_number, number_of, IsOfKind}
use Rattle.rdb_rows.specs.Rows.{cells_for}
use Rattle.rdb_rows.specs.RowKeys.{KeyShape, picked, key_types, of_kind, bytes_from, same_bytes, if_encoded, row_of, row_at, keyed, version_of_header, version_at, key_meaning}
use Rattle.rdb_schema.specs.Encoding.{row_bytes}
use Rattle.rdb_access.specs.Read.{read_values}

pub none_some : {X : Type 0} (x : X) → None ≡ Some x → ⊥
none_some {X = X} x e = false≢true (ap (λ (o : Option X). is_some o) e)

the_some : {X : Type 0} (x y : X) → Some x ≡ Some y → x ≡ y
the_some {X = X} x y e = ap (λ (o : Option X). option_map_or (λ z. z) o x) e

same_or_apart : (a b : ℕ) → (a ≡ b) ⊎ (a ≢ b)
same_or_apart a b = by_test (eqb a b) refl
  where
    by_test : (s : Bool) → eqb a b ≡ s → (a ≡ b) ⊎ (a ≢ b)
    by_test true p = inl (eqb-true a b p)
    by_test false p = inr (eqb-false a b p)

-- Cells of a kind

pub is_of_kind : (of : Kind) (c : Cell) → IsOfKind c of → of_kind of (Some c) ≡ Some c
is_of_kind of c is = ap (λ (b : Bool). if b then Some c else None) (eq-eqb (kind_number c) (number_of of) is)

not_of_kind : (of : Kind) (c : Cell) → (¬ IsOfKind c of) → of_kind of (Some c) ≡ None
not_of_kind of c apart = ap (λ (b : Bool). if b then Some c else None) (ne_eqb (kind_number c) (number_of of) apart)

-- a cell of a kind that was found
pub found_kind : (of : Kind) (o : Option Cell) (c : Cell) → of_kind of o ≡ Some c → (o ≡ Some c) × IsOfKind c of
found_kind of None c e = absurd (none_some c e)
found_kind of (Some d) c e = elim (same_or_apart (kind_number d) (number_of of)) [
  | inl is ↦ (sym (is_of_kind of d is) ∙ e, sym (ap kind_number (the_some d c (sym (is_of_kind of d is) ∙ e))) ∙ is)
  | inr apart ↦ absurd (none_some c (sym (not_of_kind of d apart) ∙ e))
]

-- where two hold the same cells of a kind, they have the same one
same_kind : (of : Kind) (o p : Option Cell) → ((c : Cell) → IsOfKind c of → (o ≡ Some c) ↔ (p ≡ Some c)) → of_kind of o ≡ of_kind of p
same_kind of None None same = refl
same_kind of None (Some d) same = sym (not_of_kind of d (λ is. none_some d ((same d is).1 refl)))
same_kind of (Some c) None same = not_of_kind of c (λ is. none_some c ((same c is).0 refl))
same_kind of (Some c) (Some d) same = elim (same_or_apart (kind_number c) (number_of of)) [
  | inl is ↦ sym (ap (of_kind of) ((same c is).0 refl))
  | inr apart ↦ elim (same_or_apart (kind_number d) (number_of of)) [
    | inl is ↦ ap (of_kind of) ((same d is).1 refl)
    | inr other ↦ not_of_kind of c apart ∙ sym (not_of_kind of d other)
  ]
]

-- What is said rests on the cells of rows and headers
module _ (a b : Image) (same : SameVersionCells a b) where
  same_row_cell : (n : ℕ) → of_kind kind.Row (a n) ≡ of_kind kind.Row (b n)
  same_row_cell n = same_kind kind.Row (a n) (b n) (λ c is. same n c (inl is))

  same_header : (n : ℕ) → of_kind kind.Version (a n) ≡ of_kind kind.Version (b n)
  same_header n = same_kind kind.Version (a n) (b n) (λ c is. same n c (inr is))

  same_from : (many n : ℕ) → bytes_from a many n ≡ bytes_from b many n
  same_from zero n = refl
  same_from (suc many) n =
      ap (λ (o : Option Cell). option_map_or (λ cell. (row_in cell).bytes ++ bytes_from a many (row_in cell).next.number) o []) (same_row_cell n)
      ∙ ap (λ (rest : ℕ → List ℕ). option_map_or (λ cell. (row_in cell).bytes ++ rest (row_in cell).next.number) (of_kind kind.Row (b n)) []) (λ i m. same_from many m i)

  same_row : (h : VersionHeader) → row_at a h ≡ row_at b h
  same_row h = ap (take h.row_length) (same_from (cells_for h.row_length) h.first_row.number)

  same_said : (shape : KeyShape) (h : VersionHeader) → version_of_header shape a h ≡ version_of_header shape b h
  same_said shape h = ap (λ (bytes : List ℕ). if h.tombstone then None else option_map (keyed shape h) (row_of shape.types bytes)) (same_row h)

  pub same_version : (shape : KeyShape) (n : ℕ) → version_at shape a n ≡ version_at shape b n
  same_version shape n =
      ap (option_and_then (λ cell. version_of_header shape a (header_in cell))) (same_header n)
      ∙ ap (λ (f : VersionHeader → Option Version). option_and_then (λ cell. f (header_in cell)) (of_kind kind.Version (b n))) (λ i h. same_said shape h i)

pub rests_on_versions : (shape : KeyShape) → RestsOnVersions (key_meaning shape)
rests_on_versions shape a b same n = same_version a b same shape n

-- A version stands where its header does
header_there : (f : Cell → Option Version) (o : Option Cell) → IsSome (option_and_then f o) → (c : Cell) × (o ≡ Some c)
header_there f None some = absurd (false≢true some)
header_there f (Some c) some = (c, refl)

pub stands_at_header : (shape : KeyShape) → StandsAtHeader (key_meaning shape)
stands_at_header shape image n some =
    let there = header_there (λ cell. version_of_header shape image (header_in cell)) (of_kind kind.Version (image n)) some in
    let found = found_kind kind.Version (image n) there.0 there.1 in
    (there.0, found.0, found.1)

-- Each key fits
first_is : (a b : Bool) → (a && b) ≡ true → a ≡ true
first_is true b e = refl
first_is false b e = e

second_is : (a b : Bool) → (a && b) ≡ true → b ≡ true
second_is true b e = e
second_is false b e = absurd (false≢true e)

both_are : (a b : Bool) → a ≡ true → b ≡ true → (a && b) ≡ true
both_are true b e d = d
both_are false b e d = e

-- a row has a value where its types have a type, and one of it
value_there : (ts : List ValueType) (vs : List Value) (k : ℕ) → row_fits ts vs ≡ true → (o : Option ValueType) (p : Option Value) → slice_get ts k ≡ o → slice_get vs k ≡ p → ((o ≡ None) × (p ≡ None)) ⊎ ((t : ValueType) × (v : Value) × (o ≡ Some t) × (p ≡ Some v) × (value_fits t v ≡ true))
value_there [] [] k fits o p e d = inl (sym e, sym d)
value_there [] (v ∷ vs) k fits o p e d = absurd (false≢true fits)
value_there (t ∷ ts) [] k fits o p e d = absurd (false≢true fits)
value_there (t ∷ ts) (v ∷ vs) zero fits o p e d = inr (t, v, sym e, sym d, first_is (value_fits t v) (row_fits ts vs) fits)
value_there (t ∷ ts) (v ∷ vs) (suc k) fits o p e d = value_there ts vs k (second_is (value_fits t v) (row_fits ts vs) fits) o p e d

pub key_fits : (ts : List ValueType) (vs : List Value) (fields : List ℕ) → row_fits ts vs ≡ true → row_fits (picked ts fields) (picked vs fields) ≡ true
key_fits ts vs [] fits = refl
key_fits ts vs (k ∷ ks) fits = elim (value_there ts vs k fits (slice_get ts k) (slice_get vs k) refl refl) [
  | inl none ↦ ap (λ (o : Option ValueType). row_fits (cons_option o (picked ts ks)) (cons_option (slice_get vs k) (picked vs ks))) none.0
      ∙ ap (λ (p : Option Value). row_fits (picked ts ks) (cons_option p (picked vs ks))) none.1 ∙ key_fits ts vs ks fits
  | inr some ↦ ap (λ (o : Option ValueType). row_fits (cons_option o (picked ts ks)) (cons_option (slice_get vs k) (picked vs ks))) some.2
      ∙ ap (λ (p : Option Value). row_fits (some.0 ∷ picked ts ks) (cons_option p (picked vs ks))) some.3
      ∙ both_are (value_fits some.0 some.1) (row_fits (picked ts ks) (picked vs ks)) some.4 (key_fits ts vs ks fits)
]

-- a choice that gave something
pub chosen_is : {X : Type 0} (x y : X) (b : Bool) → (if b then Some x else None) ≡ Some y → (x ≡ y) × (b ≡ true)
chosen_is x y true e = (the_some x y e, refl)
chosen_is x y false e = absurd (none_some y e)

pub encoded_is : (types : List ValueType) (bytes : List ℕ) (row r : List Value) → if_encoded types bytes row ≡ Some r → (row ≡ r) × (row_fits types row ≡ true) × (same_bytes (row_bytes types row) bytes ≡ true)
encoded_is types bytes row r e =
    let is = chosen_is row r (row_fits types row && same_bytes (row_bytes types row) bytes) e in
    (is.0, first_is (row_fits types row) (same_bytes (row_bytes types row) bytes) is.1, second_is (row_fits types row) (same_bytes (row_bytes types row) bytes) is.1)

-- a version that a header says
pub said_is : (shape : KeyShape) (h : VersionHeader) (dead : Bool) (o : Option (List Value)) (v : Version) → (if dead then None else option_map (keyed shape h) o) ≡ Some v → (row : List Value) × (o ≡ Some row) × (keyed shape h row ≡ v) × (dead ≡ false)
said_is shape h true o v e = absurd (none_some v e)
said_is shape h false None v e = absurd (none_some v e)
said_is shape h false (Some row) v e = (row, refl, the_some (keyed shape h row) v e, refl)

held_is : (f : Cell → Option Version) (o : Option Cell) (v : Version) → option_and_then f o ≡ Some v → (c : Cell) × (o ≡ Some c) × (f c ≡ Some v)
held_is f None v e = absurd (none_some v e)
held_is f (Some c) v e = (c, refl, e)

-- what a version with a key is: its header stands there, and leads to its row
pub record IsKeyed (shape : KeyShape) (image : Image) (n : ℕ) (v : Version) : Type 0 where
  pub cell : Cell
  pub row : List Value
  pub here : image n ≡ Some cell
  pub header : IsOfKind cell kind.Version
  pub alive : (header_in cell).tombstone ≡ false
  pub is : v ≡ keyed shape (header_in cell) row
  pub read : row ≡ read_values shape.types (row_at image (header_in cell))
  pub fits : row_fits shape.types row ≡ true
  pub bytes : same_bytes (row_bytes shape.types row) (row_at image (header_in cell)) ≡ true

pub keyed_is : (shape : KeyShape) (image : Image) (n : ℕ) (v : Version) → version_at shape image n ≡ Some v → IsKeyed shape image n v
keyed_is shape image n v e =
    let held = held_is (λ cell. version_of_header shape image (header_in cell)) (of_kind kind.Version (image n)) v e in
    let found = found_kind kind.Version (image n) held.0 held.1 in
    let said = said_is shape (header_in held.0) (header_in held.0).tombstone (row_of shape.types (row_at image (header_in held.0))) v held.2 in
    let bytes = row_at image (header_in held.0) in
    let row = read_values shape.types bytes in
    let encoded = encoded_is shape.types bytes row said.0 said.1 in
    record {
      cell = held.0;
      row = row;
      here = found.0;
      header = found.1;
      alive = said.3;
      is = sym said.2 ∙ ap (keyed shape (header_in held.0)) (sym encoded.0);
      read = refl;
      fits = encoded.1;
      bytes = encoded.2;
    }

pub keys_fit : (shape : KeyShape) → KeysFit (key_meaning shape)
keys_fit shape image n v e =
    let is = keyed_is shape image n v e in
    ap (λ (w : Version). row_fits (key_types shape) w.key) is.is ∙ key_fits shape.types is.row shape.fields is.fits
