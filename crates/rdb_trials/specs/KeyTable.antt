-- Keys in a table: in place of its first row cell, a version's header says which row of the table is its key.
use Rattle.std.specs.Prelude.{◌≡◌, ℕ, List, [], Option, Some, None, IsSome, true, is_some, slice_get, refl}
use Rattle.std.specs.Option.{unwrap_or}
use Rattle.std.specs.Ordering.{nat_cmp}
use Rattle.std.specs.declared.cmp.Ordering.{Ordering}
use Rattle.std.specs.declared.cmp.Ordering.TheVariants.{Equal}
use mathlib.Core.Bool.{false≢true}
use mathlib.Core.Logic.{inr}
use mathlib.Core.Path.{sym, ap, ◌∙◌}
use Rattle.rdb_base.specs.declared.value.Value.{Value}
use Rattle.rdb_pages.specs.declared.cell.Cell.{Cell}
use Rattle.rdb_cells.specs.declared.kind.Kind.TheVariants as kind
use Rattle.rdb_cells.specs.Images.{Image}
use Rattle.rdb_cells.specs.Keys.{Version, Meaning, SameVersionCells, text_of}
use Rattle.rdb_cells.specs.OneKey.{version_in, held_is}
use Rattle.rdb_cells.specs.VersionFormat.{header_in}
use Rattle.rdb_cells.specs.Words.{IsOfKind}

-- the bytes of a key that is one text, and none of another
abbrev pub text_bytes : List Value → List ℕ
text_bytes key = unwrap_or (text_of key) []

-- an id against another, if one is given
abbrev pub id_order : ℕ → Option ℕ → Ordering
id_order own None = Equal
id_order own (Some id) = nat_cmp own id

-- the row that a header names, if it is one of the table
abbrev pub row_named : List (List Value) → Cell → Option (List Value)
row_named rows cell = slice_get rows (header_in cell).first_row.number

-- the version of a cell with this key, if it is a header and has a key
abbrev pub version_with : Option (List Value) → Cell → Option Version
version_with None cell = None
version_with (Some key) cell = version_in key cell

abbrev pub version_by : List (List Value) → Option Cell → Option Version
version_by rows None = None
version_by rows (Some cell) = version_with (row_named rows cell) cell

-- what the keys mean
abbrev pub table_meaning : List (List Value) → Meaning
table_meaning rows = record { version_of = λ image n. version_by rows (image n); fits = λ key. true; encoding = text_bytes }

nothing : {X : Type 0} (x : X) → None ≡ Some x → ⊥
nothing {X = X} x e = false≢true (ap (λ (o : Option X). is_some o) e)

-- a version stands at a header
pub header_of : (rows : List (List Value)) (o : Option Cell) (v : Version) → version_by rows o ≡ Some v → (cell : Cell) × (o ≡ Some cell) × (IsOfKind cell kind.Version)
header_of rows None v e = absurd (nothing v e)
header_of rows (Some c) v e = by_row (row_named rows c) e
  where
    by_row : (found : Option (List Value)) → version_with found c ≡ Some v → (cell : Cell) × (Some c ≡ Some cell) × (IsOfKind cell kind.Version)
    by_row None none = absurd (nothing v none)
    by_row (Some key) is = let held = held_is key (Some c) v is in (held.0, held.1, held.2)

pub version_at_header : (rows : List (List Value)) (o : Option Cell) → IsSome (version_by rows o) → (cell : Cell) × (o ≡ Some cell) × (IsOfKind cell kind.Version)
version_at_header rows o some = by_found (version_by rows o) refl some
  where
    by_found : (found : Option Version) → version_by rows o ≡ found → IsSome found → (cell : Cell) × (o ≡ Some cell) × (IsOfKind cell kind.Version)
    by_found None is none = absurd (false≢true none)
    by_found (Some v) is there = header_of rows o v is

-- what is said of a version rests on its header
pub rests_on_table : (rows : List (List Value)) (a b : Image) → SameVersionCells a b → (n : ℕ) → version_by rows (a n) ≡ version_by rows (b n)
rests_on_table rows a b same n = by_found (version_by rows (a n)) refl (version_by rows (b n)) refl
  where
    by_found : (found : Option Version) → version_by rows (a n) ≡ found → (other : Option Version) → version_by rows (b n) ≡ other → version_by rows (a n) ≡ version_by rows (b n)
    by_found (Some v) is other also =
        let held = header_of rows (a n) v is in
        ap (version_by rows) (held.1 ∙ sym ((same n held.0 (inr held.2)).0 held.1))
    by_found None is None also = is ∙ sym also
    by_found None is (Some v) also =
        let held = header_of rows (b n) v also in
        ap (version_by rows) ((same n held.0 (inr held.2)).1 held.1 ∙ sym held.1)
