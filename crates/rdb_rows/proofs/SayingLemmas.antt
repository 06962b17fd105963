-- What keys say of versions that stand in an image.
use Rattle.std.proofs.Common.{◌≡◌, ◌++◌, ◌&&◌, ℕ, List, [], ◌∷◌, length, take, Bool, true, Option, Some, None, refl, sym, ap, ap₂, subst, ◌∙◌, arith, eq-eqb}
use Rattle.std.specs.Prelude.{if◌then◌else◌}
use Rattle.std.specs.Option.{option_map, option_map_or, option_and_then}
use Rattle.rdb_base.specs.declared.value.Value.{Value}
use Rattle.rdb_schema.specs.declared.types.ValueType.{ValueType}
use Rattle.rdb_schema.specs.Encodes.{Encodes}
use Rattle.rdb_schema.specs.Encoding.{row_bytes}
use Rattle.rdb_access.specs.Read.{read_values}
use Rattle.rdb_access.proofs.Decoding.{row_back}
use Rattle.rdb_pages.specs.declared.cell.Cell.{Cell}
use Rattle.rdb_cells.specs.declared.formats.version.VersionHeader.{VersionHeader}
use Rattle.rdb_cells.specs.declared.kind.Kind.TheVariants as kind
use Rattle.rdb_cells.specs.Images.{Image}
use Rattle.rdb_cells.specs.Keys.{Version as Keyed}
use Rattle.rdb_cells.specs.Links.{Placed, Stand, elements, segment, start}
use Rattle.rdb_cells.specs.RowFormat.{row_in}
use Rattle.rdb_cells.specs.VersionFormat.{header_cell, header_in}
use Rattle.rdb_cells.specs.Words.{IsOfKind}
use Rattle.rdb_rows.specs.KeyLaws.{is_of_kind}
use Rattle.rdb_rows.specs.KeySayings.{keyed_by, said_of}
use Rattle.rdb_rows.specs.RowKeys.{KeyShape, picked, of_kind, bytes_from, same_bytes, if_encoded, row_of, row_at, keyed, version_of_header, version_at}
use Rattle.rdb_rows.specs.Rows.{cells_for, IsPart, HoldsRow}
use Rattle.rdb_rows.specs.Versions.{Version, is_tombstone, bytes_in, header_of, HoldsVersion}
use Rattle.rdb_rows.proofs.Chains.{chain_length, part_read, the_number}
use Rattle.rdb_rows.proofs.Headers.{header_back}
use Rattle.rdb_rows.proofs.Parts.{flat}
use Rattle.rdb_rows.proofs.VersionLemmas.{bytes_again}

part_kind : (cell : Cell) (part links : List ℕ) → IsPart cell part links → IsOfKind cell kind.Row
part_kind cell part links is = subst (λ (c : Cell). IsOfKind c kind.Row) (sym is.written) (omega arith)

-- the bytes of a chain are those of its parts
chain_bytes : (image : Image) (chain : List (Placed (List ℕ))) (first : ℕ) → first ≡ start chain 0 → Stand IsPart image (segment chain 0) → bytes_from image (length chain) first ≡ flat (elements chain)
chain_bytes image [] first begins stand = refl
chain_bytes image (p ∷ ps) first begins stand =
    let cell = stand.0.cell in
    let here : of_kind kind.Row (image first) ≡ Some cell = ap (of_kind kind.Row) (ap image begins ∙ stand.0.here) ∙ is_of_kind kind.Row cell (part_kind cell p.element (start ps 0 ∷ []) stand.0.written) in
    let told = part_read cell p.element (start ps 0 ∷ []) stand.0.written in
    ap (λ (o : Option Cell). option_map_or (λ c. (row_in c).bytes ++ bytes_from image (length ps) (row_in c).next.number) o []) here
    ∙ ap₂ (λ (xs ys : List ℕ). xs ++ ys) told.0 (chain_bytes image ps (row_in cell).next.number (the_number (row_in cell).next.number (start ps 0) told.1) stand.1)

row_there : (image : Image) (first : ℕ) (bytes cells : List ℕ) → HoldsRow image first bytes cells → take (length bytes) (bytes_from image (cells_for (length bytes)) first) ≡ bytes
row_there image first bytes cells holds =
    ap (λ (n : ℕ). take (length bytes) (bytes_from image n first)) (sym (chain_length image first bytes cells holds))
    ∙ ap (take (length bytes)) (chain_bytes image holds.chain first holds.chained.begins holds.chained.nodes.stand)
    ∙ ap (λ (ps : List (List ℕ)). take (length bytes) (flat ps)) holds.parts_are ∙ bytes_again bytes

header_kind : (h : VersionHeader) → IsOfKind (header_cell h) kind.Version
header_kind h = omega arith

-- by the version alone
by_row : (shape : KeyShape) (v : Version) (h : VersionHeader) (row : Option (List ℕ)) → h.id ≡ v.label.id → h.serial ≡ v.label.serial
    → (if is_tombstone row then None else option_map (keyed shape h) (row_of shape.types (bytes_in row))) ≡ option_and_then (λ bytes. option_map (keyed_by shape v.label) (row_of shape.types bytes)) row
by_row shape v h None id serial = refl
by_row shape v h (Some bytes) id serial = ap (λ (f : List Value → Keyed). option_map f (row_of shape.types bytes)) (λ i row. record { key = picked row shape.fields; id = id i; serial = serial i })

pub said_is : (shape : KeyShape) (image : Image) (at : ℕ) (v : Version) (cells : List ℕ) → HoldsVersion image at v cells → version_at shape image at ≡ said_of shape v
said_is shape image at v cells holds =
    let h = header_of v holds.first in
    let here : of_kind kind.Version (image at) ≡ Some (header_cell h) = ap (of_kind kind.Version) holds.header ∙ is_of_kind kind.Version (header_cell h) (header_kind h) in
    let row : row_at image h ≡ bytes_in v.row = row_there image holds.first.number (bytes_in v.row) holds.row_cells holds.row in
    ap (option_and_then (λ cell. version_of_header shape image (header_in cell))) here
    ∙ ap (version_of_header shape image) (header_back h holds.labelled)
    ∙ ap (λ (bytes : List ℕ). if is_tombstone v.row then None else option_map (keyed shape h) (row_of shape.types bytes)) row
    ∙ by_row shape v h v.row refl refl

same_itself : (xs : List ℕ) → same_bytes xs xs ≡ true
same_itself [] = refl
same_itself (x ∷ xs) = ap (λ (b : Bool). b && same_bytes xs xs) (eq-eqb x x refl) ∙ same_itself xs

encoded : (types : List ValueType) (row : List Value) (bytes : List ℕ) → Encodes types row bytes → row_of types bytes ≡ Some row
encoded types row bytes is =
    let read : read_values types bytes ≡ row = ap (read_values types) is.bytes_are ∙ row_back types row is.fits is.proper in
    ap (if_encoded types bytes) read
    ∙ ap (λ (b : Bool). if b && same_bytes (row_bytes types row) bytes then Some row else None) is.fits
    ∙ ap (λ (b : Bool). if b then Some row else None) (ap (same_bytes (row_bytes types row)) is.bytes_are ∙ same_itself (row_bytes types row))

pub said_row : (shape : KeyShape) (v : Version) (row : List Value) (bytes : List ℕ) → v.row ≡ Some bytes → Encodes shape.types row bytes → said_of shape v ≡ Some (keyed_by shape v.label row)
said_row shape v row bytes is encodes =
    ap (option_and_then (λ xs. option_map (keyed_by shape v.label) (row_of shape.types xs))) is
    ∙ ap (option_map (keyed_by shape v.label)) (encoded shape.types row bytes encodes)

pub said_none : (shape : KeyShape) (v : Version) → v.row ≡ None → said_of shape v ≡ None
said_none shape v is = ap (option_and_then (λ xs. option_map (keyed_by shape v.label) (row_of shape.types xs))) is
