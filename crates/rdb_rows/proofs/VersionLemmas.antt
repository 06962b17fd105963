-- Versions rest on their cells, and a place has one.
use Rattle.std.proofs.Common.{◌≡◌, ◌≢◌, ◌<◌, ℕ, List, ◌∷◌, length, take, Option, Some, None, inl, inr, refl, sym, ap, ap₂, subst, ◌∙◌, arith}
use Rattle.std.proofs.lemmas.Bool.{false≢true}
use Rattle.std.proofs.lemmas.List.{take_at}
use Rattle.rdb_pages.specs.declared.cell.Cell.{Cell}
use Rattle.rdb_pages.specs.declared.cell.CellRef.{CellRef}
use Rattle.rdb_pages.specs.Pages.{zero_cell}
use Rattle.rdb_cells.specs.declared.formats.version.VersionHeader.{VersionHeader}
use Rattle.rdb_cells.specs.Images.{Image}
use Rattle.rdb_cells.specs.Links.{IsAmong, AreOnce, SameOn, Placed, elements, segment, numbers}
use Rattle.rdb_cells.specs.VersionFormat.{header_cell, header_in}
use Rattle.rdb_cells.proofs.LinkLemmas.{one_chain, node_of, still_chain}
use Rattle.rdb_rows.specs.declared.label.Label.{Label}
use Rattle.rdb_rows.specs.Rows.{cells_for, row_parts, IsPart, HoldsRow}
use Rattle.rdb_rows.specs.Versions.{Version, is_tombstone, bytes_in, header_of, HoldsVersion}
use Rattle.rdb_rows.proofs.Chains.{part_one, never_zero}
use Rattle.rdb_rows.proofs.Headers.{header_back, header_some, header_no_part, the_cell}
use Rattle.rdb_rows.proofs.Parts.{flat, parts_begin}

-- a row is what its parts begin with
pub bytes_again : (bytes : List ℕ) → take (length bytes) (flat (row_parts bytes)) ≡ bytes
bytes_again bytes =
    let begin = parts_begin (cells_for (length bytes)) bytes (omega arith) in
    ap (take (length bytes)) begin.1 ∙ take_at bytes begin.0 (length bytes) refl

pub same_row : (a b : List ℕ) → length a ≡ length b → row_parts a ≡ row_parts b → a ≡ b
same_row a b long same = sym (bytes_again a) ∙ ap₂ (λ (n : ℕ) (ps : List (List ℕ)). take n (flat ps)) long same ∙ bytes_again b

pub one_row : (image : Image) (first : ℕ) (a b cells others : List ℕ) → length a ≡ length b → HoldsRow image first a cells → HoldsRow image first b others → (a ≡ b) × (cells ≡ others)
one_row image first a b cells others long x y =
    let chain = one_chain IsPart part_one image x.chain y.chain (sym x.chained.begins ∙ y.chained.begins) x.chained.nodes.stand y.chained.nodes.stand in (
      same_row a b long (sym x.parts_are ∙ ap (λ (c : List (Placed (List ℕ))). elements c) chain ∙ y.parts_are),
      x.cells_are ∙ ap (λ (c : List (Placed (List ℕ))). numbers (segment c 0)) chain ∙ sym y.cells_are,
    )

-- a row rests on its cells
pub row_rests : (before after : Image) (first : ℕ) (bytes cells : List ℕ) → SameOn cells before after → HoldsRow before first bytes cells → HoldsRow after first bytes cells
row_rests before after first bytes cells same row = record {
  chain = row.chain;
  chained = still_chain IsPart before after first row.chain (subst (λ (ns : List ℕ). SameOn ns before after) row.cells_are same) row.chained;
  parts_are = row.parts_are;
  cells_are = row.cells_are;
}

pub version_rests : (before after : Image) (at : ℕ) (v : Version) (cells : List ℕ) → SameOn cells before after → HoldsVersion before at v cells → HoldsVersion after at v cells
version_rests before after at v cells same holds =
    let on = subst (λ (ns : List ℕ). SameOn ns before after) holds.cells_are same in
    record {
      first = holds.first;
      row_cells = holds.row_cells;
      labelled = holds.labelled;
      short = holds.short;
      header = on at (inl refl) ∙ holds.header;
      row = row_rests before after holds.first.number (bytes_in v.row) holds.row_cells (λ n within. on n (inr within)) holds.row;
      cells_are = holds.cells_are;
    }

-- what stands in a row's cell
pub row_cell_there : (image : Image) (first : ℕ) (bytes cells : List ℕ) → HoldsRow image first bytes cells → (n : ℕ) → IsAmong cells n → (cell : Cell) × (image n ≡ Some cell) × ((part : List ℕ) × (links : List ℕ) × IsPart cell part links)
row_cell_there image first bytes cells row n within =
    let x = node_of IsPart image (segment row.chain 0) n row.chained.nodes.stand (subst (λ (ns : List ℕ). IsAmong ns n) row.cells_are within) in
    (x.2.cell, ap image (sym x.1) ∙ x.2.here, (x.0.element, x.0.links, x.2.written))

pub header_apart : (image : Image) (at : ℕ) (v : Version) (cells : List ℕ) → (holds : HoldsVersion image at v cells) → ¬ IsAmong holds.row_cells at
header_apart image at v cells holds within =
    let there = row_cell_there image holds.first.number (bytes_in v.row) holds.row_cells holds.row at within in
    let same = the_cell (image at) there.0 (header_cell (header_of v holds.first)) there.1 holds.header in
    header_no_part (header_of v holds.first) there.2.0 there.2.1 (subst (λ (c : Cell). IsPart c there.2.0 there.2.1) same there.2.2)

pub version_once : (image : Image) (at : ℕ) (v : Version) (cells : List ℕ) → HoldsVersion image at v cells → AreOnce cells
version_once image at v cells holds =
    subst AreOnce (sym holds.cells_are) (header_apart image at v cells holds, subst AreOnce (sym holds.row.cells_are) holds.row.chained.nodes.once)

-- no cell of a version is free
pub version_some : (image : Image) (at : ℕ) (v : Version) (cells : List ℕ) → HoldsVersion image at v cells → (n : ℕ) → IsAmong cells n → image n ≢ Some zero_cell
version_some image at v cells holds n within zero = elim (subst (λ (ns : List ℕ). IsAmong ns n) holds.cells_are within) [
  | inl same ↦ header_some (header_of v holds.first) (the_cell (image n) (header_cell (header_of v holds.first)) zero_cell (ap image (sym same) ∙ holds.header) zero)
  | inr row ↦
      let there = row_cell_there image holds.first.number (bytes_in v.row) holds.row_cells holds.row n row in
      never_zero there.2.0 there.2.1 (subst (λ (c : Cell). IsPart c there.2.0 there.2.1) (the_cell (image n) there.0 zero_cell there.1 zero) there.2.2)
]

-- One
pub header_is : (v : Version) (first : CellRef) (cell : Cell) → (v.label.class < 256) × (v.label.older.number < 16777216) → cell ≡ header_cell (header_of v first) → header_in cell ≡ header_of v first
header_is v first cell labelled is = ap header_in is ∙ header_back (header_of v first) labelled

rows_alike : (a b : Option (List ℕ)) → is_tombstone a ≡ is_tombstone b → bytes_in a ≡ bytes_in b → a ≡ b
rows_alike None None dead same = refl
rows_alike None (Some y) dead same = absurd (false≢true (sym dead))
rows_alike (Some x) None dead same = absurd (false≢true dead)
rows_alike (Some x) (Some y) dead same = ap Some same

abbrev pub label_in : VersionHeader → Label
label_in h = record { class = h.class; id = h.id; serial = h.serial; stamp = h.stamp; older = h.older }

pub one_version : (image : Image) (at : ℕ) (v w : Version) (cells others : List ℕ) → HoldsVersion image at v cells → HoldsVersion image at w others → (v ≡ w) × (cells ≡ others)
one_version image at v w cells others x y =
    let headers : header_of v x.first ≡ header_of w y.first =
    sym (header_back (header_of v x.first) x.labelled)
    ∙ ap header_in (the_cell (image at) (header_cell (header_of v x.first)) (header_cell (header_of w y.first)) x.header y.header)
    ∙ header_back (header_of w y.first) y.labelled in
    let label : v.label ≡ w.label = ap label_in headers in
    let first : x.first.number ≡ y.first.number = ap (λ (h : VersionHeader). h.first_row.number) headers in
    let rows = one_row image y.first.number (bytes_in v.row) (bytes_in w.row) x.row_cells y.row_cells (ap (λ (h : VersionHeader). h.row_length) headers)
    (subst (λ (n : ℕ). HoldsRow image n (bytes_in v.row) x.row_cells) first x.row) y.row in
    let row : v.row ≡ w.row = rows_alike v.row w.row (ap (λ (h : VersionHeader). h.tombstone) headers) rows.0 in (
      λ i. record { label = label i; row = row i },
      x.cells_are ∙ ap (λ (ns : List ℕ). at ∷ ns) rows.1 ∙ sym y.cells_are,
    )
