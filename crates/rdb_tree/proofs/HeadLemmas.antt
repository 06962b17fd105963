-- The root that a tree's head leads to.
use Rattle.std.proofs.Common.{◌≡◌, ℕ, slice_get, Option, Some, refl, sym, ap, ◌∙◌}
use Rattle.std.specs.Option.{option_map_or}
use Rattle.rdb_pages.specs.declared.cell.Cell.{Cell}
use Rattle.rdb_pages.specs.declared.cell.CellRef.{CellRef}
use Rattle.rdb_cells.specs.declared.formats.heads.IndexHead.{IndexHead}
use Rattle.rdb_cells.specs.HeadFormat.{index_head_cell, index_head_in, rooted_head}
use Rattle.rdb_cells.specs.Images.{Image}
use Rattle.rdb_cells.proofs.FormatLemmas.{index_head_back}

pub one_cell : (image : Image) (n : ℕ) (c d : Cell) → image n ≡ Some c → image n ≡ Some d → c ≡ d
one_cell image n c d is also = ap (λ (o : Option Cell). option_map_or (λ e. e) o c) (sym is ∙ also)

pub root_read : (image : Image) (head : ℕ) (root r : CellRef) (cell : Cell) → image head ≡ Some (index_head_cell (rooted_head root)) → image head ≡ Some cell → slice_get (index_head_in cell).roots 0 ≡ Some r → root ≡ r
root_read image head root r cell leads here read =
    let same = one_cell image head (index_head_cell (rooted_head root)) cell leads here in
    let back : index_head_in (index_head_cell (rooted_head root)) ≡ rooted_head root = index_head_back (rooted_head root) refl in
    let first : Some root ≡ Some r =
    ap (λ (h : IndexHead). slice_get h.roots 0) (sym back)
    ∙ ap (λ (c : Cell). slice_get (index_head_in c).roots 0) same
    ∙ read in
    ap (λ (o : Option CellRef). option_map_or (λ x. x) o root) first
