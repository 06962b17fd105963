use Rattle.std.proofs.Common.{◌%◌, ◌/◌, ℕ, List, drop, sym, ap, ◌∙◌}
use Rattle.std.specs.Prelude.{slice_index}
use Rattle.std.specs.Int.{w32, to_le_bytes}
use Rattle.rdb_cells.proofs.RowFormatLemmas.{flat_byte, behind_first}
use Rattle.rdb_cells.proofs.formats.row.RowCell.byte_in.Goals as goal

pub returns : goal.returns
returns c =
    let words = c.args.cell.now.words in
    let place = c.args.place in
    ap (λ (bytes : List ℕ). slice_index bytes (place % 4)) c.to_le_bytes.ensures
    ∙ sym (flat_byte (drop 1 words) place ∙ ap (λ (word : ℕ). slice_index (to_le_bytes w32 word) (place % 4)) (behind_first words (place / 4)))
