use Rattle.rdb_shown.proofs.KeptLemmas.{in_order}
use Rattle.rdb_shown.proofs.RowsShown.{shown_row, shown_in_order}
use Rattle.rdb_shown.proofs.rows.shown_is_row_by_row.Goals as goal

pub returns : goal.returns
returns c = record {
  row = λ journal marks versions snapshot class id reader kept. shown_row marks snapshot reader versions class id (in_order journal marks versions kept);
  in_order = λ journal marks versions snapshot reader kept. shown_in_order marks snapshot reader versions (in_order journal marks versions kept);
}
