use Rattle.std.proofs.Common.{◌<◌, ℕ, List, subst, sym}
use Rattle.std.specs.Prelude.{slice_index}
use Rattle.rdb_cells.proofs.RowFormatLemmas.{flat_small}
use Rattle.rdb_cells.proofs.formats.row.RowCell.of_cell.Goals as goal

pub returns-clause-proper : goal.returns-clause-proper
returns-clause-proper c = record {
  next = c.high_ref.ensures.small;
  count = c.write_u32_into.auto.dst;
  bytes = λ place. subst (λ (bytes : List ℕ). slice_index bytes place < 256) (sym c.write_u32_into.ensures) (flat_small c.split_at.result.1.now place);
}
