use Rattle.std.proofs.Common.{Some, None}
use Rattle.rdb_sight.specs.Versions.{chain_in}
use Rattle.rdb_shown.proofs.KeptLemmas.{in_order}
use Rattle.rdb_shown.proofs.MarkLemmas.{shown_alike}
use Rattle.rdb_shown.proofs.NothingLemmas.{no_work}
use Rattle.rdb_shown.proofs.RestLemmas.{none_own_shown}
use Rattle.rdb_shown.proofs.rows.no_version_is_no_work.Goals as goal

pub returns : goal.returns
returns c = record {
  shown = λ journal marks versions tx snapshot kept open_ none.
      shown_alike marks marks snapshot snapshot None (Some tx) versions (in_order journal marks versions kept) (λ class id. none_own_shown marks snapshot tx (chain_in versions class id) open_ (none class id));
  work = no_work;
}
