use Rattle.rdb_shown.proofs.KeptLemmas.{in_order}
use Rattle.rdb_shown.proofs.MarkLemmas.{unused_shown, unused_kept, unused_work}
use Rattle.rdb_shown.proofs.commits.unused_mark_shows_nothing.Goals as goal

pub returns : goal.returns
returns c = record {
  shown = λ journal marks now versions tx snapshot reader kept un none. unused_shown marks now versions tx snapshot reader (in_order journal marks versions kept) un none;
  kept = unused_kept;
  work = unused_work;
}
