use Rattle.rdb_shown.proofs.KeptLemmas.{in_order}
use Rattle.rdb_shown.proofs.MarkLemmas.{earlier_shown, marked_work}
use Rattle.rdb_shown.proofs.CommitLemmas.{commit_shown}
use Rattle.rdb_shown.proofs.MarkedChains.{marked_kept}
use Rattle.rdb_shown.proofs.commits.mark_shows_the_commit.Goals as goal

pub returns : goal.returns
returns c = record {
  commit = commit_shown;
  earlier = λ journal marks now versions tx snapshot reader kept open_ marked le differs. earlier_shown journal marks now versions tx snapshot reader (in_order journal marks versions kept) open_ marked le differs;
  kept = λ within schema journal marks now versions tx story law is_new valid kept work marked. marked_kept within schema journal marks now versions tx story law valid kept work marked;
  others_work = λ journal marks now versions tx other snapshot done kept marked differs le work. marked_work journal marks now versions tx other snapshot done marked differs le work;
}
