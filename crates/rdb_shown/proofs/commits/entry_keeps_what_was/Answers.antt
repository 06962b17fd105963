use Rattle.std.proofs.Common.{◌∷◌, [], sym}
use Rattle.rdb_model.proofs.SerialReads.{fold_front}
use Rattle.rdb_shown.proofs.MarkLemmas.{kept_more}
use Rattle.rdb_shown.proofs.commits.entry_keeps_what_was.Goals as goal

pub returns : goal.returns
returns c = record {
  folds = λ schema journal e n le. sym (fold_front schema journal (e ∷ []) n le);
  kept = λ journal marks versions e kept. kept_more journal e marks versions kept;
}
