use Rattle.rdb_shown.proofs.NothingLemmas.{shows_nothing, nothing_kept}
use Rattle.rdb_shown.proofs.rows.nothing_shows_nothing.Goals as goal

pub returns : goal.returns
returns c = record {
  shown = λ classes snapshot marks reader. shows_nothing classes snapshot marks reader;
  kept = λ classes journal marks. nothing_kept classes journal marks;
}
