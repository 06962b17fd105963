use Rattle.rdb_runner.proofs.WordsLaws.{words_failed_read, words_legal, words_no_report, words_no_schedule, words_no_script, words_none, words_refused, words_too_long}
use Rattle.rdb_runner.proofs.laws.words_are_refused.Goals as goal

pub returns : goal.returns
returns c = record {
  no_command_line = words_none;
  failed_read = words_failed_read;
  too_long = λ words about sight ink answer end. words_too_long words sight ink answer end about;
  refused = λ words about sight ink answer end. words_refused words sight ink answer end about;
  no_script = λ words about sight ink answer end. words_no_script words sight ink answer end about;
  no_schedule = λ words about sight ink answer end. words_no_schedule words sight ink answer end about;
  no_report = λ words schema report sight ink answer end. words_no_report words sight ink answer end schema report;
  legal_report = λ words schema report sight ink answer end. words_legal words sight ink answer end schema report;
}
