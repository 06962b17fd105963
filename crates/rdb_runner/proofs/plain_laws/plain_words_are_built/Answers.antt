use Rattle.rdb_runner.proofs.WordsLaws.{words_audit_built, words_check_built, words_not_built, words_plain}
use Rattle.rdb_runner.proofs.plain_laws.plain_words_are_built.Goals as goal

pub returns : goal.returns
returns c = record {
  not_built = words_not_built;
  plain = λ words about sight ink answer end. words_plain words sight ink answer end about;
  audit_is_built = λ words schema report sight ink answer end. words_audit_built words sight ink answer end schema report;
  check_is_built = λ words about sight ink answer end. words_check_built words sight ink answer end about;
}
