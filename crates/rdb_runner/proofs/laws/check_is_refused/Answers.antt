use Rattle.rdb_runner.proofs.CheckLaws.{check_failed_read, check_refused, check_too_long}
use Rattle.rdb_runner.proofs.laws.check_is_refused.Goals as goal

pub returns : goal.returns
returns c = record {
  failed_read = check_failed_read;
  too_long = check_too_long;
  refused = check_refused;
}
