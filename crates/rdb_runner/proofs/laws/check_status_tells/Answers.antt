use Rattle.rdb_runner.proofs.CheckLaws.{check_bad_schema, check_checked, check_interrupted, check_memory, check_statuses, check_unreadable}
use Rattle.rdb_runner.proofs.laws.check_status_tells.Goals as goal

pub returns : goal.returns
returns c = record {
  statuses = check_statuses;
  checked = check_checked;
  unreadable = check_unreadable;
  bad_schema = check_bad_schema;
  interrupted = check_interrupted;
  memory = check_memory;
  asked = λ about sight ink answer end. end.asked;
}
