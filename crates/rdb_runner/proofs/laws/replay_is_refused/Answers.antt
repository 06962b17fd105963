use Rattle.rdb_runner.proofs.ReplayLaws.{replay_failed_read, replay_no_schedule, replay_no_script, replay_refused, replay_too_long}
use Rattle.rdb_runner.proofs.laws.replay_is_refused.Goals as goal

pub returns : goal.returns
returns c = record {
  failed_read = replay_failed_read;
  too_long = replay_too_long;
  refused = replay_refused;
  no_script = replay_no_script;
  no_schedule = replay_no_schedule;
}
