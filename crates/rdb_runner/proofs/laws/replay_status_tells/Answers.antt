use Rattle.rdb_runner.proofs.ReplayLaws.{replay_bad_schedule, replay_bad_schema, replay_bad_script, replay_done, replay_interrupted, replay_memory, replay_statuses, replay_unreadable}
use Rattle.rdb_runner.proofs.laws.replay_status_tells.Goals as goal

pub returns : goal.returns
returns c = record {
  statuses = replay_statuses;
  done = replay_done;
  unreadable = replay_unreadable;
  bad_schema = replay_bad_schema;
  bad_script = replay_bad_script;
  bad_schedule = replay_bad_schedule;
  interrupted = replay_interrupted;
  memory = replay_memory;
  asked = λ about sight ink answer end. end.asked;
}
