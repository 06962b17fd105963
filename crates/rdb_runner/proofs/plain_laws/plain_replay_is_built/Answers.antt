use Rattle.rdb_runner.proofs.ReplayLaws.{replay_not_built, replay_plain}
use Rattle.rdb_runner.proofs.plain_laws.plain_replay_is_built.Goals as goal

pub returns : goal.returns
returns c = record {
  not_built = replay_not_built;
  plain = replay_plain;
}
