-- Its story still runs after all commits, since what it makes was written by none.
use Rattle.rdb_model.proofs.CommitSound.{commit_keeps}
use Rattle.rdb_model.proofs.laws.valid_commit_keeps_law.Goals as goal

pub returns : goal.returns
returns c = commit_keeps
