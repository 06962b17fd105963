use Rattle.std.proofs.Common.{append_assoc}
use Rattle.rdb_script.proofs.job_script.append_restock.Goals as goal

pub returns : goal.returns
returns c = simp append_assoc (simp append_assoc at c.in_ok-write.ensures.bytes)
