use Rattle.std.proofs.Common.{append_assoc}
use Rattle.rdb_script.proofs.job_script.append_look_at_places.Goals as goal

pub returns : goal.returns
returns c = simp append_assoc c.in_ok-write.ensures.bytes
