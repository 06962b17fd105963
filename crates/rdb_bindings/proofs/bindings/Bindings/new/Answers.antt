-- What was surveyed, before the first reply.
use Rattle.rdb_bindings.specs.Filling.{lines_of}
use Rattle.rdb_bindings.proofs.KeepingLemmas.{keeps_none}
use Rattle.rdb_bindings.proofs.bindings.Bindings.new.Goals as goal

pub returns : goal.returns
returns c = keeps_none (lines_of c.args.units.now) _ c.in_ok-sources.ensures.sources c.in_ok-sources.ensures.referents
