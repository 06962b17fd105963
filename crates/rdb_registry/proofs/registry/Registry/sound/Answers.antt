-- What is so of a registry follows from what it keeps.
use Rattle.std.proofs.Common.{subst}
use Rattle.rdb_registry.specs.Registry.{IsRoll}
use Rattle.rdb_registry.proofs.KeptLemmas.{roll_of}
use Rattle.rdb_registry.proofs.registry.Registry.sound.Goals as goal

pub returns : goal.returns
returns c = subst IsRoll c.self.view_is (roll_of c.self.invariant)
