use Rattle.rdb_objects.specs.Chains.{IsBehind}
use Rattle.rdb_objects.proofs.ChainLemmas.{IsSeeking}
use Rattle.rdb_objects.proofs.chain.newer_than.Given as goal

abbrev pub invariant-loop : goal.invariant-loop
invariant-loop g l = (behind : IsBehind (g.C.Cells.image l.cells) l.fn.newest l.version) → IsSeeking behind.versions l.version l.counter l.newer
