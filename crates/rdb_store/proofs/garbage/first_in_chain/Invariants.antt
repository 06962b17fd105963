use Rattle.std.specs.Prelude.{List}
use Rattle.rdb_sight.specs.Versions.{Version}
use Rattle.rdb_store.specs.FirstGarbage.{Begins}
use Rattle.rdb_store.proofs.UnseenChains.{IsWalked}
use Rattle.rdb_store.proofs.garbage.first_in_chain.Given as goal

abbrev pub invariant-loop : goal.invariant-loop
invariant-loop g l = (chain : List Version) → Begins (g.C.Cells.image l.cells) l.object.newest chain → IsWalked l.floor chain l.object.id l.counter l.at l.newer l.first
