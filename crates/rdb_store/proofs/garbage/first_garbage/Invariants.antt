use Rattle.std.specs.Prelude.{List}
use Rattle.rdb_sight.specs.Versions.{Object}
use Rattle.rdb_store.specs.FirstGarbage.{HoldsChains}
use Rattle.rdb_store.proofs.UnseenObjects.{IsGoing, slots_in_order}
use Rattle.rdb_store.proofs.garbage.first_garbage.Given as goal

abbrev pub invariant-loop : goal.invariant-loop
invariant-loop g l = (held : List Object) (holds : HoldsChains (g.C.Cells.image l.cells) l.objects.class held) →
    IsGoing l.floor held (slots_in_order (g.C.Cells.image l.cells) l.objects.class l.floor held holds) l.counter l.next l.first
