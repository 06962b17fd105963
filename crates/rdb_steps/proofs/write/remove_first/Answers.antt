use Rattle.std.proofs.Common.{◌≡◌, ◌∷◌, [], List, Option, Some, None, slice_get, refl, sym}
use Rattle.rdb_registry.specs.declared.own_writes.OwnWrite.{OwnWrite}
use Rattle.rdb_steps.proofs.FirstLemmas.{first_gone}
use Rattle.rdb_steps.proofs.OrderedLemmas.{first_left, no_first}
use Rattle.rdb_steps.proofs.write.remove_first.Goals as goal

pub unreachable-requires : goal.unreachable-requires
unreachable-requires c = c.requires (no_first c.args.own.now.items c.in-None.ensures)

pub returns : goal.returns
returns c =
    let own = c.args.own.now.items in
    let first = c.in-Some.first.now in
    let there : slice_get own 0 ≡ Some first = sym c.in-Some.ensures in
    (first, there, first_left c.args.own.now c.remove.new.self first there c.ordered.ensures c.ordered-in-Some.ensures c.remove.ensures.here c.remove.ensures.others c.remove.ensures.room, first_gone own c.remove.new.self.items first there c.ordered.ensures c.remove.ensures.here c.remove.ensures.others, c.remove.ensures.others)
