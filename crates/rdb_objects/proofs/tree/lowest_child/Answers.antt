use Rattle.std.proofs.Common.{◌≡◌, rules}
use Rattle.rdb_cells.specs.Words.{no_ref}
use Rattle.rdb_objects.proofs.WalkLemmas.{no_child_more}
use Rattle.rdb_objects.proofs.tree.lowest_child.Goals as goal

pub loop-place-preserved : goal.loop-place-preserved
loop-place-preserved c =
    let none : c.child_in.result ≡ no_ref = search rules in
    no_child_more c.args.cell.now c.loop-place.place c.child_in.result c.loop-place.invariant c.child_in.ensures none
