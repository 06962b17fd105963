use Rattle.std.proofs.Common.{◌≡◌, inl, refl, rules}
use Rattle.rdb_cells.specs.Words.{no_ref}
use Rattle.rdb_objects.proofs.OrderLemmas.{no_child_from_more, no_child_from_all}
use Rattle.rdb_objects.proofs.walk.child_from.Goals as goal

pub loop-place-preserved : goal.loop-place-preserved
loop-place-preserved c =
    let none : c.child_in-child.result ≡ no_ref = search rules in
    no_child_from_more c.args.cell.now c.args.start c.loop-place.place c.child_in-child.result c.loop-place.invariant c.child_in-child.ensures none

pub returns : goal.returns
returns c = inl (refl, no_child_from_all c.args.cell.now c.args.start c.loop-place.place c.loop-place-test.false c.loop-place.invariant)
