use Rattle.std.proofs.Common.{◌+◌, length, refl}
use Rattle.rdb_tree.proofs.RowLemmas.{three_runs}
use Rattle.rdb_tree.proofs.node.joined.Goals as goal

pub returns : goal.returns
returns c =
    rw (c.copy_from_slice.ensures.after, c.copy_from_slice-2.ensures.after, c.copy_from_slice-3.ensures.after)
    (three_runs c.args.front.now c.args.middle.now c.args.back.now _ (length c.args.front.now) (length c.args.front.now + length c.args.middle.now) (length c.args.front.now + length c.args.middle.now + length c.args.back.now) _ _ refl refl refl)
