-- One leaf more goes from those that are left to what is written.
use Rattle.rdb_schema.specs.Values.{leaf_holds}
use Rattle.rdb_schema.specs.Encoding.{leaf_bytes}
use Rattle.rdb_schema.specs.Proper.{IsProperLeaf}
use Rattle.rdb_access.proofs.Proper.{each_more}
use Rattle.rdb_access.proofs.Pairs.{all_here, all_rest, pairs_written}
use Rattle.rdb_access.proofs.encode.append_leaves.Goals as goal

pub append_leaf-requires : goal.append_leaf-requires
append_leaf-requires c =
    all_here leaf_holds c.args.types.now c.args.leaves.now c.loop-at.at c.at.result.now c.at-in-loop-at.result.now c.at.ensures c.at-in-loop-at.ensures c.loop-at.invariant.left

pub loop-at-preserved : goal.loop-at-preserved
loop-at-preserved c = record {
  written = pairs_written leaf_bytes c.args.types.now c.args.leaves.now c.loop-at.at c.at.result.now c.at-in-loop-at.result.now _ _ _ c.at.ensures c.at-in-loop-at.ensures c.in_ok-append_leaf.ensures.appended c.loop-at.invariant.written;
  left = all_rest leaf_holds c.args.types.now c.args.leaves.now c.loop-at.at c.at.result.now c.at-in-loop-at.result.now c.at.ensures c.at-in-loop-at.ensures c.loop-at.invariant.left;
  proper = each_more IsProperLeaf c.args.leaves.now c.loop-at.at c.at-in-loop-at.result.now c.at-in-loop-at.ensures c.in_ok-append_leaf.ensures.proper c.loop-at.invariant.proper;
}
