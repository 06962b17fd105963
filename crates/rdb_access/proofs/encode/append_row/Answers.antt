-- One value more goes from those that are left to what is written.
use Rattle.rdb_schema.specs.Types.{value_fits}
use Rattle.rdb_schema.specs.Encoding.{value_bytes}
use Rattle.rdb_schema.specs.Proper.{IsProperValue}
use Rattle.rdb_access.proofs.Proper.{each_more}
use Rattle.rdb_access.proofs.Pairs.{all_here, all_rest, pairs_written}
use Rattle.rdb_access.proofs.encode.append_row.Goals as goal

pub append_value-requires : goal.append_value-requires
append_value-requires c =
    all_here value_fits c.args.types.now c.args.row.now c.loop-at.at c.at.result.now c.at-in-loop-at.result.now c.at.ensures c.at-in-loop-at.ensures c.loop-at.invariant.left

pub loop-at-preserved : goal.loop-at-preserved
loop-at-preserved c = record {
  written = pairs_written value_bytes c.args.types.now c.args.row.now c.loop-at.at c.at.result.now c.at-in-loop-at.result.now _ _ _ c.at.ensures c.at-in-loop-at.ensures c.in_ok-append_value.ensures.appended c.loop-at.invariant.written;
  left = all_rest value_fits c.args.types.now c.args.row.now c.loop-at.at c.at.result.now c.at-in-loop-at.result.now c.at.ensures c.at-in-loop-at.ensures c.loop-at.invariant.left;
  proper = each_more IsProperValue c.args.row.now c.loop-at.at c.at-in-loop-at.result.now c.at-in-loop-at.ensures c.in_ok-append_value.ensures.proper c.loop-at.invariant.proper;
}
