-- One element more goes from those that are left to what is written.
use Rattle.rdb_schema.specs.Types.{element_fits}
use Rattle.rdb_schema.specs.Encoding.{element_bytes}
use Rattle.rdb_schema.specs.Proper.{IsProperElement}
use Rattle.rdb_access.proofs.Proper.{each_more}
use Rattle.rdb_access.proofs.Pairs.{element_written, each_here, each_rest}
use Rattle.rdb_access.proofs.encode.append_elements.Goals as goal

pub append_element-requires : goal.append_element-requires
append_element-requires c = each_here (element_fits c.args.of.now) c.args.elements.now c.loop-at.at c.at.result.now c.at.ensures c.loop-at.invariant.left

pub loop-at-preserved : goal.loop-at-preserved
loop-at-preserved c = record {
  written = element_written (element_bytes c.args.of.now) c.args.elements.now c.loop-at.at c.at.result.now _ _ _ c.at.ensures c.in_ok-append_element.ensures.appended c.loop-at.invariant.written;
  left = each_rest (element_fits c.args.of.now) c.args.elements.now c.loop-at.at c.at.result.now c.at.ensures c.loop-at.invariant.left;
  proper = each_more IsProperElement c.args.elements.now c.loop-at.at c.at.result.now c.at.ensures c.in_ok-append_element.ensures.proper c.loop-at.invariant.proper;
}
