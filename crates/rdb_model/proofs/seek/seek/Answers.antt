-- The object before those that were seen is the best, or the best stays.
use Rattle.std.proofs.Common.{◌-◌, true, false, arith}
use Rattle.std.specs.Option.{option_copied, option_map}
use Rattle.rdb_model.specs.Index.{pair_of}
use Rattle.rdb_model.proofs.SeekLemmas.{best_more}
use Rattle.rdb_model.proofs.seek.seek.Goals as goal

pub loop-left-preserved-then-is_better : goal.loop-left-preserved-then-is_better
loop-left-preserved-then-is_better c = record {
  in_range = omega arith;
  best = best_more c.args.place.now c.args.up c.args.fields.now c.args.objects.now (c.loop-left.left - 1) c.loop-left.left c.index-objects-left.result
      (option_map (pair_of c.args.fields.now) (option_copied c.loop-left.best)) true (omega arith) (omega arith) c.index-objects-left.is c.loop-left.invariant.best c.if-is_better.ensures;
}

pub loop-left-preserved : goal.loop-left-preserved
loop-left-preserved c = record {
  in_range = omega arith;
  best = best_more c.args.place.now c.args.up c.args.fields.now c.args.objects.now (c.loop-left.left - 1) c.loop-left.left c.index-objects-left.result
      (option_map (pair_of c.args.fields.now) (option_copied c.loop-left.best)) false (omega arith) (omega arith) c.index-objects-left.is c.loop-left.invariant.best c.if-is_better.ensures;
}
