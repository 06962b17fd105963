use Rattle.std.proofs.Common.{◌≡◌, ◌≤◌, drop, length}
use Rattle.std.specs.Option.{option_copied, option_map}
use Rattle.rdb_model.specs.Index.{index, pair_of}
use Rattle.rdb_model.specs.Answer.{sought}
use Rattle.rdb_model.proofs.seek.seek.Given as goal

-- the best so far is the one among the objects that were seen
abbrev pub invariant-loop-left : goal.invariant-loop-left
invariant-loop-left l = record {
  in_range : l.left ≤ length l.objects;
  best : option_map (pair_of l.fields) (option_copied l.best) ≡ sought l.place l.up (index l.fields (drop l.left l.objects));
}

abbrev pub decreases-loop-left : goal.decreases-loop-left
decreases-loop-left l = l.left
