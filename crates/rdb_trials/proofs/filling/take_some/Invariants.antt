use Rattle.std.proofs.Common.{◌≡◌, drop}
use Rattle.rdb_trials.specs.Filled.{IsFilled}
use Rattle.rdb_trials.specs.Kept.{empty_plan}
use Rattle.rdb_trials.proofs.filling.take_some.Given as goal

abbrev pub invariant-loop-place : goal.invariant-loop-place
invariant-loop-place g l =
    (l.plan ≡ empty_plan) × IsFilled (g.I.Index.nature l.index) (g.K.Keys.meaning l.keys) (g.C.Cells.image l.cells) l.versions (drop l.place l.versions)
