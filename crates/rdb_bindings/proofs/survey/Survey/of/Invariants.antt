use Rattle.std.proofs.Common.{take}
use Rattle.rdb_bindings.specs.Filling.{lines_of}
use Rattle.rdb_bindings.specs.Keeping.{IsSurvey}
use Rattle.rdb_bindings.proofs.survey.Survey.of.Given as goal

-- the units so far
abbrev pub invariant-loop-unit : goal.invariant-loop-unit
invariant-loop-unit l = IsSurvey (lines_of (take l.unit-index l.all)) l.survey
