use Rattle.std.proofs.Common.{List, ◌++◌, take}
use Rattle.rdb_script.specs.declared.unit.ScriptLine.{ScriptLine}
use Rattle.rdb_bindings.specs.Keeping.{IsSurvey}
use Rattle.rdb_bindings.proofs.survey.Survey.add_lines.Given as goal

-- the lines so far stand below those before
abbrev pub invariant-loop-line : goal.invariant-loop-line
invariant-loop-line l = (above : List ScriptLine) → IsSurvey above l.fn.self → IsSurvey (above ++ take l.line-index l.below) l.self
