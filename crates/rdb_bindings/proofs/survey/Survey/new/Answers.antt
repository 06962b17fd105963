-- No name is assigned yet.
use Rattle.std.proofs.Common.{ap, ◌∙◌}
use Rattle.std.specs.FinMap.{get, get-empty}
use Rattle.rdb_bindings.proofs.SurveyLemmas.{survey_none}
use Rattle.rdb_bindings.proofs.survey.Survey.new.Goals as goal

pub returns : goal.returns
returns c = survey_none _ (λ name. ap (λ m. get m name) c.new.ensures ∙ get-empty _ name) c.new-2.ensures c.new-3.ensures
