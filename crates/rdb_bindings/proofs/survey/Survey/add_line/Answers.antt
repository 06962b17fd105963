-- One line more.
use Rattle.std.proofs.Common.{◌++◌, ◌∷◌, [], ℕ, Option, ap, ◌∙◌}
use Rattle.rdb_bindings.specs.declared.survey.Survey.{Survey}
use Rattle.rdb_bindings.specs.Keeping.{assigned}
use Rattle.rdb_bindings.proofs.PlaceLemmas.{on_ok_then}
use Rattle.rdb_bindings.proofs.SurveyLemmas.{survey_more}
use Rattle.rdb_bindings.proofs.survey.Survey.add_line.Goals as goal

pub returns : goal.returns
returns c =
    on_ok_then _ _ c.assign.result
    (λ is above far.
    survey_more above c.args.line.now c.args.self.now c.assign.new.self far
    (ap (λ (s : Survey). s.sources) is ∙ c.in_ok-push.ensures.ok ∙ ap (λ (s : Option ℕ). c.args.self.now.sources ++ s ∷ []) c.source-source.ensures)
    (ap (λ (s : Survey). s.referents) is ∙ c.in_ok-push-2.ensures.ok)
    (ap (λ (s : Survey). s.assigners) is ∙ ap (λ (n : ℕ). assigned c.args.self.now.assigners n c.args.line.now.name) c.len-number.ensures))
    c.assign.ensures
