use Rattle.std.proofs.Common.{Some, sym, ap, ◌∙◌}
use Rattle.rdb_script.proofs.LastLemmas.{at_none, at_some, left_over}
use Rattle.rdb_script.proofs.last.last_text.Goals as goal

pub returns-in_default-clause-exact : goal.returns-in_default-clause-exact
returns-in_default-clause-exact c = λ x h. absurd (at_none _ c.in_ok-words.field-0 c.in_default.is (c.in_ok-words.ensures.exact h.spelled x h.rest h.is (c.after_blanks.ensures ∙ h.split)))

pub returns-then-not-is_end-clause-exact : goal.returns-then-not-is_end-clause-exact
returns-then-not-is_end-clause-exact c = λ x h.
    let s = at_some _ c.in_ok-words.field-0 (c.in-Some.words, c.in-Some.rest) c.in-Some.is (c.in_ok-words.ensures.exact h.spelled x h.rest h.is (c.after_blanks.ensures ∙ h.split)) in absurd (left_over c.in-Some.rest.now h.rest (sym c.is_end.ensures ∙ c.if-not-is_end.true) s.1 h.last)

pub returns-clause-exact : goal.returns-clause-exact
returns-clause-exact c = λ x h. let s = at_some _ c.in_ok-words.field-0 (c.in-Some.words, c.in-Some.rest) c.in-Some.is (c.in_ok-words.ensures.exact h.spelled x h.rest h.is (c.after_blanks.ensures ∙ h.split)) in ap Some s.0
