use Rattle.std.proofs.Common.{Some, sym, ap, ◌∙◌}
use Rattle.rdb_script.proofs.LastLemmas.{at_none, at_some, left_over, too_long}
use Rattle.rdb_script.proofs.last.last_row.Goals as goal

pub returns-in_default-clause-exact : goal.returns-in_default-clause-exact
returns-in_default-clause-exact c = λ x h. absurd (at_none _ c.in_ok-row.field-0 c.in_default.is (c.in_ok-row.ensures.exact h.spelled h.rest x h.is (c.after_blanks.ensures ∙ h.split)))

pub returns-then-not-is_end-clause-exact : goal.returns-then-not-is_end-clause-exact
returns-then-not-is_end-clause-exact c = λ x h.
    let s = at_some _ c.in_ok-row.field-0 (c.in-Some.row, c.in-Some.rest) c.in-Some.is (c.in_ok-row.ensures.exact h.spelled h.rest x h.is (c.after_blanks.ensures ∙ h.split)) in absurd (left_over c.in-Some.rest.now h.rest (sym c.is_end.ensures ∙ c.if-not-is_end.true) s.1 h.last)

pub returns-then-capped_length-gt-MAX_ROW-clause-exact : goal.returns-then-capped_length-gt-MAX_ROW-clause-exact
returns-then-capped_length-gt-MAX_ROW-clause-exact c = λ x h.
    let s = at_some _ c.in_ok-row.field-0 (c.in-Some.row, c.in-Some.rest) c.in-Some.is (c.in_ok-row.ensures.exact h.spelled h.rest x h.is (c.after_blanks.ensures ∙ h.split)) in absurd (too_long c.args.schema.now c.args.class c.capped_length.result c.in-Some.row x c.capped_length.ensures c.if-capped_length-gt-MAX_ROW.true s.0 h.short)

pub returns-clause-exact : goal.returns-clause-exact
returns-clause-exact c = λ x h. let s = at_some _ c.in_ok-row.field-0 (c.in-Some.row, c.in-Some.rest) c.in-Some.is (c.in_ok-row.ensures.exact h.spelled h.rest x h.is (c.after_blanks.ensures ∙ h.split)) in ap Some s.0
