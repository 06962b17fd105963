use Rattle.std.proofs.Common.{◌∷◌, sym, ◌∙◌}
use Rattle.rdb_audit.specs.Grammar.{lines}
use Rattle.rdb_audit.proofs.TextLines.{first_line, only_line, no_lines, some_bytes}
use Rattle.rdb_audit.proofs.reader.next_line.Goals as goal

pub returns-then-is_empty-clause-none : goal.returns-then-is_empty-clause-none
returns-then-is_empty-clause-none c = no_lines c.args.text.now (sym c.is_empty.ensures ∙ c.if-is_empty.true)

pub returns-in-Some-clause-some : goal.returns-in-Some-clause-some
returns-in-Some-clause-some c =
    first_line c.args.text.now c.in-Some.place c.in-Some.ensures
    ∙ (λ i. sym c.split_at.ensures.front i ∷ lines (sym c.split_at.ensures.back i))

pub returns-in-None-clause-some : goal.returns-in-None-clause-some
returns-in-None-clause-some c = only_line c.args.text.now (some_bytes c.args.text.now (sym c.is_empty.ensures ∙ c.if-is_empty.false)) c.in-None.ensures
