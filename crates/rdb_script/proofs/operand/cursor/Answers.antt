use Rattle.std.proofs.Common.{◌≡◌, sym, ap, ◌∙◌}
use Rattle.std.proofs.lemmas.Bool.{false≢true}
use Rattle.rdb_script.specs.Lines.{word, is_name, is_end}
use Rattle.rdb_script.specs.Statements.{holds_place}
use Rattle.rdb_script.proofs.OperandLemmas.{is_named, not_named, cursor_parts, is_cursor}
use Rattle.rdb_script.proofs.operand.cursor.Goals as goal

pub returns-clause-found : goal.returns-clause-found
returns-clause-found c =
    let named = is_named c.next_word.result.0.now c.in_ok-name.name.now c.in_ok-name.ensures in
    let same : c.in_ok-name.name.now ≡ word c.args.text.now = named.1 ∙ c.next_word.ensures.word in (
      is_cursor c.args.names.now c.args.index c.args.text.now
          (sym (ap is_name c.next_word.ensures.word) ∙ named.0)
          (sym (ap (holds_place c.args.names.now c.args.index) same) ∙ sym c.holds_place.ensures ∙ c.if-not-holds_place.false)
          (sym (ap is_end c.next_word.ensures.behind) ∙ sym c.is_end.ensures ∙ c.if-not-is_end.false),
      same,
    )

pub returns-in_err-name-clause-exact : goal.returns-in_err-name-clause-exact
returns-in_err-name-clause-exact c = λ h.
    absurd (false≢true (sym (not_named c.next_word.result.0.now c.in_err-name.ensures) ∙ ap is_name c.next_word.ensures.word ∙ (cursor_parts c.args.names.now c.args.index c.args.text.now h).0))
