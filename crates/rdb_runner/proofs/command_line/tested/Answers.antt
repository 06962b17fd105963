use Rattle.std.proofs.Common.{map, string_bytes, ap, ◌∙◌, ◌∷◌, sym}
use Rattle.rdb_words.proofs.Parts.{if_none, if_none_then}
use Rattle.rdb_runner.proofs.CommandLineMeaning.{no_given, no_command}
use Rattle.rdb_runner.proofs.command_line.tested.Goals as goal

pub returns-in_err-arguments-clause-none : goal.returns-in_err-arguments-clause-none
returns-in_err-arguments-clause-none c =
    if_none _ (no_given _ _ _ (ap (map string_bytes) c.in_ok-command.ensures.cases.0) c.in_err-arguments.ensures.none)

pub returns-clause-none : goal.returns-clause-none
returns-clause-none c =
    if_none_then _ c.asked.ensures.none (no_command _ _ _ _
    (ap (map string_bytes) c.in_ok-command.ensures.cases.0 ∙ ap (λ w. w ∷ map string_bytes c.in_ok-command.behind.now) (sym c.as_str.ensures.value))
    c.in_ok-arguments.ensures.some)
