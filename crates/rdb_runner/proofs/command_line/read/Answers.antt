use Rattle.std.proofs.Common.{◌≡◌, List, ◌∷◌, map, string_bytes, sym, ap, ◌∙◌}
use Rattle.rdb_words.proofs.Parts.{none_mapped}
use Rattle.rdb_runner.proofs.CommandLineMeaning.{some_word, readable, asks_again, line_of, within_limits}
use Rattle.rdb_runner.proofs.command_line.read.Goals as goal

pub unreachable-requires : goal.unreachable-requires
unreachable-requires c = some_word _ _ c.requires.1 (none_mapped _ _ c.in_default.ensures.cases)

pub read-requires : goal.read-requires
read-requires c = readable _ _ _ _ c.requires.1 (ap (map string_bytes) c.in-Some.ensures.cases.0)

pub unreachable-requires-in_default-asked : goal.unreachable-requires-in_default-asked
unreachable-requires-in_default-asked c =
    let begins = ap (map string_bytes) c.in-Some.ensures.cases.0 ∙ ap (λ w. w ∷ map string_bytes c.in-Some.behind.now) (sym c.as_str.ensures.value) in
    c.in_default-asked.ensures.none c.requires.0 (asks_again _ _ _ _ _ c.requires.1 begins c.in_ok-arguments.ensures).asks

pub returns-clause-meant : goal.returns-clause-meant
returns-clause-meant c =
    let begins = ap (map string_bytes) c.in-Some.ensures.cases.0 ∙ ap (λ w. w ∷ map string_bytes c.in-Some.behind.now) (sym c.as_str.ensures.value) in
    line_of _ _ _ _ _ begins (asks_again _ _ _ _ _ c.requires.1 begins c.in_ok-arguments.ensures).gives c.in-Some-asked.ensures.some

pub returns-clause-limits : goal.returns-clause-limits
returns-clause-limits c = within_limits _ _ c.in-Some-asked.ensures.some.1
