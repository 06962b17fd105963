use Rattle.std.proofs.Common.{map, string_bytes, slice_index, rules, ap, ◌∙◌, sym, lit<}
use Rattle.std.proofs.lemmas.Str.Pattern.{starts_char}
use Rattle.rdb_words.proofs.Parts.{no_first}
use Rattle.rdb_words.proofs.definition.first_piece.Goals as goal

pub returns-then-starts_with-clause-none : goal.returns-then-starts_with-clause-none
returns-then-starts_with-clause-none c =
    no_first _ _ _ (ap (map string_bytes) c.in_ok-first.ensures.cases.0)
    c.in_default.ensures.none c.in_default-option_value.ensures.none (search rules)
    (ap (λ w. slice_index w 0) (sym c.as_str-word.ensures.value)
    ∙ (starts_char 45 _ _ c.starts_with.ensures.cases (lit< tt) (lit< tt)).0 c.if-starts_with.true)
