use Rattle.std.proofs.Common.{◌≡◌, map, take, string_bytes}
use Rattle.rdb_words.specs.Grammar.{given_of, with_names}
use Rattle.rdb_words.proofs.arguments.Arguments.add_names.Given as goal

abbrev pub invariant-loop-word : goal.invariant-loop-word
invariant-loop-word l =
    given_of l.self ≡ with_names (given_of l.initial.self) (map string_bytes (take l.word-index l.words))
