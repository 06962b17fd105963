use Rattle.std.proofs.Common.{map, length, string_bytes}
use Rattle.rdb_words.specs.Grammar.{given_of}
use Rattle.rdb_words.proofs.Completion.{Reads}
use Rattle.rdb_words.proofs.definition.arguments_in.Given as goal

abbrev pub invariant-loop-first : goal.invariant-loop-first
invariant-loop-first l = Reads (map string_bytes l.fn.words) (given_of l.arguments) (map string_bytes l.rest)

abbrev pub decreases-loop-first : goal.decreases-loop-first
decreases-loop-first l = length l.rest
