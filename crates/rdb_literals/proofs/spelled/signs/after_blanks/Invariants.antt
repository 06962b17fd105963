use Rattle.std.proofs.Common.{◌≡◌, List, ℕ, ◌++◌, length}
use Rattle.rdb_literals.specs.SpelledValues.{AreBlanks}
use Rattle.rdb_literals.proofs.spelled.signs.after_blanks.Given as goal

-- what was passed so far are blanks
abbrev pub invariant-loop-behind : goal.invariant-loop-behind
invariant-loop-behind l = (blanks : List ℕ) × AreBlanks blanks × (l.text ≡ blanks ++ l.rest)

abbrev pub decreases-loop-behind : goal.decreases-loop-behind
decreases-loop-behind l = length l.rest
