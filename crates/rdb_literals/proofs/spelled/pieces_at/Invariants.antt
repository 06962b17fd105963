use Rattle.std.proofs.Common.{◌≡◌, ℕ, List, ◌∷◌, ◌++◌, length}
use Rattle.rdb_literals.specs.Spelling.{IsSpelled}
use Rattle.rdb_literals.proofs.SpellingLemmas.{HasRead, GoesOn}
use Rattle.rdb_literals.proofs.spelled.pieces_at.Given as goal

-- the bytes so far, and what stands behind them
abbrev pub invariant-loop-byte : goal.invariant-loop-byte
invariant-loop-byte l = record {
  read : HasRead l.text l.bytes l.rest;
  on : (spelled others after : List ℕ) → IsSpelled spelled others → l.text ≡ spelled ++ (34 ∷ after) → GoesOn l.bytes l.rest others after;
}

abbrev pub decreases-loop-byte : goal.decreases-loop-byte
decreases-loop-byte l = length l.rest
