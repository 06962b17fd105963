use Rattle.std.proofs.Common.{◌≡◌, List, ℕ, ◌++◌, length}
use Rattle.rdb_literals.specs.SpelledValues.{IsListEnd}
use Rattle.rdb_literals.proofs.ListLemmas.{Completes, Left}
use Rattle.rdb_literals.proofs.spelled.lists.ended_at.Given as goal

-- the elements so far, and what stands behind them
abbrev pub invariant-loop-next : goal.invariant-loop-next
invariant-loop-next g l = record {
  read : Completes g.T.Written.is_text l.close l.fn.elements l.elements l.text l.rest;
  on : (spelled after : List ℕ) (more : List g.row.T.Denot) → IsListEnd g.T.Written.is_text l.close spelled more → l.text ≡ spelled ++ after → Left g.T.Written.is_text l.close (l.fn.elements ++ more) l.elements l.rest after;
}

abbrev pub decreases-loop-next : goal.decreases-loop-next
decreases-loop-next g l = length l.rest
