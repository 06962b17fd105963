use Rattle.std.proofs.Common.{◌≢◌, ◌<◌, ℕ, List, [], length, get_or, sym, subst}
use Rattle.rdb_cells.proofs.ChangeLemmas.{fresh_taken}
use Rattle.rdb_cells.proofs.pairs.place_all.Goals as goal

pub push-requires-clause-fresh : goal.push-requires-clause-fresh
push-requires-clause-fresh c =
    let ps = c.args.pairs.now in
    let i = c.loop-pair.pair-index in
    let fresh = fresh_taken ps i (record { at = record { number = 0 }; cell = record { words = [] } }) c.requires.differ c.loop-pair-test.true in
    subst (λ (ns : List ℕ). (j : ℕ) → j < length ns → get_or ns j 0 ≢ (get_or ps i (record { at = record { number = 0 }; cell = record { words = [] } })).at.number) (sym c.loop-pair.invariant.0) fresh
