use Rattle.std.proofs.Common.{◌≡◌, ◌≢◌, ◌<◌, ℕ, List, length, get_or, false, sym, subst}
use Rattle.rdb_cells.specs.Records.{Record, names}
use Rattle.rdb_cells.proofs.PairLemmas.{unnamed_fresh}
use Rattle.rdb_cells.proofs.pairs.Pairs.push.Goals as goal

pub push-requires-clause-fresh : goal.push-requires-clause-fresh
push-requires-clause-fresh c =
    let s = c.self.inside in
    let n = c.args.pair.at.number in
    subst (λ (ns : List ℕ). (i : ℕ) → i < length ns → get_or ns i 0 ≢ n) (sym c.self.invariant.0)
    (unnamed_fresh s.pairs.items n (subst (λ (r : Record). names r.pairs n ≡ false) (sym c.self.view_is) c.requires.fresh))
