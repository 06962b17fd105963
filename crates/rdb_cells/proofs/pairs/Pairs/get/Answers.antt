use Rattle.std.proofs.Common.{◌≡◌, ◌<◌, ◌≢◌, ℕ, List, length, get_or, Some, ap, sym, subst, ◌∙◌}
use Rattle.rdb_cells.specs.declared.pairs.Pair.{Pair}
use Rattle.rdb_cells.specs.Places.{AreDifferent}
use Rattle.rdb_cells.specs.Records.{Record, content}
use Rattle.rdb_cells.proofs.PairLemmas.{content_at, content_unnamed, names_none}
use Rattle.rdb_cells.proofs.pairs.Pairs.get.Goals as goal

pub returns-in-Some : goal.returns-in-Some
returns-in-Some c =
    let s = c.self.inside in
    let n = c.args.at.number in
    let at = subst (λ (ks : List ℕ). (c.in-Some.place < length ks) × (get_or ks c.in-Some.place 0 ≡ n)) c.self.invariant.0 c.in-Some.ensures.found in
    let differ = subst AreDifferent c.self.invariant.0 c.find.ensures.differ in
    ap (λ (p : Pair). Some p.cell) c.index.ensures
    ∙ sym (content_at s.pairs.items c.in-Some.place n c.index.result.now differ at.0 at.1)
    ∙ ap (λ (r : Record). content r.pairs n) c.self.view_is

pub returns-in-None : goal.returns-in-None
returns-in-None c =
    let s = c.self.inside in
    let n = c.args.at.number in
    sym (content_unnamed s.pairs.items n (names_none s.pairs.items n (subst (λ (ks : List ℕ). (i : ℕ) → i < length ks → get_or ks i 0 ≢ n) c.self.invariant.0 c.in-None.ensures.none)))
    ∙ ap (λ (r : Record). content r.pairs n) c.self.view_is
