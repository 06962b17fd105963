use Rattle.std.proofs.Common.{◌≡◌, ◌<◌, ◌≢◌, ℕ, List, length, get_or, ap, false, sym, subst, ◌∙◌, arith}
use Rattle.std.proofs.lemmas.List.{length-set}
use Rattle.rdb_cells.specs.declared.pairs.Pair.{Pair}
use Rattle.rdb_cells.specs.Places.{AreDifferent}
use Rattle.rdb_cells.specs.Records.{Record, names, numbers_of, with_put}
use Rattle.rdb_cells.proofs.PairLemmas.{replaced_at, numbers-replaced, names_at, names_none, with_put_named, with_put_fresh}
use Rattle.rdb_cells.proofs.pairs.Pairs.put.Goals as goal

pub invariant_of-self : goal.invariant_of-self
invariant_of-self c =
    let s = c.self.inside in
    let i = c.in-Some.place in
    let q = c.args.pair in
    let at = subst (λ (ks : List ℕ). (i < length ks) × (get_or ks i 0 ≡ q.at.number)) c.self.invariant.0 c.in-Some.ensures.found in
    let differ = subst AreDifferent c.self.invariant.0 c.find.ensures.differ in
    let is = replaced_at s.pairs.items i q differ at.0 at.1 in
    (c.self.invariant.0 ∙ sym (numbers-replaced s.pairs.items q.at.number q.cell) ∙ ap numbers_of (sym is), omega (arith, length-set s.pairs.items i q), c.self.invariant.2)

pub returns-in-Some : goal.returns-in-Some
returns-in-Some c =
    let s = c.self.inside in
    let i = c.in-Some.place in
    let q = c.args.pair in
    let at = subst (λ (ks : List ℕ). (i < length ks) × (get_or ks i 0 ≡ q.at.number)) c.self.invariant.0 c.in-Some.ensures.found in
    let differ = subst AreDifferent c.self.invariant.0 c.find.ensures.differ in
    let named = names_at s.pairs.items i q.at.number at.0 at.1 in
    ap (λ (ps : List Pair). record { pairs = ps; room = s.places.room }) (replaced_at s.pairs.items i q differ at.0 at.1 ∙ sym (with_put_named s.pairs.items q named))
    ∙ ap (λ (r : Record). record { pairs = with_put r.pairs q; room = r.room }) c.self.view_is

pub push-requires-clause-fresh : goal.push-requires-clause-fresh
push-requires-clause-fresh c =
    let s = c.self.inside in
    let n = c.args.pair.at.number in
    ap (λ (r : Record). names r.pairs n) (sym c.self.view_is)
    ∙ names_none s.pairs.items n (subst (λ (ks : List ℕ). (i : ℕ) → i < length ks → get_or ks i 0 ≢ n) c.self.invariant.0 c.in-None.ensures.none)

pub push-requires-clause-room : goal.push-requires-clause-room
push-requires-clause-room c = c.requires (push-requires-clause-fresh c)

pub returns-in-None : goal.returns-in-None
returns-in-None c =
    let s = c.self.inside in
    let n = c.args.pair.at.number in
    let fresh : names c.args.self.now.pairs n ≡ false =
    ap (λ (r : Record). names r.pairs n) (sym c.self.view_is)
    ∙ names_none s.pairs.items n (subst (λ (ks : List ℕ). (i : ℕ) → i < length ks → get_or ks i 0 ≢ n) c.self.invariant.0 c.in-None.ensures.none) in
    c.push.ensures ∙ ap (λ (ps : List Pair). record { pairs = ps; room = c.args.self.now.room }) (sym (with_put_fresh c.args.self.now.pairs c.args.pair fresh))
