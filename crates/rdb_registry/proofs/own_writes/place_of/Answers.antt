-- At first the range is the whole list; at last it is one place.
use Rattle.std.proofs.Common.{◌≡◌, ℕ, subst, arith}
use Rattle.std.proofs.lemmas.Option.{slice_get_within}
use Rattle.rdb_registry.specs.OwnWrites.{IsBetween}
use Rattle.rdb_registry.proofs.own_writes.place_of.Goals as goal

pub loop-range-init : goal.loop-range-init
loop-range-init c = record {
  range = omega arith;
  within = omega arith;
  below = λ k write lt at. absurd (omega arith);
  above = λ k write le at. (let lt = slice_get_within c.args.writes.now k write at in absurd (omega arith));
}

pub returns : goal.returns
returns c =
    let range = c.loop-range.invariant.range in
    let same : c.loop-range.range.1 ≡ c.loop-range.range.0 = omega arith in
    subst (λ (n : ℕ). IsBetween (c.args.class, c.args.id) c.args.writes.now c.loop-range.range.0 n) same c.loop-range.invariant
