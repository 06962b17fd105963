-- The key holds as far as it was looked at.
use Rattle.std.proofs.Common.{refl, sym, ap, ◌∙◌, slice_get, arith}
use Rattle.std.specs.List.{filter_map}
use Rattle.rdb_schema.specs.Values.{values_hold}
use Rattle.rdb_schema.proofs.KeyLemmas.{held_at, held_end, fails_on}
use Rattle.rdb_schema.proofs.key_values.values_match.Goals as goal

pub returns-then-not-holds : goal.returns-then-not-holds
returns-then-not-holds c =
    let more = held_at c.args.schema.now c.args.fields.now c.as_slice-number-items.result.now c.as_slice-key.result.now c.loop-number.number-index c.loop-number.place c.in-Some.field.now c.index-key-place.result c.loop-number-test.true c.in-Some.ensures (omega arith) c.index-key-place.is in
    fails_on _ _ _ _ more (sym c.holds.ensures ∙ c.if-not-holds.true) c.loop-number.invariant.left
    ∙ ap (λ k. values_hold c.args.schema.now (filter_map (slice_get c.args.fields.now) c.args.numbers.now) k) c.as_slice-key.ensures

pub returns : goal.returns
returns c =
    held_end c.args.schema.now c.args.fields.now c.as_slice-number-items.result.now c.as_slice-key.result.now c.loop-number.number-index c.loop-number.place _ c.loop-number-test.false c.loop-number.invariant.in_range refl
    ∙ c.loop-number.invariant.left
    ∙ ap (λ k. values_hold c.args.schema.now (filter_map (slice_get c.args.fields.now) c.args.numbers.now) k) c.as_slice-key.ensures
