use Rattle.std.proofs.Common.{◌<◌, ◌++◌, ◌∷◌, ℕ, List, [], length, sym, ap₂, ◌∙◌}
use Rattle.std.proofs.lemmas.List.{take_more}
use Rattle.rdb_rows.proofs.KeyRows.{fields_more, numbers_more}
use Rattle.rdb_rows.proofs.key_fields.key_fields.Goals as goal

pub loop-number-preserved : goal.loop-number-preserved
loop-number-preserved c =
    let made = c.in_ok-key_field.field-0 in
    let told = c.in_ok-key_field.ensures in
    let before : c.loop-number.number-index < length c.args.numbers.now = c.loop-number-test.true in
    let more = take_more c.args.numbers.now c.loop-number.number-index 0 before in
    rw c.in_ok-push.ensures.ok (
      numbers_more c.loop-number.fields made ∙ ap₂ (λ (ns : List ℕ) (n : ℕ). ns ++ n ∷ []) c.loop-number.invariant.0 told.0 ∙ sym more,
      fields_more c.args.types.now c.loop-number.fields made c.loop-number.invariant.1 told.1,
    )
