use Rattle.std.proofs.Common.{ap, ◌∙◌, ◌++◌, ◌∷◌, [], ◌+◌, drop}
use Rattle.rdb_model.specs.Index.{key}
use Rattle.rdb_model.proofs.KeysLemmas.{key_copied, key_skipped}
use Rattle.rdb_cursor.proofs.ids.key_of.Goals as goal
use Rattle.rdb_cursor.proofs.ids.key_of.Goals.{in-Some+in_ok-duplicate+in_ok-push, in_default}

pub loop-field-preserved : goal.loop-field-preserved
loop-field-preserved c =
    let fields = c.as_slice-field-items.result.now in
    let row = c.args.row.now in
    let whole = key c.args.fields.now row in
    let left = key (drop (c.loop-field.field-index + 1) fields) row in
    elim c.match-value_at.branch [
      | in-Some+in_ok-duplicate+in_ok-push w ↦
          ap (λ made. made ++ left) (w.key-is ∙ w.in_ok-push.ensures.ok ∙ ap (λ v. c.loop-field.key ++ v ∷ []) w.in_ok-duplicate.ensures)
          ∙ key_copied fields row whole c.loop-field.key c.loop-field.field-index w.in-Some.value.now c.loop-field-test.true w.in-Some.ensures c.loop-field.invariant
      | in_default w ↦
          ap (λ made. made ++ left) w.key-is ∙ key_skipped fields row whole c.loop-field.key c.loop-field.field-index c.loop-field-test.true w.in_default.ensures c.loop-field.invariant
    ]
