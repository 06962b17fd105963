-- One operation more.
use Rattle.std.proofs.Common.{◌+◌, ◌<◌, length, drop, sym, ap, ◌∙◌, arith}
use Rattle.rdb_model.specs.Answer.{answer}
use Rattle.rdb_model.specs.Story.{after}
use Rattle.rdb_model.proofs.AnsweringLemmas.{after_more, after_taken, answer_classes}
use Rattle.rdb_model.proofs.db.Db.apply_all.Goals as goal

pub loop-op-preserved : goal.loop-op-preserved
loop-op-preserved c =
    let schema = c.args.schema.now in
    let done = c.as_slice-op-items.result.now in
    let i = c.loop-op.op-index in
    let d = c.loop-op-item.result in
    let is = c.loop-op-item.is in
    let so = c.loop-op.invariant in
    let within : i < length done = omega arith in
    let next = c.in_ok-apply.ensures.next in
    record {
      as_many = ap length next ∙ answer_classes schema c.loop-op.self d.0 ∙ so.as_many;
      so_far = next ∙ ap (λ b. (answer schema b d.0).1) so.so_far ∙ sym (after_taken schema c.args.self.now done i d within is);
      left = ap (λ b. after schema b (drop (i + 1) done)) next ∙ sym (after_more schema c.loop-op.self done i d within is) ∙ so.left;
    }
