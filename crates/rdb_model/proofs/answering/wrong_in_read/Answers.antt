-- A read's operation fits under reading and writing too, and changes nothing.
use Rattle.std.proofs.Common.{◌≡◌, ◌+◌, true, false, length, sym, ap, ◌∙◌}
use Rattle.rdb_base.specs.declared.identity.Kind.TheVariants as kind
use Rattle.rdb_model.specs.Answer.{answer}
use Rattle.rdb_model.specs.Story.{same_reply}
use Rattle.rdb_model.proofs.AnsweringLemmas.{reads_fit, reads_keep, read_right, read_wrong, fits_at}
use Rattle.rdb_model.proofs.answering.wrong_in_read.Goals as goal

pub apply-requires : goal.apply-requires
apply-requires c =
    let d = c.index-operations-place.result in
    let fit = fits_at c.args.schema.now kind.ReadOnly c.args.done.now c.as_slice-operations.result.now c.loop-place.place d c.requires.fits c.as_slice-operations.ensures c.loop-place-test.true c.index-operations-place.is in
    record {
      fits = reads_fit c.args.schema.now d.0 fit;
      classes = ap length c.loop-place.invariant.same ∙ c.requires.classes;
      is_schema = c.requires.is_schema;
    }

pub loop-place-preserved : goal.loop-place-preserved
loop-place-preserved c =
    let schema = c.args.schema.now in
    let done = c.as_slice-operations.result.now in
    let i = c.loop-place.place in
    let d = c.index-operations-place.result in
    let so = c.loop-place.invariant in
    let fit = fits_at schema kind.ReadOnly c.args.done.now done i d c.requires.fits c.as_slice-operations.ensures c.loop-place-test.true c.index-operations-place.is in
    let right : true ≡ same_reply (answer schema c.args.db.now d.0).0 d.1 =
    sym c.if-not-same_reply.false ∙ c.same_reply.ensures ∙ ap (λ a. same_reply a d.1) c.in_ok-answer.ensures.reply ∙ ap (λ b. same_reply (answer schema b d.0).0 d.1) so.same in
    record {
      same = c.in_ok-answer.ensures.next ∙ reads_keep schema c.loop-place.db d.0 fit ∙ so.same;
      left = read_right schema c.args.db.now done i (i + 1) d c.loop-place-test.true c.index-operations-place.is fit right ∙ so.left;
    }

pub returns-then-not-same_reply : goal.returns-then-not-same_reply
returns-then-not-same_reply c =
    let schema = c.args.schema.now in
    let done = c.as_slice-operations.result.now in
    let i = c.loop-place.place in
    let d = c.index-operations-place.result in
    let so = c.loop-place.invariant in
    let fit = fits_at schema kind.ReadOnly c.args.done.now done i d c.requires.fits c.as_slice-operations.ensures c.loop-place-test.true c.index-operations-place.is in
    let wrong : false ≡ same_reply (answer schema c.args.db.now d.0).0 d.1 =
    sym c.if-not-same_reply.true ∙ c.same_reply.ensures ∙ ap (λ a. same_reply a d.1) c.in_ok-answer.ensures.reply ∙ ap (λ b. same_reply (answer schema b d.0).0 d.1) so.same in
    record {
      wrong = read_wrong schema c.args.db.now done i (i + 1) d c.loop-place-test.true c.index-operations-place.is fit wrong ∙ so.left;
      same = c.in_ok-answer.ensures.next ∙ reads_keep schema c.loop-place.db d.0 fit ∙ so.same;
    }
