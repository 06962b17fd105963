-- The operations fit, and what was found of the operation is whether it is touched.
use Rattle.std.proofs.Common.{subst, sym, ap, ◌∙◌}
use Rattle.std.proofs.lemmas.Option.{slice_get_within, get_or_from_slice_get}
use Rattle.rdb_base.specs.declared.identity.Kind.TheVariants as kind
use Rattle.rdb_base.specs.declared.operation.Op.{Op}
use Rattle.rdb_base.specs.declared.operation.Reply.{Reply}
use Rattle.rdb_model.specs.Fits.{Fits, AllFit}
use Rattle.rdb_model.specs.Journal.{done_of}
use Rattle.rdb_model.specs.Story.{after}
use Rattle.rdb_model.specs.Touch.{any_rests}
use Rattle.rdb_model.proofs.TouchLemmas.{touched_is}
use Rattle.rdb_model.proofs.touching.touches.Goals as goal

pub apply_all-requires-clause-fits : goal.apply_all-requires-clause-fits
apply_all-requires-clause-fits c = subst (λ e. AllFit c.args.schema.now kind.ReadWrite (done_of e)) c.in-Commit.is c.requires.commit_fits

pub any_rests-requires-clause-fits : goal.any_rests-requires-clause-fits
any_rests-requires-clause-fits c =
    let done = c.args.story.now.done in
    let d = c.at.result.now in
    let within = slice_get_within done c.saturating_sub-at.result d c.at.ensures in
    subst (λ (x : Op × Reply). Fits c.args.schema.now x.0 kind.ReadWrite) (get_or_from_slice_get done c.saturating_sub-at.result d d c.at.ensures) (c.requires.story_fits c.saturating_sub-at.result d within)

pub returns : goal.returns
returns c =
    let schema = c.args.schema.now in
    let own = c.in-Commit.own in
    c.any_rests.ensures
    ∙ ap (λ db. any_rests schema c.args.before.now db c.at.result.now own.done) (c.in_ok-apply_all.ensures.next ∙ ap (λ b. after schema b own.done) c.in_ok-after.ensures)
    ∙ sym (touched_is schema c.args.before.now c.args.commit.now own c.in-Commit.commit c.args.story.now c.args.operation _ c.at.result.now c.in-Commit.is c.saturating_sub-at.ensures c.at.ensures)
