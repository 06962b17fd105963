-- The walk begins with the reads that see no commit, goes on by one entry, and ends with the first wrong reply.
use Rattle.std.proofs.Common.{◌≡◌, ◌+◌, ◌<◌, [], length, slice_get, Some, None, refl, sym, ap, ap₂, ◌∙◌, subst, arith}
use Rattle.std.proofs.lemmas.List.{get_or_read, length-replicate}
use Rattle.rdb_model.proofs.TallyLemmas.{commits_length}
use Rattle.std.proofs.lemmas.Option.{slice_get_read}
use Rattle.rdb_model.specs.FirstFault.{FitsEntry, earliest_read}
use Rattle.rdb_model.proofs.JudgingLemmas.{judged_first, judged_other, judged_next, judged_last, fits_commit, commit_within}
use Rattle.rdb_model.proofs.judging.first_wrong.Goals as goal
use Rattle.rdb_model.proofs.judging.first_wrong.Goals.{in-Some+in_ok-wrong+in_ok-best-2, in_default}

pub loop-place-init : goal.loop-place-init
loop-place-init c =
    let readers = c.in_ok-readers.readers.items in
    let many = c.in_ok-readers.ensures.many in
    let within : 0 < length readers = omega arith in
    let places = get_or_read readers 0 c.index.result.now within c.index.ensures [] in
    record {
      judged = judged_first c.args.schema.now c.args.entries.now c.judge_reads.new.db c.new-made.result readers c.in_ok-best.best
          (c.in_ok-best.ensures.same ∙ c.in_ok-db.ensures) c.new-made.ensures.empty c.requires.fits c.in_ok-readers.ensures
          (c.in_ok-best.ensures.earliest ∙ ap₂ (λ d p. earliest_read c.args.schema.now d c.args.entries.now None p) (sym c.in_ok-best.ensures.same) places);
      classes = ap length (c.in_ok-best.ensures.same ∙ c.in_ok-db.ensures) ∙ length-replicate (length c.args.schema.now.classes) [];
    }

pub wrong_in_commit-requires : goal.wrong_in_commit-requires
wrong_in_commit-requires c =
    let entries = c.args.entries.now in
    let e = c.index-entries-place.result in
    let fit : FitsEntry c.args.schema.now e = subst (FitsEntry c.args.schema.now) (sym c.index-entries-place.is) (c.requires.fits c.loop-place.place e c.loop-place-test.true) in
    let parts = fits_commit c.args.schema.now e c.in-Some.done.now fit (sym c.in-Some.ensures) in
    record { fits = parts.0; few = parts.1; classes = c.loop-place.invariant.classes; is_schema = c.requires.is_schema }

pub overflow_add-seen : goal.overflow_add-seen
overflow_add-seen c =
    let entries = c.args.entries.now in
    let i = c.loop-place.place in
    let e = c.index-entries-place.result in
    let at : slice_get entries i ≡ Some e = slice_get_read entries (length entries) i e refl c.loop-place-test.true c.index-entries-place.is in
    let few = commit_within entries i c.loop-place.seen e c.in-Some.done.now c.loop-place.invariant.judged.counted at (sym c.in-Some.ensures) in
    let most = commits_length entries in
    omega arith

pub index-requires-in-Some : goal.index-requires-in-Some
index-requires-in-Some c =
    let entries = c.args.entries.now in
    let i = c.loop-place.place in
    let e = c.index-entries-place.result in
    let at : slice_get entries i ≡ Some e = slice_get_read entries (length entries) i e refl c.loop-place-test.true c.index-entries-place.is in
    let few = commit_within entries i c.loop-place.seen e c.in-Some.done.now c.loop-place.invariant.judged.counted at (sym c.in-Some.ensures) in
    let many = c.in_ok-readers.ensures.many in
    omega arith

pub loop-place-preserved : goal.loop-place-preserved
loop-place-preserved c =
    let entries = c.args.entries.now in
    let readers = c.in_ok-readers.readers.items in
    let i = c.loop-place.place in
    let e = c.index-entries-place.result in
    let so = c.loop-place.invariant in
    let at : slice_get entries i ≡ Some e = slice_get_read entries (length entries) i e refl c.loop-place-test.true c.index-entries-place.is in
    elim c.match-committed.branch [
      | in-Some+in_ok-wrong+in_ok-best-2 w ↦
          let told = w.in_ok-wrong.ensures in
          let last = w.in_ok-best-2.ensures in
          let many = c.in_ok-readers.ensures.many in
          let few = commit_within entries i c.loop-place.seen e w.in-Some.done.now so.judged.counted at (sym w.in-Some.ensures) in
          let within : c.loop-place.seen + 1 < length readers = omega arith in
          rw (w.db-is, w.made-is, w.seen-is, w.best-is) (record {
            judged = judged_next so.judged c.requires.fits c.in_ok-readers.ensures at (sym w.in-Some.ensures) told.wrong told.next told.made last.same w.earlier_of-found.ensures (get_or_read readers (c.loop-place.seen + 1) w.index-in-Some.result.now within w.index-in-Some.ensures []) last.earliest;
            classes = ap length last.same ∙ told.classes ∙ so.classes;
          })
      | in_default w ↦
          rw (w.db-is, w.made-is, w.seen-is, w.best-is) (record {
            judged = judged_other c.args.schema.now entries i c.loop-place.db c.loop-place.made c.loop-place.seen c.loop-place.best e so.judged at (sym w.in_default.ensures);
            classes = so.classes;
          })
    ]

pub returns : goal.returns
returns c = judged_last c.args.schema.now c.args.entries.now c.loop-place.place c.loop-place.db c.loop-place.made c.loop-place.seen c.loop-place.best c.loop-place.invariant.judged c.loop-place-test.false c.requires.placed
