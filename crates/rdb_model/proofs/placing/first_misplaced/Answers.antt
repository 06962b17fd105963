-- One entry more that isn't misplaced.
use Rattle.std.proofs.Common.{◌≡◌, ◌+◌, ◌<◌, ◌||◌, [], ◌∷◌, ◌++◌, length, take, slice_get, Some, None, refl, sym, ap, ap₂, ◌∙◌, subst, arith}
use Rattle.std.proofs.lemmas.List.{length-take-le}
use Rattle.std.proofs.lemmas.Option.{slice_get_read}
use Rattle.rdb_model.specs.Journal.{commits}
use Rattle.rdb_model.specs.FirstFault.{misplaced}
use Rattle.rdb_model.specs.Tallies.{Counts}
use Rattle.rdb_model.proofs.FirstFaultLemmas.{take_push, first_at_next}
use Rattle.rdb_model.proofs.TallyLemmas.{commits_push, commits_length, counts_push}
use Rattle.rdb_model.proofs.placing.first_misplaced.Goals as goal

pub loop-place-preserved : goal.loop-place-preserved
loop-place-preserved c =
    let entries = c.args.entries.now in
    let i = c.loop-place.place in
    let e = c.index-entries-place.result in
    let so = c.loop-place.invariant in
    let within : i < length entries = omega arith in
    let at : slice_get entries i ≡ Some e = slice_get_read entries (length entries) i e refl within c.index-entries-place.is in
    let more : take (i + 1) entries ≡ take i entries ++ e ∷ [] = take_push entries i e at in
    let here : length (take i entries) ≡ i = length-take-le i entries (omega arith) in
    let twice = ap₂ (λ a b. a || b) (c.in_ok-ended_again.ensures.again (take i entries) so.ended so.left) (c.in_ok-left_again.ensures.again (take i entries) so.left) in
    let none : None ≡ misplaced c.args.within (take i entries) e = c.in_default.ensures (take i entries) c.args.within (subst (Counts (take i entries)) (sym c.deref.ensures.value) so.counted) so.count twice in
    let many : c.loop-place.count + c.commits_in-count.result ≡ commits (take i entries ++ e ∷ []) = ap₂ (λ a b. a + b) so.count c.commits_in-count.ensures ∙ sym (commits_push (take i entries) e) in
    let all : c.loop-place.count + c.commits_in-count.result ≡ commits (take (i + 1) entries) = many ∙ ap commits (sym more) in
    let bound = commits_length (take (i + 1) entries) in
    let long : length (take (i + 1) entries) ≡ i + 1 = length-take-le (i + 1) entries (omega arith) in
    record {
      counted = rw (more, c.in_ok-push-2.ensures.items) (counts_push (take i entries) e c.loop-place.counts.items (c.loop-place.count + c.commits_in-count.result) so.counted many);
      count = all;
      few = omega arith;
      ended = rw more (c.in_ok-ended_again.ensures.ended (take i entries) here so.ended);
      left = rw more (c.in_ok-left_again.ensures.left (take i entries) here so.left);
      rest = sym (first_at_next (misplaced c.args.within) entries i e at none) ∙ so.rest;
    }
