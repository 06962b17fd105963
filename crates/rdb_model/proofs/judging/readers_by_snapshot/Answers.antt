-- One entry more.
use Rattle.std.proofs.Common.{◌≡◌, ◌<◌, [], ◌∷◌, length, take, slice_get, Some, refl, arith}
use Rattle.std.proofs.lemmas.List.{length-take-le}
use Rattle.std.proofs.lemmas.Option.{slice_get_read}
use Rattle.rdb_model.proofs.FirstFaultLemmas.{take_push}
use Rattle.rdb_model.proofs.TallyLemmas.{readers_first}
use Rattle.rdb_model.proofs.judging.readers_by_snapshot.Goals as goal

pub loop-place-init : goal.loop-place-init
loop-place-init c = rw (c.in_ok-push.ensures.items, c.new-readers.ensures.items, c.new.ensures) (readers_first ([] ∷ []) refl)

pub loop-place-preserved : goal.loop-place-preserved
loop-place-preserved c =
    let entries = c.args.entries.now in
    let i = c.loop-place.place in
    let e = c.index-entries-place.result in
    let within : i < length entries = omega arith in
    let at : slice_get entries i ≡ Some e = slice_get_read entries (length entries) i e refl within c.index-entries-place.is in
    rw (take_push entries i e at) (c.in_ok-add_reader.ensures (take i entries) (length-take-le i entries (omega arith)) c.loop-place.invariant)
