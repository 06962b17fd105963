use Rattle.std.proofs.Common.{◌+◌, ◌++◌, drop, arith}
use Rattle.rdb_schema.specs.Encoding.{value_bytes, row_bytes}
use Rattle.rdb_schema.specs.Types.{value_fits}
use Rattle.rdb_rows.proofs.WalkLemmas.{step_room, step_within, step_skips, step_more, place_room, place_found, pairs_begin}
use Rattle.rdb_rows.proofs.walk.find.Goals as goal

pub skip-there-requires : goal.skip-there-requires
skip-there-requires g c =
    let row = c.requires.row in
    step_room (g.C.Cells.image c.args.cells.now) c.args.first c.loop-at.spot c.args.types.now c.args.place.now.steps c.loop-at.at c.at-step.result.now c.at-step.ensures c.loop-at.invariant row.value row.rest row.fits row.stand

pub at-requires : goal.at-requires
at-requires g c = step_within (g.C.Cells.image c.args.cells.now) c.args.first c.loop-at.spot c.args.types.now c.args.place.now.steps c.loop-at.at c.at-step.result.now c.at-step.ensures c.loop-at.invariant

pub after_value-spot-requires : goal.after_value-spot-requires
after_value-spot-requires g c =
    let image = g.C.Cells.image c.args.cells.now in
    let row = c.requires.row in
    let s = c.at-step.result.now in
    let skipped = step_skips image c.args.first c.loop-at.spot c.args.types.now c.args.place.now.steps c.loop-at.at s c.at-step.ensures c.loop-at.invariant c.skip-there.result row.value row.rest (c.skip-there.ensures.stand image) row.fits row.stand in
    let there = pairs_begin value_bytes value_fits image c.skip-there.result c.args.types.now row.value row.rest s.field c.at.result.now c.at.ensures row.fits skipped in
    record {
      value = there.0;
      rest = row_bytes (drop (s.field + 1) c.args.types.now) (drop (s.field + 1) row.value) ++ row.rest;
      fits = there.1;
      stand = there.2;
    }

pub loop-at-preserved : goal.loop-at-preserved
loop-at-preserved g c =
    let image = g.C.Cells.image c.args.cells.now in
    let s = c.at-step.result.now in
    step_more image c.args.first c.loop-at.spot c.args.types.now c.args.place.now.steps c.loop-at.at s c.at-step.ensures c.loop-at.invariant c.after_value-spot.result
    (λ row rest fits stand.
    let skipped = step_skips image c.args.first c.loop-at.spot c.args.types.now c.args.place.now.steps c.loop-at.at s c.at-step.ensures c.loop-at.invariant c.skip-there.result row rest (c.skip-there.ensures.stand image) fits stand in
    let there = pairs_begin value_bytes value_fits image c.skip-there.result c.args.types.now row rest s.field c.at.result.now c.at.ensures fits skipped in
    c.after_value-spot.ensures there.0 (row_bytes (drop (s.field + 1) c.args.types.now) (drop (s.field + 1) row) ++ rest) there.1 there.2)

pub skip-requires : goal.skip-requires
skip-requires g c =
    let row = c.requires.row in
    let least = c.loop-at-test.false in
    let count = c.len-at-end.ensures in
    place_room (g.C.Cells.image c.args.cells.now) c.args.first c.loop-at.spot c.args.types.now c.args.place.now c.loop-at.at (omega arith) c.loop-at.invariant c.requires.place.0 c.requires.place.1 row.value row.rest row.fits row.stand

pub returns : goal.returns
returns g c field row rest found fits stand =
    let image = g.C.Cells.image c.args.cells.now in
    let least = c.loop-at-test.false in
    let count = c.len-at-end.ensures in
    place_found image c.args.first c.loop-at.spot c.args.types.now c.args.place.now c.loop-at.at (omega arith) c.loop-at.invariant field found row rest fits stand c.skip.result (c.skip.ensures.stand image)
