-- A misplaced entry is at a place of the journal.
use Rattle.std.proofs.Common.{◌<◌, length, length-take, arith}
use Rattle.rdb_model.proofs.legality.before.Goals as goal

pub slice_bounds-result-end : goal.slice_bounds-result-end
slice_bounds-result-end c =
    let within : c.in-Some.place < length c.args.entries.now = rw c.in-Some.is at c.requires in
    omega (arith, within, length-take c.in-Some.place c.args.entries.now)
