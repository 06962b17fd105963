-- The middle tells in which half the place is.
use Rattle.std.proofs.Common.{◌+◌, ◌-◌, ◌/◌, sym, arith}
use Rattle.std.proofs.lemmas.Option.{slice_get-get_or}
use Rattle.rdb_registry.proofs.OwnLemmas.{upper_half, lower_half}
use Rattle.rdb_registry.proofs.own_writes.narrowed.Goals as goal

pub returns-then-is_before-clause-between : goal.returns-then-is_before-clause-between
returns-then-is_before-clause-between c =
    let low = c.args.range.0 in
    let high = c.args.range.1 in
    let some = c.requires.some in
    let within = c.requires.between.within in
    upper_half (c.args.class, c.args.id) c.args.writes.now low high (low + (high - low) / 2) _ c.requires.ordered c.requires.between (omega arith) (omega arith)
    (slice_get-get_or c.args.writes.now (low + (high - low) / 2) _ (omega arith)) (sym c.if-is_before.ensures)

pub returns-else-is_before-clause-between : goal.returns-else-is_before-clause-between
returns-else-is_before-clause-between c =
    let low = c.args.range.0 in
    let high = c.args.range.1 in
    let some = c.requires.some in
    let within = c.requires.between.within in
    lower_half (c.args.class, c.args.id) c.args.writes.now low high (low + (high - low) / 2) _ c.requires.ordered c.requires.between (omega arith) (omega arith)
    (slice_get-get_or c.args.writes.now (low + (high - low) / 2) _ (omega arith)) (sym c.if-is_before.ensures)
