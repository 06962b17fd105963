use Rattle.std.proofs.Common.{◌-◌, ◌++◌, length-append, arith}
use Rattle.rdb_rows.specs.declared.spot.Spot.{Spot}
use Rattle.rdb_rows.proofs.Puttings.{a_cell}
use Rattle.rdb_rows.proofs.SpotLemmas.{has_cell, settle_stand}
use Rattle.rdb_rows.proofs.spot.settle.Goals as goal

pub read-cell-requires : goal.read-cell-requires
read-cell-requires g c =
    let has = c.requires in
    let both = length-append has.bytes has.rest in
    let long = has.long in
    let there = has_cell (g.C.Cells.image c.args.cells.now) c.loop-settled.settled (has.bytes ++ has.rest) (omega arith) (c.loop-settled.invariant (has.bytes ++ has.rest) (omega arith) has.stand) in
    a_cell _ _ there.here

pub loop-settled-preserved : goal.loop-settled-preserved
loop-settled-preserved g c bytes some stand =
    let spot = c.loop-settled.settled in
    let next : Spot = record { cell = c.next_in.result; place = spot.place - 60 } in
    settle_stand (g.C.Cells.image c.args.cells.now) spot next c.read-cell.result.now bytes some c.loop-settled-test.true c.read-cell.ensures c.is_whole.ensures
    (λ i. record { cell = c.next_in.ensures i; place = spot.place - 60 })
    (c.loop-settled.invariant bytes some stand)
