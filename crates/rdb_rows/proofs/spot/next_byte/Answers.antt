use Rattle.std.proofs.Common.{◌++◌, ◌∷◌, length-append, ◌∙◌, arith}
use Rattle.rdb_rows.proofs.Puttings.{a_cell}
use Rattle.rdb_rows.proofs.SpotLemmas.{has_cell, byte_stand}
use Rattle.rdb_rows.proofs.spot.next_byte.Goals as goal

pub read-cell-requires : goal.read-cell-requires
read-cell-requires g c =
    let has = c.requires in
    let both = length-append has.bytes has.rest in
    let long = has.long in
    let there = has_cell (g.C.Cells.image c.args.cells.now) c.settle-settled.result (has.bytes ++ has.rest) (omega arith) (c.settle-settled.ensures.stand (has.bytes ++ has.rest) (omega arith) has.stand) in
    a_cell _ _ there.here

pub returns : goal.returns
returns g c byte rest stand =
    let image = g.C.Cells.image c.args.cells.now in
    let settled = c.settle-settled.ensures.stand (byte ∷ rest) (omega arith) stand in (
      c.byte_in-byte.ensures ∙ byte_stand image c.settle-settled.result c.read-cell.result.now byte rest c.settle-settled.ensures.within c.read-cell.ensures c.is_whole.ensures settled,
      c.skip.ensures.stand image (byte ∷ rest) (omega arith) settled,
    )
