-- A row that holds is short, so nothing stands still at its end.
use Rattle.std.proofs.Common.{arith}
use Rattle.rdb_schema.proofs.SmallLemmas.{row_small}
use Rattle.rdb_schema.proofs.lengths.length.Goals as goal

pub returns : goal.returns
returns c =
    let small = row_small c.args.schema.now c.requires.schema c.args.class c.args.row.now c.requires.holds in
    omega (arith, small, c.capped_length.ensures)
