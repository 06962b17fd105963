use Rattle.std.proofs.Common.{arith}
use Rattle.rdb_rows.proofs.SpotLemmas.{sixty}
use Rattle.rdb_rows.proofs.spot.is_whole.Goals as goal

pub returns : goal.returns
returns c = sixty c.args.cell.now (omega arith)
