use Rattle.std.proofs.Common.{◌∙◌, arith}
use Rattle.std.specs.Int.{w32}
use Rattle.std.proofs.lemmas.Int.{ints, to_z-of_z}
use Rattle.rdb_rows.proofs.SpotLemmas.{edge_is}
use Rattle.rdb_rows.proofs.spot.next_edge.Goals as goal

pub returns : goal.returns
returns g c bytes within stand =
    let read = c.next_bytes.ensures bytes within stand in
    (to_z-of_z w32 c.read_i32.result (let small = c.read_i32.type_inv in omega (arith, ints)) ∙ c.read_i32.ensures ∙ edge_is c.next_bytes.result bytes within read.0, read.1)
