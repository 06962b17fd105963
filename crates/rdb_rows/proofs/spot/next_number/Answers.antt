use Rattle.std.proofs.Common.{◌∙◌, arith}
use Rattle.std.specs.Int.{w64, w128}
use Rattle.std.proofs.lemmas.Int.{ints, to_z-of_z}
use Rattle.rdb_rows.proofs.SpotLemmas.{signed_is, unsigned_is}
use Rattle.rdb_rows.proofs.spot.next_number.Goals as goal

pub returns-then-signed : goal.returns-then-signed
returns-then-signed g c bytes within stand =
    let same = c.from-width.ensures in
    let width = c.requires.width in
    let read = c.next_bytes-bytes.ensures bytes (omega arith) stand in
    rw (← same) (
      to_z-of_z w128 c.from.result (omega (arith, ints)) ∙ c.from.ensures ∙ to_z-of_z w64 c.read_int.result (let small = c.read_int.type_inv in omega (arith, ints))
          ∙ signed_is c.from-width.result c.read_int.result c.args.signed c.next_bytes-bytes.result bytes c.if-signed.true c.read_int.ensures (omega arith) (omega arith) (omega arith) read.0,
      read.1,
    )

pub returns-else-signed : goal.returns-else-signed
returns-else-signed g c bytes within stand =
    let same = c.from-width.ensures in
    let width = c.requires.width in
    let read = c.next_bytes-bytes.ensures bytes (omega arith) stand in
    rw (← same) (
      to_z-of_z w128 c.from-else-signed.result (omega (arith, ints)) ∙ c.from-else-signed.ensures
          ∙ unsigned_is c.from-width.result c.read_uint.result c.args.signed c.next_bytes-bytes.result bytes c.if-signed.false c.read_uint.ensures (omega arith) (omega arith) (omega arith) read.0,
      read.1,
    )
