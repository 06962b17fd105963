use Rattle.std.proofs.Common.{◌≡◌, ◌<◌, ◌+◌, ◌++◌, take, drop, set, length-set, get_or, length-append, length-drop, refl, subst, ◌∙◌, arith}
use Rattle.std.proofs.lemmas.List.{drop_more}
use Rattle.rdb_rows.specs.Spots.{Stand}
use Rattle.rdb_rows.proofs.SpotLemmas.{has_bytes, bytes_more}
use Rattle.rdb_rows.proofs.spot.next_bytes.Goals as goal

pub next_byte-requires : goal.next_byte-requires
next_byte-requires g c =
    let has = c.requires.bytes in
    let both = length-append has.bytes has.rest in
    let long = has.long in
    let left = length-drop c.loop-at.at (has.bytes ++ has.rest) in
    let before : c.loop-at.at < c.args.many = c.loop-at-test.true in
    has_bytes (g.C.Cells.image c.args.cells.now) c.loop-at.spot 1 (drop c.loop-at.at (has.bytes ++ has.rest)) (omega arith)
    (c.loop-at.invariant.1 (has.bytes ++ has.rest) (omega arith) has.stand).1

pub loop-at-preserved : goal.loop-at-preserved
loop-at-preserved g c = (
  length-set c.loop-at.bytes c.loop-at.at c.next_byte.result ∙ c.loop-at.invariant.0,
  λ bytes within stand.
      let image = g.C.Cells.image c.args.cells.now in
      let before : c.loop-at.at < c.args.many = c.loop-at-test.true in
      let so_far = c.loop-at.invariant.1 bytes within stand in
      let byte = get_or bytes c.loop-at.at 0 in
      let more = drop_more bytes c.loop-at.at 0 (omega arith) in
      let next = c.next_byte.ensures byte (drop (c.loop-at.at + 1) bytes) (subst (Stand image c.loop-at.spot) more so_far.1) in
      let whole = c.loop-at.invariant.0 in
      let most = c.requires.many in
      let test : take (c.loop-at.at + 1) (set c.loop-at.bytes c.loop-at.at c.next_byte.result) ≡ take (c.loop-at.at + 1) bytes =
      bytes_more bytes c.loop-at.bytes (set c.loop-at.bytes c.loop-at.at c.next_byte.result) c.loop-at.at c.next_byte.result (omega arith) (omega arith) so_far.0 refl next.0 in
      (test, next.1),
)
