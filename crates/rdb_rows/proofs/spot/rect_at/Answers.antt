use Rattle.std.proofs.Common.{◌≡◌, ◌++◌, drop, length-append, length-drop, ap, ◌∙◌, arith}
use Rattle.std.specs.Int.{w32}
use Rattle.std.proofs.lemmas.Int.{ints, to_z-of_z}
use Rattle.std.proofs.lemmas.List.{drop-drop}
use Rattle.rdb_access.specs.Read.{edge_from}
use Rattle.rdb_rows.proofs.SpotLemmas.{has_bytes, fewer_bytes}
use Rattle.rdb_rows.proofs.spot.rect_at.Goals as goal

pub next_edge-x1-requires : goal.next_edge-x1-requires
next_edge-x1-requires g c = fewer_bytes (g.C.Cells.image c.args.cells.now) c.args.spot 4 16 (omega arith) c.requires

pub next_edge-y1-requires : goal.next_edge-y1-requires
next_edge-y1-requires g c =
    let has = c.requires in
    let xs = has.bytes ++ has.rest in
    let both = length-append has.bytes has.rest in
    let long = has.long in
    let one = length-drop 4 xs in
    has_bytes (g.C.Cells.image c.args.cells.now) c.next_edge-x1.new.spot 4 (drop 4 xs) (omega arith) (c.next_edge-x1.ensures xs (omega arith) has.stand).1

pub next_edge-x2-requires : goal.next_edge-x2-requires
next_edge-x2-requires g c =
    let has = c.requires in
    let xs = has.bytes ++ has.rest in
    let both = length-append has.bytes has.rest in
    let long = has.long in
    let one = length-drop 4 xs in
    let two = length-drop 4 (drop 4 xs) in
    let first = c.next_edge-x1.ensures xs (omega arith) has.stand in
    let second = c.next_edge-y1.ensures (drop 4 xs) (omega arith) first.1 in
    has_bytes (g.C.Cells.image c.args.cells.now) c.next_edge-y1.new.spot 4 (drop 4 (drop 4 xs)) (omega arith) second.1

pub next_edge-y2-requires : goal.next_edge-y2-requires
next_edge-y2-requires g c =
    let has = c.requires in
    let xs = has.bytes ++ has.rest in
    let both = length-append has.bytes has.rest in
    let long = has.long in
    let one = length-drop 4 xs in
    let two = length-drop 4 (drop 4 xs) in
    let three = length-drop 4 (drop 4 (drop 4 xs)) in
    let first = c.next_edge-x1.ensures xs (omega arith) has.stand in
    let second = c.next_edge-y1.ensures (drop 4 xs) (omega arith) first.1 in
    let third = c.next_edge-x2.ensures (drop 4 (drop 4 xs)) (omega arith) second.1 in
    has_bytes (g.C.Cells.image c.args.cells.now) c.next_edge-x2.new.spot 4 (drop 4 (drop 4 (drop 4 xs))) (omega arith) third.1

pub returns : goal.returns
returns g c bytes within stand =
    let one = length-drop 4 bytes in
    let two = length-drop 4 (drop 4 bytes) in
    let three = length-drop 4 (drop 4 (drop 4 bytes)) in
    let first = c.next_edge-x1.ensures bytes (omega arith) stand in
    let second = c.next_edge-y1.ensures (drop 4 bytes) (omega arith) first.1 in
    let third = c.next_edge-x2.ensures (drop 4 (drop 4 bytes)) (omega arith) second.1 in
    let fourth = c.next_edge-y2.ensures (drop 4 (drop 4 (drop 4 bytes))) (omega arith) third.1 in
    let eight : drop 4 (drop 4 bytes) ≡ drop 8 bytes = drop-drop 4 4 bytes in
    let twelve : drop 4 (drop 4 (drop 4 bytes)) ≡ drop 12 bytes = ap (drop 4) eight ∙ drop-drop 4 8 bytes in
    let x1 = to_z-of_z w32 c.next_edge-x1.result (let small = c.next_edge-x1.type_inv in omega (arith, ints)) ∙ first.0 in
    let y1 = to_z-of_z w32 c.next_edge-y1.result (let small = c.next_edge-y1.type_inv in omega (arith, ints)) ∙ second.0 in
    let x2 = to_z-of_z w32 c.next_edge-x2.result (let small = c.next_edge-x2.type_inv in omega (arith, ints)) ∙ third.0 ∙ ap edge_from eight in
    let y2 = to_z-of_z w32 c.next_edge-y2.result (let small = c.next_edge-y2.type_inv in omega (arith, ints)) ∙ fourth.0 ∙ ap edge_from twelve in
    λ i. record { x1 = x1 i; y1 = y1 i; x2 = x2 i; y2 = y2 i }
