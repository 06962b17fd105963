use Rattle.std.proofs.Common.{◌≡◌, ◌++◌, ◌∷◌, ℕ, List, length, ap, ◌∙◌, arith}
use Rattle.rdb_rows.proofs.SpotLemmas.{has_bytes}
use Rattle.rdb_rows.proofs.LeafSpots.{words_there}
use Rattle.rdb_rows.proofs.leaves.leaf_length.Goals as goal

pub next_byte-requires : goal.next_byte-requires
next_byte-requires g c =
    let image = g.C.Cells.image c.args.cells.now in
    let text = words_there image c.args.spot c.args.ty c.requires.0 c.requires.1 c.in-Str.is in
    has_bytes image c.args.spot 1 (length text.0 ∷ (text.0 ++ c.requires.1.rest)) (omega arith) text.3

pub returns-in-Str : goal.returns-in-Str
returns-in-Str g c l begins =
    let image = g.C.Cells.image c.args.cells.now in
    let text = words_there image c.args.spot c.args.ty l begins c.in-Str.is in
    let next = c.next_byte.ensures (length text.0) (text.0 ++ begins.rest) text.3 in
    let many : c.from-in-Str.result ≡ length text.0 = c.from-in-Str.ensures ∙ next.0 in
    let long = ap (λ (xs : List ℕ). length xs) text.2 in
    omega arith
