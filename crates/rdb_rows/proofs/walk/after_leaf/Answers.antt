use Rattle.std.proofs.Common.{◌++◌, ◌∷◌, length, refl, sym, ◌∙◌, arith}
use Rattle.rdb_schema.specs.Encoding.{leaf_bytes}
use Rattle.rdb_rows.proofs.SpotLemmas.{has_bytes}
use Rattle.rdb_rows.proofs.WalkLemmas.{skip_front, room_for, text_stand, number_length}
use Rattle.rdb_rows.proofs.walk.after_leaf.Goals as goal

pub next_byte-many-requires : goal.next_byte-many-requires
next_byte-many-requires g c =
    let image = g.C.Cells.image c.args.cells.now in
    let text = text_stand image c.args.spot c.args.ty c.requires.value c.requires.rest c.in-Str.is c.requires.fits c.requires.stand in
    has_bytes image c.args.spot 1 (length text.0 ∷ (text.0 ++ c.requires.rest)) (omega arith) text.1

pub skip-requires-in-Str : goal.skip-requires-in-Str
skip-requires-in-Str g c =
    let image = g.C.Cells.image c.args.cells.now in
    let text = text_stand image c.args.spot c.args.ty c.requires.value c.requires.rest c.in-Str.is c.requires.fits c.requires.stand in
    let next = c.next_byte-many.ensures (length text.0) (text.0 ++ c.requires.rest) text.1 in
    let room = room_for image c.next_byte-many.new.spot (length text.0) text.0 c.requires.rest refl next.1 in
    let many = next.0 in
    let same = c.from-in-Str.ensures in
    omega arith

pub returns-in-Num : goal.returns-in-Num
returns-in-Num g c l rest holds stand =
    let image = g.C.Cells.image c.args.cells.now in
    let same = c.from.ensures in
    let long = number_length c.args.ty c.in-Num.bytes c.in-Num.signed l c.in-Num.is holds in
    skip_front image c.args.spot c.skip.result c.from.result (leaf_bytes c.args.ty l) rest (long ∙ sym same) (c.skip.ensures.stand image) stand
