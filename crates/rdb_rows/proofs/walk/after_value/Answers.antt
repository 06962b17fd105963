use Rattle.std.proofs.Common.{◌++◌, ◌∷◌, length, sym, ◌∙◌, arith}
use Rattle.std.specs.List.{flat_map}
use Rattle.rdb_schema.specs.Encoding.{element_bytes}
use Rattle.rdb_rows.proofs.SpotLemmas.{has_bytes}
use Rattle.rdb_rows.proofs.WalkLemmas.{group_leads, vector_stand}
use Rattle.rdb_rows.proofs.walk.after_value.Goals as goal

pub next_byte-many-requires : goal.next_byte-many-requires
next_byte-many-requires g c =
    let image = g.C.Cells.image c.args.cells.now in
    let has = c.requires in
    let es = vector_stand image c.args.spot c.args.ty.now c.in-Vector.of has.value has.rest c.in-Vector.is has.fits has.stand in
    has_bytes image c.args.spot 1 (length es.0 ∷ (flat_map (element_bytes c.in-Vector.of) es.0 ++ has.rest)) (omega arith) es.2

pub after_elements-requires : goal.after_elements-requires
after_elements-requires g c =
    let image = g.C.Cells.image c.args.cells.now in
    let has = c.requires in
    let es = vector_stand image c.args.spot c.args.ty.now c.in-Vector.of has.value has.rest c.in-Vector.is has.fits has.stand in
    let next = c.next_byte-many.ensures (length es.0) (flat_map (element_bytes c.in-Vector.of) es.0 ++ has.rest) es.2 in
    record { elements = es.0; rest = has.rest; count = sym (c.from.ensures ∙ next.0); fit = es.1; stand = next.1 }

pub returns-in-Vector : goal.returns-in-Vector
returns-in-Vector g c v rest fits stand =
    let image = g.C.Cells.image c.args.cells.now in
    let es = vector_stand image c.args.spot c.args.ty.now c.in-Vector.of v rest c.in-Vector.is fits stand in
    let next = c.next_byte-many.ensures (length es.0) (flat_map (element_bytes c.in-Vector.of) es.0 ++ rest) es.2 in
    c.after_elements.ensures es.0 rest (sym (c.from.ensures ∙ next.0)) es.1 next.1

pub returns-in-Group : goal.returns-in-Group
returns-in-Group g c = group_leads (g.C.Cells.image c.args.cells.now) c.args.spot c.after_leaves.result c.args.ty.now c.in-Group.types c.in-Group.is c.after_leaves.ensures
