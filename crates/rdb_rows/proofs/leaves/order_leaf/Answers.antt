use Rattle.std.proofs.Common.{◌∙◌, sym, ap, ap₂, arith}
use Rattle.std.specs.Prelude.{ℤ}
use Rattle.std.specs.Int.{w128}
use Rattle.std.specs.Ordering.{int_cmp}
use Rattle.std.proofs.lemmas.Int.{ints, to_z-of_z}
use Rattle.rdb_base.specs.declared.value.Rect.{Rect}
use Rattle.rdb_base.specs.Order.{leaf_order, rect_order}
use Rattle.rdb_rows.proofs.SpotLemmas.{has_bytes}
use Rattle.rdb_rows.proofs.LeafSpots.{number_room, number_there, rect_room, rect_there}
use Rattle.rdb_rows.proofs.leaves.order_leaf.Goals as goal

pub rect_at-requires : goal.rect_at-requires
rect_at-requires g c =
    let image = g.C.Cells.image c.args.cells.now in
    let begins = c.requires.leaf.1 in
    has_bytes image c.args.spot 16 begins.bytes (rect_room image c.args.spot c.args.ty c.requires.leaf.0 begins c.in-Box4-Rect.is-0) begins.stand

pub returns-in-Num-Num : goal.returns-in-Num-Num
returns-in-Num-Num g c l begins =
    let image = g.C.Cells.image c.args.cells.now in
    let ty_is = c.in-Num-Num.is-0 in
    let there = number_there image c.args.spot c.args.ty l begins c.in-Num-Num.bytes c.in-Num-Num.signed ty_is in
    let read = c.next_number.ensures begins.bytes (number_room image c.args.spot c.args.ty l begins c.in-Num-Num.bytes c.in-Num-Num.signed ty_is) begins.stand in
    c.cmp.ensures
    ∙ ap (λ (z : ℤ). int_cmp z c.in-Num-Num.number) (to_z-of_z w128 c.next_number.result (let small = c.next_number.type_inv in omega (arith, ints)) ∙ read.0)
    ∙ sym (ap₂ leaf_order there c.in-Num-Num.is-1)

pub returns-in-Box4-Rect : goal.returns-in-Box4-Rect
returns-in-Box4-Rect g c l begins =
    let image = g.C.Cells.image c.args.cells.now in
    let there = rect_there image c.args.spot c.args.ty l begins c.in-Box4-Rect.is-0 in
    let read = c.rect_at.ensures begins.bytes (rect_room image c.args.spot c.args.ty l begins c.in-Box4-Rect.is-0) begins.stand in
    c.cmp-in-Box4-Rect.ensures ∙ ap (λ (r : Rect). rect_order r c.in-Box4-Rect.rect) read ∙ sym (ap₂ leaf_order there c.in-Box4-Rect.is-1)
