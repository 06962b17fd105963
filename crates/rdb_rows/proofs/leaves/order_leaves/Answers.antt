use Rattle.std.proofs.Common.{◌∙◌, sym, ap₂, arith}
use Rattle.std.specs.Int.{w128}
use Rattle.std.specs.Ordering.{int_cmp}
use Rattle.std.proofs.lemmas.Int.{ints, to_z-of_z}
use Rattle.rdb_base.specs.Order.{leaf_order, rect_order}
use Rattle.rdb_rows.proofs.SpotLemmas.{has_bytes}
use Rattle.rdb_rows.proofs.LeafSpots.{number_room, number_there, rect_room, rect_there, words_there}
use Rattle.rdb_rows.proofs.leaves.order_leaves.Goals as goal

pub next_number-second-requires-clause-bytes : goal.next_number-second-requires-clause-bytes
next_number-second-requires-clause-bytes g c =
    let image = g.C.Cells.image c.args.cells.now in
    let begins = c.requires.b.1 in
    has_bytes image c.args.b c.in-Num.bytes begins.bytes (number_room image c.args.b c.args.ty c.requires.b.0 begins c.in-Num.bytes c.in-Num.signed c.in-Num.is) begins.stand

pub rect_at-first-requires : goal.rect_at-first-requires
rect_at-first-requires g c =
    let image = g.C.Cells.image c.args.cells.now in
    let begins = c.requires.a.1 in
    has_bytes image c.args.a 16 begins.bytes (rect_room image c.args.a c.args.ty c.requires.a.0 begins c.in-Box4.is) begins.stand

pub rect_at-second-requires : goal.rect_at-second-requires
rect_at-second-requires g c =
    let image = g.C.Cells.image c.args.cells.now in
    let begins = c.requires.b.1 in
    has_bytes image c.args.b 16 begins.bytes (rect_room image c.args.b c.args.ty c.requires.b.0 begins c.in-Box4.is) begins.stand

pub returns-in-Num : goal.returns-in-Num
returns-in-Num g c l first m second =
    let image = g.C.Cells.image c.args.cells.now in
    let is = c.in-Num.is in
    let bytes = c.in-Num.bytes in
    let signed = c.in-Num.signed in
    let left = number_there image c.args.a c.args.ty l first bytes signed is in
    let right = number_there image c.args.b c.args.ty m second bytes signed is in
    let read = c.next_number-first.ensures first.bytes (number_room image c.args.a c.args.ty l first bytes signed is) first.stand in
    let other = c.next_number-second.ensures second.bytes (number_room image c.args.b c.args.ty m second bytes signed is) second.stand in
    c.cmp.ensures
    ∙ ap₂ int_cmp (to_z-of_z w128 c.next_number-first.result (let small = c.next_number-first.type_inv in omega (arith, ints)) ∙ read.0)
    (to_z-of_z w128 c.next_number-second.result (let small = c.next_number-second.type_inv in omega (arith, ints)) ∙ other.0)
    ∙ sym (ap₂ leaf_order left right)

pub returns-in-Str : goal.returns-in-Str
returns-in-Str g c l first m second =
    let image = g.C.Cells.image c.args.cells.now in
    let left = words_there image c.args.a c.args.ty l first c.in-Str.is in
    let right = words_there image c.args.b c.args.ty m second c.in-Str.is in
    c.order_texts.ensures left.0 first.rest left.3 right.0 second.rest right.3 ∙ sym (ap₂ leaf_order left.1 right.1)

pub returns-in-Box4 : goal.returns-in-Box4
returns-in-Box4 g c l first m second =
    let image = g.C.Cells.image c.args.cells.now in
    let left = rect_there image c.args.a c.args.ty l first c.in-Box4.is in
    let right = rect_there image c.args.b c.args.ty m second c.in-Box4.is in
    let read = c.rect_at-first.ensures first.bytes (rect_room image c.args.a c.args.ty l first c.in-Box4.is) first.stand in
    let other = c.rect_at-second.ensures second.bytes (rect_room image c.args.b c.args.ty m second c.in-Box4.is) second.stand in
    c.cmp-in-Box4.ensures ∙ ap₂ rect_order read other ∙ sym (ap₂ leaf_order left right)
