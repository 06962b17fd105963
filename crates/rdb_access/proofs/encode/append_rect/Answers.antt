use Rattle.std.proofs.Common.{◌∙◌, rules}
use Rattle.std.proofs.lemmas.Int.{to_z-of_z}
use mir.Syntax.{w32, w128}
use mir.Val.{SFits, to_z, of_z}
use Rattle.rdb_access.proofs.Proper.{edge_holds, edges_ok}
use Rattle.rdb_access.proofs.Pairs.{rect_written}
use Rattle.rdb_access.proofs.encode.append_rect.Goals as goal

pub returns-clause-appended : goal.returns-clause-appended
returns-clause-appended c =
    let box = c.args.rect in
    let f1 : SFits w32 c.args.rect.x1 = search rules in
    let f2 : SFits w32 c.args.rect.y1 = search rules in
    let f3 : SFits w32 c.args.rect.x2 = search rules in
    let f4 : SFits w32 c.args.rect.y2 = search rules in
    let g1 : SFits w128 c.from.result = search rules in
    let g2 : SFits w128 c.from-2.result = search rules in
    let g3 : SFits w128 c.from-3.result = search rules in
    let g4 : SFits w128 c.from-4.result = search rules in
    rect_written c.append_number-4.result c.args.out.now c.append_number.new.out c.append_number-2.new.out c.append_number-3.new.out c.append_number-4.new.out box
    (to_z w128 (of_z w128 c.from.result)) (to_z w128 (of_z w128 c.from-2.result)) (to_z w128 (of_z w128 c.from-3.result)) (to_z w128 (of_z w128 c.from-4.result))
    (to_z-of_z w128 c.from.result g1 ∙ c.from.ensures ∙ to_z-of_z w32 box.x1 f1) (to_z-of_z w128 c.from-2.result g2 ∙ c.from-2.ensures ∙ to_z-of_z w32 box.y1 f2)
    (to_z-of_z w128 c.from-3.result g3 ∙ c.from-3.ensures ∙ to_z-of_z w32 box.x2 f3) (to_z-of_z w128 c.from-4.result g4 ∙ c.from-4.ensures ∙ to_z-of_z w32 box.y2 f4)
    c.in_ok-append_number.ensures c.in_ok-append_number-2.ensures c.in_ok-append_number-3.ensures c.append_number-4.ensures

pub returns-clause-proper : goal.returns-clause-proper
returns-clause-proper c =
    let f1 : SFits w32 c.args.rect.x1 = search rules in
    let f2 : SFits w32 c.args.rect.y1 = search rules in
    let f3 : SFits w32 c.args.rect.x2 = search rules in
    let f4 : SFits w32 c.args.rect.y2 = search rules in
    edges_ok c.append_number-4.result c.args.rect (edge_holds c.args.rect.x1 f1) (edge_holds c.args.rect.y1 f2) (edge_holds c.args.rect.x2 f3) (edge_holds c.args.rect.y2 f4)
