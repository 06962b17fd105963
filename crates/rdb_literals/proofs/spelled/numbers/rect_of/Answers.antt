use Rattle.std.proofs.Common.{◌≡◌, ◌∙◌, rules, arith}
use Rattle.std.proofs.lemmas.Int.{to_z-of_z}
use Rattle.rdb_literals.proofs.RectLemmas.{order_differs}
use Rattle.rdb_literals.proofs.spelled.numbers.rect_of.Goals as goal

pub returns-else-is_ordered-clause-exact : goal.returns-else-is_ordered-clause-exact
returns-else-is_ordered-clause-exact c = λ rect edges x1 y1 x2 y2.
    let e1 : c.in_ok-edge.field-0 ≡ c.args.edges.x1 = first_of (search rules, grind (arith, to_z-of_z)) in
    let e2 : c.in_ok-edge-2.field-0 ≡ c.args.edges.y1 = first_of (search rules, grind (arith, to_z-of_z)) in
    let e3 : c.in_ok-edge-3.field-0 ≡ c.args.edges.x2 = first_of (search rules, grind (arith, to_z-of_z)) in
    let e4 : c.in_ok-edge-4.field-0 ≡ c.args.edges.y2 = first_of (search rules, grind (arith, to_z-of_z)) in
    order_differs c.in_ok-edge.field-0 c.in_ok-edge-2.field-0 c.in_ok-edge-3.field-0 c.in_ok-edge-4.field-0 rect.x1 rect.y1 rect.x2 rect.y2 c.is_ordered.result (first_of (search rules, grind (arith, to_z-of_z))) c.if-is_ordered.false
    (e1 ∙ x1) (e2 ∙ y1) (e3 ∙ x2) (e4 ∙ y2) edges.1
