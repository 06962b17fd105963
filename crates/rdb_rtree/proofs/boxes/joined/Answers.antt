use Rattle.std.proofs.Common.{◌∷◌, [], subst, rules}
use Rattle.std.specs.Int.{w32}
use Rattle.std.specs.Prelude.{FitsSigned}
use Rattle.rdb_base.specs.declared.value.Rect.{Rect}
use Rattle.rdb_rtree.specs.Boxes.{IsLeastCover}
use Rattle.rdb_rtree.proofs.BoxLemmas.{joined_covers, min_read, max_read}
use Rattle.rdb_rtree.proofs.boxes.joined.Goals as goal

pub returns : goal.returns
returns c =
    let a1 : FitsSigned w32 c.args.a.now.x1 = search rules in
    let a2 : FitsSigned w32 c.args.a.now.y1 = search rules in
    let a3 : FitsSigned w32 c.args.a.now.x2 = search rules in
    let a4 : FitsSigned w32 c.args.a.now.y2 = search rules in
    let b1 : FitsSigned w32 c.args.b.now.x1 = search rules in
    let b2 : FitsSigned w32 c.args.b.now.y1 = search rules in
    let b3 : FitsSigned w32 c.args.b.now.x2 = search rules in
    let b4 : FitsSigned w32 c.args.b.now.y2 = search rules in
    let x1 = min_read c.args.a.now.x1 c.args.b.now.x1 c.min.result a1 b1 (record { sfits = c.min.type_inv }) c.min.ensures.value in
    let y1 = min_read c.args.a.now.y1 c.args.b.now.y1 c.min-2.result a2 b2 (record { sfits = c.min-2.type_inv }) c.min-2.ensures.value in
    let x2 = max_read c.args.a.now.x2 c.args.b.now.x2 c.max.result a3 b3 (record { sfits = c.max.type_inv }) c.max.ensures.value in
    let y2 = max_read c.args.a.now.y2 c.args.b.now.y2 c.max-2.result a4 b4 (record { sfits = c.max-2.type_inv }) c.max-2.ensures.value in
    subst (λ (r : Rect). IsLeastCover (c.args.a.now ∷ c.args.b.now ∷ []) r) (λ i. record { x1 = x1 i; y1 = y1 i; x2 = x2 i; y2 = y2 i }) (joined_covers c.args.a.now c.args.b.now)
