-- The rest stays in order.
use Rattle.std.proofs.Common.{List, sym, ap, subst, ◌∙◌, arith}
use Rattle.rdb_base.specs.Room.{Reserved}
use Rattle.rdb_registry.specs.declared.own_writes.OwnWrite.{OwnWrite}
use Rattle.rdb_registry.specs.OwnWrites.{IsPlace, IsGap, AreOrdered, header_of}
use Rattle.rdb_registry.proofs.OwnLemmas.{remove_is, cut_without, here_without, others_gone, not_found}
use Rattle.rdb_registry.proofs.own_writes.OwnWrites.remove.Goals as goal

pub invariant_of-self : goal.invariant_of-self
invariant_of-self c =
    let p = subst (λ (ws : List OwnWrite). IsPlace (c.args.class, c.args.id) ws c.in-Ok.place) c.deref.ensures.value c.in-Ok.ensures.ok in
    let items = c.remove.ensures.items ∙ remove_is c.in-Ok.place c.self.inside.writes.items in
    let room = c.self.invariant.0 in
    let limit = c.self.invariant.1 in
    (omega arith, omega arith, subst AreOrdered (sym items) (cut_without p.cut))

pub returns-in-Ok-clause-here : goal.returns-in-Ok-clause-here
returns-in-Ok-clause-here c =
    let p = subst (λ (ws : List OwnWrite). IsPlace (c.args.class, c.args.id) ws c.in-Ok.place) c.deref.ensures.value c.in-Ok.ensures.ok in
    ap (λ (ws : List OwnWrite). header_of ws (c.args.class, c.args.id)) (c.remove.ensures.items ∙ remove_is c.in-Ok.place c.self.inside.writes.items) ∙ here_without p.cut

pub returns-in-Ok-clause-others : goal.returns-in-Ok-clause-others
returns-in-Ok-clause-others c =
    let p = subst (λ (ws : List OwnWrite). IsPlace (c.args.class, c.args.id) ws c.in-Ok.place) c.deref.ensures.value c.in-Ok.ensures.ok in
    λ object ne.
    ap (λ (ws : List OwnWrite). header_of ws object) (c.remove.ensures.items ∙ remove_is c.in-Ok.place c.self.inside.writes.items)
    ∙ (sym (others_gone c.self.inside.writes.items p object ne) ∙ ap (λ (r : Reserved OwnWrite). header_of r.items object) c.self.view_is)

pub returns-in-Err-clause-here : goal.returns-in-Err-clause-here
returns-in-Err-clause-here c =
    let g = subst (λ (ws : List OwnWrite). IsGap (c.args.class, c.args.id) ws c.in-Err.field-0) c.deref.ensures.value c.in-Err.ensures.err in
    ap (λ (r : Reserved OwnWrite). header_of r.items (c.args.class, c.args.id)) (sym c.self.view_is) ∙ not_found c.self.inside.writes.items g
