-- An object is written again in its place, or is new between those before it and those behind it.
use Rattle.std.proofs.Common.{◌≡◌, ◌≤◌, length, List, Some, insert, refl, sym, ap, subst, ◌∙◌, arith}
use Rattle.std.proofs.lemmas.List.Edits.{length-insert}
use Rattle.rdb_base.specs.Room.{Reserved}
use Rattle.rdb_registry.specs.declared.own_writes.OwnWrite.{OwnWrite}
use Rattle.rdb_registry.specs.OwnWrites.{IsPlace, IsGap, AreOrdered, header_of}
use Rattle.rdb_registry.proofs.OwnLemmas.{set_ordered, set_here, set_others, cut_with, here_with, not_found, others_come}
use Rattle.rdb_registry.proofs.own_writes.OwnWrites.put.Goals as goal

pub invariant_of-self : goal.invariant_of-self
invariant_of-self c =
    let p = subst (λ (ws : List OwnWrite). IsPlace (c.args.class, c.args.id) ws c.in-Ok.place) c.deref.ensures.value c.in-Ok.ensures.ok in
    (c.self.invariant.0, c.self.invariant.1, set_ordered c.self.inside.writes.items p _ refl)

pub returns-in-Ok-clause-here : goal.returns-in-Ok-clause-here
returns-in-Ok-clause-here c =
    let p = subst (λ (ws : List OwnWrite). IsPlace (c.args.class, c.args.id) ws c.in-Ok.place) c.deref.ensures.value c.in-Ok.ensures.ok in
    set_here c.self.inside.writes.items p _ refl

pub returns-in-Ok-clause-others : goal.returns-in-Ok-clause-others
returns-in-Ok-clause-others c =
    let p = subst (λ (ws : List OwnWrite). IsPlace (c.args.class, c.args.id) ws c.in-Ok.place) c.deref.ensures.value c.in-Ok.ensures.ok in
    λ object ne. set_others c.self.inside.writes.items p _ refl object ne ∙ ap (λ (r : Reserved OwnWrite). header_of r.items object) c.self.view_is

pub insert-requires-clause-room : goal.insert-requires-clause-room
insert-requires-clause-room c =
    let g = subst (λ (ws : List OwnWrite). IsGap (c.args.class, c.args.id) ws c.in-Err.place) c.deref.ensures.value c.in-Err.ensures.err in
    c.requires (ap (λ (r : Reserved OwnWrite). header_of r.items (c.args.class, c.args.id)) (sym c.self.view_is) ∙ not_found c.self.inside.writes.items g)

pub insert-requires-clause-ordered : goal.insert-requires-clause-ordered
insert-requires-clause-ordered c =
    let g = subst (λ (ws : List OwnWrite). IsGap (c.args.class, c.args.id) ws c.in-Err.place) c.deref.ensures.value c.in-Err.ensures.err in
    let write : OwnWrite = record { class = c.args.class; id = c.args.id; header = c.args.header } in
    subst (λ (r : Reserved OwnWrite). AreOrdered (insert r.items c.in-Err.place write)) c.self.view_is (cut_with g.cut write refl)

pub returns-in-Err-clause-here : goal.returns-in-Err-clause-here
returns-in-Err-clause-here c =
    let g = subst (λ (ws : List OwnWrite). IsGap (c.args.class, c.args.id) ws c.in-Err.place) c.deref.ensures.value c.in-Err.ensures.err in
    let write : OwnWrite = record { class = c.args.class; id = c.args.id; header = c.args.header } in
    ap (λ (r : Reserved OwnWrite). header_of r.items (c.args.class, c.args.id)) c.insert.ensures
    ∙ subst (λ (r : Reserved OwnWrite). header_of (insert r.items c.in-Err.place write) (c.args.class, c.args.id) ≡ Some c.args.header) c.self.view_is (here_with g.cut write refl)

pub returns-in-Err-clause-others : goal.returns-in-Err-clause-others
returns-in-Err-clause-others c =
    let g = subst (λ (ws : List OwnWrite). IsGap (c.args.class, c.args.id) ws c.in-Err.place) c.deref.ensures.value c.in-Err.ensures.err in
    let write : OwnWrite = record { class = c.args.class; id = c.args.id; header = c.args.header } in
    λ object ne.
    ap (λ (r : Reserved OwnWrite). header_of r.items object) c.insert.ensures
    ∙ subst (λ (r : Reserved OwnWrite). header_of (insert r.items c.in-Err.place write) object ≡ header_of r.items object) c.self.view_is
    (others_come c.self.inside.writes.items g write refl object ne)

pub returns-in-Err-clause-room : goal.returns-in-Err-clause-room
returns-in-Err-clause-room c =
    let g = subst (λ (ws : List OwnWrite). IsGap (c.args.class, c.args.id) ws c.in-Err.place) c.deref.ensures.value c.in-Err.ensures.err in
    let some = c.requires (ap (λ (r : Reserved OwnWrite). header_of r.items (c.args.class, c.args.id)) (sym c.self.view_is) ∙ not_found c.self.inside.writes.items g) in
    let le : c.in-Err.place ≤ length c.args.self.now.items = subst (λ (r : Reserved OwnWrite). c.in-Err.place ≤ length r.items) c.self.view_is g.within in
    let write : OwnWrite = record { class = c.args.class; id = c.args.id; header = c.args.header } in
    let n = length-insert c.args.self.now.items c.in-Err.place write le in
    rw c.insert.ensures (omega (arith, n, some))
