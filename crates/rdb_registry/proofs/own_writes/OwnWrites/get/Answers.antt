-- The object is at its place, or nowhere.
use Rattle.std.proofs.Common.{List, Some, sym, ap, subst, ◌∙◌}
use Rattle.std.proofs.lemmas.Option.{get_or_from_slice_get}
use Rattle.rdb_base.specs.Room.{Reserved}
use Rattle.rdb_registry.specs.declared.own_writes.OwnWrite.{OwnWrite}
use Rattle.rdb_registry.specs.OwnWrites.{IsPlace, IsGap, header_of}
use Rattle.rdb_registry.proofs.OwnLemmas.{found_at_place, not_found}
use Rattle.rdb_registry.proofs.own_writes.OwnWrites.get.Goals as goal

pub returns-in-Ok : goal.returns-in-Ok
returns-in-Ok c =
    let p = subst (λ (ws : List OwnWrite). IsPlace (c.args.class, c.args.id) ws c.in-Ok.place) c.deref.ensures.value c.in-Ok.ensures.ok in
    let write = c.index.ensures ∙ get_or_from_slice_get c.self.inside.writes.items c.in-Ok.place p.write c.index.result.now p.at in
    ap (λ (w : OwnWrite). Some w.header) write ∙ (sym (found_at_place c.self.inside.writes.items p) ∙ ap (λ (r : Reserved OwnWrite). header_of r.items (c.args.class, c.args.id)) c.self.view_is)

pub returns-in-Err : goal.returns-in-Err
returns-in-Err c =
    let g = subst (λ (ws : List OwnWrite). IsGap (c.args.class, c.args.id) ws c.in-Err.field-0) c.deref.ensures.value c.in-Err.ensures.err in
    sym (not_found c.self.inside.writes.items g) ∙ ap (λ (r : Reserved OwnWrite). header_of r.items (c.args.class, c.args.id)) c.self.view_is
