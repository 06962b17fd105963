use Rattle.std.proofs.Common.{ℕ, sym, subst}
use Rattle.rdb_space.specs.Memory.{RegionCells, image_of, class_of, IsRoom}
use Rattle.rdb_space.proofs.FreeCells.{is_room}
use Rattle.rdb_space.proofs.ImageLemmas.{now}
use Rattle.rdb_space.proofs.memory.RegionMemory.room.Goals as goal

pub returns : goal.returns
returns g c =
    let s = c.self.inside in
    let held = g.P.Pages.held s.pages in
    let m = now held s.space s.heads c.self.invariant in
    subst (λ (m : RegionCells). IsRoom (image_of m) (class_of m) m.owners c.args.class c.room.result) c.self.view_is
    (subst (λ (k : ℕ). IsRoom (image_of m) (class_of m) m.owners c.args.class k) (sym c.room.ensures)
    (is_room held s.space s.heads c.self.invariant c.args.class c.bounded.ensures))
