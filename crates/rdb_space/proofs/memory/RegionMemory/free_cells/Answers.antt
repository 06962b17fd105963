use Rattle.std.proofs.Common.{ℕ, sym, subst}
use Rattle.rdb_space.specs.Memory.{RegionCells, image_of, class_of, HasFree}
use Rattle.rdb_space.proofs.FreeCells.{has_free}
use Rattle.rdb_space.proofs.ImageLemmas.{now}
use Rattle.rdb_space.proofs.memory.RegionMemory.free_cells.Goals as goal

pub returns : goal.returns
returns g c =
    let s = c.self.inside in
    let held = g.P.Pages.held s.pages in
    let m = now held s.space s.heads c.self.invariant in
    subst (λ (m : RegionCells). HasFree (image_of m) (class_of m) c.args.class c.free_cells.result) c.self.view_is
    (subst (λ (k : ℕ). HasFree (image_of m) (class_of m) c.args.class k) (sym c.free_cells.ensures.free)
    (has_free held s.space s.heads c.self.invariant c.args.class c.bounded.ensures))
