use Rattle.std.proofs.Common.{subst}
use Rattle.rdb_cells.specs.Images.{AreBounded}
use Rattle.rdb_space.specs.Memory.{RegionCells, image_of, class_of}
use Rattle.rdb_space.proofs.ImageLemmas.{are_bounded}
use Rattle.rdb_space.proofs.memory.RegionMemoryCells.bounded.Goals as goal

pub returns : goal.returns
returns g c =
    let s = c.self.inside in
    subst (λ (m : RegionCells). AreBounded (image_of m) (class_of m)) c.self.view_is (are_bounded (g.P.Pages.held s.pages) s.space s.heads c.self.invariant)
