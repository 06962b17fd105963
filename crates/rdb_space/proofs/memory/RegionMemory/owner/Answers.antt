use Rattle.std.proofs.Common.{◌≡◌, is_some, subst}
use Rattle.rdb_pages.specs.Pages.{cells_of}
use Rattle.rdb_space.specs.Memory.{RegionCells}
use Rattle.rdb_space.proofs.ImageLemmas.{claimed_as_owned}
use Rattle.rdb_space.proofs.memory.RegionMemory.owner.Goals as goal

pub returns-clause-claimed : goal.returns-clause-claimed
returns-clause-claimed g c =
    let s = c.self.inside in
    subst (λ (m : RegionCells). is_some (cells_of m.pages c.args.page) ≡ is_some c.owner.result) c.self.view_is
    (claimed_as_owned (g.P.Pages.held s.pages) s.space s.heads c.self.invariant c.args.page c.owner.result c.owner.ensures)
