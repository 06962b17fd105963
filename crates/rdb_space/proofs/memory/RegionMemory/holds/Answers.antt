use Rattle.std.proofs.Common.{◌≡◌, ℕ, Option, is_some, ap, subst, ◌∙◌}
use Rattle.rdb_space.specs.Memory.{RegionCells, image_of, class_of}
use Rattle.rdb_space.proofs.ImageLemmas.{class_there}
use Rattle.rdb_space.proofs.memory.RegionMemory.holds.Goals as goal

pub returns : goal.returns
returns g c =
    let s = c.self.inside in
    c.is_some.ensures ∙ ap (λ (o : Option ℕ). is_some o) c.class_at.ensures
    ∙ subst (λ (m : RegionCells). is_some (class_of m c.args.at.number) ≡ is_some (image_of m c.args.at.number)) c.self.view_is
    (class_there (g.P.Pages.held s.pages) s.space s.heads c.self.invariant c.args.at.number)
