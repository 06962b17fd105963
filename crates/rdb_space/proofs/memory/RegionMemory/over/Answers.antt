use Rattle.std.proofs.Common.{ℕ, None, map, replicate, ap, ◌∙◌}
use Rattle.rdb_space.specs.declared.page.PageState.{PageState}
use Rattle.rdb_space.specs.Space.{PageTable}
use Rattle.rdb_space.proofs.GrantLemmas.{map_unowned}
use Rattle.rdb_space.proofs.memory.RegionMemory.over.Goals as goal

pub returns : goal.returns
returns g c =
    let owners = ap (λ (t : PageTable). map (λ (p : PageState). p.owner) t.pages) c.in_ok-space.ensures ∙ map_unowned c.pages.result ∙ ap (λ (n : ℕ). replicate n None) c.pages.ensures.count in
    let heads = c.in_ok-heads.ensures in
    λ i. record { pages = g.P.Pages.held c.args.pages; owners = owners i; heads = heads i }
