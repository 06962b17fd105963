use Rattle.std.proofs.Common.{IfSome, IfNone, subst}
use Rattle.rdb_space.specs.Memory.{RegionCells, IsLowestWithout, AllHaveOwners}
use Rattle.rdb_space.specs.Space.{IsLowestUnowned, AllOwned}
use Rattle.rdb_space.proofs.GrantLemmas.{lowest_without, all_have_owners}
use Rattle.rdb_space.proofs.ImageLemmas.{now}
use Rattle.rdb_space.proofs.SpaceLemmas.{if_found, if_missing}
use Rattle.rdb_space.proofs.memory.RegionMemory.lowest.Goals as goal

pub returns-clause-found : goal.returns-clause-found
returns-clause-found g c =
    let s = c.self.inside in
    let held = g.P.Pages.held s.pages in
    let kept = c.self.invariant in
    subst (λ (m : RegionCells). IfSome c.lowest.result (IsLowestWithout m.owners)) c.self.view_is
    (if_found (IsLowestUnowned s.space.pages) (IsLowestWithout (now held s.space s.heads kept).owners) c.lowest.result
    (λ page lowest. lowest_without held s.space s.heads kept page lowest) c.lowest.ensures.found)

pub returns-clause-none : goal.returns-clause-none
returns-clause-none g c =
    let s = c.self.inside in
    let held = g.P.Pages.held s.pages in
    let kept = c.self.invariant in
    subst (λ (m : RegionCells). IfNone c.lowest.result (AllHaveOwners m.owners)) c.self.view_is
    (if_missing (AllOwned s.space.pages) (AllHaveOwners (now held s.space s.heads kept).owners) c.lowest.result
    (λ all. all_have_owners held s.space s.heads kept all) c.lowest.ensures.none)
