use Rattle.std.proofs.Common.{ℕ, List, Option, Some, map, set, sym, ap, subst, ◌∙◌}
use Rattle.rdb_pages.specs.Pages.{zero_page, IsRegion}
use Rattle.rdb_space.specs.declared.page.PageState.{PageState}
use Rattle.rdb_space.specs.Memory.{RegionCells, IsMemory, HasUnowned, IsLowestWithout, GrantsPage}
use Rattle.rdb_space.specs.Space.{PageTable, granted_to}
use Rattle.rdb_space.proofs.GrantLemmas.{not_all_owned, unclaimed, granted, lowest_without, map_set, grants, held_now}
use Rattle.rdb_space.proofs.ImageLemmas.{Held, now}
use Rattle.rdb_space.proofs.memory.RegionMemory.grant.Goals as goal

pub grant-page-requires-clause-left : goal.grant-page-requires-clause-left
grant-page-requires-clause-left g c =
    let s = c.self.inside in
    not_all_owned (g.P.Pages.held s.pages) s.space s.heads c.self.invariant (subst (λ (m : RegionCells). HasUnowned m.owners) (sym c.self.view_is) c.requires.left)

pub claim-requires : goal.claim-requires
claim-requires g c =
    let s = c.self.inside in
    unclaimed (g.P.Pages.held s.pages) s.space s.heads c.self.invariant c.grant-page.result c.grant-page.ensures.lowest

pub invariant_of-self : goal.invariant_of-self
invariant_of-self g c =
    let s = c.self.inside in
    let held = g.P.Pages.held s.pages in
    let page = c.grant-page.result in
    let kept = c.self.invariant in
    let lowest = c.grant-page.ensures.lowest in
    subst (λ (h : Held). IsMemory h c.grant-page.new.self s.heads) (sym c.claim.ensures.page)
    (subst (λ (t : PageTable). IsMemory (held_now held s.space s.heads kept c.args.class page lowest) t s.heads) (sym c.grant-page.ensures.granted)
    (granted held s.space s.heads kept c.args.class page lowest (subst IsRegion c.claim.ensures.page c.claim.ensures.region)))

pub returns-clause-lowest : goal.returns-clause-lowest
returns-clause-lowest g c =
    let s = c.self.inside in
    subst (λ (m : RegionCells). IsLowestWithout m.owners c.grant-page.result) c.self.view_is
    (lowest_without (g.P.Pages.held s.pages) s.space s.heads c.self.invariant c.grant-page.result c.grant-page.ensures.lowest)

pub returns-clause-owners : goal.returns-clause-owners
returns-clause-owners g c =
    let s = c.self.inside in
    let page = c.grant-page.result in
    ap (λ (t : PageTable). map (λ (p : PageState). p.owner) t.pages) c.grant-page.ensures.granted
    ∙ map_set s.space.pages page (granted_to c.args.class)
    ∙ ap (λ (m : RegionCells). set m.owners page (Some c.args.class)) c.self.view_is

pub returns-clause-cells : goal.returns-clause-cells
returns-clause-cells g c =
    let s = c.self.inside in
    let held = g.P.Pages.held s.pages in
    let page = c.grant-page.result in
    let kept = c.self.invariant in
    let before = now held s.space s.heads kept in
    let owners = ap (λ (t : PageTable). map (λ (p : PageState). p.owner) t.pages) c.grant-page.ensures.granted ∙ map_set s.space.pages page (granted_to c.args.class) in
    subst (λ (m : RegionCells). GrantsPage m (record { pages = g.P.Pages.held c.claim.new.self; owners = map (λ (p : PageState). p.owner) c.grant-page.new.self.pages; heads = s.heads }) c.args.class page) c.self.view_is
    (subst (λ (h : Held). GrantsPage before (record { pages = h; owners = map (λ (p : PageState). p.owner) c.grant-page.new.self.pages; heads = s.heads }) c.args.class page) (sym c.claim.ensures.page)
    (subst (λ (os : List (Option ℕ)). GrantsPage before (record { pages = set held page (Some zero_page); owners = os; heads = s.heads }) c.args.class page) (sym owners)
    (grants held s.space s.heads kept c.args.class page c.grant-page.ensures.lowest)))
