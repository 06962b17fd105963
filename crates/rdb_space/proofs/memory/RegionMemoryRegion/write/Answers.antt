use Rattle.std.proofs.Common.{◌≡◌, ℕ, List, IsSome, Option, map, sym, ap, subst, ◌∙◌}
use Rattle.rdb_pages.specs.declared.cell.Cell.{Cell}
use Rattle.rdb_pages.specs.Pages.{IsRegion}
use Rattle.rdb_cells.specs.Images.{IsCell, Writes}
use Rattle.rdb_space.specs.declared.page.PageState.{PageState}
use Rattle.rdb_space.specs.Memory.{RegionCells, IsMemory, image_of, class_of}
use Rattle.rdb_space.proofs.ImageLemmas.{Held, now, zero_is, image_head}
use Rattle.rdb_space.proofs.WriteLemmas.{named, owned, page_kept, page_written, page_classes, page_owners, head_written, head_classes}
use Rattle.rdb_space.proofs.memory.RegionMemoryRegion.write.Goals as goal

pub follow-requires : goal.follow-requires
follow-requires g c =
    let s = c.self.inside in
    let held = g.P.Pages.held s.pages in
    let some = subst (λ (m : RegionCells). IsCell (image_of m) c.args.at.number) (sym c.self.view_is) c.requires in
    owned held s.space s.heads c.self.invariant c.args.at (named held s.space s.heads c.self.invariant c.args.at.number c.if-at-lt-FIRST_HEAD.true some)

pub invariant_of-self : goal.invariant_of-self
invariant_of-self g c =
    let s = c.self.inside in
    let held = g.P.Pages.held s.pages in
    let some = subst (λ (m : RegionCells). IsCell (image_of m) c.args.at.number) (sym c.self.view_is) c.requires in
    let names = named held s.space s.heads c.self.invariant c.args.at.number c.if-at-lt-FIRST_HEAD.true some in
    subst (λ (h : Held). IsMemory h c.follow.new.self s.heads) (sym c.set.ensures.cell)
    (page_kept held s.space s.heads c.self.invariant c.args.at c.args.cell c.is_zero.result c.follow.new.self names c.follow.ensures.followed c.follow.ensures.classes
    (zero_is c.is_zero.result c.args.cell c.is_zero.ensures) (subst IsRegion c.set.ensures.cell c.set.ensures.region))

pub returns-then-at-lt-FIRST_HEAD-clause-written : goal.returns-then-at-lt-FIRST_HEAD-clause-written
returns-then-at-lt-FIRST_HEAD-clause-written g c =
    let s = c.self.inside in
    let held = g.P.Pages.held s.pages in
    let before = now held s.space s.heads c.self.invariant in
    let some = subst (λ (m : RegionCells). IsCell (image_of m) c.args.at.number) (sym c.self.view_is) c.requires in
    let names = named held s.space s.heads c.self.invariant c.args.at.number c.if-at-lt-FIRST_HEAD.true some in
    subst (λ (m : RegionCells). Writes (image_of m) (image_of (record { pages = g.P.Pages.held c.set.new.self; owners = map (λ (p : PageState). p.owner) c.follow.new.self.pages; heads = s.heads })) c.args.at.number c.args.cell) c.self.view_is
    (subst (λ (h : Held). Writes (image_of before) (image_of (record { pages = h; owners = map (λ (p : PageState). p.owner) c.follow.new.self.pages; heads = s.heads })) c.args.at.number c.args.cell) (sym c.set.ensures.cell)
    (page_written held s.space s.heads c.self.invariant c.args.at c.args.cell c.is_zero.result c.follow.new.self names c.follow.ensures.followed c.follow.ensures.classes
    (zero_is c.is_zero.result c.args.cell c.is_zero.ensures) c.if-at-lt-FIRST_HEAD.true))

pub returns-then-at-lt-FIRST_HEAD-clause-classes : goal.returns-then-at-lt-FIRST_HEAD-clause-classes
returns-then-at-lt-FIRST_HEAD-clause-classes g c =
    let s = c.self.inside in
    let held = g.P.Pages.held s.pages in
    let before = now held s.space s.heads c.self.invariant in
    let some = subst (λ (m : RegionCells). IsCell (image_of m) c.args.at.number) (sym c.self.view_is) c.requires in
    let names = named held s.space s.heads c.self.invariant c.args.at.number c.if-at-lt-FIRST_HEAD.true some in
    subst (λ (m : RegionCells). (n : ℕ) → class_of (record { pages = g.P.Pages.held c.set.new.self; owners = map (λ (p : PageState). p.owner) c.follow.new.self.pages; heads = s.heads }) n ≡ class_of m n) c.self.view_is
    (subst (λ (h : Held). (n : ℕ) → class_of (record { pages = h; owners = map (λ (p : PageState). p.owner) c.follow.new.self.pages; heads = s.heads }) n ≡ class_of before n) (sym c.set.ensures.cell)
    (page_classes held s.space s.heads c.self.invariant c.args.at c.args.cell c.is_zero.result c.follow.new.self names c.follow.ensures.followed c.follow.ensures.classes
    (zero_is c.is_zero.result c.args.cell c.is_zero.ensures)))

pub returns-then-at-lt-FIRST_HEAD-clause-owners : goal.returns-then-at-lt-FIRST_HEAD-clause-owners
returns-then-at-lt-FIRST_HEAD-clause-owners g c =
    let s = c.self.inside in
    let held = g.P.Pages.held s.pages in
    let some = subst (λ (m : RegionCells). IsCell (image_of m) c.args.at.number) (sym c.self.view_is) c.requires in
    let names = named held s.space s.heads c.self.invariant c.args.at.number c.if-at-lt-FIRST_HEAD.true some in
    page_owners held s.space s.heads c.self.invariant c.args.at c.args.cell c.is_zero.result c.follow.new.self names c.follow.ensures.followed c.follow.ensures.classes
    (zero_is c.is_zero.result c.args.cell c.is_zero.ensures)
    ∙ ap (λ (m : RegionCells). m.owners) c.self.view_is

pub returns-else-at-lt-FIRST_HEAD-clause-written : goal.returns-else-at-lt-FIRST_HEAD-clause-written
returns-else-at-lt-FIRST_HEAD-clause-written g c =
    let s = c.self.inside in
    let held = g.P.Pages.held s.pages in
    let before = now held s.space s.heads c.self.invariant in
    let n = c.args.at.number in
    let high = c.if-at-lt-FIRST_HEAD.false in
    let some = subst (λ (m : RegionCells). IsCell (image_of m) n) (sym c.self.view_is) c.requires in
    let head = subst (λ (o : Option Cell). IsSome o) (image_head before n high) some in
    subst (λ (m : RegionCells). Writes (image_of m) (image_of (record { pages = held; owners = before.owners; heads = c.set-else-at-lt-FIRST_HEAD.new.self })) n c.args.cell) c.self.view_is
    (subst (λ (hs : List (List Cell)). Writes (image_of before) (image_of (record { pages = held; owners = before.owners; heads = hs })) n c.args.cell) (sym c.set-else-at-lt-FIRST_HEAD.ensures)
    (head_written s.heads n c.args.cell high head held before.owners))

pub returns-else-at-lt-FIRST_HEAD-clause-classes : goal.returns-else-at-lt-FIRST_HEAD-clause-classes
returns-else-at-lt-FIRST_HEAD-clause-classes g c =
    let s = c.self.inside in
    let held = g.P.Pages.held s.pages in
    let before = now held s.space s.heads c.self.invariant in
    let n = c.args.at.number in
    let high = c.if-at-lt-FIRST_HEAD.false in
    let some = subst (λ (m : RegionCells). IsCell (image_of m) n) (sym c.self.view_is) c.requires in
    let head = subst (λ (o : Option Cell). IsSome o) (image_head before n high) some in
    subst (λ (m : RegionCells). (k : ℕ) → class_of (record { pages = held; owners = before.owners; heads = c.set-else-at-lt-FIRST_HEAD.new.self }) k ≡ class_of m k) c.self.view_is
    (subst (λ (hs : List (List Cell)). (k : ℕ) → class_of (record { pages = held; owners = before.owners; heads = hs }) k ≡ class_of before k) (sym c.set-else-at-lt-FIRST_HEAD.ensures)
    (head_classes s.heads n c.args.cell high head held before.owners))
