use Rattle.std.proofs.Common.{◌≡◌, ℕ, List, [], Option, Some, slice_get, get_or, sym, subst}
use Rattle.rdb_pages.specs.Pages.{page_of, cell_of, IsClaimed}
use Rattle.rdb_pages.specs.declared.cell.Cell.{Cell}
use Rattle.rdb_pages.proofs.Regions.{claimed_page, cell_found}
use Rattle.rdb_pages.proofs.raw_pages.RawPagesPages.cell.Goals as goal

pub get-requires : goal.get-requires
get-requires c =
    let held = c.self.inside.block.held in
    claimed_page held c.page.result (subst (λ (p : ℕ). IsClaimed held p) (sym c.page.ensures) (subst (λ (h : List (Option (List Cell))). IsClaimed h (page_of c.args.at)) (sym c.self.view_is) c.requires.1))

pub returns-clause-cell : goal.returns-clause-cell
returns-clause-cell c =
    let held = c.self.inside.block.held in let xs = c.get.result.now in let d : Cell = record { words = [] } in
    let found = cell_found held c.args.at xs d c.self.invariant.region (subst (λ (p : ℕ). slice_get held p ≡ Some (Some xs)) c.page.ensures c.get.ensures) in
    subst (λ (h : List (Option (List Cell))). cell_of h c.args.at ≡ Some (get_or xs c.place-place.result d)) c.self.view_is (subst (λ (p : ℕ). cell_of held c.args.at ≡ Some (get_or xs p d)) (sym c.place-place.ensures.0) found)
