use Rattle.std.proofs.Common.{ℕ, List, Option, sym, ◌∙◌, subst, length-set}
use Rattle.rdb_pages.specs.Pages.{page_of, IsClaimed}
use Rattle.rdb_pages.specs.declared.cell.Cell.{Cell}
use Rattle.rdb_pages.proofs.Regions.{IsRegion-set, claimed_page, page_length, table-written}
use Rattle.rdb_pages.proofs.raw_pages.RawPagesPages.set.Goals as goal

pub get_mut-requires : goal.get_mut-requires
get_mut-requires c =
    let held = c.self.inside.block.held in
    claimed_page held c.page.result (subst (λ (p : ℕ). IsClaimed held p) (sym c.page.ensures) (subst (λ (h : List (Option (List Cell))). IsClaimed h (page_of c.args.at)) (sym c.self.view_is) c.requires.1))

pub invariant_of-self : goal.invariant_of-self
invariant_of-self c =
    let i = c.self.invariant in let held = c.self.inside.block.held in let xs = c.get_mut.result.now in let page = c.page.result in let there = c.get_mut.ensures.value in
    record {
      region = IsRegion-set held page _ i.region (length-set xs _ _ ∙ page_length held page xs i.region there);
      table = i.table ∙ table-written held page xs _ there;
      deed = (i.deed.0, i.deed.1 ∙ sym (length-set held page _), i.deed.2);
    }

pub returns-clause-region : goal.returns-clause-region
returns-clause-region c =
    let i = c.self.invariant in let held = c.self.inside.block.held in let xs = c.get_mut.result.now in let page = c.page.result in
    IsRegion-set held page _ i.region (length-set xs _ _ ∙ page_length held page xs i.region c.get_mut.ensures.value)
