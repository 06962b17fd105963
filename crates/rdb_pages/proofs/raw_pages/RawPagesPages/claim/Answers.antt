use Rattle.std.proofs.Common.{List, Bool, length, map, set, refl, sym, ap, ◌∙◌, subst, true, length-set}
use Rattle.std.specs.Option.{is_some}
use Rattle.rdb_pages.specs.Pages.{IsRegion}
use Rattle.rdb_pages.proofs.Regions.{IsRegion-set, table-claimed}
use Rattle.rdb_pages.proofs.raw_pages.RawPagesPages.claim.Goals as goal

pub invariant_of-self : goal.invariant_of-self
invariant_of-self c = let put = c.put.ensures in let old = c.self.inside.block.held in let page = c.args.page in let i = c.self.invariant in
    record {
      region = subst IsRegion (sym put.1) (IsRegion-set old page _ i.region refl);
      table = ap (λ (bs : List Bool). set bs page true) i.table ∙ table-claimed old page _ ∙ ap (map is_some) (sym put.1);
      deed = (i.deed.0 ∙ sym put.0, i.deed.1 ∙ sym (ap length put.1 ∙ length-set old page _), i.deed.2);
    }

pub returns-clause-region : goal.returns-clause-region
returns-clause-region c = let put = c.put.ensures in subst IsRegion (sym put.1) (IsRegion-set c.self.inside.block.held c.args.page _ c.self.invariant.region refl)
