use Rattle.std.proofs.Common.{◌≡◌, List, length, map, replicate, Option, None, sym, ap, ◌∙◌, subst}
use Rattle.std.proofs.lemmas.List.{length-replicate}
use Rattle.std.specs.Option.{is_some}
use Rattle.rdb_pages.specs.Pages.{IsRegion}
use Rattle.rdb_pages.specs.declared.cell.Cell.{Cell}
use Rattle.rdb_pages.proofs.Regions.{IsRegion-replicate, table-replicate}
use Rattle.rdb_pages.proofs.raw_pages.RawPages.reserve.Goals as goal

pub invariant_of-result : goal.invariant_of-result
invariant_of-result c =
    let made = c.in_ok-block.ensures in let none : Option (List Cell) = None in let empty : c.in_ok-block.block.held ≡ replicate c.args.pages none = made.0 in
    record {
      region = subst IsRegion (sym empty) (IsRegion-replicate c.args.pages c.requires.0 c.requires.1);
      table = c.in_ok-claimed.ensures.items_if_clones_equal (λ y e. e) ∙ table-replicate c.args.pages ∙ ap (map is_some) (sym empty);
      deed = (made.1, made.2 ∙ sym (ap length empty ∙ length-replicate c.args.pages none), made.3);
    }
