use Rattle.std.proofs.Common.{List, replicate, sym, subst}
use Rattle.rdb_space.specs.declared.page.PageState.{PageState}
use Rattle.rdb_space.specs.declared.class_pages.ClassPages.{ClassPages}
use Rattle.rdb_space.specs.Space.{unowned}
use Rattle.rdb_space.specs.Tables.{IsTable}
use Rattle.rdb_space.proofs.TableLemmas.{fresh}
use Rattle.rdb_space.proofs.space.Space.new.Goals as goal

pub invariant_of-result : goal.invariant_of-result
invariant_of-result c =
    subst (λ (ps : List PageState). IsTable ps c.in_ok-without_pages.field-0.items 0) (sym (c.in_ok-vec.ensures.items_if_clones_equal (λ y e. e)))
    (subst (λ (cs : List ClassPages). IsTable (replicate c.args.pages unowned) cs 0) (sym c.in_ok-without_pages.ensures) (fresh c.args.pages c.args.classes c.requires.1 c.ranges.classes.fits))
