use Rattle.std.proofs.Common.{◌≡◌, ◌≤◌, List, length, slice_get, Option, Some, sum_by, refl, sym, ap, subst, ◌∙◌}
use Rattle.std.specs.Option.{option_map_or}
use Rattle.std.proofs.lemmas.Option.{slice_get_read, slice_get_past}
use Rattle.rdb_space.specs.declared.class_pages.ClassPages.{ClassPages}
use Rattle.rdb_space.specs.Space.{PageTable}
use Rattle.rdb_space.specs.Tables.{free_in}
use Rattle.rdb_space.proofs.TableLemmas.{small_count}
use Rattle.rdb_space.proofs.space.Space.free_cells.Goals as goal

pub returns-in-Some-clause-few : goal.returns-in-Some-clause-few
returns-in-Some-clause-few c =
    let s = c.self.inside in
    let ds = c.deref.result.now in
    let own = c.in-Some.own.now in
    let got : slice_get ds c.args.class ≡ Some own = slice_get_read ds (length ds) c.args.class own refl c.in-Some.ensures.lookup.3.0 c.in-Some.ensures.lookup.1 in
    small_count s.pages.items s.classes.items s.granted c.args.class own c.self.invariant (subst (λ (cs : List ClassPages). slice_get cs c.args.class ≡ Some own) c.deref.ensures.value got)

pub returns-in-None-clause-free : goal.returns-in-None-clause-free
returns-in-None-clause-free c =
    let s = c.self.inside in
    let gone = slice_get_past s.classes.items c.args.class (subst (λ (cs : List ClassPages). length cs ≤ c.args.class) c.deref.ensures.value c.in-None.ensures.lookup.3) in
    subst (λ (t : PageTable). 0 ≡ sum_by (free_in c.args.class) t.pages) c.self.view_is
    (sym (ap (λ (o : Option ClassPages). option_map_or (λ (own : ClassPages). own.free) o 0) gone) ∙ c.self.invariant.free c.args.class)
