use Rattle.std.proofs.Common.{◌≡◌, ◌<◌, ◌^◌, length, slice_get, Some, inr, refl, sym, ap, subst, arith}
use Rattle.std.proofs.lemmas.Option.{slice_get_read}
use Rattle.rdb_space.specs.declared.page.PageState.{PageState}
use Rattle.rdb_space.specs.Space.{PageTable, IsLowestUnowned, AllOwned}
use Rattle.rdb_space.proofs.ListLemmas.{there}
use Rattle.rdb_space.proofs.SpaceLemmas.{some_left, lowest_unowned}
use Rattle.rdb_space.proofs.TableLemmas.{small_count, given}
use Rattle.rdb_space.proofs.space.Space.grant.Goals as goal

pub follow-requires-clause-few : goal.follow-requires-clause-few
follow-requires-clause-few c =
    let ps = c.self.inside.pages.items in
    let cs = c.self.inside.classes.items in
    let own = c.index_mut.result.now in
    let class_in : c.args.class < length cs = subst (λ (t : PageTable). c.args.class < t.classes) (sym c.self.view_is) c.requires.class in
    let own_at : slice_get cs c.args.class ≡ Some own = slice_get_read cs (length cs) c.args.class own refl class_in c.index_mut.ensures.value in
    let small = small_count ps cs c.self.inside.granted c.args.class own c.self.invariant own_at in
    omega arith

pub index_mut-requires-2 : goal.index_mut-requires-2
index_mut-requires-2 c =
    let ps = c.self.inside.pages.items in
    let left = some_left ps c.self.inside.granted c.self.invariant.owners (subst (λ (t : PageTable). ¬ AllOwned t.pages) (sym c.self.view_is) c.requires.left) in
    omega arith

pub invariant_of-self : goal.invariant_of-self
invariant_of-self c =
    let ps = c.self.inside.pages.items in
    let cs = c.self.inside.classes.items in
    let own = c.index_mut.result.now in
    let page = c.self.inside.granted in
    let left = some_left ps page c.self.invariant.owners (subst (λ (t : PageTable). ¬ AllOwned t.pages) (sym c.self.view_is) c.requires.left) in
    let at = there ps page left in
    let class_in : c.args.class < length cs = subst (λ (t : PageTable). c.args.class < t.classes) (sym c.self.view_is) c.requires.class in
    let own_at : slice_get cs c.args.class ≡ Some own = slice_get_read cs (length cs) c.args.class own refl class_in c.index_mut.ensures.value in
    given ps cs page c.args.class page 0 at.0 c.granted_to-granted.result own c.follow.new.self c.self.invariant at.1 own_at
    (ap (λ (q : PageState). q.owner) c.granted_to-granted.ensures) (inr (c.self.invariant.owners.above page at.0 (omega arith) at.1, refl)) c.follow.ensures.free c.follow.ensures.with_room
    (subst (λ (q : PageState). q.free < 2 ^ 64) (sym c.granted_to-granted.ensures) (omega arith)) refl

pub returns-clause-lowest : goal.returns-clause-lowest
returns-clause-lowest c =
    let ps = c.self.inside.pages.items in
    let page = c.self.inside.granted in
    let left = some_left ps page c.self.invariant.owners (subst (λ (t : PageTable). ¬ AllOwned t.pages) (sym c.self.view_is) c.requires.left) in
    subst (λ (t : PageTable). IsLowestUnowned t.pages page) c.self.view_is (lowest_unowned ps page c.self.invariant.owners left)
