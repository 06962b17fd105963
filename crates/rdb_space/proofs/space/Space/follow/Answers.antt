use Rattle.std.proofs.Common.{◌≡◌, ℕ, length, slice_get, slice_set, Option, Some, IsSome, inl, refl, sym, subst, ◌∙◌, arith}
use Rattle.std.proofs.lemmas.Option.{slice_get_read, slice_get_within}
use Rattle.rdb_pages.specs.Pages.{page_of}
use Rattle.rdb_space.specs.Space.{PageTable, Follows}
use Rattle.rdb_space.proofs.SpaceLemmas.{follows}
use Rattle.rdb_space.proofs.TableLemmas.{small_count, counted, followed}
use Rattle.rdb_space.proofs.space.Space.follow.Goals as goal

pub follow-requires-clause-counted : goal.follow-requires-clause-counted
follow-requires-clause-counted c =
    let ps = c.self.inside.pages.items in
    let cs = c.self.inside.classes.items in
    let page = c.page-page.result in
    let p = c.index-before.result.now in
    let own = c.index_mut.result.now in
    let named : slice_get ps (page_of c.args.at) ≡ Some c.requires.1.0 = subst (λ (t : PageTable). slice_get t.pages (page_of c.args.at) ≡ Some c.requires.1.0) (sym c.self.view_is) c.requires.1.1 in
    let within = slice_get_within ps (page_of c.args.at) c.requires.1.0 named in
    let p_at : slice_get ps page ≡ Some p = slice_get_read ps (length ps) page p refl (omega arith) c.index-before.ensures in
    let known = c.self.invariant.known page c.in-Some.owner p p_at c.in-Some.is in
    let own_at : slice_get cs c.in-Some.owner ≡ Some own = slice_get_read cs (length cs) c.in-Some.owner own refl known c.index_mut.ensures.value in
    counted ps cs c.self.inside.granted c.in-Some.owner page p own c.self.invariant p_at c.in-Some.is own_at

pub follow-requires-clause-few : goal.follow-requires-clause-few
follow-requires-clause-few c =
    let ps = c.self.inside.pages.items in
    let cs = c.self.inside.classes.items in
    let page = c.page-page.result in
    let p = c.index-before.result.now in
    let own = c.index_mut.result.now in
    let named : slice_get ps (page_of c.args.at) ≡ Some c.requires.1.0 = subst (λ (t : PageTable). slice_get t.pages (page_of c.args.at) ≡ Some c.requires.1.0) (sym c.self.view_is) c.requires.1.1 in
    let within = slice_get_within ps (page_of c.args.at) c.requires.1.0 named in
    let p_at : slice_get ps page ≡ Some p = slice_get_read ps (length ps) page p refl (omega arith) c.index-before.ensures in
    let known = c.self.invariant.known page c.in-Some.owner p p_at c.in-Some.is in
    let own_at : slice_get cs c.in-Some.owner ≡ Some own = slice_get_read cs (length cs) c.in-Some.owner own refl known c.index_mut.ensures.value in
    let small = small_count ps cs c.self.inside.granted c.in-Some.owner own c.self.invariant own_at in
    omega arith

pub invariant_of-self : goal.invariant_of-self
invariant_of-self c =
    let ps = c.self.inside.pages.items in
    let cs = c.self.inside.classes.items in
    let page = c.page-page.result in
    let p = c.index-before.result.now in
    let q = c.marked-after.result in
    let own = c.index_mut.result.now in
    let named : slice_get ps (page_of c.args.at) ≡ Some c.requires.1.0 = subst (λ (t : PageTable). slice_get t.pages (page_of c.args.at) ≡ Some c.requires.1.0) (sym c.self.view_is) c.requires.1.1 in
    let within = slice_get_within ps (page_of c.args.at) c.requires.1.0 named in
    let p_at : slice_get ps page ≡ Some p = slice_get_read ps (length ps) page p refl (omega arith) c.index-before.ensures in
    let known = c.self.invariant.known page c.in-Some.owner p p_at c.in-Some.is in
    let own_at : slice_get cs c.in-Some.owner ≡ Some own = slice_get_read cs (length cs) c.in-Some.owner own refl known c.index_mut.ensures.value in
    followed ps cs c.self.inside.granted c.in-Some.owner page p.free p q own c.follow.new.self c.self.invariant p_at own_at
    (c.marked-after.ensures.owner ∙ c.in-Some.is) (inl (c.in-Some.is, refl)) c.follow.ensures.free c.follow.ensures.with_room (omega arith) (subst (λ (o : Option ℕ). IsSome o) (sym c.in-Some.is) refl)

pub returns-clause-followed : goal.returns-clause-followed
returns-clause-followed c =
    let ps = c.self.inside.pages.items in
    let page = c.page-page.result in
    let p = c.index-before.result.now in
    let q = c.marked-after.result in
    let named : slice_get ps (page_of c.args.at) ≡ Some c.requires.1.0 = subst (λ (t : PageTable). slice_get t.pages (page_of c.args.at) ≡ Some c.requires.1.0) (sym c.self.view_is) c.requires.1.1 in
    let within = slice_get_within ps (page_of c.args.at) c.requires.1.0 named in
    let p_at : slice_get ps page ≡ Some p = slice_get_read ps (length ps) page p refl (omega arith) c.index-before.ensures in
    subst (λ (t : PageTable). Follows t.pages (slice_set ps page q) c.args.at c.args.free) c.self.view_is
    (follows ps page c.place.result p q c.args.at c.args.free c.page-page.ensures c.place.ensures.0 p_at c.marked-after.ensures)
