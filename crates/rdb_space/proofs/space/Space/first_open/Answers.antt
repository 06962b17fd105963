use Rattle.std.proofs.Common.{◌≡◌, ◌≤◌, ℕ, List, length, slice_get, Some, IfSome, IfNone, refl, subst}
use Rattle.std.proofs.lemmas.Option.{slice_get_read}
use Rattle.rdb_space.specs.declared.class_pages.ClassPages.{ClassPages}
use Rattle.rdb_space.specs.PageSet.{member_bit, IsFirstMember}
use Rattle.rdb_space.specs.Space.{PageTable}
use Rattle.rdb_space.specs.Tables.{IsFirstOpen, HasNoneOpen}
use Rattle.rdb_space.proofs.SpaceLemmas.{first_open_found, first_open_none, if_found, if_missing}
use Rattle.rdb_space.proofs.space.Space.first_open.Goals as goal

pub returns-clause-found : goal.returns-clause-found
returns-clause-found c =
    let s = c.self.inside in
    let ds = c.deref.result.now in
    let own = c.in_ok-get.field-0.now in
    let got : slice_get ds c.args.class ≡ Some own = slice_get_read ds (length ds) c.args.class own refl c.in_ok-get.ensures.lookup.3.0 c.in_ok-get.ensures.lookup.1 in
    let own_at = subst (λ (cs : List ClassPages). slice_get cs c.args.class ≡ Some own) c.deref.ensures.value got in
    subst (λ (t : PageTable). IfSome c.first_from.result (IsFirstOpen t.pages c.args.class c.args.page)) c.self.view_is
    (if_found (IsFirstMember own.with_room c.args.page) (IsFirstOpen s.pages.items c.args.class c.args.page) c.first_from.result
    (λ page found. first_open_found s.pages.items s.classes.items s.granted c.args.class c.self.invariant own c.args.page page own_at found) c.first_from.ensures.found)

pub returns-clause-none : goal.returns-clause-none
returns-clause-none c =
    let s = c.self.inside in
    let ds = c.deref.result.now in
    let own = c.in_ok-get.field-0.now in
    let got : slice_get ds c.args.class ≡ Some own = slice_get_read ds (length ds) c.args.class own refl c.in_ok-get.ensures.lookup.3.0 c.in_ok-get.ensures.lookup.1 in
    let own_at = subst (λ (cs : List ClassPages). slice_get cs c.args.class ≡ Some own) c.deref.ensures.value got in
    subst (λ (t : PageTable). IfNone c.first_from.result (HasNoneOpen t.pages c.args.class c.args.page)) c.self.view_is
    (if_missing ((i : ℕ) → c.args.page ≤ i → member_bit own.with_room i ≡ 0) (HasNoneOpen s.pages.items c.args.class c.args.page) c.first_from.result
    (λ none. first_open_none s.pages.items s.classes.items s.granted c.args.class c.self.invariant own c.args.page own_at none) c.first_from.ensures.none)
