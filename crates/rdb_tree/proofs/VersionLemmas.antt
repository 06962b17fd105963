-- A version that isn't listed among those that are, in their order.
use Rattle.std.proofs.Common.{◌≡◌, List, [], ◌∷◌, ◌++◌, Option, Some, None, IsSome, true, false, refl, sym, ap, ap₂, ◌∙◌}
use Rattle.std.proofs.lemmas.Bool.{false≢true}
use Rattle.std.specs.List.{Contains}
use Rattle.std.specs.Ordering.{is_lt, is_gt, is_some_and, ordering_reverse}
use Rattle.std.specs.declared.cmp.Ordering.{Ordering}
use Rattle.std.specs.declared.cmp.Ordering.TheVariants.{Less, Equal, Greater}
use Rattle.rdb_pages.specs.declared.cell.CellRef.{CellRef}
use Rattle.rdb_cells.specs.Keys.{Version, Sayings, AreTwins, version_order}
use Rattle.rdb_cells.proofs.ListedLemmas.{contains_first, contains_later}
use Rattle.rdb_cells.proofs.VersionOrder.{version_order_total, version_level}
use Rattle.rdb_tree.specs.Order.{IsBefore, AreAscending, is_before, order_of_both}
use Rattle.rdb_tree.specs.Trees.{Each}
use Rattle.rdb_tree.proofs.OrderLemmas.{is_cut, sooner, is_less}
use Rattle.rdb_tree.specs.Ways.{IsCut}
use Rattle.rdb_tree.proofs.WovenLemmas.{each_both, each_front, each_back}

pub some_version : (o : Option Version) → IsSome o → (v : Version) × (o ≡ Some v)
some_version None some = absurd (false≢true some)
some_version (Some v) some = (v, refl)

module _ (said : Sayings) (version : CellRef) (x : Version) (is_x : said.version_of version.number ≡ Some x) where
  test_is : (r : CellRef) (v : Version) → said.version_of r.number ≡ Some v → is_before said version r ≡ is_lt (version_order v x)
  test_is r v is = ap₂ (λ (o p : Option Version). is_some_and is_lt (order_of_both o p)) is is_x

  sooner_than : (a b : CellRef) → IsBefore said a b → is_before said version b ≡ true → is_before said version a ≡ true
  sooner_than a b before near =
      test_is a before.first before.is_first
      ∙ sooner version_order version_order_total before.first before.second x (ap is_gt before.less) (sym (test_is b before.second before.is_second) ∙ near)

  -- those before the version stand in front
  pub version_cuts : (rs : List CellRef) → AreAscending said rs → IsCut (is_before said version) rs
  version_cuts rs ascending = is_cut said (is_before said version) sooner_than rs ascending

  pub goes_before : (r : CellRef) → IsSome (said.version_of r.number) → is_before said version r ≡ true → IsBefore said r version
  goes_before r keyed near =
      let v = some_version (said.version_of r.number) keyed in
      record { first = v.0; second = x; is_first = v.1; is_second = is_x; less = is_less (version_order v.0 x) (sym (test_is r v.0 v.1) ∙ near) }

  -- and of those that aren't, each goes behind it, unless it has the same id and serial
  pub goes_behind : (r : CellRef) → IsSome (said.version_of r.number) → (¬ AreTwins said version r) → is_before said version r ≡ false → IsBefore said version r
  goes_behind r keyed apart far =
      let v = some_version (said.version_of r.number) keyed in
      record { first = x; second = v.0; is_first = is_x; is_second = v.1; less = by_order v.0 v.1 (version_order v.0 x) refl (sym (test_is r v.0 v.1) ∙ far) }
    where
      by_order : (v : Version) → said.version_of r.number ≡ Some v → (o : Ordering) → version_order v x ≡ o → is_lt (version_order v x) ≡ false → version_order x v ≡ Less
      by_order v is Less o far = absurd (false≢true (sym far ∙ ap is_lt o))
      by_order v is Equal o far = absurd (apart (let same = version_level v x o in record { first = x; second = v; is_first = is_x; is_second = is; ids = sym (ap (λ (w : Version). w.id) same); serials = sym (ap (λ (w : Version). w.serial) same) }))
      by_order v is Greater o far = version_order_total.antisymm x v ∙ ap ordering_reverse o

-- a version between others that ascend
pub ascending_with : (said : Sayings) (version : CellRef) (front back : List CellRef) → AreAscending said (front ++ back) → Each (λ r. IsBefore said r version) front → Each (IsBefore said version) back → AreAscending said (front ++ version ∷ back)
ascending_with said version [] back ascending before behind = (behind, ascending)
ascending_with said version (r ∷ rs) back ascending before behind = (
  each_both (IsBefore said r) rs (version ∷ back) (each_front (IsBefore said r) rs back ascending.0) (before.0, each_back (IsBefore said r) rs back ascending.0),
  ascending_with said version rs back ascending.1 before.1 behind,
)

-- what a test says of each, where each is listed
pub each_listed : (P Q : CellRef → Type 0) (rs : List CellRef) → Each P rs → ((r : CellRef) → Contains rs r → P r → Q r) → Each Q rs
each_listed P Q [] each so = tt
each_listed P Q (r ∷ rs) each so = (so r (contains_first r rs) each.0, each_listed P Q rs each.1 (λ q within. so q (contains_later r q rs within)))
