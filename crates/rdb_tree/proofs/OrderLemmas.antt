-- The order of versions against a place: those on its near side stand in front.
use Rattle.std.proofs.Common.{◌≡◌, ℕ, cond, ap₂, List, [], ◌∷◌, Option, Some, None, IsSome, Bool, true, false, not, refl, sym, ap, ◌∙◌, nat_cmp}
use Rattle.std.proofs.lemmas.Bool.{false≢true}
use Rattle.std.proofs.lemmas.Cmp.{nat_cmp_total, on_total, then_total, upto}
use Rattle.std.specs.Cmp.{IsTotalOrder}
use Rattle.std.specs.List.{filter, Contains}
use Rattle.std.specs.Option.{option_map}
use Rattle.std.specs.Ordering.{is_lt, is_le, is_gt, is_some_and, ordering_then, then_cmp, on}
use Rattle.std.specs.declared.cmp.Ordering.{Ordering}
use Rattle.std.specs.declared.cmp.Ordering.TheVariants.{Less, Equal, Greater}
use Rattle.rdb_base.specs.Order.{row_order}
use Rattle.rdb_base.proofs.OrderLemmas.{row_order_total}
use Rattle.rdb_base.specs.declared.operation.Place.{Place}
use Rattle.rdb_base.specs.declared.operation.Place.TheVariants.{Start, End, At}
use Rattle.rdb_base.specs.declared.value.Value.{Value}
use Rattle.rdb_pages.specs.declared.cell.CellRef.{CellRef}
use Rattle.rdb_cells.specs.Keys.{Version, Sayings, version_order, key_order}
use Rattle.rdb_tree.specs.Lookups.{is_past, is_near, goes_near, first_past, first_met}
use Rattle.rdb_tree.specs.Order.{IsBefore, AreAscending, AreKeyed, goes}
use Rattle.rdb_tree.specs.Trees.{Each}
use Rattle.rdb_tree.proofs.SeekLemmas.{sought, beyond}
use Rattle.rdb_tree.specs.Ways.{IsCut}
use Rattle.rdb_cells.proofs.ListedLemmas.{contains_first, contains_later}

gt_or_le : (o : Ordering) → is_gt o ≡ not (is_le o)
gt_or_le Less = refl
gt_or_le Equal = refl
gt_or_le Greater = refl

le_or_gt : (o : Ordering) → is_gt o ≡ false → is_le o ≡ true
le_or_gt Less e = refl
le_or_gt Equal e = refl
le_or_gt Greater e = sym e

not_gt : (o : Ordering) → is_le o ≡ true → is_gt o ≡ false
not_gt Less e = refl
not_gt Equal e = refl
not_gt Greater e = sym e

pub is_less : (o : Ordering) → is_lt o ≡ true → o ≡ Less
is_less Less e = refl
is_less Equal e = absurd (false≢true e)
is_less Greater e = absurd (false≢true e)

-- who goes no later than one that goes before a third goes before it, too
module _ {K : Type 0} (R : K → K → Ordering) (total : IsTotalOrder R) (v w p : K) where
  pub no_later : is_gt (R v w) ≡ false → is_le (R w p) ≡ true → is_le (R v p) ≡ true
  no_later first second = le_or_gt (R v p) (upto total v w p first (not_gt (R w p) second))

  pub sooner : is_gt (R v w) ≡ false → is_lt (R w p) ≡ true → is_lt (R v p) ≡ true
  sooner first second = by_order (R v w) refl first
    where
      by_order : (o : Ordering) → R v w ≡ o → is_gt o ≡ false → is_lt (R v p) ≡ true
      by_order Less is e = ap is_lt (total.trans v w p is (is_less (R w p) second))
      by_order Equal is e = ap is_lt (total.congr v w p is ∙ is_less (R w p) second)
      by_order Greater is e = absurd (false≢true (sym e))

-- a version before another by key, id and serial isn't behind it by key and id
not_behind : (o p q : Ordering) → ordering_then o (ordering_then p q) ≡ Less → is_gt (ordering_then o p) ≡ false
not_behind Less p q e = refl
not_behind Equal Less q e = refl
not_behind Equal Equal q e = refl
not_behind Equal Greater q e = cc
not_behind Greater p q e = cc

by_key_and_id_total : IsTotalOrder (then_cmp (on (λ (v : Version). v.key) row_order) (on (λ (v : Version). v.id) nat_cmp))
by_key_and_id_total = then_total (on_total (λ (v : Version). v.key) row_order_total) (on_total (λ (v : Version). v.id) nat_cmp_total)

module _ (key : List Value) (id : ℕ) (v w : Version) (less : version_order v w ≡ Less) where
  pub near_first : (up : Bool) → goes_near up (key_order w key (Some id)) ≡ true → goes_near up (key_order v key (Some id)) ≡ true
  near_first true near =
      no_later (then_cmp (on (λ (v : Version). v.key) row_order) (on (λ (v : Version). v.id) nat_cmp)) by_key_and_id_total v w (record { key = key; id = id; serial = 0 })
      (not_behind (row_order v.key w.key) (nat_cmp v.id w.id) (nat_cmp v.serial w.serial) less) near
  near_first false near =
      sooner (then_cmp (on (λ (v : Version). v.key) row_order) (on (λ (v : Version). v.id) nat_cmp)) by_key_and_id_total v w (record { key = key; id = id; serial = 0 })
      (not_behind (row_order v.key w.key) (nat_cmp v.id w.id) (nat_cmp v.serial w.serial) less) near

  pub key_first : is_le (key_order w key None) ≡ true → is_le (key_order v key None) ≡ true
  key_first near = no_later (on (λ (v : Version). v.key) row_order) (on_total (λ (v : Version). v.key) row_order_total) v w (record { key = key; id = id; serial = 0 }) (not_behind_key (row_order v.key w.key) _ less) near
    where
      not_behind_key : (o p : Ordering) → ordering_then o p ≡ Less → is_gt o ≡ false
      not_behind_key Less p e = refl
      not_behind_key Equal p e = refl
      not_behind_key Greater p e = cc

  pub key_sooner : is_lt (key_order w key None) ≡ true → is_lt (key_order v key None) ≡ true
  key_sooner near = sooner (on (λ (v : Version). v.key) row_order) (on_total (λ (v : Version). v.key) row_order_total) v w (record { key = key; id = id; serial = 0 }) (not_behind_key (row_order v.key w.key) _ less) near
    where
      not_behind_key : (o p : Ordering) → ordering_then o p ≡ Less → is_gt o ≡ false
      not_behind_key Less p e = refl
      not_behind_key Equal p e = refl
      not_behind_key Greater p e = cc

-- a test of a version that is there
tested : (test : Ordering → Bool) (f : Version → Ordering) (o : Option Version) (v : Version) → o ≡ Some v → is_some_and test (option_map f o) ≡ test (f v)
tested test f o v is = ap (λ (p : Option Version). is_some_and test (option_map f p)) is

-- what is true of a version only where it is true of one before it, is a cut
module _ (said : Sayings) (near : CellRef → Bool) (first : (a b : CellRef) → IsBefore said a b → near b ≡ true → near a ≡ true) where
  far_behind : (a : CellRef) (rs : List CellRef) → Each (IsBefore said a) rs → near a ≡ false → Each (λ q. near q ≡ false) rs
  far_behind a [] before far = tt
  far_behind a (r ∷ rs) before far = (by_test (near r) refl, far_behind a rs before.1 far)
    where
      by_test : (b : Bool) → near r ≡ b → near r ≡ false
      by_test true is = absurd (false≢true (sym far ∙ first a r before.0 is))
      by_test false is = is

  pub is_cut : (rs : List CellRef) → AreAscending said rs → IsCut near rs
  is_cut [] ascending = tt
  is_cut (r ∷ rs) ascending = ((λ far. far_behind r rs ascending.0 far), is_cut rs ascending.1)

module _ (said : Sayings) where
  near_place : (place : Place) (up : Bool) (a b : CellRef) → IsBefore said a b → is_near said place up b ≡ true → is_near said place up a ≡ true
  near_place Start up a b before near = near
  near_place End up a b before near = refl
  near_place (At key id) up a b before near =
      tested (goes_near up) (λ v. key_order v key (Some id)) (said.version_of a.number) before.first before.is_first
      ∙ near_first key id before.first before.second before.less up
      (sym (tested (goes_near up) (λ v. key_order v key (Some id)) (said.version_of b.number) before.second before.is_second) ∙ near)

  pub place_cuts : (place : Place) (up : Bool) (rs : List CellRef) → AreAscending said rs → IsCut (is_near said place up) rs
  place_cuts place up rs ascending = is_cut said (is_near said place up) (near_place place up) rs ascending

  past_or_near : (key : List Value) (id : ℕ) (o : Option Version) → IsSome o → is_some_and is_gt (option_map (λ v. key_order v key (Some id)) o) ≡ not (is_some_and is_le (option_map (λ v. key_order v key (Some id)) o))
  past_or_near key id None some = absurd (false≢true some)
  past_or_near key id (Some v) some = gt_or_le (key_order v key (Some id))

  past_is : (place : Place) (up : Bool) (r : CellRef) → IsSome (said.version_of r.number) → is_past said place up r ≡ sought (is_near said place up) up r
  past_is Start true r some = refl
  past_is Start false r some = refl
  past_is End true r some = refl
  past_is End false r some = refl
  past_is (At key id) true r some = past_or_near key id (said.version_of r.number) some
  past_is (At key id) false r some = refl

  sooner_key : (key : List Value) (a b : CellRef) → IsBefore said a b → goes is_lt said key None b ≡ true → goes is_lt said key None a ≡ true
  sooner_key key a b before near =
      tested is_lt (λ v. key_order v key None) (said.version_of a.number) before.first before.is_first
      ∙ key_sooner key 0 before.first before.second before.less
      (sym (tested is_lt (λ v. key_order v key None) (said.version_of b.number) before.second before.is_second) ∙ near)

  first_key : (key : List Value) (a b : CellRef) → IsBefore said a b → goes is_le said key None b ≡ true → goes is_le said key None a ≡ true
  first_key key a b before near =
      tested is_le (λ v. key_order v key None) (said.version_of a.number) before.first before.is_first
      ∙ key_first key 0 before.first before.second before.less
      (sym (tested is_le (λ v. key_order v key None) (said.version_of b.number) before.second before.is_second) ∙ near)

  pub less_cuts : (key : List Value) (rs : List CellRef) → AreAscending said rs → IsCut (goes is_lt said key None) rs
  less_cuts key rs ascending = is_cut said (goes is_lt said key None) (sooner_key key) rs ascending

  pub up_to_cuts : (key : List Value) (rs : List CellRef) → AreAscending said rs → IsCut (goes is_le said key None) rs
  up_to_cuts key rs ascending = is_cut said (goes is_le said key None) (first_key key) rs ascending

-- two tests that agree at each element
same_filter : (p q : CellRef → Bool) (rs : List CellRef) → ((r : CellRef) → Contains rs r → p r ≡ q r) → filter p rs ≡ filter q rs
same_filter p q [] agree = refl
same_filter p q (r ∷ rs) agree =
    ap₂ (λ (b : Bool) (others : List CellRef). cond b (r ∷ others) others) (agree r (contains_first r rs)) (same_filter p q rs (λ x within. agree x (contains_later r x rs within)))

-- the first version past a place is the one beyond its cut
pub first_beyond : (said : Sayings) (place : Place) (up : Bool) (rs : List CellRef) → AreKeyed said rs → first_past said place up rs ≡ beyond (is_near said place up) up rs
first_beyond said place up rs keyed =
    ap (first_met up) (same_filter (is_past said place up) (sought (is_near said place up) up) rs (λ r within. past_is said place up r (keyed.keyed r within)))
