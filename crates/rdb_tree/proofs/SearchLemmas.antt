-- How many versions of a row pass a test from the first on, counted one by one.
use Rattle.std.proofs.Common.{◌≡◌, ◌≤◌, ◌+◌, ◌<◌, ℕ, List, [], ◌∷◌, length, drop, get_or, Option, Some, None, IsSome, Bool, true, false, refl, sym, ap, arith}
use Rattle.std.proofs.lemmas.Bool.{false≢true}
use Rattle.std.proofs.lemmas.List.Sums.{prefix_len-drop_yes, prefix_len-drop_no, prefix_len-drop_all}
use Rattle.std.proofs.lemmas.List.Elements.{Contains-get_or}
use Rattle.std.specs.List.{prefix_len, Contains}
use Rattle.std.specs.Option.{ForSome, option_map}
use Rattle.std.specs.Ordering.{is_lt, is_eq, is_some_and}
use Rattle.std.specs.declared.cmp.Ordering.{Ordering}
use Rattle.std.specs.declared.cmp.Ordering.TheVariants.{Less, Equal, Greater}
use Rattle.rdb_base.specs.declared.value.Value.{Value}
use Rattle.rdb_pages.specs.declared.cell.CellRef.{CellRef}
use Rattle.rdb_cells.specs.Keys.{Version, version_order, key_order}
use Rattle.rdb_tree.specs.Order.{order_of_both}

-- the first so many pass, and the rest is still to be counted
abbrev pub AreCounted : (CellRef → Bool) → List CellRef → ℕ → Type 0
AreCounted passes rs count = prefix_len passes rs ≡ count + prefix_len passes (drop count rs)

module _ (passes : CellRef → Bool) (rs : List CellRef) (count : ℕ) (d : CellRef) (counted : AreCounted passes rs count) where
  pub one_more : count < length rs → passes (get_or rs count d) ≡ true → AreCounted passes rs (count + 1)
  one_more below one =
      let step = prefix_len-drop_yes passes rs count d below one in
      omega arith

  pub stops : count < length rs → passes (get_or rs count d) ≡ false → count ≡ prefix_len passes rs
  stops below one =
      let step = prefix_len-drop_no passes rs count d below one in
      omega arith

pub all_pass : (passes : CellRef → Bool) (rs : List CellRef) (count : ℕ) → AreCounted passes rs count → length rs ≤ count → count ≡ prefix_len passes rs
all_pass passes rs count counted past =
    let step = prefix_len-drop_all passes rs count past in
    omega arith

-- what an answer says of the order of two versions, and of a version against a key
pub ordered_both : (o p : Option Version) (r : Ordering) → IsSome o → IsSome p → ForSome o (λ v. ForSome p (λ w. r ≡ version_order v w)) → order_of_both o p ≡ Some r
ordered_both None p r some also order = absurd (false≢true some)
ordered_both (Some v) None r some also order = absurd (false≢true also)
ordered_both (Some v) (Some w) r some also order = λ i. Some (sym (order v refl w refl) i)

pub ordered_key : (o : Option Version) (key : List Value) (id : Option ℕ) (r : Ordering) → IsSome o → ForSome o (λ v. r ≡ key_order v key id) → option_map (λ v. key_order v key id) o ≡ Some r
ordered_key None key id r some order = absurd (false≢true some)
ordered_key (Some v) key id r some order = λ i. Some (sym (order v refl) i)

-- a test of such an answer
pub test_both : (test : Ordering → Bool) (o p : Option Version) (r : Ordering) → IsSome o → IsSome p → ForSome o (λ v. ForSome p (λ w. r ≡ version_order v w)) → is_some_and test (order_of_both o p) ≡ test r
test_both test o p r some also order = ap (is_some_and test) (ordered_both o p r some also order)

pub test_key : (test : Ordering → Bool) (o : Option Version) (key : List Value) (id : Option ℕ) (r : Ordering) → IsSome o → ForSome o (λ v. r ≡ key_order v key id) → is_some_and test (option_map (λ v. key_order v key id) o) ≡ test r
test_key test o key id r some order = ap (is_some_and test) (ordered_key o key id r some order)

pub not_less : (o : Ordering) → (¬ (o ≡ Less)) → is_lt o ≡ false
not_less Less other = absurd (other refl)
not_less Equal other = refl
not_less Greater other = refl

pub not_equal : (o : Ordering) → (¬ (o ≡ Equal)) → is_eq o ≡ false
not_equal Less other = refl
not_equal Equal other = absurd (other refl)
not_equal Greater other = refl

-- a version of a row is one of it
pub within : (rs : List CellRef) (count : ℕ) (d : CellRef) → count < length rs → Contains rs (get_or rs count d)
within rs count d below = Contains-get_or rs count d below

pub none_near : (rs : List CellRef) → 0 ≡ prefix_len (λ r. false) rs
none_near [] = refl
none_near (r ∷ rs) = refl

pub all_near : (rs : List CellRef) → length rs ≡ prefix_len (λ r. true) rs
all_near [] = refl
all_near (r ∷ rs) = let others = all_near rs in omega arith
