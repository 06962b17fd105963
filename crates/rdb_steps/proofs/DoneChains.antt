-- A chain in which the one version of a transaction is stamped as done.
use Rattle.std.proofs.Common.{◌≡◌, ◌≢◌, ◌⊎◌, ◌++◌, ◌∷◌, ◌<◌, ℕ, zero, suc, List, [], Bool, true, false, cond, Option, Some, None, Contains, AllPairs, length, slice_index_or, refl, sym, ap, subst, ◌∙◌, arith, inl, inr}
use Rattle.std.specs.List.{AllByRecursion}
use Rattle.std.proofs.lemmas.Bool.{false≢true}
use Rattle.std.proofs.lemmas.List.Elements.{Contains-append_left, Contains-append_right, Contains-append_cases}
use Rattle.rdb_base.specs.declared.identity.Stamp.TheVariants as stamp
use Rattle.rdb_base.specs.declared.identity.TxId.{TxId}
use Rattle.rdb_cells.proofs.SettledLemmas.{true_or_false}
use Rattle.rdb_sight.specs.Sight.{is_own}
use Rattle.rdb_sight.specs.Versions.{Version, own_version}
use Rattle.rdb_store.specs.Stored.{ref_of}
use Rattle.rdb_steps.specs.Lists.{restamped}
use Rattle.rdb_steps.specs.Stamped.{AreOfTwo}
use Rattle.rdb_steps.specs.Steps.{done_by, done_version}
use Rattle.rdb_steps.proofs.OwnChains.{Pairs, not_both, own_is, own_itself, pairs_from, pairs_to}

-- the version as done
abbrev pub as_done : ℕ → Version → Version
as_done commit v = record v { stamp = stamp.Done commit }

-- The one version of a transaction in a chain: none before it, and none behind it.
pub record OneOwn (tx : TxId) (commit : ℕ) (chain : List Version) : Type 0 where
  pub newer : List Version
  pub version : Version
  pub older : List Version
  pub is : own_version tx chain ≡ Some version
  pub split : chain ≡ newer ++ version ∷ older
  pub done : done_by tx commit chain ≡ newer ++ as_done commit version ∷ older
  pub none : own_version tx (newer ++ as_done commit version ∷ older) ≡ None

-- behind the one version of a transaction there is none
none_behind : (tx : TxId) (v : Version) (vs : List Version) → v.stamp ≡ stamp.By tx → AllByRecursion (AreOfTwo v) vs → AllByRecursion (λ w. is_own (Some tx) w.stamp ≡ false) vs
none_behind tx v [] by apart = tt
none_behind tx v (w ∷ vs) by apart = (
  elim (true_or_false (is_own (Some tx) w.stamp)) [
    | inl e ↦ absurd (apart.0 tx by (own_is tx w.stamp e))
    | inr e ↦ e
  ],
  none_behind tx v vs by apart.1,
)

done_none : (tx : TxId) (commit : ℕ) (vs : List Version) → AllByRecursion (λ w. is_own (Some tx) w.stamp ≡ false) vs → done_by tx commit vs ≡ vs
done_none tx commit [] none = refl
done_none tx commit (v ∷ vs) none = λ i. cond (none.0 i) (as_done commit v) v ∷ done_none tx commit vs none.1 i

own_none : (tx : TxId) (vs : List Version) → AllByRecursion (λ w. is_own (Some tx) w.stamp ≡ false) vs → own_version tx vs ≡ None
own_none tx [] none = refl
own_none tx (v ∷ vs) none = (λ i. cond (none.0 i) (Some v) (own_version tx vs)) ∙ own_none tx vs none.1

one_from : (tx : TxId) (commit : ℕ) (found : Version) (chain : List Version) → Pairs AreOfTwo chain → own_version tx chain ≡ Some found → OneOwn tx commit chain
one_from tx commit found [] pairs is = absurd (let no : None ≡ Some found = is in cc)
one_from tx commit found (v ∷ vs) pairs is = go (is_own (Some tx) v.stamp) refl is (λ e. one_from tx commit found vs pairs.1 e)
  where
    go : (b : Bool) → is_own (Some tx) v.stamp ≡ b → cond (is_own (Some tx) v.stamp) (Some v) (own_version tx vs) ≡ Some found → (own_version tx vs ≡ Some found → OneOwn tx commit vs) → OneOwn tx commit (v ∷ vs)
    go true e here step = let none = none_behind tx v vs (own_is tx v.stamp e) pairs.0 in record {
      newer = [];
      version = v;
      older = vs;
      is = λ i. cond (e i) (Some v) (own_version tx vs);
      split = refl;
      done = λ i. cond (e i) (as_done commit v) v ∷ done_none tx commit vs none i;
      none = own_none tx vs none;
    }
    go false e here step = let rest = step (sym (λ i. cond (e i) (Some v) (own_version tx vs)) ∙ here) in record {
      newer = v ∷ rest.newer;
      version = rest.version;
      older = rest.older;
      is = (λ i. cond (e i) (Some v) (own_version tx vs)) ∙ rest.is;
      split = λ i. v ∷ rest.split i;
      done = λ i. cond (e i) (as_done commit v) v ∷ rest.done i;
      none = (λ i. cond (e i) (Some v) (own_version tx (rest.newer ++ as_done commit rest.version ∷ rest.older))) ∙ rest.none;
    }

pub one_own : (tx : TxId) (commit : ℕ) (found : Version) (chain : List Version) → AllPairs AreOfTwo chain → own_version tx chain ≡ Some found → OneOwn tx commit chain
one_own tx commit found chain once is = one_from tx commit found chain (pairs_from AreOfTwo chain once) is

-- another transaction's version stays
pub other_done : (tx other : TxId) (commit : ℕ) → other ≢ tx → (chain : List Version) → own_version other (done_by tx commit chain) ≡ own_version other chain
other_done tx other commit differs [] = refl
other_done tx other commit differs (v ∷ vs) = go (is_own (Some tx) v.stamp) refl (other_done tx other commit differs vs)
  where
    go : (b : Bool) → is_own (Some tx) v.stamp ≡ b → own_version other (done_by tx commit vs) ≡ own_version other vs →
        own_version other (cond (is_own (Some tx) v.stamp) (as_done commit v) v ∷ done_by tx commit vs) ≡ own_version other (v ∷ vs)
    go true e rest =
        (λ i. own_version other (cond (e i) (as_done commit v) v ∷ done_by tx commit vs))
        ∙ rest
        ∙ sym (λ i. cond (not_both tx other v.stamp differs e i) (Some v) (own_version other vs))
    go false e rest =
        (λ i. own_version other (cond (e i) (as_done commit v) v ∷ done_by tx commit vs))
        ∙ (λ i. cond (is_own (Some other) v.stamp) (Some v) (rest i))

-- what is so of each two of a list with a version, is so with that version as done
none_with : (v w : Version) (commit : ℕ) (front back : List Version) → AllByRecursion (AreOfTwo w) (front ++ v ∷ back) → AllByRecursion (AreOfTwo w) (front ++ as_done commit v ∷ back)
none_with v w commit [] back all = (λ tx by by_done. absurd (let no : stamp.Done commit ≡ stamp.By tx = by_done in cc), all.1)
none_with v w commit (x ∷ front) back all = (all.0, none_with v w commit front back all.1)

none_after : (v : Version) (commit : ℕ) (back : List Version) → AllByRecursion (AreOfTwo (as_done commit v)) back
none_after v commit [] = tt
none_after v commit (x ∷ back) = (λ tx by_done by. absurd (let no : stamp.Done commit ≡ stamp.By tx = by_done in cc), none_after v commit back)

pairs_done : (v : Version) (commit : ℕ) (front back : List Version) → Pairs AreOfTwo (front ++ v ∷ back) → Pairs AreOfTwo (front ++ as_done commit v ∷ back)
pairs_done v commit [] back pairs = (none_after v commit back, pairs.1)
pairs_done v commit (x ∷ front) back pairs = (none_with v x commit front back pairs.0, pairs_done v commit front back pairs.1)

pub once_done : (v : Version) (commit : ℕ) (newer older : List Version) → AllPairs AreOfTwo (newer ++ v ∷ older) → AllPairs AreOfTwo (newer ++ as_done commit v ∷ older)
once_done v commit newer older once = pairs_to AreOfTwo (newer ++ as_done commit v ∷ older) (pairs_done v commit newer older (pairs_from AreOfTwo (newer ++ v ∷ older) once))

-- a version of that chain is one of the chain, or the one that is done
pub within_done : (v w : Version) (commit : ℕ) (newer older : List Version) → Contains (newer ++ as_done commit v ∷ older) w → Contains (newer ++ v ∷ older) w ⊎ (w ≡ as_done commit v)
within_done v w commit newer older there = elim (Contains-append_cases newer (as_done commit v ∷ older) w there) [
  | inl front ↦ inl (Contains-append_left newer (v ∷ older) w front)
  | inr back ↦ elim (Contains-append_cases (as_done commit v ∷ []) older w back) [
    | inl here ↦ inr (sym (only_one (as_done commit v) w here))
    | inr behind ↦ inl (Contains-append_right newer (v ∷ older) w (Contains-append_right (v ∷ []) older w behind))
  ]
]
  where
    only_one : (v w : Version) → Contains (v ∷ []) w → v ≡ w
    only_one v w there = go there.0 there.1 there.2
      where
        go : (k : ℕ) → k < length (v ∷ []) → slice_index_or (v ∷ []) k w ≡ w → v ≡ w
        go zero lt is = is
        go (suc k) lt is = absurd (omega (arith, lt))

-- the version stands in its chain
pub within_split : (v : Version) (newer older : List Version) → Contains (newer ++ v ∷ older) v
within_split v newer older = Contains-append_right newer (v ∷ older) v (0, omega arith, refl)

pub some_split : (newer : List Version) (v : Version) (older : List Version) → newer ++ v ∷ older ≢ []
some_split [] v older e = cc
some_split (w ∷ newer) v older e = cc
