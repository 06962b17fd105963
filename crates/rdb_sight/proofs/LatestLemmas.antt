-- What is seen is a version of the chain, and none other is to be seen in its place.
use Rattle.std.proofs.Common.{◌≡◌, ℕ, suc, Bool, true, false, cond, ◌⊎◌, inl, inr, List, [], ◌∷◌, Option, Some, None, is_some, Contains, refl, sym, subst, ◌∙◌, arith}
use Rattle.std.specs.Prelude.{option_and_then}
use Rattle.std.specs.List.{find, AllByRecursion}
use Rattle.std.specs.Option.{option_or}
use Rattle.std.proofs.lemmas.List.Elements.{All-from_recursion}
use Rattle.rdb_base.specs.declared.identity.TxId.{TxId}
use Rattle.rdb_sight.specs.Sight.{is_own, commit_within, exceeds, greatest}
use Rattle.rdb_sight.specs.Versions.{Version, Marks, counted, version_seen, IsLatest, SeesNone}
use Rattle.rdb_sight.proofs.SightLemmas.{exceeds_back, exceeds_itself, exceeds_less, greatest_number, find_passes}

module _ {V : Type 0} where
  one_more : (x y : V) (xs : List V) → Contains xs y → Contains (x ∷ xs) y
  one_more x y xs c = (suc c.0, omega (arith, c.1), c.2)

  find_there : (p : V → Bool) (xs : List V) (v : V) → find p xs ≡ Some v → Contains xs v
  find_there p [] v e = (cc)
  find_there p (x ∷ xs) v e = go (p x) e (find_there p xs v)
    where
      go : (b : Bool) → cond b (Some x) (find p xs) ≡ Some v → (find p xs ≡ Some v → Contains xs v) → Contains (x ∷ xs) v
      go true e rest = let same : x ≡ v = (cc) in (0, omega arith, same)
      go false e rest = one_more x v xs (rest e)

  greatest_there : (f : V → Option ℕ) (xs : List V) (v : V) → greatest f xs ≡ Some v → Contains xs v
  greatest_there f [] v e = (cc)
  greatest_there f (x ∷ xs) v e = go (exceeds (option_and_then f (greatest f xs)) (f x)) (is_some (f x)) e (greatest_there f xs v)
    where
      go : (b c : Bool) → cond b (greatest f xs) (cond c (Some x) None) ≡ Some v → (greatest f xs ≡ Some v → Contains xs v) → Contains (x ∷ xs) v
      go true c e rest = one_more x v xs (rest e)
      go false true e rest = let same : x ≡ v = (cc) in (0, omega arith, same)
      go false false e rest = (cc)

  single_number : (f : V → Option ℕ) (x : V) (n : Option ℕ) → f x ≡ n → option_and_then f (cond (is_some n) (Some x) None) ≡ n
  single_number f x None e = refl
  single_number f x (Some n) e = e

  none_exceeds : (f : V → Option ℕ) (n m : Option ℕ) (xs : List V) → exceeds n m ≡ false → AllByRecursion (λ w. exceeds (f w) n ≡ false) xs → AllByRecursion (λ w. exceeds (f w) m ≡ false) xs
  none_exceeds f n m [] e all = tt
  none_exceeds f n m (x ∷ xs) e all = (exceeds_less (f x) m n all.0 e, none_exceeds f n m xs e all.1)

  greatest_is : (f : V → Option ℕ) (xs : List V) → AllByRecursion (λ w. exceeds (f w) (option_and_then f (greatest f xs)) ≡ false) xs
  greatest_is f [] = tt
  greatest_is f (x ∷ xs) = go (exceeds (option_and_then f (greatest f xs)) (f x)) refl (greatest_is f xs)
    where
      go : (b : Bool) → exceeds (option_and_then f (greatest f xs)) (f x) ≡ b → AllByRecursion (λ w. exceeds (f w) (option_and_then f (greatest f xs)) ≡ false) xs
          → AllByRecursion (λ w. exceeds (f w) (option_and_then f (cond b (greatest f xs) (cond (is_some (f x)) (Some x) None))) ≡ false) (x ∷ xs)
      go true e rest = (exceeds_back (option_and_then f (greatest f xs)) (f x) e, rest)
      go false e rest =
          subst (λ (n : Option ℕ). AllByRecursion (λ w. exceeds (f w) n ≡ false) (x ∷ xs)) (sym (single_number f x (f x) refl))
          (exceeds_itself (f x), none_exceeds f (option_and_then f (greatest f xs)) (f x) xs e rest)

  none_passes : (p : V → Bool) (xs : List V) → find p xs ≡ None → AllByRecursion (λ w. p w ≡ false) xs
  none_passes p [] e = tt
  none_passes p (x ∷ xs) e = go (p x) refl e (none_passes p xs)
    where
      go : (b : Bool) → p x ≡ b → cond b (Some x) (find p xs) ≡ None → (find p xs ≡ None → AllByRecursion (λ w. p w ≡ false) xs) → AllByRecursion (λ w. p w ≡ false) (x ∷ xs)
      go true f e rest = (cc)
      go false f e rest = (f, rest e)

  none_greatest : (f : V → Option ℕ) (xs : List V) → AllByRecursion (λ w. exceeds (f w) None ≡ false) xs → AllByRecursion (λ w. f w ≡ None) xs
  none_greatest f [] all = tt
  none_greatest f (x ∷ xs) all = (go (f x) refl all.0, none_greatest f xs all.1)
    where
      go : (n : Option ℕ) → f x ≡ n → exceeds n None ≡ false → f x ≡ None
      go None e h = e
      go (Some n) e h = (cc)

module _ (marks : Marks) (snapshot : ℕ) (own : Option TxId) (chain : List Version) where
  pub seen_there : (v : Version) → version_seen marks snapshot own chain ≡ Some v → Contains chain v
  seen_there v e = go (find (λ w. is_own own (counted marks w.stamp)) chain) refl e
    where
      go : (m : Option Version) → find (λ w. is_own own (counted marks w.stamp)) chain ≡ m → option_or m (greatest (λ w. commit_within snapshot (counted marks w.stamp)) chain) ≡ Some v → Contains chain v
      go None f e = greatest_there (λ w. commit_within snapshot (counted marks w.stamp)) chain v e
      go (Some w) f e = find_there (λ x. is_own own (counted marks x.stamp)) chain v (f ∙ e)

  pub seen_found : (v : Version) → version_seen marks snapshot own chain ≡ Some v → (is_own own (counted marks v.stamp) ≡ true) ⊎ IsLatest marks snapshot own chain v
  seen_found v e = go (find (λ w. is_own own (counted marks w.stamp)) chain) refl e
    where
      go : (m : Option Version) → find (λ w. is_own own (counted marks w.stamp)) chain ≡ m → option_or m (greatest (λ w. commit_within snapshot (counted marks w.stamp)) chain) ≡ Some v
          → (is_own own (counted marks v.stamp) ≡ true) ⊎ IsLatest marks snapshot own chain v
      go (Some w) f e = inl (find_passes (λ x. is_own own (counted marks x.stamp)) chain v (f ∙ e))
      go None f e = inr (record {
        none_own = All-from_recursion (λ w. is_own own (counted marks w.stamp) ≡ false) chain (none_passes (λ w. is_own own (counted marks w.stamp)) chain f);
        within = greatest_number (λ w. commit_within snapshot (counted marks w.stamp)) chain v e;
        latest = All-from_recursion (λ w. exceeds (commit_within snapshot (counted marks w.stamp)) (commit_within snapshot (counted marks v.stamp)) ≡ false) chain
            (subst (λ (o : Option Version). AllByRecursion (λ w. exceeds (commit_within snapshot (counted marks w.stamp)) (option_and_then (λ x. commit_within snapshot (counted marks x.stamp)) o) ≡ false) chain) e
            (greatest_is (λ w. commit_within snapshot (counted marks w.stamp)) chain));
      })

  pub seen_none : version_seen marks snapshot own chain ≡ None → SeesNone marks snapshot own chain
  seen_none e = go (find (λ w. is_own own (counted marks w.stamp)) chain) refl e
    where
      go : (m : Option Version) → find (λ w. is_own own (counted marks w.stamp)) chain ≡ m → option_or m (greatest (λ w. commit_within snapshot (counted marks w.stamp)) chain) ≡ None → SeesNone marks snapshot own chain
      go (Some w) f e = (cc)
      go None f e = record {
        none_own = All-from_recursion (λ w. is_own own (counted marks w.stamp) ≡ false) chain (none_passes (λ w. is_own own (counted marks w.stamp)) chain f);
        none_within = All-from_recursion (λ w. commit_within snapshot (counted marks w.stamp) ≡ None) chain (none_greatest (λ w. commit_within snapshot (counted marks w.stamp)) chain
            (subst (λ (o : Option Version). AllByRecursion (λ w. exceeds (commit_within snapshot (counted marks w.stamp)) (option_and_then (λ x. commit_within snapshot (counted marks x.stamp)) o) ≡ false) chain) e
            (greatest_is (λ w. commit_within snapshot (counted marks w.stamp)) chain)));
      }
