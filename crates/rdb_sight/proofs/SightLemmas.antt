-- What is seen, as versions are read one by one.
use Rattle.std.proofs.Common.{◌≡◌, ℕ, Bool, true, false, cond, ◌&&◌, ◌||◌, not, List, [], ◌∷◌, ◌++◌, Option, Some, None, is_some, refl, sym, ap, subst, ◌∙◌, arith}
use Rattle.std.specs.Prelude.{option_and_then}
use Rattle.std.specs.List.{find}
use Rattle.std.specs.Option.{option_map, option_or}
use Rattle.std.proofs.lemmas.Bool.Decides.{nat_tests}
use Rattle.std.proofs.lemmas.List.Folds.{find-append}
use Rattle.rdb_base.specs.declared.identity.TxId.{TxId}
use Rattle.rdb_base.specs.declared.identity.Stamp.{Stamp}
use Rattle.rdb_base.specs.declared.identity.Stamp.TheVariants as stamp
use Rattle.rdb_sight.specs.Sight.{is_own, commit_within, exceeds, greatest, seen, is_better}

-- the order of numbers that may be there
pub exceeds_more : (a b c : Option ℕ) → exceeds a c ≡ true → exceeds c b ≡ true → exceeds a b ≡ true
exceeds_more None b c e f = (cc)
exceeds_more (Some n) b None e f = (cc)
exceeds_more (Some n) None (Some k) e f = refl
exceeds_more (Some n) (Some m) (Some k) e f = grind (arith, nat_tests)

pub exceeds_less : (a b c : Option ℕ) → exceeds a c ≡ false → exceeds c b ≡ false → exceeds a b ≡ false
exceeds_less None b c e f = refl
exceeds_less (Some n) b None e f = (cc)
exceeds_less (Some n) None (Some k) e f = (cc)
exceeds_less (Some n) (Some m) (Some k) e f = grind (arith, nat_tests)

pub exceeds_back : (a b : Option ℕ) → exceeds a b ≡ true → exceeds b a ≡ false
exceeds_back None b e = (cc)
exceeds_back (Some n) None e = refl
exceeds_back (Some n) (Some m) e = grind (arith, nat_tests)

pub exceeds_itself : (a : Option ℕ) → exceeds a a ≡ false
exceeds_itself None = refl
exceeds_itself (Some n) = grind (arith, nat_tests)

pub exceeds_none : (a : Option ℕ) → exceeds a None ≡ is_some a
exceeds_none None = refl
exceeds_none (Some n) = refl

module _ {V : Type 0} where
  -- the number of an element, if it has one
  number_kept : (f : V → Option ℕ) (v : V) (n : Option ℕ) → f v ≡ n → option_and_then f (cond (is_some n) (Some v) None) ≡ n
  number_kept f v None e = refl
  number_kept f v (Some n) e = e

  -- the greatest of one element more
  pub greatest_more : (f : V → Option ℕ) (xs : List V) (x : V)
      → greatest f (xs ++ x ∷ []) ≡ cond (exceeds (f x) (option_and_then f (greatest f xs))) (Some x) (greatest f xs)
  greatest_more f [] x = ap (λ b. cond b (Some x) None) (sym (exceeds_none (f x)))
  greatest_more f (y ∷ ys) x =
      ap (λ r. cond (exceeds (option_and_then f r) (f y)) r (cond (is_some (f y)) (Some y) None)) (greatest_more f ys x)
      ∙ go (exceeds (f x) (option_and_then f (greatest f ys))) (exceeds (option_and_then f (greatest f ys)) (f y)) refl refl
    where
      rest : Option V
      rest = greatest f ys

      other : Option V
      other = cond (is_some (f y)) (Some y) None

      kept : option_and_then f other ≡ f y
      kept = number_kept f y (f y) refl

      go : (e1 e2 : Bool) → exceeds (f x) (option_and_then f rest) ≡ e1 → exceeds (option_and_then f rest) (f y) ≡ e2
          → cond (exceeds (option_and_then f (cond e1 (Some x) rest)) (f y)) (cond e1 (Some x) rest) other
          ≡ cond (exceeds (f x) (option_and_then f (cond e2 rest other))) (Some x) (cond e2 rest other)
      go true true e g =
          ap (λ b. cond b (Some x) other) (exceeds_more (f x) (f y) (option_and_then f rest) e g)
          ∙ sym (ap (λ b. cond b (Some x) rest) e)
      go true false e g = sym (ap (λ k. cond (exceeds (f x) k) (Some x) other) kept)
      go false true e g = ap (λ b. cond b rest other) g ∙ sym (ap (λ b. cond b (Some x) rest) e)
      go false false e g =
          ap (λ b. cond b rest other) g
          ∙ sym (ap (λ k. cond (exceeds (f x) k) (Some x) other) kept ∙ ap (λ b. cond b (Some x) other) (exceeds_less (f x) (f y) (option_and_then f rest) e g))

  -- the greatest has a number
  pub greatest_number : (f : V → Option ℕ) (xs : List V) (x : V) → greatest f xs ≡ Some x → is_some (f x) ≡ true
  greatest_number f [] x e = (cc)
  greatest_number f (y ∷ ys) x e =
      go (exceeds (option_and_then f (greatest f ys)) (f y)) (is_some (f y)) refl (greatest_number f ys x) e
    where
      go : (b c : Bool) → is_some (f y) ≡ c → (greatest f ys ≡ Some x → is_some (f x) ≡ true) → cond b (greatest f ys) (cond c (Some y) None) ≡ Some x → is_some (f x) ≡ true
      go true c h rest e = rest e
      go false true h rest e = let same : y ≡ x = (cc) in subst (λ z. is_some (f z) ≡ true) same h
      go false false h rest e = (cc)

  -- the first that passes a test passes it
  pub find_passes : (p : V → Bool) (xs : List V) (x : V) → find p xs ≡ Some x → p x ≡ true
  find_passes p [] x e = (cc)
  find_passes p (y ∷ ys) x e = go (p y) refl (find_passes p ys x) e
    where
      go : (b : Bool) → p y ≡ b → (find p ys ≡ Some x → p x ≡ true) → cond b (Some y) (find p ys) ≡ Some x → p x ≡ true
      go true h rest e = let same : y ≡ x = (cc) in subst (λ z. p z ≡ true) same h
      go false h rest e = rest e

-- a version of a commit is no reader's own
pub commit_not_own : (snapshot : ℕ) (own : Option TxId) (s : Stamp) → is_some (commit_within snapshot s) ≡ true → is_own own s ≡ false
commit_not_own snapshot None s e = refl
commit_not_own snapshot (Some tx) (stamp.Done n) e = refl
commit_not_own snapshot (Some tx) (stamp.By by) e = (cc)

module _ {V : Type 0} where
  -- what is seen of one version more is the better one
  pub seen_more : (stamp_of : V → Stamp) (snapshot : ℕ) (own : Option TxId) (versions : List V) (v : V)
      → seen stamp_of snapshot own (versions ++ v ∷ [])
      ≡ cond (is_better snapshot own (option_map stamp_of (seen stamp_of snapshot own versions)) (stamp_of v)) (Some v) (seen stamp_of snapshot own versions)
  seen_more stamp_of snapshot own versions v =
      ap (λ m. option_or m (greatest number (versions ++ v ∷ []))) (find-append is_mine versions (v ∷ []))
      ∙ ap (λ g. option_or (option_or (find is_mine versions) (cond (is_mine v) (Some v) None)) g) (greatest_more number versions v)
      ∙ go (find is_mine versions) (greatest number versions) refl refl
    where
      is_mine : V → Bool
      is_mine w = is_own own (stamp_of w)

      number : V → Option ℕ
      number w = commit_within snapshot (stamp_of w)

      better : (b c : Bool) (o : Option V) → option_or (cond b (Some v) None) (cond c (Some v) o) ≡ cond (b || c) (Some v) o
      better true c o = refl
      better false c o = refl

      go : (m g : Option V) → find is_mine versions ≡ m → greatest number versions ≡ g
          → option_or (option_or m (cond (is_mine v) (Some v) None)) (cond (exceeds (number v) (option_and_then number g)) (Some v) g)
          ≡ cond (is_better snapshot own (option_map stamp_of (option_or m g)) (stamp_of v)) (Some v) (option_or m g)
      go (Some y) g e h =
          sym (ap (λ b. cond (not b && (is_mine v || exceeds (number v) (number y))) (Some v) (Some y)) (find_passes is_mine versions y e))
      go None None e h =
          better (is_mine v) (exceeds (number v) None) None
          ∙ ap (λ b. cond (is_mine v || b) (Some v) None) (exceeds_none (number v))
      go None (Some z) e h =
          better (is_mine v) (exceeds (number v) (number z)) (Some z)
          ∙ sym (ap (λ b. cond (not b && (is_mine v || exceeds (number v) (number z))) (Some v) (Some z)) (commit_not_own snapshot own (stamp_of z) (greatest_number number versions z h)))
