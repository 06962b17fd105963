-- Beginnings of lists, and what a value that comes of another keeps.
use Rattle.std.proofs.Common.{◌≡◌, ℕ, ◌≤◌, List, [], ◌∷◌, ◌++◌, length, refl, ap, sym, subst, inl, inr, Contains, ◌∙◌, arith, append_assoc, append-nil, length-append}
use mathlib.Core.List.{IsPrefix}
use Rattle.rdb_base.specs.declared.chronicle.Chronicle.{Ghosts}
use Rattle.rdb_turn.specs.Rule.{Follows, FollowsAll, KeepsPart}

-- a list begins itself
pub begins_itself : {A : Type 0} (xs : List A) → IsPrefix xs xs
begins_itself xs = ([], append-nil xs)

pub begins_further : {A : Type 0} (xs ys zs : List A) → IsPrefix xs ys → IsPrefix ys zs → IsPrefix xs zs
begins_further {A = A} xs ys zs p q = (p.0 ++ q.0, sym (append_assoc xs p.0 q.0) ∙ (ap (λ (w : List A). w ++ q.0) p.1 ∙ q.1))

-- of two beginnings of a list, the one that is no longer begins the other
pub begins_longer : {A : Type 0} (xs ys zs : List A) → IsPrefix xs zs → IsPrefix ys zs → length xs ≤ length ys → IsPrefix xs ys
begins_longer [] ys zs p q le = (ys, refl)
begins_longer (x ∷ xs) [] zs p q le = absurd (omega arith)
begins_longer (x ∷ xs) (y ∷ ys) [] p q le = absurd (cc (p.1))
begins_longer (x ∷ xs) (y ∷ ys) (z ∷ zs) p q le =
    let same : x ≡ y = cc (p.1, q.1) in
    let rest = begins_longer xs ys zs (p.0, cc (p.1)) (q.0, cc (q.1)) (omega arith) in
    (rest.0, cc (same, rest.1))

pub begins_length : {A : Type 0} (xs ys : List A) → IsPrefix xs ys → length xs ≤ length ys
begins_length xs ys p = omega (arith, sym (ap length p.1) ∙ length-append xs p.0)

module _ {T E B P : Type 0} (c : Ghosts T E B P) where
  pub follows_itself : (a : T) → Follows c a a
  follows_itself a = (begins_itself (c.history a), refl)

  pub follows_further : (a b d : T) → Follows c a b → Follows c b d → Follows c a d
  follows_further a b d p q = (begins_further (c.history a) (c.history b) (c.history d) p.0 q.0, q.1 ∙ p.1)

  pub all_further : (xs : List T) (a b : T) → FollowsAll c xs a → Follows c a b → FollowsAll c xs b
  all_further [] a b h q = tt
  all_further (x ∷ xs) a b h q = (follows_further x a b h.0 q, all_further xs a b h.1 q)

  pub all_of_both : (xs ys : List T) (a : T) → FollowsAll c xs a → FollowsAll c ys a → FollowsAll c (xs ++ ys) a
  all_of_both [] ys a h k = k
  all_of_both (x ∷ xs) ys a h k = (h.0, all_of_both xs ys a h.1 k)

  -- of two values that one comes of, the one with the longer history comes of the other
  pub follows_between : (a b d : T) → Follows c a d → Follows c b d → length (c.history a) ≤ length (c.history b) → Follows c a b
  follows_between a b d p q le = (begins_longer (c.history a) (c.history b) (c.history d) p.0 q.0 le, sym q.1 ∙ p.1)

  -- what becomes of a part in two changes
  pub part_further : ((x y z : P) → c.later x y → c.later y z → c.later x z) → (a b d : T) (slot : ℕ) → (Contains (c.gone b) slot → Contains (c.gone d) slot) → KeepsPart c a b slot → KeepsPart c b d slot → KeepsPart c a d slot
  part_further again a b d slot grew (inl e) (inl f) = inl (f ∙ e)
  part_further again a b d slot grew (inl e) (inr l) = inr (l.0, subst (λ (p : P). c.later p (c.part d slot)) e l.1)
  part_further again a b d slot grew (inr k) (inl f) = inr (grew k.0, subst (λ (p : P). c.later (c.part a slot) p) (sym f) k.1)
  part_further again a b d slot grew (inr k) (inr l) = inr (l.0, again (c.part a slot) (c.part b slot) (c.part d slot) k.1 l.1)
