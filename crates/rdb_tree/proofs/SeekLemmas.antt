-- The first version past a place, among keys that are woven with what stands between them.
use Rattle.std.proofs.Common.{◌≡◌, ◌≤◌, ◌+◌, ◌-◌, zero, suc, ℕ, List, [], ◌∷◌, ◌++◌, length, take, get_or, slice_get, cond, Option, Some, None, Bool, true, false, not, refl, sym, ap, ap₂, subst, ◌∙◌, arith}
use Rattle.std.proofs.lemmas.Bool.{false≢true}
use Rattle.std.proofs.lemmas.List.{append-nil}
use Rattle.std.proofs.lemmas.List.Elements.{filter-append}
use Rattle.std.specs.List.{filter, prefix_len, last_or}
use Rattle.rdb_pages.specs.declared.cell.CellRef.{CellRef}
use Rattle.rdb_tree.specs.Lookups.{first_met, first_of, key_beyond}
use Rattle.rdb_tree.specs.Trees.{Each, woven}
use Rattle.rdb_tree.specs.Ways.{IsCut}
use Rattle.rdb_tree.proofs.WovenLemmas.{each_front, each_back}

abbrev pub sought : (CellRef → Bool) → Bool → CellRef → Bool
sought near true r = not (near r)
sought near false r = near r

-- the version that is met first beyond a cut
abbrev pub beyond : (CellRef → Bool) → Bool → List CellRef → Option CellRef
beyond near up rs = first_met up (filter (sought near up) rs)

pub first_none : (o : Option CellRef) → first_of o None ≡ o
first_none None = refl
first_none (Some r) = refl

first_again : (o p q : Option CellRef) → first_of (first_of o p) q ≡ first_of o (first_of p q)
first_again None p q = refl
first_again (Some r) p q = refl

pub first_assoc : (o p q : Option CellRef) → first_of (first_of o p) q ≡ first_of o (first_of p q)
first_assoc = first_again

-- the first and the last of two lists
get_first : (xs ys : List CellRef) → slice_get (xs ++ ys) 0 ≡ first_of (slice_get xs 0) (slice_get ys 0)
get_first [] ys = refl
get_first (x ∷ xs) ys = refl

last_from : (o : Option CellRef) (xs : List CellRef) → last_or o xs ≡ first_of (last_or None xs) o
last_from o [] = refl
last_from o (x ∷ xs) = last_some x xs o
  where
    last_some : (x : CellRef) (xs : List CellRef) (o : Option CellRef) → last_or (Some x) xs ≡ first_of (last_or (Some x) xs) o
    last_some x [] o = refl
    last_some x (y ∷ ys) o = last_some y ys o

last_both : (o : Option CellRef) (xs ys : List CellRef) → last_or o (xs ++ ys) ≡ last_or (last_or o xs) ys
last_both o [] ys = refl
last_both o (x ∷ xs) ys = last_both (Some x) xs ys

-- the last is the one at the last place
pub last_at : (xs : List CellRef) → last_or None xs ≡ slice_get xs (length xs - 1)
last_at [] = refl
last_at (x ∷ xs) =
    let place : length xs ≡ suc (length xs) - 1 = omega arith in
    subst (λ (n : ℕ). last_or (Some x) xs ≡ slice_get (x ∷ xs) n) place (last_behind x xs)
  where
    last_behind : (x : CellRef) (xs : List CellRef) → last_or (Some x) xs ≡ slice_get (x ∷ xs) (length xs)
    last_behind x [] = refl
    last_behind x (y ∷ ys) = last_behind y ys

-- a filter that keeps all, and one that keeps none
module _ (test : CellRef → Bool) where
  pub keep_all : (xs : List CellRef) → Each (λ r. test r ≡ true) xs → filter test xs ≡ xs
  keep_all [] each = refl
  keep_all (x ∷ xs) each = ap (λ (b : Bool). cond b (x ∷ filter test xs) (filter test xs)) each.0 ∙ ap (λ (rest : List CellRef). x ∷ rest) (keep_all xs each.1)

  pub keep_none : (xs : List CellRef) → Each (λ r. test r ≡ false) xs → filter test xs ≡ []
  keep_none [] each = refl
  keep_none (x ∷ xs) each = ap (λ (b : Bool). cond b (x ∷ filter test xs) (filter test xs)) each.0 ∙ keep_none xs each.1

  pub keep_one : (x : CellRef) (xs : List CellRef) → test x ≡ true → filter test (x ∷ xs) ≡ x ∷ filter test xs
  keep_one x xs yes_ = ap (λ (b : Bool). cond b (x ∷ filter test xs) (filter test xs)) yes_

  keep_other : (x : CellRef) (xs : List CellRef) → test x ≡ false → filter test (x ∷ xs) ≡ filter test xs
  keep_other x xs no_ = ap (λ (b : Bool). cond b (x ∷ filter test xs) (filter test xs)) no_

module _ (near : CellRef → Bool) where
  not_near : (up : Bool) (xs : List CellRef) → Each (λ r. near r ≡ false) xs → Each (λ r. not (near r) ≡ true) xs
  not_near up [] each = tt
  not_near up (x ∷ xs) each = (ap not each.0, not_near up xs each.1)

  near_not : (xs : List CellRef) → Each (λ r. near r ≡ true) xs → Each (λ r. not (near r) ≡ false) xs
  near_not [] each = tt
  near_not (x ∷ xs) each = (ap not each.0, near_not xs each.1)

  -- before one on the near side all are
  pub all_before : (xs : List CellRef) (k : CellRef) (ys : List CellRef) → IsCut near (xs ++ k ∷ ys) → near k ≡ true → Each (λ r. near r ≡ true) xs
  all_before [] k ys cut near_k = tt
  all_before (x ∷ xs) k ys cut near_k = (by_test (near x) refl, all_before xs k ys cut.1 near_k)
    where
      by_test : (b : Bool) → near x ≡ b → near x ≡ true
      by_test true is = is
      by_test false is = absurd (false≢true (sym (each_back (λ r. near r ≡ false) xs (k ∷ ys) (cut.0 is)).0 ∙ near_k))

  pub cut_back : (xs ys : List CellRef) → IsCut near (xs ++ ys) → IsCut near ys
  cut_back [] ys cut = cut
  cut_back (x ∷ xs) ys cut = cut_back xs ys cut.1

  pub cut_front : (xs ys : List CellRef) → IsCut near (xs ++ ys) → IsCut near xs
  cut_front [] ys cut = tt
  cut_front (x ∷ xs) ys cut = ((λ far. each_front (λ r. near r ≡ false) xs ys (cut.0 far)), cut_front xs ys cut.1)

  -- a key that isn't on the near side
  far_up : (part : List CellRef) (k : CellRef) (rest : List CellRef) → near k ≡ false → beyond near true (part ++ k ∷ rest) ≡ first_of (beyond near true part) (Some k)
  far_up part k rest far =
      ap (λ (xs : List CellRef). slice_get xs 0) (filter-append (sought near true) part (k ∷ rest))
      ∙ get_first (filter (sought near true) part) (filter (sought near true) (k ∷ rest))
      ∙ ap (λ (xs : List CellRef). first_of (beyond near true part) (slice_get xs 0)) (keep_one (sought near true) k rest (ap not far))

  far_down : (part : List CellRef) (k : CellRef) (rest : List CellRef) → near k ≡ false → Each (λ r. near r ≡ false) rest → beyond near false (part ++ k ∷ rest) ≡ first_of (beyond near false part) None
  far_down part k rest far others =
      ap (last_or None) (filter-append (sought near false) part (k ∷ rest) ∙ ap (λ (xs : List CellRef). filter (sought near false) part ++ xs) (keep_none (sought near false) (k ∷ rest) (far, others)) ∙ append-nil (filter (sought near false) part))
      ∙ sym (first_none (beyond near false part))

  -- a key that is
  near_up : (part : List CellRef) (k : CellRef) (rest : List CellRef) → near k ≡ true → Each (λ r. near r ≡ true) part → beyond near true (part ++ k ∷ rest) ≡ beyond near true rest
  near_up part k rest near_k all =
      ap (λ (xs : List CellRef). slice_get xs 0)
      (filter-append (sought near true) part (k ∷ rest)
      ∙ ap₂ (λ (xs ys : List CellRef). xs ++ ys) (keep_none (sought near true) part (near_not part all)) (keep_other (sought near true) k rest (ap not near_k)))

  near_down : (part : List CellRef) (k : CellRef) (rest : List CellRef) → near k ≡ true → beyond near false (part ++ k ∷ rest) ≡ first_of (beyond near false rest) (Some k)
  near_down part k rest near_k =
      ap (last_or None) (filter-append (sought near false) part (k ∷ rest) ∙ ap (λ (xs : List CellRef). filter (sought near false) part ++ xs) (keep_one (sought near false) k rest near_k))
      ∙ last_both None (filter (sought near false) part) (k ∷ filter (sought near false) rest)
      ∙ last_from (Some k) (filter (sought near false) rest)

  -- a part, a key and what stands behind it
  module _ (part : List CellRef) (k : CellRef) (ks : List CellRef) (parts : List (List CellRef)) (cut : IsCut near (part ++ k ∷ woven ks parts)) where
    abbrev IsMet : Bool → ℕ → Type 0
    IsMet up n = beyond near up (part ++ k ∷ woven ks parts) ≡ first_of (beyond near up (get_or (part ∷ parts) n [])) (key_beyond up n (k ∷ ks))

    abbrev IsRest : Bool → Type 0
    IsRest up = beyond near up (woven ks parts) ≡ first_of (beyond near up (get_or parts (prefix_len near ks) [])) (key_beyond up (prefix_len near ks) ks)

    pub near_step : (up : Bool) → near k ≡ true → IsRest up → IsMet up (suc (prefix_len near ks))
    near_step true is rest = near_up part k (woven ks parts) is (all_before part k (woven ks parts) cut is) ∙ rest
    near_step false is rest =
        near_down part k (woven ks parts) is
        ∙ ap (λ (o : Option CellRef). first_of o (Some k)) rest
        ∙ first_again (beyond near false (get_or parts (prefix_len near ks) [])) (last_or None (take (prefix_len near ks) ks)) (Some k)
        ∙ ap (first_of (beyond near false (get_or parts (prefix_len near ks) []))) (sym (last_from (Some k) (take (prefix_len near ks) ks)))

    pub far_step : (up : Bool) → near k ≡ false → IsMet up 0
    far_step true far = far_up part k (woven ks parts) far
    far_step false far = far_down part k (woven ks parts) far ((cut_back part (k ∷ woven ks parts) cut).0 far)

    pub either_step : (up b : Bool) → near k ≡ b → IsRest up → IsMet up (cond b (1 + prefix_len near ks) 0)
    either_step up true is rest =
        let same : suc (prefix_len near ks) ≡ 1 + prefix_len near ks = omega arith in
        subst (IsMet up) same (near_step up is rest)
    either_step up false is rest = far_step up is

  nothing_there : (n : ℕ) → get_or {A = List CellRef} ([] ∷ []) n [] ≡ []
  nothing_there zero = refl
  nothing_there (suc n) = refl

  -- among keys woven with parts the version next to the cut stands in the part there, or else it is the key there
  pub step : (up : Bool) (keys : List CellRef) (parts : List (List CellRef)) → length parts ≤ length keys + 1 → IsCut near (woven keys parts) →
      beyond near up (woven keys parts) ≡ first_of (beyond near up (get_or parts (prefix_len near keys) [])) (key_beyond up (prefix_len near keys) keys)
  step true [] [] few cut = refl
  step false [] [] few cut = refl
  step true [] (p ∷ []) few cut = ap (beyond near true) (append-nil p) ∙ sym (first_none (beyond near true p))
  step false [] (p ∷ []) few cut = ap (beyond near false) (append-nil p) ∙ sym (first_none (beyond near false p))
  step up [] (p ∷ q ∷ ps) few cut = absurd (omega arith)
  step up (k ∷ ks) [] few cut =
      either_step [] k ks [] cut up (near k) refl (step up ks [] (omega arith) cut.1)
      ∙ ap (λ (p : List CellRef). first_of (beyond near up p) (key_beyond up (cond (near k) (1 + prefix_len near ks) 0) (k ∷ ks))) (nothing_there (cond (near k) (1 + prefix_len near ks) 0))
  step up (k ∷ ks) (p ∷ ps) few cut =
      either_step p k ks ps cut up (near k) refl (step up ks ps (omega arith) (cut_back p (k ∷ woven ks ps) cut).1)
