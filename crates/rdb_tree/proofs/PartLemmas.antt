-- Keys woven with what stands between them, taken apart and put together: what a split, a merge and a new child make of the versions.
use Rattle.std.proofs.Common.{◌≡◌, ◌+◌, zero, suc, ℕ, List, [], ◌∷◌, ◌++◌, length, take, drop, slice_get, Some, refl, sym, ap, ◌∙◌, arith}
use Rattle.std.proofs.lemmas.List.{append_assoc, append-nil}
use Rattle.rdb_pages.specs.declared.cell.CellRef.{CellRef}
use Rattle.rdb_tree.specs.Trees.{woven}

-- as many keys as parts in front
pub woven_append : (ks ls : List CellRef) (ps qs : List (List CellRef)) → length ks ≡ length ps → woven (ks ++ ls) (ps ++ qs) ≡ woven ks ps ++ woven ls qs
woven_append [] ls [] qs same = refl
woven_append [] ls (p ∷ ps) qs same = absurd (omega arith)
woven_append (k ∷ ks) ls [] qs same = absurd (omega arith)
woven_append (k ∷ ks) ls (p ∷ ps) qs same =
    ap (λ (rest : List CellRef). p ++ k ∷ rest) (woven_append ks ls ps qs (omega arith)) ∙ sym (append_assoc p (k ∷ woven ks ps) (woven ls qs))

-- two rows and a key between them: a split read one way, a merge the other
pub woven_between : (ks : List CellRef) (k : CellRef) (ls : List CellRef) (ps qs : List (List CellRef)) → length ps ≡ length ks + 1 → woven (ks ++ k ∷ ls) (ps ++ qs) ≡ woven ks ps ++ k ∷ woven ls qs
woven_between [] k ls [] qs same = absurd (omega arith)
woven_between [] k ls (p ∷ []) qs same = ap (λ (q : List CellRef). q ++ k ∷ woven ls qs) (sym (append-nil p))
woven_between [] k ls (p ∷ r ∷ ps) qs same = absurd (omega arith)
woven_between (j ∷ ks) k ls [] qs same = absurd (omega arith)
woven_between (j ∷ ks) k ls (p ∷ ps) qs same =
    ap (λ (rest : List CellRef). p ++ j ∷ rest) (woven_between ks k ls ps qs (omega arith)) ∙ sym (append_assoc p (j ∷ woven ks ps) (k ∷ woven ls qs))

-- keys alone
pub bare_between : (ks : List CellRef) (k : CellRef) (ls : List CellRef) → woven (ks ++ k ∷ ls) [] ≡ woven ks [] ++ k ∷ woven ls []
bare_between [] k ls = refl
bare_between (j ∷ ks) k ls = ap (λ (rest : List CellRef). j ∷ rest) (bare_between ks k ls)

-- What stands before and behind a part. With another part there, or with two parts and a key, the rest stays.
pub record IsParted (keys : List CellRef) (parts : List (List CellRef)) (n : ℕ) (part : List CellRef) : Type 0 where
  pub front : List CellRef
  pub back : List CellRef
  pub whole : woven keys parts ≡ front ++ (part ++ back)
  pub other : (p : List CellRef) → woven keys (take n parts ++ p ∷ drop (suc n) parts) ≡ front ++ (p ++ back)
  pub two : (p q : List CellRef) (k : CellRef) → woven (take n keys ++ k ∷ drop n keys) (take n parts ++ p ∷ q ∷ drop (suc n) parts) ≡ front ++ (p ++ k ∷ (q ++ back))

pub parted : (keys : List CellRef) (parts : List (List CellRef)) (n : ℕ) (part : List CellRef) → slice_get parts n ≡ Some part → length parts ≡ length keys + 1 → IsParted keys parts n part
parted keys [] n part at same = cc
parted [] (p ∷ []) zero part at same =
    let is : p ≡ part = cc in
    record {
      front = [];
      back = [];
      whole = ap (λ (q : List CellRef). q ++ []) is;
      other = λ q. refl;
      two = λ q r k. refl;
    }
parted [] (p ∷ []) (suc n) part at same = cc
parted [] (p ∷ q ∷ ps) n part at same = absurd (omega arith)
parted (k ∷ ks) (p ∷ ps) zero part at same =
    let is : p ≡ part = cc in
    record {
      front = [];
      back = k ∷ woven ks ps;
      whole = ap (λ (q : List CellRef). q ++ k ∷ woven ks ps) is;
      other = λ q. refl;
      two = λ q r j. refl;
    }
parted (k ∷ ks) (p ∷ ps) (suc n) part at same =
    let rest = parted ks ps n part at (omega arith) in
    record {
      front = p ++ k ∷ rest.front;
      back = rest.back;
      whole = ap (λ (w : List CellRef). p ++ k ∷ w) rest.whole ∙ sym (append_assoc p (k ∷ rest.front) (part ++ rest.back));
      other = λ q. ap (λ (w : List CellRef). p ++ k ∷ w) (rest.other q) ∙ sym (append_assoc p (k ∷ rest.front) (q ++ rest.back));
      two = λ q r j. ap (λ (w : List CellRef). p ++ k ∷ w) (rest.two q r j) ∙ sym (append_assoc p (k ∷ rest.front) (q ++ j ∷ (r ++ rest.back)));
    }
