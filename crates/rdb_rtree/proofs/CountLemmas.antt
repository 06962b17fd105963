-- How often a number, or what has one, is listed: lists that list the same alike are one in another order.
use Rattle.std.proofs.Common.{◌≡◌, ◌≤◌, ◌+◌, ℕ, List, [], ◌∷◌, ◌++◌, cond, Bool, true, false, inl, inr, refl, sym, ap, subst, ◌∙◌, arith}
use Rattle.std.proofs.lemmas.List.Sorted.{IsPermutation-refl, IsPermutation-cons, IsPermutation-trans, IsPermutation-sym, IsPermutation-middle, sum_by-IsPermutation}
use Rattle.std.proofs.lemmas.List.Sums.{sum_by-cons, sum_by-append}
use Rattle.std.specs.List.{flat_map, sum_by}
use Rattle.std.specs.Prelude.{◌==◌, IsPermutation}
use borrow.Author.Tests.{eqb-true, eq-eqb, ne_eqb}
use Rattle.rdb_pages.specs.declared.cell.CellRef.{CellRef}
use Rattle.rdb_cells.specs.Links.{IsAmong, AreOnce}
use Rattle.rdb_cells.proofs.LinkLemmas.{among_or_not}

-- what a test counts
pub one_time : (b : Bool) → b ≡ true → cond {A = ℕ} b 1 0 ≡ 1
one_time b so = ap (λ (c : Bool). cond {A = ℕ} c 1 0) so

pub no_time : (b : Bool) → b ≡ false → cond {A = ℕ} b 1 0 ≡ 0
no_time b no_one = ap (λ (c : Bool). cond {A = ℕ} c 1 0) no_one

-- how often a number is that of an element
abbrev pub times : {X : Type 0} → (X → ℕ) → ℕ → List X → ℕ
times key k xs = sum_by (λ x. cond (key x == k) 1 0) xs

pub times_cons : {X : Type 0} (key : X → ℕ) (k : ℕ) (x : X) (xs : List X) → times key k (x ∷ xs) ≡ cond (key x == k) 1 0 + times key k xs
times_cons key k x xs = sum_by-cons (λ y. cond (key y == k) 1 0) x xs

pub times_append : {X : Type 0} (key : X → ℕ) (k : ℕ) (xs ys : List X) → times key k (xs ++ ys) ≡ times key k xs + times key k ys
times_append key k xs ys = sum_by-append (λ y. cond (key y == k) 1 0) xs ys

pub times_flat : {X Y : Type 0} (key : Y → ℕ) (k : ℕ) (f : X → List Y) (xs : List X) → times key k (flat_map f xs) ≡ sum_by (λ x. times key k (f x)) xs
times_flat key k f [] = refl
times_flat key k f (x ∷ xs) =
    times_append key k (f x) (flat_map f xs)
    ∙ ap (λ (n : ℕ). times key k (f x) + n) (times_flat key k f xs)
    ∙ sym (sum_by-cons (λ y. times key k (f y)) x xs)

pub same_times : {X : Type 0} (key : X → ℕ) (k : ℕ) (xs ys : List X) → IsPermutation xs ys → times key k xs ≡ times key k ys
same_times key k xs ys order = sym (sum_by-IsPermutation (λ y. cond (key y == k) 1 0) xs ys order)

pub flat_times : {X Y : Type 0} (key : Y → ℕ) (k : ℕ) (f : X → List Y) (xs ys : List X) → IsPermutation xs ys → times key k (flat_map f xs) ≡ times key k (flat_map f ys)
flat_times key k f xs ys order =
    times_flat key k f xs ∙ sym (sum_by-IsPermutation (λ x. times key k (f x)) xs ys order) ∙ sym (times_flat key k f ys)

-- an element with a number, and what stands around it
pub record IsPicked {X : Type 0} (key : X → ℕ) (k : ℕ) (xs : List X) : Type 0 where
  pub front : List X
  pub one : X
  pub back : List X
  pub is : xs ≡ front ++ one ∷ back
  pub same : key one ≡ k

pub picked : {X : Type 0} (key : X → ℕ) (k : ℕ) (xs : List X) → 1 ≤ times key k xs → IsPicked key k xs
picked key k [] some = absurd (omega arith)
picked {X} key k (x ∷ xs) some = by_test (key x == k) refl (picked key k xs)
  where
    by_test : (b : Bool) → (key x == k) ≡ b → (1 ≤ times key k xs → IsPicked key k xs) → IsPicked key k (x ∷ xs)
    by_test true e later = record { front = []; one = x; back = xs; is = refl; same = eqb-true (key x) k e }
    by_test false e later =
        let none = no_time (key x == k) e in
        let all = times_cons key k x xs in
        let rest = later (omega arith) in
        record { front = x ∷ rest.front; one = rest.one; back = rest.back; is = ap (λ (ys : List X). x ∷ ys) rest.is; same = rest.same }

one_at_least : {X : Type 0} (key : X → ℕ) (x : X) (xs : List X) → 1 ≤ times key (key x) (x ∷ xs)
one_at_least key x xs =
    let one = one_time (key x == key x) (eq-eqb (key x) (key x) refl) in
    let all = times_cons key (key x) x xs in
    omega arith

-- lists that list each number as often
pub permutes : {X : Type 0} (key : X → ℕ) → ((x y : X) → key x ≡ key y → x ≡ y) → (xs ys : List X) → ((k : ℕ) → times key k xs ≡ times key k ys) → IsPermutation xs ys
permutes key same [] [] alike = IsPermutation-refl []
permutes key same [] (y ∷ ys) alike = absurd (let one = one_at_least key y ys in let none = alike (key y) in omega arith)
permutes {X} key same (x ∷ xs) ys alike =
    let here = picked key (key x) ys (let one = one_at_least key x xs in let both = alike (key x) in omega arith) in
    let is : ys ≡ here.front ++ x ∷ here.back = here.is ∙ ap (λ (y : X). here.front ++ y ∷ here.back) (same here.one x here.same) in
    let rest = permutes key same xs (here.front ++ here.back) (λ k.
    let both = alike k in
    let split = ap (times key k) is in
    let first = times_cons key k x xs in
    let whole = times_append key k here.front (x ∷ here.back) in
    let behind = times_cons key k x here.back in
    let without = times_append key k here.front here.back in
    omega arith) in
    subst (IsPermutation (x ∷ xs)) (sym is)
    (IsPermutation-trans (x ∷ xs) (x ∷ (here.front ++ here.back)) (here.front ++ x ∷ here.back)
    (IsPermutation-cons x xs (here.front ++ here.back) rest)
    (IsPermutation-sym (here.front ++ x ∷ here.back) (x ∷ (here.front ++ here.back)) (IsPermutation-middle here.front x here.back)))

-- how often a number is among numbers
abbrev pub count : ℕ → List ℕ → ℕ
count n ns = times (λ (m : ℕ). m) n ns

pub count_cons : (n m : ℕ) (ms : List ℕ) → count n (m ∷ ms) ≡ cond (m == n) 1 0 + count n ms
count_cons n m ms = times_cons (λ (i : ℕ). i) n m ms

pub count_append : (n : ℕ) (xs ys : List ℕ) → count n (xs ++ ys) ≡ count n xs + count n ys
count_append n xs ys = times_append (λ (i : ℕ). i) n xs ys

pub count_same : (n : ℕ) (xs ys : List ℕ) → IsPermutation xs ys → count n xs ≡ count n ys
count_same n xs ys order = same_times (λ (i : ℕ). i) n xs ys order

pub numbers_permute : (xs ys : List ℕ) → ((n : ℕ) → count n xs ≡ count n ys) → IsPermutation xs ys
numbers_permute xs ys alike = permutes (λ (i : ℕ). i) (λ x y same. same) xs ys alike

pub out_count : (ns : List ℕ) (n : ℕ) → (¬ IsAmong ns n) → count n ns ≡ 0
out_count [] n out = refl
out_count (m ∷ ms) n out =
    let none = no_time (m == n) (ne_eqb m n (λ same. out (inl same))) in
    let all = count_cons n m ms in
    let rest = out_count ms n (λ within. out (inr within)) in
    omega arith

pub among_count : (ns : List ℕ) (n : ℕ) → IsAmong ns n → 1 ≤ count n ns
among_count (m ∷ ms) n (inl same) =
    let one = one_time (m == n) (eq-eqb m n same) in
    let all = count_cons n m ms in
    omega arith
among_count (m ∷ ms) n (inr within) =
    let all = count_cons n m ms in
    let rest = among_count ms n within in
    omega arith
among_count [] n within = absurd within

pub count_among : (ns : List ℕ) (n : ℕ) → 1 ≤ count n ns → IsAmong ns n
count_among ns n some = elim (among_or_not ns n) [
  | inl within ↦ within
  | inr out ↦ absurd (let none = out_count ns n out in omega arith)
]

pub once_count : (ns : List ℕ) (n : ℕ) → AreOnce ns → count n ns ≤ 1
once_count [] n once = omega arith
once_count (m ∷ ms) n once = elim (among_or_not ms n) [
  | inl within ↦
      let apart = no_time (m == n) (ne_eqb m n (λ same. once.0 (subst (IsAmong ms) (sym same) within))) in
      let all = count_cons n m ms in
      let rest = once_count ms n once.1 in
      omega arith
  | inr out ↦
      let all = count_cons n m ms in
      let none = out_count ms n out in
      let first = one_at_most (m == n) in
      omega arith
]
  where
    one_at_most : (b : Bool) → cond b 1 0 ≤ 1
    one_at_most true = omega arith
    one_at_most false = omega arith

pub count_once : (ns : List ℕ) → ((n : ℕ) → count n ns ≤ 1) → AreOnce ns
count_once [] most = tt
count_once (m ∷ ms) most = (
  λ within.
      let one = one_time (m == m) (eq-eqb m m refl) in
      let all = count_cons m m ms in
      let again = among_count ms m within in
      let few = most m in
      absurd (omega arith),
  count_once ms (λ n. let all = count_cons n m ms in let few = most n in omega arith),
)

-- how often a version is among versions
abbrev pub listed : ℕ → List CellRef → ℕ
listed k rs = times (λ (r : CellRef). r.number) k rs

pub listed_cons : (k : ℕ) (r : CellRef) (rs : List CellRef) → listed k (r ∷ rs) ≡ cond (r.number == k) 1 0 + listed k rs
listed_cons k r rs = times_cons (λ (q : CellRef). q.number) k r rs

pub listed_append : (k : ℕ) (xs ys : List CellRef) → listed k (xs ++ ys) ≡ listed k xs + listed k ys
listed_append k xs ys = times_append (λ (q : CellRef). q.number) k xs ys

pub listed_same : (k : ℕ) (xs ys : List CellRef) → IsPermutation xs ys → listed k xs ≡ listed k ys
listed_same k xs ys order = same_times (λ (q : CellRef). q.number) k xs ys order

pub versions_permute : (xs ys : List CellRef) → ((k : ℕ) → listed k xs ≡ listed k ys) → IsPermutation xs ys
versions_permute xs ys alike = permutes (λ (q : CellRef). q.number) (λ x y same i. record { number = same i }) xs ys alike
