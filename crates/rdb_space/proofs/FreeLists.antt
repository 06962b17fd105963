-- The free cells of a class as one list, page by page.
use Rattle.std.proofs.Common.{◌≡◌, ◌<◌, ◌≤◌, ◌⊎◌, ◌+◌, ◌*◌, ◌^◌, ◌==◌, ℕ, zero, suc, List, [], ◌∷◌, ◌++◌, length, map, Bool, true, false, not, cond, Option, Some, None, IsSome, is_some, slice_get, sum_by, count_by, count_ones, inl, inr, refl, sym, ap, subst, ◌∙◌, arith}
use Rattle.std.specs.Ordering.{nat_cmp}
use Rattle.std.specs.declared.cmp.Ordering.TheVariants.{Less, Equal, Greater}
use Rattle.std.specs.List.{AllByRecursion}
use Rattle.std.specs.List.Sorted.{IsStrictlySortedBy}
use Rattle.std.proofs.lemmas.Bool.{cases_lt, lt-ltb, false≢true}
use Rattle.std.proofs.lemmas.List.{length-append}
use Rattle.std.proofs.lemmas.List.Sums.{sum_by-cons}
use Rattle.rdb_pages.specs.declared.cell.Cell.{Cell}
use Rattle.rdb_space.specs.declared.page.PageState.{PageState}
use Rattle.rdb_space.specs.Memory.{is_zero_cell, unowned_in, Agrees}
use Rattle.rdb_space.specs.Space.{room_of, room_in}
use Rattle.rdb_space.specs.Tables.{owns, free_in}
use Rattle.rdb_space.proofs.ImageLemmas.{Held, ones_are}

-- a list of the numbers in a range that have a property, ascending
pub record IsPart (P : ℕ → Type 0) (low high : ℕ) (free : List ℕ) : Type 0 where
  pub sorted : IsStrictlySortedBy nat_cmp free
  pub within : (i n : ℕ) → slice_get free i ≡ Some n → (low ≤ n) × (n < high)
  pub have : (i n : ℕ) → slice_get free i ≡ Some n → P n
  pub all : (n : ℕ) → low ≤ n → n < high → P n → (i : ℕ) × (slice_get free i ≡ Some n)

all_from : (Q : ℕ → Type 0) (xs : List ℕ) → ((i n : ℕ) → slice_get xs i ≡ Some n → Q n) → AllByRecursion Q xs
all_from Q [] f = tt
all_from Q (x ∷ xs) f = (f 0 x refl, all_from Q xs (λ i n e. f (suc i) n e))

sorted_nil : IsStrictlySortedBy nat_cmp []
unfolding IsStrictlySortedBy
sorted_nil = tt

single : (k : ℕ) → IsStrictlySortedBy nat_cmp (k ∷ [])
unfolding IsStrictlySortedBy
single k = (tt, tt)

less : (a b : ℕ) → a < b → nat_cmp a b ≡ Less
less a b lt = ap (λ (t : Bool). cond t Less (cond (a == b) Equal Greater)) (lt-ltb a b lt)

all_append : (Q : ℕ → Type 0) (xs ys : List ℕ) → AllByRecursion Q xs → AllByRecursion Q ys → AllByRecursion Q (xs ++ ys)
all_append Q [] ys a b = b
all_append Q (x ∷ xs) ys a b = (a.0, all_append Q xs ys a.1 b)

sorted_append : (xs ys : List ℕ) (middle : ℕ) → IsStrictlySortedBy nat_cmp xs → IsStrictlySortedBy nat_cmp ys → ((i n : ℕ) → slice_get xs i ≡ Some n → n < middle) → ((i n : ℕ) → slice_get ys i ≡ Some n → middle ≤ n) → IsStrictlySortedBy nat_cmp (xs ++ ys)
unfolding IsStrictlySortedBy
sorted_append [] ys middle s t below above = t
sorted_append (x ∷ xs) ys middle s t below above =
    let first = below 0 x refl in (
      all_append (λ y. nat_cmp x y ≡ Less) xs ys s.0 (all_from (λ y. nat_cmp x y ≡ Less) ys (λ i n e. let high = above i n e in less x n (omega arith))),
      sorted_append xs ys middle s.1 t (λ i n e. below (suc i) n e) above,
    )

at_left : (xs ys : List ℕ) (i n : ℕ) → slice_get xs i ≡ Some n → slice_get (xs ++ ys) i ≡ Some n
at_left [] ys i n e = absurd cc
at_left (x ∷ xs) ys zero n e = e
at_left (x ∷ xs) ys (suc i) n e = at_left xs ys i n e

at_right : (xs ys : List ℕ) (i n : ℕ) → slice_get ys i ≡ Some n → (j : ℕ) × (slice_get (xs ++ ys) j ≡ Some n)
at_right [] ys i n e = (i, e)
at_right (x ∷ xs) ys i n e = let rest = at_right xs ys i n e in (suc rest.0, rest.1)

at_either : (xs ys : List ℕ) (i n : ℕ) → slice_get (xs ++ ys) i ≡ Some n → ((j : ℕ) × (slice_get xs j ≡ Some n)) ⊎ ((j : ℕ) × (slice_get ys j ≡ Some n))
at_either [] ys i n e = inr (i, e)
at_either (x ∷ xs) ys zero n e = inl (0, e)
at_either (x ∷ xs) ys (suc i) n e = elim (at_either xs ys i n e) [
  | inl left ↦ inl (suc left.0, left.1)
  | inr right ↦ inr right
]

module _ (P : ℕ → Type 0) where
  pub part_none : (low high : ℕ) → ((n : ℕ) → low ≤ n → n < high → ¬ P n) → IsPart P low high []
  part_none low high none = record {
    sorted = sorted_nil;
    within = λ i n e. absurd cc;
    have = λ i n e. absurd cc;
    all = λ n above below p. absurd (none n above below p);
  }

  pub part_one : (n : ℕ) → P n → IsPart P n (n + 1) (n ∷ [])
  part_one n p = record {
    sorted = single n;
    within = λ i k e. let same = at_one i k e in (omega arith, omega arith);
    have = λ i k e. subst P (at_one i k e) p;
    all = λ k above below q. let same : n ≡ k = omega arith in (0, ap Some same);
  }
    where
      at_one : (i k : ℕ) → slice_get (n ∷ []) i ≡ Some k → n ≡ k
      at_one zero k e = cc
      at_one (suc i) k e = absurd cc

  pub part_append : (low middle high : ℕ) (xs ys : List ℕ) → low ≤ middle → middle ≤ high → IsPart P low middle xs → IsPart P middle high ys → IsPart P low high (xs ++ ys)
  part_append low middle high xs ys a b left right = record {
    sorted = sorted_append xs ys middle left.sorted right.sorted (λ i n e. (left.within i n e).1) (λ i n e. (right.within i n e).0);
    within = λ i n e. elim (at_either xs ys i n e) [
      | inl l ↦ let h = left.within l.0 n l.1 in (h.0, below_high n middle high h.1 b)
      | inr r ↦ let h = right.within r.0 n r.1 in (above_low low middle n a h.0, h.1)
    ];
    have = λ i n e. elim (at_either xs ys i n e) [
      | inl l ↦ left.have l.0 n l.1
      | inr r ↦ right.have r.0 n r.1
    ];
    all = λ n above below p. elim (cases_lt n middle) [
      | inl l ↦ let found = left.all n above l p in (found.0, at_left xs ys found.0 n found.1)
      | inr r ↦ let found = right.all n r below p in at_right xs ys found.0 n found.1
    ];
  }
    where
      below_high : (n m h : ℕ) → n < m → m ≤ h → n < h
      below_high n m h c d = omega arith

      above_low : (l m n : ℕ) → l ≤ m → m ≤ n → l ≤ n
      above_low l m n c d = omega arith

-- the numbers of the free cells of a page, by that of its first cell
abbrev pub free_places : ℕ → List Cell → List ℕ
free_places n [] = []
free_places n (cell ∷ cells) = cond (is_zero_cell cell) (n ∷ []) [] ++ free_places (n + 1) cells

count_places : (n : ℕ) (cells : List Cell) → length (free_places n cells) ≡ count_by is_zero_cell cells
count_places n [] = refl
count_places n (cell ∷ cells) =
    length-append (cond (is_zero_cell cell) (n ∷ []) []) (free_places (n + 1) cells)
    ∙ ap (λ (k : ℕ). length (cond (is_zero_cell cell) (n ∷ []) []) + k) (count_places (n + 1) cells)
    ∙ ap (λ (k : ℕ). k + count_by is_zero_cell cells) (one (is_zero_cell cell))
    ∙ sym (sum_by-cons (λ (c : Cell). cond (is_zero_cell c) 1 0) cell cells)
  where
    one : (b : Bool) → length (cond b (n ∷ []) []) ≡ cond b 1 0
    one true = refl
    one false = refl

-- the numbers of the free cells of the class in some pages, by that of their first cell
abbrev pub free_in_page : ℕ → ℕ → Option ℕ → Option (List Cell) → List ℕ
free_in_page class n None cells = []
free_in_page class n (Some owner) None = []
free_in_page class n (Some owner) (Some cells) = cond (owner == class) (free_places n cells) []

abbrev pub free_numbers : ℕ → ℕ → List (Option ℕ) → Held → List ℕ
free_numbers class n [] held = []
free_numbers class n (o ∷ owners) [] = []
free_numbers class n (o ∷ owners) (cells ∷ held) = free_in_page class n o cells ++ free_numbers class (n + 64) owners held

-- the room of a page
page_room : (class n : ℕ) (p : PageState) (o : Option (List Cell)) → Agrees p o → p.free < 2 ^ 64 → ((cells : List Cell) → o ≡ Some cells → length cells ≡ 64)
    → room_in class p ≡ length (free_in_page class n p.owner o) + 64 * cond (not (is_some p.owner)) 1 0
page_room class n p None agrees small long =
    ap (room_of class p.free) agrees ∙ sym (ap (λ (w : Option ℕ). length (free_in_page class n w None) + 64 * cond (not (is_some w)) 1 0) agrees)
page_room class n p (Some cells) agrees small long = go p.owner agrees.0
  where
    ones : count_ones p.free ≡ length (free_places n cells)
    ones = ones_are cells p.free (subst (λ (k : ℕ). p.free < 2 ^ k) (sym (long cells refl)) small) agrees.1 ∙ sym (count_places n cells)

    picked : (b : Bool) → cond b (count_ones p.free) 0 ≡ length (cond b (free_places n cells) []) + 64 * 0
    picked true = ones ∙ omega arith
    picked false = omega arith

    go : (o : Option ℕ) → IsSome o → room_of class p.free o ≡ length (free_in_page class n o (Some cells)) + 64 * cond (not (is_some o)) 1 0
    go None none = absurd (false≢true none)
    go (Some owner) some = picked (owner == class)

page_free : (class n : ℕ) (p : PageState) (o : Option (List Cell)) → Agrees p o → p.free < 2 ^ 64 → ((cells : List Cell) → o ≡ Some cells → length cells ≡ 64)
    → free_in class p ≡ length (free_in_page class n p.owner o)
page_free class n p None agrees small long =
    ap (λ (w : Option ℕ). cond (owns class w) (count_ones p.free) 0) agrees ∙ sym (ap (λ (w : Option ℕ). length (free_in_page class n w None)) agrees)
page_free class n p (Some cells) agrees small long = go p.owner agrees.0
  where
    ones : count_ones p.free ≡ length (free_places n cells)
    ones = ones_are cells p.free (subst (λ (k : ℕ). p.free < 2 ^ k) (sym (long cells refl)) small) agrees.1 ∙ sym (count_places n cells)

    picked : (b : Bool) → cond b (count_ones p.free) 0 ≡ length (cond b (free_places n cells) [])
    picked true = ones
    picked false = refl

    go : (o : Option ℕ) → IsSome o → cond (owns class o) (count_ones p.free) 0 ≡ length (free_in_page class n o (Some cells))
    go None none = absurd (false≢true none)
    go (Some owner) some = picked (owner == class)

pub free_is_listed : (class n : ℕ) (ps : List PageState) (held : Held) → length ps ≡ length held
    → ((i : ℕ) (p : PageState) (o : Option (List Cell)) → slice_get ps i ≡ Some p → slice_get held i ≡ Some o → Agrees p o)
    → ((i : ℕ) (p : PageState) → slice_get ps i ≡ Some p → p.free < 2 ^ 64)
    → ((i : ℕ) (cells : List Cell) → slice_get held i ≡ Some (Some cells) → length cells ≡ 64)
    → sum_by (free_in class) ps ≡ length (free_numbers class n (map (λ (p : PageState). p.owner) ps) held)
free_is_listed class n [] held count agree small long = refl
free_is_listed class n (p ∷ ps) [] count agree small long = absurd (omega arith)
free_is_listed class n (p ∷ ps) (o ∷ held) count agree small long =
    let owners = map (λ (q : PageState). q.owner) ps in
    let one = page_free class n p o (agree 0 p o refl refl) (small 0 p refl) (λ cells e. long 0 cells (ap Some e)) in
    let rest = free_is_listed class (n + 64) ps held (omega arith) (λ i q r q_at r_at. agree (suc i) q r q_at r_at) (λ i q at. small (suc i) q at) (λ i cells at. long (suc i) cells at) in
    let a = sum_by-cons (free_in class) p ps in
    let lengths = length-append (free_in_page class n p.owner o) (free_numbers class (n + 64) owners held) in
    omega arith

pub room_is_listed : (class n : ℕ) (ps : List PageState) (held : Held) → length ps ≡ length held
    → ((i : ℕ) (p : PageState) (o : Option (List Cell)) → slice_get ps i ≡ Some p → slice_get held i ≡ Some o → Agrees p o)
    → ((i : ℕ) (p : PageState) → slice_get ps i ≡ Some p → p.free < 2 ^ 64)
    → ((i : ℕ) (cells : List Cell) → slice_get held i ≡ Some (Some cells) → length cells ≡ 64)
    → sum_by (room_in class) ps ≡ length (free_numbers class n (map (λ (p : PageState). p.owner) ps) held) + 64 * unowned_in (map (λ (p : PageState). p.owner) ps)
room_is_listed class n [] held count agree small long = refl
room_is_listed class n (p ∷ ps) [] count agree small long = absurd (omega arith)
room_is_listed class n (p ∷ ps) (o ∷ held) count agree small long =
    let owners = map (λ (q : PageState). q.owner) ps in
    let one = page_room class n p o (agree 0 p o refl refl) (small 0 p refl) (λ cells e. long 0 cells (ap Some e)) in
    let rest = room_is_listed class (n + 64) ps held (omega arith) (λ i q r q_at r_at. agree (suc i) q r q_at r_at) (λ i q at. small (suc i) q at) (λ i cells at. long (suc i) cells at) in
    let a = sum_by-cons (room_in class) p ps in
    let b = sum_by-cons (λ (w : Option ℕ). cond (not (is_some w)) 1 0) p.owner owners in
    let lengths = length-append (free_in_page class n p.owner o) (free_numbers class (n + 64) owners held) in
    omega arith

-- the free cells of a page are listed
pub page_listed : (P : ℕ → Type 0) (n : ℕ) (cells : List Cell) → ((i : ℕ) (cell : Cell) → slice_get cells i ≡ Some cell → is_zero_cell cell ≡ true → P (n + i))
    → ((i : ℕ) (cell : Cell) → slice_get cells i ≡ Some cell → is_zero_cell cell ≡ false → ¬ P (n + i)) → IsPart P n (n + length cells) (free_places n cells)
page_listed P n [] is isnt = part_none P n (n + 0) (λ k above below. absurd (omega arith))
page_listed P n (cell ∷ cells) is isnt =
    let rest : IsPart P (n + 1) (n + 1 + length cells) (free_places (n + 1) cells) =
    page_listed P (n + 1) cells
    (λ i c at zero_c. subst P (shift n i) (is (suc i) c at zero_c))
    (λ i c at other p. isnt (suc i) c at other (subst P (sym (shift n i)) p)) in
    subst (λ (k : ℕ). IsPart P n k (free_places n (cell ∷ cells))) (sym (shift n (length cells)))
    (part_append P n (n + 1) (n + 1 + length cells) (cond (is_zero_cell cell) (n ∷ []) []) (free_places (n + 1) cells) (omega arith) (omega arith) (first (is_zero_cell cell) refl) rest)
  where
    shift : (a i : ℕ) → a + suc i ≡ a + 1 + i
    shift a i = omega arith

    here : (a : ℕ) → a + 0 ≡ a
    here a = omega arith

    first : (b : Bool) → is_zero_cell cell ≡ b → IsPart P n (n + 1) (cond b (n ∷ []) [])
    first true e = part_one P n (subst P (here n) (is 0 cell refl e))
    first false e = part_none P n (n + 1) (λ k above below p. let same : k ≡ n + 0 = omega arith in isnt 0 cell refl e (subst P same p))

-- and so are those of all pages
pub pages_listed : (P : ℕ → Type 0) (class n : ℕ) (owners : List (Option ℕ)) (held : Held) → length owners ≡ length held
    → ((i : ℕ) (o : Option ℕ) (cells : Option (List Cell)) → slice_get owners i ≡ Some o → slice_get held i ≡ Some cells → IsPart P (n + 64 * i) (n + 64 * i + 64) (free_in_page class (n + 64 * i) o cells))
    → IsPart P n (n + 64 * length held) (free_numbers class n owners held)
pages_listed P class n [] [] count each = part_none P n (n + 64 * 0) (λ k above below. absurd (omega arith))
pages_listed P class n [] (c ∷ held) count each = absurd (omega arith)
pages_listed P class n (o ∷ owners) [] count each = absurd (omega arith)
pages_listed P class n (o ∷ owners) (cells ∷ held) count each =
    let rest : IsPart P (n + 64) (n + 64 + 64 * length held) (free_numbers class (n + 64) owners held) =
    pages_listed P class (n + 64) owners held (omega arith)
    (λ i p c p_at c_at. subst (λ (k : ℕ). IsPart P k (k + 64) (free_in_page class k p c)) (shift n i) (each (suc i) p c p_at c_at)) in
    subst (λ (k : ℕ). IsPart P n k (free_numbers class n (o ∷ owners) (cells ∷ held))) (sym (shift n (length held)))
    (part_append P n (n + 64) (n + 64 + 64 * length held) (free_in_page class n o cells) (free_numbers class (n + 64) owners held) (omega arith) (omega arith)
    (subst (λ (k : ℕ). IsPart P k (k + 64) (free_in_page class k o cells)) (here n) (each 0 o cells refl refl)) rest)
  where
    shift : (a i : ℕ) → a + 64 * suc i ≡ a + 64 + 64 * i
    shift a i = omega arith

    here : (a : ℕ) → a + 64 * 0 ≡ a
    here a = omega arith
