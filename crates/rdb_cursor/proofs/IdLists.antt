-- Lists of ids: in rising order, each once, and those of rows that pass a test.
use Rattle.std.proofs.Common.{◌≡◌, ◌==◌, ◌<◌, ◌≤◌, ◌+◌, zero, suc, ℕ, Bool, true, false, cond, List, [], ◌∷◌, ◌++◌, length, take, map, filter, Option, Some, None, get_or, zero-lt-suc, suc-le-suc, inl, inr, refl, sym, ap, subst, ◌∙◌, arith, eq-eqb, eqb-true}
use Rattle.std.proofs.lemmas.Bool.{false≢true}
use Rattle.std.proofs.lemmas.List.{take_more, take_all}
use Rattle.std.proofs.lemmas.List.Elements.{filter_map-append}
use Rattle.std.proofs.lemmas.List.Sums.{sum_by-cons}
use Rattle.std.specs.List.{Contains, AllByRecursion, filter_map, cons_option, count_by}
use Rattle.std.specs.List.Sorted.{IsNonDecreasing}
use Rattle.rdb_pages.specs.declared.cell.CellRef.{CellRef}
use Rattle.rdb_cells.specs.Keys.{times_listed}
use Rattle.rdb_cells.specs.Links.{IsAmong}
use Rattle.rdb_model.specs.Database.{Row, Objects}
use Rattle.rdb_model.specs.Answer.{ids_where}
use Rattle.rdb_model.proofs.Rising.{IsRising}
use Rattle.rdb_cursor.proofs.Pairs.{IsIn}

-- each id is below those after it
abbrev pub Rise : List ℕ → Type 0
Rise [] = Unit {0}
Rise (n ∷ ns) = AllByRecursion (λ m. n < m) ns × Rise ns

below_all : (n k : ℕ) (ns : List ℕ) → AllByRecursion (λ m. n < m) ns → IsAmong ns k → n < k
below_all n k [] all within = absurd within
below_all n k (m ∷ ms) all (inl same) = subst (λ (i : ℕ). n < i) same all.0
below_all n k (m ∷ ms) all (inr later) = below_all n k ms all.1 later

-- two rising lists of the same ids are one
pub same_rising : (xs ys : List ℕ) → Rise xs → Rise ys → ((n : ℕ) → IsAmong xs n → IsAmong ys n) → ((n : ℕ) → IsAmong ys n → IsAmong xs n) → xs ≡ ys
same_rising [] [] rise other there back = refl
same_rising [] (y ∷ ys) rise other there back = absurd (back y (inl refl))
same_rising (x ∷ xs) [] rise other there back = absurd (there x (inl refl))
same_rising (x ∷ xs) (y ∷ ys) rise other there back = joined (λ forth backward. same_rising xs ys rise.1 other.1 forth backward) first
  where
    first : x ≡ y
    first = elim (there x (inl refl)) [
      | inl same ↦ sym same
      | inr later ↦ elim (back y (inl refl)) [
        | inl same ↦ same
        | inr earlier ↦ (let above = below_all y x ys other.0 later in let below = below_all x y xs rise.0 earlier in absurd (omega arith))
      ]
    ]

    joined : (((n : ℕ) → IsAmong xs n → IsAmong ys n) → ((n : ℕ) → IsAmong ys n → IsAmong xs n) → xs ≡ ys) → x ≡ y → x ∷ xs ≡ y ∷ ys
    joined rest same = λ i. same i ∷ rest forth backward i
      where
        forth : (n : ℕ) → IsAmong xs n → IsAmong ys n
        forth n within = elim (there n (inr within)) [
          | inl is ↦ (let above = below_all x n xs rise.0 within in absurd (omega arith))
          | inr later ↦ later
        ]

        backward : (n : ℕ) → IsAmong ys n → IsAmong xs n
        backward n within = elim (back n (inr within)) [
          | inl is ↦ (let above = below_all y n ys other.0 within in absurd (omega arith))
          | inr later ↦ later
        ]

-- The ids of rows that pass a test
module _ (passes : Row → Bool) where
  all_ids : (n : ℕ) (os : Objects) → AllByRecursion (λ q. n < q.0) os → AllByRecursion (λ m. n < m) (ids_where passes os)
  all_ids n [] all = tt
  all_ids n (o ∷ os) all = go (passes o.1) (all_ids n os all.1)
    where
      go : (b : Bool) → AllByRecursion (λ m. n < m) (ids_where passes os) → AllByRecursion (λ m. n < m) (map (λ (q : ℕ × Row). q.0) (cond b (o ∷ filter (λ (q : ℕ × Row). passes q.1) os) (filter (λ (q : ℕ × Row). passes q.1) os)))
      go true rest = (all.0, rest)
      go false rest = rest

  pub ids_rise : (os : Objects) → IsRising os → Rise (ids_where passes os)
  ids_rise [] rises = tt
  ids_rise (o ∷ os) rises = go (passes o.1) (ids_rise os rises.1)
    where
      go : (b : Bool) → Rise (ids_where passes os) → Rise (map (λ (q : ℕ × Row). q.0) (cond b (o ∷ filter (λ (q : ℕ × Row). passes q.1) os) (filter (λ (q : ℕ × Row). passes q.1) os)))
      go true rest = (all_ids o.0 os rises.0, rest)
      go false rest = rest

  pub in_ids : (os : Objects) (id : ℕ) (row : Row) → IsIn os (id, row) → passes row ≡ true → IsAmong (ids_where passes os) id
  in_ids [] id row within passed = absurd within
  in_ids (o ∷ os) id row (inl same) passed =
      let id_is : o.0 ≡ id = ap (λ (q : ℕ × Row). q.0) same in
      let row_is : o.1 ≡ row = ap (λ (q : ℕ × Row). q.1) same in
      subst (λ (b : Bool). IsAmong (map (λ (q : ℕ × Row). q.0) (cond b (o ∷ filter (λ (q : ℕ × Row). passes q.1) os) (filter (λ (q : ℕ × Row). passes q.1) os))) id) (sym (ap passes row_is ∙ passed)) (inl id_is)
  in_ids (o ∷ os) id row (inr later) passed = go (passes o.1) (in_ids os id row later passed)
    where
      go : (b : Bool) → IsAmong (ids_where passes os) id → IsAmong (map (λ (q : ℕ × Row). q.0) (cond b (o ∷ filter (λ (q : ℕ × Row). passes q.1) os) (filter (λ (q : ℕ × Row). passes q.1) os))) id
      go true rest = inr rest
      go false rest = rest

  pub ids_in : (os : Objects) (id : ℕ) → IsAmong (ids_where passes os) id → (row : Row) × IsIn os (id, row) × (passes row ≡ true)
  ids_in [] id within = absurd within
  ids_in (o ∷ os) id within = go (λ rest. ids_in os id rest) (passes o.1) refl within
    where
      later : ((row : Row) × IsIn os (id, row) × (passes row ≡ true)) → (row : Row) × IsIn (o ∷ os) (id, row) × (passes row ≡ true)
      later found = (found.0, inr found.1, found.2)

      go : (IsAmong (ids_where passes os) id → (row : Row) × IsIn os (id, row) × (passes row ≡ true)) → (b : Bool) → passes o.1 ≡ b → IsAmong (map (λ (q : ℕ × Row). q.0) (cond b (o ∷ filter (λ (q : ℕ × Row). passes q.1) os) (filter (λ (q : ℕ × Row). passes q.1) os))) id → (row : Row) × IsIn (o ∷ os) (id, row) × (passes row ≡ true)
      go found true e (inl same) = (o.1, inl (λ i. (same i, o.1)), e)
      go found true e (inr rest) = later (found rest)
      go found false e rest = later (found rest)

-- The ids that a test gives of references
module _ (f : CellRef → Option ℕ) where
  pub given_from : (rs : List CellRef) (n : ℕ) → IsAmong (filter_map f rs) n → (r : CellRef) × Contains rs r × (f r ≡ Some n)
  given_from [] n within = absurd within
  given_from (r ∷ rs) n within = go (λ rest. given_from rs n rest) (f r) refl within
    where
      later : ((s : CellRef) × Contains rs s × (f s ≡ Some n)) → (s : CellRef) × Contains (r ∷ rs) s × (f s ≡ Some n)
      later found = (found.0, (suc found.1.0, suc-le-suc found.1.1, found.1.2), found.2)

      go : (IsAmong (filter_map f rs) n → (s : CellRef) × Contains rs s × (f s ≡ Some n)) → (o : Option ℕ) → f r ≡ o → IsAmong (cons_option o (filter_map f rs)) n → (s : CellRef) × Contains (r ∷ rs) s × (f s ≡ Some n)
      go found None e rest = later (found rest)
      go found (Some m) e (inl same) = (r, (0, zero-lt-suc _, refl), e ∙ ap Some same)
      go found (Some m) e (inr rest) = later (found rest)

  pub from_given : (rs : List CellRef) (n : ℕ) (r : CellRef) → Contains rs r → f r ≡ Some n → IsAmong (filter_map f rs) n
  from_given [] n r (k, below, is) gives = absurd (omega arith)
  from_given (s ∷ rs) n r (zero, below, is) gives = subst (λ (o : Option ℕ). IsAmong (cons_option o (filter_map f rs)) n) (sym (ap f is ∙ gives)) (inl refl)
  from_given (s ∷ rs) n r (suc k, below, is) gives = go (f s) (from_given rs n r (k, omega arith, is) gives)
    where
      go : (o : Option ℕ) → IsAmong (filter_map f rs) n → IsAmong (cons_option o (filter_map f rs)) n
      go None rest = rest
      go (Some m) rest = inr rest

  -- what one more reference gives
  pub given_more : (rs : List CellRef) (i : ℕ) (r : CellRef) → i < length rs → r ≡ get_or rs i r → filter_map f (take (i + 1) rs) ≡ filter_map f (take i rs) ++ cons_option (f r) []
  given_more rs i r below is =
      ap (filter_map f) (take_more rs i r below)
      ∙ filter_map-append f (take i rs) (get_or rs i r ∷ [])
      ∙ ap (λ (s : CellRef). filter_map f (take i rs) ++ cons_option (f s) []) (sym is)

  pub given_item : (rs : List CellRef) (i : ℕ) → i < length rs → filter_map f (take (i + 1) rs) ≡ filter_map f (take i rs) ++ cons_option (f (get_or rs i (record { number = 0 }))) []
  given_item rs i below = ap (filter_map f) (take_more rs i (record { number = 0 }) below) ∙ filter_map-append f (take i rs) (get_or rs i (record { number = 0 }) ∷ [])

  pub given_whole : (rs : List CellRef) (i : ℕ) (found : List CellRef) → length rs ≤ i → rs ≡ found → filter_map f (take i rs) ≡ filter_map f found
  given_whole rs i found past is = ap (filter_map f) (take_all i rs past ∙ is)

  -- an id is given as often as the one reference that gives it stands
  pub given_times : (rs : List CellRef) (n : ℕ) (r : CellRef) → ((s : CellRef) → f s ≡ Some n → s.number ≡ r.number) → count_by (λ m. m == n) (filter_map f rs) ≤ times_listed rs r
  given_times [] n r only = omega arith
  given_times (s ∷ rs) n r only = go (f s) refl (given_times rs n r only)
    where
      more : times_listed (s ∷ rs) r ≡ cond (s.number == r.number) 1 0 + times_listed rs r
      more = sum_by-cons (λ (x : CellRef). cond (x.number == r.number) 1 0) s rs

      go : (o : Option ℕ) → f s ≡ o → count_by (λ m. m == n) (filter_map f rs) ≤ times_listed rs r → count_by (λ m. m == n) (cons_option o (filter_map f rs)) ≤ times_listed (s ∷ rs) r
      go None e rest = (let m = more in omega arith)
      go (Some m) e rest = by_test (m == n) refl
        where
          counted : count_by (λ k. k == n) (m ∷ filter_map f rs) ≡ cond (m == n) 1 0 + count_by (λ k. k == n) (filter_map f rs)
          counted = sum_by-cons (λ (k : ℕ). cond (k == n) 1 0) m (filter_map f rs)

          by_test : (b : Bool) → (m == n) ≡ b → count_by (λ k. k == n) (m ∷ filter_map f rs) ≤ times_listed (s ∷ rs) r
          by_test false g =
              let zero_more : count_by (λ k. k == n) (m ∷ filter_map f rs) ≡ 0 + count_by (λ k. k == n) (filter_map f rs) = counted ∙ ap (λ (b : Bool). cond b 1 0 + count_by (λ k. k == n) (filter_map f rs)) g in
              let t = more in
              omega arith
          by_test true g =
              let one_more : count_by (λ k. k == n) (m ∷ filter_map f rs) ≡ 1 + count_by (λ k. k == n) (filter_map f rs) = counted ∙ ap (λ (b : Bool). cond b 1 0 + count_by (λ k. k == n) (filter_map f rs)) g in
              let it : m ≡ n = eqb-true m n g in
              let one_ref : times_listed (s ∷ rs) r ≡ 1 + times_listed rs r = more ∙ ap (λ (b : Bool). cond b 1 0 + times_listed rs r) (eq-eqb s.number r.number (only s (e ∙ ap Some it))) in
              omega arith

  -- no id is given where no reference gives it
  pub given_never : (rs : List CellRef) (n : ℕ) → ((s : CellRef) → f s ≡ Some n → ⊥) → count_by (λ m. m == n) (filter_map f rs) ≤ 1
  given_never rs n never = (let none = nothing rs in omega arith)
    where
      nothing : (rs : List CellRef) → count_by (λ m. m == n) (filter_map f rs) ≡ 0
      nothing [] = refl
      nothing (s ∷ rs) = go (f s) refl (nothing rs)
        where
          go : (o : Option ℕ) → f s ≡ o → count_by (λ m. m == n) (filter_map f rs) ≡ 0 → count_by (λ m. m == n) (cons_option o (filter_map f rs)) ≡ 0
          go None e rest = rest
          go (Some m) e rest = by_test (m == n) refl
            where
              by_test : (b : Bool) → (m == n) ≡ b → count_by (λ k. k == n) (m ∷ filter_map f rs) ≡ 0
              by_test false g = sum_by-cons (λ (k : ℕ). cond (k == n) 1 0) m (filter_map f rs) ∙ ap (λ (b : Bool). cond b 1 0 + count_by (λ k. k == n) (filter_map f rs)) g ∙ (omega arith)
              by_test true g = absurd (never s (e ∙ ap Some (eqb-true m n g)))

-- sorted ids, each once at most, rise
pub rise_sorted : (ns : List ℕ) → IsNonDecreasing ns → ((n : ℕ) → count_by (λ m. m == n) ns ≤ 1) → Rise ns
rise_sorted [] ordered once = tt
rise_sorted (n ∷ ns) ordered once = (all_above ns (λ k below. ordered 0 (suc k) 0 (omega arith) (omega arith)) none, rise_sorted ns tail (λ k. (let more = counted k in let most = once k in omega arith)))
  where
    counted : (k : ℕ) → count_by (λ m. m == k) (n ∷ ns) ≡ cond (n == k) 1 0 + count_by (λ m. m == k) ns
    counted k = sum_by-cons (λ (m : ℕ). cond (m == k) 1 0) n ns

    none : count_by (λ m. m == n) ns ≡ 0
    none =
        let more : count_by (λ m. m == n) (n ∷ ns) ≡ 1 + count_by (λ m. m == n) ns = counted n ∙ ap (λ (b : Bool). cond b 1 0 + count_by (λ m. m == n) ns) (eq-eqb n n refl) in
        let most = once n in
        omega arith

    tail : IsNonDecreasing ns
    tail i j d le below = ordered (suc i) (suc j) d (omega arith) (omega arith)

    all_above : (ms : List ℕ) → ((k : ℕ) → k < length ms → n ≤ get_or ms k 0) → count_by (λ m. m == n) ms ≡ 0 → AllByRecursion (λ m. n < m) ms
    all_above [] least no_more = tt
    all_above (m ∷ ms) least no_more = (above (m == n) refl, all_above ms (λ k below. least (suc k) (omega arith)) (let e = split in omega arith))
      where
        split : count_by (λ k. k == n) (m ∷ ms) ≡ cond (m == n) 1 0 + count_by (λ k. k == n) ms
        split = sum_by-cons (λ (k : ℕ). cond (k == n) 1 0) m ms

        above : (b : Bool) → (m == n) ≡ b → n < m
        above true g =
            let one : count_by (λ k. k == n) (m ∷ ms) ≡ 1 + count_by (λ k. k == n) ms = split ∙ ap (λ (b : Bool). cond b 1 0 + count_by (λ k. k == n) ms) g in
            absurd (omega arith)
        above false g =
            let le = least 0 (omega arith) in
            let apart : ¬ (m ≡ n) = λ same. false≢true (sym g ∙ eq-eqb m n same) in
            omega arith

-- an item of a list that is another one
pub item_in : (rs found : List CellRef) (i : ℕ) → rs ≡ found → i < length rs → Contains found (get_or rs i (record { number = 0 }))
item_in rs found i is below = subst (λ (l : List CellRef). Contains l (get_or rs i (record { number = 0 }))) is (i, below, same rs i below)
  where
    same : (rs : List CellRef) (i : ℕ) → i < length rs → get_or rs i (get_or rs i (record { number = 0 })) ≡ get_or rs i (record { number = 0 })
    same [] i below = absurd (omega arith)
    same (r ∷ rs) zero below = refl
    same (r ∷ rs) (suc i) below = same rs i (omega arith)
