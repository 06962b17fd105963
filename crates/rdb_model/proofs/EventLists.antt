-- The event list of a class's event: what is in it, and in which order.
use Rattle.std.proofs.Common.{◌≡◌, ◌↔◌, ℕ, zero, suc, ◌-◌, ◌<◌, ◌≤◌, Bool, true, false, cond, ◌⊎◌, inl, inr, List, [], ◌∷◌, ◌++◌, map, filter, slice_get, Option, Some, None, Contains, nat_eq, nat_lt, refl, sym, ap, subst, arith}
use Rattle.std.specs.List.{AllByRecursion}
use Rattle.std.specs.Option.{option_map_or}
use Rattle.std.proofs.lemmas.Bool.{cases_lt}
use Rattle.std.proofs.lemmas.Bool.Decides.{nat_tests}
use Rattle.std.proofs.lemmas.List.Elements.{Contains-append_left, Contains-append_right, Contains-append_cases}
use Rattle.rdb_base.specs.declared.journal.Entry.{Entry}
use Rattle.rdb_schema.specs.declared.schema.EventKind.{EventKind}
use Rattle.rdb_schema.specs.declared.schema.Schema.{Schema}
use Rattle.rdb_model.specs.Database.{Objects, row_of, objects_of}
use Rattle.rdb_model.specs.Journal.{commits, fold}
use Rattle.rdb_model.specs.Events.{happened, with_rows, ids_of_both, event_ids, event_kind, events_up_to, event_list, is_behind, HappenedIn}
use Rattle.rdb_model.proofs.Rising.{IsRising, rising_with_row}
use Rattle.rdb_model.proofs.EventIds.{contains_later, ids_happened, happened_ids}
use Rattle.rdb_model.proofs.Validating.{rising_fold}

first_is : (a b : ℕ × ℕ) → a ≡ b → a.0 ≡ b.0
first_is a b e = ap (λ (p : ℕ × ℕ). p.0) e

second_is : (a b : ℕ × ℕ) → a ≡ b → a.1 ≡ b.1
second_is a b e = ap (λ (p : ℕ × ℕ). p.1) e

-- the pairs of a commit are those of its ids
mapped : (n : ℕ) (ids : List ℕ) (id : ℕ) → Contains ids id → Contains {X = ℕ × ℕ} (map (λ i. (n, i)) ids) (n, id)
mapped n [] id c = absurd (omega (arith, c.1))
mapped n (x ∷ xs) id (zero, lt, is) = (0, omega arith, ap (λ (i : ℕ). (n, i)) is)
mapped n (x ∷ xs) id (suc k, lt, is) =
    let here : Contains xs id = (k, omega (arith, lt), is) in
    contains_later (n, x) (n, id) (map (λ i. (n, i)) xs) (mapped n xs id here)

unmapped : (n : ℕ) (ids : List ℕ) (pair : ℕ × ℕ) → Contains (map (λ i. (n, i)) ids) pair → (pair.0 ≡ n) × Contains ids pair.1
unmapped n [] pair c = absurd (omega (arith, c.1))
unmapped n (x ∷ xs) pair (zero, lt, is) = (sym (first_is (n, x) pair is), (0, omega arith, second_is (n, x) pair is))
unmapped n (x ∷ xs) pair (suc k, lt, is) =
    let rest = unmapped n xs pair (k, omega (arith, lt), is) in
    (rest.0, contains_later x pair.1 xs rest.1)

module _ (schema : Schema) (class : ℕ) (k : EventKind) (journal : List Entry) where
  -- that the event happened between two databases of the journal, and that it did in one of the first n commits
  abbrev Between : ℕ → ℕ → ℕ → Type 0
  Between m n id = happened k (row_of (objects_of (fold schema journal m) class) id) (row_of (objects_of (fold schema journal n) class) id) ≡ true

  abbrev HappenedBy : ℕ → ℕ × ℕ → Type 0
  HappenedBy n pair = (0 < pair.0) × (pair.0 ≤ n) × Between (pair.0 - 1) pair.0 pair.1

  abbrev ids_in : ℕ → List ℕ
  ids_in n = event_ids k (objects_of (fold schema journal n) class) (objects_of (fold schema journal (suc n)) class)

  listed_happened : (n : ℕ) (pair : ℕ × ℕ) → Contains (events_up_to schema class k journal n) pair → HappenedBy n pair
  listed_happened zero pair c = absurd (omega (arith, c.1))
  listed_happened (suc n) pair c = go (Contains-append_cases (events_up_to schema class k journal n) (map (λ id. (suc n, id)) (ids_in n)) pair c) (listed_happened n pair)
    where
      before_is : suc n - 1 ≡ n
      before_is = omega arith

      go : Contains (events_up_to schema class k journal n) pair ⊎ Contains (map (λ id. (suc n, id)) (ids_in n)) pair → (Contains (events_up_to schema class k journal n) pair → HappenedBy n pair) → HappenedBy (suc n) pair
      go (inl earlier) rest = let r : HappenedBy n pair = rest earlier in (r.0, omega (arith, r.1), r.2)
      go (inr here) rest =
          let u : (pair.0 ≡ suc n) × Contains (ids_in n) pair.1 = unmapped (suc n) (ids_in n) pair here in
          let now : Between n (suc n) pair.1 = ids_happened k (objects_of (fold schema journal n) class) (objects_of (fold schema journal (suc n)) class) pair.1 u.1 in
          (omega (arith, u.0), omega (arith, u.0), subst (λ m. Between (m - 1) m pair.1) (sym u.0) (subst (λ m. Between m (suc n) pair.1) (sym before_is) now))

  happened_listed : (n : ℕ) (pair : ℕ × ℕ) → HappenedBy n pair → Contains (events_up_to schema class k journal n) pair
  happened_listed zero pair h = absurd (omega (arith, h.0, h.1))
  happened_listed (suc n) pair h = go (cases_lt pair.0 (suc n)) (happened_listed n pair)
    where
      before_is : suc n - 1 ≡ n
      before_is = omega arith

      go : (pair.0 < suc n) ⊎ (suc n ≤ pair.0) → (HappenedBy n pair → Contains (events_up_to schema class k journal n) pair) → Contains (events_up_to schema class k journal (suc n)) pair
      go (inl lt) rest = Contains-append_left (events_up_to schema class k journal n) (map (λ id. (suc n, id)) (ids_in n)) pair (rest (h.0, omega (arith, lt), h.2))
      go (inr ge) rest =
          let same : pair.0 ≡ suc n = omega (arith, ge, h.1) in
          let now : Between n (suc n) pair.1 = subst (λ m. Between m (suc n) pair.1) before_is (subst (λ m. Between (m - 1) m pair.1) same h.2) in
          let there : Contains {X = ℕ × ℕ} (map (λ id. (suc n, id)) (ids_in n)) (suc n, pair.1) = mapped (suc n) (ids_in n) pair.1 (happened_ids k (objects_of (fold schema journal n) class) (objects_of (fold schema journal (suc n)) class) pair.1 now) in
          Contains-append_right (events_up_to schema class k journal n) (map (λ id. (suc n, id)) (ids_in n)) pair
          (subst (λ m. Contains {X = ℕ × ℕ} (map (λ id. (suc n, id)) (ids_in n)) (m, pair.1)) (sym same) there)

pub listed_iff : (schema : Schema) (journal : List Entry) (class event : ℕ) (k : EventKind) (pair : ℕ × ℕ) → event_kind schema class event ≡ Some k → Contains (event_list schema class event journal) pair ↔ HappenedIn schema class k journal pair
listed_iff schema journal class event k pair is = (
  λ c. listed_happened schema class k journal (commits journal) pair (subst (λ l. Contains l pair) list_is c),
  λ h. subst (λ l. Contains l pair) (sym list_is) (happened_listed schema class k journal (commits journal) pair h),
)
  where
    list_is : event_list schema class event journal ≡ events_up_to schema class k journal (commits journal)
    list_is = ap (λ o. option_map_or (λ kind. events_up_to schema class kind journal (commits journal)) o []) is

-- each id is below those after it; each pair is behind those before it
abbrev AreRising : List ℕ → Type 0
AreRising [] = Unit {0}
AreRising (x ∷ xs) = AllByRecursion (λ y. x < y) xs × AreRising xs

abbrev pub InOrder : List (ℕ × ℕ) → Type 0
InOrder [] = Unit {0}
InOrder (e ∷ es) = AllByRecursion (λ f. is_behind e f ≡ true) es × InOrder es

rising_rows : (before after : Objects) → IsRising before → IsRising (with_rows before after)
rising_rows before [] rising = rising
rising_rows before (o ∷ os) rising = rising_with_row (with_rows before os) o.0 o.1 (rising_rows before os rising)

ids_above : (x : ℕ) (os : Objects) → AllByRecursion (λ q. x < q.0) os → AllByRecursion (λ y. x < y) (map (λ o. o.0) os)
ids_above x [] all = tt
ids_above x (o ∷ os) all = (all.0, ids_above x os all.1)

rising_ids : (os : Objects) → IsRising os → AreRising (map (λ o. o.0) os)
rising_ids [] rising = tt
rising_ids (o ∷ os) rising = (ids_above o.0 os rising.0, rising_ids os rising.1)

kept_above : (x : ℕ) (test : ℕ → Bool) (ys : List ℕ) → AllByRecursion (λ y. x < y) ys → AllByRecursion (λ y. x < y) (filter test ys)
kept_above x test [] all = tt
kept_above x test (y ∷ ys) all = go (test y) (kept_above x test ys all.1)
  where
    go : (b : Bool) → AllByRecursion (λ y. x < y) (filter test ys) → AllByRecursion (λ y. x < y) (cond b (y ∷ filter test ys) (filter test ys))
    go true rest = (all.0, rest)
    go false rest = rest

rising_kept : (test : ℕ → Bool) (xs : List ℕ) → AreRising xs → AreRising (filter test xs)
rising_kept test [] rising = tt
rising_kept test (x ∷ xs) rising = go (test x) (rising_kept test xs rising.1)
  where
    go : (b : Bool) → AreRising (filter test xs) → AreRising (cond b (x ∷ filter test xs) (filter test xs))
    go true rest = (kept_above x test xs rising.0, rest)
    go false rest = rest

rising_events : (k : EventKind) (before after : Objects) → IsRising before → AreRising (event_ids k before after)
rising_events k before after rising =
    rising_kept (λ id. happened k (row_of before id) (row_of after id)) (ids_of_both before after) (rising_ids (with_rows before after) (rising_rows before after rising))

-- behind by the commit, and behind by the id
behind_by_commit : (a b : ℕ × ℕ) → a.0 < b.0 → is_behind a b ≡ true
behind_by_commit a b lt = let less : nat_lt a.0 b.0 ≡ true = grind (arith, nat_tests) in rw less refl

behind_by_id : (n x y : ℕ) → x < y → is_behind (n, x) (n, y) ≡ true
behind_by_id n x y lt =
    let not_less : nat_lt n n ≡ false = grind (arith, nat_tests) in
    let same : nat_eq n n ≡ true = grind (arith, nat_tests) in
    let less : nat_lt x y ≡ true = grind (arith, nat_tests) in
    rw (not_less, same, less) refl

behind_all : (n x : ℕ) (ys : List ℕ) → AllByRecursion (λ y. x < y) ys → AllByRecursion (λ f. is_behind (n, x) f ≡ true) (map (λ i. (n, i)) ys)
behind_all n x [] all = tt
behind_all n x (y ∷ ys) all = (behind_by_id n x y all.0, behind_all n x ys all.1)

mapped_in_order : (n : ℕ) (ids : List ℕ) → AreRising ids → InOrder (map (λ i. (n, i)) ids)
mapped_in_order n [] rising = tt
mapped_in_order n (x ∷ xs) rising = (behind_all n x xs rising.0, mapped_in_order n xs rising.1)

all_append : (P : ℕ × ℕ → Type 0) (xs ys : List (ℕ × ℕ)) → AllByRecursion P xs → AllByRecursion P ys → AllByRecursion P (xs ++ ys)
all_append P [] ys all others = others
all_append P (x ∷ xs) ys all others = (all.0, all_append P xs ys all.1 others)

all_weaker : (P Q : ℕ × ℕ → Type 0) (xs : List (ℕ × ℕ)) → ((x : ℕ × ℕ) → P x → Q x) → AllByRecursion P xs → AllByRecursion Q xs
all_weaker P Q [] weaker all = tt
all_weaker P Q (x ∷ xs) weaker all = (weaker x all.0, all_weaker P Q xs weaker all.1)

mapped_all : (P : ℕ × ℕ → Type 0) (n : ℕ) (ids : List ℕ) → ((id : ℕ) → P (n, id)) → AllByRecursion P (map (λ i. (n, i)) ids)
mapped_all P n [] each = tt
mapped_all P n (x ∷ xs) each = (each x, mapped_all P n xs each)

-- two lists in order, the second of a later commit
append_in_order : (n : ℕ) (xs : List (ℕ × ℕ)) (ids : List ℕ) → InOrder xs → AllByRecursion (λ x. x.0 < n) xs → AreRising ids → InOrder (xs ++ map (λ i. (n, i)) ids)
append_in_order n [] ids order below rising = mapped_in_order n ids rising
append_in_order n (x ∷ xs) ids order below rising = (
  all_append (λ f. is_behind x f ≡ true) xs (map (λ i. (n, i)) ids) order.0 (mapped_all (λ f. is_behind x f ≡ true) n ids (λ id. behind_by_commit x (n, id) below.0)),
  append_in_order n xs ids order.1 below.1 rising,
)

module _ (schema : Schema) (class : ℕ) (k : EventKind) (journal : List Entry) where
  all_up_to : (n : ℕ) → AllByRecursion (λ x. x.0 < suc n) (events_up_to schema class k journal n)
  all_up_to zero = tt
  all_up_to (suc n) =
      all_append (λ x. x.0 < suc (suc n)) (events_up_to schema class k journal n) (map (λ id. (suc n, id)) (ids_in schema class k journal n))
      (all_weaker (λ x. x.0 < suc n) (λ x. x.0 < suc (suc n)) (events_up_to schema class k journal n) (λ x lt. omega arith) (all_up_to n))
      (mapped_all (λ x. x.0 < suc (suc n)) (suc n) (ids_in schema class k journal n) (λ id. omega arith))

  pub up_to_in_order : (n : ℕ) → InOrder (events_up_to schema class k journal n)
  up_to_in_order zero = tt
  up_to_in_order (suc n) =
      append_in_order (suc n) (events_up_to schema class k journal n) (ids_in schema class k journal n) (up_to_in_order n) (all_up_to n)
      (rising_events k (objects_of (fold schema journal n) class) (objects_of (fold schema journal (suc n)) class) (rising_fold schema journal n class))

all_get : (P : ℕ × ℕ → Type 0) (xs : List (ℕ × ℕ)) (i : ℕ) (x : ℕ × ℕ) → slice_get xs i ≡ Some x → AllByRecursion P xs → P x
all_get P [] i x e all = absurd (cc)
all_get P (y ∷ ys) zero x e all = let same : y ≡ x = (cc) in subst P same all.0
all_get P (y ∷ ys) (suc i) x e all = all_get P ys i x e all.1

get_in_order : (xs : List (ℕ × ℕ)) (i j : ℕ) (a b : ℕ × ℕ) → InOrder xs → slice_get xs i ≡ Some a → slice_get xs j ≡ Some b → i < j → is_behind a b ≡ true
get_in_order [] i j a b order e f lt = (cc)
get_in_order (x ∷ xs) i zero a b order e f lt = absurd (omega (arith, lt))
get_in_order (x ∷ xs) zero (suc j) a b order e f lt =
    let same : x ≡ a = (cc) in
    subst (λ p. is_behind p b ≡ true) same (all_get (λ y. is_behind x y ≡ true) xs j b f order.0)
get_in_order (x ∷ xs) (suc i) (suc j) a b order e f lt = get_in_order xs i j a b order.1 e f (omega (arith, lt))

pub listed_in_order : (schema : Schema) (journal : List Entry) (class event i j : ℕ) (earlier later : ℕ × ℕ) → slice_get (event_list schema class event journal) i ≡ Some earlier → slice_get (event_list schema class event journal) j ≡ Some later → i < j → is_behind earlier later ≡ true
listed_in_order schema journal class event i j earlier later = go (event_kind schema class event)
  where
    go : (o : Option EventKind) → slice_get (option_map_or (λ kind. events_up_to schema class kind journal (commits journal)) o []) i ≡ Some earlier → slice_get (option_map_or (λ kind. events_up_to schema class kind journal (commits journal)) o []) j ≡ Some later → i < j → is_behind earlier later ≡ true
    go None e f lt = (cc)
    go (Some k) e f lt = get_in_order (events_up_to schema class k journal (commits journal)) i j earlier later (up_to_in_order schema class k journal (commits journal)) e f lt
