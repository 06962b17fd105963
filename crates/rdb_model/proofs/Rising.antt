-- Objects in ascending id: what is left of them without one, and with a row more.
use Rattle.std.proofs.Common.{◌≡◌, ℕ, ◌<◌, Bool, true, false, cond, not, [], ◌∷◌, ◌++◌, Some, None, nat_eq, nat_lt, refl, sym, ap, ◌∙◌, arith}
use Rattle.std.specs.List.{AllByRecursion}
use Rattle.std.proofs.lemmas.Bool.Decides.{nat_tests}
use Rattle.rdb_model.specs.Database.{Row, Objects, row_of, with_row, without}

-- each id is below those after it
abbrev pub IsRising : Objects → Type 0
IsRising [] = Unit {0}
IsRising (o ∷ os) = AllByRecursion (λ q. o.0 < q.0) os × IsRising os

-- an object is what has its parts
pair_is : (o : ℕ × Row) (id : ℕ) (row : Row) → o.0 ≡ id → o.1 ≡ row → o ≡ (id, row)
pair_is o id row is_id is_row = ap (λ i. (i, o.1)) is_id ∙ ap (λ r. (id, r)) is_row

equal_from : (a b : ℕ) → nat_eq a b ≡ true → a ≡ b
equal_from a b e = grind (arith, nat_tests)

less_from : (a b : ℕ) → nat_lt a b ≡ true → a < b
less_from a b e = grind (arith, nat_tests)

greater_from : (a b : ℕ) → nat_lt b a ≡ false → nat_eq a b ≡ false → a < b
greater_from a b e f = grind (arith, nat_tests)

less_is : (a b : ℕ) → a < b → nat_lt a b ≡ true
less_is a b lt = grind (arith, nat_tests)

above_differs : (a b : ℕ) → a < b → nat_eq b a ≡ false
above_differs a b lt = grind (arith, nat_tests)

-- two ids can't both be one that they differ from
pub not_both : (a b c : ℕ) → nat_eq a b ≡ true → nat_eq b c ≡ false → nat_eq a c ≡ false
not_both a b c e f = grind (arith, nat_tests)

-- what holds of each object holds still where more follows from it
pub all_more : (P Q : ℕ × Row → Type 0) (os : Objects) → ((o : ℕ × Row) → P o → Q o) → AllByRecursion P os → AllByRecursion Q os
all_more P Q [] more all = tt
all_more P Q (o ∷ os) more all = (more o all.0, all_more P Q os more all.1)

all_with_row : (P : ℕ × Row → Type 0) (os : Objects) (id : ℕ) (row : Row) → P (id, row) → AllByRecursion P os → AllByRecursion P (with_row os id row)
all_with_row P [] id row here all = (here, tt)
all_with_row P (o ∷ os) id row here all = go (nat_lt id o.0) (nat_eq o.0 id) (all_with_row P os id row here all.1)
  where
    go : (b c : Bool) → AllByRecursion P (with_row os id row) → AllByRecursion P (cond b ((id, row) ∷ o ∷ os) (cond c ((id, row) ∷ os) (o ∷ with_row os id row)))
    go true c rest = (here, all)
    go false true rest = (here, all.1)
    go false false rest = (all.0, rest)

all_without : (P : ℕ × Row → Type 0) (os : Objects) (id : ℕ) → AllByRecursion P os → AllByRecursion P (without os id)
all_without P [] id all = tt
all_without P (o ∷ os) id all = go (nat_eq o.0 id) (all_without P os id all.1)
  where
    go : (b : Bool) → AllByRecursion P (without os id) → AllByRecursion P (cond (not b) (o ∷ without os id) (without os id))
    go true rest = rest
    go false rest = (all.0, rest)

-- a row more, and a row less, keep the order
pub rising_with_row : (os : Objects) (id : ℕ) (row : Row) → IsRising os → IsRising (with_row os id row)
rising_with_row [] id row rising = (tt, tt)
rising_with_row (o ∷ os) id row rising = go (nat_lt id o.0) (nat_eq o.0 id) refl refl (rising_with_row os id row rising.1)
  where
    go : (b c : Bool) → nat_lt id o.0 ≡ b → nat_eq o.0 id ≡ c → IsRising (with_row os id row) → IsRising (cond b ((id, row) ∷ o ∷ os) (cond c ((id, row) ∷ os) (o ∷ with_row os id row)))
    go true c e f rest =
        let below : id < o.0 = less_from id o.0 e in
        ((below, all_more (λ q. o.0 < q.0) (λ q. id < q.0) os (λ q lt. omega arith) rising.0), rising)
    go false true e f rest =
        let same : o.0 ≡ id = equal_from o.0 id f in
        (all_more (λ q. o.0 < q.0) (λ q. id < q.0) os (λ q lt. omega arith) rising.0, rising.1)
    go false false e f rest = (all_with_row (λ q. o.0 < q.0) os id row (greater_from o.0 id e f) rising.0, rest)

pub rising_without : (os : Objects) (id : ℕ) → IsRising os → IsRising (without os id)
rising_without [] id rising = tt
rising_without (o ∷ os) id rising = go (nat_eq o.0 id) (rising_without os id rising.1)
  where
    go : (b : Bool) → IsRising (without os id) → IsRising (cond (not b) (o ∷ without os id) (without os id))
    go true rest = rest
    go false rest = (all_without (λ q. o.0 < q.0) os id rising.0, rest)

-- an id below all goes first, and isn't there
with_row_first : (os : Objects) (id : ℕ) (row : Row) → AllByRecursion (λ q. id < q.0) os → with_row os id row ≡ (id, row) ∷ os
with_row_first [] id row all = refl
with_row_first (o ∷ os) id row all = rw (less_is id o.0 all.0) refl

without_below : (os : Objects) (id : ℕ) → AllByRecursion (λ q. id < q.0) os → without os id ≡ os
without_below [] id all = refl
without_below (o ∷ os) id all = rw (above_differs id o.0 all.0) (ap (λ l. o ∷ l) (without_below os id all.1))

-- without an id that isn't there all stay
pub without_missing : (os : Objects) (id : ℕ) → row_of os id ≡ None → without os id ≡ os
without_missing [] id none = refl
without_missing (o ∷ os) id none = go (nat_eq o.0 id) (without_missing os id) none
  where
    go : (b : Bool) → (row_of os id ≡ None → without os id ≡ os) → cond b (Some o.1) (row_of os id) ≡ None → cond (not b) (o ∷ without os id) (without os id) ≡ o ∷ os
    go true rest none = (cc)
    go false rest none = ap (λ l. o ∷ l) (rest none)

-- the object of an id stands between those before it and those after it
pub record IsSplit (os : Objects) (id : ℕ) (row : Row) : Type 0 where
  pub front : Objects
  pub back : Objects
  pub whole : os ≡ front ++ (id, row) ∷ back
  pub rest : without os id ≡ front ++ back
  pub none_before : row_of front id ≡ None

pub split : (os : Objects) (id : ℕ) (row : Row) → IsRising os → row_of os id ≡ Some row → IsSplit os id row
split [] id row rising is = (cc)
split (o ∷ os) id row rising is = go (nat_eq o.0 id) refl (split os id row rising.1) is
  where
    go : (b : Bool) → nat_eq o.0 id ≡ b → (row_of os id ≡ Some row → IsSplit os id row) → cond b (Some o.1) (row_of os id) ≡ Some row → IsSplit (o ∷ os) id row
    go true e rest is =
        let same : o.0 ≡ id = equal_from o.0 id e in
        let has_row : o.1 ≡ row = (cc) in
        record {
          front = [];
          back = os;
          whole = ap (λ p. p ∷ os) (pair_is o id row same has_row);
          rest = rw e (without_below os id (all_more (λ q. o.0 < q.0) (λ q. id < q.0) os (λ q lt. omega arith) rising.0));
          none_before = refl;
        }
    go false e rest is =
        let s : IsSplit os id row = rest is in
        record {
          front = o ∷ s.front;
          back = s.back;
          whole = ap (λ l. o ∷ l) s.whole;
          rest = rw e (ap (λ l. o ∷ l) s.rest);
          none_before = rw e s.none_before;
        }

-- what a write at one id leaves at another
pub row_of_with_row : (os : Objects) (id other : ℕ) (row : Row) → nat_eq id other ≡ false → row_of (with_row os id row) other ≡ row_of os other
row_of_with_row [] id other row differs = rw differs refl
row_of_with_row (o ∷ os) id other row differs = go (nat_lt id o.0) (nat_eq o.0 id) refl (row_of_with_row os id other row differs)
  where
    go : (b c : Bool) → nat_eq o.0 id ≡ c → row_of (with_row os id row) other ≡ row_of os other → row_of (cond b ((id, row) ∷ o ∷ os) (cond c ((id, row) ∷ os) (o ∷ with_row os id row))) other ≡ row_of (o ∷ os) other
    go true c e rest = rw differs refl
    go false true e rest = rw (differs, not_both o.0 id other e differs) refl
    go false false e rest = ap (λ r. cond (nat_eq o.0 other) (Some o.1) r) rest

pub row_of_without : (os : Objects) (id other : ℕ) → nat_eq id other ≡ false → row_of (without os id) other ≡ row_of os other
row_of_without [] id other differs = refl
row_of_without (o ∷ os) id other differs = go (nat_eq o.0 id) refl (row_of_without os id other differs)
  where
    go : (c : Bool) → nat_eq o.0 id ≡ c → row_of (without os id) other ≡ row_of os other → row_of (cond (not c) (o ∷ without os id) (without os id)) other ≡ row_of (o ∷ os) other
    go true e rest = rw (not_both o.0 id other e differs) rest
    go false e rest = ap (λ r. cond (nat_eq o.0 other) (Some o.1) r) rest

pub row_of_without_same : (os : Objects) (id : ℕ) → row_of (without os id) id ≡ None
row_of_without_same [] id = refl
row_of_without_same (o ∷ os) id = go (nat_eq o.0 id) refl (row_of_without_same os id)
  where
    go : (c : Bool) → nat_eq o.0 id ≡ c → row_of (without os id) id ≡ None → row_of (cond (not c) (o ∷ without os id) (without os id)) id ≡ None
    go true e rest = rest
    go false e rest = rw e rest

-- a row that is written goes with its id
pub without_with_row_same : (os : Objects) (id : ℕ) (row : Row) → without (with_row os id row) id ≡ without os id
without_with_row_same [] id row = let same : nat_eq id id ≡ true = grind (arith, nat_tests) in rw same refl
without_with_row_same (o ∷ os) id row = go (nat_lt id o.0) (nat_eq o.0 id) refl (grind (arith, nat_tests)) (without_with_row_same os id row)
  where
    go : (b c : Bool) → nat_eq o.0 id ≡ c → nat_eq id id ≡ true → without (with_row os id row) id ≡ without os id → without (cond b ((id, row) ∷ o ∷ os) (cond c ((id, row) ∷ os) (o ∷ with_row os id row))) id ≡ without (o ∷ os) id
    go true c e same rest = rw same refl
    go false true e same rest = rw (same, e) refl
    go false false e same rest = ap (λ l. cond (not (nat_eq o.0 id)) (o ∷ l) l) rest

-- a write at one id, and the loss of another, go in either order
pub without_with_row : (os : Objects) (id other : ℕ) (row : Row) → IsRising os → nat_eq id other ≡ false → without (with_row os id row) other ≡ with_row (without os other) id row
without_with_row [] id other row rising differs = rw differs refl
without_with_row (o ∷ os) id other row rising differs = go (nat_lt id o.0) (nat_eq o.0 id) (nat_eq o.0 other) refl refl refl (without_with_row os id other row rising.1 differs)
  where
    go : (b c d : Bool) → nat_lt id o.0 ≡ b → nat_eq o.0 id ≡ c → nat_eq o.0 other ≡ d → without (with_row os id row) other ≡ with_row (without os other) id row → without (cond b ((id, row) ∷ o ∷ os) (cond c ((id, row) ∷ os) (o ∷ with_row os id row))) other ≡ with_row (cond (not d) (o ∷ without os other) (without os other)) id row
    go true c true e f g rest =
        let below : id < o.0 = less_from id o.0 e in
        let all : AllByRecursion (λ q. id < q.0) os = all_more (λ q. o.0 < q.0) (λ q. id < q.0) os (λ q lt. omega arith) rising.0 in
        rw (differs, g) (sym (with_row_first (without os other) id row (all_without (λ q. id < q.0) os other all)))
    go true c false e f g rest = rw (differs, g, e) refl
    go false true true e f g rest = absurd (true_false (sym g ∙ not_both o.0 id other f differs))
      where
        true_false : true ≡ false → ⊥
        true_false h = (cc)
    go false true false e f g rest = rw (differs, e, f) refl
    go false false true e f g rest = rw g rest
    go false false false e f g rest = rw (g, e, f) (ap (λ l. o ∷ l) rest)

pub without_without : (os : Objects) (id other : ℕ) → without (without os id) other ≡ without (without os other) id
without_without [] id other = refl
without_without (o ∷ os) id other = go (nat_eq o.0 id) (nat_eq o.0 other) refl refl (without_without os id other)
  where
    go : (c d : Bool) → nat_eq o.0 id ≡ c → nat_eq o.0 other ≡ d → without (without os id) other ≡ without (without os other) id → without (cond (not c) (o ∷ without os id) (without os id)) other ≡ without (cond (not d) (o ∷ without os other) (without os other)) id
    go true true e f rest = rest
    go true false e f rest = rw e rest
    go false true e f rest = rw f rest
    go false false e f rest = rw (e, f) (ap (λ l. o ∷ l) rest)

pub without_twice : (os : Objects) (id : ℕ) → without (without os id) id ≡ without os id
without_twice os id = without_missing (without os id) id (row_of_without_same os id)
