-- The ids of events are those to which they happened.
use Rattle.std.proofs.Common.{◌≡◌, ℕ, zero, suc, Bool, true, false, ◌||◌, cond, List, [], ◌∷◌, map, filter, Option, Some, None, Contains, is_some, nat_eq, nat_lt, refl, sym, ap, subst, ◌∙◌, arith}
use Rattle.std.proofs.lemmas.Bool.Decides.{nat_tests}
use Rattle.rdb_schema.specs.declared.schema.EventKind.{EventKind}
use Rattle.rdb_schema.specs.declared.schema.EventKind.TheVariants as kind
use Rattle.rdb_model.specs.Database.{Row, Objects, row_of, with_row}
use Rattle.rdb_model.specs.Events.{happened, with_rows, ids_of_both, event_ids}
use Rattle.rdb_model.proofs.Rising.{row_of_with_row}

contains_first : {X : Type 0} (x : X) (xs : List X) → Contains (x ∷ xs) x
contains_first x xs = (0, omega arith, refl)

pub contains_later : {X : Type 0} (y x : X) (xs : List X) → Contains xs x → Contains (y ∷ xs) x
contains_later y x xs c = (suc c.0, omega (arith, c.1), c.2)

-- an element that passes is kept, and what is kept passes
kept : (test : ℕ → Bool) (xs : List ℕ) (x : ℕ) → test x ≡ true → Contains xs x → Contains (filter test xs) x
kept test [] x passes c = absurd (omega (arith, c.1))
kept test (y ∷ ys) x passes (zero, lt, is) =
    let here : test y ≡ true = ap test is ∙ passes in
    subst (λ b. Contains (cond b (y ∷ filter test ys) (filter test ys)) x) (sym here) (0, omega arith, is)
kept test (y ∷ ys) x passes (suc k, lt, is) = go (test y) (kept test ys x passes (k, omega arith, is))
  where
    go : (b : Bool) → Contains (filter test ys) x → Contains (cond b (y ∷ filter test ys) (filter test ys)) x
    go true rest = contains_later y x (filter test ys) rest
    go false rest = rest

passed : (test : ℕ → Bool) (xs : List ℕ) (x : ℕ) → Contains (filter test xs) x → test x ≡ true
passed test [] x c = absurd (omega (arith, c.1))
passed test (y ∷ ys) x c = go (test y) refl (passed test ys x) c
  where
    go : (b : Bool) → test y ≡ b → (Contains (filter test ys) x → test x ≡ true) → Contains (cond b (y ∷ filter test ys) (filter test ys)) x → test x ≡ true
    go false e rest c = rest c
    go true e rest (zero, lt, is) = ap test (sym is) ∙ e
    go true e rest (suc k, lt, is) = rest (k, omega arith, is)

-- an id that has a row is among the ids
has_id : (os : Objects) (id : ℕ) → is_some (row_of os id) ≡ true → Contains (map (λ o. o.0) os) id
has_id [] id is = (cc)
has_id (o ∷ os) id is = go (nat_eq o.0 id) refl (has_id os id) is
  where
    go : (b : Bool) → nat_eq o.0 id ≡ b → (is_some (row_of os id) ≡ true → Contains (map (λ o. o.0) os) id) → is_some (cond b (Some o.1) (row_of os id)) ≡ true → Contains (o.0 ∷ map (λ o. o.0) os) id
    go true e rest is = let same : o.0 ≡ id = grind (arith, nat_tests) in (0, omega arith, same)
    go false e rest is = contains_later o.0 id (map (λ o. o.0) os) (rest is)

row_of_written : (os : Objects) (id : ℕ) (row : Row) → row_of (with_row os id row) id ≡ Some row
row_of_written [] id row = let same : nat_eq id id ≡ true = grind (arith, nat_tests) in rw same refl
row_of_written (o ∷ os) id row = go (nat_lt id o.0) (nat_eq o.0 id) refl (grind (arith, nat_tests)) (row_of_written os id row)
  where
    go : (b c : Bool) → nat_eq o.0 id ≡ c → nat_eq id id ≡ true → row_of (with_row os id row) id ≡ Some row → row_of (cond b ((id, row) ∷ o ∷ os) (cond c ((id, row) ∷ os) (o ∷ with_row os id row))) id ≡ Some row
    go true c e same rest = rw same refl
    go false true e same rest = rw same refl
    go false false e same rest = rw e rest

-- an object before or after is among those of both
of_both : (before after : Objects) (id : ℕ) → (is_some (row_of before id) || is_some (row_of after id)) ≡ true → is_some (row_of (with_rows before after) id) ≡ true
of_both before [] id is = or_false (is_some (row_of before id)) is
  where
    or_false : (a : Bool) → (a || false) ≡ true → a ≡ true
    or_false true e = refl
    or_false false e = e
of_both before (o ∷ os) id is = go (nat_eq o.0 id) refl (of_both before os id) is
  where
    go : (b : Bool) → nat_eq o.0 id ≡ b → ((is_some (row_of before id) || is_some (row_of os id)) ≡ true → is_some (row_of (with_rows before os) id) ≡ true) → (is_some (row_of before id) || is_some (cond b (Some o.1) (row_of os id))) ≡ true → is_some (row_of (with_row (with_rows before os) o.0 o.1) id) ≡ true
    go true e rest is =
        let same : o.0 ≡ id = grind (arith, nat_tests) in
        subst (λ i. is_some (row_of (with_row (with_rows before os) o.0 o.1) i) ≡ true) same (ap is_some (row_of_written (with_rows before os) o.0 o.1))
    go false e rest is = ap is_some (row_of_with_row (with_rows before os) o.0 id o.1 e) ∙ rest is

-- an event happens to an object that is there before or after
there : (k : EventKind) (before after : Option Row) → happened k before after ≡ true → (is_some before || is_some after) ≡ true
there k (Some b) after e = refl
there k None (Some a) e = refl
there kind.New None None e = (cc)
there kind.Delete None None e = (cc)
there kind.Update None None e = (cc)
there (kind.UpdateField field) None None e = (cc)

pub ids_happened : (k : EventKind) (before after : Objects) (id : ℕ) → Contains (event_ids k before after) id → happened k (row_of before id) (row_of after id) ≡ true
ids_happened k before after id c = passed (λ id. happened k (row_of before id) (row_of after id)) (ids_of_both before after) id c

pub happened_ids : (k : EventKind) (before after : Objects) (id : ℕ) → happened k (row_of before id) (row_of after id) ≡ true → Contains (event_ids k before after) id
happened_ids k before after id e =
    kept (λ id. happened k (row_of before id) (row_of after id)) (ids_of_both before after) id e
    (has_id (with_rows before after) id (of_both before after id (there k (row_of before id) (row_of after id) e)))
