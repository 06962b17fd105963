-- The next event of an event list is its first behind a place.
use Rattle.std.proofs.Common.{◌≡◌, ℕ, zero, suc, ◌<◌, Bool, true, false, ◌||◌, ◌&&◌, cond, ◌⊎◌, inl, inr, List, [], ◌∷◌, Option, Some, None, Contains, nat_eq, nat_lt, refl, sym, ap, subst, ◌∙◌, arith}
use Rattle.std.specs.List.{AllByRecursion}
use Rattle.std.specs.Option.{option_map_or}
use Rattle.std.proofs.lemmas.Bool.Decides.{nat_tests}
use Rattle.rdb_base.specs.declared.journal.Entry.{Entry}
use Rattle.rdb_schema.specs.declared.schema.EventKind.{EventKind}
use Rattle.rdb_schema.specs.declared.schema.Schema.{Schema}
use Rattle.rdb_model.specs.Journal.{commits}
use Rattle.rdb_model.specs.Events.{event_kind, events_up_to, event_list, is_behind, next_event}
use Rattle.rdb_model.proofs.EventIds.{contains_later}
use Rattle.rdb_model.proofs.EventLists.{InOrder, up_to_in_order}

-- what is behind a pair isn't before it
abbrev Behind : ℕ × ℕ → ℕ × ℕ → Type 0
Behind a b = (a.0 < b.0) ⊎ ((a.0 ≡ b.0) × (a.1 < b.1))

behind_is : (a b : ℕ × ℕ) → is_behind a b ≡ true → Behind a b
behind_is a b e = go (nat_lt a.0 b.0) (nat_eq a.0 b.0) (nat_lt a.1 b.1) refl refl refl e
  where
    go : (p q r : Bool) → nat_lt a.0 b.0 ≡ p → nat_eq a.0 b.0 ≡ q → nat_lt a.1 b.1 ≡ r → (p || (q && r)) ≡ true → Behind a b
    go true q r f g h e = let lt : a.0 < b.0 = grind (arith, nat_tests) in inl lt
    go false true true f g h e =
        let same : a.0 ≡ b.0 = grind (arith, nat_tests) in
        let lt : a.1 < b.1 = grind (arith, nat_tests) in
        inr (same, lt)
    go false true false f g h e = absurd (cc)
    go false false r f g h e = absurd (cc)

not_before : (a b : ℕ × ℕ) → Behind a b → is_behind b a ≡ false
not_before a b (inl lt) =
    let f : nat_lt b.0 a.0 ≡ false = grind (arith, nat_tests) in
    let g : nat_eq b.0 a.0 ≡ false = grind (arith, nat_tests) in
    rw (f, g) refl
not_before a b (inr (same, lt)) =
    let f : nat_lt b.0 a.0 ≡ false = grind (arith, nat_tests) in
    let g : nat_eq b.0 a.0 ≡ true = grind (arith, nat_tests) in
    let h : nat_lt b.1 a.1 ≡ false = grind (arith, nat_tests) in
    rw (f, g, h) refl

not_itself : (a : ℕ × ℕ) → is_behind a a ≡ false
not_itself a =
    let f : nat_lt a.0 a.0 ≡ false = grind (arith, nat_tests) in
    let g : nat_eq a.0 a.0 ≡ true = grind (arith, nat_tests) in
    let h : nat_lt a.1 a.1 ≡ false = grind (arith, nat_tests) in
    rw (f, g, h) refl

-- what is found is there and behind the place; where nothing is found, nothing is behind it
pub next_is : (place next : ℕ × ℕ) (events : List (ℕ × ℕ)) → next_event place events ≡ Some next → Contains events next × (is_behind place next ≡ true)
next_is place next [] is = absurd (cc)
next_is place next (x ∷ xs) is = go (is_behind place x) refl (next_is place next xs) is
  where
    go : (b : Bool) → is_behind place x ≡ b → (next_event place xs ≡ Some next → Contains xs next × (is_behind place next ≡ true)) → cond b (Some x) (next_event place xs) ≡ Some next → Contains (x ∷ xs) next × (is_behind place next ≡ true)
    go true e rest is =
        let same : x ≡ next = (cc) in
        ((0, omega arith, same), subst (λ p. is_behind place p ≡ true) same e)
    go false e rest is = let r : Contains xs next × (is_behind place next ≡ true) = rest is in (contains_later x next xs r.0, r.1)

pub none_is : (place other : ℕ × ℕ) (events : List (ℕ × ℕ)) → next_event place events ≡ None → Contains events other → is_behind place other ≡ false
none_is place other [] none c = absurd (omega (arith, c.1))
none_is place other (x ∷ xs) none c = go (is_behind place x) refl (none_is place other xs) none c
  where
    go : (b : Bool) → is_behind place x ≡ b → (next_event place xs ≡ None → Contains xs other → is_behind place other ≡ false) → cond b (Some x) (next_event place xs) ≡ None → Contains (x ∷ xs) other → is_behind place other ≡ false
    go true e rest none c = absurd (cc)
    go false e rest none (zero, lt, is) = subst (λ p. is_behind place p ≡ false) is e
    go false e rest none (suc k, lt, is) = rest none (k, omega (arith, lt), is)

all_contained : (P : ℕ × ℕ → Type 0) (xs : List (ℕ × ℕ)) (x : ℕ × ℕ) → AllByRecursion P xs → Contains xs x → P x
all_contained P [] x all c = absurd (omega (arith, c.1))
all_contained P (y ∷ ys) x all (zero, lt, is) = subst P is all.0
all_contained P (y ∷ ys) x all (suc k, lt, is) = all_contained P ys x all.1 (k, omega (arith, lt), is)

-- no other that is behind the place is before what is found
first_is : (place next other : ℕ × ℕ) (events : List (ℕ × ℕ)) → InOrder events → next_event place events ≡ Some next → Contains events other → is_behind place other ≡ true → is_behind other next ≡ false
first_is place next other [] order is c behind = (cc)
first_is place next other (x ∷ xs) order is c behind = go (is_behind place x) refl (first_is place next other xs order.1) is c
  where
    go : (b : Bool) → is_behind place x ≡ b → (next_event place xs ≡ Some next → Contains xs other → is_behind place other ≡ true → is_behind other next ≡ false) → cond b (Some x) (next_event place xs) ≡ Some next → Contains (x ∷ xs) other → is_behind other next ≡ false
    go true e rest is (zero, lt, at) =
        let found : x ≡ next = (cc) in
        subst (λ p. is_behind other p ≡ false) found (subst (λ p. is_behind p x ≡ false) at (not_itself x))
    go true e rest is (suc k, lt, at) =
        let found : x ≡ next = (cc) in
        let after : is_behind x other ≡ true = all_contained (λ y. is_behind x y ≡ true) xs other order.0 (k, omega (arith, lt), at) in
        subst (λ p. is_behind other p ≡ false) found (not_before x other (behind_is x other after))
    go false e rest is (zero, lt, at) = absurd (true_false (sym e ∙ ap (is_behind place) at ∙ behind))
      where
        true_false : false ≡ true → ⊥
        true_false h = (cc)
    go false e rest is (suc k, lt, at) = rest is (k, omega (arith, lt), at) behind

pub listed_first : (schema : Schema) (journal : List Entry) (class event : ℕ) (place next other : ℕ × ℕ) → next_event place (event_list schema class event journal) ≡ Some next → Contains (event_list schema class event journal) other → is_behind place other ≡ true → is_behind other next ≡ false
listed_first schema journal class event place next other = go (event_kind schema class event)
  where
    go : (o : Option EventKind) → next_event place (option_map_or (λ kind. events_up_to schema class kind journal (commits journal)) o []) ≡ Some next → Contains (option_map_or (λ kind. events_up_to schema class kind journal (commits journal)) o []) other → is_behind place other ≡ true → is_behind other next ≡ false
    go None is c behind = (cc)
    go (Some k) is c behind = first_is place next other (events_up_to schema class k journal (commits journal)) (up_to_in_order schema class k journal (commits journal)) is c behind
