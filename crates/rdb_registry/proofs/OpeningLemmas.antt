-- The least snapshot of the open transactions, slot by slot.
use Rattle.std.proofs.Common.{◌≡◌, ◌<◌, ◌≤◌, ◌⊎◌, ℕ, zero, suc, List, [], ◌∷◌, min, Option, Some, None, IsSome, IfSome, MatchOption, slice_get, refl, sym, ap, ◌∙◌, inl, inr, ⊎_elim, subst, ◌+◌, length, get_or, drop, add-one, drop-cons, arith}
use Rattle.std.proofs.lemmas.Bool.{cases_lt}
use Rattle.std.specs.Option.{option_map}
use Rattle.rdb_registry.specs.declared.seat.Seat.{Seat}
use Rattle.rdb_registry.specs.declared.seat.Slot.{Slot}
use Rattle.rdb_registry.specs.declared.seat.Transaction.{Transaction}
use Rattle.rdb_registry.specs.Seats.{Opening, openings, opening_of, marked, HasUnmarked, opening_in, lower, NoneOpen, IsLeastSnapshot}
use Rattle.rdb_registry.specs.Kept.{record_of, seats_of}

-- the least snapshot, with that so far and those of the slots
abbrev pub lower_all : Option ℕ → List Slot → Option ℕ
lower_all least [] = least
lower_all least (slot ∷ rest) = lower_all (lower least (opening_in (record_of slot))) rest

-- the opening of some slot has the snapshot
abbrev HasOne : List (Option Opening) → ℕ → Type 0
HasOne opened n = (slot : ℕ) × ((o : Opening) × (slice_get opened slot ≡ Some (Some o)) × (o.snapshot ≡ n))

-- each open one has at least it
abbrev AtLeast : List (Option Opening) → ℕ → Type 0
AtLeast opened n = (slot : ℕ) (o : Opening) → slice_get opened slot ≡ Some (Some o) → n ≤ o.snapshot

-- what is the least of a snapshot so far and those that are open
abbrev Least : Option ℕ → List (Option Opening) → Option ℕ → Type 0
Least so_far opened None = (so_far ≡ None) × NoneOpen opened
Least so_far opened (Some n) = IfSome so_far (λ a. n ≤ a) × AtLeast opened n × ((so_far ≡ Some n) ⊎ HasOne opened n)

some_is : (a b : ℕ) → Some a ≡ Some b → a ≡ b
some_is a b e = cc

none_some : (n : ℕ) → None ≡ Some n → ⊥
none_some n e = cc

cases_le : (x y : ℕ) → (x ≤ y) ⊎ (y < x)
cases_le x y = ⊎_elim (λ lt. inr lt) (λ le. inl le) (cases_lt y x)

closed_more : (opened : List (Option Opening)) → NoneOpen opened → NoneOpen (None ∷ opened)
closed_more opened none zero o e = let one : Some None ≡ Some (Some o) = e in cc
closed_more opened none (suc slot) o e = none slot o e

at_least_closed : (opened : List (Option Opening)) (n : ℕ) → AtLeast opened n → AtLeast (None ∷ opened) n
at_least_closed opened n least zero o e = let one : Some None ≡ Some (Some o) = e in absurd cc
at_least_closed opened n least (suc slot) o e = least slot o e

at_least_open : (opened : List (Option Opening)) (o : Opening) (n : ℕ) → n ≤ o.snapshot → AtLeast opened n → AtLeast (Some o ∷ opened) n
at_least_open opened o n le least zero other e =
    let one : Some (Some o) ≡ Some (Some other) = e in
    let same : o ≡ other = cc in
    let snap : o.snapshot ≡ other.snapshot = ap (λ (x : Opening). x.snapshot) same in omega arith
at_least_open opened o n le least (suc slot) other e = least slot other e

has_more : (first : Option Opening) (opened : List (Option Opening)) (n : ℕ) → HasOne opened n → HasOne (first ∷ opened) n
has_more first opened n one = (suc one.0, one.1)

closed : (so_far : Option ℕ) (opened : List (Option Opening)) (r : Option ℕ) → Least so_far opened r → Least so_far (None ∷ opened) r
closed so_far opened None l = (l.0, closed_more opened l.1)
closed so_far opened (Some n) l = (l.0, at_least_closed opened n l.1, ⊎_elim (λ e. inl e) (λ one. inr (has_more None opened n one)) l.2)

opened_first : (o : Opening) (opened : List (Option Opening)) (r : Option ℕ) → Least (Some o.snapshot) opened r → Least None (Some o ∷ opened) r
opened_first o opened None l = let e = l.0 in absurd cc
opened_first o opened (Some n) l =
    (tt, at_least_open opened o n l.0 l.1, ⊎_elim (λ e. inr (zero, (o, refl, some_is o.snapshot n e))) (λ one. inr (has_more (Some o) opened n one)) l.2)

opened_next : (a : ℕ) (o : Opening) (opened : List (Option Opening)) (r : Option ℕ) → Least (Some (min a o.snapshot)) opened r → Least (Some a) (Some o ∷ opened) r
opened_next a o opened None l = let e = l.0 in absurd cc
opened_next a o opened (Some n) l =
    let le : n ≤ min a o.snapshot = l.0 in
    (omega arith, at_least_open opened o n (omega arith) l.1, ⊎_elim (λ e. mine (some_is (min a o.snapshot) n e)) (λ one. inr (has_more (Some o) opened n one)) l.2)
  where
    mine : min a o.snapshot ≡ n → (Some a ≡ Some n) ⊎ HasOne (Some o ∷ opened) n
    mine e = ⊎_elim (λ le. let same : a ≡ n = omega arith in inl (ap (λ (x : ℕ). Some x) same)) (λ lt. let same : o.snapshot ≡ n = omega arith in inr (zero, (o, refl, same))) (cases_le a o.snapshot)

least_of : (so_far : Option ℕ) (all : List Slot) → Least so_far (openings (seats_of all)) (lower_all so_far all)
least_of None [] = (refl, λ slot o e. let no : None ≡ Some (Some o) = e in cc)
least_of (Some a) [] = (omega arith, λ slot o e. (let no : None ≡ Some (Some o) = e in absurd cc), inl refl)
least_of so_far (slot ∷ rest) = go so_far (opening_in (record_of slot)) (λ least. least_of least rest)
  where
    go : (least : Option ℕ) (o : Option Opening) → ((l : Option ℕ) → Least l (openings (seats_of rest)) (lower_all l rest)) → Least least (o ∷ openings (seats_of rest)) (lower_all (lower least o) rest)
    go least None ih = closed least (openings (seats_of rest)) (lower_all least rest) (ih least)
    go None (Some o) ih = opened_first o (openings (seats_of rest)) (lower_all (Some o.snapshot) rest) (ih (Some o.snapshot))
    go (Some a) (Some o) ih = opened_next a o (openings (seats_of rest)) (lower_all (Some (min a o.snapshot)) rest) (ih (Some (min a o.snapshot)))

-- the least snapshot of all slots is that of the open transactions
pub least_is : (all : List Slot) (r : Option ℕ) → lower_all None all ≡ r → MatchOption r (NoneOpen (openings (seats_of all))) (IsLeastSnapshot (openings (seats_of all)))
least_is all r e = subst (λ (o : Option ℕ). MatchOption o (NoneOpen (openings (seats_of all))) (IsLeastSnapshot (openings (seats_of all)))) e (go (lower_all None all) (least_of None all))
  where
    go : (o : Option ℕ) → Least None (openings (seats_of all)) o → MatchOption o (NoneOpen (openings (seats_of all))) (IsLeastSnapshot (openings (seats_of all)))
    go None l = l.1
    go (Some n) l = record { one = ⊎_elim (λ e. absurd (none_some n e)) (λ one. one) l.2; least = l.1 }

-- one slot more
pub lower_more :
    (all : List Slot) (i : ℕ) (slot : Slot) (least : Option ℕ) → i < length all → slot ≡ get_or all i slot
    → lower_all least (drop i all) ≡ lower_all (lower least (opening_in (record_of slot))) (drop (i + 1) all)
lower_more all i slot least lt e =
    let rest : drop i all ≡ slot ∷ drop (i + 1) all = rw (add-one) (drop-cons all i slot lt ∙ ap (λ (s : Slot). s ∷ drop (suc i) all) (sym e)) in
    ap (lower_all least) rest

-- a mark leaves what an opening says
pub opening_marked : (commit : ℕ) (t : Option Transaction) → option_map opening_of (option_map (marked commit) t) ≡ option_map opening_of t
opening_marked commit None = refl
opening_marked commit (Some t) = refl

-- a record with an open transaction is one
pub unmarked_held : (seat : Option Seat) → HasUnmarked seat → IsSome seat
unmarked_held None h = absurd h
unmarked_held (Some seat) h = refl
