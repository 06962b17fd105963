-- The objects that a transaction wrote: a list in order, cut at an object.
use Rattle.std.proofs.Common.{◌≡◌, ◌<◌, ◌≤◌, ◌⊎◌, ◌==◌, ◌&&◌, ◌||◌, nat_lt, ℕ, zero, suc, Bool, true, false, cond, List, [], ◌∷◌, ◌++◌, length, take, drop, set, remove, slice_get, Option, Some, None, find, option_map, refl, sym, ap, subst, ◌∙◌, inl, inr, ⊎_elim, arith, ltb-true, lt-ltb, eqb-true, eq-eqb, add-one, ◌+◌}
use Rattle.std.proofs.lemmas.Option.{slice_get_within}
use Rattle.std.specs.Option.{option_or}
use Rattle.std.proofs.lemmas.Bool.{cases_order, cases_Bool, and_parts, and_from, false≢true}
use Rattle.rdb_registry.specs.declared.own_writes.OwnWrite.{OwnWrite}
use Rattle.rdb_registry.specs.OwnWrites.{is_of, is_at, header_of, IsBetween, Cut, IsGap, IsPlace, precedes, object_of, is_before, AllBefore, NoneBefore, AllBehind, AreOrdered}

-- what it means that an object comes before another
Before : ℕ × ℕ → ℕ × ℕ → Type 0
Before a b = (a.0 < b.0) ⊎ ((a.0 ≡ b.0) × (a.1 < b.1))

precedes_means : (a b : ℕ × ℕ) → precedes a b ≡ true → Before a b
unfolding Before
precedes_means a b e = go (nat_lt a.0 b.0) refl e
  where
    go : (t : Bool) → nat_lt a.0 b.0 ≡ t → (t || ((a.0 == b.0) && nat_lt a.1 b.1)) ≡ true → (a.0 < b.0) ⊎ ((a.0 ≡ b.0) × (a.1 < b.1))
    go true lt e = inl (ltb-true _ _ lt)
    go false ge e = let both = and_parts (a.0 == b.0) (nat_lt a.1 b.1) e in inr (eqb-true _ _ both.0, ltb-true _ _ both.1)

or_left : (a b : Bool) → a ≡ true → (a || b) ≡ true
or_left true b e = refl
or_left false b e = absurd (false≢true e)

or_right : (a b : Bool) → b ≡ true → (a || b) ≡ true
or_right true b e = refl
or_right false b e = e

precedes_if : (a b : ℕ × ℕ) → Before a b → precedes a b ≡ true
unfolding Before
precedes_if a b (inl lt) = or_left (nat_lt a.0 b.0) _ (lt-ltb _ _ lt)
precedes_if a b (inr both) = or_right (nat_lt a.0 b.0) _ (and_from (a.0 == b.0) (nat_lt a.1 b.1) (eq-eqb _ _ both.0) (lt-ltb _ _ both.1))

pair_is : (a b : ℕ × ℕ) → a.0 ≡ b.0 → a.1 ≡ b.1 → a ≡ b
pair_is a b first second = λ i. (first i, second i)

-- the order is transitive, and of two different objects one comes first
before_trans : (a b c : ℕ × ℕ) → Before a b → Before b c → Before a c
unfolding Before
before_trans a b c (inl x) (inl y) = inl (omega arith)
before_trans a b c (inl x) (inr y) = let e = y.0 in inl (omega arith)
before_trans a b c (inr x) (inl y) = let e = x.0 in inl (omega arith)
before_trans a b c (inr x) (inr y) = let e = x.0 in let f = y.0 in let g = x.1 in let h = y.1 in inr (omega arith, omega arith)

before_apart : (a b : ℕ × ℕ) → Before a b → a ≡ b → ⊥
unfolding Before
before_apart a b (inl lt) e = let first = ap (λ (x : ℕ × ℕ). x.0) e in absurd (omega arith)
before_apart a b (inr both) e = let second = ap (λ (x : ℕ × ℕ). x.1) e in let lt = both.1 in absurd (omega arith)

before_cases : (a b : ℕ × ℕ) → Before a b ⊎ ((a ≡ b) ⊎ Before b a)
unfolding Before
before_cases a b = elim (cases_order a.0 b.0) [
  | inl same ↦ elim (cases_order a.1 b.1) [
    | inl both ↦ inr (inl (pair_is a b same both))
    | inr rest ↦ ⊎_elim (λ lt. inl (inr (same, lt))) (λ gt. inr (inr (inr (sym same, gt)))) rest
  ]
  | inr rest ↦ ⊎_elim (λ lt. inl (inl lt)) (λ gt. inr (inr (inl gt))) rest
]

pub trans : (a b c : ℕ × ℕ) → precedes a b ≡ true → precedes b c ≡ true → precedes a c ≡ true
trans a b c x y = precedes_if a c (before_trans a b c (precedes_means a b x) (precedes_means b c y))

apart : (a b : ℕ × ℕ) → precedes a b ≡ true → a ≡ b → ⊥
apart a b x e = before_apart a b (precedes_means a b x) e

no_test : {P : Type 0} (b : Bool) → b ≡ false → b ≡ true → P
no_test b f t = absurd (false≢true (sym f ∙ t))

-- of two objects of which the first doesn't come before the second, that one comes first or is the same
not_before : (a b : ℕ × ℕ) → precedes a b ≡ false → (a ≡ b) ⊎ (precedes b a ≡ true)
not_before a b f = elim (before_cases a b) [
  | inl lt ↦ no_test (precedes a b) f (precedes_if a b lt)
  | inr rest ↦ ⊎_elim (λ e. inl e) (λ gt. inr (precedes_if b a gt)) rest
]

-- an object before one that no other comes before, comes before the other
lt_le : (a o v : ℕ × ℕ) → precedes a o ≡ true → precedes v o ≡ false → precedes a v ≡ true
lt_le a o v x f = elim (not_before v o f) [
  | inl same ↦ subst (λ (y : ℕ × ℕ). precedes a y ≡ true) (sym same) x
  | inr lt ↦ trans a o v x lt
]

-- no object comes before itself
pub never_itself : (a : ℕ × ℕ) → precedes a a ≡ false
never_itself a = elim (cases_Bool (precedes a a)) [
  | inl t ↦ absurd (apart a a t refl)
  | inr f ↦ f
]

-- whether a write is of an object
pub of_true : (o : ℕ × ℕ) (w : OwnWrite) → is_of o w ≡ true → object_of w ≡ o
of_true o w e = let both = and_parts (w.class == o.0) (w.id == o.1) e in pair_is (object_of w) o (eqb-true _ _ both.0) (eqb-true _ _ both.1)

pub of_itself : (o : ℕ × ℕ) (w : OwnWrite) → object_of w ≡ o → is_of o w ≡ true
of_itself o w e = and_from (w.class == o.0) (w.id == o.1) (eq-eqb _ _ (ap (λ (x : ℕ × ℕ). x.0) e)) (eq-eqb _ _ (ap (λ (x : ℕ × ℕ). x.1) e))

pub of_other : (o : ℕ × ℕ) (w : OwnWrite) → (object_of w ≡ o → ⊥) → is_of o w ≡ false
of_other o w ne = elim (cases_Bool (is_of o w)) [
  | inl t ↦ absurd (ne (of_true o w t))
  | inr f ↦ f
]

-- what is found of an object
found_first : (o : ℕ × ℕ) (w : OwnWrite) (rest : List OwnWrite) → is_of o w ≡ true → header_of (w ∷ rest) o ≡ Some w.header
found_first o w rest t = ap (λ b. option_map (λ (x : OwnWrite). x.header) (cond b (Some w) (find (is_of o) rest))) t

found_later : (o : ℕ × ℕ) (w : OwnWrite) (rest : List OwnWrite) → is_of o w ≡ false → header_of (w ∷ rest) o ≡ header_of rest o
found_later o w rest f = ap (λ b. option_map (λ (x : OwnWrite). x.header) (cond b (Some w) (find (is_of o) rest))) f

none_before : (o : ℕ × ℕ) (ws : List OwnWrite) → AllBefore o ws → header_of ws o ≡ None
none_before o [] all = refl
none_before o (w ∷ ws) all = found_later o w ws (of_other o w (apart (object_of w) o all.0)) ∙ none_before o ws all.1

none_behind : (o : ℕ × ℕ) (ws : List OwnWrite) → AllBehind o ws → header_of ws o ≡ None
none_behind o [] all = refl
none_behind o (w ∷ ws) all = found_later o w ws (of_other o w (λ e. apart o (object_of w) all.0 (sym e))) ∙ none_behind o ws all.1

header_append : (o : ℕ × ℕ) (xs ys : List OwnWrite) → header_of (xs ++ ys) o ≡ option_or (header_of xs o) (header_of ys o)
header_append o [] ys = refl
header_append o (x ∷ xs) ys = go (is_of o x) (header_append o xs ys)
  where
    go : (b : Bool) → header_of (xs ++ ys) o ≡ option_or (header_of xs o) (header_of ys o)
        → option_map (λ (w : OwnWrite). w.header) (cond b (Some x) (find (is_of o) (xs ++ ys)))
        ≡ option_or (option_map (λ (w : OwnWrite). w.header) (cond b (Some x) (find (is_of o) xs))) (header_of ys o)
    go true e = refl
    go false e = e

behind_more : (a b : ℕ × ℕ) (ws : List OwnWrite) → precedes a b ≡ true → AllBehind b ws → AllBehind a ws
behind_more a b [] x all = tt
behind_more a b (w ∷ ws) x all = (trans a b (object_of w) x all.0, behind_more a b ws x all.1)

-- those from an object on that aren't of it are behind it
behind_none : (o : ℕ × ℕ) (ws : List OwnWrite) → NoneBefore o ws → AreOrdered ws → is_at o (slice_get ws 0) ≡ false → AllBehind o ws
behind_none o [] none ordered e = tt
behind_none o (w ∷ ws) none ordered e =
    let first : precedes o (object_of w) ≡ true =
    ⊎_elim (λ same. no_test (is_of o w) e (of_itself o w same)) (λ lt. lt) (not_before (object_of w) o none.0) in
    (first, behind_more o (object_of w) ws first ordered.0)

ordered_take : (i : ℕ) (ws : List OwnWrite) → AreOrdered ws → AreOrdered (take i ws)
ordered_take zero [] ordered = tt
ordered_take zero (w ∷ ws) ordered = tt
ordered_take (suc i) [] ordered = tt
ordered_take (suc i) (w ∷ ws) ordered = (behind_take i (object_of w) ws ordered.0, ordered_take i ws ordered.1)
  where
    behind_take : (i : ℕ) (o : ℕ × ℕ) (ws : List OwnWrite) → AllBehind o ws → AllBehind o (take i ws)
    behind_take zero o [] all = tt
    behind_take zero o (w ∷ ws) all = tt
    behind_take (suc i) o [] all = tt
    behind_take (suc i) o (w ∷ ws) all = (all.0, behind_take i o ws all.1)

ordered_drop : (i : ℕ) (ws : List OwnWrite) → AreOrdered ws → AreOrdered (drop i ws)
ordered_drop zero [] ordered = tt
ordered_drop zero (w ∷ ws) ordered = ordered
ordered_drop (suc i) [] ordered = tt
ordered_drop (suc i) (w ∷ ws) ordered = ordered_drop i ws ordered.1

-- what comes before an object, and what doesn't, joined in order
ordered_join : (o : ℕ × ℕ) (xs ys : List OwnWrite) → AreOrdered xs → AreOrdered ys → AllBefore o xs → NoneBefore o ys → AreOrdered (xs ++ ys)
ordered_join o [] ys ox oy before none = oy
ordered_join o (x ∷ xs) ys ox oy before none =
    (behind_join xs ys ox.0 (behind_all ys none), ordered_join o xs ys ox.1 oy before.1 none)
  where
    behind_all : (ys : List OwnWrite) → NoneBefore o ys → AllBehind (object_of x) ys
    behind_all [] none = tt
    behind_all (y ∷ ys) none = (lt_le (object_of x) o (object_of y) before.0 none.0, behind_all ys none.1)

    behind_join : (xs ys : List OwnWrite) → AllBehind (object_of x) xs → AllBehind (object_of x) ys → AllBehind (object_of x) (xs ++ ys)
    behind_join [] ys a b = b
    behind_join (w ∷ ws) ys a b = (a.0, behind_join ws ys a.1 b)

none_of_behind : (o : ℕ × ℕ) (ws : List OwnWrite) → AllBehind o ws → NoneBefore o ws
none_of_behind o [] all = tt
none_of_behind o (w ∷ ws) all = (not_after, none_of_behind o ws all.1)
  where
    not_after : precedes (object_of w) o ≡ false
    not_after = elim (cases_Bool (precedes (object_of w) o)) [
      | inl t ↦ absurd (apart o o (trans o (object_of w) o all.0 t) refl)
      | inr f ↦ f
    ]

-- with a write of the object between, or without one, it is in order
pub cut_with : {o : ℕ × ℕ} {front back : List OwnWrite} → Cut o front back → (w : OwnWrite) → object_of w ≡ o → AreOrdered (front ++ w ∷ back)
cut_with {o} {front} {back} c w same =
    ordered_join o front (w ∷ back) c.front_ordered (subst (λ (x : ℕ × ℕ). AllBehind x back) (sym same) c.behind, c.back_ordered) c.before
    (subst (λ (x : ℕ × ℕ). precedes x o ≡ false) (sym same) (never_itself o), none_of_behind o back c.behind)

pub cut_without : {o : ℕ × ℕ} {front back : List OwnWrite} → Cut o front back → AreOrdered (front ++ back)
cut_without {o} {front} {back} c = ordered_join o front back c.front_ordered c.back_ordered c.before (none_of_behind o back c.behind)

-- what is found of the object, and of others
pub here_with : {o : ℕ × ℕ} {front back : List OwnWrite} → Cut o front back → (w : OwnWrite) → object_of w ≡ o → header_of (front ++ w ∷ back) o ≡ Some w.header
here_with {o} {front} {back} c w same =
    header_append o front (w ∷ back)
    ∙ (ap (λ h. option_or h (header_of (w ∷ back) o)) (none_before o front c.before) ∙ found_first o w back (of_itself o w same))

pub here_without : {o : ℕ × ℕ} {front back : List OwnWrite} → Cut o front back → header_of (front ++ back) o ≡ None
here_without {o} {front} {back} c =
    header_append o front back ∙ (ap (λ h. option_or h (header_of back o)) (none_before o front c.before) ∙ none_behind o back c.behind)

pub others_with : (o other : ℕ × ℕ) (front back : List OwnWrite) (w : OwnWrite) → object_of w ≡ o → (other ≡ o → ⊥) → header_of (front ++ w ∷ back) other ≡ header_of (front ++ back) other
others_with o other front back w same ne =
    header_append other front (w ∷ back)
    ∙ (ap (option_or (header_of front other)) (found_later other w back (of_other other w (λ e. ne (sym e ∙ same)))) ∙ sym (header_append other front back))

-- the cut of a list at a place, where there is no write of the object, and where there is one
split : (i : ℕ) (ws : List OwnWrite) → take i ws ++ drop i ws ≡ ws
split zero [] = refl
split zero (w ∷ ws) = refl
split (suc i) [] = refl
split (suc i) (w ∷ ws) = ap (λ zs. w ∷ zs) (split i ws)

at_drop : (i : ℕ) (ws : List OwnWrite) → slice_get (drop i ws) 0 ≡ slice_get ws i
at_drop zero [] = refl
at_drop zero (w ∷ ws) = refl
at_drop (suc i) [] = refl
at_drop (suc i) (w ∷ ws) = at_drop i ws

drop_at : (i : ℕ) (ws : List OwnWrite) (w : OwnWrite) → slice_get ws i ≡ Some w → drop i ws ≡ w ∷ drop (suc i) ws
drop_at zero [] w at = let no : None ≡ Some w = at in absurd cc
drop_at zero (x ∷ ws) w at = let one : Some x ≡ Some w = at in let e : x ≡ w = cc in ap (λ y. y ∷ drop 0 ws) e
drop_at (suc i) [] w at = let no : None ≡ Some w = at in absurd cc
drop_at (suc i) (x ∷ ws) w at = drop_at i ws w at

whole : {o : ℕ × ℕ} {i : ℕ} (ws : List OwnWrite) (p : IsPlace o ws i) → ws ≡ take i ws ++ p.write ∷ drop (i + 1) ws
whole {o} {i} ws p = sym (split i ws) ∙ ap (λ zs. take i ws ++ zs) (rw add-one (drop_at i ws p.write p.at))

-- what is found of an object that is written, and of one that isn't
pub found_at_place : {o : ℕ × ℕ} {i : ℕ} (ws : List OwnWrite) (p : IsPlace o ws i) → header_of ws o ≡ Some p.write.header
found_at_place {o} ws p = ap (λ zs. header_of zs o) (whole ws p) ∙ here_with p.cut p.write p.same

pub not_found : {o : ℕ × ℕ} {i : ℕ} (ws : List OwnWrite) → IsGap o ws i → header_of ws o ≡ None
not_found {o} {i} ws g = ap (λ zs. header_of zs o) (sym (split i ws)) ∙ here_without g.cut

-- what others are found with, where the object's write goes, comes or is another
pub others_gone : {o : ℕ × ℕ} {i : ℕ} (ws : List OwnWrite) (p : IsPlace o ws i) → (other : ℕ × ℕ) → (other ≡ o → ⊥) → header_of ws other ≡ header_of (take i ws ++ drop (i + 1) ws) other
others_gone {o} {i} ws p other ne = ap (λ zs. header_of zs other) (whole ws p) ∙ others_with o other (take i ws) (drop (i + 1) ws) p.write p.same ne

pub others_come : {o : ℕ × ℕ} {i : ℕ} (ws : List OwnWrite) → IsGap o ws i → (w : OwnWrite) → object_of w ≡ o → (other : ℕ × ℕ) → (other ≡ o → ⊥) → header_of (take i ws ++ w ∷ drop i ws) other ≡ header_of ws other
others_come {o} {i} ws g w same other ne = others_with o other (take i ws) (drop i ws) w same ne ∙ ap (λ zs. header_of zs other) (split i ws)

-- a write put in the place of another
set_suc : (i : ℕ) (ws : List OwnWrite) (w : OwnWrite) → i < length ws → set ws i w ≡ take i ws ++ w ∷ drop (suc i) ws
set_suc i [] w lt = absurd (omega arith)
set_suc zero (x ∷ []) w lt = refl
set_suc zero (x ∷ y ∷ ws) w lt = refl
set_suc (suc i) (x ∷ ws) w lt = ap (λ zs. x ∷ zs) (set_suc i ws w (omega arith))

pub set_at : (i : ℕ) (ws : List OwnWrite) (w : OwnWrite) → i < length ws → set ws i w ≡ take i ws ++ w ∷ drop (i + 1) ws
set_at i ws w lt = rw add-one (set_suc i ws w lt)

pub place_within : {o : ℕ × ℕ} {i : ℕ} (ws : List OwnWrite) → IsPlace o ws i → i < length ws
place_within {o} {i} ws p = slice_get_within ws i p.write p.at

-- the write of an object that is written already, in the place of its earlier one
pub set_ordered : {o : ℕ × ℕ} {i : ℕ} (ws : List OwnWrite) → IsPlace o ws i → (w : OwnWrite) → object_of w ≡ o → AreOrdered (set ws i w)
set_ordered {o} {i} ws p w same = subst AreOrdered (sym (set_at i ws w (place_within ws p))) (cut_with p.cut w same)

pub set_here : {o : ℕ × ℕ} {i : ℕ} (ws : List OwnWrite) → IsPlace o ws i → (w : OwnWrite) → object_of w ≡ o → header_of (set ws i w) o ≡ Some w.header
set_here {o} {i} ws p w same = ap (λ zs. header_of zs o) (set_at i ws w (place_within ws p)) ∙ here_with p.cut w same

pub set_others : {o : ℕ × ℕ} {i : ℕ} (ws : List OwnWrite) → IsPlace o ws i → (w : OwnWrite) → object_of w ≡ o → (other : ℕ × ℕ) → (other ≡ o → ⊥) → header_of (set ws i w) other ≡ header_of ws other
set_others {o} {i} ws p w same other ne =
    ap (λ zs. header_of zs other) (set_at i ws w (place_within ws p))
    ∙ (others_with o other (take i ws) (drop (i + 1) ws) w same ne ∙ sym (others_gone ws p other ne))

-- a removal drops the rest from one place on
pub remove_is : (i : ℕ) (ws : List OwnWrite) → remove ws i ≡ take i ws ++ drop (i + 1) ws
remove_is i ws = rw add-one refl

-- the writes before an object stand in front
behind_at : (o : ℕ × ℕ) (ws : List OwnWrite) (j : ℕ) (v : OwnWrite) → AllBehind o ws → slice_get ws j ≡ Some v → precedes o (object_of v) ≡ true
behind_at o [] j v all at = let no : None ≡ Some v = at in absurd cc
behind_at o (x ∷ xs) zero v all at = let one : Some x ≡ Some v = at in let e : x ≡ v = cc in subst (λ (y : OwnWrite). precedes o (object_of y) ≡ true) e all.0
behind_at o (x ∷ xs) (suc j) v all at = behind_at o xs j v all.1 at

pub in_front : (o : ℕ × ℕ) (ws : List OwnWrite) → AreOrdered ws → (i j : ℕ) (u v : OwnWrite) → i ≤ j → slice_get ws i ≡ Some u → slice_get ws j ≡ Some v → is_before o v ≡ true → is_before o u ≡ true
in_front o [] ordered i j u v le at at' e = let no : None ≡ Some u = at in absurd cc
in_front o (w ∷ ws) ordered zero zero u v le at at' e = let one : Some u ≡ Some v = sym at ∙ at' in let same : v ≡ u = cc in subst (λ (y : OwnWrite). is_before o y ≡ true) same e
in_front o (w ∷ ws) ordered zero (suc j) u v le at at' e =
    let one : Some w ≡ Some u = at in
    let same : w ≡ u = cc in
    trans (object_of u) (object_of v) o (subst (λ (y : OwnWrite). precedes (object_of y) (object_of v) ≡ true) same (behind_at (object_of w) ws j v ordered.0 at')) e
in_front o (w ∷ ws) ordered (suc i) zero u v le at at' e = absurd (omega arith)
in_front o (w ∷ ws) ordered (suc i) (suc j) u v le at at' e = in_front o ws ordered.1 i j u v (omega arith) at at' e

-- the range is halved at a place
pub upper_half : (o : ℕ × ℕ) (ws : List OwnWrite) (low high middle : ℕ) (w : OwnWrite) → AreOrdered ws → IsBetween o ws low high → low ≤ middle → middle < high → slice_get ws middle ≡ Some w → is_before o w ≡ true
    → IsBetween o ws (middle + 1) high
upper_half o ws low high middle w ordered b le lt at e = record {
  range = omega arith;
  within = b.within;
  below = λ k v below at'. in_front o ws ordered k middle v w (omega arith) at' at e;
  above = b.above;
}

pub lower_half : (o : ℕ × ℕ) (ws : List OwnWrite) (low high middle : ℕ) (w : OwnWrite) → AreOrdered ws → IsBetween o ws low high → low ≤ middle → middle < high → slice_get ws middle ≡ Some w → is_before o w ≡ false
    → IsBetween o ws low middle
lower_half o ws low high middle w ordered b le lt at e = record {
  range = le;
  within = (let within = b.within in omega arith);
  below = b.below;
  above = λ k v above at'. elim (cases_Bool (is_before o v)) [
    | inl t ↦ no_test (is_before o w) e (in_front o ws ordered middle k w v above at at' t)
    | inr f ↦ f
  ];
}

-- a range without a place has the place of the object
pub all_before : (o : ℕ × ℕ) (ws : List OwnWrite) (i : ℕ) → ((k : ℕ) (w : OwnWrite) → k < i → slice_get ws k ≡ Some w → is_before o w ≡ true) → AllBefore o (take i ws)
all_before o [] zero each = tt
all_before o [] (suc i) each = tt
all_before o (w ∷ ws) zero each = tt
all_before o (w ∷ ws) (suc i) each = (each 0 w (omega arith) refl, all_before o ws i (λ k v lt at. each (suc k) v (omega arith) at))

none_all : (o : ℕ × ℕ) (ws : List OwnWrite) → ((k : ℕ) (w : OwnWrite) → slice_get ws k ≡ Some w → is_before o w ≡ false) → NoneBefore o ws
none_all o [] each = tt
none_all o (x ∷ xs) each = (each 0 x refl, none_all o xs (λ k v at. each (suc k) v at))

pub none_from : (o : ℕ × ℕ) (ws : List OwnWrite) (i : ℕ) → ((k : ℕ) (w : OwnWrite) → i ≤ k → slice_get ws k ≡ Some w → is_before o w ≡ false) → NoneBefore o (drop i ws)
none_from o [] zero each = tt
none_from o [] (suc i) each = tt
none_from o (w ∷ ws) zero each = none_all o (w ∷ ws) (λ k v at. each k v (omega arith) at)
none_from o (w ∷ ws) (suc i) each = none_from o ws i (λ k v le at. each (suc k) v (omega arith) at)

-- where the object isn't written
pub gap_at : (o : ℕ × ℕ) (i : ℕ) (ws : List OwnWrite) → AreOrdered ws → IsBetween o ws i i → is_at o (slice_get ws i) ≡ false → IsGap o ws i
gap_at o i ws ordered b absent = record {
  within = b.within;
  cut = record {
    front_ordered = ordered_take i ws ordered;
    back_ordered = ordered_drop i ws ordered;
    before = all_before o ws i b.below;
    behind = behind_none o (drop i ws) (none_from o ws i b.above) (ordered_drop i ws ordered) (ap (is_at o) (at_drop i ws) ∙ absent);
  };
}

-- where it is written
pub place_at : (o : ℕ × ℕ) (i : ℕ) (ws : List OwnWrite) → AreOrdered ws → IsBetween o ws i i → is_at o (slice_get ws i) ≡ true → IsPlace o ws i
place_at o i ws ordered b present = go (slice_get ws i) refl present
  where
    go : (found : Option OwnWrite) → slice_get ws i ≡ found → is_at o found ≡ true → IsPlace o ws i
    go None at e = absurd (false≢true e)
    go (Some w) at e =
        let rest : drop i ws ≡ w ∷ drop (i + 1) ws = rw add-one (drop_at i ws w at) in
        let back = subst AreOrdered rest (ordered_drop i ws ordered) in
        let same = of_true o w e in
        record {
          write = w;
          at = at;
          same = same;
          cut = record { front_ordered = ordered_take i ws ordered; back_ordered = back.1; before = all_before o ws i b.below; behind = subst (λ (x : ℕ × ℕ). AllBehind x (drop (i + 1) ws)) same back.0 };
        }
