-- A sorted index, and the next pair in it.
use Rattle.std.proofs.Common.{◌≡◌, ℕ, ◌+◌, ◌<◌, Bool, true, false, ◌&&◌, cond, List, [], ◌∷◌, length, get_or, drop, Option, Some, None, refl, sym, ap, subst, ◌∙◌, if◌then◌else◌}
use Rattle.std.specs.declared.cmp.Ordering.{Ordering}
use Rattle.std.specs.declared.cmp.Ordering.TheVariants.{Less, Equal, Greater}
use Rattle.std.specs.Ordering.{ordering_reverse, is_lt, is_gt}
use Rattle.std.specs.List.{find, AllByRecursion}
use Rattle.std.specs.Option.{option_or}
use Rattle.std.specs.Cmp.{IsTotalOrder}
use Rattle.std.proofs.lemmas.Cmp.{on_total, then_total, nat_cmp_total, tied_back, alike_right}
use Rattle.std.proofs.lemmas.List.{drop_more}
use mathlib.Core.Bool.{true≢false}
use Rattle.rdb_base.specs.declared.operation.Place.{Place}
use Rattle.rdb_base.specs.declared.operation.Place.TheVariants as place
use Rattle.rdb_base.proofs.OrderLemmas.{row_order_total}
use Rattle.rdb_model.specs.Database.{Row, Objects}
use Rattle.rdb_model.specs.Index.{pair_order, with_pair, pair_of, index}
use Rattle.rdb_model.specs.Answer.{is_after, is_before, is_beyond, sought, find_last}
use Rattle.rdb_model.specs.Seek.{takes}

-- the order of an index is total
pub pair_order_total : IsTotalOrder pair_order
pair_order_total = then_total (on_total (λ (p : Row × ℕ). p.0) row_order_total) (on_total (λ (p : Row × ℕ). p.1) nat_cmp_total)

less_from : (o : Ordering) → is_lt o ≡ true → o ≡ Less
less_from Less e = refl
less_from Equal e = (cc)
less_from Greater e = (cc)

greater_from : (o : Ordering) → is_gt o ≡ true → o ≡ Greater
greater_from Less e = (cc)
greater_from Equal e = (cc)
greater_from Greater e = refl

some_same : (p q : Row × ℕ) → ◌≡◌ {A = Option (Row × ℕ)} (Some p) (Some q) → p ≡ q
some_same p q e = (cc)

-- what an order says of the pair turned round
turned : (p q : Row × ℕ) (o : Ordering) → pair_order p q ≡ o → pair_order q p ≡ ordering_reverse o
turned p q o e = pair_order_total.antisymm q p ∙ ap ordering_reverse e

-- a pair below one that isn't above a third is below the third
below_from : (x y z : Row × ℕ) (o : Ordering) → pair_order z y ≡ o → is_lt (pair_order x y) ≡ true → is_lt o ≡ false → is_lt (pair_order x z) ≡ true
below_from x y z Less e below not_above = (cc)
below_from x y z Equal e below not_above =
    ap is_lt (sym (alike_right pair_order_total y z x (tied_back pair_order_total z y e)) ∙ less_from (pair_order x y) below)
below_from x y z Greater e below not_above =
    ap is_lt (pair_order_total.trans x y z (less_from (pair_order x y) below) (turned z y Greater e))

-- a pair above one that is beyond a place, going up, is beyond it too
beyond_above : (from : Place) (x y : Row × ℕ) → is_after from x ≡ true → is_lt (pair_order x y) ≡ true → is_after from y ≡ true
beyond_above place.Start x y beyond below = refl
beyond_above place.End x y beyond below = beyond
beyond_above (place.At wanted id) x y beyond below =
    ap is_gt (turned (wanted, id) y Less (pair_order_total.trans (wanted, id) x y (turned x (wanted, id) Greater (greater_from (pair_order x (wanted, id)) beyond)) (less_from (pair_order x y) below)))

-- each pair isn't above those after it
abbrev pub IsSorted : List (Row × ℕ) → Type 0
IsSorted [] = Unit {0}
IsSorted (p ∷ ps) = AllByRecursion (λ q. is_lt (pair_order q p) ≡ false) ps × IsSorted ps

all_with_pair : (P : Row × ℕ → Type 0) (p : Row × ℕ) (ps : List (Row × ℕ)) → P p → AllByRecursion P ps → AllByRecursion P (with_pair p ps)
all_with_pair P p [] here rest = (here, tt)
all_with_pair P p (q ∷ qs) here rest =
    elim (is_lt (pair_order p q)) as (λ b. AllByRecursion P (cond b (p ∷ q ∷ qs) (q ∷ with_pair p qs))) [
      | true ↦ (here, rest)
      | false ↦ (rest.0, all_with_pair P p qs here rest.1)
    ]

-- a pair below another isn't above it
not_above : (p q : Row × ℕ) → is_lt (pair_order p q) ≡ true → is_lt (pair_order q p) ≡ false
not_above p q below = ap is_lt (turned p q Less (less_from (pair_order p q) below))

all_below : (p q : Row × ℕ) (ps : List (Row × ℕ)) → is_lt (pair_order p q) ≡ true → AllByRecursion (λ r. is_lt (pair_order r q) ≡ false) ps → AllByRecursion (λ r. is_lt (pair_order p r) ≡ true) ps
all_below p q [] below rest = tt
all_below p q (r ∷ rs) below rest = (below_from p q r (pair_order r q) refl below rest.0, all_below p q rs below rest.1)

all_not_above : (p : Row × ℕ) (ps : List (Row × ℕ)) → AllByRecursion (λ r. is_lt (pair_order p r) ≡ true) ps → AllByRecursion (λ r. is_lt (pair_order r p) ≡ false) ps
all_not_above p [] below = tt
all_not_above p (r ∷ rs) below = (not_above p r below.0, all_not_above p rs below.1)

-- one more pair keeps the order
sorted_with_pair : (p : Row × ℕ) (ps : List (Row × ℕ)) → IsSorted ps → IsSorted (with_pair p ps)
sorted_with_pair p [] sorted = (tt, tt)
sorted_with_pair p (q ∷ qs) sorted = go (is_lt (pair_order p q)) refl (sorted_with_pair p qs sorted.1)
  where
    go : (b : Bool) → is_lt (pair_order p q) ≡ b → IsSorted (with_pair p qs) → IsSorted (cond b (p ∷ q ∷ qs) (q ∷ with_pair p qs))
    go true below rest = (all_not_above p (q ∷ qs) (below, all_below p q qs below sorted.0), sorted)
    go false not_below rest = (all_with_pair (λ r. is_lt (pair_order r q) ≡ false) p qs not_below sorted.0, rest)

-- an index is sorted
pub index_sorted : (fields : List ℕ) (os : Objects) → IsSorted (index fields os)
index_sorted fields [] = tt
index_sorted fields (o ∷ os) = sorted_with_pair (pair_of fields o) (index fields os) (index_sorted fields os)

-- what the best is with one more pair
abbrev pub better : Place → Bool → Row × ℕ → Option (Row × ℕ) → Option (Row × ℕ)
better from up pair best = if is_beyond from up pair && takes up pair best then Some pair else best

-- going up, the first pair beyond is the new one or the one before
up_step : (from : Place) (p : Row × ℕ) (ps : List (Row × ℕ)) → find (is_beyond from true) (with_pair p ps) ≡ better from true p (find (is_beyond from true) ps)
up_step from p [] = go (is_after from p) refl
  where
    go : (b : Bool) → is_after from p ≡ b → find (is_beyond from true) (p ∷ []) ≡ better from true p None
    go true f = rw f refl
    go false f = rw f refl
up_step from p (q ∷ qs) = go (up_step from p qs) (is_lt (pair_order p q)) (is_after from p) (is_after from q) refl refl refl
  where
    go : find (is_beyond from true) (with_pair p qs) ≡ better from true p (find (is_beyond from true) qs) → (below beyond_p beyond_q : Bool) → is_lt (pair_order p q) ≡ below → is_after from p ≡ beyond_p → is_after from q ≡ beyond_q → find (is_beyond from true) (cond below (p ∷ q ∷ qs) (q ∷ with_pair p qs)) ≡ better from true p (cond (is_after from q) (Some q) (find (is_beyond from true) qs))
    go rest true true true e f g = rw (f, g, e) refl
    go rest true true false e f g = let b = beyond_above from p q f e in absurd (true≢false (sym b ∙ g))
    go rest true false true e f g = rw (f, g) refl
    go rest true false false e f g = rw (f, g) refl
    go rest false true true e f g = rw (f, g, e) refl
    go rest false true false e f g = rw g rest
    go rest false false true e f g = rw (f, g) refl
    go rest false false false e f g = rw g rest

-- the last that passes is one of the pairs
last_in : (passes : Row × ℕ → Bool) (P : Row × ℕ → Type 0) (ps : List (Row × ℕ)) (r : Row × ℕ) → find_last passes ps ≡ Some r → AllByRecursion P ps → P r
last_in passes P [] r found all = (cc)
last_in passes P (q ∷ qs) r found all = go (λ e. last_in passes P qs r e all.1) (find_last passes qs) (passes q) refl found
  where
    go : (find_last passes qs ≡ Some r → P r) → (m : Option (Row × ℕ)) (b : Bool) → find_last passes qs ≡ m → option_or m (cond b (Some q) None) ≡ Some r → P r
    go rest (Some x) b e found = rest (e ∙ found)
    go rest None true e found = subst P (some_same q r found) all.0
    go rest None false e found = (cc)

-- a choice of two that are there is there
kept : (c : Bool) (x y : Row × ℕ) (o : Option (Row × ℕ)) → option_or (cond c (Some x) (Some y)) o ≡ cond c (Some x) (Some y)
kept true x y o = refl
kept false x y o = refl

-- going down, the last pair beyond is the new one or the one before
down_step : (from : Place) (p : Row × ℕ) (ps : List (Row × ℕ)) → IsSorted ps → find_last (is_beyond from false) (with_pair p ps) ≡ better from false p (find_last (is_beyond from false) ps)
down_step from p [] sorted = go (is_before from p) refl
  where
    go : (b : Bool) → is_before from p ≡ b → find_last (is_beyond from false) (p ∷ []) ≡ better from false p None
    go true f = rw f refl
    go false f = rw f refl
down_step from p (q ∷ qs) sorted = go (down_step from p qs sorted.1) (is_lt (pair_order p q)) (is_before from p) (is_before from q) (find_last (is_beyond from false) qs) refl refl refl refl
  where
    go : find_last (is_beyond from false) (with_pair p qs) ≡ better from false p (find_last (is_beyond from false) qs) → (below beyond_p beyond_q : Bool) (m : Option (Row × ℕ)) → is_lt (pair_order p q) ≡ below → is_before from p ≡ beyond_p → is_before from q ≡ beyond_q → find_last (is_beyond from false) qs ≡ m → find_last (is_beyond from false) (cond below (p ∷ q ∷ qs) (q ∷ with_pair p qs)) ≡ better from false p (option_or (find_last (is_beyond from false) qs) (cond (is_before from q) (Some q) None))
    go rest true true true None e f g h = rw (f, g, h, e) refl
    go rest true false true None e f g h = rw (f, g, h) refl
    go rest true true false None e f g h = rw (f, g, h) refl
    go rest true false false None e f g h = rw (f, g, h) refl
    go rest true true b (Some r) e f g h =
        let below = last_in (is_beyond from false) (λ r. is_lt (pair_order p r) ≡ true) qs r h (all_below p q qs e sorted.0) in
        rw (f, h, below) refl
    go rest true false b (Some r) e f g h = rw (f, h) refl
    go rest false true true None e f g h = rw (rest, f, g, h, e) refl
    go rest false true false None e f g h = rw (rest, f, g, h) refl
    go rest false false true None e f g h = rw (rest, f, g, h) refl
    go rest false false false None e f g h = rw (rest, f, g, h) refl
    go rest false bp bq (Some r) e f g h = rw (rest, h) (kept (is_before from p && takes false p (Some r)) p r (cond (is_before from q) (Some q) None))

-- the pair sought with one more pair
sought_step : (from : Place) (up : Bool) (p : Row × ℕ) (ps : List (Row × ℕ)) → IsSorted ps → sought from up (with_pair p ps) ≡ better from up p (sought from up ps)
sought_step from true p ps sorted = up_step from p ps
sought_step from false p ps sorted = down_step from p ps sorted

-- the pair sought among the objects from a place on, by that from the next place on
pub sought_more : (from : Place) (up : Bool) (fields : List ℕ) (os : Objects) (i : ℕ) (o : ℕ × Row) → i < length os → o ≡ get_or os i o → sought from up (index fields (drop i os)) ≡ better from up (pair_of fields o) (sought from up (index fields (drop (i + 1) os)))
sought_more from up fields os i o lt is =
    ap (λ rest. sought from up (index fields rest)) (drop_more os i o lt)
    ∙ ap (λ x. sought from up (with_pair (pair_of fields x) (index fields (drop (i + 1) os)))) (sym is)
    ∙ sought_step from up (pair_of fields o) (index fields (drop (i + 1) os)) (index_sorted fields (drop (i + 1) os))

-- the best of the objects from a place on, by that of those from the next place on
pub best_more : (from : Place) (up : Bool) (fields : List ℕ) (os : Objects) (i j : ℕ) (o : ℕ × Row) (best : Option (Row × ℕ)) (b : Bool) → i < length os → i + 1 ≡ j → o ≡ get_or os i o → best ≡ sought from up (index fields (drop j os)) → b ≡ (is_beyond from up (pair_of fields o) && takes up (pair_of fields o) best) → cond b (Some (pair_of fields o)) best ≡ sought from up (index fields (drop i os))
best_more from up fields os i j o best b lt next is so_far test =
    ap (λ c. cond c (Some (pair_of fields o)) best) test
    ∙ ap (better from up (pair_of fields o)) (so_far ∙ ap (λ k. sought from up (index fields (drop k os))) (sym next))
    ∙ sym (sought_more from up fields os i o lt is)
