-- The order of pairs of a key and an id, and the pair that a seek finds.
use Rattle.std.proofs.Common.{◌≡◌, ℕ, ◌<◌, ◌⊎◌, inl, inr, Bool, true, false, not, ◌&&◌, cond, List, [], ◌∷◌, Option, Some, None, zero-lt-suc, refl, sym, ap, ap₂, subst, ◌∙◌}
use Rattle.std.specs.declared.cmp.Ordering.{Ordering}
use Rattle.std.specs.declared.cmp.Ordering.TheVariants.{Less, Equal, Greater}
use Rattle.std.specs.Ordering.{ordering_reverse, ordering_then, nat_cmp, is_lt, is_gt, MatchOrdering}
use Rattle.std.specs.List.{AllByRecursion}
use Rattle.std.proofs.lemmas.Cmp.{tied_back, tied_itself, alike_right, ranked}
use Rattle.rdb_base.specs.declared.operation.Place.{Place}
use Rattle.rdb_base.specs.declared.operation.Place.TheVariants as place
use Rattle.rdb_base.specs.Order.{row_order}
use Rattle.rdb_base.proofs.OrderLemmas.{row_level}
use Rattle.rdb_model.specs.Database.{Row, Objects}
use Rattle.rdb_model.specs.Index.{pair_order, pair_of, index}
use Rattle.rdb_model.specs.Answer.{is_beyond, sought}
use Rattle.rdb_model.specs.Seek.{takes}
use Rattle.rdb_model.proofs.SeekLemmas.{pair_order_total, better, sought_more}

abbrev pub Pair : Type 0
Pair = Row × ℕ

-- the object is one of these
abbrev pub IsIn : Objects → ℕ × Row → Type 0
IsIn [] o = ⊥
IsIn (q ∷ os) o = (q ≡ o) ⊎ IsIn os o

-- whether the first pair is met before the second, upwards or downwards
abbrev pub nearer : Bool → Pair → Pair → Bool
nearer true p q = is_lt (pair_order p q)
nearer false p q = is_lt (pair_order q p)

pub less_from : (o : Ordering) → is_lt o ≡ true → o ≡ Less
less_from Less e = refl
less_from Equal e = absurd (cc)
less_from Greater e = absurd (cc)

greater_from : (o : Ordering) → is_gt o ≡ true → o ≡ Greater
greater_from Less e = absurd (cc)
greater_from Equal e = absurd (cc)
greater_from Greater e = refl

turned : (p q : Pair) (o : Ordering) → pair_order p q ≡ o → pair_order q p ≡ ordering_reverse o
turned p q o e = pair_order_total.antisymm q p ∙ ap ordering_reverse e

lt_then : (x y z : Pair) → is_lt (pair_order x y) ≡ true → is_lt (pair_order y z) ≡ true → is_lt (pair_order x z) ≡ true
lt_then x y z a b = ap is_lt (pair_order_total.trans x y z (less_from (pair_order x y) a) (less_from (pair_order y z) b))

-- one below a second, which a third isn't below, is below the third
lt_from : (x y z : Pair) (o : Ordering) → pair_order z y ≡ o → is_lt (pair_order x y) ≡ true → is_lt o ≡ false → is_lt (pair_order x z) ≡ true
lt_from x y z Less e below not_above = absurd (cc)
lt_from x y z Equal e below not_above =
    ap is_lt (sym (alike_right pair_order_total y z x (tied_back pair_order_total z y e)) ∙ less_from (pair_order x y) below)
lt_from x y z Greater e below not_above = lt_then x y z below (ap is_lt (turned z y Greater e))

never_both : (x y : Pair) → is_lt (pair_order x y) ≡ true → is_lt (pair_order y x) ≡ false
never_both x y below = ap is_lt (turned x y Less (less_from (pair_order x y) below))

true_or : (b : Bool) → (b ≡ true → ⊥) → b ≡ false
true_or true never = absurd (never refl)
true_or false never = refl

pub nearer_both : (up : Bool) (x y : Pair) → nearer up x y ≡ true → nearer up y x ≡ false
nearer_both true x y e = never_both x y e
nearer_both false x y e = never_both y x e

pub nearer_itself : (up : Bool) (x : Pair) → nearer up x x ≡ false
nearer_itself true x = ap is_lt (tied_itself pair_order_total x)
nearer_itself false x = ap is_lt (tied_itself pair_order_total x)

-- one nearer than a second, than which a third isn't nearer, is nearer than the third
pub nearer_from : (up : Bool) (x y z : Pair) → nearer up x y ≡ true → nearer up z y ≡ false → nearer up x z ≡ true
nearer_from true x y z a b = lt_from x y z (pair_order z y) refl a b
nearer_from false x y z a b = by_test (is_lt (pair_order z x)) refl
  where
    by_test : (t : Bool) → is_lt (pair_order z x) ≡ t → is_lt (pair_order z x) ≡ true
    by_test true e = e
    by_test false e =
        let above : is_lt (pair_order y z) ≡ true = lt_from y x z (pair_order z x) refl a e in
        absurd (cc)

ids_level : (a b : ℕ) → nat_cmp a b ≡ Equal → a ≡ b
ids_level a b e = go (nat_cmp a b) (ranked a b (nat_cmp a b) refl) e
  where
    go : (o : Ordering) → MatchOrdering o (a < b) (a ≡ b) (b < a) → o ≡ Equal → a ≡ b
    go Less m f = absurd (cc)
    go Equal m f = m
    go Greater m f = absurd (cc)

then_first : (o rest : Ordering) → ordering_then o rest ≡ Equal → o ≡ Equal
then_first Less rest e = e
then_first Equal rest e = refl
then_first Greater rest e = e

then_rest : (o rest : Ordering) → ordering_then o rest ≡ Equal → rest ≡ Equal
then_rest Less rest e = absurd (cc)
then_rest Equal rest e = e
then_rest Greater rest e = absurd (cc)

pub pair_level : (p q : Pair) → pair_order p q ≡ Equal → p ≡ q
pair_level p q e =
    let keys : p.0 ≡ q.0 = row_level p.0 q.0 (then_first (row_order p.0 q.0) (nat_cmp p.1 q.1) e) in
    let ids : p.1 ≡ q.1 = ids_level p.1 q.1 (then_rest (row_order p.0 q.0) (nat_cmp p.1 q.1) e) in
    λ i. (keys i, ids i)

-- two of which none is nearer are one
pub nearer_neither : (up : Bool) (p q : Pair) → nearer up p q ≡ false → nearer up q p ≡ false → p ≡ q
nearer_neither up p q a b = go up (pair_order p q) refl a b
  where
    go : (up : Bool) (o : Ordering) → pair_order p q ≡ o → nearer up p q ≡ false → nearer up q p ≡ false → p ≡ q
    go up Equal e c d = pair_level p q e
    go true Less e c d = let t : true ≡ false = ap is_lt (sym e) ∙ c in absurd (cc)
    go false Less e c d = let t : true ≡ false = ap is_lt (sym e) ∙ d in absurd (cc)
    go true Greater e c d = let t : true ≡ false = ap is_lt (sym (turned p q Greater e)) ∙ d in absurd (cc)
    go false Greater e c d = let t : true ≡ false = ap is_lt (sym (turned p q Greater e)) ∙ c in absurd (cc)

-- What is beyond a place
gt_is : (p q : Pair) → is_gt (pair_order p q) ≡ is_lt (pair_order q p)
gt_is p q = go (pair_order p q) refl
  where
    go : (o : Ordering) → pair_order p q ≡ o → is_gt (pair_order p q) ≡ is_lt (pair_order q p)
    go o e = ap is_gt e ∙ same o ∙ ap is_lt (sym (turned p q o e))
      where
        same : (o : Ordering) → is_gt o ≡ is_lt (ordering_reverse o)
        same Less = refl
        same Equal = refl
        same Greater = refl

-- beyond a pair is what the pair is nearer than
pub beyond_pair : (up : Bool) (at p : Pair) → is_beyond (place.At at.0 at.1) up p ≡ nearer up at p
beyond_pair true at p = gt_is p at
beyond_pair false at p = refl

-- what isn't nearer than one that is beyond a place is beyond it, too
pub beyond_more : (from : Place) (up : Bool) (x y : Pair) → is_beyond from up x ≡ true → nearer up y x ≡ false → is_beyond from up y ≡ true
beyond_more place.Start true x y a b = refl
beyond_more place.Start false x y a b = a
beyond_more place.End true x y a b = a
beyond_more place.End false x y a b = refl
beyond_more (place.At wanted id) up x y a b =
    beyond_pair up (wanted, id) y ∙ nearer_from up (wanted, id) x y (sym (beyond_pair up (wanted, id) x) ∙ a) b

-- The pair that is sought
module _ (from : Place) (up : Bool) (fields : List ℕ) where
  pub step : (o : ℕ × Row) (os : Objects) → sought from up (index fields (o ∷ os)) ≡ better from up (pair_of fields o) (sought from up (index fields os))
  step o os = sought_more from up fields (o ∷ os) 0 o (zero-lt-suc _) refl

  -- what a seek among the objects finds: the nearest beyond the place
  abbrev pub IsNearest : Objects → Option Pair → Type 0
  IsNearest os None = AllByRecursion (λ q. is_beyond from up (pair_of fields q) ≡ false) os
  IsNearest os (Some p) = (is_beyond from up p ≡ true) × AllByRecursion (λ q. is_beyond from up (pair_of fields q) ≡ true → nearer up (pair_of fields q) p ≡ false) os

  all_from : (P Q : ℕ × Row → Type 0) (os : Objects) → ((q : ℕ × Row) → P q → Q q) → AllByRecursion P os → AllByRecursion Q os
  all_from P Q [] go all = tt
  all_from P Q (o ∷ os) go all = (go o all.0, all_from P Q os go all.1)

  takes_nearer : (up : Bool) (p b : Pair) → takes up p (Some b) ≡ true → nearer up b p ≡ false
  takes_nearer true p b e = never_both p b e
  takes_nearer false p b e = not_true (is_lt (pair_order p b)) e
    where
      not_true : (t : Bool) → not t ≡ true → t ≡ false
      not_true true f = absurd (cc)
      not_true false f = refl

  takes_not : (up : Bool) (p b : Pair) → takes up p (Some b) ≡ false → nearer up p b ≡ false
  takes_not true p b e = e
  takes_not false p b e = never_both p b (not_false (is_lt (pair_order p b)) e)
    where
      not_false : (t : Bool) → not t ≡ false → t ≡ true
      not_false true f = refl
      not_false false f = absurd (cc)

  nearest_step : (o : ℕ × Row) (os : Objects) (best : Option Pair) → IsNearest os best → IsNearest (o ∷ os) (better from up (pair_of fields o) best)
  nearest_step o os None none = go (is_beyond from up (pair_of fields o)) refl
    where
      go : (b : Bool) → is_beyond from up (pair_of fields o) ≡ b → IsNearest (o ∷ os) (cond (b && true) (Some (pair_of fields o)) None)
      go true e = (e, (λ _. nearer_itself up (pair_of fields o), all_from (λ q. is_beyond from up (pair_of fields q) ≡ false) (λ q. is_beyond from up (pair_of fields q) ≡ true → nearer up (pair_of fields q) (pair_of fields o) ≡ false) os (λ q f g. absurd (cc)) none))
      go false e = (e, none)
  nearest_step o os (Some best) (beyond, all) = go (is_beyond from up (pair_of fields o)) (takes up (pair_of fields o) (Some best)) refl refl
    where
      go : (b t : Bool) → is_beyond from up (pair_of fields o) ≡ b → takes up (pair_of fields o) (Some best) ≡ t → IsNearest (o ∷ os) (cond (b && t) (Some (pair_of fields o)) (Some best))
      go true true e f = (
        e,
        (
          λ _. nearer_itself up (pair_of fields o),
          all_from (λ q. is_beyond from up (pair_of fields q) ≡ true → nearer up (pair_of fields q) best ≡ false) (λ q. is_beyond from up (pair_of fields q) ≡ true → nearer up (pair_of fields q) (pair_of fields o) ≡ false) os
              (λ q rest g. true_or (nearer up (pair_of fields q) (pair_of fields o)) (λ near.
              let closer : nearer up (pair_of fields q) best ≡ true = nearer_from up (pair_of fields q) (pair_of fields o) best near (takes_nearer up (pair_of fields o) best f) in
              let not_closer : nearer up (pair_of fields q) best ≡ false = rest g in
              (cc))) all,
        ),
      )
      go true false e f = (beyond, (λ _. takes_not up (pair_of fields o) best f, all))
      go false true e f = (beyond, (λ g. absurd (cc), all))
      go false false e f = (beyond, (λ g. absurd (cc), all))

  pub nearest : (os : Objects) → IsNearest os (sought from up (index fields os))
  nearest [] = none up
    where
      none : (u : Bool) → IsNearest [] (sought from u (index fields []))
      none true = tt
      none false = tt
  nearest (o ∷ os) = subst (IsNearest (o ∷ os)) (sym (step o os)) (nearest_step o os (sought from up (index fields os)) (nearest os))

  -- what is sought is the pair of one of the objects
  pub sought_in : (P : Pair → Type 0) (os : Objects) → AllByRecursion (λ q. P (pair_of fields q)) os → (p : Pair) → sought from up (index fields os) ≡ Some p → P p
  sought_in P [] all p e = none up e
    where
      none : (u : Bool) → sought from u (index fields []) ≡ Some p → P p
      none true f = absurd (cc)
      none false f = absurd (cc)
  sought_in P (o ∷ os) all p e = go (λ h. sought_in P os all.1 p h) (is_beyond from up (pair_of fields o)) (sought from up (index fields os)) refl (sym (step o os) ∙ e)
    where
      go : (sought from up (index fields os) ≡ Some p → P p) → (b : Bool) (best : Option Pair) → sought from up (index fields os) ≡ best → cond (b && takes up (pair_of fields o) best) (Some (pair_of fields o)) best ≡ Some p → P p
      go rest false best f g = rest (f ∙ g)
      go rest true best f g = pick (takes up (pair_of fields o) best) g
        where
          pick : (t : Bool) → cond t (Some (pair_of fields o)) best ≡ Some p → P p
          pick true h = let same : pair_of fields o ≡ p = (cc) in subst P same all.0
          pick false h = rest (f ∙ h)

  one_of : (P : ℕ × Row → Type 0) (os : Objects) (o : ℕ × Row) → AllByRecursion P os → IsIn os o → P o
  one_of P [] o all within = absurd within
  one_of P (q ∷ os) o all (inl same) = subst P same all.0
  one_of P (q ∷ os) o all (inr later) = one_of P os o all.1 later

  -- none is sought where no pair is beyond
  pub sought_none : (os : Objects) → AllByRecursion (λ q. is_beyond from up (pair_of fields q) ≡ false) os → sought from up (index fields os) ≡ None
  sought_none os all = go (sought from up (index fields os)) refl
    where
      go : (o : Option Pair) → sought from up (index fields os) ≡ o → sought from up (index fields os) ≡ None
      go None e = e
      go (Some p) e =
          let beyond : is_beyond from up p ≡ true = (subst (IsNearest os) e (nearest os)).0 in
          let never : is_beyond from up p ≡ false = sought_in (λ r. is_beyond from up r ≡ false) os all p e in
          absurd (cc)

  -- the pair of an object is sought, if it is beyond the place and none beyond is nearer
  pub sought_some : (os : Objects) (o : ℕ × Row) → IsIn os o → is_beyond from up (pair_of fields o) ≡ true → AllByRecursion (λ q. is_beyond from up (pair_of fields q) ≡ true → nearer up (pair_of fields q) (pair_of fields o) ≡ false) os → sought from up (index fields os) ≡ Some (pair_of fields o)
  sought_some os o within beyond all = go (sought from up (index fields os)) refl
    where
      go : (best : Option Pair) → sought from up (index fields os) ≡ best → sought from up (index fields os) ≡ Some (pair_of fields o)
      go None e =
          let never : is_beyond from up (pair_of fields o) ≡ false = one_of (λ q. is_beyond from up (pair_of fields q) ≡ false) os o (subst (IsNearest os) e (nearest os)) within in
          absurd (cc)
      go (Some p) e =
          let is = subst (IsNearest os) e (nearest os) in
          let not_further : nearer up (pair_of fields o) p ≡ false = one_of (λ q. is_beyond from up (pair_of fields q) ≡ true → nearer up (pair_of fields q) p ≡ false) os o is.1 within beyond in
          let not_nearer : nearer up p (pair_of fields o) ≡ false = sought_in (λ r. is_beyond from up r ≡ true → nearer up r (pair_of fields o) ≡ false) os all p e is.0 in
          e ∙ ap Some (nearer_neither up p (pair_of fields o) not_nearer not_further)

-- a seek finds the same from two places that the same pairs are beyond
pub sought_same : (next from : Place) (up : Bool) (fields : List ℕ) (os : Objects) → AllByRecursion (λ q. is_beyond next up (pair_of fields q) ≡ is_beyond from up (pair_of fields q)) os → sought next up (index fields os) ≡ sought from up (index fields os)
sought_same next from up fields [] all = none up
  where
    none : (u : Bool) → sought next u (index fields []) ≡ sought from u (index fields [])
    none true = refl
    none false = refl
sought_same next from up fields (o ∷ os) all =
    step next up fields o os
    ∙ ap₂ (λ (b : Bool) (best : Option Pair). cond (b && takes up (pair_of fields o) best) (Some (pair_of fields o)) best) all.0 (sought_same next from up fields os all.1)
    ∙ sym (step from up fields o os)
