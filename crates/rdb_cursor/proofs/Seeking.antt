-- A step of a seek: the first version that a tree lists past a place, and the pair that the plain database finds there.
use Rattle.std.proofs.Common.{◌≡◌, ◌<◌, ◌≤◌, ◌⊎◌, zero, suc, ℕ, Bool, true, false, cond, List, [], ◌∷◌, length, filter, Option, Some, None, slice_get, zero-lt-suc, suc-le-suc, inl, inr, refl, sym, ap, ap₂, subst, ◌∙◌, arith}
use Rattle.std.specs.declared.cmp.Ordering.{Ordering}
use Rattle.std.specs.declared.cmp.Ordering.TheVariants.{Less, Equal, Greater}
use Rattle.std.specs.Ordering.{ordering_then, nat_cmp, is_lt, is_gt, is_some_and}
use Rattle.std.specs.List.{Contains, AllByRecursion, last_or}
use Rattle.std.specs.Option.{option_map, option_map_or}
use Rattle.std.proofs.lemmas.Bool.{false≢true}
use Rattle.rdb_base.specs.declared.operation.Place.{Place}
use Rattle.rdb_base.specs.declared.operation.Place.TheVariants as place
use Rattle.rdb_base.specs.declared.value.Value.{Value}
use Rattle.rdb_base.specs.Order.{row_order}
use Rattle.rdb_pages.specs.declared.cell.CellRef.{CellRef}
use Rattle.rdb_cells.specs.Keys.{Version as Keyed, Sayings, version_order, key_order}
use Rattle.rdb_tree.specs.Lookups.{is_past, first_met, first_past}
use Rattle.rdb_tree.specs.Order.{IsBefore, AreAscending}
use Rattle.rdb_tree.specs.Trees.{Each}
use Rattle.rdb_model.specs.Index.{pair_order}
use Rattle.rdb_model.specs.Answer.{is_beyond}
use Rattle.rdb_cursor.proofs.Pairs.{Pair, nearer, nearer_both, nearer_itself, beyond_pair, beyond_more, pair_level}

-- the pair of a version's key and id
abbrev pub pair_in : Keyed → Pair
pair_in v = (v.key, v.id)

-- past a place in a tree is beyond it in the plain index
past_by : (o : Option Keyed) (v : Keyed) (test : Ordering → Bool) (key : List Value) (id : ℕ) → o ≡ Some v → is_some_and test (option_map (λ w. key_order w key (Some id)) o) ≡ test (pair_order (pair_in v) (key, id))
past_by o v test key id is = ap (λ (p : Option Keyed). is_some_and test (option_map (λ w. key_order w key (Some id)) p)) is

pub past_is : (said : Sayings) (from : Place) (up : Bool) (r : CellRef) (v : Keyed) → said.version_of r.number ≡ Some v → is_past said from up r ≡ is_beyond from up (pair_in v)
past_is said place.Start true r v is = refl
past_is said place.Start false r v is = refl
past_is said place.End true r v is = refl
past_is said place.End false r v is = refl
past_is said (place.At key id) true r v is = past_by (said.version_of r.number) v is_gt key id is
past_is said (place.At key id) false r v is = past_by (said.version_of r.number) v is_lt key id is

-- one version before another isn't behind it by key and id
order_before : (v w : Keyed) → version_order v w ≡ Less → is_lt (pair_order (pair_in w) (pair_in v)) ≡ false
order_before v w less = go (row_order v.key w.key) (nat_cmp v.id w.id) refl refl less
  where
    go : (a b : Ordering) → row_order v.key w.key ≡ a → nat_cmp v.id w.id ≡ b → ordering_then a (ordering_then b (nat_cmp v.serial w.serial)) ≡ Less → is_lt (pair_order (pair_in w) (pair_in v)) ≡ false
    go Less b e f g = nearer_both true (pair_in v) (pair_in w) (ap (λ (o : Ordering). is_lt (ordering_then o (nat_cmp v.id w.id))) e)
    go Greater b e f g = absurd (cc)
    go Equal Less e f g = nearer_both true (pair_in v) (pair_in w) (ap (λ (o : Ordering). is_lt (ordering_then o (nat_cmp v.id w.id))) e ∙ ap is_lt f)
    go Equal Greater e f g = absurd (cc)
    go Equal Equal e f g =
        let one : pair_in v ≡ pair_in w = pair_level (pair_in v) (pair_in w) (ap (λ (o : Ordering). ordering_then o (nat_cmp v.id w.id)) e ∙ f) in
        subst (λ (p : Pair). is_lt (pair_order p (pair_in v)) ≡ false) one (nearer_itself true (pair_in v))

pub at_member : {X : Type 0} (P : X → Type 0) (xs : List X) (x : X) → AllByRecursion P xs → Contains xs x → P x
at_member P [] x all (k, below, is) = absurd (omega arith)
at_member P (y ∷ ys) x all (zero, below, is) = subst P is all.0
at_member P (y ∷ ys) x all (suc k, below, is) = at_member P ys x all.1 (k, omega arith, is)

each_member : {X : Type 0} (P : X → Type 0) (xs : List X) (x : X) → Each P xs → Contains xs x → P x
each_member P [] x all (k, below, is) = absurd (omega arith)
each_member P (y ∷ ys) x all (zero, below, is) = subst P is all.0
each_member P (y ∷ ys) x all (suc k, below, is) = each_member P ys x all.1 (k, omega arith, is)

first_in : {X : Type 0} (x : X) (xs : List X) → Contains (x ∷ xs) x
first_in x xs = (0, zero-lt-suc _, refl)

later_in : {X : Type 0} (x y : X) (xs : List X) → Contains xs y → Contains (x ∷ xs) y
later_in x y xs within = (suc within.0, suc-le-suc within.1, within.2)

-- Of ascending versions that pass a test, the one that is met first
module _ (said : Sayings) (passes : CellRef → Bool) where
  -- the first version is met, or else the second comes behind it
  abbrev pub Behind : Bool → CellRef → CellRef → Type 0
  Behind true r s = IsBefore said r s
  Behind false r s = IsBefore said s r

  -- this one is met first of those that pass: it is one of them, and the others come behind it
  pub record IsFirstMet (up : Bool) (refs : List CellRef) (r : CellRef) : Type 0 where
    pub within : Contains refs r
    pub passed : passes r ≡ true
    pub others : AllByRecursion (λ s. passes s ≡ true → (r ≡ s) ⊎ Behind up r s) refs

  all_of : (r : CellRef) (xs : List CellRef) → Each (IsBefore said r) xs → AllByRecursion (λ s. passes s ≡ true → (r ≡ s) ⊎ IsBefore said r s) xs
  all_of r [] each = tt
  all_of r (x ∷ xs) each = (λ _. inr each.0, all_of r xs each.1)

  first_up : (xs : List CellRef) (r : CellRef) → AreAscending said xs → slice_get (filter passes xs) 0 ≡ Some r → IsFirstMet true xs r
  first_up [] r ascending is = absurd (cc)
  first_up (x ∷ xs) r ascending is = go (λ f. first_up xs r ascending.1 f) (passes x) refl is
    where
      go : (slice_get (filter passes xs) 0 ≡ Some r → IsFirstMet true xs r) → (b : Bool) → passes x ≡ b → slice_get (cond b (x ∷ filter passes xs) (filter passes xs)) 0 ≡ Some r → IsFirstMet true (x ∷ xs) r
      go later true e f =
          let same : x ≡ r = (cc) in
          subst (IsFirstMet true (x ∷ xs)) same (record { within = first_in x xs; passed = e; others = (λ _. inl refl, all_of x xs ascending.0) })
      go later false e f =
          let rest = later f in
          record { within = later_in x r xs rest.within; passed = rest.passed; others = (λ g. absurd (cc), rest.others) }

  none_pass : (r : CellRef) (xs : List CellRef) → AllByRecursion (λ s. passes s ≡ false) xs → AllByRecursion (λ s. passes s ≡ true → (r ≡ s) ⊎ IsBefore said s r) xs
  none_pass r [] none = tt
  none_pass r (x ∷ xs) none = (λ g. let f = none.0 in absurd (cc), none_pass r xs none.1)

  -- the last that passes is the one so far, or one of the rest
  last_of : (o : Option CellRef) (xs : List CellRef) (r : CellRef) → AreAscending said xs → last_or o (filter passes xs) ≡ Some r → ((o ≡ Some r) × AllByRecursion (λ s. passes s ≡ false) xs) ⊎ IsFirstMet false xs r
  last_of o [] r ascending is = inl (is, tt)
  last_of o (x ∷ xs) r ascending is = go (λ p f. last_of p xs r ascending.1 f) (passes x) refl is
    where
      the_one : (a b : CellRef) → Some a ≡ Some b → a ≡ b
      the_one a b same = (cc)

      never : {G : Type 0} (b : Bool) → b ≡ false → b ≡ true → G
      never b fails passes_it = absurd (cc)

      go : ((p : Option CellRef) → last_or p (filter passes xs) ≡ Some r → ((p ≡ Some r) × AllByRecursion (λ s. passes s ≡ false) xs) ⊎ IsFirstMet false xs r) → (b : Bool) → passes x ≡ b → last_or o (cond b (x ∷ filter passes xs) (filter passes xs)) ≡ Some r → ((o ≡ Some r) × AllByRecursion (λ s. passes s ≡ false) (x ∷ xs)) ⊎ IsFirstMet false (x ∷ xs) r
      go later true e f = elim (later (Some x) f) [
        | inl none ↦
            let same : x ≡ r = the_one x r none.0 in
            inr (subst (IsFirstMet false (x ∷ xs)) same (record { within = first_in x xs; passed = e; others = (λ _. inl refl, none_pass x xs none.1) }))
        | inr rest ↦ inr (record { within = later_in x r xs rest.within; passed = rest.passed; others = (λ _. inr (each_member (IsBefore said x) xs r ascending.0 rest.within), rest.others) })
      ]
      go later false e f = elim (later o f) [
        | inl none ↦ inl (none.0, (e, none.1))
        | inr rest ↦ inr (record { within = later_in x r xs rest.within; passed = rest.passed; others = (λ g. never (passes x) e g, rest.others) })
      ]

  pub met_first : (up : Bool) (xs : List CellRef) (r : CellRef) → AreAscending said xs → first_met up (filter passes xs) ≡ Some r → IsFirstMet up xs r
  met_first true xs r ascending is = first_up xs r ascending is
  met_first false xs r ascending is = elim (last_of None xs r ascending is) [ inl none ↦ absurd (no_one none.0) | inr met ↦ met ]
    where
      no_one : None ≡ Some r → ⊥
      no_one e = (cc)

  first_none : (xs : List CellRef) → slice_get (filter passes xs) 0 ≡ None → AllByRecursion (λ s. passes s ≡ false) xs
  first_none [] is = tt
  first_none (x ∷ xs) is = go (λ f. first_none xs f) (passes x) refl is
    where
      go : (slice_get (filter passes xs) 0 ≡ None → AllByRecursion (λ s. passes s ≡ false) xs) → (b : Bool) → passes x ≡ b → slice_get (cond b (x ∷ filter passes xs) (filter passes xs)) 0 ≡ None → AllByRecursion (λ s. passes s ≡ false) (x ∷ xs)
      go later true e f = absurd (cc)
      go later false e f = (e, later f)

  last_some : (x : CellRef) (xs : List CellRef) → last_or (Some x) xs ≡ None → ⊥
  last_some x [] is = (cc)
  last_some x (y ∷ ys) is = last_some y ys is

  last_none : (xs : List CellRef) → last_or None (filter passes xs) ≡ None → AllByRecursion (λ s. passes s ≡ false) xs
  last_none [] is = tt
  last_none (x ∷ xs) is = go (λ f. last_none xs f) (passes x) refl is
    where
      go : (last_or None (filter passes xs) ≡ None → AllByRecursion (λ s. passes s ≡ false) xs) → (b : Bool) → passes x ≡ b → last_or None (cond b (x ∷ filter passes xs) (filter passes xs)) ≡ None → AllByRecursion (λ s. passes s ≡ false) (x ∷ xs)
      go later true e f = absurd (last_some x (filter passes xs) f)
      go later false e f = (e, later f)

  pub met_none : (up : Bool) (xs : List CellRef) → first_met up (filter passes xs) ≡ None → AllByRecursion (λ s. passes s ≡ false) xs
  met_none true xs is = first_none xs is
  met_none false xs is = last_none xs is

-- fewer pass a test that says yes to fewer
no_more : (p q : CellRef → Bool) (xs : List CellRef) → ((s : CellRef) → q s ≡ true → p s ≡ true) → length (filter q xs) ≤ length (filter p xs)
no_more p q [] within = omega arith
no_more p q (x ∷ xs) within = go (q x) (p x) refl refl (no_more p q xs within)
  where
    go : (b c : Bool) → q x ≡ b → p x ≡ c → length (filter q xs) ≤ length (filter p xs) → length (cond b (x ∷ filter q xs) (filter q xs)) ≤ length (cond c (x ∷ filter p xs) (filter p xs))
    go true true e f le = omega arith
    go true false e f le = absurd (false≢true (sym f ∙ within x e))
    go false true e f le = omega arith
    go false false e f le = le

fewer_pass : (p q : CellRef → Bool) (xs : List CellRef) (r : CellRef) → ((s : CellRef) → q s ≡ true → p s ≡ true) → Contains xs r → p r ≡ true → q r ≡ false → length (filter q xs) < length (filter p xs)
fewer_pass p q [] r within there passed not_passed = let below = there.1 in absurd (omega arith)
fewer_pass p q (x ∷ xs) r within (zero, below, is) passed not_passed =
    let le = no_more p q xs within in
    subst (λ (b : Bool). length (cond b (x ∷ filter q xs) (filter q xs)) < length (cond (p x) (x ∷ filter p xs) (filter p xs))) (sym (ap q is ∙ not_passed))
    (subst (λ (b : Bool). length (filter q xs) < length (cond b (x ∷ filter p xs) (filter p xs))) (sym (ap p is ∙ passed)) (omega arith))
fewer_pass p q (x ∷ xs) r within (suc k, below, is) passed not_passed = go (q x) (p x) refl refl (fewer_pass p q xs r within (k, omega arith, is) passed not_passed)
  where
    go : (b c : Bool) → q x ≡ b → p x ≡ c → length (filter q xs) < length (filter p xs) → length (cond b (x ∷ filter q xs) (filter q xs)) < length (cond c (x ∷ filter p xs) (filter p xs))
    go true true e f lt = omega arith
    go true false e f lt = absurd (false≢true (sym f ∙ within x e))
    go false true e f lt = omega arith
    go false false e f lt = lt

-- What a version that is met first says
module _ (said : Sayings) (from : Place) (up : Bool) (listed : List CellRef) (ascending : AreAscending said listed) where
  abbrev pub At : Keyed → Place
  At v = place.At v.key v.id

  module _ (r : CellRef) (is : first_past said from up listed ≡ Some r) (v : Keyed) (says : said.version_of r.number ≡ Some v) where
    met : IsFirstMet said (is_past said from up) up listed r
    met = met_first said (is_past said from up) up listed r ascending is

    pub met_within : Contains listed r
    met_within = met.within

    pub met_beyond : is_beyond from up (pair_in v) ≡ true
    met_beyond = sym (past_is said from up r v says) ∙ met.passed

    -- another that is beyond the place isn't nearer
    pub met_others : (s : CellRef) (w : Keyed) → Contains listed s → said.version_of s.number ≡ Some w → is_beyond from up (pair_in w) ≡ true → nearer up (pair_in w) (pair_in v) ≡ false
    met_others s w within it beyond =
        elim (at_member (λ (t : CellRef). is_past said from up t ≡ true → (r ≡ t) ⊎ Behind said (is_past said from up) up r t) listed s met.others within (past_is said from up s w it ∙ beyond)) [
          | inl same ↦
              let both : v ≡ w = the_same v w (sym says ∙ ap (λ (t : CellRef). said.version_of t.number) same ∙ it) in
              subst (λ (u : Keyed). nearer up (pair_in u) (pair_in v) ≡ false) both (nearer_itself up (pair_in v))
          | inr behind ↦ further up behind
        ]
      where
        the_same : (a b : Keyed) → Some a ≡ Some b → a ≡ b
        the_same a b e = ap (λ (o : Option Keyed). option_map_or (λ z. z) o a) e

        further : (u : Bool) → Behind said (is_past said from up) u r s → nearer u (pair_in w) (pair_in v) ≡ false
        further true b =
            let first : b.first ≡ v = the_same b.first v (sym b.is_first ∙ says) in
            let second : b.second ≡ w = the_same b.second w (sym b.is_second ∙ it) in
            order_before v w (ap₂ version_order (sym first) (sym second) ∙ b.less)
        further false b =
            let first : b.first ≡ w = the_same b.first w (sym b.is_first ∙ it) in
            let second : b.second ≡ v = the_same b.second v (sym b.is_second ∙ says) in
            order_before w v (ap₂ version_order (sym first) (sym second) ∙ b.less)

    past_next : (s : CellRef) → is_past said (At v) up s ≡ true → is_past said from up s ≡ true
    past_next s passed = go (said.version_of s.number) refl
      where
        go : (o : Option Keyed) → said.version_of s.number ≡ o → is_past said from up s ≡ true
        go None e = absurd (false≢true (sym (nothing up e) ∙ passed))
          where
            nothing : (u : Bool) → said.version_of s.number ≡ None → is_past said (At v) u s ≡ false
            nothing true f = ap (λ (o : Option Keyed). is_some_and is_gt (option_map (λ w. key_order w v.key (Some v.id)) o)) f
            nothing false f = ap (λ (o : Option Keyed). is_some_and is_lt (option_map (λ w. key_order w v.key (Some v.id)) o)) f
        go (Some w) e =
            let further : nearer up (pair_in v) (pair_in w) ≡ true = sym (beyond_pair up (pair_in v) (pair_in w)) ∙ sym (past_is said (At v) up s w e) ∙ passed in
            past_is said from up s w e ∙ beyond_more from up (pair_in v) (pair_in w) met_beyond (nearer_both up (pair_in v) (pair_in w) further)

    -- past it fewer versions stand
    pub fewer_past : length (filter (is_past said (At v) up) listed) < length (filter (is_past said from up) listed)
    fewer_past =
        fewer_pass (is_past said from up) (is_past said (At v) up) listed r past_next met.within met.passed
        (past_is said (At v) up r v says ∙ beyond_pair up (pair_in v) (pair_in v) ∙ nearer_itself up (pair_in v))
