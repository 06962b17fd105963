-- What a reader picks of versions: the first of its own, or else the one of the greatest number.
use Rattle.std.proofs.Common.{◌≡◌, ℕ, Bool, true, false, cond, ◌⊎◌, inl, inr, List, [], ◌∷◌, ◌++◌, Option, Some, None, is_some, refl, sym, ap, subst, ◌∙◌}
use Rattle.std.specs.Prelude.{option_and_then}
use Rattle.std.specs.List.{find, AllByRecursion}
use Rattle.std.specs.Option.{option_or}
use Rattle.rdb_sight.specs.Sight.{exceeds, greatest}
use Rattle.rdb_sight.proofs.SightLemmas.{exceeds_back, exceeds_itself, exceeds_more, exceeds_less, exceeds_none, greatest_number, greatest_more}

module _ {V : Type 0} where
  -- the first of its own, or else the one of the greatest number
  abbrev pub pick : (V → Bool) → (V → Option ℕ) → List V → Option V
  pick own number xs = option_or (find own xs) (greatest number xs)

  pub find_same : (p q : V → Bool) (xs : List V) → AllByRecursion (λ x. p x ≡ q x) xs → find p xs ≡ find q xs
  find_same p q [] all = refl
  find_same p q (x ∷ xs) all = ap (λ b. cond b (Some x) (find p xs)) all.0 ∙ ap (λ r. cond (q x) (Some x) r) (find_same p q xs all.1)

  pub find_none : (p : V → Bool) (xs : List V) → AllByRecursion (λ x. p x ≡ false) xs → find p xs ≡ None
  find_none p [] all = refl
  find_none p (x ∷ xs) all = ap (λ b. cond b (Some x) (find p xs)) all.0 ∙ find_none p xs all.1

  pub none_found : (p : V → Bool) (xs : List V) → find p xs ≡ None → AllByRecursion (λ x. p x ≡ false) xs
  none_found p [] e = tt
  none_found p (x ∷ xs) e = go (p x) refl (none_found p xs) e
    where
      go : (b : Bool) → p x ≡ b → (find p xs ≡ None → AllByRecursion (λ y. p y ≡ false) xs) → cond b (Some x) (find p xs) ≡ None → AllByRecursion (λ y. p y ≡ false) (x ∷ xs)
      go true f rest e = (cc)
      go false f rest e = (f, rest e)

  pub find_without : (p : V → Bool) (front : List V) (v : V) (back : List V) → p v ≡ false → find p (front ++ v ∷ back) ≡ find p (front ++ back)
  find_without p [] v back e = ap (λ b. cond b (Some v) (find p back)) e
  find_without p (x ∷ xs) v back e = ap (λ r. cond (p x) (Some x) r) (find_without p xs v back e)

  -- what holds of each element holds of the greatest
  pub greatest_holds : (P : V → Type 0) (f : V → Option ℕ) (xs : List V) (z : V) → AllByRecursion P xs → greatest f xs ≡ Some z → P z
  greatest_holds P f [] z all e = (cc)
  greatest_holds P f (x ∷ xs) z all e = go (exceeds (option_and_then f (greatest f xs)) (f x)) (is_some (f x)) (greatest_holds P f xs z all.1) e
    where
      go : (b c : Bool) → (greatest f xs ≡ Some z → P z) → cond b (greatest f xs) (cond c (Some x) None) ≡ Some z → P z
      go true c rest e = rest e
      go false true rest e = let same : x ≡ z = (cc) in subst P same all.0
      go false false rest e = (cc)

  pub greatest_same : (f g : V → Option ℕ) (xs : List V) → AllByRecursion (λ x. f x ≡ g x) xs → greatest f xs ≡ greatest g xs
  greatest_same f g [] all = refl
  greatest_same f g (x ∷ xs) all = step (greatest_same f g xs all.1)
    where
      same_number : (r : Option V) → greatest f xs ≡ r → option_and_then f r ≡ option_and_then g r
      same_number None e = refl
      same_number (Some z) e = greatest_holds (λ y. f y ≡ g y) f xs z all.1 e

      step : greatest f xs ≡ greatest g xs → greatest f (x ∷ xs) ≡ greatest g (x ∷ xs)
      step rest =
          ap (λ n. cond (exceeds (option_and_then f (greatest f xs)) n) (greatest f xs) (cond (is_some n) (Some x) None)) all.0
          ∙ ap (λ n. cond (exceeds n (g x)) (greatest f xs) (cond (is_some (g x)) (Some x) None)) (same_number (greatest f xs) refl ∙ ap (option_and_then g) rest)
          ∙ ap (λ r. cond (exceeds (option_and_then g (greatest g xs)) (g x)) r (cond (is_some (g x)) (Some x) None)) rest

  -- an element without a number takes no part
  first_unnumbered : (f : V → Option ℕ) (v : V) (xs : List V) → f v ≡ None → greatest f (v ∷ xs) ≡ greatest f xs
  first_unnumbered f v xs none =
      ap (λ n. cond (exceeds (option_and_then f (greatest f xs)) n) (greatest f xs) (cond (is_some n) (Some v) None)) none ∙ go (greatest f xs) refl
    where
      go : (r : Option V) → greatest f xs ≡ r → cond (exceeds (option_and_then f r) None) r None ≡ r
      go None e = refl
      go (Some z) e = ap (λ b. cond b (Some z) None) (exceeds_none (f z) ∙ greatest_number f xs z e)

  pub greatest_without : (f : V → Option ℕ) (front : List V) (v : V) (back : List V) → f v ≡ None → greatest f (front ++ v ∷ back) ≡ greatest f (front ++ back)
  greatest_without f [] v back none = first_unnumbered f v back none
  greatest_without f (x ∷ xs) v back none = ap (λ r. cond (exceeds (option_and_then f r) (f x)) r (cond (is_some (f x)) (Some x) None)) (greatest_without f xs v back none)

  -- one element more takes no part, or is the greatest and isn't exceeded by the greatest of the others
  takes_part : (f : V → Option ℕ) (front : List V) (v : V) (back : List V) → is_some (f v) ≡ true
      → (greatest f (front ++ v ∷ back) ≡ greatest f (front ++ back))
      ⊎ ((greatest f (front ++ v ∷ back) ≡ Some v) × (exceeds (option_and_then f (greatest f (front ++ back))) (f v) ≡ false))
  takes_part f [] v back some = go (exceeds (option_and_then f (greatest f back)) (f v)) refl
    where
      go : (b : Bool) → exceeds (option_and_then f (greatest f back)) (f v) ≡ b
          → (cond b (greatest f back) (cond (is_some (f v)) (Some v) None) ≡ greatest f back)
          ⊎ ((cond b (greatest f back) (cond (is_some (f v)) (Some v) None) ≡ Some v) × (exceeds (option_and_then f (greatest f back)) (f v) ≡ false))
      go true e = inl refl
      go false e = inr (ap (λ b. cond b (Some v) None) some, e)
  takes_part f (x ∷ xs) v back some = part (takes_part f xs v back some)
    where
      with_v : Option V
      with_v = greatest f (xs ++ v ∷ back)

      others : Option V
      others = greatest f (xs ++ back)

      single : Option V
      single = cond (is_some (f x)) (Some x) None

      single_number : (n : Option ℕ) → f x ≡ n → option_and_then f (cond (is_some n) (Some x) None) ≡ n
      single_number None e = refl
      single_number (Some n) e = e

      now : (with_v ≡ Some v) → cond (exceeds (option_and_then f with_v) (f x)) with_v single ≡ cond (exceeds (f v) (f x)) (Some v) single
      now e = ap (λ r. cond (exceeds (option_and_then f r) (f x)) r single) e

      below : (b : Bool) → exceeds (option_and_then f others) (f x) ≡ b → exceeds (f v) (f x) ≡ true → exceeds (option_and_then f others) (f v) ≡ false
          → exceeds (option_and_then f (cond b others single)) (f v) ≡ false
      below true e g h = h
      below false e g h = ap (λ n. exceeds n (f v)) (single_number (f x) refl) ∙ exceeds_back (f v) (f x) g

      go : (b : Bool) → exceeds (f v) (f x) ≡ b → (with_v ≡ Some v) × (exceeds (option_and_then f others) (f v) ≡ false)
          → (greatest f ((x ∷ xs) ++ v ∷ back) ≡ greatest f ((x ∷ xs) ++ back))
          ⊎ ((greatest f ((x ∷ xs) ++ v ∷ back) ≡ Some v) × (exceeds (option_and_then f (greatest f ((x ∷ xs) ++ back))) (f v) ≡ false))
      go true e took = inr (
        now took.0 ∙ ap (λ b. cond b (Some v) single) e,
        below (exceeds (option_and_then f others) (f x)) refl e took.1,
      )
      go false e took = inl (
          now took.0 ∙ ap (λ b. cond b (Some v) single) e
          ∙ sym (ap (λ b. cond b others single) (exceeds_less (option_and_then f others) (f x) (f v) took.1 e))
          )

      part : (with_v ≡ others) ⊎ ((with_v ≡ Some v) × (exceeds (option_and_then f others) (f v) ≡ false))
          → (greatest f ((x ∷ xs) ++ v ∷ back) ≡ greatest f ((x ∷ xs) ++ back))
          ⊎ ((greatest f ((x ∷ xs) ++ v ∷ back) ≡ Some v) × (exceeds (option_and_then f (greatest f ((x ∷ xs) ++ back))) (f v) ≡ false))
      part (inl same) = inl (ap (λ r. cond (exceeds (option_and_then f r) (f x)) r (cond (is_some (f x)) (Some x) None)) same)
      part (inr took) = go (exceeds (f v) (f x)) refl took

  -- that some element has a number that exceeds another one
  abbrev pub HasOver : (V → Option ℕ) → Option ℕ → List V → Type 0
  HasOver f n [] = ⊥
  HasOver f n (x ∷ xs) = (exceeds (f x) n ≡ true) ⊎ HasOver f n xs

  -- the greatest exceeds what some element exceeds
  greatest_over : (f : V → Option ℕ) (n : Option ℕ) (xs : List V) → HasOver f n xs → exceeds (option_and_then f (greatest f xs)) n ≡ true
  greatest_over f n [] over = absurd over
  greatest_over f n (x ∷ xs) over = go (exceeds (option_and_then f (greatest f xs)) (f x)) refl over (greatest_over f n xs)
    where
      single_number : (m : Option ℕ) → f x ≡ m → option_and_then f (cond (is_some m) (Some x) None) ≡ m
      single_number None e = refl
      single_number (Some m) e = e

      over_single : (b : Bool) → exceeds (f x) n ≡ b → exceeds (option_and_then f (greatest f xs)) (f x) ≡ false → exceeds (option_and_then f (greatest f xs)) n ≡ true → exceeds (f x) n ≡ true
      over_single true e g h = e
      over_single false e g h = let i = exceeds_less (option_and_then f (greatest f xs)) n (f x) g e in (cc)

      go : (b : Bool) → exceeds (option_and_then f (greatest f xs)) (f x) ≡ b → (exceeds (f x) n ≡ true) ⊎ HasOver f n xs → (HasOver f n xs → exceeds (option_and_then f (greatest f xs)) n ≡ true)
          → exceeds (option_and_then f (cond b (greatest f xs) (cond (is_some (f x)) (Some x) None))) n ≡ true
      go true e (inl h) rest = exceeds_more (option_and_then f (greatest f xs)) n (f x) e h
      go true e (inr h) rest = rest h
      go false e (inl h) rest = ap (λ m. exceeds m n) (single_number (f x) refl) ∙ h
      go false e (inr h) rest = ap (λ m. exceeds m n) (single_number (f x) refl) ∙ over_single (exceeds (f x) n) refl e (rest h)

  over_front : (f : V → Option ℕ) (n : Option ℕ) (front back : List V) → HasOver f n front → HasOver f n (front ++ back)
  over_front f n [] back over = absurd over
  over_front f n (x ∷ xs) back (inl h) = inl h
  over_front f n (x ∷ xs) back (inr h) = inr (over_front f n xs back h)

  -- an element that one before it exceeds takes no part
  pub greatest_exceeded : (f : V → Option ℕ) (front : List V) (v : V) (back : List V) → HasOver f (f v) front → greatest f (front ++ v ∷ back) ≡ greatest f (front ++ back)
  greatest_exceeded f front v back over = go (f v) refl
    where
      taken : (greatest f (front ++ v ∷ back) ≡ greatest f (front ++ back)) ⊎ ((greatest f (front ++ v ∷ back) ≡ Some v) × (exceeds (option_and_then f (greatest f (front ++ back))) (f v) ≡ false)) → greatest f (front ++ v ∷ back) ≡ greatest f (front ++ back)
      taken (inl same) = same
      taken (inr took) = let h = greatest_over f (f v) (front ++ back) (over_front f (f v) front back over) in (cc)

      go : (n : Option ℕ) → f v ≡ n → greatest f (front ++ v ∷ back) ≡ greatest f (front ++ back)
      go None e = greatest_without f front v back e
      go (Some n) e = taken (takes_part f front v back (ap is_some e))

  -- the last element takes no part where each before it exceeds it or has no number, unless it is all there is
  pub greatest_last : (f : V → Option ℕ) (front : List V) (v : V) → AllByRecursion (λ w. exceeds (f v) (f w) ≡ true → f w ≡ None) front
      → (greatest f (front ++ v ∷ []) ≡ greatest f front) ⊎ ((greatest f (front ++ v ∷ []) ≡ Some v) × (greatest f front ≡ None))
  greatest_last f front v all = go (greatest f front) refl
    where
      go : (g : Option V) → greatest f front ≡ g → (greatest f (front ++ v ∷ []) ≡ greatest f front) ⊎ ((greatest f (front ++ v ∷ []) ≡ Some v) × (greatest f front ≡ None))
      go None e = single (is_some (f v)) refl
        where
          more : greatest f (front ++ v ∷ []) ≡ cond (is_some (f v)) (Some v) None
          more = greatest_more f front v ∙ ap (λ r. cond (exceeds (f v) (option_and_then f r)) (Some v) r) e ∙ ap (λ b. cond b (Some v) None) (exceeds_none (f v))

          single : (b : Bool) → is_some (f v) ≡ b → (greatest f (front ++ v ∷ []) ≡ greatest f front) ⊎ ((greatest f (front ++ v ∷ []) ≡ Some v) × (greatest f front ≡ None))
          single true h = inr (more ∙ ap (λ b. cond b (Some v) None) h, e)
          single false h = inl (more ∙ ap (λ b. cond b (Some v) None) h ∙ sym e)
      go (Some z) e = inl (greatest_more f front v ∙ ap (λ r. cond (exceeds (f v) (option_and_then f r)) (Some v) r) e ∙ ap (λ b. cond b (Some v) (Some z)) (behind (exceeds (f v) (f z)) refl) ∙ sym e)
        where
          behind : (b : Bool) → exceeds (f v) (f z) ≡ b → exceeds (f v) (f z) ≡ false
          behind false h = h
          behind true h =
              let none : f z ≡ None = greatest_holds (λ w. exceeds (f v) (f w) ≡ true → f w ≡ None) f front z all e h in
              let some : is_some (f z) ≡ true = greatest_number f front z e in
              (cc)

  -- the first that passes a test is the greatest where those that pass it have one number, which exceeds all others
  pub greatest_marked : (p : V → Bool) (f : V → Option ℕ) (n : Option ℕ) (xs : List V) (v : V) → is_some n ≡ true
      → AllByRecursion (λ w. (p w ≡ true → f w ≡ n) × (p w ≡ false → exceeds n (f w) ≡ true)) xs → find p xs ≡ Some v → greatest f xs ≡ Some v
  greatest_marked p f n [] v some all e = (cc)
  greatest_marked p f n (x ∷ xs) v some all e = go (p x) refl (greatest_marked p f n xs v some all.1) e
    where
      first : (r : Option V) → greatest f xs ≡ r → f x ≡ n → exceeds (option_and_then f r) (f x) ≡ false
      first None g h = refl
      first (Some z) g h = at (p z) refl (greatest_holds (λ w. (p w ≡ true → f w ≡ n) × (p w ≡ false → exceeds n (f w) ≡ true)) f xs z all.1 g)
        where
          at : (b : Bool) → p z ≡ b → (p z ≡ true → f z ≡ n) × (p z ≡ false → exceeds n (f z) ≡ true) → exceeds (f z) (f x) ≡ false
          at true i holds = ap (λ m. exceeds m (f x)) (holds.0 i ∙ sym h) ∙ exceeds_itself (f x)
          at false i holds = exceeds_back (f x) (f z) (ap (λ m. exceeds m (f z)) h ∙ holds.1 i)

      go : (b : Bool) → p x ≡ b → (find p xs ≡ Some v → greatest f xs ≡ Some v) → cond b (Some x) (find p xs) ≡ Some v → greatest f (x ∷ xs) ≡ Some v
      go true h rest e =
          let has : f x ≡ n = all.0.0 h in
          let one : x ≡ v = (cc) in
          ap (λ b. cond b (greatest f xs) (cond (is_some (f x)) (Some x) None)) (first (greatest f xs) refl has)
          ∙ ap (λ b. cond b (Some x) None) (ap is_some has ∙ some) ∙ ap Some one
      go false h rest e =
          let found : greatest f xs ≡ Some v = rest e in
          let passes : f v ≡ n = marked xs e all.1 in
          ap (λ r. cond (exceeds (option_and_then f r) (f x)) r (cond (is_some (f x)) (Some x) None)) found
          ∙ ap (λ b. cond b (Some v) (cond (is_some (f x)) (Some x) None)) (ap (λ m. exceeds m (f x)) passes ∙ all.0.1 h)
        where
          marked : (ys : List V) → find p ys ≡ Some v → AllByRecursion (λ w. (p w ≡ true → f w ≡ n) × (p w ≡ false → exceeds n (f w) ≡ true)) ys → f v ≡ n
          marked [] i all = (cc)
          marked (y ∷ ys) i all = at (p y) refl (marked ys) i
            where
              at : (b : Bool) → p y ≡ b → (find p ys ≡ Some v → AllByRecursion (λ w. (p w ≡ true → f w ≡ n) × (p w ≡ false → exceeds n (f w) ≡ true)) ys → f v ≡ n) → cond b (Some y) (find p ys) ≡ Some v → f v ≡ n
              at true j rest i = let same : y ≡ v = (cc) in ap f (sym same) ∙ all.0.0 j
              at false j rest i = rest i all.1

  -- what is picked rests on whose each is and on its number
  pub pick_same : (p q : V → Bool) (f g : V → Option ℕ) (xs : List V) → AllByRecursion (λ x. (p x ≡ q x) × (f x ≡ g x)) xs → pick p f xs ≡ pick q g xs
  pick_same p q f g xs all =
      ap (λ m. option_or m (greatest f xs)) (find_same p q xs (first xs all))
      ∙ ap (λ m. option_or (find q xs) m) (greatest_same f g xs (second xs all))
    where
      first : (ys : List V) → AllByRecursion (λ x. (p x ≡ q x) × (f x ≡ g x)) ys → AllByRecursion (λ x. p x ≡ q x) ys
      first [] all = tt
      first (y ∷ ys) all = (all.0.0, first ys all.1)

      second : (ys : List V) → AllByRecursion (λ x. (p x ≡ q x) × (f x ≡ g x)) ys → AllByRecursion (λ x. f x ≡ g x) ys
      second [] all = tt
      second (y ∷ ys) all = (all.0.1, second ys all.1)

  -- an element that is nobody's own and has no number isn't picked
  pub pick_without : (p : V → Bool) (f : V → Option ℕ) (front : List V) (v : V) (back : List V) → p v ≡ false → f v ≡ None → pick p f (front ++ v ∷ back) ≡ pick p f (front ++ back)
  pick_without p f front v back e none =
      ap (λ m. option_or m (greatest f (front ++ v ∷ back))) (find_without p front v back e)
      ∙ ap (λ m. option_or (find p (front ++ back)) m) (greatest_without f front v back none)
