-- Of two passes that meet, each knows of its own clients what the other has seen: whom they had stopped.
use Rattle.std.proofs.Common.{◌≡◌, ◌≢◌, ℕ, zero, suc, ◌⊎◌, Bool, true, false, not, cond, ◌&&◌, ◌||◌, eqb, List, [], ◌∷◌, ◌++◌, refl, ap, ◌∙◌, subst, inl, inr, ⊎_elim, arith, Contains, append-nil}
use Rattle.std.proofs.lemmas.Bool.Decides.{nat_tests}
use Rattle.std.proofs.lemmas.List.Elements.{Contains-append_left, Contains-append_right}
use Rattle.rdb_turn.specs.declared.view.View.{View}
use Rattle.rdb_turn.specs.Rule.{Owns, OwnsSlot}
use Rattle.rdb_turn.specs.Steps.{is_among, is_owned, unagreed, both_stopped}

-- what stands in a list stands first or further on
contains_cases : (y : ℕ) (ys : List ℕ) (x : ℕ) → Contains (y ∷ ys) x → (y ≡ x) ⊎ Contains ys x
contains_cases y ys x (zero, low, at) = inl at
contains_cases y ys x (suc k, low, at) = inr (k, omega (arith, low), at)

contains_first : (y : ℕ) (ys : List ℕ) → Contains (y ∷ ys) y
contains_first y ys = (0, omega arith, refl)

contains_later : (y : ℕ) (ys : List ℕ) (x : ℕ) → Contains ys x → Contains (y ∷ ys) x
contains_later y ys x (k, low, at) = (suc k, omega (arith, low), at)

among_step : (y : ℕ) (ys : List ℕ) (x : ℕ) → (is_among ys x ≡ true → Contains ys x) → (t : Bool) → eqb y x ≡ t → (t || is_among ys x) ≡ true → Contains (y ∷ ys) x
among_step y ys x rec true is e = let same : y ≡ x = grind (arith, nat_tests, is) in subst (Contains (y ∷ ys)) same (contains_first y ys)
among_step y ys x rec false is e = contains_later y ys x (rec e)

among_is : (xs : List ℕ) (x : ℕ) → is_among xs x ≡ true → Contains xs x
among_is [] x e = absurd (cc e)
among_is (y ∷ ys) x e = among_step y ys x (among_is ys x) (eqb y x) refl e

of_among_step : (y : ℕ) (ys : List ℕ) (x : ℕ) → (Contains ys x → is_among ys x ≡ true) → (y ≡ x) ⊎ Contains ys x → (t : Bool) → eqb y x ≡ t → (t || is_among ys x) ≡ true
of_among_step y ys x rec h true is = refl
of_among_step y ys x rec (inl e) false is = let ne : y ≢ x = grind (arith, nat_tests, is) in absurd (ne e)
of_among_step y ys x rec (inr h) false is = rec h

of_among : (xs : List ℕ) (x : ℕ) → Contains xs x → is_among xs x ≡ true
of_among [] x (k, low, at) = absurd (omega (arith, low))
of_among (y ∷ ys) x h = of_among_step y ys x (of_among ys x) (contains_cases y ys x h) (eqb y x) refl

module _ {T : Type 0} where
  owned_step : (p : ℕ × T) (ps : List (ℕ × T)) (slot : ℕ) → (is_owned ps slot ≡ true → OwnsSlot ps slot) → (t : Bool) → eqb p.0 slot ≡ t → (t || is_owned ps slot) ≡ true → OwnsSlot (p ∷ ps) slot
  owned_step p ps slot rec true is e = let same : p.0 ≡ slot = grind (arith, nat_tests, is) in (p.1, inl (same, refl))
  owned_step p ps slot rec false is e = let r = rec e in (r.0, inr r.1)

  owned_is : (ps : List (ℕ × T)) (slot : ℕ) → is_owned ps slot ≡ true → OwnsSlot ps slot
  owned_is [] slot e = absurd (cc e)
  owned_is (p ∷ ps) slot e = owned_step p ps slot (owned_is ps slot) (eqb p.0 slot) refl e

  of_owned_step : (p : ℕ × T) (ps : List (ℕ × T)) (slot : ℕ) (x : T) → (Owns ps slot x → is_owned ps slot ≡ true) → Owns (p ∷ ps) slot x → (t : Bool) → eqb p.0 slot ≡ t → (t || is_owned ps slot) ≡ true
  of_owned_step p ps slot x rec h true is = refl
  of_owned_step p ps slot x rec (inl e) false is = let ne : p.0 ≢ slot = grind (arith, nat_tests, is) in absurd (ne e.0)
  of_owned_step p ps slot x rec (inr h) false is = rec h

  of_owned : (ps : List (ℕ × T)) (slot : ℕ) (x : T) → Owns ps slot x → is_owned ps slot ≡ true
  of_owned [] slot x h = absurd h
  of_owned (p ∷ ps) slot x h = of_owned_step p ps slot x (of_owned ps slot x) h (eqb p.0 slot) refl

  none_step : (owned : List (ℕ × T)) (known told : List ℕ) (x : ℕ) → unagreed owned known told ≡ [] → (OwnsSlot owned x → Contains known x) → (t : Bool) → is_owned owned x ≡ t → (k : Bool) → is_among known x ≡ k
      → cond (t && not k) (0 ∷ unagreed owned known told) (unagreed owned known told) ≡ []
  none_step owned known told x rec h false is k is' = rec
  none_step owned known told x rec h true is true is' = rec
  none_step owned known told x rec h true is false is' = absurd (cc (is', of_among known x (h (owned_is owned x is))))

  -- where the owner knows all that it is told of its clients, nothing is left open
  pub none_unagreed : (owned : List (ℕ × T)) (known told : List ℕ) → ((client : ℕ) → OwnsSlot owned client → Contains told client → Contains known client) → unagreed owned known told ≡ []
  none_unagreed owned known [] h = refl
  none_unagreed owned known (x ∷ told) h =
      none_step owned known told x (none_unagreed owned known told (λ client o t. h client o (contains_later x told client t))) (λ o. h x o (contains_first x told)) (is_owned owned x) refl (is_among known x) refl

  agreed_step : (owned : List (ℕ × T)) (known told : List ℕ) (x client : ℕ) → (unagreed owned known told ≡ [] → Contains told client → Contains known client) → OwnsSlot owned client → (x ≡ client) ⊎ Contains told client
      → (t : Bool) → is_owned owned x ≡ t → (k : Bool) → is_among known x ≡ k → cond (t && not k) (0 ∷ unagreed owned known told) (unagreed owned known told) ≡ [] → Contains known client
  agreed_step owned known told x client rec o (inr h) false is k is' e = rec e h
  agreed_step owned known told x client rec o (inl same) false is k is' e = absurd (cc (is, ap (is_owned owned) same, of_owned owned client o.0 o.1))
  agreed_step owned known told x client rec o (inr h) true is true is' e = rec e h
  agreed_step owned known told x client rec o (inl same) true is true is' e = subst (Contains known) same (among_is known x is')
  agreed_step owned known told x client rec o h true is false is' e = absurd (cc e)

  -- and where nothing is left open, the owner knows it
  pub all_agreed : (owned : List (ℕ × T)) (known told : List ℕ) → unagreed owned known told ≡ [] → (client : ℕ) → OwnsSlot owned client → Contains told client → Contains known client
  all_agreed owned known [] e client o (k, low, at) = absurd (omega (arith, low))
  all_agreed owned known (x ∷ told) e client o h =
      agreed_step owned known told x client (λ e'. all_agreed owned known told e' client o) o (contains_cases x told client h) (is_owned owned x) refl (is_among known x) refl e

  open_step : (owned : List (ℕ × T)) (known told : List ℕ) → (unagreed owned known told ≡ []) ⊎ Contains (unagreed owned known told) 0 → (t : Bool)
      → (cond t (0 ∷ unagreed owned known told) (unagreed owned known told) ≡ []) ⊎ Contains (cond t (0 ∷ unagreed owned known told) (unagreed owned known told)) 0
  open_step owned known told rec true = inr (contains_first 0 (unagreed owned known told))
  open_step owned known told rec false = rec

  -- what is left open is 0
  is_open : (owned : List (ℕ × T)) (known told : List ℕ) → (unagreed owned known told ≡ []) ⊎ Contains (unagreed owned known told) 0
  is_open owned known [] = inl refl
  is_open owned known (x ∷ told) = open_step owned known told (is_open owned known told) (is_owned owned x && not (is_among known x))

  pub open_first : (v w : View T) → ¬ Contains (both_stopped v w) 0 → unagreed v.owned v.stopped w.stopped ≡ []
  open_first v w never = ⊎_elim (λ (e : unagreed v.owned v.stopped w.stopped ≡ []). e)
      (λ (h : Contains (unagreed v.owned v.stopped w.stopped) 0). absurd (never (Contains-append_right v.stopped (w.stopped ++ (unagreed v.owned v.stopped w.stopped ++ unagreed w.owned w.stopped v.stopped)) 0
      (Contains-append_right w.stopped (unagreed v.owned v.stopped w.stopped ++ unagreed w.owned w.stopped v.stopped) 0 (Contains-append_left (unagreed v.owned v.stopped w.stopped) (unagreed w.owned w.stopped v.stopped) 0 h)))))
      (is_open v.owned v.stopped w.stopped)

  pub open_second : (v w : View T) → ¬ Contains (both_stopped v w) 0 → unagreed w.owned w.stopped v.stopped ≡ []
  open_second v w never = ⊎_elim (λ (e : unagreed w.owned w.stopped v.stopped ≡ []). e)
      (λ (h : Contains (unagreed w.owned w.stopped v.stopped) 0). absurd (never (Contains-append_right v.stopped (w.stopped ++ (unagreed v.owned v.stopped w.stopped ++ unagreed w.owned w.stopped v.stopped)) 0
      (Contains-append_right w.stopped (unagreed v.owned v.stopped w.stopped ++ unagreed w.owned w.stopped v.stopped) 0 (Contains-append_right (unagreed v.owned v.stopped w.stopped) (unagreed w.owned w.stopped v.stopped) 0 h)))))
      (is_open w.owned w.stopped v.stopped)

  pub stopped_both : (v w : View T) → unagreed v.owned v.stopped w.stopped ≡ [] → unagreed w.owned w.stopped v.stopped ≡ [] → both_stopped v w ≡ v.stopped ++ w.stopped
  stopped_both v w a b = (λ i. v.stopped ++ (w.stopped ++ (a i ++ b i))) ∙ ap (λ (l : List ℕ). v.stopped ++ l) (append-nil w.stopped)
