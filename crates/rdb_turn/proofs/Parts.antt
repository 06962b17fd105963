-- Who owns which part, as passes are made and put together.
use Rattle.std.proofs.Common.{◌≡◌, ◌≢◌, ℕ, zero, suc, ◌<◌, ◌⊎◌, Bool, true, false, not, cond, eqb, List, [], ◌∷◌, ◌++◌, refl, sym, ◌∙◌, inl, inr, ⊎_elim, arith}
use Rattle.std.proofs.lemmas.Bool.Decides.{nat_tests}
use mathlib.Core.Logic.{dite}
use native.Mathlib.Decide.{ℕ_discrete}
use Rattle.rdb_turn.specs.Rule.{Owns, OwnsSlot, parts_below}
use Rattle.rdb_turn.specs.Steps.{left_in, without, only}

module _ {T : Type 0} where
  -- the parts below a number are owned, as they are in that value
  pub owns_below : (n slot : ℕ) (x : T) → slot < n → Owns (parts_below n x) slot x
  unfolding parts_below
  owns_below zero slot x low = absurd (omega arith)
  owns_below (suc n) slot x low = dite (ℕ_discrete n slot) (λ (e : n ≡ slot). inl (e, refl)) (λ (ne : n ≢ slot). inr (owns_below n slot x (omega arith)))

  pub owned_below : (n slot : ℕ) (x y : T) → Owns (parts_below n x) slot y → x ≡ y
  unfolding parts_below
  owned_below zero slot x y h = absurd h
  owned_below (suc n) slot x y (inl e) = e.1
  owned_below (suc n) slot x y (inr h) = owned_below n slot x y h

  -- the parts that were left are those that were owned
  pub owned_left : (ps : List (ℕ × T)) (value : T) (slot : ℕ) (x : T) → Owns (left_in ps value) slot x → OwnsSlot ps slot × (value ≡ x)
  owned_left [] value slot x h = absurd h
  owned_left (p ∷ ps) value slot x (inl e) = ((p.1, inl (e.0, refl)), e.1)
  owned_left (p ∷ ps) value slot x (inr h) = let r = owned_left ps value slot x h in ((r.0.0, inr r.0.1), r.1)

  pub owned_both : (ps qs : List (ℕ × T)) (slot : ℕ) (x : T) → Owns (ps ++ qs) slot x → Owns ps slot x ⊎ Owns qs slot x
  owned_both [] qs slot x h = inr h
  owned_both (p ∷ ps) qs slot x (inl e) = inl (inl e)
  owned_both (p ∷ ps) qs slot x (inr h) = ⊎_elim (λ (a : Owns ps slot x). inl (inr a)) (λ (b : Owns qs slot x). inr b) (owned_both ps qs slot x h)

  without_step : (cut : ℕ) (p : ℕ × T) (ps : List (ℕ × T)) (slot : ℕ) (x : T) → (Owns (without cut ps) slot x → Owns ps slot x × (slot ≢ cut)) → (t : Bool) → eqb p.0 cut ≡ t
      → Owns (cond (not t) (p ∷ without cut ps) (without cut ps)) slot x → Owns (p ∷ ps) slot x × (slot ≢ cut)
  without_step cut p ps slot x rec true is h = let r = rec h in (inr r.0, r.1)
  without_step cut p ps slot x rec false is (inl e) = let ne : p.0 ≢ cut = grind (arith, nat_tests, is) in (inl e, (λ same. ne (e.0 ∙ same)))
  without_step cut p ps slot x rec false is (inr h) = let r = rec h in (inr r.0, r.1)

  -- the parts of the other slots stay
  pub owned_without : (cut : ℕ) (ps : List (ℕ × T)) (slot : ℕ) (x : T) → Owns (without cut ps) slot x → Owns ps slot x × (slot ≢ cut)
  owned_without cut [] slot x h = absurd h
  owned_without cut (p ∷ ps) slot x h = without_step cut p ps slot x (owned_without cut ps slot x) (eqb p.0 cut) refl h

  only_step : (cut : ℕ) (p : ℕ × T) (ps : List (ℕ × T)) (slot : ℕ) (x : T) → (Owns (only cut ps) slot x → Owns ps slot x × (slot ≡ cut)) → (t : Bool) → eqb p.0 cut ≡ t
      → Owns (cond t (p ∷ only cut ps) (only cut ps)) slot x → Owns (p ∷ ps) slot x × (slot ≡ cut)
  only_step cut p ps slot x rec false is h = let r = rec h in (inr r.0, r.1)
  only_step cut p ps slot x rec true is (inl e) = let same : p.0 ≡ cut = grind (arith, nat_tests, is) in (inl e, sym e.0 ∙ same)
  only_step cut p ps slot x rec true is (inr h) = let r = rec h in (inr r.0, r.1)

  -- the part that is cut off is that of the slot
  pub owned_only : (cut : ℕ) (ps : List (ℕ × T)) (slot : ℕ) (x : T) → Owns (only cut ps) slot x → Owns ps slot x × (slot ≡ cut)
  owned_only cut [] slot x h = absurd h
  owned_only cut (p ∷ ps) slot x h = only_step cut p ps slot x (owned_only cut ps slot x) (eqb p.0 cut) refl h

  kept_step : (p : ℕ × T) (ps : List (ℕ × T)) (slot : ℕ) (x : T) → (Owns ps slot x → Owns (only slot ps) slot x) → (t : Bool) → eqb p.0 slot ≡ t
      → Owns (p ∷ ps) slot x → Owns (cond t (p ∷ only slot ps) (only slot ps)) slot x
  kept_step p ps slot x rec true is (inl e) = inl e
  kept_step p ps slot x rec true is (inr h) = inr (rec h)
  kept_step p ps slot x rec false is (inl e) = let ne : p.0 ≢ slot = grind (arith, nat_tests, is) in absurd (ne e.0)
  kept_step p ps slot x rec false is (inr h) = rec h

  -- who owned the part of the slot that is cut off, gave it along
  pub owns_only : (ps : List (ℕ × T)) (slot : ℕ) (x : T) → Owns ps slot x → Owns (only slot ps) slot x
  owns_only [] slot x h = h
  owns_only (p ∷ ps) slot x h = kept_step p ps slot x (owns_only ps slot x) (eqb p.0 slot) refl h

  -- the one who makes a turn owns every part
  pub owns_all : (value : T) (slot : ℕ) → slot < 32 → OwnsSlot (parts_below 32 value) slot
  owns_all value slot low = (value, owns_below 32 slot value low)

  pub owns_cut : (ps : List (ℕ × T)) (slot : ℕ) → OwnsSlot ps slot → OwnsSlot (only slot ps) slot
  owns_cut ps slot h = (h.0, owns_only ps slot h.0 h.1)

  stays_step : (cut : ℕ) (p : ℕ × T) (ps : List (ℕ × T)) (slot : ℕ) (x : T) → slot ≢ cut → (Owns ps slot x → Owns (without cut ps) slot x) → (t : Bool) → eqb p.0 cut ≡ t
      → Owns (p ∷ ps) slot x → Owns (cond (not t) (p ∷ without cut ps) (without cut ps)) slot x
  stays_step cut p ps slot x ne rec true is (inl e) = let same : p.0 ≡ cut = grind (arith, nat_tests, is) in absurd (ne (sym e.0 ∙ same))
  stays_step cut p ps slot x ne rec true is (inr h) = rec h
  stays_step cut p ps slot x ne rec false is (inl e) = inl e
  stays_step cut p ps slot x ne rec false is (inr h) = inr (rec h)

  stays : (cut : ℕ) (ps : List (ℕ × T)) (slot : ℕ) (x : T) → slot ≢ cut → Owns ps slot x → Owns (without cut ps) slot x
  stays cut [] slot x ne h = h
  stays cut (p ∷ ps) slot x ne h = stays_step cut p ps slot x ne (stays cut ps slot x ne) (eqb p.0 cut) refl h

  -- the parts of other slots stay with their owner
  pub owns_without : (cut : ℕ) (ps : List (ℕ × T)) (slot : ℕ) → slot ≢ cut → OwnsSlot ps slot → OwnsSlot (without cut ps) slot
  owns_without cut ps slot ne h = (h.0, stays cut ps slot h.0 ne h.1)

  -- a part that was owned is owned as it was left
  pub owns_left : (ps : List (ℕ × T)) (value : T) (slot : ℕ) → OwnsSlot ps slot → Owns (left_in ps value) slot value
  owns_left [] value slot h = absurd h.1
  owns_left (p ∷ ps) value slot (x, inl e) = inl (e.0, refl)
  owns_left (p ∷ ps) value slot (x, inr h) = inr (owns_left ps value slot (x, h))

  -- of two passes that meet, each brings what it owns
  pub owns_first : (ps qs : List (ℕ × T)) (slot : ℕ) → OwnsSlot ps slot → OwnsSlot (ps ++ qs) slot
  owns_first [] qs slot h = absurd h.1
  owns_first (p ∷ ps) qs slot (x, inl e) = (x, inl e)
  owns_first (p ∷ ps) qs slot (x, inr h) = let r = owns_first ps qs slot (x, h) in (r.0, inr r.1)

  pub owns_second : (ps qs : List (ℕ × T)) (slot : ℕ) → OwnsSlot qs slot → OwnsSlot (ps ++ qs) slot
  owns_second [] qs slot h = h
  owns_second (p ∷ ps) qs slot h = let r = owns_second ps qs slot h in (r.0, inr r.1)
