-- The place that was looked at isn't among the later ones.
use Rattle.std.proofs.Common.{◌≡◌, ◌≢◌, ◌+◌, ◌-◌, ◌<◌, ℕ, false, List, length, drop, get_or, sym, ap, ◌∙◌, subst, arith, inl, inr, length-drop}
use Rattle.std.specs.Prelude.{◌==◌}
use Rattle.std.proofs.lemmas.Bool.{cases_lt}
use Rattle.std.proofs.lemmas.Bool.Decides.{nat_tests}
use Rattle.std.proofs.lemmas.List.{get_or-drop, get_or_default}
use Rattle.rdb_schema.proofs.checking.is_once.Goals as goal

not_itself : (n : ℕ) → (n == n) ≡ false → ⊥
not_itself n e = grind (arith, nat_tests)

apart : (key : List ℕ) (at : ℕ) → at < length key → ((k d : ℕ) → k < length (drop (at + 1) key) → (get_or (drop (at + 1) key) k d == get_or key at 0) ≡ false) → (j d : ℕ) → at < j → j < length key → get_or key at d ≢ get_or key j d
apart key at lt none j d past within = λ e.
    let k = j - (at + 1) in
    let here = none k d (simp length-drop (omega arith)) in
    let place : (at + 1) + k ≡ j = omega arith in
    let same : get_or (drop (at + 1) key) k d ≡ get_or key at 0 = get_or-drop (at + 1) key k d ∙ ap (λ (n : ℕ). get_or key n d) place ∙ sym e ∙ get_or_default key at d 0 lt in
    not_itself (get_or key at 0) (subst (λ (n : ℕ). (n == get_or key at 0) ≡ false) same here)

one_more : (key : List ℕ) (at : ℕ) → at < length key → ((i j d : ℕ) → i < at → i < j → j < length key → get_or key i d ≢ get_or key j d)
    → ((k d : ℕ) → k < length (drop (at + 1) key) → (get_or (drop (at + 1) key) k d == get_or key at 0) ≡ false) → (i j d : ℕ) → i < at + 1 → i < j → j < length key → get_or key i d ≢ get_or key j d
one_more key at lt before none i j d below past within = elim (cases_lt i at) [
  | inl earlier ↦ before i j d earlier past within
  | inr later ↦ let is : at ≡ i = omega arith in subst (λ (n : ℕ). get_or key n d ≢ get_or key j d) is (apart key at lt none j d (omega arith) within)
]

pub loop-at-preserved : goal.loop-at-preserved
loop-at-preserved c =
    one_more c.args.key.now c.loop-at.at c.loop-at-test.true c.loop-at.invariant
    (subst (λ (later : List ℕ). (k d : ℕ) → k < length later → (get_or later k d == get_or c.args.key.now c.loop-at.at 0) ≡ false) c.split_at.ensures.back (λ k d lt. c.if-contains.ensures.cases k d (omega arith) lt))
