-- The pairs of a plan that change a cell.
use Rattle.std.proofs.Common.{◌≡◌, ◌≢◌, ◌||◌, ◌==◌, ◌<◌, ◌≤◌, ◌+◌, ◌↔◌, zero, suc, ℕ, List, [], ◌∷◌, ◌++◌, length, get_or, set, take, drop, reverse, Option, Some, Bool, true, false, refl, sym, ap, subst, ◌∙◌, arith, inl, inr, eq-eqb, add-one, drop-cons}
use Rattle.std.proofs.lemmas.Bool.{ne_eqb, false≢true}
use Rattle.std.proofs.lemmas.List.{reverse-append, length-map, length-set, take_more_set, drop-set-lt}
use Rattle.std.proofs.Math.Seq.{take-suc}
use Rattle.std.proofs.Permutation.{which}
use Rattle.rdb_pages.specs.declared.cell.Cell.{Cell}
use Rattle.rdb_cells.specs.declared.pairs.Pair.{Pair}
use Rattle.rdb_cells.specs.Images.{Image, SameImage}
use Rattle.rdb_cells.specs.Overlays.{AreCells}
use Rattle.rdb_cells.specs.Places.{AreDifferent}
use Rattle.rdb_cells.specs.Records.{names, numbers_of, content, first_of, planned, AreChanges}
use Rattle.rdb_cells.proofs.PairLemmas.{any_right, either, named_when_appended, names_none, unnamed_fresh, numbers-append, content_unnamed, content-append_same, content-append_other, different-head, different-tail}
use Rattle.rdb_cells.proofs.PlaceLemmas.{different-more}
use Rattle.rdb_cells.proofs.SettledLemmas.{true_or_false}

-- a cell's pair stands first, or among the others
content_here : (p : Pair) (ps : List Pair) (n : ℕ) → p.at.number ≡ n → content (p ∷ ps) n ≡ Some p.cell
content_here p ps n e = rw (eq-eqb p.at.number n e) refl

content_later : (p : Pair) (ps : List Pair) (n : ℕ) → p.at.number ≢ n → content (p ∷ ps) n ≡ content ps n
content_later p ps n ne = rw (ne_eqb p.at.number n ne) refl

unnamed_behind : (p : Pair) (ps : List Pair) → AreDifferent (numbers_of (p ∷ ps)) → names ps p.at.number ≡ false
unnamed_behind p ps once = names_none ps p.at.number (λ i h. different-head p.at.number (numbers_of ps) i once h)

different_cons : (x : ℕ) (xs : List ℕ) → ((i : ℕ) → i < length xs → get_or xs i 0 ≢ x) → AreDifferent xs → AreDifferent (x ∷ xs)
different_cons x xs fresh d zero zero hi hj e = refl
different_cons x xs fresh d zero (suc j) hi hj e = absurd (fresh j (omega arith) (sym e))
different_cons x xs fresh d (suc i) zero hi hj e = absurd (fresh i (omega arith) e)
different_cons x xs fresh d (suc i) (suc j) hi hj e = ap (λ (k : ℕ). suc k) (d i j (omega arith) (omega arith) e)

-- the item at a place
named_item : (ps : List Pair) (i : ℕ) (p : Pair) → i < length ps → p ≡ get_or ps i p → names ps p.at.number ≡ true
named_item [] i p h is = absurd (omega arith)
named_item (q ∷ ps) zero p h is = rw (eq-eqb q.at.number p.at.number (ap (λ (r : Pair). r.at.number) (sym is))) refl
named_item (q ∷ ps) (suc i) p h is = any_right (q.at.number == p.at.number) (names ps p.at.number) (named_item ps i p (omega arith) is)

number_at : (ps : List Pair) (i : ℕ) (d : Pair) → i < length ps → get_or (numbers_of ps) i 0 ≡ (get_or ps i d).at.number
number_at [] i d h = absurd (omega arith)
number_at (q ∷ ps) zero d h = refl
number_at (q ∷ ps) (suc i) d h = number_at ps i d (omega arith)

pub fresh_taken : (ps : List Pair) (i : ℕ) (d : Pair) → AreDifferent (numbers_of ps) → i < length ps → (j : ℕ) → j < length (numbers_of (take i ps)) → get_or (numbers_of (take i ps)) j 0 ≢ (get_or ps i d).at.number
fresh_taken [] i d once h j hj = absurd (omega arith)
fresh_taken (q ∷ ps) zero d once h j hj = absurd (omega arith)
fresh_taken (q ∷ ps) (suc i) d once h zero hj =
    λ e. different-head q.at.number (numbers_of ps) i once (rw length-map (omega arith)) (number_at ps i d (omega arith) ∙ sym e)
fresh_taken (q ∷ ps) (suc i) d once h (suc j) hj = fresh_taken ps i d (different-tail q.at.number (numbers_of ps) once) (omega arith) j (omega arith)

-- what a cell holds isn't what is to be written
pub is_changed : (o : Option Cell) (held cell : Cell) → o ≡ Some held → held ≢ cell → o ≢ Some cell
is_changed o held cell is differ e = differ (let same : Some held ≡ Some cell = sym is ∙ e in cc)

-- the other way round
reverse_more : (p : Pair) (ps : List Pair) → reverse (p ∷ ps) ≡ reverse ps ++ p ∷ []
reverse_more p ps = reverse-append (p ∷ []) ps

pub named_reverse : (ps : List Pair) (n : ℕ) → names (reverse ps) n ≡ true → names ps n ≡ true
named_reverse [] n e = e
named_reverse (p ∷ ps) n e = elim (named_when_appended (reverse ps) p n (sym (ap (λ (qs : List Pair). names qs n) (reverse_more p ps)) ∙ e)) [
  | inl before ↦ any_right (p.at.number == n) (names ps n) (named_reverse ps n before)
  | inr here ↦ rw (eq-eqb p.at.number n here) refl
]

unnamed_reverse : (ps : List Pair) (n : ℕ) → names ps n ≡ false → names (reverse ps) n ≡ false
unnamed_reverse ps n unnamed = elim (true_or_false (names (reverse ps) n)) [
  | inl named ↦ absurd (false≢true (sym unnamed ∙ named_reverse ps n named))
  | inr without ↦ without
]

pub once_reverse : (ps : List Pair) → AreDifferent (numbers_of ps) → AreDifferent (numbers_of (reverse ps))
once_reverse [] once = once
once_reverse (p ∷ ps) once =
    subst (λ (ns : List ℕ). AreDifferent ns) (sym (ap numbers_of (reverse_more p ps) ∙ numbers-append (reverse ps) p))
    (different-more (λ (k : ℕ). k) (numbers_of (reverse ps)) p.at.number (once_reverse ps (different-tail p.at.number (numbers_of ps) once))
    (unnamed_fresh (reverse ps) p.at.number (unnamed_reverse ps p.at.number (unnamed_behind p ps once))))

content_reverse : (ps : List Pair) (n : ℕ) → AreDifferent (numbers_of ps) → content (reverse ps) n ≡ content ps n
content_reverse [] n once = refl
content_reverse (p ∷ ps) n once =
    ap (λ (qs : List Pair). content qs n) (reverse_more p ps)
    ∙ elim (which p.at.number n) [
      | inl same ↦
          content-append_same (reverse ps) p n (unnamed_reverse ps n (subst (λ (k : ℕ). names ps k ≡ false) same (unnamed_behind p ps once))) same
          ∙ sym (content_here p ps n same)
      | inr apart ↦
          content-append_other (reverse ps) p n (λ e. apart (sym e))
          ∙ content_reverse ps n (different-tail p.at.number (numbers_of ps) once)
          ∙ sym (content_later p ps n apart)
    ]

module _ (image : Image) where
  -- one pair more
  changes_skip : (ps left : List Pair) (p : Pair) → AreChanges image ps left → image p.at.number ≡ Some p.cell → AreChanges image (ps ++ p ∷ []) left
  changes_skip [] left p h e = inl (e, h)
  changes_skip (q ∷ ps) left p h e = elim h [
    | inl skipped ↦ inl (skipped.0, changes_skip ps left p skipped.1 e)
    | inr kept ↦ inr (kept.0, kept.1, kept.2, changes_skip ps kept.0 p kept.3 e)
  ]

  changes_keep : (ps left : List Pair) (p : Pair) → AreChanges image ps left → image p.at.number ≢ Some p.cell → AreChanges image (ps ++ p ∷ []) (left ++ p ∷ [])
  changes_keep [] left p h ne = inr ([], ne, ap (λ (qs : List Pair). qs ++ p ∷ []) h, refl)
  changes_keep (q ∷ ps) left p h ne = elim h [
    | inl skipped ↦ inl (skipped.0, changes_keep ps left p skipped.1 ne)
    | inr kept ↦ inr (kept.0 ++ p ∷ [], kept.1, ap (λ (qs : List Pair). qs ++ p ∷ []) kept.2, changes_keep ps kept.0 p kept.3 ne)
  ]

  pub changes_shorter : (ps left : List Pair) → AreChanges image ps left → length left ≤ length ps
  changes_shorter [] left h = let e : length left ≡ 0 = ap length h in omega arith
  changes_shorter (q ∷ ps) left h = elim h [
    | inl skipped ↦ let rest = changes_shorter ps left skipped.1 in omega arith
    | inr kept ↦ let rest = changes_shorter ps kept.0 kept.3 in let e : length left ≡ suc (length kept.0) = ap length kept.2 in omega arith
  ]

  pub changes_named : (ps left : List Pair) (n : ℕ) → AreChanges image ps left → names left n ≡ true → names ps n ≡ true
  changes_named [] left n h e = absurd (false≢true (sym (ap (λ (qs : List Pair). names qs n) h) ∙ e))
  changes_named (q ∷ ps) left n h e = elim h [
    | inl skipped ↦ any_right (q.at.number == n) (names ps n) (changes_named ps left n skipped.1 e)
    | inr kept ↦ elim (either (q.at.number == n) (names kept.0 n) (sym (ap (λ (qs : List Pair). names qs n) kept.2) ∙ e)) [
      | inl here ↦ rw here refl
      | inr later ↦ any_right (q.at.number == n) (names ps n) (changes_named ps kept.0 n kept.3 later)
    ]
  ]

  unnamed_left : (ps left : List Pair) (n : ℕ) → AreChanges image ps left → names ps n ≡ false → names left n ≡ false
  unnamed_left ps left n h unnamed = elim (true_or_false (names left n)) [
    | inl named ↦ absurd (false≢true (sym unnamed ∙ changes_named ps left n h named))
    | inr without ↦ without
  ]

  pub changes_once : (ps left : List Pair) → AreDifferent (numbers_of ps) → AreChanges image ps left → AreDifferent (numbers_of left)
  changes_once [] left once h = subst (λ (qs : List Pair). AreDifferent (numbers_of qs)) (sym h) once
  changes_once (q ∷ ps) left once h = elim h [
    | inl skipped ↦ changes_once ps left (different-tail q.at.number (numbers_of ps) once) skipped.1
    | inr kept ↦
        subst (λ (qs : List Pair). AreDifferent (numbers_of qs)) (sym kept.2)
        (different_cons q.at.number (numbers_of kept.0)
        (unnamed_fresh kept.0 q.at.number (unnamed_left ps kept.0 q.at.number kept.3 (unnamed_behind q ps once)))
        (changes_once ps kept.0 (different-tail q.at.number (numbers_of ps) once) kept.3))
  ]

  -- what is left reads the same
  changes_read : (ps left : List Pair) (n : ℕ) → AreDifferent (numbers_of ps) → AreChanges image ps left → planned left image n ≡ planned ps image n
  changes_read [] left n once h = ap (λ (qs : List Pair). planned qs image n) h
  changes_read (q ∷ ps) left n once h = elim (which q.at.number n) [
    | inl same ↦ elim h [
      | inl skipped ↦
          let none = unnamed_left ps left n skipped.1 (subst (λ (k : ℕ). names ps k ≡ false) same (unnamed_behind q ps once)) in
          ap (λ (o : Option Cell). first_of o (image n)) (content_unnamed left n none)
          ∙ subst (λ (k : ℕ). image k ≡ Some q.cell) same skipped.0
          ∙ sym (ap (λ (o : Option Cell). first_of o (image n)) (content_here q ps n same))
      | inr kept ↦
          ap (λ (qs : List Pair). planned qs image n) kept.2
          ∙ ap (λ (o : Option Cell). first_of o (image n)) (content_here q kept.0 n same ∙ sym (content_here q ps n same))
    ]
    | inr apart ↦ elim h [
      | inl skipped ↦
          changes_read ps left n (different-tail q.at.number (numbers_of ps) once) skipped.1
          ∙ sym (ap (λ (o : Option Cell). first_of o (image n)) (content_later q ps n apart))
      | inr kept ↦
          ap (λ (qs : List Pair). planned qs image n) kept.2
          ∙ ap (λ (o : Option Cell). first_of o (image n)) (content_later q kept.0 n apart)
          ∙ changes_read ps kept.0 n (different-tail q.at.number (numbers_of ps) once) kept.3
          ∙ sym (ap (λ (o : Option Cell). first_of o (image n)) (content_later q ps n apart))
    ]
  ]

  -- what is left changes its cell
  changes_differ : (ps left : List Pair) (n : ℕ) → AreDifferent (numbers_of ps) → AreChanges image ps left → names left n ≡ true → planned left image n ≢ image n
  changes_differ [] left n once h named = absurd (false≢true (sym (ap (λ (qs : List Pair). names qs n) h) ∙ named))
  changes_differ (q ∷ ps) left n once h named = elim h [
    | inl skipped ↦ changes_differ ps left n (different-tail q.at.number (numbers_of ps) once) skipped.1 named
    | inr kept ↦ elim (which q.at.number n) [
      | inl same ↦ λ e. kept.1 (subst (λ (k : ℕ). image k ≡ Some q.cell) (sym same) (sym e ∙ ap (λ (qs : List Pair). planned qs image n) kept.2 ∙ ap (λ (o : Option Cell). first_of o (image n)) (content_here q kept.0 n same)))
      | inr apart ↦ λ e.
          changes_differ ps kept.0 n (different-tail q.at.number (numbers_of ps) once) kept.3
          (sym (ap (λ (b : Bool). b || names kept.0 n) (ne_eqb q.at.number n apart)) ∙ sym (ap (λ (qs : List Pair). names qs n) kept.2) ∙ named)
          (sym (ap (λ (qs : List Pair). planned qs image n) kept.2 ∙ ap (λ (o : Option Cell). first_of o (image n)) (content_later q kept.0 n apart)) ∙ e)
    ]
  ]

  -- how far a walk has come that moves the changes to the front: those of the first `at` pairs are the first `kept`
  pub record KeepsSoFar (initial now : List Pair) (at kept : ℕ) : Type 0 where
    pub even : length now ≡ length initial
    pub below : kept ≤ at
    pub ahead : drop at now ≡ drop at initial
    pub so_far : AreChanges image (take at initial) (take kept now)

  same_ahead : (initial now : List Pair) (at : ℕ) (p : Pair) → length now ≡ length initial → at < length initial → drop at now ≡ drop at initial → p ≡ get_or now at p → (p ≡ get_or initial at p) × (drop (at + 1) now ≡ drop (at + 1) initial)
  same_ahead initial now at p even h ahead is =
      let both : get_or now at p ∷ drop (suc at) now ≡ get_or initial at p ∷ drop (suc at) initial = sym (drop-cons now at p (omega arith)) ∙ ahead ∙ drop-cons initial at p h in
      let head : get_or now at p ≡ get_or initial at p = cc in
      (is ∙ head, rw add-one cc)

  pub keeps-named : (initial now : List Pair) (at kept : ℕ) (p : Pair) → at < length initial → KeepsSoFar initial now at kept → p ≡ get_or now at p → names initial p.at.number ≡ true
  keeps-named initial now at kept p h old is = named_item initial at p h (same_ahead initial now at p old.even h old.ahead is).0

  taken_more : (initial : List Pair) (at : ℕ) (p : Pair) → at < length initial → p ≡ get_or initial at p → take (at + 1) initial ≡ take at initial ++ p ∷ []
  taken_more initial at p h is = rw add-one (take-suc initial at p h ∙ ap (λ (q : Pair). take at initial ++ q ∷ []) (sym is))

  pub keeps-kept : (initial now : List Pair) (at kept : ℕ) (p : Pair) → at < length initial → KeepsSoFar initial now at kept → p ≡ get_or now at p → image p.at.number ≢ Some p.cell → KeepsSoFar initial (set now kept p) (at + 1) (kept + 1)
  keeps-kept initial now at kept p h old is changed =
      let below = old.below in
      let even = old.even in
      let ahead = same_ahead initial now at p old.even h old.ahead is in
      record {
        even = length-set now kept p ∙ old.even;
        below = omega arith;
        ahead = drop-set-lt (at + 1) now kept p (omega arith) ∙ ahead.1;
        so_far =
            subst (λ (qs : List Pair). AreChanges image qs (take (kept + 1) (set now kept p))) (sym (taken_more initial at p h ahead.0))
            (subst (λ (qs : List Pair). AreChanges image (take at initial ++ p ∷ []) qs) (sym (take_more_set now kept p (omega arith)))
            (changes_keep (take at initial) (take kept now) p old.so_far changed));
      }

  pub keeps-skipped : (initial now : List Pair) (at kept : ℕ) (p : Pair) → at < length initial → KeepsSoFar initial now at kept → p ≡ get_or now at p → image p.at.number ≡ Some p.cell → KeepsSoFar initial now (at + 1) kept
  keeps-skipped initial now at kept p h old is same =
      let below = old.below in
      let ahead = same_ahead initial now at p old.even h old.ahead is in
      record {
        even = old.even;
        below = omega arith;
        ahead = ahead.1;
        so_far =
            subst (λ (qs : List Pair). AreChanges image qs (take kept now)) (sym (taken_more initial at p h ahead.0))
            (changes_skip (take at initial) (take kept now) p old.so_far same);
      }

  pub keeps-init : (initial : List Pair) → KeepsSoFar initial initial 0 0
  keeps-init initial = record { even = refl; below = omega arith; ahead = refl; so_far = refl }

  -- a plan taken from its overlay
  module _ (qs left : List Pair) (once : AreDifferent (numbers_of qs)) (changes : AreChanges image (reverse qs) left) where
    pub plan_once : AreDifferent (numbers_of left)
    plan_once = changes_once (reverse qs) left (once_reverse qs once) changes

    pub plan_reads : SameImage (planned left image) (planned qs image)
    plan_reads n = changes_read (reverse qs) left n (once_reverse qs once) changes ∙ ap (λ (o : Option Cell). first_of o (image n)) (content_reverse qs n once)

    pub plan_changed : (n : ℕ) → (names left n ≡ true) ↔ (planned qs image n ≢ image n)
    plan_changed n = (
      λ named e. changes_differ (reverse qs) left n (once_reverse qs once) changes named (plan_reads n ∙ e),
      λ differs. elim (true_or_false (names left n)) [
        | inl named ↦ named
        | inr unnamed ↦ absurd (differs (sym (plan_reads n) ∙ ap (λ (o : Option Cell). first_of o (image n)) (content_unnamed left n unnamed)))
      ],
    )

    pub plan_cells : AreCells image qs → AreCells image left
    plan_cells are n named = are n (named_reverse qs n (changes_named (reverse qs) left n changes named))
