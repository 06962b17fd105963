-- A plan by its newest pair, and the places of an undo record.
use Rattle.std.proofs.Common.{◌≡◌, ◌≢◌, ◌||◌, ◌==◌, ◌+◌, ◌≤◌, ◌<◌, zero, suc, ℕ, List, [], ◌∷◌, ◌++◌, length, get_or, not, IsSome, IsSomeAnd, slice_get, Bool, true, false, cond, refl, sym, ap, subst, ◌∙◌, arith, inl, inr, eq-eqb}
use Rattle.std.proofs.lemmas.Bool.{ne_eqb}
use Rattle.std.proofs.lemmas.List.Sums.{sum_by-append, sum_by-cons}
use Rattle.std.specs.List.{count_by}
use Rattle.rdb_cells.specs.declared.pairs.Pair.{Pair}
use Rattle.rdb_cells.specs.Images.{Image}
use Rattle.rdb_cells.specs.Places.{AreDifferent}
use Rattle.rdb_cells.specs.Records.{Record, names, numbers_of, Logs}
use Rattle.rdb_cells.proofs.PairLemmas.{any_right, different-tail, different-head, named_when_appended}
use Rattle.rdb_cells.proofs.SettledLemmas.{true_or_false}
use Rattle.rdb_registry.specs.declared.hand.Hand.{Hand}
use Rattle.rdb_writes.specs.Grounds.{WorksOn}
use Rattle.rdb_writes.specs.Steps.{WritesPlanned}

pub named_left : (ps : List Pair) (p : Pair) (n : ℕ) → names ps n ≡ true → names (ps ++ p ∷ []) n ≡ true
named_left [] p n e = cc
named_left (q ∷ ps) p n e =
    (elim (q.at.number == n) as (λ (b : Bool). (b || names ps n) ≡ true → (b || names (ps ++ p ∷ []) n) ≡ true) [
      | true ↦ λ h. refl
      | false ↦ λ h. named_left ps p n h
    ]) e

pub named_last : (ps : List Pair) (p : Pair) → names (ps ++ p ∷ []) p.at.number ≡ true
named_last [] p = rw (eq-eqb p.at.number p.at.number refl) refl
named_last (q ∷ ps) p = any_right (q.at.number == p.at.number) (names (ps ++ p ∷ []) p.at.number) (named_last ps p)

-- a pair of another cell
named_more : (ps : List Pair) (p : Pair) (n : ℕ) → p.at.number ≢ n → names (ps ++ p ∷ []) n ≡ names ps n
named_more [] p n ne = rw (ne_eqb p.at.number n ne) refl
named_more (q ∷ ps) p n ne = ap (λ (b : Bool). (q.at.number == n) || b) (named_more ps p n ne)

-- the last of different cells has no other pair
last_number : (ps : List Pair) (p : Pair) → get_or (numbers_of (ps ++ p ∷ [])) (length ps) 0 ≡ p.at.number
last_number [] p = refl
last_number (q ∷ ps) p = last_number ps p

one_longer : (ps : List Pair) (p : Pair) → length (numbers_of (ps ++ p ∷ [])) ≡ suc (length ps)
one_longer [] p = refl
one_longer (q ∷ ps) p = ap suc (one_longer ps p)

pub last_unnamed : (ps : List Pair) (p : Pair) → AreDifferent (numbers_of (ps ++ p ∷ [])) → names ps p.at.number ≡ false
last_unnamed [] p apart = refl
last_unnamed (q ∷ ps) p apart =
    let longer = one_longer ps p in
    let different : q.at.number ≢ p.at.number = λ same. different-head q.at.number (numbers_of (ps ++ p ∷ [])) (length ps) apart (omega arith) (last_number ps p ∙ sym same) in
    rw (ne_eqb q.at.number p.at.number different) (last_unnamed ps p (different-tail q.at.number (numbers_of (ps ++ p ∷ [])) apart))

pub longer_by_one : (ps : List Pair) (p : Pair) → length (ps ++ p ∷ []) ≡ suc (length ps)
longer_by_one [] p = refl
longer_by_one (q ∷ ps) p = ap suc (longer_by_one ps p)

-- how many of the pairs' cells another list lacks
abbrev pub lacking : List Pair → List Pair → ℕ
lacking logged plan = count_by (λ (p : Pair). not (names logged p.at.number)) plan

abbrev one_lacking : List Pair → Pair → ℕ
one_lacking logged p = cond (not (names logged p.at.number)) 1 0

lacking_last : (logged plan : List Pair) (p : Pair) → lacking logged (plan ++ p ∷ []) ≡ lacking logged plan + one_lacking logged p
lacking_last logged plan p =
    let sums = sum_by-append (one_lacking logged) plan (p ∷ []) in
    let single = sum_by-cons (one_lacking logged) p [] in
    omega (arith, sums, single)

-- one more pair is logged, of a cell that the plan lacks
lacking_more : (logged plan : List Pair) (p : Pair) → names plan p.at.number ≡ false → lacking (logged ++ p ∷ []) plan ≡ lacking logged plan
lacking_more logged [] p none = refl
lacking_more logged (q ∷ plan) p none =
    (elim (q.at.number == p.at.number) as (λ (b : Bool). (q.at.number == p.at.number) ≡ b → (b || names plan p.at.number) ≡ false → lacking (logged ++ p ∷ []) (q ∷ plan) ≡ lacking logged (q ∷ plan)) [
      | true ↦ λ is h. cc
      | false ↦ λ is h.
          let other : p.at.number ≢ q.at.number = λ same. (let yes : (q.at.number == p.at.number) ≡ true = eq-eqb q.at.number p.at.number (sym same) in cc) in
          let here = named_more logged p q.at.number other in
          let rest = lacking_more logged plan p h in
          sum_by-cons (one_lacking (logged ++ p ∷ [])) q plan
          ∙ (λ i. cond (not (here i)) 1 0 + rest i)
          ∙ sym (sum_by-cons (one_lacking logged) q plan)
    ]) refl none

module _ (undo now : Record) (image : Image) (rest : List Pair) (next : Pair) (logs : Logs undo now image next.at.number) (once : AreDifferent (numbers_of (rest ++ next ∷ []))) where
  -- a place for each cell that wasn't logged is a place for each that isn't now
  pub places_left : length undo.pairs + lacking undo.pairs (rest ++ next ∷ []) ≤ undo.room → length now.pairs + lacking now.pairs rest ≤ now.room
  places_left enough = elim (true_or_false (names undo.pairs next.at.number)) [
    | inl named ↦
        let last = lacking_last undo.pairs rest next in
        subst (λ (r : Record). length r.pairs + lacking r.pairs rest ≤ r.room) (sym (logs.again named)) (omega (arith, enough, last))
    | inr unnamed ↦
        let made = logs.first unnamed in
        let p = made.0 in
        let one : one_lacking undo.pairs next ≡ 1 = ap (λ (b : Bool). cond {A = ℕ} (not b) 1 0) unnamed in
        let last = lacking_last undo.pairs rest next in
        let more = lacking_more undo.pairs rest p (ap (names rest) made.1 ∙ last_unnamed rest next once) in
        let longer = longer_by_one undo.pairs p in
        subst (λ (r : Record). length r.pairs + lacking r.pairs rest ≤ r.room) (sym made.3) (omega (arith, enough, one, last, more, longer))
  ]

-- there is a place to log the next
pub place_for_next : (undo : Record) (rest : List Pair) (next : Pair) → length undo.pairs + lacking undo.pairs (rest ++ next ∷ []) ≤ undo.room → names undo.pairs next.at.number ≡ false → length undo.pairs < undo.room
place_for_next undo rest next enough unnamed =
    let one : one_lacking undo.pairs next ≡ 1 = ap (λ (b : Bool). cond {A = ℕ} (not b) 1 0) unnamed in
    let last = lacking_last undo.pairs rest next in
    omega (arith, enough, one, last)

-- what a hand works on once the next pair is written
pub works_on_less : (image_before image_after : Image) (before after : Hand) (next : Pair) → WritesPlanned image_before image_after before after next → (n : ℕ) → WorksOn after n → WorksOn before n
works_on_less image_before image_after before after next w n (inr planned) =
    inr (ap (λ (r : Record). names r.pairs n) w.plan ∙ named_left after.plan.pairs next n planned)
works_on_less image_before image_after before after next w n (inl logged) = elim (true_or_false (names before.undo.pairs next.at.number)) [
  | inl named ↦ inl (ap (λ (r : Record). names r.pairs n) (sym (w.logged.again named)) ∙ logged)
  | inr unnamed ↦
      let made = w.logged.first unnamed in
      elim (named_when_appended before.undo.pairs made.0 n (ap (λ (r : Record). names r.pairs n) (sym made.3) ∙ logged)) [
        | inl was ↦ inl was
        | inr same ↦ inr (ap (λ (r : Record). names r.pairs n) w.plan ∙ subst (λ (m : ℕ). names (after.plan.pairs ++ next ∷ []) m ≡ true) (sym made.1 ∙ same) (named_last after.plan.pairs next))
      ]
]

-- each pair of cells is one of a cell
pub pair_at : (image : Image) (ps : List Pair) (i : ℕ) → ((n : ℕ) → names ps n ≡ true → IsSome (image n)) → i < length ps → IsSomeAnd (slice_get ps i) (λ p. IsSome (image p.at.number))
pair_at image [] i cells within = absurd (omega (arith, within))
pair_at image (p ∷ ps) zero cells within = cells p.at.number (rw (eq-eqb p.at.number p.at.number refl) refl)
pair_at image (p ∷ ps) (suc i) cells within = pair_at image ps i (λ n named. cells n (any_right (p.at.number == n) (names ps n) named)) (omega (arith, within))
