-- What a longer plan says.
use Rattle.std.proofs.Common.{◌≡◌, ◌||◌, ◌==◌, ◌++◌, ℕ, List, [], ◌∷◌, Option, Some, Bool, true, false, refl, sym, ap, subst, ◌∙◌, cond, inl, inr, eq-eqb}
use Rattle.std.proofs.lemmas.Bool.{ne_eqb, false≢true}
use Rattle.std.specs.List.{find}
use Rattle.std.specs.Option.{option_map}
use Rattle.rdb_pages.specs.declared.cell.Cell.{Cell}
use Rattle.rdb_cells.specs.declared.pairs.Pair.{Pair}
use Rattle.rdb_cells.specs.Images.{Image}
use Rattle.rdb_cells.specs.Links.{IsAmong, AreOnce}
use Rattle.rdb_cells.specs.Records.{names, numbers_of, content, replaced, with_put, first_of, planned}

pub either_false : (a b : Bool) → (a || b) ≡ false → (a ≡ false) × (b ≡ false)
either_false true b e = absurd (false≢true (sym e))
either_false false b e = (refl, e)

pub neither_true : (a b : Bool) → a ≡ false → b ≡ false → (a || b) ≡ false
neither_true true b e d = absurd (false≢true (sym e))
neither_true false b e d = d

-- pairs behind others
pub named_before : (ps qs : List Pair) (n : ℕ) → names (ps ++ qs) n ≡ false → names ps n ≡ false
named_before [] qs n e = refl
named_before (p ∷ ps) qs n e =
    let both = either_false (p.at.number == n) (names (ps ++ qs) n) e in
    neither_true (p.at.number == n) (names ps n) both.0 (named_before ps qs n both.1)

pub unnamed_both : (ps qs : List Pair) (n : ℕ) → names ps n ≡ false → names qs n ≡ false → names (ps ++ qs) n ≡ false
unnamed_both [] qs n e d = d
unnamed_both (p ∷ ps) qs n e d =
    let both = either_false (p.at.number == n) (names ps n) e in
    neither_true (p.at.number == n) (names (ps ++ qs) n) both.0 (unnamed_both ps qs n both.1 d)

pub content_behind : (ps qs : List Pair) (n : ℕ) → names ps n ≡ false → content (ps ++ qs) n ≡ content qs n
content_behind [] qs n e = refl
content_behind (p ∷ ps) qs n e =
    let both = either_false (p.at.number == n) (names ps n) e in
    ap (λ (b : Bool). option_map (λ (q : Pair). q.cell) (cond b (Some p) (find (λ (q : Pair). q.at.number == n) (ps ++ qs)))) both.0
    ∙ content_behind ps qs n both.1

pub content_before : (ps qs : List Pair) (n : ℕ) → names qs n ≡ false → content (ps ++ qs) n ≡ content ps n
content_before [] [] n e = refl
content_before [] (q ∷ qs) n e =
    let both = either_false (q.at.number == n) (names qs n) e in
    ap (λ (b : Bool). option_map (λ (r : Pair). r.cell) (cond b (Some q) (find (λ (r : Pair). r.at.number == n) qs))) both.0
    ∙ content_before [] qs n both.1
content_before (p ∷ ps) qs n e =
    elim (p.at.number == n) as (λ (b : Bool). option_map (λ (q : Pair). q.cell) (cond b (Some p) (find (λ (q : Pair). q.at.number == n) (ps ++ qs))) ≡ option_map (λ (q : Pair). q.cell) (cond b (Some p) (find (λ (q : Pair). q.at.number == n) ps))) [
      | true ↦ refl
      | false ↦ content_before ps qs n e
    ]

-- a pair of a cell that isn't in the plan comes last
pub put_appends : (ps : List Pair) (p : Pair) → names ps p.at.number ≡ false → with_put ps p ≡ ps ++ p ∷ []
put_appends ps p e = ap (λ (b : Bool). cond b (replaced ps p.at.number p.cell) (ps ++ p ∷ [])) e

-- whom the pairs name
pub unnamed_when : (ps : List Pair) (n : ℕ) → (¬ IsAmong (numbers_of ps) n) → names ps n ≡ false
unnamed_when [] n without = refl
unnamed_when (p ∷ ps) n without =
    neither_true (p.at.number == n) (names ps n) (ne_eqb p.at.number n (λ same. without (inl same))) (unnamed_when ps n (λ within. without (inr within)))

-- the image has what the pairs say
abbrev pub AreWritten : Image → List Pair → Type 0
AreWritten image [] = Unit {0}
AreWritten image (p ∷ ps) = (image p.at.number ≡ Some p.cell) × AreWritten image ps

pub written_where : (a b : Image) (ps : List Pair) → ((n : ℕ) → IsAmong (numbers_of ps) n → b n ≡ a n) → AreWritten a ps → AreWritten b ps
written_where a b [] same written = tt
written_where a b (p ∷ ps) same written = (same p.at.number (inl refl) ∙ written.0, written_where a b ps (λ n within. same n (inr within)) written.1)

pub content_once : (ps : List Pair) → AreOnce (numbers_of ps) → AreWritten (content ps) ps
content_once [] once = tt
content_once (p ∷ ps) once = (
  ap (λ (b : Bool). option_map (λ (q : Pair). q.cell) (cond b (Some p) (find (λ (q : Pair). q.at.number == p.at.number) ps))) (eq-eqb p.at.number p.at.number refl),
  written_where (content ps) (content (p ∷ ps)) ps
      (λ n within.
      ap (λ (b : Bool). option_map (λ (q : Pair). q.cell) (cond b (Some p) (find (λ (q : Pair). q.at.number == n) ps)))
      (ne_eqb p.at.number n (λ same. once.0 (subst (λ (m : ℕ). IsAmong (numbers_of ps) m) (sym same) within))))
      (content_once ps once.1),
)

-- a longer plan says what its new pairs say
pub plan_written : (old ps : List Pair) (image : Image) → AreOnce (numbers_of ps) → ((n : ℕ) → IsAmong (numbers_of ps) n → names old n ≡ false) → AreWritten (planned (old ++ ps) image) ps
plan_written old ps image once fresh = read ps (content_once ps once) (λ n within. content_behind old ps n (fresh n within))
  where
    read : (qs : List Pair) → AreWritten (content ps) qs → ((n : ℕ) → IsAmong (numbers_of qs) n → content (old ++ ps) n ≡ content ps n) → AreWritten (planned (old ++ ps) image) qs
    read [] written same = tt
    read (q ∷ qs) written same = (
      ap (λ (o : Option Cell). first_of o (image q.at.number)) (same q.at.number (inl refl) ∙ written.0),
      read qs written.1 (λ n within. same n (inr within)),
    )
