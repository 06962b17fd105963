-- The first line of a text, which keeps its line feed.
use Rattle.std.proofs.Common.{◌≡◌, ℕ, zero, suc, ◌+◌, ◌<◌, Bool, true, false, cond, eqb, ltb, List, [], ◌∷◌, length, take, drop, get_or, Some, None, refl, sym, ap, ◌∙◌, subst, arith, add-one}
use Rattle.std.specs.Prelude.{position}
use Rattle.std.specs.List.{position_or_len, onto_first}
use Rattle.std.proofs.lemmas.Bool.{cond-true, cond-false, eqb-true, ltb-true, false≢true}
use Rattle.std.proofs.lemmas.List.Sums.{fails_before_first, passes_at_first}
use Rattle.rdb_literals.proofs.SpellingLemmas.{none_passes}
use Rattle.rdb_audit.specs.Grammar.{lines}

-- up to the first line feed there is a line
line_front : (text : List ℕ) (n : ℕ) → n < length text → ((k : ℕ) → k < n → eqb (get_or text k 0) 10 ≡ false) → eqb (get_or text n 0) 10 ≡ true → lines text ≡ take (suc n) text ∷ lines (drop (suc n) text)
unfolding lines
line_front [] n lt none feed = absurd (omega arith)
line_front (byte ∷ rest) zero lt none feed = cond-true (eqb byte 10) ((byte ∷ []) ∷ lines rest) (onto_first byte (lines rest)) feed
line_front (byte ∷ rest) (suc n) lt none feed =
    cond-false (eqb byte 10) ((byte ∷ []) ∷ lines rest) (onto_first byte (lines rest)) (none 0 (omega arith))
    ∙ ap (onto_first byte) (line_front rest n (omega arith) (λ k l. none (suc k) (omega arith)) feed)

-- a text without a line feed is one line
one_line : (text : List ℕ) → 0 < length text → ((k : ℕ) → k < length text → eqb (get_or text k 0) 10 ≡ false) → lines text ≡ text ∷ []
unfolding lines
one_line [] some none = absurd (omega arith)
one_line (byte ∷ []) some none = cond-false (eqb byte 10) ((byte ∷ []) ∷ []) ((byte ∷ []) ∷ []) (none 0 (omega arith))
one_line (byte ∷ next ∷ rest) some none =
    cond-false (eqb byte 10) ((byte ∷ []) ∷ lines (next ∷ rest)) (onto_first byte (lines (next ∷ rest))) (none 0 (omega arith))
    ∙ ap (onto_first byte) (one_line (next ∷ rest) (omega arith) (λ k l. none (suc k) (omega arith)))

-- what the place of the first line feed says
pub first_line : (text : List ℕ) (place : ℕ) → Some place ≡ position (λ b. eqb b 10) text → lines text ≡ take (place + 1) text ∷ lines (drop (place + 1) text)
first_line text place e = by_test (ltb (position_or_len (λ b. eqb b 10) text) (length text)) refl
  where
    by_test : (b : Bool) → ltb (position_or_len (λ b. eqb b 10) text) (length text) ≡ b → lines text ≡ take (place + 1) text ∷ lines (drop (place + 1) text)
    by_test false t = absurd (let none : Some place ≡ None = e ∙ ap (λ b. cond b (Some (position_or_len (λ b. eqb b 10) text)) None) t in cc)
    by_test true t =
        let there : Some place ≡ Some (position_or_len (λ b. eqb b 10) text) = e ∙ ap (λ b. cond b (Some (position_or_len (λ b. eqb b 10) text)) None) t in
        let same : place ≡ position_or_len (λ b. eqb b 10) text = cc in
        let lt : position_or_len (λ b. eqb b 10) text < length text = ltb-true (position_or_len (λ b. eqb b 10) text) (length text) t in
        subst (λ (n : ℕ). lines text ≡ take n text ∷ lines (drop n text)) (sym (add-one place))
        (subst (λ (n : ℕ). lines text ≡ take (suc n) text ∷ lines (drop (suc n) text)) (sym same)
        (line_front text (position_or_len (λ b. eqb b 10) text) lt (λ k l. fails_before_first (λ b. eqb b 10) text k 0 l) (passes_at_first (λ b. eqb b 10) text 0 lt)))

pub only_line : (text : List ℕ) → 0 < length text → None ≡ position (λ b. eqb b 10) text → lines text ≡ text ∷ lines []
unfolding lines
only_line text some e =
    let all : length text ≡ position_or_len (λ b. eqb b 10) text = none_passes (λ b. eqb b 10) text e in
    one_line text some (λ k l. fails_before_first (λ b. eqb b 10) text k 0 (omega arith))

pub no_lines : (text : List ℕ) → eqb (length text) 0 ≡ true → lines text ≡ []
unfolding lines
no_lines [] e = refl
no_lines (byte ∷ rest) e = absurd (let z = eqb-true (suc (length rest)) 0 e in omega arith)

pub some_bytes : (text : List ℕ) → eqb (length text) 0 ≡ false → 0 < length text
some_bytes [] e = absurd (false≢true (sym e))
some_bytes (byte ∷ rest) e = omega arith
