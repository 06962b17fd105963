-- The first line of a text, and its first word.
use Rattle.std.proofs.Common.{◌≡◌, ◌≢◌, ℕ, zero, suc, ◌+◌, ◌<◌, ◌≤◌, Bool, true, false, ◌&&◌, ◌||◌, cond, not, eqb, ltb, leb, List, [], ◌∷◌, ◌++◌, length, take, drop, get_or, Option, Some, None, refl, sym, ap, ◌∙◌, subst, arith, add-one, IsSomeAnd, IfSome, IfNone, Bor}
use Rattle.std.specs.Prelude.{position, codes}
use Rattle.std.specs.Option.{option_copied}
use Rattle.std.specs.Str.{IsUtf8}
use Rattle.std.proofs.lemmas.Bool.Decides.{nat_tests}
use Rattle.std.proofs.lemmas.Str.{IsUtf8-from_ascii}
use Rattle.std.specs.List.{position_or_len, prefix_len, onto_first, list_all}
use Rattle.std.proofs.lemmas.Bool.{cond-true, cond-false, eqb-true, ltb-true, lt-ltb, false≢true}
use Rattle.std.proofs.lemmas.List.{append-nil}
use Rattle.std.proofs.lemmas.List.Sums.{fails_before_first, passes_at_first}
use Rattle.rdb_script.specs.Lines.{lines, without_return, is_blank, after_blanks, word, behind, is_end, is_comment, begins_name, goes_on_with_name, is_name, name_in}
use Rattle.rdb_literals.proofs.SpellingLemmas.{none_passes}

-- a byte at the line's end, where a line feed follows
ends_line : (byte : ℕ) (more : List (List ℕ)) (feed return : Bool) → feed ≡ false → cond feed ([] ∷ more) (cond (return && true) ([] ∷ more) (onto_first byte ([] ∷ more))) ≡ cond return [] (byte ∷ []) ∷ more
ends_line byte more true return e = absurd (false≢true (sym e))
ends_line byte more false true e = refl
ends_line byte more false false e = refl

-- a byte of a line that goes on
in_line : (p q rest : List (List ℕ)) (feed return next : Bool) → feed ≡ false → next ≡ false → cond feed p (cond (return && next) q rest) ≡ rest
in_line p q rest true return next e h = absurd (false≢true (sym e))
in_line p q rest false return true e h = absurd (false≢true (sym h))
in_line p q rest false true false e h = refl
in_line p q rest false false false e h = refl

-- up to the first line feed there is a line
pub line_front : (text : List ℕ) (n : ℕ) → n < length text → ((k : ℕ) → k < n → eqb (get_or text k 0) 10 ≡ false) → eqb (get_or text n 0) 10 ≡ true → lines text ≡ without_return (take n text) ∷ lines (drop (suc n) text)
unfolding lines without_return
line_front [] n lt none feed = absurd (omega arith)
line_front (byte ∷ rest) zero lt none feed = cond-true (eqb byte 10) ([] ∷ lines rest) (cond (eqb byte 13 && eqb (get_or rest 0 0) 10) (lines rest) (onto_first byte (lines rest))) feed
line_front (byte ∷ []) (suc n) lt none feed = absurd (omega arith)
line_front (byte ∷ next ∷ rest) (suc zero) lt none feed =
    let ends : lines (next ∷ rest) ≡ [] ∷ lines rest = cond-true (eqb next 10) ([] ∷ lines rest) (cond (eqb next 13 && eqb (get_or rest 0 0) 10) (lines rest) (onto_first next (lines rest))) feed in
    (λ i. cond (eqb byte 10) ([] ∷ lines (next ∷ rest)) (cond (eqb byte 13 && feed i) (ends i) (onto_first byte (ends i))))
    ∙ ap (λ (l : List (List ℕ)). cond (eqb byte 10) ([] ∷ l) (cond (eqb byte 13 && true) ([] ∷ lines rest) (onto_first byte ([] ∷ lines rest)))) ends
    ∙ cond-false (eqb byte 10) ([] ∷ ([] ∷ lines rest)) (cond (eqb byte 13 && true) ([] ∷ lines rest) (onto_first byte ([] ∷ lines rest))) (none 0 (omega arith))
    ∙ sym (cond-false (eqb byte 10) ([] ∷ lines rest) (cond (eqb byte 13 && true) ([] ∷ lines rest) (onto_first byte ([] ∷ lines rest))) (none 0 (omega arith)))
    ∙ ends_line byte (lines rest) (eqb byte 10) (eqb byte 13) (none 0 (omega arith))
line_front (byte ∷ next ∷ rest) (suc (suc n)) lt none feed =
    in_line ([] ∷ lines (next ∷ rest)) (lines (next ∷ rest)) (onto_first byte (lines (next ∷ rest))) (eqb byte 10) (eqb byte 13) (eqb next 10) (none 0 (omega arith)) (none 1 (omega arith))
    ∙ ap (onto_first byte) (line_front (next ∷ rest) (suc n) (omega arith) (λ k l. none (suc k) (omega arith)) feed)

-- a text without a line feed is one line
pub one_line : (text : List ℕ) → 0 < length text → ((k : ℕ) → k < length text → eqb (get_or text k 0) 10 ≡ false) → lines text ≡ text ∷ []
unfolding lines
one_line [] some none = absurd (omega arith)
one_line (byte ∷ []) some none = in_line ([] ∷ []) [] ((byte ∷ []) ∷ []) (eqb byte 10) (eqb byte 13) false (none 0 (omega arith)) refl
one_line (byte ∷ next ∷ rest) some none =
    in_line ([] ∷ lines (next ∷ rest)) (lines (next ∷ rest)) (onto_first byte (lines (next ∷ rest))) (eqb byte 10) (eqb byte 13) (eqb next 10) (none 0 (omega arith)) (none 1 (omega arith))
    ∙ ap (onto_first byte) (one_line (next ∷ rest) (omega arith) (λ k l. none (suc k) (omega arith)))

-- what the place of the first line feed says
pub first_line : (text : List ℕ) (place : ℕ) → Some place ≡ position (λ b. eqb b 10) text → lines text ≡ without_return (take place text) ∷ lines (drop (place + 1) text)
first_line text place e = by_test (ltb (position_or_len (λ b. eqb b 10) text) (length text)) refl
  where
    by_test : (b : Bool) → ltb (position_or_len (λ b. eqb b 10) text) (length text) ≡ b → lines text ≡ without_return (take place text) ∷ lines (drop (place + 1) text)
    by_test false t = absurd (let none : Some place ≡ None = e ∙ ap (λ b. cond b (Some (position_or_len (λ b. eqb b 10) text)) None) t in cc)
    by_test true t =
        let there : Some place ≡ Some (position_or_len (λ b. eqb b 10) text) = e ∙ ap (λ b. cond b (Some (position_or_len (λ b. eqb b 10) text)) None) t in
        let same : place ≡ position_or_len (λ b. eqb b 10) text = cc in
        let lt : position_or_len (λ b. eqb b 10) text < length text = ltb-true (position_or_len (λ b. eqb b 10) text) (length text) t in
        subst (λ (n : ℕ). lines text ≡ without_return (take place text) ∷ lines (drop n text)) (sym (add-one place))
        (subst (λ (n : ℕ). lines text ≡ without_return (take n text) ∷ lines (drop (suc n) text)) (sym same)
        (line_front text (position_or_len (λ b. eqb b 10) text) lt (λ k l. fails_before_first (λ b. eqb b 10) text k 0 l) (passes_at_first (λ b. eqb b 10) text 0 lt)))

pub only_line : (text : List ℕ) → 0 < length text → None ≡ position (λ b. eqb b 10) text → lines text ≡ text ∷ lines []
unfolding lines
only_line text some e =
    let all : length text ≡ position_or_len (λ b. eqb b 10) text = none_passes (λ b. eqb b 10) text e in
    one_line text some (λ k l. fails_before_first (λ b. eqb b 10) text k 0 (omega arith))

-- the end of a line
pub returned : (front : List ℕ) → without_return (front ++ 13 ∷ []) ≡ front
unfolding without_return
returned [] = refl
returned (byte ∷ []) = refl
returned (byte ∷ next ∷ front) = ap (λ (l : List ℕ). byte ∷ l) (returned (next ∷ front))

pub not_returned : (line : List ℕ) → ((front : List ℕ) → line ≡ front ++ 13 ∷ [] → ⊥) → line ≡ without_return line
unfolding without_return
not_returned [] none = refl
not_returned (byte ∷ []) none = by_test (eqb byte 13) refl
  where
    by_test : (b : Bool) → eqb byte 13 ≡ b → byte ∷ [] ≡ cond b [] (byte ∷ [])
    by_test true e = absurd (none [] (ap (λ (b : ℕ). b ∷ []) (is byte e)))
      where
        is : (b : ℕ) → eqb b 13 ≡ true → b ≡ 13
        is b h = omega (arith, eqb-true b 13 h)
    by_test false e = refl
not_returned (byte ∷ next ∷ line) none = ap (λ (l : List ℕ). byte ∷ l) (not_returned (next ∷ line) (λ front e. none (byte ∷ front) (ap (λ (l : List ℕ). byte ∷ l) e)))

pub no_lines : (text : List ℕ) → eqb (length text) 0 ≡ true → lines text ≡ []
unfolding lines
no_lines [] e = refl
no_lines (byte ∷ rest) e = absurd (let z = eqb-true (suc (length rest)) 0 e in omega arith)

pub some_bytes : (text : List ℕ) → eqb (length text) 0 ≡ false → 0 < length text
some_bytes [] e = absurd (false≢true (sym e))
some_bytes (byte ∷ rest) e = omega arith

goes_on_below : (byte : ℕ) → goes_on_with_name byte ≡ true → byte < 128
goes_on_below byte h = grind (arith, nat_tests)

both : (a b : Bool) → (a && b) ≡ true → (a ≡ true) × (b ≡ true)
both true true e = (refl, refl)
both true false e = absurd (false≢true e)
both false b e = absurd (false≢true e)

names_are_ascii : (w : List ℕ) → list_all goes_on_with_name w ≡ true → (i : ℕ) → get_or w i 0 < 128
names_are_ascii [] h i = omega arith
names_are_ascii (byte ∷ w) h zero = goes_on_below byte (both (goes_on_with_name byte) (list_all goes_on_with_name w) h).0
names_are_ascii (byte ∷ w) h (suc i) = names_are_ascii w (both (goes_on_with_name byte) (list_all goes_on_with_name w) h).1 i

-- a name is text
pub names_are_text : (w : List ℕ) → is_name w ≡ true → IsUtf8 w
unfolding is_name
names_are_text w h =
    let long = both (leb (length w) 32) (begins_name (get_or w 0 0) && list_all goes_on_with_name w) h in
    let all = both (begins_name (get_or w 0 0)) (list_all goes_on_with_name w) long.1 in
    IsUtf8-from_ascii w (names_are_ascii w all.1)

-- a name as a text
pub named_text : (w : List ℕ) (r : Option (Bor (List ℕ))) → is_name w ≡ true → IfSome r (λ t. t.now ≡ w) → IfNone r (¬ IsUtf8 w) → option_copied r ≡ name_in w
named_text w None h some none = absurd (none (names_are_text w h))
named_text w (Some t) h some none = ap Some some ∙ sym (cond-true (is_name w) (Some w) None h)
