-- Searching the end of a comment, byte by byte.
use Rattle.std.proofs.Common.{◌≡◌, ℕ, zero, suc, ◌+◌, ◌<◌, ◌≤◌, Bool, true, false, cond, ltb, get_or, eqb, ◌&&◌, List, [], ◌∷◌, length, drop, take, ◌-◌, ◌*◌, Option, Some, None, Result, Ok, Err, refl, sym, ap, ◌∙◌, arith, length-drop, take-append-drop}
use Rattle.std.specs.Option.{option_map}
use Rattle.std.proofs.lemmas.Bool.{lt-ltb}
use Rattle.std.proofs.lemmas.Str.{utf8_valid_len-IsUtf8, utf8_valid_len_le}
use Rattle.std.specs.Prelude.{fold}
use Rattle.std.proofs.lemmas.List.{drop-drop}
use Rattle.std.proofs.lemmas.List.Sums.{fold-append, fold_more}
use Rattle.rdb_ddl.specs.declared.token.Fault.{Fault}
use Rattle.rdb_ddl.specs.Token.{before_close, number_of, trivia_len, after_passing, after_trivia, decimal}

pub ruleset valid_len = (utf8_valid_len-IsUtf8, utf8_valid_len_le)

-- no end stands in less than two bytes
before_close-short : (text : List ℕ) → length text ≤ 1 → before_close text ≡ None
before_close-short [] le = refl
before_close-short (a ∷ []) le = grind arith
before_close-short (a ∷ b ∷ rest) le = absurd (omega arith)

pub is_none : (text : List ℕ) (at : ℕ) → length text ≤ at + 1
    → option_map (λ n. at + n) (before_close (drop at text)) ≡ before_close text → None ≡ before_close text
is_none text at le h =
    let short : before_close (drop at text) ≡ None = before_close-short (drop at text) (simp length-drop (omega arith)) in
    (rw short at h)

after_passing-drop : (more : ℕ) (text : List ℕ) → more ≤ length text → after_passing more text ≡ after_passing 0 (drop more text)
unfolding after_passing
after_passing-drop zero text le = refl
after_passing-drop (suc more) [] le = absurd (omega arith)
after_passing-drop (suc more) (byte ∷ rest) le = after_passing-drop more rest (omega arith)

pub after_trivia-found : (text : List ℕ) (len : ℕ) → trivia_len text ≡ Ok len → 0 < len → len ≤ length text → after_trivia text ≡ after_trivia (drop len text)
unfolding after_passing
after_trivia-found [] len e positive le = absurd (omega arith)
after_trivia-found (byte ∷ rest) zero e positive le = absurd (omega arith)
after_trivia-found (byte ∷ rest) (suc more) e positive le = rw e (after_passing-drop more rest (omega arith))

pub after_trivia-none : (text : List ℕ) → trivia_len text ≡ Ok 0 → after_trivia text ≡ Ok text
unfolding after_passing
after_trivia-none [] e = refl
after_trivia-none (byte ∷ rest) e = rw e refl

pub after_trivia-fault : (text : List ℕ) (fault : Fault) → trivia_len text ≡ Err fault → after_trivia text ≡ Err fault
unfolding after_passing trivia_len
after_trivia-fault [] fault e = absurd cc
after_trivia-fault (byte ∷ rest) fault e = rw e refl

-- more digits write no smaller number
decimal-grows : (value : ℕ) (digits : List ℕ) → value ≤ fold (λ value digit. 10 * value + (digit - 48)) value digits
decimal-grows value [] = omega arith
decimal-grows value (digit ∷ digits) = let rest : 10 * value + (digit - 48) ≤ fold (λ value digit. 10 * value + (digit - 48)) (10 * value + (digit - 48)) digits = decimal-grows (10 * value + (digit - 48)) digits in omega arith

pub decimal-front : (digits : List ℕ) (len : ℕ) → decimal (take len digits) ≤ decimal digits
decimal-front digits len =
    let grows = decimal-grows (decimal (take len digits)) (drop len digits) in
    let whole : decimal digits ≡ fold (λ value digit. 10 * value + (digit - 48)) (decimal (take len digits)) (drop len digits) = ap decimal (sym (take-append-drop len digits)) ∙ fold-append (λ value digit. 10 * value + (digit - 48)) 0 (take len digits) (drop len digits) in
    omega arith

-- a front of the digits that passes the limit decides
pub number_of-past : (digits : List ℕ) (len : ℕ) → 4294967295 < decimal (take len digits) → None ≡ number_of digits
number_of-past digits len past = let whole = decimal-front digits len in let over : ltb 4294967295 (decimal digits) ≡ true = lt-ltb _ _ (omega arith) in rw over refl

pub decimal-next : (digits : List ℕ) (at : ℕ) → at < length digits → decimal (take (at + 1) digits) ≡ 10 * decimal (take at digits) + (get_or digits at 0 - 48)
decimal-next digits at lt = fold_more (λ value digit. 10 * value + (digit - 48)) 0 digits at 0 lt

pub ruleset after_trivia_steps = (after_trivia-found, after_trivia-none, after_trivia-fault, drop-drop, length-drop)

-- one step over a blank, a line end or a comment
pub after_trivia-step : (text rest : List ℕ) (at len : ℕ) (whole : Result (List ℕ) Fault) → rest ≡ drop at text → Ok len ≡ trivia_len rest → 0 < len → len ≤ length rest → at ≤ length text
    → after_trivia (drop at text) ≡ whole → (after_trivia (drop (at + len) text) ≡ whole) × (at + len ≤ length text)
after_trivia-step text rest at len whole is found positive within le h =
    let same : after_trivia rest ≡ after_trivia (drop len rest) = after_trivia-found rest len (sym found) positive within in
    let further : drop len rest ≡ drop (at + len) text = rw is (drop-drop len at text) in
    let left : length rest ≡ length text - at = ap length is ∙ length-drop at text in
    (ap after_trivia (sym further) ∙ sym same ∙ ap after_trivia is ∙ h, omega arith)
