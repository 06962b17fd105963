-- Numbers of lines through units.
use Rattle.std.proofs.Common.{◌≡◌, ℕ, zero, suc, ◌+◌, List, [], ◌∷◌, ◌++◌, length, take, slice_get, Some, refl, ap, ◌∙◌, length-append, arith}
use Rattle.rdb_script.specs.declared.unit.ScriptLine.{ScriptLine}
use Rattle.rdb_script.specs.declared.unit.Unit.{Unit as ScriptUnit}
use Rattle.rdb_bindings.specs.Filling.{lines_in, lines_of, number_of}

none_taken : {X : Type 0} (xs : List X) → take 0 xs ≡ []
none_taken [] = refl
none_taken (x ∷ xs) = refl

pub first_number : (us : List ScriptUnit) → number_of us 0 0 ≡ 0
first_number us = ap (λ taken. length (lines_of taken) + 0) (none_taken us)

unit_behind : (us : List ScriptUnit) (place : ℕ) (u : ScriptUnit) → slice_get us place ≡ Some u → number_of us (suc place) 0 ≡ number_of us place 0 + length (lines_in u)
unit_behind [] place u e = absurd (cc)
unit_behind (v ∷ us) zero u e =
    let same : v ≡ u = cc in
    let none = ap (λ taken. length (lines_of taken)) (none_taken us) in
    let count = length-append (lines_in v) (lines_of (take 0 us)) in
    let alike = ap (λ (w : ScriptUnit). length (lines_in w)) same in
    omega (arith, none, count, alike)
unit_behind (v ∷ us) (suc place) u e =
    let rest = unit_behind us place u e in
    let now = length-append (lines_in v) (lines_of (take (suc place) us)) in
    let before = length-append (lines_in v) (lines_of (take place us)) in
    omega (arith, rest, now, before)

pub next_number : (us : List ScriptUnit) (place : ℕ) (u : ScriptUnit) → slice_get us place ≡ Some u → number_of us (place + 1) 0 ≡ number_of us place 0 + length (lines_in u)
next_number us place u e = let next : place + 1 ≡ suc place = omega arith in ap (λ n. number_of us n 0) next ∙ unit_behind us place u e

got_first : {X : Type 0} (xs ys : List X) (n : ℕ) (x : X) → slice_get xs n ≡ Some x → slice_get (xs ++ ys) n ≡ Some x
got_first [] ys n x e = absurd (cc)
got_first (z ∷ xs) ys zero x e = e
got_first (z ∷ xs) ys (suc n) x e = got_first xs ys n x e

got_behind : {X : Type 0} (xs ys : List X) (n : ℕ) → slice_get (xs ++ ys) (length xs + n) ≡ slice_get ys n
got_behind [] ys n = let none : 0 + n ≡ n = omega arith in ap (slice_get ys) none
got_behind (x ∷ xs) ys n =
    let next : suc (length xs) + n ≡ suc (length xs + n) = omega arith in
    ap (slice_get (x ∷ (xs ++ ys))) next ∙ got_behind xs ys n

pub line_of_number : (us : List ScriptUnit) (place at : ℕ) (u : ScriptUnit) (line : ScriptLine) → slice_get us place ≡ Some u → slice_get (lines_in u) at ≡ Some line → slice_get (lines_of us) (number_of us place at) ≡ Some line
line_of_number [] place at u line e there = absurd (cc)
line_of_number (v ∷ us) zero at u line e there =
    let same : v ≡ u = cc in
    let none : 0 + at ≡ at = omega arith in
    ap (slice_get (lines_in v ++ lines_of us)) none
    ∙ got_first (lines_in v) (lines_of us) at line (ap (λ (w : ScriptUnit). slice_get (lines_in w) at) same ∙ there)
line_of_number (v ∷ us) (suc place) at u line e there =
    let count = length-append (lines_in v) (lines_of (take place us)) in
    let next : number_of (v ∷ us) (suc place) at ≡ length (lines_in v) + number_of us place at = omega (arith, count) in
    ap (slice_get (lines_in v ++ lines_of us)) next
    ∙ got_behind (lines_in v) (lines_of us) (number_of us place at)
    ∙ line_of_number us place at u line e there
