-- What one more line adds to what was written.
use Rattle.std.proofs.Common.{◌≡◌, ℕ, suc, drop, ◌+◌, ◌<◌, ◌≤◌, List, [], ◌∷◌, ◌++◌, length, take, get_or, Option, Some, None, refl, sym, ap, ◌∙◌, arith, append_assoc, length-append}
use Rattle.std.specs.Option.{option_map}
use Rattle.std.specs.List.{concat}
use Rattle.std.proofs.lemmas.List.{append-nil, take_more, take-append-drop, take-append-le}
use Rattle.std.proofs.lemmas.List.Folds.{concat-append}
use Rattle.std.proofs.Math.Seq.{take-append-add, drop-cons}

-- bytes appended in two writes
pub appended_on : (first mid last : Option (List ℕ)) (xs ys : List ℕ) → mid ≡ option_map (λ before. before ++ xs) first → last ≡ option_map (λ before. before ++ ys) mid → last ≡ option_map (λ before. before ++ (xs ++ ys)) first
appended_on None mid last xs ys m l = l ∙ ap (option_map (λ before. before ++ ys)) m
appended_on (Some all) mid last xs ys m l = l ∙ ap (option_map (λ before. before ++ ys)) m ∙ ap Some (append_assoc all xs ys)

-- nothing appended
pub appended_none : (first : Option (List ℕ)) → first ≡ option_map (λ before. before ++ []) first
appended_none None = refl
appended_none (Some all) = ap Some (sym (append-nil all))

-- the lines with one more
pub concat_more : (lines : List (List ℕ)) (i : ℕ) (d : List ℕ) → i < length lines → concat (take (i + 1) lines) ≡ concat (take i lines) ++ get_or lines i d
concat_more lines i d h = ap concat (take_more lines i d h) ∙ concat-append (take i lines) (get_or lines i d ∷ []) ∙ ap (λ r. concat (take i lines) ++ r) (append-nil (get_or lines i d))

-- a prefix of a line behind the lines before it is a prefix of all lines
pub prefix_of_all : (lines : List (List ℕ)) (i : ℕ) (d : List ℕ) (taken : ℕ) → i < length lines → taken ≤ length (get_or lines i d) → (length (concat (take i lines)) + taken ≤ length (concat lines)) × (take (length (concat (take i lines)) + taken) (concat lines) ≡ concat (take i lines) ++ take taken (get_or lines i d))
prefix_of_all lines i d taken h t =
    let front = concat (take i lines) in
    let line = get_or lines i d in
    let tail = concat (drop (suc i) lines) in
    let split : concat lines ≡ front ++ (line ++ tail) =
    ap concat (sym (take-append-drop i lines)) ∙ concat-append (take i lines) (drop i lines) ∙ ap (λ (r : List (List ℕ)). front ++ concat r) (drop-cons lines i d h) in
    let all : length (concat lines) ≡ length front + (length line + length tail) = ap length split ∙ length-append front (line ++ tail) ∙ ap (λ n. length front + n) (length-append line tail) in
    (omega arith, ap (take (length front + taken)) split ∙ take-append-add front (line ++ tail) taken ∙ ap (λ (r : List ℕ). front ++ r) (take-append-le taken line tail t))
