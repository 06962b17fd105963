-- How rectangles are read from the front of a text.
use Rattle.std.proofs.Common.{◌≡◌, ℕ, ℤ, List, [], ◌∷◌, ◌++◌, Bool, true, false, ◌&&◌, refl, sym, ap, ◌∙◌, subst, inl, inr, append_assoc}
use Rattle.std.specs.Prelude.{int_le}
use Rattle.std.proofs.lemmas.Bool.{false≢true}
use Rattle.rdb_literals.specs.Spelling.{BeginsNoDigit}
use Rattle.rdb_literals.specs.SpelledValues.{AreBlanks, BeginsNoBlank, IsNumberText, IsListText}
use Rattle.rdb_literals.specs.FirstSigns.{number_begins}
use Rattle.rdb_literals.proofs.BlankLemmas.{value_no_blank}
use Rattle.rdb_literals.proofs.ListLemmas.{Step, step_of, end_no_digit, EndAt, filled_text}

-- four numbers in square brackets, part by part
pub record Four (text rest : List ℕ) (x1 y1 x2 y2 : ℤ) : Type 0 where
  pub blanks : List ℕ
  pub first : List ℕ
  pub after_1 : List ℕ
  pub after_2 : List ℕ
  pub after_3 : List ℕ
  pub after_4 : List ℕ
  pub closing : List ℕ
  pub are : AreBlanks blanks
  pub is : IsNumberText first x1
  pub digits : BeginsNoDigit after_1
  pub begins : BeginsNoBlank (first ++ after_1)
  pub e : text ≡ 91 ∷ (blanks ++ (first ++ after_1))
  pub second : Step IsNumberText 93 after_1 after_2 y1
  pub third : Step IsNumberText 93 after_2 after_3 x2
  pub fourth : Step IsNumberText 93 after_3 after_4 y2
  pub closing_are : AreBlanks closing
  pub end : after_4 ≡ closing ++ 93 ∷ rest

pub four_of : (text spelled rest : List ℕ) (x1 y1 x2 y2 : ℤ) → IsListText IsNumberText 91 93 spelled (x1 ∷ y1 ∷ x2 ∷ y2 ∷ []) → text ≡ spelled ++ rest → Four text rest x1 y1 x2 y2
four_of text spelled rest x1 y1 x2 y2 is e = record {
  blanks = is.0;
  first = is.1;
  after_1 = is.2 ++ rest;
  after_2 = is.5.3 ++ rest;
  after_3 = is.5.7.3 ++ rest;
  after_4 = is.5.7.7.3 ++ rest;
  closing = is.5.7.7.7.0;
  are = is.3;
  is = is.4;
  digits = end_no_digit IsNumberText 93 (y1 ∷ x2 ∷ y2 ∷ []) is.2 rest (inr (inl refl)) is.5;
  begins = value_no_blank is.1 (is.2 ++ rest) (number_begins is.1 x1 is.4);
  e = e ∙ ap (λ (t : List ℕ). t ++ rest) is.6 ∙ ap (λ (t : List ℕ). 91 ∷ t) (append_assoc is.0 (is.1 ++ is.2) rest ∙ ap (λ (t : List ℕ). is.0 ++ t) (append_assoc is.1 is.2 rest));
  second = step_of IsNumberText 93 y1 (x2 ∷ y2 ∷ []) (is.2 ++ rest) is.2 rest (inr (inl refl)) is.5 refl;
  third = step_of IsNumberText 93 x2 (y2 ∷ []) (is.5.3 ++ rest) is.5.3 rest (inr (inl refl)) is.5.7 refl;
  fourth = step_of IsNumberText 93 y2 [] (is.5.7.3 ++ rest) is.5.7.3 rest (inr (inl refl)) is.5.7.7 refl;
  closing_are = is.5.7.7.7.1;
  end = ap (λ (t : List ℕ). t ++ rest) is.5.7.7.7.2 ∙ append_assoc is.5.7.7.7.0 (93 ∷ []) rest;
}

-- the same numbers make the same list
pub same_list : (spelled : List ℕ) (a b c d x1 y1 x2 y2 : ℤ) → IsListText IsNumberText 91 93 spelled (a ∷ b ∷ c ∷ d ∷ []) → x1 ≡ a → y1 ≡ b → x2 ≡ c → y2 ≡ d → IsListText IsNumberText 91 93 spelled (x1 ∷ y1 ∷ x2 ∷ y2 ∷ [])
same_list spelled a b c d x1 y1 x2 y2 is ea eb ec ed =
    let ra = sym ea in
    let rb = sym eb in
    let rc = sym ec in
    let rd = sym ed in
    let same : a ∷ b ∷ c ∷ d ∷ [] ≡ x1 ∷ y1 ∷ x2 ∷ y2 ∷ [] = λ i. ra i ∷ rb i ∷ rc i ∷ rd i ∷ [] in
    subst (IsListText IsNumberText 91 93 spelled) same is

-- equal edges are in the same order
pub order_differs : (a b c d x1 y1 x2 y2 : ℤ) (r : Bool) → r ≡ (int_le a c && int_le b d) → r ≡ false → a ≡ x1 → b ≡ y1 → c ≡ x2 → d ≡ y2 → (int_le x1 x2 && int_le y1 y2) ≡ true → ⊥
order_differs a b c d x1 y1 x2 y2 r is off ea eb ec ed ordered =
    let same : (int_le a c && int_le b d) ≡ (int_le x1 x2 && int_le y1 y2) = λ i. int_le (ea i) (ec i) && int_le (eb i) (ed i) in
    false≢true (sym off ∙ is ∙ same ∙ ordered)

-- numbers behind the opening bracket make a list
pub list_of : (text inner later rest blanks first : List ℕ) (x : ℤ) (xs : List ℤ) → AreBlanks blanks → text ≡ 91 ∷ (blanks ++ inner) → IsNumberText first x → inner ≡ first ++ later → EndAt IsNumberText 93 xs later rest
    → (whole : List ℕ) × IsListText IsNumberText 91 93 whole (x ∷ xs) × (text ≡ whole ++ rest)
list_of text inner later rest blanks first x xs are e is i end =
    filled_text IsNumberText 93 91 text inner rest blanks first end.0 x xs (x ∷ xs) are e is end.1 refl (i ∙ ap (λ (t : List ℕ). first ++ t) end.2)
