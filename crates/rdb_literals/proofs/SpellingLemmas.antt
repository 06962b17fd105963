-- How the parts of values are read from the front of a text.
use Rattle.std.proofs.Common.{◌≡◌, ◌≢◌, ℕ, ◌+◌, ◌*◌, ◌<◌, ◌^◌, List, [], ◌∷◌, ◌++◌, length, take, drop, Option, Some, None, IfSome, Bor, Bool, true, false, cond, ltb, not, refl, sym, ap, ◌∙◌, subst, arith, SomeIff, append_assoc}
use Rattle.std.specs.Prelude.{position, codes}
use Rattle.std.specs.List.{position_or_len, prefix_len}
use Rattle.std.specs.Char.{is_ascii_digit, digit_value}
use Rattle.std.specs.Str.{IsUtf8}
use Rattle.std.specs.Str.Parse.{IsNumeral, AllDigits, digits_value}
use Rattle.std.proofs.lemmas.Bool.{ltb-false}
use Rattle.std.proofs.lemmas.Bool.Decides.{nat_tests}
use Rattle.std.proofs.lemmas.Fmt.{IsAscii-from_digits}
use Rattle.std.proofs.lemmas.List.{append-nil}
use Rattle.std.proofs.lemmas.List.Sums.{prefix_len-le-length}
use Rattle.std.proofs.lemmas.Str.{IsUtf8-from_ascii}
use Rattle.std.proofs.lemmas.Str.Parse.{digit_from_value}
use Rattle.std.proofs.Math.Seq.{take-append_seam, drop-append_seam}
use Rattle.rdb_literals.specs.Spelling.{BeginsNoDigit, IsPiece, IsSpelled, IsQuoted}

-- where no place passes, all of it is in front
pub none_passes : {X : Type 0} (p : X → Bool) (xs : List X) → None ≡ position p xs → length xs ≡ position_or_len p xs
none_passes p xs e = by_test (ltb (position_or_len p xs) (length xs)) refl
  where
    by_test : (b : Bool) → ltb (position_or_len p xs) (length xs) ≡ b → length xs ≡ position_or_len p xs
    by_test true t = let none : None ≡ Some (position_or_len p xs) = e ∙ ap (λ b. cond b (Some (position_or_len p xs)) None) t in cc
    by_test false t = let low = ltb-false (position_or_len p xs) (length xs) t in let high = prefix_len-le-length (λ x. not (p x)) xs in omega arith

-- all digits, then none: the digits in front are all of the first
digits_then_none : (ds rest : List ℕ) → AllDigits 10 ds → BeginsNoDigit rest → position_or_len (λ b. not (is_ascii_digit b)) (ds ++ rest) ≡ length ds
digits_then_none [] [] all ends = refl
digits_then_none [] (b ∷ rest) all ends = ap (λ (t : Bool). cond (not (not t)) (1 + prefix_len (λ x. not (not (is_ascii_digit x))) rest) 0) ends
digits_then_none (d ∷ ds) rest all ends =
    let digit : is_ascii_digit d ≡ true = is_digit d all.0 in
    ap (λ (t : Bool). cond (not (not t)) (1 + prefix_len (λ x. not (not (is_ascii_digit x))) (ds ++ rest)) 0) digit ∙ omega (arith, digits_then_none ds rest all.1 ends)
  where
    is_digit : (c : ℕ) → digit_value c < 10 → is_ascii_digit c ≡ true
    is_digit c h = let range = digit_from_value c h in grind (arith, nat_tests)

-- the front of a text that begins with digits and goes on with none
pub split_at_digits : (text digits rest : List ℕ) (count : ℕ) → IsNumeral 10 digits → BeginsNoDigit rest → text ≡ digits ++ rest → count ≡ position_or_len (λ b. not (is_ascii_digit b)) text → (take count text ≡ digits) × (drop count text ≡ rest)
split_at_digits text digits rest count numeral ends e c =
    let here : count ≡ length digits = c ∙ ap (position_or_len (λ b. not (is_ascii_digit b))) e ∙ digits_then_none digits rest numeral.1 ends in
    ((λ i. take (here i) (e i)) ∙ take-append_seam digits rest, (λ i. drop (here i) (e i)) ∙ drop-append_seam digits rest)

pub digits_are_text : (digits : List ℕ) → IsNumeral 10 digits → IsUtf8 digits
digits_are_text digits numeral = IsUtf8-from_ascii digits (IsAscii-from_digits digits numeral.1)

-- what is said of a number that was read
pub read_value : (front digits : List ℕ) (value : ℕ) → SomeIff (Some value) (IsNumeral 10 front × (digits_value 10 front < 2 ^ 64)) (digits_value 10 front) → front ≡ digits → value ≡ digits_value 10 digits
read_value front digits value h e = h.1 ∙ ap (digits_value 10) e

pub no_value : (front digits : List ℕ) → SomeIff {T = ℕ} None (IsNumeral 10 front × (digits_value 10 front < 2 ^ 64)) (digits_value 10 front) → front ≡ digits → IsNumeral 10 digits → digits_value 10 digits < 2 ^ 64 → ⊥
no_value front digits h e numeral small = h (subst (λ (f : List ℕ). IsNumeral 10 f × (digits_value 10 f < 2 ^ 64)) (sym e) (numeral, small))

-- what a reader of a piece says of its answer
abbrev pub Reads : List ℕ → Option (ℕ × Bor (List ℕ)) → Type 0
Reads text r = IfSome r (λ found. (piece : List ℕ) × IsPiece piece found.0 × (text ≡ piece ++ found.1.now))

pub hex_read : (text digits : List ℕ) (r : Option (ℕ × Bor (List ℕ))) → text ≡ codes "\\x" ++ digits
    → IfSome r (λ found. (c : ℕ) × (d : ℕ) × (digit_value c < 16) × (digit_value d < 16) × (found.0 ≡ 16 * digit_value c + digit_value d) × (found.0 < 128) × (digits ≡ c ∷ d ∷ found.1.now)) → Reads text r
hex_read text digits None e h = tt
hex_read text digits (Some found) e h = (92 ∷ 120 ∷ h.0 ∷ h.1 ∷ [], (refl, refl, h.2, h.3, h.4, h.5), e ∙ ap (λ (t : List ℕ). 92 ∷ 120 ∷ t) h.6)

pub plain_read : (text : List ℕ) (r : Option (ℕ × Bor (List ℕ))) → IfSome r (λ found. (text ≡ found.0 ∷ found.1.now) × (found.0 ≢ 34) × (found.0 ≢ 92)) → Reads text r
plain_read text None h = tt
plain_read text (Some found) h = (found.0 ∷ [], (refl, h.1, h.2), h.0)

-- no piece begins with a quote
no_quote : (piece more rest : List ℕ) (byte : ℕ) → IsPiece piece byte → 34 ∷ rest ≡ piece ++ more → ⊥
no_quote [] more rest byte h e = h
no_quote (a ∷ []) more rest byte h e = h.1 (let first : 34 ≡ a = cc in sym first)
no_quote (a ∷ b ∷ []) more rest byte h e = let first : 34 ≡ a = cc in let is = h.0 in omega arith
no_quote (a ∷ b ∷ c ∷ []) more rest byte h e = h
no_quote (a ∷ b ∷ c ∷ d ∷ []) more rest byte h e = let first : 34 ≡ a = cc in let is = h.0 in omega arith
no_quote (a ∷ b ∷ c ∷ d ∷ x ∷ piece) more rest byte h e = h

-- the bytes so far are those that stand before the rest
pub record HasRead (text bytes rest : List ℕ) : Type 0 where
  pub spelled : List ℕ
  pub is : IsSpelled spelled bytes
  pub split : text ≡ spelled ++ rest

-- whatever bytes stand before a quote, they begin with these, and the rest spells the others
pub record GoesOn (bytes rest others after : List ℕ) : Type 0 where
  pub tail : List ℕ
  pub spelled : List ℕ
  pub joined : others ≡ bytes ++ tail
  pub is : IsSpelled spelled tail
  pub left : rest ≡ spelled ++ (34 ∷ after)

pub starts : (text : List ℕ) → HasRead text [] text
starts text = record { spelled = []; is = refl; split = refl }

pub starts_on : (text spelled others after : List ℕ) → IsSpelled spelled others → text ≡ spelled ++ (34 ∷ after) → GoesOn [] text others after
starts_on text spelled others after is e = record { tail = others; spelled = spelled; joined = refl; is = is; left = e }

spelled-snoc : (spelled piece bytes : List ℕ) (byte : ℕ) → IsSpelled spelled bytes → IsPiece piece byte → IsSpelled (spelled ++ piece) (bytes ++ byte ∷ [])
spelled-snoc spelled piece [] byte is h = (piece, [], ap (λ (s : List ℕ). s ++ piece) is ∙ sym (append-nil piece), h, refl)
spelled-snoc spelled piece (b ∷ bytes) byte is h = (is.0, is.1 ++ piece, ap (λ (s : List ℕ). s ++ piece) is.2 ∙ append_assoc is.0 is.1 piece, is.3, spelled-snoc is.1 piece bytes byte is.4 h)

pub one_more : (text bytes rest piece behind : List ℕ) (byte : ℕ) → HasRead text bytes rest → IsPiece piece byte → rest ≡ piece ++ behind → HasRead text (bytes ++ byte ∷ []) behind
one_more text bytes rest piece behind byte h is e = record {
  spelled = h.spelled ++ piece;
  is = spelled-snoc h.spelled piece bytes byte h.is is;
  split = h.split ∙ ap (λ (r : List ℕ). h.spelled ++ r) e ∙ sym (append_assoc h.spelled piece behind);
}

pub goes_on : (bytes rest piece behind others after : List ℕ) (byte : ℕ) → IsPiece piece byte → rest ≡ piece ++ behind → ((other more : List ℕ) (b : ℕ) → IsPiece other b → rest ≡ other ++ more → (byte ≡ b) × (behind ≡ more))
    → GoesOn bytes rest others after → GoesOn (bytes ++ byte ∷ []) behind others after
goes_on bytes rest piece behind others after byte is e exact g = by_tail g.tail g.spelled g.joined g.is g.left
  where
    by_tail : (tail spelled : List ℕ) → others ≡ bytes ++ tail → IsSpelled spelled tail → rest ≡ spelled ++ (34 ∷ after) → GoesOn (bytes ++ byte ∷ []) behind others after
    by_tail [] spelled j s l = absurd (no_quote piece behind after byte is (sym (l ∙ ap (λ (x : List ℕ). x ++ (34 ∷ after)) s) ∙ e))
    by_tail (b ∷ tail) spelled j s l =
        let same = exact s.0 (s.1 ++ (34 ∷ after)) b s.3 (l ∙ ap (λ (x : List ℕ). x ++ (34 ∷ after)) s.2 ∙ append_assoc s.0 s.1 (34 ∷ after)) in
        record {
          tail = tail;
          spelled = s.1;
          joined = j ∙ ap (λ (o : ℕ). bytes ++ o ∷ tail) (sym same.0) ∙ sym (append_assoc bytes (byte ∷ []) tail);
          is = s.4;
          left = same.1;
        }

-- where no piece is left, the bytes are all, and the rest begins with the quote
pub ends_on : (bytes rest others after : List ℕ) → ((other more : List ℕ) (b : ℕ) → IsPiece other b → rest ≡ other ++ more → ⊥) → GoesOn bytes rest others after → (bytes ≡ others) × (rest ≡ 34 ∷ after)
ends_on bytes rest others after none g = by_tail g.tail g.spelled g.joined g.is g.left
  where
    by_tail : (tail spelled : List ℕ) → others ≡ bytes ++ tail → IsSpelled spelled tail → rest ≡ spelled ++ (34 ∷ after) → (bytes ≡ others) × (rest ≡ 34 ∷ after)
    by_tail [] spelled j s l = (sym (j ∙ append-nil bytes), l ∙ ap (λ (x : List ℕ). x ++ (34 ∷ after)) s)
    by_tail (b ∷ tail) spelled j s l = absurd (none s.0 (s.1 ++ (34 ∷ after)) b s.3 (l ∙ ap (λ (x : List ℕ). x ++ (34 ∷ after)) s.2 ∙ append_assoc s.0 s.1 (34 ∷ after)))

pub quoted_read : (text inner behind rest spelled bytes words slice : List ℕ) (read : Option (List ℕ)) → text ≡ 34 ∷ inner → inner ≡ spelled ++ behind → behind ≡ 34 ∷ rest → IsSpelled spelled bytes → slice ≡ bytes
    → IfSome read (λ t. (t ≡ slice) × IsUtf8 slice) → read ≡ Some words → (whole : List ℕ) × IsQuoted whole words × (text ≡ whole ++ rest)
quoted_read text inner behind rest spelled bytes words slice read t i b is sl some r =
    let here : (words ≡ slice) × IsUtf8 slice = subst (λ (o : Option (List ℕ)). IfSome o (λ t. (t ≡ slice) × IsUtf8 slice)) r some in
    let same : words ≡ bytes = here.0 ∙ sl in (
      34 ∷ (spelled ++ 34 ∷ []),
      (spelled, refl, subst (IsSpelled spelled) (sym same) is, subst IsUtf8 (sym here.0) here.1),
      t ∙ ap (λ (x : List ℕ). 34 ∷ x) (i ∙ ap (λ (x : List ℕ). spelled ++ x) b ∙ sym (append_assoc spelled (34 ∷ []) rest)),
    )

-- a quoted text, and what stands behind it, from its first byte on
pub quoted_split : (text whole inner rest : List ℕ) → whole ≡ 34 ∷ (inner ++ 34 ∷ []) → text ≡ whole ++ rest → text ≡ 34 ∷ (inner ++ (34 ∷ rest))
quoted_split text whole inner rest w e = e ∙ ap (λ (s : List ℕ). s ++ rest) w ∙ ap (λ (x : List ℕ). 34 ∷ x) (append_assoc inner (34 ∷ []) rest)

pub read_words : (words slice bytes others : List ℕ) (read : Option (List ℕ)) → IfSome read (λ t. (t ≡ slice) × IsUtf8 slice) → read ≡ Some words → slice ≡ bytes → bytes ≡ others → words ≡ others
read_words words slice bytes others read some r s b =
    let here : (words ≡ slice) × IsUtf8 slice = subst (λ (o : Option (List ℕ)). IfSome o (λ t. (t ≡ slice) × IsUtf8 slice)) r some in here.0 ∙ s ∙ b
