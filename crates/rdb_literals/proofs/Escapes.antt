-- What the escapes of a quoted text make of one character.
use Rattle.std.proofs.Common.{◌≡◌, ℕ, ◌≤◌, ◌<◌, ◌≢◌, List, [], ◌∷◌, ◌++◌, Bool, true, false, cond, ltb, flat_map, encode_utf8, refl, ap, ◌∙◌, append-nil, arith, inl, inr, ⊎_elim}
use Rattle.std.proofs.lemmas.Bool.{cases_lt}
use Rattle.std.proofs.lemmas.Bool.Decides.{nat_tests}
use Rattle.std.proofs.lemmas.Str.{encode_ascii, encodes-append}
use Rattle.std.proofs.lemmas.Grind.{flat_map-append}
use Rattle.std.specs.Prelude.{encode_utf8_all}
use Rattle.std.specs.Char.{IsAsciiControl, IsNotAsciiControl}
use lib.Utf8.{encode}
use Rattle.rdb_literals.specs.Printed.{escaped, hex_pair}

-- a quote stands behind a backslash
pub escaped_quote : (c : ℕ) → c ≡ 34 → flat_map escaped (encode_utf8 c) ≡ 92 ∷ 34 ∷ []
unfolding encode
escaped_quote c e = rw e refl

-- a backslash stands behind a backslash
pub escaped_backslash : (c : ℕ) → c ≡ 92 → flat_map escaped (encode_utf8 c) ≡ 92 ∷ 92 ∷ []
unfolding encode
escaped_backslash c e = rw e refl

-- a control byte stands in hexadecimal digits
pub escaped_control : (c : ℕ) → IsAsciiControl c → flat_map escaped (encode_utf8 c) ≡ 92 ∷ 120 ∷ hex_pair c
unfolding encode
escaped_control c (inl low) = let ascii : c < 128 = omega arith in rw encode_ascii (grind (arith, nat_tests))
escaped_control c (inr delete) = let e : c ≡ 127 = omega arith in rw e refl

-- each byte is above the ASCII ones
abbrev AllHigh : List ℕ → Type 0
AllHigh [] = Unit {0}
AllHigh (b ∷ bs) = (128 ≤ b) × AllHigh bs

high_byte : (b : ℕ) → 128 ≤ b → escaped b ≡ b ∷ []
high_byte b high = grind (arith, nat_tests)

high_bytes : (bs : List ℕ) → AllHigh bs → flat_map escaped bs ≡ bs
high_bytes [] high = refl
high_bytes (b ∷ bs) high = rw (high_byte b high.0, high_bytes bs high.1) refl

high_cond : (t u : Bool) (two three four : List ℕ) → AllHigh two → AllHigh three → AllHigh four → AllHigh (cond t two (cond u three four))
high_cond true u two three four h2 h3 h4 = h2
high_cond false true two three four h2 h3 h4 = h3
high_cond false false two three four h2 h3 h4 = h4

high_encode : (c : ℕ) → 128 ≤ c → AllHigh (encode c)
unfolding encode
high_encode c high =
    let no : ltb c 128 ≡ false = grind (arith, nat_tests) in
    rw no (high_cond (ltb c 2048) (ltb c 65536) _ _ _ (omega arith, (omega arith, tt)) (omega arith, (omega arith, (omega arith, tt)))
    (omega arith, (omega arith, (omega arith, (omega arith, tt)))))

plain_byte : (c : ℕ) → c ≢ 34 → c ≢ 92 → IsNotAsciiControl c → escaped c ≡ c ∷ []
plain_byte c quote backslash control =
    let low : 32 ≤ c = omega arith in
    let delete : c ≢ 127 = omega arith in
    grind (arith, nat_tests)

-- any other character stands as it is
pub escaped_plain : (c : ℕ) → c ≢ 34 → c ≢ 92 → IsNotAsciiControl c → flat_map escaped (encode_utf8 c) ≡ encode_utf8 c
escaped_plain c quote backslash control =
    ⊎_elim (λ ascii. rw (encode_ascii c ascii, plain_byte c quote backslash control) refl)
    (λ high. high_bytes (encode_utf8 c) (high_encode c high)) (cases_lt c 128)

-- one more character of a quoted text
pub escaped_more : (cs : List ℕ) (c : ℕ) → flat_map escaped (encode_utf8_all (cs ++ c ∷ [])) ≡ flat_map escaped (encode_utf8_all cs) ++ flat_map escaped (encode_utf8 c)
escaped_more cs c =
    ap (flat_map escaped) (encodes-append cs (c ∷ []) ∙ ap (λ t. encode_utf8_all cs ++ t) (append-nil (encode_utf8 c))) ∙ flat_map-append escaped (encode_utf8_all cs) (encode_utf8 c)
