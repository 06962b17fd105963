-- The words of items differ in their first and last bytes.
use Rattle.std.proofs.Common.{◌≡◌, ◌≢◌, ℕ, ◌+◌, ◌-◌, ◌<◌, ◌≤◌, ◌^◌, List, [], ◌∷◌, ◌++◌, length, take, get_or, Option, Some, refl, sym, ap, ◌∙◌, subst, arith, decimal, length-append}
use Rattle.std.specs.Prelude.{codes}
use Rattle.std.proofs.lemmas.Fmt.{decimal_is_IsNumeral, decimal_nonempty}
use Rattle.std.proofs.lemmas.List.{get_or_append_left}
use Rattle.std.proofs.Math.Seq.{get_or-append_seam, take-append_seam}
use Rattle.std.proofs.lemmas.Str.Parse.{digit_at}
use Rattle.rdb_script.specs.declared.item.Item.{Item}
use Rattle.rdb_script.specs.declared.item.Item.TheVariants as item
use Rattle.rdb_script.specs.Schedule.{word_of, IsOf}

abbrev pub first : List ℕ → ℕ
first word = get_or word 0 0

abbrev pub last : List ℕ → ℕ
last word = get_or word (length word - 1) 0

-- a byte is a digit
abbrev IsDigit : ℕ → Type 0
IsDigit byte = (48 ≤ byte) × (byte ≤ 57)

digit_in : (n i : ℕ) → n < 2 ^ 64 → i < length (decimal n) → IsDigit (get_or (decimal n) i 0)
digit_in n i small lt = let d = digit_at (decimal n) i (decimal_is_IsNumeral n small).0.1 lt in (omega arith, omega arith)

first_digit : (n : ℕ) → n < 2 ^ 64 → IsDigit (first (decimal n))
first_digit n small = digit_in n 0 small (decimal_nonempty n small)

last_digit : (n : ℕ) → n < 2 ^ 64 → IsDigit (last (decimal n))
last_digit n small = let some = decimal_nonempty n small in digit_in n (length (decimal n) - 1) small (omega arith)

first_starred : (n : ℕ) → n < 2 ^ 64 → IsDigit (first (decimal n ++ codes "*"))
first_starred n small = subst IsDigit (sym (get_or_append_left (decimal n) (codes "*") 0 0 (decimal_nonempty n small))) (first_digit n small)

last_starred : (n : ℕ) → last (decimal n ++ codes "*") ≡ 42
last_starred n =
    let len : length (decimal n ++ codes "*") ≡ length (decimal n) + 1 = length-append (decimal n) (codes "*") in
    let place : length (decimal n ++ codes "*") - 1 ≡ length (decimal n) = omega arith in
    ap (λ (i : ℕ). get_or (decimal n ++ codes "*") i 0) place ∙ get_or-append_seam (decimal n) 42 [] 0

-- the first and the last byte of an item's word
abbrev pub Kind : Item → ℕ → ℕ → Type 0
Kind (item.Step client) f l = IsDigit f × IsDigit l
Kind (item.Unit client) f l = IsDigit f × (l ≡ 42)
Kind item.Sniff f l = (f ≡ 115) × (l ≡ 115)
Kind item.SniffUnit f l = (f ≡ 115) × (l ≡ 42)
Kind (item.Dead client) f l = f ≡ 33

kind_of : (clients : ℕ) → clients < 2 ^ 64 → (i : Item) → IsOf clients i → Kind i (first (word_of i)) (last (word_of i))
kind_of clients small (item.Step client) is = (first_digit client (omega arith), last_digit client (omega arith))
kind_of clients small (item.Unit client) is = (first_starred client (omega arith), last_starred client)
kind_of clients small item.Sniff is = (refl, refl)
kind_of clients small item.SniffUnit is = (refl, refl)
kind_of clients small (item.Dead client) is = refl

kind : (clients : ℕ) (word : List ℕ) (i : Item) → clients < 2 ^ 64 → IsOf clients i → word ≡ word_of i → Kind i (first word) (last word)
kind clients word i small is e = subst (λ (w : List ℕ). Kind i (first w) (last w)) (sym e) (kind_of clients small i is)

pub sniff : (clients : ℕ) (word : List ℕ) → clients < 2 ^ 64 → word ≡ codes "s" → (i : Item) → IsOf clients i → word ≡ word_of i → Some item.Sniff ≡ Some i
sniff clients word small w (item.Step client) is e = absurd (let k = kind clients word (item.Step client) small is e in let f = ap first w in omega arith)
sniff clients word small w (item.Unit client) is e = absurd (let k = kind clients word (item.Unit client) small is e in let f = ap first w in omega arith)
sniff clients word small w item.Sniff is e = refl
sniff clients word small w item.SniffUnit is e = absurd (let k = kind clients word item.SniffUnit small is e in let f = ap last w in omega arith)
sniff clients word small w (item.Dead client) is e = absurd (let k = kind clients word (item.Dead client) small is e in let f = ap first w in omega arith)

pub sniff_unit : (clients : ℕ) (word : List ℕ) → clients < 2 ^ 64 → word ≡ codes "s*" → (i : Item) → IsOf clients i → word ≡ word_of i → Some item.SniffUnit ≡ Some i
sniff_unit clients word small w (item.Step client) is e = absurd (let k = kind clients word (item.Step client) small is e in let f = ap first w in omega arith)
sniff_unit clients word small w (item.Unit client) is e = absurd (let k = kind clients word (item.Unit client) small is e in let f = ap first w in omega arith)
sniff_unit clients word small w item.Sniff is e = absurd (let k = kind clients word item.Sniff small is e in let f = ap last w in omega arith)
sniff_unit clients word small w item.SniffUnit is e = refl
sniff_unit clients word small w (item.Dead client) is e = absurd (let k = kind clients word (item.Dead client) small is e in let f = ap first w in omega arith)

-- what is said of a client's number: it is the one that the word writes
abbrev pub IsClient : ℕ → List ℕ → Option ℕ → Type 0
IsClient clients number r = (client : ℕ) → 0 < client → client ≤ clients → number ≡ decimal client → r ≡ Some client

cons_cancel : (a : ℕ) (xs ys : List ℕ) → a ∷ xs ≡ a ∷ ys → xs ≡ ys
cons_cancel a xs ys e = cc

-- a word behind `!`
pub dead : (clients : ℕ) (word number : List ℕ) (r : Option ℕ) → clients < 2 ^ 64 → word ≡ codes "!" ++ number → IsClient clients number r → (i : Item) → IsOf clients i → word ≡ word_of i
    → (client : ℕ) × (r ≡ Some client) × (i ≡ item.Dead client)
dead clients word number r small w h (item.Step client) is e = absurd (let k = kind clients word (item.Step client) small is e in let f = ap first w in omega arith)
dead clients word number r small w h (item.Unit client) is e = absurd (let k = kind clients word (item.Unit client) small is e in let f = ap first w in omega arith)
dead clients word number r small w h item.Sniff is e = absurd (let k = kind clients word item.Sniff small is e in let f = ap first w in omega arith)
dead clients word number r small w h item.SniffUnit is e = absurd (let k = kind clients word item.SniffUnit small is e in let f = ap first w in omega arith)
dead clients word number r small w h (item.Dead client) is e = (client, h client is.0 is.1 (cons_cancel 33 number (decimal client) (sym w ∙ e)), refl)

last_append : (xs : List ℕ) → last (xs ++ codes "*") ≡ 42
last_append xs =
    let len : length (xs ++ codes "*") ≡ length xs + 1 = length-append xs (codes "*") in
    let place : length (xs ++ codes "*") - 1 ≡ length xs = omega arith in
    ap (λ (i : ℕ). get_or (xs ++ codes "*") i 0) place ∙ get_or-append_seam xs 42 [] 0

append_cancel : (xs ys : List ℕ) → xs ++ codes "*" ≡ ys ++ codes "*" → xs ≡ ys
append_cancel xs ys e =
    let len : length xs ≡ length ys = let n = ap length e in omega (arith, length-append xs (codes "*"), length-append ys (codes "*")) in
    sym (take-append_seam xs (codes "*")) ∙ (λ i. take (len i) (e i)) ∙ take-append_seam ys (codes "*")

-- a word before `*`
pub unit : (clients : ℕ) (word number : List ℕ) (r : Option ℕ) → clients < 2 ^ 64 → word ≢ codes "s*" → ((rest : List ℕ) → word ≡ codes "!" ++ rest → ⊥) → word ≡ number ++ codes "*" → IsClient clients number r
    → (i : Item) → IsOf clients i → word ≡ word_of i → (client : ℕ) × (r ≡ Some client) × (i ≡ item.Unit client)
unit clients word number r small sniff dead w h (item.Step client) is e = absurd (let k = kind clients word (item.Step client) small is e in let f : last word ≡ 42 = ap last w ∙ last_append number in omega arith)
unit clients word number r small sniff dead w h (item.Unit client) is e = (client, h client is.0 is.1 (append_cancel number (decimal client) (sym w ∙ e)), refl)
unit clients word number r small sniff dead w h item.Sniff is e = absurd (let k = kind clients word item.Sniff small is e in let f : last word ≡ 42 = ap last w ∙ last_append number in omega arith)
unit clients word number r small sniff dead w h item.SniffUnit is e = absurd (sniff e)
unit clients word number r small sniff dead w h (item.Dead client) is e = absurd (dead (decimal client) e)
