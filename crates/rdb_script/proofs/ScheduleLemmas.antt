-- The words of a schedule, and how far its reader has come.
use Rattle.std.proofs.Common.{◌≡◌, ◌≢◌, ℕ, zero, suc, ◌+◌, ◌<◌, ◌≤◌, Bool, true, false, IsTrue, ◌&&◌, ◌⊎◌, cond, not, ltb, List, [], ◌∷◌, ◌++◌, length, take, drop, map, Some, refl, sym, ap, ◌∙◌, arith, append_assoc, length-append}
use Rattle.std.specs.List.{AllByRecursion, onto_first}
use Rattle.std.proofs.lemmas.Bool.{cond-true, cond-false, lt-ltb, false≢true}
use Rattle.std.proofs.lemmas.List.{map-append, append-nil}
use Rattle.rdb_script.specs.declared.item.Item.{Item}
use Rattle.rdb_script.specs.Schedule.{separates, begins_word, words, word_of, IsOf, IsNoItem, IsSchedule, IsFirstFault}

no_and : (b : Bool) → (b && false) ≡ false
no_and true = refl
no_and false = refl

-- no word begins with a byte that stands between words
pub separated : (text : List ℕ) → separates text ≡ true → begins_word text ≡ false
separated text e = ap (λ (s : Bool). ltb 0 (length text) && not s) e ∙ no_and (ltb 0 (length text))

pub has_bytes : (text : List ℕ) → IsTrue (begins_word text) → 0 < length text
has_bytes [] h = absurd (false≢true h)
has_bytes (byte ∷ rest) h = omega arith

-- no word begins at the end
pub at_end : (text : List ℕ) → begins_word (drop (length text) text) ≡ false
at_end [] = refl
at_end (byte ∷ rest) = at_end rest

-- a word goes on while nothing separates, and ends where no word begins
pub word_front : (text : List ℕ) (n : ℕ) → 0 < n → n ≤ length text → ((k : ℕ) → k < n → separates (drop k text) ≡ false) → begins_word (drop n text) ≡ false → words text ≡ take n text ∷ words (drop n text)
word_front [] n some le none ends = absurd (omega arith)
word_front (byte ∷ rest) zero some le none ends = absurd (omega arith)
word_front (byte ∷ rest) (suc zero) some le none ends =
    cond-false (separates (byte ∷ rest)) (words rest) (cond (begins_word rest) (onto_first byte (words rest)) ((byte ∷ []) ∷ words rest)) (none 0 (omega arith))
    ∙ cond-false (begins_word rest) (onto_first byte (words rest)) ((byte ∷ []) ∷ words rest) ends
word_front (byte ∷ rest) (suc (suc n)) some le none ends =
    let longer : ltb 0 (length rest) ≡ true = lt-ltb 0 (length rest) (omega arith) in
    let more : begins_word rest ≡ true = λ i. longer i && not (none 1 (omega arith) i) in
    cond-false (separates (byte ∷ rest)) (words rest) (cond (begins_word rest) (onto_first byte (words rest)) ((byte ∷ []) ∷ words rest)) (none 0 (omega arith))
    ∙ cond-true (begins_word rest) (onto_first byte (words rest)) ((byte ∷ []) ∷ words rest) more
    ∙ ap (onto_first byte) (word_front rest (suc n) (omega arith) (omega arith) (λ k lt. none (suc k) (omega arith)) ends)

-- the items so far are those of the words that were read, and the rest has the other words
pub record HasRead (clients : ℕ) (text : List ℕ) (items : List Item) (rest : List ℕ) : Type 0 where
  pub spelled : words text ≡ map word_of items ++ words rest
  pub named : AllByRecursion (IsOf clients) items
  pub few : length items ≤ 100000

-- whatever items the text has, they begin with these, and the rest spells the others
pub record GoesOn (clients : ℕ) (items : List Item) (rest : List ℕ) (others : List Item) : Type 0 where
  pub tail : List Item
  pub joined : others ≡ items ++ tail
  pub left : words rest ≡ map word_of tail
  pub named : AllByRecursion (IsOf clients) tail

pub starts : (clients : ℕ) (text : List ℕ) → HasRead clients text [] text
starts clients text = record { spelled = refl; named = tt; few = omega arith }

pub starts_on : (clients : ℕ) (text : List ℕ) (others : List Item) → IsSchedule clients text others → GoesOn clients [] text others
starts_on clients text others h = record { tail = others; joined = refl; left = h.spelled; named = h.named }

all-snoc : (P : Item → Type 0) (items : List Item) (one : Item) → AllByRecursion P items → P one → AllByRecursion P (items ++ one ∷ [])
all-snoc P [] one all h = (h, tt)
all-snoc P (i ∷ items) one all h = (all.0, all-snoc P items one all.1 h)

pub one_more : (clients : ℕ) (text : List ℕ) (items : List Item) (rest word behind : List ℕ) (one : Item) → HasRead clients text items rest → words rest ≡ word ∷ words behind → word ≡ word_of one → IsOf clients one → length items ≢ 100000 → HasRead clients text (items ++ one ∷ []) behind
one_more clients text items rest word behind one h e w is room = record {
  spelled = h.spelled ∙ ap (λ (ws : List (List ℕ)). map word_of items ++ ws) (e ∙ ap (λ (x : List ℕ). x ∷ words behind) w)
      ∙ sym (append_assoc (map word_of items) (word_of one ∷ []) (words behind))
      ∙ ap (λ (ws : List (List ℕ)). ws ++ words behind) (sym (map-append word_of items (one ∷ [])));
  named = all-snoc (IsOf clients) items one h.named is;
  few = let n = length-append items (one ∷ []) in let f = h.few in omega arith;
}

pub goes_on : (clients : ℕ) (items : List Item) (rest word behind : List ℕ) (others : List Item) (one : Item) → words rest ≡ word ∷ words behind → ((i : Item) → IsOf clients i → word ≡ word_of i → Some one ≡ Some i) → GoesOn clients items rest others → GoesOn clients (items ++ one ∷ []) behind others
goes_on clients items rest word behind others one e exact g = by_tail g.tail g.joined g.left g.named
  where
    by_tail : (tail : List Item) → others ≡ items ++ tail → words rest ≡ map word_of tail → AllByRecursion (IsOf clients) tail → GoesOn clients (items ++ one ∷ []) behind others
    by_tail [] j l n = absurd (let f : word ∷ words behind ≡ [] = sym e ∙ l in cc)
    by_tail (i ∷ tail) j l n =
        let both : word ∷ words behind ≡ word_of i ∷ map word_of tail = sym e ∙ l in
        let head : word ≡ word_of i = cc in
        let same : one ≡ i = let s = exact i n.0 head in cc in
        record {
          tail = tail;
          joined = j ∙ ap (λ (o : Item). items ++ o ∷ tail) (sym same) ∙ sym (append_assoc items (one ∷ []) tail);
          left = cc;
          named = n.1;
        }

-- where the next word is no item, the text is no schedule
pub stuck : (clients : ℕ) (items : List Item) (rest word behind : List ℕ) (others : List Item) → words rest ≡ word ∷ words behind → IsNoItem clients word → GoesOn clients items rest others → ⊥
stuck clients items rest word behind others e none g = by_tail g.tail g.left g.named
  where
    by_tail : (tail : List Item) → words rest ≡ map word_of tail → AllByRecursion (IsOf clients) tail → ⊥
    by_tail [] l n = let f : word ∷ words behind ≡ [] = sym e ∙ l in cc
    by_tail (i ∷ tail) l n =
        let both : word ∷ words behind ≡ word_of i ∷ map word_of tail = sym e ∙ l in
        let head : word ≡ word_of i = cc in none i n.0 head

-- where there is a word more than there may be items, the text is no schedule
pub too_many : (clients : ℕ) (items : List Item) (rest word behind : List ℕ) (others : List Item) → words rest ≡ word ∷ words behind → length items ≡ 100000 → length others ≤ 100000 → GoesOn clients items rest others → ⊥
too_many clients items rest word behind others e full few g = by_tail g.tail g.joined g.left
  where
    by_tail : (tail : List Item) → others ≡ items ++ tail → words rest ≡ map word_of tail → ⊥
    by_tail [] j l = let f : word ∷ words behind ≡ [] = sym e ∙ l in cc
    by_tail (i ∷ tail) j l = let n = ap length j ∙ length-append items (i ∷ tail) in omega arith

-- where no word is left, the items are all
pub ends_on : (clients : ℕ) (items : List Item) (rest : List ℕ) (others : List Item) → words rest ≡ [] → GoesOn clients items rest others → items ≡ others
ends_on clients items rest others e g = by_tail g.tail g.joined g.left
  where
    by_tail : (tail : List Item) → others ≡ items ++ tail → words rest ≡ map word_of tail → items ≡ others
    by_tail [] j l = sym (j ∙ append-nil items)
    by_tail (i ∷ tail) j l = absurd (let f : [] ≡ word_of i ∷ map word_of tail = sym e ∙ l in cc)

pub ends : (clients : ℕ) (text : List ℕ) (items : List Item) (rest : List ℕ) → HasRead clients text items rest → words rest ≡ [] → IsSchedule clients text items
ends clients text items rest h e = record {
  spelled = h.spelled ∙ ap (λ (ws : List (List ℕ)). map word_of items ++ ws) e ∙ append-nil (map word_of items);
  named = h.named;
  few = h.few;
}

pub faulty : (clients : ℕ) (text : List ℕ) (items : List Item) (rest word behind : List ℕ) → HasRead clients text items rest → words rest ≡ word ∷ words behind → (length items ≡ 100000) ⊎ IsNoItem clients word → IsFirstFault clients text (length items + 1)
faulty clients text items rest word behind h e why = record {
  before = items;
  word = word;
  after = words behind;
  spelled = h.spelled ∙ ap (λ (ws : List (List ℕ)). map word_of items ++ ws) e;
  named = h.named;
  few = h.few;
  place = refl;
  faulty = why;
}
