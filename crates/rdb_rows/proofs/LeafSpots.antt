-- Leaves where they stand in a row in cells.
use Rattle.std.proofs.Common.{◌≡◌, ◌<◌, ◌≤◌, ◌+◌, ◌++◌, zero, suc, ℕ, List, [], ◌∷◌, length, drop, min, get_or, Bool, true, false, inl, inr, refl, sym, ap, ap₂, subst, ◌∙◌, arith, length-append, nat_cmp}
use Rattle.std.proofs.lemmas.Bool.{false≢true, cases_lt}
use Rattle.std.proofs.lemmas.Bool.Decides.{nat_tests}
use Rattle.std.proofs.lemmas.List.{drop_more}
use Rattle.std.specs.Cmp.Lexicographic.{slice_cmp}
use Rattle.std.specs.Ordering.{ordering_then}
use Rattle.std.specs.declared.cmp.Ordering.{Ordering}
use Rattle.std.specs.declared.cmp.Ordering.TheVariants.{Less, Equal, Greater}
use Rattle.std.specs.Prelude.{ℤ}
use Rattle.rdb_base.specs.declared.value.Leaf.{Leaf}
use Rattle.rdb_base.specs.declared.value.Leaf.TheVariants as leaf
use Rattle.rdb_schema.specs.declared.schema.FieldType.{FieldType}
use Rattle.rdb_schema.specs.declared.schema.FieldType.TheVariants as ty
use Rattle.rdb_schema.specs.Values.{leaf_holds, num_holds}
use Rattle.rdb_schema.specs.Encoding.{leaf_bytes}
use Rattle.rdb_access.specs.Read.{read_leaf, rect_from}
use Rattle.rdb_access.specs.Walk.{number_from}
use Rattle.rdb_access.proofs.Reading.{too_wide}
use Rattle.rdb_cells.specs.Images.{Image}
use Rattle.rdb_rows.specs.declared.spot.Spot.{Spot}
use Rattle.rdb_rows.specs.Spots.{Stand, HasBytes, HasText, BeginsLeaf}
use Rattle.rdb_rows.proofs.SpotLemmas.{has_bytes}
use Rattle.rdb_rows.proofs.WalkLemmas.{number_length, rect_long}

-- two lists of bytes, from a place on
pub compared : (xs ys : List ℕ) (i : ℕ) → i < length xs → i < length ys → slice_cmp nat_cmp (drop i xs) (drop i ys) ≡ ordering_then (nat_cmp (get_or xs i 0) (get_or ys i 0)) (slice_cmp nat_cmp (drop (i + 1) xs) (drop (i + 1) ys))
compared xs ys i below also = ap₂ (slice_cmp nat_cmp) (drop_more xs i 0 below) (drop_more ys i 0 also)

one_more : (a b : ℕ) → nat_cmp a b ≡ nat_cmp (suc a) (suc b)
one_more a b = grind (arith, nat_tests)

none_some : (n : ℕ) → Less ≡ nat_cmp 0 (suc n)
none_some n = grind (arith, nat_tests)

some_none : (n : ℕ) → Greater ≡ nat_cmp (suc n) 0
some_none n = grind (arith, nat_tests)

-- at the end of the shorter the lengths decide
pub compared_end : (xs ys : List ℕ) (i : ℕ) → i ≡ min (length xs) (length ys) → slice_cmp nat_cmp (drop i xs) (drop i ys) ≡ nat_cmp (length xs) (length ys)
compared_end [] [] zero e = refl
compared_end [] [] (suc i) e = absurd (omega arith)
compared_end [] (y ∷ ys) zero e = none_some (length ys)
compared_end [] (y ∷ ys) (suc i) e = absurd (omega arith)
compared_end (x ∷ xs) [] zero e = some_none (length xs)
compared_end (x ∷ xs) [] (suc i) e = absurd (omega arith)
compared_end (x ∷ xs) (y ∷ ys) zero e = absurd (omega arith)
compared_end (x ∷ xs) (y ∷ ys) (suc i) e = compared_end xs ys i (omega arith) ∙ one_more (length xs) (length ys)

-- the words that are left of a text begin with the next one
pub next_word : (image : Image) (spot : Spot) (words rest : List ℕ) (i : ℕ) → i < length words → Stand image spot (drop i words ++ rest) → Stand image spot (get_or words i 0 ∷ (drop (i + 1) words ++ rest))
next_word image spot words rest i below stand = subst (Stand image spot) (ap (λ (xs : List ℕ). xs ++ rest) (drop_more words i 0 below)) stand

pub word_there : (image : Image) (spot : Spot) (words rest : List ℕ) (i : ℕ) → i < length words → Stand image spot (drop i words ++ rest) → HasBytes image spot 1
word_there image spot words rest i below stand = has_bytes image spot 1 (get_or words i 0 ∷ (drop (i + 1) words ++ rest)) (omega arith) (next_word image spot words rest i below stand)

pub text_there : (image : Image) (spot : Spot) → HasText image spot → HasBytes image spot 1
text_there image spot has = has_bytes image spot 1 (length has.words ∷ (has.words ++ has.rest)) (omega arith) has.stand

-- numbers have 1 to 8 bytes
pub width_ok : (w : ℕ) (signed : Bool) (n : ℤ) → num_holds w signed n ≡ true → (0 < w) × (w ≤ 8)
width_ok zero true n holds = absurd (false≢true holds)
width_ok zero false n holds = absurd (false≢true holds)
width_ok (suc w) signed n holds = (omega arith, elim (cases_lt 8 (suc w)) [ inl wide ↦ absurd (too_wide (suc w) signed n wide holds) | inr narrow ↦ narrow ])

pub holds_width : (t : FieldType) (w : ℕ) (signed : Bool) (l : Leaf) → t ≡ ty.Num w signed → leaf_holds t l ≡ true → (0 < w) × (w ≤ 8)
holds_width t w signed l is holds = by_leaf l (subst (λ (u : FieldType). leaf_holds u l ≡ true) is holds)
  where
    by_leaf : (m : Leaf) → leaf_holds (ty.Num w signed) m ≡ true → (0 < w) × (w ≤ 8)
    by_leaf (leaf.Num n) holds = width_ok w signed n holds
    by_leaf (leaf.Text words) holds = absurd (false≢true holds)
    by_leaf (leaf.Rect box) holds = absurd (false≢true holds)

-- what a leaf that begins there is
module _ (image : Image) (spot : Spot) (t : FieldType) (l : Leaf) (begins : BeginsLeaf image spot t l) where
  pub leaf_room : (many : ℕ) → length (leaf_bytes t l) ≡ many → many ≤ length begins.bytes
  leaf_room many long =
      let all = ap (λ (xs : List ℕ). length xs) begins.is ∙ length-append (leaf_bytes t l) begins.rest in
      omega arith

  pub number_room : (w : ℕ) (signed : Bool) → t ≡ ty.Num w signed → w ≤ length begins.bytes
  number_room w signed is = leaf_room w (number_length t w signed l is begins.holds)

  pub number_there : (w : ℕ) (signed : Bool) → t ≡ ty.Num w signed → l ≡ leaf.Num (number_from w signed begins.bytes)
  number_there w signed is = begins.read ∙ ap (λ (u : FieldType). read_leaf u begins.bytes) is

  pub rect_room : t ≡ ty.Box4 → 16 ≤ length begins.bytes
  rect_room is = leaf_room 16 (ap (λ (u : FieldType). length (leaf_bytes u l)) is ∙ rect_long l (subst (λ (u : FieldType). leaf_holds u l ≡ true) is begins.holds))

  pub rect_there : t ≡ ty.Box4 → l ≡ leaf.Rect (rect_from begins.bytes)
  rect_there is = begins.read ∙ ap (λ (u : FieldType). read_leaf u begins.bytes) is

  pub words_there : t ≡ ty.Str → (words : List ℕ) × (l ≡ leaf.Text words) × (leaf_bytes t l ≡ length words ∷ words) × Stand image spot (length words ∷ (words ++ begins.rest))
  words_there is = by_leaf l refl (subst (λ (u : FieldType). leaf_holds u l ≡ true) is begins.holds)
    where
      by_leaf : (m : Leaf) → l ≡ m → leaf_holds ty.Str m ≡ true → (words : List ℕ) × (l ≡ leaf.Text words) × (leaf_bytes t l ≡ length words ∷ words) × Stand image spot (length words ∷ (words ++ begins.rest))
      by_leaf (leaf.Num n) same holds = absurd (false≢true holds)
      by_leaf (leaf.Text words) same holds = (
        words,
        same,
        ap₂ (λ (u : FieldType) (k : Leaf). leaf_bytes u k) is same,
        subst (Stand image spot) (begins.is ∙ ap₂ (λ (u : FieldType) (k : Leaf). leaf_bytes u k ++ begins.rest) is same) begins.stand,
      )
      by_leaf (leaf.Rect box) same holds = absurd (false≢true holds)

-- a pair of bytes that are equal leaves it to the rest; others decide
then_equal : (r s : Ordering) → r ≡ Equal → ordering_then r s ≡ s
then_equal Less s e = (cc)
then_equal Equal s e = refl
then_equal Greater s e = (cc)

then_unequal : (r s : Ordering) → (r ≡ Equal → ⊥) → ordering_then r s ≡ r
then_unequal Less s apart = refl
then_unequal Equal s apart = absurd (apart refl)
then_unequal Greater s apart = refl

module _ (xs ys : List ℕ) (i w o : ℕ) (r whole : Ordering) (below : i < length xs) (also : i < length ys) (is : r ≡ nat_cmp w o) (first : w ≡ get_or xs i 0) (second : o ≡ get_or ys i 0) (so_far : whole ≡ slice_cmp nat_cmp (drop i xs) (drop i ys)) where
  pair_is : nat_cmp (get_or xs i 0) (get_or ys i 0) ≡ r
  pair_is = sym (is ∙ ap₂ nat_cmp first second)

  pub step_equal : r ≡ Equal → whole ≡ slice_cmp nat_cmp (drop (i + 1) xs) (drop (i + 1) ys)
  step_equal equal = so_far ∙ compared xs ys i below also ∙ then_equal (nat_cmp (get_or xs i 0) (get_or ys i 0)) (slice_cmp nat_cmp (drop (i + 1) xs) (drop (i + 1) ys)) (pair_is ∙ equal)

  pub step_unequal : (r ≡ Equal → ⊥) → r ≡ whole
  step_unequal apart = sym (so_far ∙ compared xs ys i below also
      ∙ then_unequal (nat_cmp (get_or xs i 0) (get_or ys i 0)) (slice_cmp nat_cmp (drop (i + 1) xs) (drop (i + 1) ys)) (λ equal. apart (sym pair_is ∙ equal)) ∙ pair_is)

pub all_compared : (xs ys : List ℕ) (i m n : ℕ) (r whole : Ordering) → r ≡ nat_cmp m n → m ≡ length xs → n ≡ length ys → i ≡ min m n → whole ≡ slice_cmp nat_cmp (drop i xs) (drop i ys) → r ≡ whole
all_compared xs ys i m n r whole is first second at so_far =
    is ∙ ap₂ nat_cmp first second ∙ sym (compared_end xs ys i (at ∙ ap₂ min first second)) ∙ sym so_far
