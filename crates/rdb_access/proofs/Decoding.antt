-- What is read of a row's encoding is the row.
use Rattle.std.proofs.Common.{◌≡◌, ℕ, suc, ◌-◌, ◌+◌, ltb, Result, Ok, Err, ◌<◌, ◌≤◌, ◌^◌, true, false, List, [], ◌∷◌, ◌++◌, length, drop, flat_map, refl, sym, ap, ◌∙◌, append_assoc, arith, length-append, ℤ, pos, if◌then◌else◌}
use Rattle.std.specs.Prelude.{nat_le, negsuc, IfOk}
use Rattle.std.specs.Int.{w32, cast_signed}
use Rattle.std.specs.List.{list_all}
use Rattle.std.specs.Str.Lossy.{utf8_lossy}
use Rattle.std.proofs.lemmas.Bool.{false≢true, le-ltb}
use Rattle.std.proofs.lemmas.Bool.Decides.{nat_tests}
use Rattle.std.proofs.lemmas.Int.{ints}
use Rattle.std.proofs.lemmas.List.{take_at, drop_at}
use Rattle.std.proofs.lemmas.Str.{utf8_lossy-IsUtf8}
use Rattle.byteorder.specs.Endian.{little_number}
use Rattle.byteorder.specs.Numbers.{little_number-reads_back}
use Rattle.rdb_base.specs.declared.limits.TheConstants.{MAX_ELEMENTS}
use Rattle.rdb_base.specs.declared.value.Rect.{Rect}
use Rattle.rdb_base.specs.declared.value.Leaf.{Leaf}
use Rattle.rdb_base.specs.declared.value.Leaf.TheVariants as leaf
use Rattle.rdb_base.specs.declared.value.Element.{Element}
use Rattle.rdb_base.specs.declared.value.Element.TheVariants as element
use Rattle.rdb_base.specs.declared.value.Value.{Value}
use Rattle.rdb_base.specs.declared.value.Value.TheVariants as value
use Rattle.rdb_schema.specs.declared.schema.FieldType.{FieldType}
use Rattle.rdb_schema.specs.declared.schema.FieldType.TheVariants as ty
use Rattle.rdb_schema.specs.Values.{num_holds, leaf_holds}
use Rattle.rdb_schema.specs.declared.types.ElementType.{ElementType}
use Rattle.rdb_schema.specs.declared.types.ElementType.TheVariants as elements
use Rattle.rdb_schema.specs.declared.types.ValueType.{ValueType}
use Rattle.rdb_schema.specs.declared.types.ValueType.TheVariants as values
use Rattle.rdb_schema.specs.Types.{all_pairs, element_fits, value_fits, row_fits}
use Rattle.rdb_schema.specs.Encoding.{pattern, number_bytes, rect_bytes, leaf_bytes, leaves_bytes, element_bytes, value_bytes, row_bytes}
use Rattle.rdb_schema.specs.Proper.{HasEdges, IsProperLeaf, EachIs, IsProperElement, IsProperValue, IsProperRow}
use Rattle.rdb_schema.specs.Encodes.{Encodes}
use Rattle.rdb_access.specs.Walk.{after_leaf, after_element, after_value}
use Rattle.rdb_access.specs.Read.{edge_from, rect_from, read_leaf, read_leaves, read_element, read_elements, read_value, read_values}
use Rattle.rdb_schema.proofs.EncodingLengths.{length-number}
use Rattle.rdb_access.proofs.Pairs.{first_of, second_of}
use Rattle.rdb_access.proofs.Walking.{leaf_step, element_step, value_step}
use Rattle.rdb_access.proofs.Reading.{InRange, in_range, pattern_fits, number_back}

sign_of : (n : ℤ) → InRange true 2147483648 n → cast_signed w32 (pattern 4 n) ≡ n
sign_of (pos m) range = omega (arith, ints)
sign_of (negsuc k) range =
    let test : ltb (4294967296 - suc k) 2147483648 ≡ false = le-ltb (4294967296 - suc k) 2147483648 (omega arith) in
    ap (λ b. if b then pos (4294967296 - suc k) else negsuc (4294967296 - suc (4294967296 - suc k))) test ∙ ap negsuc (omega arith)

-- an edge's bytes give the edge
edge_back : (n : ℤ) (rest : List ℕ) → num_holds 4 true n ≡ true → edge_from (number_bytes 4 n ++ rest) ≡ n
edge_back n rest e =
    let range : InRange true 2147483648 n = in_range true 2147483647 n e in
    let fits : pattern 4 n < 256 ^ 4 = pattern_fits true 4 n 2147483648 refl range in
    let number : little_number 4 (number_bytes 4 n ++ rest) ≡ pattern 4 n = little_number-reads_back 4 (pattern 4 n) rest fits in
    let room : 4 ≤ length (number_bytes 4 n ++ rest) = omega (arith, length-append (number_bytes 4 n) rest, length-number 4 n) in
    let test : nat_le 4 (length (number_bytes 4 n ++ rest)) ≡ true = grind (arith, nat_tests) in
    ap (λ b. if b then cast_signed w32 (little_number 4 (number_bytes 4 n ++ rest)) else pos 0) test ∙ ap (cast_signed w32) number ∙ sign_of n range

same_box : (box : Rect) (x1 y1 x2 y2 : ℤ) → x1 ≡ box.x1 → y1 ≡ box.y1 → x2 ≡ box.x2 → y2 ≡ box.y2 → (let made : Rect = record { x1 = x1; y1 = y1; x2 = x2; y2 = y2 } in made ≡ box)
same_box box x1 y1 x2 y2 e1 e2 e3 e4 = λ i. record { x1 = e1 i; y1 = e2 i; x2 = e3 i; y2 = e4 i }

-- a box's bytes give the box
rect_back : (box : Rect) (rest : List ℕ) → HasEdges box → rect_from (rect_bytes box ++ rest) ≡ box
rect_back box rest edges =
    let a = number_bytes 4 box.x1 in
    let b = number_bytes 4 box.y1 in
    let c = number_bytes 4 box.x2 in
    let d = number_bytes 4 box.y2 in
    let whole : rect_bytes box ++ rest ≡ a ++ (b ++ (c ++ (d ++ rest))) = simp append_assoc in
    let four : drop 4 (rect_bytes box ++ rest) ≡ b ++ (c ++ (d ++ rest)) = ap (drop 4) whole ∙ drop_at a (b ++ (c ++ (d ++ rest))) 4 (length-number 4 box.x1) in
    let eight : drop 8 (rect_bytes box ++ rest) ≡ c ++ (d ++ rest) =
    ap (drop 8) (whole ∙ sym (append_assoc a b (c ++ (d ++ rest)))) ∙ drop_at (a ++ b) (c ++ (d ++ rest)) 8 (omega (arith, length-append a b, length-number 4 box.x1, length-number 4 box.y1)) in
    let twelve : drop 12 (rect_bytes box ++ rest) ≡ d ++ rest =
    ap (drop 12) (whole ∙ sym (append_assoc a b (c ++ (d ++ rest))) ∙ sym (append_assoc (a ++ b) c (d ++ rest)))
    ∙ drop_at ((a ++ b) ++ c) (d ++ rest) 12 (omega (arith, length-append (a ++ b) c, length-append a b, length-number 4 box.x1, length-number 4 box.y1, length-number 4 box.x2)) in
    same_box box (edge_from (rect_bytes box ++ rest)) (edge_from (drop 4 (rect_bytes box ++ rest))) (edge_from (drop 8 (rect_bytes box ++ rest))) (edge_from (drop 12 (rect_bytes box ++ rest)))
    (ap edge_from whole ∙ edge_back box.x1 (b ++ (c ++ (d ++ rest))) edges.x1) (ap edge_from four ∙ edge_back box.y1 (c ++ (d ++ rest)) edges.y1)
    (ap edge_from eight ∙ edge_back box.x2 (d ++ rest) edges.x2) (ap edge_from twelve ∙ edge_back box.y2 rest edges.y2)

leaf_back : (t : FieldType) (l : Leaf) (rest : List ℕ) → leaf_holds t l ≡ true → IsProperLeaf l → read_leaf t (leaf_bytes t l ++ rest) ≡ l
leaf_back (ty.Num bytes signed) (leaf.Num n) rest e p = ap leaf.Num (number_back bytes signed n rest e)
leaf_back (ty.Num bytes signed) (leaf.Text words) rest e p = absurd (false≢true e)
leaf_back (ty.Num bytes signed) (leaf.Rect box) rest e p = absurd (false≢true e)
leaf_back ty.Str (leaf.Num n) rest e p = absurd (false≢true e)
leaf_back ty.Str (leaf.Text words) rest e p = ap leaf.Text (ap utf8_lossy (take_at words rest (length words) refl) ∙ utf8_lossy-IsUtf8 words p)
leaf_back ty.Str (leaf.Rect box) rest e p = absurd (false≢true e)
leaf_back ty.Box4 (leaf.Num n) rest e p = absurd (false≢true e)
leaf_back ty.Box4 (leaf.Text words) rest e p = absurd (false≢true e)
leaf_back ty.Box4 (leaf.Rect box) rest e p = ap leaf.Rect (rect_back box rest p)
leaf_back (ty.Vector of) l rest e p = absurd (false≢true e)
leaf_back (ty.Struct group) l rest e p = absurd (false≢true e)

leaves_back : (ts : List FieldType) (ls : List Leaf) (rest : List ℕ) → all_pairs leaf_holds ts ls ≡ true → EachIs IsProperLeaf ls → read_leaves ts (leaves_bytes ts ls ++ rest) ≡ ls
leaves_back [] [] rest e p = refl
leaves_back [] (l ∷ ls) rest e p = absurd (false≢true e)
leaves_back (t ∷ ts) [] rest e p = absurd (false≢true e)
leaves_back (t ∷ ts) (l ∷ ls) rest e p =
    let holds : leaf_holds t l ≡ true = first_of (leaf_holds t l) (all_pairs leaf_holds ts ls) e in
    let again : leaves_bytes (t ∷ ts) (l ∷ ls) ++ rest ≡ leaf_bytes t l ++ (leaves_bytes ts ls ++ rest) = append_assoc (leaf_bytes t l) (leaves_bytes ts ls) rest in
    let first : read_leaf t (leaves_bytes (t ∷ ts) (l ∷ ls) ++ rest) ≡ l = ap (read_leaf t) again ∙ leaf_back t l (leaves_bytes ts ls ++ rest) holds p.0 in
    let others : read_leaves ts (after_leaf t (leaves_bytes (t ∷ ts) (l ∷ ls) ++ rest)) ≡ ls =
    ap (λ xs. read_leaves ts (after_leaf t xs)) again ∙ ap (read_leaves ts) (leaf_step t l (leaves_bytes ts ls ++ rest) holds)
    ∙ leaves_back ts ls rest (second_of (leaf_holds t l) (all_pairs leaf_holds ts ls) e) p.1 in
    λ i. first i ∷ others i

element_back : (t : ElementType) (x : Element) (rest : List ℕ) → element_fits t x ≡ true → IsProperElement x → read_element t (element_bytes t x ++ rest) ≡ x
element_back (elements.Leaf t) (element.Leaf l) rest e p = ap element.Leaf (leaf_back t l rest e p)
element_back (elements.Leaf t) (element.Group ls) rest e p = absurd (false≢true e)
element_back (elements.Group ts) (element.Leaf l) rest e p = absurd (false≢true e)
element_back (elements.Group ts) (element.Group ls) rest e p = ap element.Group (leaves_back ts ls rest e p)

elements_back : (of : ElementType) (xs : List Element) (rest : List ℕ) → list_all (element_fits of) xs ≡ true → EachIs IsProperElement xs
    → read_elements of (length xs) (flat_map (element_bytes of) xs ++ rest) ≡ xs
elements_back of [] rest e p = refl
elements_back of (x ∷ xs) rest e p =
    let fits : element_fits of x ≡ true = first_of (element_fits of x) (list_all (element_fits of) xs) e in
    let again : flat_map (element_bytes of) (x ∷ xs) ++ rest ≡ element_bytes of x ++ (flat_map (element_bytes of) xs ++ rest) = append_assoc (element_bytes of x) (flat_map (element_bytes of) xs) rest in
    let first : read_element of (flat_map (element_bytes of) (x ∷ xs) ++ rest) ≡ x = ap (read_element of) again ∙ element_back of x (flat_map (element_bytes of) xs ++ rest) fits p.0 in
    let others : read_elements of (length xs) (after_element of (flat_map (element_bytes of) (x ∷ xs) ++ rest)) ≡ xs =
    ap (λ bs. read_elements of (length xs) (after_element of bs)) again ∙ ap (read_elements of (length xs)) (element_step of x (flat_map (element_bytes of) xs ++ rest) fits)
    ∙ elements_back of xs rest (second_of (element_fits of x) (list_all (element_fits of) xs) e) p.1 in
    λ i. first i ∷ others i

value_back : (t : ValueType) (v : Value) (rest : List ℕ) → value_fits t v ≡ true → IsProperValue v → read_value t (value_bytes t v ++ rest) ≡ v
value_back (values.Leaf t) (value.Leaf l) rest e p = ap value.Leaf (leaf_back t l rest e p)
value_back (values.Leaf t) (value.List xs) rest e p = absurd (false≢true e)
value_back (values.Leaf t) (value.Group ls) rest e p = absurd (false≢true e)
value_back (values.Vector of) (value.Leaf l) rest e p = absurd (false≢true e)
value_back (values.Vector of) (value.List xs) rest e p = ap value.List (elements_back of xs rest (second_of (nat_le (length xs) MAX_ELEMENTS) (list_all (element_fits of) xs) e) p)
value_back (values.Vector of) (value.Group ls) rest e p = absurd (false≢true e)
value_back (values.Group ts) (value.Leaf l) rest e p = absurd (false≢true e)
value_back (values.Group ts) (value.List xs) rest e p = absurd (false≢true e)
value_back (values.Group ts) (value.Group ls) rest e p = ap value.Group (leaves_back ts ls rest e p)

-- a row's encoding gives the row
pub row_back : (ts : List ValueType) (vs : List Value) → row_fits ts vs ≡ true → IsProperRow vs → read_values ts (row_bytes ts vs) ≡ vs
row_back [] [] e p = refl
row_back [] (v ∷ vs) e p = absurd (false≢true e)
row_back (t ∷ ts) [] e p = absurd (false≢true e)
row_back (t ∷ ts) (v ∷ vs) e p =
    let fits : value_fits t v ≡ true = first_of (value_fits t v) (row_fits ts vs) e in
    let first : read_value t (row_bytes (t ∷ ts) (v ∷ vs)) ≡ v = value_back t v (row_bytes ts vs) fits p.0 in
    let others : read_values ts (after_value t (row_bytes (t ∷ ts) (v ∷ vs))) ≡ vs =
    ap (read_values ts) (value_step t v (row_bytes ts vs) fits) ∙ row_back ts vs (second_of (value_fits t v) (row_fits ts vs) e) p.1 in
    λ i. first i ∷ others i

-- what is read of bytes that encode a row is the row
pub decoded : {E : Type 0} (r : Result (List Value) E) (types ts : List ValueType) (row : List Value) (xs : List ℕ) → types ≡ ts → Encodes ts row xs → IfOk r (λ x. x ≡ read_values types xs) → IfOk r (λ x. x ≡ row)
decoded (Ok x) types ts row xs same e read = read ∙ ap (λ t. read_values t xs) same ∙ ap (read_values ts) e.bytes_are ∙ row_back ts row e.fits e.proper
decoded (Err x) types ts row xs same e read = tt

-- one element fewer is left to read
pub elements_read : (of : ElementType) (count k : ℕ) (xs ys : List ℕ) (x : Element) (before now whole : List Element) → k < count → x ≡ read_element of xs → ys ≡ after_element of xs → now ≡ before ++ x ∷ []
    → before ++ read_elements of (count - k) xs ≡ whole → now ++ read_elements of (count - (k + 1)) ys ≡ whole
elements_read of count k xs ys x before now whole lt read after last so_far =
    let fewer : count - k ≡ suc (count - (k + 1)) = omega arith in
    ap (λ t. t ++ read_elements of (count - (k + 1)) ys) last ∙ append_assoc before (x ∷ []) (read_elements of (count - (k + 1)) ys)
    ∙ ap (λ y. before ++ y ∷ read_elements of (count - (k + 1)) ys) read ∙ ap (λ zs. before ++ read_element of xs ∷ read_elements of (count - (k + 1)) zs) after
    ∙ sym (ap (λ n. before ++ read_elements of n xs) fewer) ∙ so_far
