-- A step over a value's bytes leaves what stands behind them.
use Rattle.std.proofs.Common.{◌≡◌, ℕ, zero, suc, ◌+◌, ◌-◌, ◌<◌, true, List, [], ◌∷◌, ◌++◌, length, take, drop, flat_map, Some, slice_get, refl, ap, ◌∙◌, append_assoc, arith}
use Rattle.std.specs.Prelude.{nat_le}
use Rattle.std.specs.List.{list_all}
use Rattle.std.proofs.lemmas.List.{drop_at}
use Rattle.rdb_base.specs.declared.limits.TheConstants.{MAX_ELEMENTS}
use Rattle.rdb_base.specs.declared.value.Leaf.{Leaf}
use Rattle.rdb_base.specs.declared.value.Leaf.TheVariants as leaf
use Rattle.rdb_base.specs.declared.value.Element.{Element}
use Rattle.rdb_base.specs.declared.value.Element.TheVariants as element
use Rattle.rdb_base.specs.declared.value.Value.{Value}
use Rattle.rdb_base.specs.declared.value.Value.TheVariants as value
use Rattle.rdb_schema.specs.declared.schema.FieldType.{FieldType}
use Rattle.rdb_schema.specs.declared.schema.FieldType.TheVariants as ty
use Rattle.rdb_schema.specs.Values.{leaf_holds}
use Rattle.rdb_schema.specs.declared.types.ElementType.{ElementType}
use Rattle.rdb_schema.specs.declared.types.ElementType.TheVariants as elements
use Rattle.rdb_schema.specs.declared.types.ValueType.{ValueType}
use Rattle.rdb_schema.specs.declared.types.ValueType.TheVariants as values
use Rattle.rdb_schema.specs.Types.{all_pairs, element_fits, value_fits, row_fits}
use Rattle.rdb_schema.specs.Encoding.{number_bytes, text_bytes, rect_bytes, leaf_bytes, leaves_bytes, element_bytes, value_bytes, row_bytes}
use Rattle.rdb_access.specs.Walk.{after_leaf, after_leaves, after_element, after_elements, after_value, after_values}
use Rattle.rdb_schema.proofs.EncodingLengths.{length-number}
use Rattle.rdb_access.proofs.Pairs.{first_of, second_of, drop_get}

pub leaf_step : (t : FieldType) (l : Leaf) (rest : List ℕ) → leaf_holds t l ≡ true → after_leaf t (leaf_bytes t l ++ rest) ≡ rest
leaf_step (ty.Num bytes signed) (leaf.Num n) rest e = drop_at (number_bytes bytes n) rest bytes (length-number bytes n)
leaf_step (ty.Num bytes signed) (leaf.Text words) rest e = (cc)
leaf_step (ty.Num bytes signed) (leaf.Rect box) rest e = (cc)
leaf_step ty.Str (leaf.Num n) rest e = (cc)
leaf_step ty.Str (leaf.Text words) rest e = drop_at (text_bytes words) rest (1 + length words) (omega arith)
leaf_step ty.Str (leaf.Rect box) rest e = (cc)
leaf_step ty.Box4 (leaf.Num n) rest e = (cc)
leaf_step ty.Box4 (leaf.Text words) rest e = (cc)
leaf_step ty.Box4 (leaf.Rect box) rest e = drop_at (rect_bytes box) rest 16 refl
leaf_step (ty.Vector of) l rest e = (cc)
leaf_step (ty.Struct group) l rest e = (cc)

pub leaves_step : (ts : List FieldType) (ls : List Leaf) (rest : List ℕ) → all_pairs leaf_holds ts ls ≡ true → after_leaves ts (leaves_bytes ts ls ++ rest) ≡ rest
leaves_step [] [] rest e = refl
leaves_step [] (l ∷ ls) rest e = (cc)
leaves_step (t ∷ ts) [] rest e = (cc)
leaves_step (t ∷ ts) (l ∷ ls) rest e =
    ap (λ xs. after_leaves ts (after_leaf t xs)) (append_assoc (leaf_bytes t l) (leaves_bytes ts ls) rest)
    ∙ ap (after_leaves ts) (leaf_step t l (leaves_bytes ts ls ++ rest) (first_of (leaf_holds t l) (all_pairs leaf_holds ts ls) e))
    ∙ leaves_step ts ls rest (second_of (leaf_holds t l) (all_pairs leaf_holds ts ls) e)

pub element_step : (t : ElementType) (x : Element) (rest : List ℕ) → element_fits t x ≡ true → after_element t (element_bytes t x ++ rest) ≡ rest
element_step (elements.Leaf t) (element.Leaf l) rest e = leaf_step t l rest e
element_step (elements.Leaf t) (element.Group ls) rest e = (cc)
element_step (elements.Group ts) (element.Leaf l) rest e = (cc)
element_step (elements.Group ts) (element.Group ls) rest e = leaves_step ts ls rest e

elements_step : (of : ElementType) (xs : List Element) (rest : List ℕ) → list_all (element_fits of) xs ≡ true → after_elements of (length xs) (flat_map (element_bytes of) xs ++ rest) ≡ rest
elements_step of [] rest e = refl
elements_step of (x ∷ xs) rest e =
    ap (λ bs. after_elements of (length xs) (after_element of bs)) (append_assoc (element_bytes of x) (flat_map (element_bytes of) xs) rest)
    ∙ ap (after_elements of (length xs)) (element_step of x (flat_map (element_bytes of) xs ++ rest) (first_of (element_fits of x) (list_all (element_fits of) xs) e))
    ∙ elements_step of xs rest (second_of (element_fits of x) (list_all (element_fits of) xs) e)

pub value_step : (t : ValueType) (v : Value) (rest : List ℕ) → value_fits t v ≡ true → after_value t (value_bytes t v ++ rest) ≡ rest
value_step (values.Leaf t) (value.Leaf l) rest e = leaf_step t l rest e
value_step (values.Leaf t) (value.List xs) rest e = (cc)
value_step (values.Leaf t) (value.Group ls) rest e = (cc)
value_step (values.Vector of) (value.Leaf l) rest e = (cc)
value_step (values.Vector of) (value.List xs) rest e = elements_step of xs rest (second_of (nat_le (length xs) MAX_ELEMENTS) (list_all (element_fits of) xs) e)
value_step (values.Vector of) (value.Group ls) rest e = (cc)
value_step (values.Group ts) (value.Leaf l) rest e = (cc)
value_step (values.Group ts) (value.List xs) rest e = (cc)
value_step (values.Group ts) (value.Group ls) rest e = leaves_step ts ls rest e

-- behind the first values stand the others
pub values_step : (k : ℕ) (ts : List ValueType) (vs : List Value) → row_fits ts vs ≡ true → after_values (take k ts) (row_bytes ts vs) ≡ row_bytes (drop k ts) (drop k vs)
values_step zero ts vs e = refl
values_step (suc k) [] [] e = refl
values_step (suc k) [] (v ∷ vs) e = (cc)
values_step (suc k) (t ∷ ts) [] e = (cc)
values_step (suc k) (t ∷ ts) (v ∷ vs) e =
    ap (after_values (take k ts)) (value_step t v (row_bytes ts vs) (first_of (value_fits t v) (row_fits ts vs) e))
    ∙ values_step k ts vs (second_of (value_fits t v) (row_fits ts vs) e)

-- the value at a place is one of its type
pub value_there : (k : ℕ) (ts : List ValueType) (vs : List Value) (t : ValueType) (v : Value) → slice_get ts k ≡ Some t → slice_get vs k ≡ Some v → row_fits ts vs ≡ true → value_fits t v ≡ true
value_there k [] vs t v e d all = (cc)
value_there k (x ∷ ts) [] t v e d all = (cc)
value_there zero (x ∷ ts) (y ∷ vs) t v e d all =
    let same_type : x ≡ t = cc in
    let same_value : y ≡ v = cc in
    rw (← same_type, ← same_value) (first_of (value_fits x y) (row_fits ts vs) all)
value_there (suc k) (x ∷ ts) (y ∷ vs) t v e d all = value_there k ts vs t v e d (second_of (value_fits x y) (row_fits ts vs) all)

-- behind the values before a place stand the bytes of the value there
pub bytes_there : (k : ℕ) (ts : List ValueType) (vs : List Value) (t : ValueType) (v : Value) → slice_get ts k ≡ Some t → slice_get vs k ≡ Some v → row_fits ts vs ≡ true
    → after_values (take k ts) (row_bytes ts vs) ≡ value_bytes t v ++ row_bytes (drop (suc k) ts) (drop (suc k) vs)
bytes_there k ts vs t v e d all = values_step k ts vs all ∙ ap (λ xs. row_bytes xs (drop k vs)) (drop_get ts k t e) ∙ ap (λ xs. row_bytes (t ∷ drop (suc k) ts) xs) (drop_get vs k v d)

-- one element fewer is left to step over
pub elements_fewer : (of : ElementType) (count k : ℕ) (xs : List ℕ) → k < count → after_elements of (count - k) xs ≡ after_elements of (count - (k + 1)) (after_element of xs)
elements_fewer of count k xs lt = let e : count - k ≡ suc (count - (k + 1)) = omega arith in ap (λ n. after_elements of n xs) e
