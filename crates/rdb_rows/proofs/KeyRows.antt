-- The keys of rows, field by field.
use Rattle.std.proofs.Common.{◌≡◌, ◌<◌, ◌≤◌, ◌+◌, ◌++◌, zero, suc, ℕ, List, [], ◌∷◌, length, take, drop, fold, true, Option, Some, slice_get, refl, sym, ap, ap₂, subst, ◌∙◌, arith}
use Rattle.std.specs.List.{cons_option}
use Rattle.std.specs.Option.{option_map_or}
use Rattle.std.specs.declared.cmp.Ordering.{Ordering}
use Rattle.std.specs.declared.cmp.Ordering.TheVariants.{Less, Equal, Greater}
use Rattle.std.specs.Ordering.{ordering_then}
use Rattle.std.proofs.lemmas.Bool.{false≢true}
use Rattle.std.proofs.lemmas.List.{append-nil, drop_all}
use Rattle.rdb_base.specs.declared.value.Leaf.{Leaf}
use Rattle.rdb_base.specs.declared.value.Value.{Value}
use Rattle.rdb_base.specs.declared.value.Value.TheVariants as value
use Rattle.rdb_base.specs.Order.{row_order, value_order}
use Rattle.rdb_schema.specs.declared.schema.FieldType.{FieldType}
use Rattle.rdb_schema.specs.declared.types.ValueType.{ValueType}
use Rattle.rdb_schema.specs.declared.types.ValueType.TheVariants as values
use Rattle.rdb_schema.specs.Encoding.{value_bytes, row_bytes}
use Rattle.rdb_schema.specs.Types.{value_fits, row_fits}
use Rattle.rdb_access.specs.Read.{read_leaf, read_value, read_values}
use Rattle.rdb_access.specs.Walk.{after_value, after_values}
use Rattle.rdb_access.proofs.Pairs.{first_of, second_of, drop_get}
use Rattle.rdb_access.proofs.Walking.{values_step}
use Rattle.rdb_cells.specs.Images.{Image}
use Rattle.rdb_cells.specs.Keys.{fnv_step}
use Rattle.rdb_rows.specs.declared.key_fields.KeyField.{KeyField}
use Rattle.rdb_rows.specs.declared.spot.Spot.{Spot}
use Rattle.rdb_rows.specs.Places.{IsKeyField, AreKeyFields, numbers_in}
use Rattle.rdb_rows.specs.RowKeys.{picked}
use Rattle.rdb_rows.specs.RowSpots.{BeginsRow, IsLeafOf}
use Rattle.rdb_rows.specs.Spots.{Stand, BeginsLeaf}
use Rattle.rdb_rows.proofs.PlaceLemmas.{pair_at, bytes_at}
use Rattle.rdb_rows.proofs.WalkLemmas.{leaf_value}

-- a value of a row that was read is what is read there
read_at : (ts : List ValueType) (xs : List ℕ) (k : ℕ) (t : ValueType) → slice_get ts k ≡ Some t → slice_get (read_values ts xs) k ≡ Some (read_value t (after_values (take k ts) xs))
read_at [] xs k t e = (cc)
read_at (u ∷ ts) xs zero t e = let same : u ≡ t = cc in ap (λ (w : ValueType). Some (read_value w xs)) same
read_at (u ∷ ts) xs (suc k) t e = read_at ts (after_value u xs) k t e

the_value : (a b : Value) → Some a ≡ Some b → a ≡ b
the_value a b e = ap (λ (o : Option Value). option_map_or (λ v. v) o a) e

the_leaf : (a b : Leaf) → value.Leaf a ≡ value.Leaf b → a ≡ b
the_leaf a b e = ap (λ (v : Value). leaf_in v a) e
  where
    leaf_in : Value → Leaf → Leaf
    leaf_in (value.Leaf l) other = l
    leaf_in (value.List es) other = other
    leaf_in (value.Group ls) other = other

-- a field of a key stands where its place says
pub leaf_of : (image : Image) (first spot : Spot) (types : List ValueType) (row : List Value) (f : KeyField) → BeginsRow image first types row → IsKeyField types f
    → Stand image spot (row_bytes (drop f.field types) (drop f.field row) ++ []) → IsLeafOf image row f spot
leaf_of image first spot types row f begins is stand =
    let there = pair_at value_fits types row f.field (values.Leaf f.ty) is.leaf begins.fits in
    let leaf_is = leaf_value f.ty there.0 there.2 in
    let bytes : List ℕ = row_bytes (drop f.field types) (drop f.field row) in
    let here : slice_get row f.field ≡ Some (value.Leaf leaf_is.0) = there.1 ∙ ap Some leaf_is.1 in
    let read : Some (value.Leaf leaf_is.0) ≡ Some (value.Leaf (read_leaf f.ty bytes)) =
    sym here ∙ ap (λ (vs : List Value). slice_get vs f.field) begins.read ∙ read_at types (row_bytes types row) f.field (values.Leaf f.ty) is.leaf
    ∙ ap (λ (xs : List ℕ). Some (read_value (values.Leaf f.ty) xs)) (values_step f.field types row begins.fits) in
    record {
      l = leaf_is.0;
      there = here;
      begins = record {
        bytes = bytes;
        rest = row_bytes (drop (suc f.field) types) (drop (suc f.field) row);
        holds = leaf_is.2;
        is = bytes_at value_bytes types row f.field (values.Leaf f.ty) (value.Leaf leaf_is.0) is.leaf here;
        read = the_leaf leaf_is.0 (read_leaf f.ty bytes) (the_value (value.Leaf leaf_is.0) (value.Leaf (read_leaf f.ty bytes)) read);
        stand = subst (Stand image spot) (append-nil bytes) stand;
      };
    }

pub row_stands : (image : Image) (first : Spot) (types : List ValueType) (row : List Value) → BeginsRow image first types row → Stand image first (row_bytes types row ++ [])
row_stands image first types row begins = subst (Stand image first) (sym (append-nil (row_bytes types row))) begins.stand

-- a field of a key at a place
pub field_at : (types : List ValueType) (fields : List KeyField) (i : ℕ) (f : KeyField) → slice_get fields i ≡ Some f → AreKeyFields types fields → IsKeyField types f
field_at types [] i f e are = (cc)
field_at types (g ∷ gs) zero f e are = let same : g ≡ f = cc in subst (IsKeyField types) same are.0
field_at types (g ∷ gs) (suc i) f e are = field_at types gs i f e are.1

-- what is picked begins with what the field has
pub picked_at : {A : Type 0} (xs : List A) (fields : List KeyField) (i : ℕ) (f : KeyField) (x : A) → slice_get fields i ≡ Some f → slice_get xs f.field ≡ Some x → picked xs (numbers_in (drop i fields)) ≡ x ∷ picked xs (numbers_in (drop (i + 1) fields))
picked_at xs fields i f x e there =
    let next : suc i ≡ i + 1 = omega arith in
    ap (λ (fs : List KeyField). picked xs (numbers_in fs)) (drop_get fields i f e)
    ∙ ap (λ (o : Option _). cons_option o (picked xs (numbers_in (drop (suc i) fields)))) there
    ∙ ap (λ (n : ℕ). x ∷ picked xs (numbers_in (drop n fields))) next

-- a value of a key at a place
pub record KeyValue (key : List Value) (i : ℕ) (t : FieldType) (ts : List ValueType) : Type 0 where
  pub own : Value
  pub here : slice_get key i ≡ Some own
  pub left : drop i key ≡ own ∷ drop (i + 1) key
  pub fits : value_fits (values.Leaf t) own ≡ true
  pub rest : row_fits ts (drop (i + 1) key) ≡ true

pub key_value : (key : List Value) (i : ℕ) (t : FieldType) (ts : List ValueType) → row_fits (values.Leaf t ∷ ts) (drop i key) ≡ true → KeyValue key i t ts
key_value [] zero t ts fits = absurd (false≢true fits)
key_value [] (suc i) t ts fits = absurd (false≢true fits)
key_value (v ∷ key) zero t ts fits = record {
  own = v;
  here = refl;
  left = refl;
  fits = first_of (value_fits (values.Leaf t) v) (row_fits ts key) fits;
  rest = second_of (value_fits (values.Leaf t) v) (row_fits ts key) fits;
}
key_value (v ∷ key) (suc i) t ts fits =
    let later = key_value key i t ts fits in
    let next : suc i + 1 ≡ suc (i + 1) = omega arith in
    record {
      own = later.own;
      here = later.here;
      left = later.left ∙ ap (λ (n : ℕ). later.own ∷ drop n (v ∷ key)) (sym next);
      fits = later.fits;
      rest = ap (λ (n : ℕ). row_fits ts (drop n (v ∷ key))) next ∙ later.rest;
    }

pub value_room : (key : List Value) (i : ℕ) (v : Value) → slice_get key i ≡ Some v → i < length key
value_room [] i v e = (cc)
value_room (u ∷ key) zero v e = omega arith
value_room (u ∷ key) (suc i) v e = let later = value_room key i v e in omega arith

no_key : (key : List Value) → row_fits [] key ≡ true → key ≡ []
no_key [] fits = refl
no_key (v ∷ key) fits = absurd (false≢true fits)

then_equal : (r s : Ordering) → r ≡ Equal → ordering_then r s ≡ s
then_equal Less s e = (cc)
then_equal Equal s e = refl
then_equal Greater s e = (cc)

then_unequal : (r s : Ordering) → (r ≡ Equal → ⊥) → ordering_then r s ≡ r
then_unequal Less s apart = refl
then_unequal Equal s apart = absurd (apart refl)
then_unequal Greater s apart = refl

-- one pair of values more is compared
module _ (r whole : Ordering) (v w : Value) (vs ws xs ys : List Value) (left : xs ≡ v ∷ vs) (right : ys ≡ w ∷ ws) (is : r ≡ value_order v w) (so_far : whole ≡ row_order xs ys) where
  split : whole ≡ ordering_then r (row_order vs ws)
  split = so_far ∙ ap₂ row_order left right ∙ ap (λ (o : Ordering). ordering_then o (row_order vs ws)) (sym is)

  pub order_goes_on : r ≡ Equal → whole ≡ row_order vs ws
  order_goes_on equal = split ∙ then_equal r (row_order vs ws) equal

  pub order_ends : (r ≡ Equal → ⊥) → r ≡ whole
  order_ends apart = sym (split ∙ then_unequal r (row_order vs ws) apart)

-- a row's key against a key, so far
pub record IsOrdering (image : Image) (first : Spot) (types : List ValueType) (fields : List KeyField) (key : List Value) (i : ℕ) : Type 0 where
  pub fits : row_fits (picked types (numbers_in (drop i fields))) (drop i key) ≡ true
  pub so_far : (row : List Value) → BeginsRow image first types row → row_order (picked row (numbers_in fields)) key ≡ row_order (picked row (numbers_in (drop i fields))) (drop i key)

module _ (image : Image) (first : Spot) (types : List ValueType) (fields : List KeyField) (key : List Value) (i : ℕ) (f : KeyField) (there : slice_get fields i ≡ Some f) (are : AreKeyFields types fields) (is : IsOrdering image first types fields key i) where
  pub value_of_key : KeyValue key i f.ty (picked types (numbers_in (drop (i + 1) fields)))
  value_of_key = key_value key i f.ty (picked types (numbers_in (drop (i + 1) fields)))
      (ap (λ (ts : List ValueType). row_fits ts (drop i key)) (sym (picked_at types fields i f (values.Leaf f.ty) there (field_at types fields i f there are).leaf)) ∙ is.fits)

  module _ (spot : Spot) (r : Ordering) (leaf : (row : List Value) → BeginsRow image first types row → IsLeafOf image row f spot) (told : (l : Leaf) → BeginsLeaf image spot f.ty l → r ≡ value_order (value.Leaf l) value_of_key.own) where
    pub ordering_more : r ≡ Equal → IsOrdering image first types fields key (i + 1)
    ordering_more equal = record {
      fits = value_of_key.rest;
      so_far = λ row begins.
          let l = leaf row begins in
          order_goes_on r (row_order (picked row (numbers_in fields)) key) (value.Leaf l.l) value_of_key.own (picked row (numbers_in (drop (i + 1) fields))) (drop (i + 1) key)
          (picked row (numbers_in (drop i fields))) (drop i key) (picked_at row fields i f (value.Leaf l.l) there l.there) value_of_key.left (told l.l l.begins) (is.so_far row begins) equal;
    }

    pub ordering_ends : (r ≡ Equal → ⊥) → (row : List Value) → BeginsRow image first types row → r ≡ row_order (picked row (numbers_in fields)) key
    ordering_ends apart row begins =
        let l = leaf row begins in
        order_ends r (row_order (picked row (numbers_in fields)) key) (value.Leaf l.l) value_of_key.own (picked row (numbers_in (drop (i + 1) fields))) (drop (i + 1) key)
        (picked row (numbers_in (drop i fields))) (drop i key) (picked_at row fields i f (value.Leaf l.l) there l.there) value_of_key.left (told l.l l.begins) (is.so_far row begins) apart

pub all_ordered : (image : Image) (first : Spot) (types : List ValueType) (fields : List KeyField) (key : List Value) (i : ℕ) → length fields ≤ i → IsOrdering image first types fields key i → (row : List Value) → BeginsRow image first types row → Equal ≡ row_order (picked row (numbers_in fields)) key
all_ordered image first types fields key i all is row begins =
    let none : drop i fields ≡ [] = drop_all i fields all in
    let rest : drop i key ≡ [] = no_key (drop i key) (ap (λ (fs : List KeyField). row_fits (picked types (numbers_in fs)) (drop i key)) (sym none) ∙ is.fits) in
    sym (is.so_far row begins ∙ ap₂ (λ (fs : List KeyField) (vs : List Value). row_order (picked row (numbers_in fs)) vs) none rest)

-- hashes of encodings, so far
fold_both : (xs ys : List ℕ) (h : ℕ) → fold fnv_step h (xs ++ ys) ≡ fold fnv_step (fold fnv_step h xs) ys
fold_both [] ys h = refl
fold_both (x ∷ xs) ys h = fold_both xs ys (fnv_step h x)

pub hash_more : (whole h now : ℕ) (t : FieldType) (v : Value) (ts : List ValueType) (vs : List Value) (xs : List ValueType) (ys : List Value) → xs ≡ values.Leaf t ∷ ts → ys ≡ v ∷ vs → now ≡ fold fnv_step h (value_bytes (values.Leaf t) v)
    → fold fnv_step h (row_bytes xs ys) ≡ whole → fold fnv_step now (row_bytes ts vs) ≡ whole
hash_more whole h now t v ts vs xs ys left right is so_far =
    ap (λ (n : ℕ). fold fnv_step n (row_bytes ts vs)) is ∙ sym (fold_both (value_bytes (values.Leaf t) v) (row_bytes ts vs) h)
    ∙ sym (ap₂ (λ (us : List ValueType) (ws : List Value). fold fnv_step h (row_bytes us ws)) left right) ∙ so_far

the_same : (a b : Value) → Some a ≡ Some b → a ≡ b
the_same a b e = ap (λ (o : Option Value). option_map_or (λ v. v) o a) e

-- the value at a place of a key is the one that is known
pub own_value : (key : List Value) (i : ℕ) (t : FieldType) (ts : List ValueType) → (is : KeyValue key i t ts) → (v : Value) → slice_get key i ≡ Some v → v ≡ is.own
own_value key i t ts is v e = the_same v is.own (sym e ∙ is.here)

-- one field more is made
pub fields_more : (types : List ValueType) (fields : List KeyField) (f : KeyField) → AreKeyFields types fields → IsKeyField types f → AreKeyFields types (fields ++ f ∷ [])
fields_more types [] f are is = (is, tt)
fields_more types (g ∷ gs) f are is = (are.0, fields_more types gs f are.1 is)

pub numbers_more : (fields : List KeyField) (f : KeyField) → numbers_in (fields ++ f ∷ []) ≡ numbers_in fields ++ f.field ∷ []
numbers_more [] f = refl
numbers_more (g ∷ gs) f = ap (λ (ns : List ℕ). g.field ∷ ns) (numbers_more gs f)

-- a key that is hashed, so far
module _ (types : List ValueType) (fields : List KeyField) (key : List Value) (i : ℕ) (f : KeyField) (there : slice_get fields i ≡ Some f) (are : AreKeyFields types fields) (fits : row_fits (picked types (numbers_in (drop i fields))) (drop i key) ≡ true) where
  pub types_there : picked types (numbers_in (drop i fields)) ≡ values.Leaf f.ty ∷ picked types (numbers_in (drop (i + 1) fields))
  types_there = picked_at types fields i f (values.Leaf f.ty) there (field_at types fields i f there are).leaf

  pub hashed_value : KeyValue key i f.ty (picked types (numbers_in (drop (i + 1) fields)))
  hashed_value = key_value key i f.ty (picked types (numbers_in (drop (i + 1) fields))) (ap (λ (ts : List ValueType). row_fits ts (drop i key)) (sym types_there) ∙ fits)
