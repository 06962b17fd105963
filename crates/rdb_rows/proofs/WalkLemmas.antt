-- Steps behind the values of a row in cells.
use Rattle.std.proofs.Common.{◌≡◌, ◌<◌, ◌≤◌, ◌+◌, ◌++◌, zero, suc, ℕ, List, [], ◌∷◌, length, drop, Bool, true, Some, slice_get, refl, sym, ap, subst, ◌∙◌, arith, append_assoc, length-append}
use Rattle.std.specs.List.{flat_map, list_all}
use Rattle.std.specs.Prelude.{nat_le}
use Rattle.std.proofs.lemmas.List.{drop_at, drop_all}
use Rattle.rdb_base.specs.declared.limits.TheConstants.{MAX_ELEMENTS}
use Rattle.rdb_base.specs.declared.value.Element.{Element}
use Rattle.rdb_base.specs.declared.value.Value.{Value}
use Rattle.rdb_base.specs.declared.value.Value.TheVariants as value
use Rattle.rdb_schema.specs.declared.types.ElementType.{ElementType}
use Rattle.rdb_schema.specs.declared.types.ElementType.TheVariants as elements
use Rattle.rdb_base.specs.declared.value.Element.TheVariants as element
use Rattle.rdb_schema.specs.declared.types.ValueType.{ValueType}
use Rattle.rdb_schema.specs.declared.types.ValueType.TheVariants as values
use Rattle.rdb_access.proofs.Pairs.{first_of, second_of, drop_get}
use Rattle.rdb_rows.proofs.PlaceLemmas.{pair_at, bytes_at}
use Rattle.std.proofs.lemmas.Bool.{false≢true}
use Rattle.rdb_base.specs.declared.value.Leaf.{Leaf}
use Rattle.rdb_base.specs.declared.value.Leaf.TheVariants as leaf
use Rattle.rdb_schema.specs.declared.schema.FieldType.{FieldType}
use Rattle.rdb_schema.specs.declared.schema.FieldType.TheVariants as ty
use Rattle.rdb_schema.specs.Values.{leaf_holds}
use Rattle.rdb_schema.specs.Encoding.{leaf_bytes, leaves_bytes, element_bytes, value_bytes, row_bytes, pairs_bytes}
use Rattle.rdb_schema.specs.Types.{all_pairs, element_fits, value_fits, row_fits}
use Rattle.rdb_schema.proofs.EncodingLengths.{length-number}
use Rattle.rdb_cells.specs.Images.{Image}
use Rattle.rdb_rows.specs.declared.spot.Spot.{Spot}
use Rattle.rdb_rows.specs.declared.places.Place.{Place}
use Rattle.rdb_rows.specs.declared.places.Step.{Step}
use Rattle.rdb_rows.specs.Places.{IsBetween, AreSteps, behind, IsPlace}
use Rattle.rdb_rows.specs.Spots.{Stand, Leads}

-- behind so many bytes in front stands what is left
pub skip_front : (image : Image) (spot after : Spot) (many : ℕ) (front rest : List ℕ) → length front ≡ many → ((bytes : List ℕ) → many ≤ length bytes → Stand image spot bytes → Stand image after (drop many bytes)) → Stand image spot (front ++ rest) → Stand image after rest
skip_front image spot after many front rest long skips stand =
    let both = length-append front rest in
    subst (Stand image after) (drop_at front rest many long) (skips (front ++ rest) (omega arith) stand)

-- so far there is room for so many bytes
pub room_for : (image : Image) (spot : Spot) (many : ℕ) (front rest : List ℕ) → length front ≡ many → Stand image spot (front ++ rest) → spot.place + many < 4294967296
room_for image spot many front rest long stand =
    let both = length-append front rest in
    let near = stand.near in
    omega arith

-- how many bytes leaves of the types take that have one size
pub number_long : (bytes : ℕ) (signed : Bool) (l : Leaf) → leaf_holds (ty.Num bytes signed) l ≡ true → length (leaf_bytes (ty.Num bytes signed) l) ≡ bytes
number_long bytes signed (leaf.Num n) holds = length-number bytes n
number_long bytes signed (leaf.Text words) holds = absurd (false≢true holds)
number_long bytes signed (leaf.Rect box) holds = absurd (false≢true holds)

pub rect_long : (l : Leaf) → leaf_holds ty.Box4 l ≡ true → length (leaf_bytes ty.Box4 l) ≡ 16
rect_long (leaf.Num n) holds = absurd (false≢true holds)
rect_long (leaf.Text words) holds = absurd (false≢true holds)
rect_long (leaf.Rect box) holds = refl

-- a leaf of a text is its length and its words
pub text_is : (l : Leaf) → leaf_holds ty.Str l ≡ true → (words : List ℕ) × (leaf_bytes ty.Str l ≡ length words ∷ words)
text_is (leaf.Num n) holds = absurd (false≢true holds)
text_is (leaf.Text words) holds = (words, refl)
text_is (leaf.Rect box) holds = absurd (false≢true holds)

pub text_stand : (image : Image) (spot : Spot) (t : FieldType) (l : Leaf) (rest : List ℕ) → t ≡ ty.Str → leaf_holds t l ≡ true → Stand image spot (leaf_bytes t l ++ rest) → (words : List ℕ) × Stand image spot (length words ∷ (words ++ rest))
text_stand image spot t l rest is holds stand =
    let text = text_is l (subst (λ (u : FieldType). leaf_holds u l ≡ true) is holds) in
    (text.0, subst (Stand image spot) (ap (λ (u : FieldType). leaf_bytes u l ++ rest) is ∙ ap (λ (xs : List ℕ). xs ++ rest) text.1) stand)

pub number_length : (t : FieldType) (bytes : ℕ) (signed : Bool) (l : Leaf) → t ≡ ty.Num bytes signed → leaf_holds t l ≡ true → length (leaf_bytes t l) ≡ bytes
number_length t bytes signed l is holds =
    ap (λ (u : FieldType). length (leaf_bytes u l)) is ∙ number_long bytes signed l (subst (λ (u : FieldType). leaf_holds u l ≡ true) is holds)

-- the pair at a place begins there
pub pairs_begin : {A B : Type 0} (bytes : A → B → List ℕ) (test : A → B → Bool) (image : Image) (spot : Spot) (xs : List A) (ys : List B) (rest : List ℕ) (i : ℕ) (x : A) → slice_get xs i ≡ Some x → all_pairs test xs ys ≡ true
    → Stand image spot (pairs_bytes bytes (drop i xs) (drop i ys) ++ rest) → (y : B) × (test x y ≡ true) × Stand image spot (bytes x y ++ (pairs_bytes bytes (drop (i + 1) xs) (drop (i + 1) ys) ++ rest))
pairs_begin bytes test image spot xs ys rest i x e all stand =
    let there = pair_at test xs ys i x e all in
    let next : suc i ≡ i + 1 = omega arith in (
      there.0,
      there.2,
      subst (Stand image spot)
          (ap (λ (zs : List ℕ). zs ++ rest) (bytes_at bytes xs ys i x there.0 e there.1)
          ∙ append_assoc (bytes x there.0) (pairs_bytes bytes (drop (suc i) xs) (drop (suc i) ys)) rest
          ∙ ap (λ (n : ℕ). bytes x there.0 ++ (pairs_bytes bytes (drop n xs) (drop n ys) ++ rest)) next) stand,
    )

-- behind all pairs stands what is left
no_pairs : {A B : Type 0} (bytes : A → B → List ℕ) (ys : List B) → pairs_bytes bytes [] ys ≡ []
no_pairs bytes [] = refl
no_pairs bytes (y ∷ ys) = refl

pub pairs_end : {A B : Type 0} (bytes : A → B → List ℕ) (image : Image) (spot : Spot) (xs : List A) (ys : List B) (rest : List ℕ) (i : ℕ) → length xs ≤ i → Stand image spot (pairs_bytes bytes (drop i xs) (drop i ys) ++ rest) → Stand image spot rest
pairs_end {A = A} bytes image spot xs ys rest i all stand =
    subst (Stand image spot) (ap (λ (zs : List A). pairs_bytes bytes zs (drop i ys) ++ rest) (drop_all i xs all) ∙ ap (λ (zs : List ℕ). zs ++ rest) (no_pairs bytes (drop i ys))) stand

-- the element at a place begins there
pub element_begin : (of : ElementType) (image : Image) (spot : Spot) (es : List Element) (rest : List ℕ) (i : ℕ) → i < length es → list_all (element_fits of) es ≡ true
    → Stand image spot (flat_map (element_bytes of) (drop i es) ++ rest) → (e : Element) × (element_fits of e ≡ true) × Stand image spot (element_bytes of e ++ (flat_map (element_bytes of) (drop (i + 1) es) ++ rest))
element_begin of image spot [] rest i within all stand = absurd (omega arith)
element_begin of image spot (e ∷ es) rest zero within all stand = (
  e,
  first_of (element_fits of e) (list_all (element_fits of) es) all,
  subst (Stand image spot) (append_assoc (element_bytes of e) (flat_map (element_bytes of) es) rest) stand,
)
element_begin of image spot (e ∷ es) rest (suc i) within all stand =
    let later = element_begin of image spot es rest i (omega arith) (second_of (element_fits of e) (list_all (element_fits of) es) all) stand in
    let next : i + 1 ≡ suc i = omega arith in
    let more : suc i + 1 ≡ suc (suc i) = omega arith in (
      later.0,
      later.1,
      subst (Stand image spot)
          (ap (λ (n : ℕ). element_bytes of later.0 ++ (flat_map (element_bytes of) (drop n es) ++ rest)) next
          ∙ sym (ap (λ (n : ℕ). element_bytes of later.0 ++ (flat_map (element_bytes of) (drop n (e ∷ es)) ++ rest)) more)) later.2,
    )

pub elements_end : (of : ElementType) (image : Image) (spot : Spot) (es : List Element) (rest : List ℕ) (i : ℕ) → length es ≤ i → Stand image spot (flat_map (element_bytes of) (drop i es) ++ rest) → Stand image spot rest
elements_end of image spot es rest i all stand =
    subst (Stand image spot) (ap (λ (zs : List Element). flat_map (element_bytes of) zs ++ rest) (drop_all i es all)) stand

-- values by their types
pub leaf_value : (t : FieldType) (v : Value) → value_fits (values.Leaf t) v ≡ true → (l : Leaf) × (v ≡ value.Leaf l) × (leaf_holds t l ≡ true)
leaf_value t (value.Leaf l) fits = (l, refl, fits)
leaf_value t (value.List es) fits = absurd (false≢true fits)
leaf_value t (value.Group ls) fits = absurd (false≢true fits)

pub group_value : (ts : List FieldType) (v : Value) → value_fits (values.Group ts) v ≡ true → (ls : List Leaf) × (v ≡ value.Group ls) × (all_pairs leaf_holds ts ls ≡ true)
group_value ts (value.Leaf l) fits = absurd (false≢true fits)
group_value ts (value.List es) fits = absurd (false≢true fits)
group_value ts (value.Group ls) fits = (ls, refl, fits)

pub vector_value : (of : ElementType) (v : Value) → value_fits (values.Vector of) v ≡ true → (es : List Element) × (v ≡ value.List es) × (list_all (element_fits of) es ≡ true)
vector_value of (value.Leaf l) fits = absurd (false≢true fits)
vector_value of (value.List es) fits = (es, refl, second_of (nat_le (length es) MAX_ELEMENTS) (list_all (element_fits of) es) fits)
vector_value of (value.Group ls) fits = absurd (false≢true fits)

-- behind a struct's leaves
pub group_element : (image : Image) (spot after : Spot) (t : ElementType) (ts : List FieldType) → t ≡ elements.Group ts → Leads leaves_bytes (λ us ls. all_pairs leaf_holds us ls ≡ true) image spot ts after → Leads element_bytes (λ u e. element_fits u e ≡ true) image spot t after
group_element image spot after t ts is leads = subst (λ (u : ElementType). Leads element_bytes (λ w e. element_fits w e ≡ true) image spot u after) (sym is) by_element
  where
    by_element : (e : Element) (rest : List ℕ) → element_fits (elements.Group ts) e ≡ true → Stand image spot (element_bytes (elements.Group ts) e ++ rest) → Stand image after rest
    by_element (element.Leaf l) rest fits stand = absurd (false≢true fits)
    by_element (element.Group ls) rest fits stand = leads ls rest fits stand

pub group_leads : (image : Image) (spot after : Spot) (t : ValueType) (ts : List FieldType) → t ≡ values.Group ts → Leads leaves_bytes (λ us ls. all_pairs leaf_holds us ls ≡ true) image spot ts after → Leads value_bytes (λ u v. value_fits u v ≡ true) image spot t after
group_leads image spot after t ts is leads = subst (λ (u : ValueType). Leads value_bytes (λ w v. value_fits w v ≡ true) image spot u after) (sym is) by_value
  where
    by_value : (v : Value) (rest : List ℕ) → value_fits (values.Group ts) v ≡ true → Stand image spot (value_bytes (values.Group ts) v ++ rest) → Stand image after rest
    by_value (value.Leaf l) rest fits stand = absurd (false≢true fits)
    by_value (value.List es) rest fits stand = absurd (false≢true fits)
    by_value (value.Group ls) rest fits stand = leads ls rest fits stand

-- a vector is its number of elements and their bytes
pub vector_stand : (image : Image) (spot : Spot) (t : ValueType) (of : ElementType) (v : Value) (rest : List ℕ) → t ≡ values.Vector of → value_fits t v ≡ true → Stand image spot (value_bytes t v ++ rest)
    → (es : List Element) × (list_all (element_fits of) es ≡ true) × Stand image spot (length es ∷ (flat_map (element_bytes of) es ++ rest))
vector_stand image spot t of v rest is fits stand =
    by_value v (subst (λ (u : ValueType). value_fits u v ≡ true) is fits) (subst (λ (u : ValueType). Stand image spot (value_bytes u v ++ rest)) is stand)
  where
    by_value : (v : Value) → value_fits (values.Vector of) v ≡ true → Stand image spot (value_bytes (values.Vector of) v ++ rest) → (es : List Element) × (list_all (element_fits of) es ≡ true) × Stand image spot (length es ∷ (flat_map (element_bytes of) es ++ rest))
    by_value (value.Leaf l) fits stand = absurd (false≢true fits)
    by_value (value.List es) fits stand = (es, second_of (nat_le (length es) MAX_ELEMENTS) (list_all (element_fits of) es) fits, stand)
    by_value (value.Group ls) fits stand = absurd (false≢true fits)

-- the steps so far lead to behind a field, and those that are left go on from there
pub record IsFinding (image : Image) (first spot : Spot) (types : List ValueType) (steps : List Step) (at : ℕ) : Type 0 where
  pub start : ℕ
  pub left : AreSteps types start (drop at steps)
  pub ends : behind start (drop at steps) ≡ behind 0 steps
  pub leads : (row : List Value) (rest : List ℕ) → row_fits types row ≡ true → Stand image first (row_bytes types row ++ rest) → Stand image spot (row_bytes (drop start types) (drop start row) ++ rest)

pub finding_begins : (image : Image) (first : Spot) (types : List ValueType) (steps : List Step) → AreSteps types 0 steps → IsFinding image first first types steps 0
finding_begins image first types steps are = record { start = 0; left = are; ends = refl; leads = λ row rest fits stand. stand }

-- the bytes between two fields
pub between_stand : (image : Image) (spot : Spot) (types : List ValueType) (row : List Value) (rest : List ℕ) (start end offset : ℕ) → (between : IsBetween types row start end offset) → Stand image spot (row_bytes (drop start types) (drop start row) ++ rest)
    → Stand image spot (between.bytes ++ (row_bytes (drop end types) (drop end row) ++ rest))
between_stand image spot types row rest start end offset between stand =
    subst (Stand image spot) (ap (λ (xs : List ℕ). xs ++ rest) between.here ∙ append_assoc between.bytes (row_bytes (drop end types) (drop end row)) rest) stand

module _ (image : Image) (first spot : Spot) (types : List ValueType) (steps : List Step) (at : ℕ) (s : Step) (there : slice_get steps at ≡ Some s) (is : IsFinding image first spot types steps at) where
  next_steps : AreSteps types is.start (s ∷ drop (suc at) steps)
  next_steps = subst (AreSteps types is.start) (drop_get steps at s there) is.left

  pub step_within : s.field < length types
  step_within = next_steps.0

  pub step_room : (row : List Value) (rest : List ℕ) → row_fits types row ≡ true → Stand image first (row_bytes types row ++ rest) → spot.place + s.offset < 4294967296
  step_room row rest fits stand =
      let between = next_steps.1 row fits in
      room_for image spot s.offset between.bytes (row_bytes (drop s.field types) (drop s.field row) ++ rest) between.long
      (between_stand image spot types row rest is.start s.field s.offset between (is.leads row rest fits stand))

  pub step_skips : (after : Spot) (row : List Value) (rest : List ℕ) → ((bytes : List ℕ) → s.offset ≤ length bytes → Stand image spot bytes → Stand image after (drop s.offset bytes)) → row_fits types row ≡ true → Stand image first (row_bytes types row ++ rest) → Stand image after (row_bytes (drop s.field types) (drop s.field row) ++ rest)
  step_skips after row rest skips fits stand =
      let between = next_steps.1 row fits in
      skip_front image spot after s.offset between.bytes (row_bytes (drop s.field types) (drop s.field row) ++ rest) between.long skips
      (between_stand image spot types row rest is.start s.field s.offset between (is.leads row rest fits stand))

  pub step_more : (after : Spot) → ((row : List Value) (rest : List ℕ) → row_fits types row ≡ true → Stand image first (row_bytes types row ++ rest) → Stand image after (row_bytes (drop (s.field + 1) types) (drop (s.field + 1) row) ++ rest)) → IsFinding image first after types steps (at + 1)
  step_more after leads =
      let next : suc at ≡ at + 1 = omega arith in
      let one : s.field + 1 ≡ suc s.field = omega arith in
      record {
        start = suc s.field;
        left = subst (λ (n : ℕ). AreSteps types (suc s.field) (drop n steps)) next next_steps.2;
        ends = ap (λ (n : ℕ). behind (suc s.field) (drop n steps)) (sym next) ∙ sym (ap (behind is.start) (drop_get steps at s there)) ∙ is.ends;
        leads = λ row rest fits stand. subst (λ (n : ℕ). Stand image after (row_bytes (drop n types) (drop n row) ++ rest)) one (leads row rest fits stand);
      }

-- behind all steps stands the field of the place
module _ (image : Image) (first spot : Spot) (types : List ValueType) (place : Place) (at : ℕ) (all : length place.steps ≤ at) (is : IsFinding image first spot types place.steps at) (field : ℕ) (found : IsPlace types field place) (row : List Value) (rest : List ℕ) (fits : row_fits types row ≡ true) (stand : Stand image first (row_bytes types row ++ rest)) where
  at_end : is.start ≡ behind 0 place.steps
  at_end = sym (ap (behind is.start) (drop_all at place.steps all)) ∙ is.ends

  between : IsBetween types row is.start field place.offset
  between = subst (λ (n : ℕ). IsBetween types row n field place.offset) (sym at_end) (found.offset row fits)

  pub place_room : spot.place + place.offset < 4294967296
  place_room =
      room_for image spot place.offset between.bytes (row_bytes (drop field types) (drop field row) ++ rest) between.long
      (between_stand image spot types row rest is.start field place.offset between (is.leads row rest fits stand))

  pub place_found : (after : Spot) → ((bytes : List ℕ) → place.offset ≤ length bytes → Stand image spot bytes → Stand image after (drop place.offset bytes)) → Stand image after (row_bytes (drop field types) (drop field row) ++ rest)
  place_found after skips =
      skip_front image spot after place.offset between.bytes (row_bytes (drop field types) (drop field row) ++ rest) between.long skips
      (between_stand image spot types row rest is.start field place.offset between (is.leads row rest fits stand))
