-- A key against the fields of an index, one after another.
use Rattle.std.proofs.Common.{◌≡◌, ℕ, ◌+◌, ◌<◌, ◌≤◌, Bool, true, false, ◌&&◌, nat_eq, List, [], ◌∷◌, length, get_or, drop, Option, Some, None, slice_get, sym, ap, ◌∙◌, arith}
use Rattle.std.specs.List.{cons_option, filter_map}
use Rattle.std.proofs.lemmas.List.{at_drop_more, drop_more, drop_all}
use Rattle.std.proofs.lemmas.Bool.{cases_lt}
use Rattle.std.proofs.lemmas.Bool.Decides.{nat_tests}
use Rattle.std.proofs.Common.{inl, inr}
use Rattle.rdb_base.specs.declared.value.Value.{Value}
use Rattle.rdb_schema.specs.declared.schema.Field.{Field}
use Rattle.rdb_schema.specs.declared.schema.Schema.{Schema}
use Rattle.rdb_schema.specs.Values.{holds, values_hold}

-- without fields a key has to have ended
ended : (schema : Schema) (vs : List Value) (place : ℕ) → place ≤ length vs → nat_eq place (length vs) ≡ values_hold schema [] (drop place vs)
ended schema [] place le =
    let here : nat_eq place 0 ≡ true = grind (arith, nat_tests) in
    here ∙ ap (values_hold schema []) (sym (drop_all place [] (omega arith)))
ended schema (v ∷ vs) place le = elim (cases_lt place (length (v ∷ vs))) [
  | inl lt ↦
      let before : nat_eq place (length (v ∷ vs)) ≡ false = grind (arith, nat_tests) in
      before ∙ ap (values_hold schema []) (sym (drop_more (v ∷ vs) place v lt))
  | inr ge ↦
      let here : nat_eq place (length (v ∷ vs)) ≡ true = grind (arith, nat_tests) in
      here ∙ ap (values_hold schema []) (sym (drop_all place (v ∷ vs) ge))
]

module _ (schema : Schema) (fields : List Field) (numbers : List ℕ) (key : List Value) (i place : ℕ) where
  -- the fields at the numbers from a place on begin with the one there, if there is one
  fields_more : (field : Option Field) → i < length numbers → field ≡ slice_get fields (get_or numbers i 0) → filter_map (slice_get fields) (drop i numbers) ≡ cons_option field (filter_map (slice_get fields) (drop (i + 1) numbers))
  fields_more field lt is = at_drop_more (filter_map (slice_get fields)) numbers i 0 lt ∙ ap (λ f. cons_option f (filter_map (slice_get fields) (drop (i + 1) numbers))) (sym is)

  -- the test of what is left
  abbrev pub left : Bool
  left = values_hold schema (filter_map (slice_get fields) (drop i numbers)) (drop place key)

  -- a key that has ended doesn't hold where a field is left
  pub held_past : (field : Field) → i < length numbers → Some field ≡ slice_get fields (get_or numbers i 0) → length key ≤ place → left ≡ false
  held_past field lt is past =
      ap (λ fs. values_hold schema fs (drop place key)) (fields_more (Some field) lt is)
      ∙ ap (λ vs. values_hold schema (field ∷ filter_map (slice_get fields) (drop (i + 1) numbers)) vs) (drop_all place key past)

  -- where both go on, the value has to hold, and what is left
  pub held_at : (field : Field) (value : Value) → i < length numbers → Some field ≡ slice_get fields (get_or numbers i 0) → place < length key → value ≡ get_or key place value → left ≡ (holds schema field.ty value && values_hold schema (filter_map (slice_get fields) (drop (i + 1) numbers)) (drop (place + 1) key))
  held_at field value lt is in_range is_value =
      ap (λ fs. values_hold schema fs (drop place key)) (fields_more (Some field) lt is)
      ∙ ap (λ vs. values_hold schema (field ∷ filter_map (slice_get fields) (drop (i + 1) numbers)) vs) (drop_more key place value in_range)
      ∙ ap (λ v. values_hold schema (field ∷ filter_map (slice_get fields) (drop (i + 1) numbers)) (v ∷ drop (place + 1) key)) (sym is_value)

  -- a number without a field adds nothing
  pub held_skip : i < length numbers → None ≡ slice_get fields (get_or numbers i 0) → left ≡ values_hold schema (filter_map (slice_get fields) (drop (i + 1) numbers)) (drop place key)
  held_skip lt is = ap (λ fs. values_hold schema fs (drop place key)) (fields_more None lt is)

  -- past the numbers the key has to have ended
  pub held_end : (n : ℕ) → length numbers ≤ i → place ≤ length key → n ≡ length key → nat_eq place n ≡ left
  held_end n over in_range is =
      ap (nat_eq place) is ∙ ended schema key place in_range ∙ ap (λ ns. values_hold schema (filter_map (slice_get fields) ns) (drop place key)) (sym (drop_all i numbers over))

-- one more value that holds, or the first that doesn't
pub holds_on : (a b m whole : Bool) → m ≡ (a && b) → a ≡ true → m ≡ whole → b ≡ whole
holds_on a b m whole e t w = ap (λ x. x && b) (sym t) ∙ sym e ∙ w

pub fails_on : (a b m whole : Bool) → m ≡ (a && b) → a ≡ false → m ≡ whole → false ≡ whole
fails_on a b m whole e t w = ap (λ x. x && b) (sym t) ∙ sym e ∙ w
