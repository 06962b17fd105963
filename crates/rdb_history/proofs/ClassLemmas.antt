-- What is of a class of one set is of none of a set that has nothing in common with it.
use Rattle.std.proofs.Common.{◌≡◌, ℕ, ◌+◌, ◌-◌, ◌<◌, ◌≤◌, ◌%◌, ◌^◌, ◌==◌, Bool, true, false, cond, ◌&&◌, ◌||◌, List, [], ◌∷◌, length, take, slice_get, filter_map, Option, Some, None, min, bit_and, bit_or, refl, sym, ap, subst, ◌∙◌, arith, inl, inr, ◌⊎◌}
use Rattle.std.specs.List.{list_any}
use Rattle.std.specs.Option.{option_map_or}
use Rattle.std.specs.Int.{bit_at}
use Rattle.std.proofs.lemmas.Bool.Decides.{nat_tests}
use Rattle.std.proofs.lemmas.Nat.Bits.{bit_at_and, bit_at_or, bit_at-zero, bit_at-pow_same}
use Rattle.rdb_base.specs.Operations.{class_of}
use Rattle.rdb_base.specs.declared.operation.Op.{Op}
use Rattle.rdb_base.specs.declared.operation.Reply.{Reply}
use Rattle.rdb_base.specs.declared.journal.Story.{Story}
use Rattle.rdb_base.specs.declared.journal.Entry.{Entry}
use Rattle.rdb_schema.specs.declared.schema.Schema.{Schema}
use Rattle.rdb_model.specs.Touch.{rests, written_by}
use Rattle.rdb_model.specs.Validation.{was_written}
use Rattle.rdb_history.specs.Rows.{last_row, done_in}
use Rattle.rdb_history.specs.RowTouch.{rests_on_change, touches_by_rows, touched_by_rows}
use Rattle.rdb_history.specs.Kept.{HasClasses}
use Rattle.rdb_history.specs.Classes.{HasClass, LooksAt}
use Rattle.rdb_history.proofs.ListLemmas.{get_pushed, take_more}

-- two sets that are apart don't both have a class
pub not_in_both : (classes others class : ℕ) → (bit_and classes others == 0) ≡ true → HasClass classes class → HasClass others class → ⊥
not_in_both classes others class apart first second =
    let none : bit_and classes others ≡ 0 = grind (arith, nat_tests) in
    let bit : bit_at (bit_and classes others) (class % 64) ≡ 0 = ap (λ n. bit_at n (class % 64)) none ∙ bit_at-zero (class % 64) in
    let both : bit_at (bit_and classes others) (class % 64) ≡ min (bit_at classes (class % 64)) (bit_at others (class % 64)) = bit_at_and classes others (class % 64) in
    let ones : min (bit_at classes (class % 64)) (bit_at others (class % 64)) ≡ 1 = ap (λ n. min n (bit_at others (class % 64))) first ∙ ap (min 1) second in
    omega (arith, bit, both, ones)

same_class : (a b : ℕ) → a ≡ b → (a % 64 == b % 64) ≡ true
same_class a b same = subst (λ (n : ℕ). (a % 64 == n % 64) ≡ true) same (itself (a % 64))
  where
    itself : (n : ℕ) → (n == n) ≡ true
    itself n = grind (arith, nat_tests)

-- a set has the classes of the objects that were written
any_class : (objects : List (ℕ × ℕ)) (object : ℕ × ℕ) → list_any (λ o. (o.0 == object.0) && (o.1 == object.1)) objects ≡ true → list_any (λ o. o.0 % 64 == object.0 % 64) objects ≡ true
any_class [] object e = (cc)
any_class (o ∷ os) object e = go (o.0 == object.0) (o.1 == object.1) refl (any_class os object) e
  where
    either : (b : Bool) → list_any (λ o. o.0 % 64 == object.0 % 64) os ≡ true → (b || list_any (λ o. o.0 % 64 == object.0 % 64) os) ≡ true
    either true f = refl
    either false f = f

    go : (b c : Bool) → (o.0 == object.0) ≡ b → (list_any (λ o. (o.0 == object.0) && (o.1 == object.1)) os ≡ true → list_any (λ o. o.0 % 64 == object.0 % 64) os ≡ true)
        → ((b && c) || list_any (λ o. (o.0 == object.0) && (o.1 == object.1)) os) ≡ true → ((o.0 % 64 == object.0 % 64) || list_any (λ o. o.0 % 64 == object.0 % 64) os) ≡ true
    go true true f rest g =
        let one : o.0 ≡ object.0 = grind (arith, nat_tests) in
        ap (λ b. b || list_any (λ o. o.0 % 64 == object.0 % 64) os) (same_class o.0 object.0 one)
    go true false f rest g = either (o.0 % 64 == object.0 % 64) (rest g)
    go false c f rest g = either (o.0 % 64 == object.0 % 64) (rest g)

below_64 : (n : ℕ) → n % 64 < 64
below_64 n = omega arith

pub has_class : (classes : ℕ) (done : List (Op × Reply)) (object : ℕ × ℕ) → HasClasses classes done → was_written done object ≡ true → HasClass classes object.0
has_class classes done object has written =
    has (object.0 % 64) (below_64 object.0) ∙ ap (λ b. cond b 1 0) (any_class (filter_map written_by done) object written)

-- a set with one class more
bit_is : (n i : ℕ) → bit_at n i ≤ 1
bit_is n i = omega arith

pub looks_more : (classes own place : ℕ) (done : List (Op × Reply)) (d : Op × Reply) → slice_get done place ≡ Some d → own ≡ 2 ^ (class_of d.0 % 64) → LooksAt classes (take place done) → LooksAt (bit_or classes own) (take (place + 1) done)
looks_more classes own place done d at is looks k x stands = go (get_pushed (take place done) d x k (ap (λ l. slice_get l k) (sym (take_more done place d at)) ∙ stands))
  where
    go : (slice_get (take place done) k ≡ Some x) ⊎ ((k ≡ length (take place done)) × (d ≡ x)) → HasClass (bit_or classes own) (class_of x.0)
    go (inl f) =
        let first : bit_at classes (class_of x.0 % 64) ≡ 1 = looks k x f in
        let second = bit_is own (class_of x.0 % 64) in
        let both = bit_at_or classes own (class_of x.0 % 64) in
        omega (arith, first, second, both)
    go (inr f) =
        let bit : bit_at own (class_of d.0 % 64) ≡ 1 = ap (λ n. bit_at n (class_of d.0 % 64)) is ∙ bit_at-pow_same (class_of d.0 % 64) in
        let second = bit_is classes (class_of d.0 % 64) in
        let both = bit_at_or classes own (class_of d.0 % 64) in
        let has : HasClass (bit_or classes own) (class_of d.0) = omega (arith, bit, second, both) in
        subst (λ (y : Op × Reply). HasClass (bit_or classes own) (class_of y.0)) f.1 has

-- the set of one class has it
pub one_class : (own class : ℕ) → own ≡ 2 ^ (class % 64) → HasClass own class
one_class own class is = ap (λ n. bit_at n (class % 64)) is ∙ bit_at-pow_same (class % 64)

-- a commit of none of the classes that a story looks at touches none of its operations
module _ (schema : Schema) (es : List Entry) (commit classes looked_at : ℕ) (has : HasClasses classes (done_in es commit)) (apart : (bit_and classes looked_at == 0) ≡ true) where
  none_rests : (objects : List (ℕ × ℕ)) (d : Op × Reply) → list_any (λ o. o.0 % 64 == class_of d.0 % 64) objects ≡ false → list_any (rests_on_change schema es commit d) objects ≡ false
  none_rests [] d none = refl
  none_rests (o ∷ os) d none = go (o.0 == class_of d.0) refl (o.0 % 64 == class_of d.0 % 64) refl (none_rests os d) none
    where
      go : (b : Bool) → (o.0 == class_of d.0) ≡ b → (a : Bool) → (o.0 % 64 == class_of d.0 % 64) ≡ a → (list_any (λ o. o.0 % 64 == class_of d.0 % 64) os ≡ false → list_any (rests_on_change schema es commit d) os ≡ false) → (a || list_any (λ o. o.0 % 64 == class_of d.0 % 64) os) ≡ false
          → (((b && option_map_or (rests schema d.0 d.1 o.1) (last_row es (commit - 1) o) false) || (b && option_map_or (rests schema d.0 d.1 o.1) (last_row es commit o) false))
          || list_any (rests_on_change schema es commit d) os) ≡ false
      go b e true f rest g = (cc)
      go true e false f rest g =
          let same : o.0 ≡ class_of d.0 = grind (arith, nat_tests) in
          let is : (o.0 % 64 == class_of d.0 % 64) ≡ true = same_class o.0 (class_of d.0) same in
          absurd (cc)
      go false e false f rest g = rest g

  none_of_class : (class : ℕ) → HasClass looked_at class → list_any (λ o. o.0 % 64 == class % 64) (filter_map written_by (done_in es commit)) ≡ false
  none_of_class class looked = go (list_any (λ o. o.0 % 64 == class % 64) (filter_map written_by (done_in es commit))) refl
    where
      go : (b : Bool) → list_any (λ o. o.0 % 64 == class % 64) (filter_map written_by (done_in es commit)) ≡ b → b ≡ false
      go true e = absurd (not_in_both classes looked_at class apart (has (class % 64) (below_64 class) ∙ ap (λ b. cond b 1 0) e) looked)
      go false e = refl

  pub passed_by : (story : Story) → LooksAt looked_at story.done → (k : ℕ) → touched_by_rows schema es commit story k ≡ false
  passed_by story looks k = go (slice_get story.done (k - 1)) refl
    where
      go : (o : Option (Op × Reply)) → slice_get story.done (k - 1) ≡ o → option_map_or (touches_by_rows schema es commit) o false ≡ false
      go None e = refl
      go (Some d) e = none_rests (filter_map written_by (done_in es commit)) d (none_of_class (class_of d.0) (looks (k - 1) d e))
