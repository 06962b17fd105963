-- Whether a version has a key.
use Rattle.std.proofs.Common.{◌≡◌, ◌≢◌, ◌↔◌, List, Option, Some, Bool, true, false, IsTrue, refl, sym, ap, ◌∙◌}
use Rattle.std.proofs.lemmas.Bool.{false≢true}
use Rattle.std.specs.declared.cmp.Ordering.{Ordering}
use Rattle.std.specs.declared.cmp.Ordering.TheVariants.{Less, Equal, Greater}
use Rattle.std.specs.Option.{option_map_or}
use Rattle.std.specs.Ordering.{is_eq}
use Rattle.rdb_base.specs.declared.value.Value.{Value}
use Rattle.rdb_base.specs.Order.{row_order}
use Rattle.rdb_base.proofs.OrderLemmas.{row_level}
use Rattle.rdb_pages.specs.declared.cell.CellRef.{CellRef}
use Rattle.rdb_cells.specs.Images.{Image}
use Rattle.rdb_cells.specs.Keys.{Meaning, Version, hash_by}
use Rattle.rdb_cells.proofs.KeyLemmas.{level_when_equal}
use Rattle.rdb_hash.specs.Lookup.{has_key}

by_cases : (o : Ordering) (r : Bool) (P : Type 0) → (o ≡ Equal → P) → (P → o ≡ Equal) → (IsTrue r ↔ P) → r ≡ is_eq o
by_cases Equal true P to back test = refl
by_cases Equal false P to back test = absurd (false≢true (test.1 (to refl)))
by_cases Less true P to back test = cc (back (test.0 refl))
by_cases Less false P to back test = refl
by_cases Greater true P to back test = cc (back (test.0 refl))
by_cases Greater false P to back test = refl

-- two keys are level where they are equal
pub level_when : (a b : List Value) (r : Bool) → (IsTrue r ↔ (a ≡ b)) → r ≡ is_eq (row_order a b)
level_when a b r test = by_cases (row_order a b) r (a ≡ b) (row_level a b) (level_when_equal a b) test

module _ (keys : Meaning) (image : Image) (key : List Value) (at : CellRef) (v : Version) (is : keys.version_of image at.number ≡ Some v) where
  has_it : has_key keys image key at ≡ is_eq (row_order v.key key)
  has_it = ap (λ (o : Option Version). option_map_or (λ w. is_eq (row_order w.key key)) o false) is

  pub same_key : (r : Bool) → (IsTrue r ↔ (v.key ≡ key)) → r ≡ has_key keys image key at
  same_key r test = level_when v.key key r test ∙ sym has_it

  -- another hash, another key
  pub other_hash : hash_by keys v.key ≢ hash_by keys key → has_key keys image key at ≡ false
  other_hash apart = has_it ∙ sym (level_when v.key key false ((λ none. absurd (false≢true none)), (λ same. absurd (apart (ap (hash_by keys) same)))))
