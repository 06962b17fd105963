-- What the look-ups of a hash and of a tree give, said alike.
use Rattle.std.proofs.Common.{◌≡◌, false, cond, List, [], ◌∷◌, Option, Some, None, refl, subst, ◌∙◌}
use Rattle.std.specs.Prelude.{filter, IsPermutation, Result, Ok, Err, IfOk}
use Rattle.std.proofs.lemmas.List.Sorted.{IsPermutation-refl, IsPermutation-sym}
use Rattle.std.specs.Option.{option_map, option_map_or}
use Rattle.std.specs.Ordering.{is_some_and, is_eq}
use Rattle.rdb_base.specs.declared.value.Value.{Value}
use Rattle.rdb_pages.specs.declared.cell.CellRef.{CellRef}
use Rattle.rdb_cells.specs.Images.{Image}
use Rattle.rdb_cells.specs.Index.{Nature, WhateverListed}
use Rattle.rdb_cells.specs.Keys.{Version, Meaning, says, key_order}
use Rattle.rdb_hash.specs.Lookup.{IsFound, has_key}
use Rattle.rdb_tree.specs.Lookups.{has_key as tree_has_key}
use Rattle.rdb_store.specs.Lookups.{AreWithKey}

-- a tree's test of a key is a hash's
same_test : (keys : Meaning) (image : Image) (key : List Value) (r : CellRef) → tree_has_key (says keys image) key r ≡ has_key keys image key r
same_test keys image key r = go (keys.version_of image r.number)
  where
    go : (o : Option Version) → is_some_and is_eq (option_map (λ v. key_order v key None) o) ≡ option_map_or (λ v. is_eq (key_order v key None)) o false
    go None = refl
    go (Some v) = refl

same_found : (keys : Meaning) (image : Image) (key : List Value) (listed : List CellRef) → filter (tree_has_key (says keys image) key) listed ≡ filter (has_key keys image key) listed
same_found keys image key [] = refl
same_found keys image key (r ∷ rs) = λ i. cond (same_test keys image key r i) (r ∷ same_found keys image key rs i) (same_found keys image key rs i)

found_in_hash : (index : Nature) (keys : Meaning) (image : Image) (key : List Value) (found : List CellRef) → IsFound index keys image key found → AreWithKey index keys image key found
found_in_hash index keys image key found is listed nodes lists = IsPermutation-sym _ _ (is listed nodes lists).these

found_in_tree : (index : Nature) (keys : Meaning) (image : Image) (key : List Value) (found : List CellRef) → WhateverListed index keys image (λ listed nodes. found ≡ filter (tree_has_key (says keys image) key) listed) → AreWithKey index keys image key found
found_in_tree index keys image key found is listed nodes lists =
    subst (λ (l : List CellRef). IsPermutation found l) (is listed nodes lists ∙ same_found keys image key listed) (IsPermutation-refl found)

-- the same of an answer, if memory sufficed
pub answered_by_hash : {E : Type 0} (index : Nature) (keys : Meaning) (image : Image) (key : List Value) (r : Result (List CellRef) E) → IfOk r (IsFound index keys image key) → IfOk r (AreWithKey index keys image key)
answered_by_hash index keys image key (Ok found) is = found_in_hash index keys image key found is
answered_by_hash index keys image key (Err e) is = tt

pub answered_by_tree : {E : Type 0} (index : Nature) (keys : Meaning) (image : Image) (key : List Value) (r : Result (List CellRef) E) → IfOk r (λ found. WhateverListed index keys image (λ listed nodes. found ≡ filter (tree_has_key (says keys image) key) listed)) → IfOk r (AreWithKey index keys image key)
answered_by_tree index keys image key (Ok found) is = found_in_tree index keys image key found is
answered_by_tree index keys image key (Err e) is = tt
