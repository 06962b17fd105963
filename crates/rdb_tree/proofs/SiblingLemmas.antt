-- Two siblings that share a key or merge: their shape, their versions, their cells, and what stands of them.
use Rattle.std.proofs.Common.{◌≡◌, ◌≤◌, ◌<◌, ◌+◌, ◌-◌, zero, suc, ℕ, List, [], ◌∷◌, ◌++◌, length, length-append, take, drop, map, get_or, refl, sym, ap, ap₂, ◌∙◌, arith}
use Rattle.std.proofs.lemmas.List.{append_assoc, append-nil, map-append, length-take-le, length-drop}
use Rattle.rdb_pages.specs.declared.cell.CellRef.{CellRef}
use Rattle.rdb_cells.specs.Words.{no_ref}
use Rattle.rdb_tree.specs.Trees.{BTree, woven, versions, IsShaped, least_keys}
use Rattle.rdb_tree.proofs.ChildLemmas.{each_take, each_drop}
use Rattle.rdb_tree.proofs.PartLemmas.{woven_between}
use Rattle.rdb_tree.proofs.WovenLemmas.{each_both, length_map}

-- a list without its last, and the last
pub record HasLast (X : Type 0) (xs : List X) : Type 0 where
  pub last : X
  pub taken : take (length xs - 1) xs ++ last ∷ [] ≡ xs
  pub dropped : drop (length xs - 1) xs ≡ last ∷ []

pub has_last : {X : Type 0} (xs : List X) → 0 < length xs → HasLast X xs
has_last {X = X} [] some = absurd (omega arith)
has_last {X = X} (x ∷ []) some = record { last = x; taken = refl; dropped = refl }
has_last {X = X} (x ∷ y ∷ xs) some =
    let rest = has_last (y ∷ xs) (omega arith) in
    let same : length (x ∷ y ∷ xs) - 1 ≡ suc (length (y ∷ xs) - 1) = omega arith in
    record {
      last = rest.last;
      taken = ap (λ (n : ℕ). take n (x ∷ y ∷ xs) ++ rest.last ∷ []) same ∙ ap (λ (zs : List X). x ∷ zs) rest.taken;
      dropped = ap (λ (n : ℕ). drop n (x ∷ y ∷ xs)) same ∙ rest.dropped;
    }

pub last_is : (xs : List CellRef) (has : HasLast CellRef xs) (d : CellRef) → 0 < length xs → get_or xs (length xs - 1) d ≡ has.last
last_is xs has d some = go xs (length xs - 1) has.last has.dropped
  where
    go : (ys : List CellRef) (n : ℕ) (l : CellRef) → drop n ys ≡ l ∷ [] → get_or ys n d ≡ l
    go [] zero l same = cc
    go [] (suc n) l same = cc
    go (y ∷ ys) zero l same = cc
    go (y ∷ ys) (suc n) l same = go ys n l same

-- what becomes of siblings
abbrev pub left_less : (h : ℕ) → BTree h → BTree h
left_less h x = record { at = x.at; keys = take (length x.keys - 1) x.keys; children = take (length x.children - 1) x.children }

abbrev pub right_more : (h : ℕ) → BTree h → CellRef → BTree h → BTree h
right_more h x k y = record { at = y.at; keys = k ∷ y.keys; children = drop (length x.children - 1) x.children ++ y.children }

abbrev pub right_less : (h : ℕ) → BTree h → BTree h
right_less h y = record { at = y.at; keys = drop 1 y.keys; children = drop 1 y.children }

abbrev pub left_more : (h : ℕ) → BTree h → CellRef → BTree h → BTree h
left_more h x k y = record { at = x.at; keys = x.keys ++ k ∷ []; children = x.children ++ take 1 y.children }

abbrev pub both_joined : (h : ℕ) → BTree h → CellRef → BTree h → BTree h
both_joined h x k y = record { at = x.at; keys = x.keys ++ k ∷ y.keys; children = x.children ++ y.children }

-- the last key of the left one goes up
module _ (k : CellRef) where
  left_leaf_list : (x y : BTree zero) → 0 < length x.keys → versions zero (left_less zero x) ++ get_or x.keys (length x.keys - 1) no_ref ∷ versions zero (right_more zero x k y) ≡ versions zero x ++ k ∷ versions zero y
  left_leaf_list x y some =
      let last = has_last x.keys some in
      ap (λ (m : CellRef). take (length x.keys - 1) x.keys ++ m ∷ k ∷ y.keys) (last_is x.keys last no_ref some)
      ∙ sym (append_assoc (take (length x.keys - 1) x.keys) (last.last ∷ []) (k ∷ y.keys))
      ∙ ap (λ (xs : List CellRef). xs ++ k ∷ y.keys) last.taken

  left_inner_list : (h : ℕ) (x y : BTree (suc h)) → 0 < length x.keys → length x.children ≡ length x.keys + 1 → versions (suc h) (left_less (suc h) x) ++ get_or x.keys (length x.keys - 1) no_ref ∷ versions (suc h) (right_more (suc h) x k y) ≡ versions (suc h) x ++ k ∷ versions (suc h) y
  left_inner_list h x y some many =
      let last = has_last x.keys some in
      let child = has_last x.children (omega arith) in
      let kept = take (length x.keys - 1) x.keys in
      let kept_children = take (length x.children - 1) x.children in
      let few = length-take-le (length x.keys - 1) x.keys (omega arith) in
      let few_children = length-take-le (length x.children - 1) x.children (omega arith) in
      let few_parts = length_map (versions h) kept_children in
      let parts = map (versions h) kept_children in
      let moved : drop (length x.children - 1) x.children ++ y.children ≡ child.last ∷ y.children = ap (λ (cs : List (BTree h)). cs ++ y.children) child.dropped in
      let whole : versions (suc h) x ≡ woven kept parts ++ last.last ∷ (versions h child.last ++ []) =
      ap₂ (λ (ks : List CellRef) (cs : List (BTree h)). woven ks (map (versions h) cs)) (sym last.taken) (sym child.taken)
      ∙ ap (woven (kept ++ last.last ∷ [])) (map-append (versions h) kept_children (child.last ∷ []))
      ∙ woven_between kept last.last [] parts (versions h child.last ∷ []) (omega arith) in
      ap (λ (m : CellRef). woven kept parts ++ m ∷ woven (k ∷ y.keys) (map (versions h) (drop (length x.children - 1) x.children ++ y.children))) (last_is x.keys last no_ref some)
      ∙ ap (λ (cs : List (BTree h)). woven kept parts ++ last.last ∷ woven (k ∷ y.keys) (map (versions h) cs)) moved
      ∙ ap (λ (vs : List CellRef). woven kept parts ++ last.last ∷ (vs ++ k ∷ versions (suc h) y)) (sym (append-nil (versions h child.last)))
      ∙ sym (append_assoc (woven kept parts) (last.last ∷ (versions h child.last ++ [])) (k ∷ versions (suc h) y))
      ∙ ap (λ (vs : List CellRef). vs ++ k ∷ versions (suc h) y) (sym whole)

  -- the first key of the right one goes up
  right_leaf_list : (x y : BTree zero) → 0 < length y.keys → versions zero (left_more zero x k y) ++ get_or y.keys 0 no_ref ∷ versions zero (right_less zero y) ≡ versions zero x ++ k ∷ versions zero y
  right_leaf_list x y some = go y.keys some
    where
      go : (ys : List CellRef) → 0 < length ys → (x.keys ++ k ∷ []) ++ get_or ys 0 no_ref ∷ drop 1 ys ≡ x.keys ++ k ∷ ys
      go [] none = absurd (omega arith)
      go (r ∷ rs) more = append_assoc x.keys (k ∷ []) (r ∷ rs)

  right_inner_list : (h : ℕ) (x y : BTree (suc h)) → 0 < length y.keys → length x.children ≡ length x.keys + 1 → length y.children ≡ length y.keys + 1 → versions (suc h) (left_more (suc h) x k y) ++ get_or y.keys 0 no_ref ∷ versions (suc h) (right_less (suc h) y) ≡ versions (suc h) x ++ k ∷ versions (suc h) y
  right_inner_list h x y some many also = go y.keys y.children some (omega arith)
    where
      go : (ys : List CellRef) (cs : List (BTree h)) → 0 < length ys → 0 < length cs → woven (x.keys ++ k ∷ []) (map (versions h) (x.children ++ take 1 cs)) ++ get_or ys 0 no_ref ∷ woven (drop 1 ys) (map (versions h) (drop 1 cs)) ≡ versions (suc h) x ++ k ∷ woven ys (map (versions h) cs)
      go [] cs none one = absurd (omega arith)
      go (r ∷ rs) [] more none = absurd (omega arith)
      go (r ∷ rs) (c ∷ cs) more one =
          let parts = length_map (versions h) x.children in
          ap (λ (ps : List (List CellRef)). woven (x.keys ++ k ∷ []) ps ++ r ∷ woven rs (map (versions h) cs)) (map-append (versions h) x.children (c ∷ []))
          ∙ ap (λ (vs : List CellRef). vs ++ r ∷ woven rs (map (versions h) cs)) (woven_between x.keys k [] (map (versions h) x.children) (versions h c ∷ []) (parts ∙ many))
          ∙ append_assoc (versions (suc h) x) (k ∷ (versions h c ++ [])) (r ∷ woven rs (map (versions h) cs))
          ∙ ap (λ (vs : List CellRef). versions (suc h) x ++ k ∷ (vs ++ r ∷ woven rs (map (versions h) cs))) (append-nil (versions h c))

  -- both in one
  joined_inner_list : (h : ℕ) (x y : BTree (suc h)) → length x.children ≡ length x.keys + 1 → versions (suc h) (both_joined (suc h) x k y) ≡ versions (suc h) x ++ k ∷ versions (suc h) y
  joined_inner_list h x y many =
      ap (woven (x.keys ++ k ∷ y.keys)) (map-append (versions h) x.children y.children)
      ∙ woven_between x.keys k y.keys (map (versions h) x.children) (map (versions h) y.children) (length_map (versions h) x.children ∙ many)

  pub left_list : (h least : ℕ) (x y : BTree h) → IsShaped h least x → 0 < length x.keys → versions h (left_less h x) ++ get_or x.keys (length x.keys - 1) no_ref ∷ versions h (right_more h x k y) ≡ versions h x ++ k ∷ versions h y
  left_list zero least x y shape some = left_leaf_list x y some
  left_list (suc h) least x y shape some = left_inner_list h x y some shape.1

  pub right_list : (h least more : ℕ) (x y : BTree h) → IsShaped h least x → IsShaped h more y → 0 < length y.keys → versions h (left_more h x k y) ++ get_or y.keys 0 no_ref ∷ versions h (right_less h y) ≡ versions h x ++ k ∷ versions h y
  right_list zero least more x y shape also some = right_leaf_list x y some
  right_list (suc h) least more x y shape also some = right_inner_list h x y some shape.1 also.1

  pub joined_list : (h least : ℕ) (x y : BTree h) → IsShaped h least x → versions h (both_joined h x k y) ≡ versions h x ++ k ∷ versions h y
  joined_list zero least x y shape = refl
  joined_list (suc h) least x y shape = joined_inner_list h x y shape.1

  -- their shape
  pub left_shapes : (h : ℕ) (x y : BTree h) → IsShaped h least_keys x → least_keys < length x.keys → IsShaped h 2 y → length y.keys ≤ 6 → IsShaped h least_keys (left_less h x) × IsShaped h least_keys (right_more h x k y)
  left_shapes zero x y shape many short few =
      let kept = length-take-le (length x.keys - 1) x.keys (omega arith) in
      let fit = shape.fit in
      let enough = short.enough in
      (record { enough = omega arith; fit = omega arith }, record { enough = omega arith; fit = omega arith })
  left_shapes (suc h) x y shape many short few =
      let kept = length-take-le (length x.keys - 1) x.keys (omega arith) in
      let fit = shape.0.fit in
      let enough = short.0.enough in
      let count = shape.1 in
      let also = short.1 in
      let kept_children = length-take-le (length x.children - 1) x.children (omega arith) in
      let moved = length-drop (length x.children - 1) x.children in
      let both = length-append (drop (length x.children - 1) x.children) y.children in (
        (record { enough = omega arith; fit = omega arith }, omega arith, each_take (IsShaped h least_keys) (length x.children - 1) x.children shape.2),
        (record { enough = omega arith; fit = omega arith }, omega arith, each_both (IsShaped h least_keys) (drop (length x.children - 1) x.children) y.children (each_drop (IsShaped h least_keys) (length x.children - 1) x.children shape.2) short.2),
      )

  pub right_shapes : (h : ℕ) (x y : BTree h) → IsShaped h 2 x → length x.keys ≤ 6 → IsShaped h least_keys y → least_keys < length y.keys → IsShaped h least_keys (left_more h x k y) × IsShaped h least_keys (right_less h y)
  right_shapes zero x y short few shape many =
      let kept = length-drop 1 y.keys in
      let more = length-append x.keys (k ∷ []) in
      let fit = shape.fit in
      let enough = short.enough in
      (record { enough = omega arith; fit = omega arith }, record { enough = omega arith; fit = omega arith })
  right_shapes (suc h) x y short few shape many =
      let kept = length-drop 1 y.keys in
      let more = length-append x.keys (k ∷ []) in
      let fit = shape.0.fit in
      let enough = short.0.enough in
      let count = short.1 in
      let also = shape.1 in
      let moved = length-take-le 1 y.children (omega arith) in
      let rest = length-drop 1 y.children in
      let both = length-append x.children (take 1 y.children) in (
        (record { enough = omega arith; fit = omega arith }, omega arith, each_both (IsShaped h least_keys) x.children (take 1 y.children) short.2 (each_take (IsShaped h least_keys) 1 y.children shape.2)),
        (record { enough = omega arith; fit = omega arith }, omega arith, each_drop (IsShaped h least_keys) 1 y.children shape.2),
      )

  pub joined_shape : (h : ℕ) (x y : BTree h) → IsShaped h 2 x → IsShaped h 2 y → length x.keys + length y.keys ≤ 6 → IsShaped h least_keys (both_joined h x k y)
  joined_shape zero x y left right few =
      let more = length-append x.keys (k ∷ y.keys) in
      let enough = left.enough in
      record { enough = omega arith; fit = omega arith }
  joined_shape (suc h) x y left right few =
      let more = length-append x.keys (k ∷ y.keys) in
      let enough = left.0.enough in
      let also = right.0.enough in
      let count = left.1 in
      let other = right.1 in
      let both = length-append x.children y.children in
      (record { enough = omega arith; fit = omega arith }, omega arith, each_both (IsShaped h least_keys) x.children y.children left.2 right.2)
