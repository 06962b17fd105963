-- The halves of an overfull node: their shape, their roots, what stands of them, their versions and their cells.
use Rattle.std.proofs.Common.{◌≡◌, zero, suc, ℕ, List, [], ◌∷◌, ◌++◌, length, take, drop, map, slice_get, Some, sym, ap, ap₂, ◌∙◌, arith}
use Rattle.std.proofs.lemmas.List.{length-take-le, length-drop, take-append-drop}
use Rattle.std.proofs.lemmas.List.Concat.{flat_map-append}
use Rattle.std.specs.List.{flat_map}
use Rattle.rdb_pages.specs.declared.cell.CellRef.{CellRef}
use Rattle.rdb_cells.specs.Images.{Image}
use Rattle.rdb_tree.specs.Changes.{cell_of}
use Rattle.rdb_tree.specs.Trees.{BTree, Below, Each, woven, versions, cells, roots, Stands, HasKeys, IsShaped, least_keys}
use Rattle.rdb_tree.proofs.ChildLemmas.{each_take, each_drop, map_take, map_drop}
use Rattle.rdb_tree.proofs.GatherLemmas.{drop_there}
use Rattle.rdb_tree.proofs.PartLemmas.{woven_between}
use Rattle.rdb_tree.proofs.WovenLemmas.{length_map}

-- a list at a place: what stands before, there and behind
pub around : (xs : List CellRef) (n : ℕ) (x : CellRef) → slice_get xs n ≡ Some x → take n xs ++ x ∷ drop (suc n) xs ≡ xs
around xs n x at = ap (λ (ys : List CellRef). take n xs ++ ys) (sym (drop_there xs n x at)) ∙ take-append-drop n xs

-- the halves, and the overfull node that they are of
abbrev pub left_half : (h : ℕ) → CellRef → List CellRef → List (Below h) → BTree h
left_half h at keys children = record { at = at; keys = take 3 keys; children = take 4 children }

abbrev pub right_half : (h : ℕ) → CellRef → List CellRef → List (Below h) → BTree h
right_half h right keys children = record { at = right; keys = drop 4 keys; children = drop 4 children }

abbrev pub overfull : (h : ℕ) → CellRef → List CellRef → List (Below h) → BTree h
overfull h at keys children = record { at = at; keys = keys; children = children }

half_keys : (keys : List CellRef) → length keys ≡ 8 → HasKeys 3 (take 3 keys) × HasKeys 3 (drop 4 keys)
half_keys keys eight =
    let front = length-take-le 3 keys (omega arith) in
    let back = length-drop 4 keys in
    (record { enough = omega arith; fit = omega arith }, record { enough = omega arith; fit = omega arith })

module _ (at right : CellRef) (keys : List CellRef) (eight : length keys ≡ 8) where
  pub leaf_halves : (children : List ⊥) → IsShaped zero least_keys (left_half zero at keys children) × IsShaped zero least_keys (right_half zero right keys children)
  leaf_halves children = half_keys keys eight

  module _ (h : ℕ) (children : List (BTree h)) (nine : length children ≡ 9) where
    pub inner_halves : Each (IsShaped h least_keys) children → IsShaped (suc h) least_keys (left_half (suc h) at keys children) × IsShaped (suc h) least_keys (right_half (suc h) right keys children)
    inner_halves each =
        let halves = half_keys keys eight in
        let front = length-take-le 3 keys (omega arith) in
        let back = length-drop 4 keys in
        let left = length-take-le 4 children (omega arith) in
        let rest = length-drop 4 children in
        ((halves.0, omega arith, each_take (IsShaped h least_keys) 4 children each), (halves.1, omega arith, each_drop (IsShaped h least_keys) 4 children each))

    pub inner_half_versions : (k : CellRef) → slice_get keys 3 ≡ Some k → versions (suc h) (left_half (suc h) at keys children) ++ k ∷ versions (suc h) (right_half (suc h) right keys children) ≡ versions (suc h) (overfull (suc h) at keys children)
    inner_half_versions k there =
        let left = length-take-le 4 children (omega arith) in
        let four = length_map (versions h) (take 4 children) in
        let front = length-take-le 3 keys (omega arith) in
        sym (woven_between (take 3 keys) k (drop 4 keys) (map (versions h) (take 4 children)) (map (versions h) (drop 4 children)) (omega arith))
        ∙ ap₂ woven (around keys 3 k there)
        (ap₂ (λ (xs ys : List (List CellRef)). xs ++ ys) (map_take (versions h) 4 children) (map_drop (versions h) 4 children) ∙ take-append-drop 4 (map (versions h) children))

  pub leaf_half_versions : (children : List ⊥) (k : CellRef) → slice_get keys 3 ≡ Some k → versions zero (left_half zero at keys children) ++ k ∷ versions zero (right_half zero right keys children) ≡ keys
  leaf_half_versions children k there = around keys 3 k there

-- the roots of the halves
pub half_roots : (h : ℕ) (children : List (BTree h)) → (roots (suc h) (take 4 children) ≡ take 4 (roots (suc h) children)) × (roots (suc h) (drop 4 children) ≡ drop 4 (roots (suc h) children))
half_roots h children = (map_take (λ (c : BTree h). c.at) 4 children, map_drop (λ (c : BTree h). c.at) 4 children)

-- the halves stand where their cells were written and the children stand
module _ (image : Image) (at right : CellRef) (keys : List CellRef) where
  pub inner_halves_stand : (h : ℕ) (children : List (BTree h)) → image at.number ≡ Some (cell_of (take 3 keys) (take 4 (roots (suc h) children))) → image right.number ≡ Some (cell_of (drop 4 keys) (drop 4 (roots (suc h) children))) → Each (Stands h image) children →
      Stands (suc h) image (left_half (suc h) at keys children) × Stands (suc h) image (right_half (suc h) right keys children)
  inner_halves_stand h children left behind each =
      let rs = half_roots h children in (
        (left ∙ ap (λ (cs : List CellRef). Some (cell_of (take 3 keys) cs)) (sym rs.0), each_take (Stands h image) 4 children each),
        (behind ∙ ap (λ (cs : List CellRef). Some (cell_of (drop 4 keys) cs)) (sym rs.1), each_drop (Stands h image) 4 children each),
      )

  pub leaf_halves_stand : (children : List ⊥) → image at.number ≡ Some (cell_of (take 3 keys) []) → image right.number ≡ Some (cell_of (drop 4 keys) []) → Stands zero image (left_half zero at keys children) × Stands zero image (right_half zero right keys children)
  leaf_halves_stand children left behind = (left, behind)

-- the cells below the halves are those below the node
pub half_cells : (h : ℕ) (children : List (BTree h)) → flat_map (cells h) (take 4 children) ++ flat_map (cells h) (drop 4 children) ≡ flat_map (cells h) children
half_cells h children = sym (flat_map-append (cells h) (take 4 children) (drop 4 children)) ∙ ap (flat_map (cells h)) (take-append-drop 4 children)
