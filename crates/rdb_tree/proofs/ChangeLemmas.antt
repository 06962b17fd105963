-- Nodes as they are read, and with what was raised.
use Rattle.std.proofs.Common.{◌≡◌, ◌≤◌, ◌<◌, ◌+◌, ◌-◌, ◌⊎◌, zero, suc, ℕ, List, [], ◌∷◌, ◌++◌, length, length-append, take, drop, get_or, slice_get, true, false, Option, Some, IsSome, inl, inr, refl, sym, ap, subst, ◌∙◌, arith}
use Rattle.std.proofs.lemmas.Bool.{false≢true}
use Rattle.std.proofs.lemmas.List.{length-take-le, length-drop}
use Rattle.std.specs.Prelude.{nat_eq, min}
use Rattle.rdb_cells.specs.Words.{no_ref}
use borrow.Author.Tests.{ne_eqb}
use Rattle.rdb_pages.specs.declared.cell.Cell.{Cell}
use Rattle.rdb_pages.specs.declared.cell.CellRef.{CellRef}
use Rattle.rdb_cells.specs.declared.formats.tree.TreeNode.{TreeNode}
use Rattle.rdb_cells.specs.Images.{Image, IsCell}
use Rattle.rdb_cells.specs.TreeFormat.{IsTreeNode, tree_node_cell, most_keys}
use Rattle.rdb_cells.specs.Work.{Work, reading}
use Rattle.rdb_tree.specs.Changes.{cell_of, with_cell, Siblings, IsNodeAt, FitsKeys, FitsPlace, replaced_at, without, raised_keys, raised_children}
use Rattle.rdb_tree.specs.Trees.{node_with, keys_in, children_in}
use Rattle.std.proofs.Permutation.{which}
use Rattle.rdb_cells.proofs.WorkLemmas.{put_reads}
use Rattle.rdb_tree.proofs.WovenLemmas.{get_there}
use Rattle.rdb_tree.proofs.RowLemmas.{take_within}
use Rattle.rdb_tree.proofs.NodeLemmas.{cell_there, node_proper, keys_back, children_back}

pub few_children : (keys children : List CellRef) → length keys ≤ 7 → FitsKeys keys children → length children ≤ 8
few_children keys children few (inl none) = let same = ap (length {A = CellRef}) none in omega arith
few_children keys children few (inr many) = omega arith

module _ (image : Image) (at : CellRef) (keys children : List CellRef) (is : IsNodeAt image at keys children) where
  pub node_children_few : length children ≤ 8
  node_children_few = few_children keys children is.few is.fits

  module _ (node : TreeNode) (reads : (n : TreeNode) → IsTreeNode n → image at.number ≡ Some (tree_node_cell n) → node ≡ n) where
    pub node_read : node ≡ node_with keys children
    node_read = reads (node_with keys children) (node_proper keys children is.few node_children_few) is.here

    pub node_few : node.count ≤ most_keys
    node_few = subst (λ (n : TreeNode). n.count ≤ most_keys) (sym node_read) is.few

    pub node_keys : keys_in node ≡ keys
    node_keys = ap keys_in node_read ∙ keys_back keys children

    pub node_children : children_in node ≡ children
    node_children = ap children_in node_read ∙ children_back keys children is.fits

  pub node_cell : IsCell image at.number
  node_cell = cell_there image at.number (cell_of keys children) is.here

-- an empty list, and one that isn't
pub nil_if : (xs : List CellRef) → nat_eq (length xs) 0 ≡ true → [] ≡ xs
nil_if [] e = refl
nil_if (x ∷ xs) e = absurd (false≢true (sym (ne_eqb (suc (length xs)) 0 (λ same. absurd (omega arith))) ∙ e))

pub raised_some : (place : ℕ) (right : CellRef) (xs : List CellRef) → nat_eq (length xs) 0 ≡ false → take (place + 1) xs ++ right ∷ drop (place + 1) xs ≡ raised_children place right xs
raised_some place right [] e = absurd (false≢true (sym e))
raised_some place right (x ∷ xs) e = refl

pub some_place : (place : ℕ) (xs : List CellRef) → FitsPlace place xs → nat_eq (length xs) 0 ≡ false → place + 1 ≤ length xs
some_place place xs (inl none) e = absurd (false≢true (sym e ∙ ap (λ (ys : List CellRef). nat_eq (length ys) 0) none))
some_place place xs (inr below) e = omega arith

-- how many keys and children there are with what was raised
pub one_key_more : (place : ℕ) (key : CellRef) (keys : List CellRef) → place ≤ length keys → length (raised_keys place key keys) ≡ length keys + 1
one_key_more place key keys within =
    let both = length-append (take place keys) (key ∷ drop place keys) in
    let front = length-take-le place keys within in
    let back = length-drop place keys in
    omega arith

pub raised_fits : (place : ℕ) (key right : CellRef) (keys children : List CellRef) → place ≤ length keys → FitsKeys keys children → FitsKeys (raised_keys place key keys) (raised_children place right children)
raised_fits place key right keys [] within fits = inl refl
raised_fits place key right keys (c ∷ cs) within (inl none) = cc
raised_fits place key right keys (c ∷ cs) within (inr many) =
    let more = one_key_more place key keys within in
    let both = length-append (take (place + 1) (c ∷ cs)) (right ∷ drop (place + 1) (c ∷ cs)) in
    let front = length-take-le (place + 1) (c ∷ cs) (omega arith) in
    let back = length-drop (place + 1) (c ∷ cs) in
    inr (omega arith)

pub fits_place : (place : ℕ) (keys children : List CellRef) → place ≤ length keys → FitsKeys keys children → FitsPlace place children
fits_place place keys children within (inl none) = inl none
fits_place place keys children within (inr many) = inr (omega arith)

-- what is a cell stays one
pub still_cell : (w : Work) (at : CellRef) (cell : Cell) (n : ℕ) → IsCell (reading w) n → IsCell (reading (with_cell w at cell)) n
still_cell w at cell n there = elim (which n at.number) [
  | inl same ↦ subst (λ (m : ℕ). IsCell (reading (with_cell w at cell)) m) (sym same) (cell_there (reading (with_cell w at cell)) at.number cell (put_reads w at cell).here)
  | inr other ↦ subst (λ (o : Option Cell). IsSome o) (sym ((put_reads w at cell).elsewhere n other)) there
]

pub below_there : {X : Type 0} (xs : List X) (n : ℕ) (x : X) → slice_get xs n ≡ Some x → n < length xs
below_there [] n x at = cc
below_there (y ∷ ys) zero x at = omega arith
below_there (y ∷ ys) (suc n) x at = let rest = below_there ys n x at in omega arith

-- the siblings at a place of slices
module _ (image : Image) (keys children : List CellRef) (place : ℕ) (s : Siblings image keys children place) where
  pub key_below : place < length keys
  key_below = below_there keys place s.between s.is_between

  pub child_below : place + 1 < length children
  child_below = let below = below_there children (suc place) s.right s.is_right in omega arith

  pub between_is : (d : CellRef) → get_or keys place d ≡ s.between
  between_is d = get_there keys place s.between d s.is_between

  pub left_is : (d : CellRef) → get_or children place d ≡ s.left
  left_is d = get_there children place s.left d s.is_left

  pub right_is : (d : CellRef) → get_or children (place + 1) d ≡ s.right
  right_is d = let same : suc place ≡ place + 1 = omega arith in subst (λ (n : ℕ). get_or children n d ≡ s.right) same (get_there children (suc place) s.right d s.is_right)

pub first_dropped : (n : ℕ) (xs : List CellRef) (d : CellRef) → get_or (drop n xs) 0 d ≡ get_or xs n d
first_dropped zero xs d = refl
first_dropped (suc n) [] d = refl
first_dropped (suc n) (x ∷ xs) d = first_dropped n xs d

pub length_replaced : (place : ℕ) (other : CellRef) (xs : List CellRef) → place < length xs → length (replaced_at place other xs) ≡ length xs
length_replaced place other xs below =
    let both = length-append (take place xs) (other ∷ drop (suc place) xs) in
    let front = length-take-le place xs (omega arith) in
    let back = length-drop (suc place) xs in
    omega arith

pub length_without : (place : ℕ) (xs : List CellRef) → place < length xs → length (without place xs) + 1 ≡ length xs
length_without place xs below =
    let both = length-append (take place xs) (drop (suc place) xs) in
    let front = length-take-le place xs (omega arith) in
    let back = length-drop (suc place) xs in
    omega arith

-- how many children siblings have
few_of : (keys children : List CellRef) (most : ℕ) → FitsKeys keys children → length keys + 1 ≤ most → length children ≤ most
few_of keys children most (inl none) few = let same = ap (length {A = CellRef}) none in omega arith
few_of keys children most (inr many) few = omega arith

module _ (image : Image) (keys children : List CellRef) (place : ℕ) (s : Siblings image keys children place) where
  pub left_moved : length s.right_keys < 7 → length (drop (length s.left_children - 1) s.left_children ++ s.right_children) ≤ 8
  left_moved few =
      let both = length-append (drop (length s.left_children - 1) s.left_children) s.right_children in
      let front = length-drop (length s.left_children - 1) s.left_children in
      let back = few_of s.right_keys s.right_children 7 s.right_node.fits (omega arith) in
      omega arith

  pub right_moved : length s.left_keys < 7 → length (s.left_children ++ take 1 s.right_children) ≤ 8
  right_moved few =
      let both = length-append s.left_children (take 1 s.right_children) in
      let back = take_within 1 s.right_children (take 1 s.right_children) refl in
      let front = few_of s.left_keys s.left_children 7 s.left_node.fits (omega arith) in
      omega arith

  pub all_children : length s.left_keys + length s.right_keys < 7 → length (s.left_children ++ s.right_children) ≤ 8
  all_children few = by_kind s.alike
    where
      by_kind : ((s.left_children ≡ []) × (s.right_children ≡ [])) ⊎ ((length s.left_children ≡ length s.left_keys + 1) × (length s.right_children ≡ length s.right_keys + 1)) → length (s.left_children ++ s.right_children) ≤ 8
      by_kind (inl none) =
          let both = length-append s.left_children s.right_children in
          let front = ap (length {A = CellRef}) none.0 in
          let back = ap (length {A = CellRef}) none.1 in
          omega arith
      by_kind (inr many) =
          let both = length-append s.left_children s.right_children in
          let front = many.0 in
          let back = many.1 in
          omega arith

  -- as they are read
  module _ (left right : TreeNode) where
    pub left_keys_read : left ≡ node_with s.left_keys s.left_children → keys_in left ≡ s.left_keys
    left_keys_read read = ap keys_in read ∙ keys_back s.left_keys s.left_children

    pub left_children_read : left ≡ node_with s.left_keys s.left_children → children_in left ≡ s.left_children
    left_children_read read = ap children_in read ∙ children_back s.left_keys s.left_children s.left_node.fits

    pub right_keys_read : right ≡ node_with s.right_keys s.right_children → keys_in right ≡ s.right_keys
    right_keys_read read = ap keys_in read ∙ keys_back s.right_keys s.right_children

    pub right_children_read : right ≡ node_with s.right_keys s.right_children → children_in right ≡ s.right_children
    right_children_read read = ap children_in read ∙ children_back s.right_keys s.right_children s.right_node.fits

taken_none : (n : ℕ) → take {A = CellRef} n [] ≡ []
taken_none zero = refl
taken_none (suc n) = refl

dropped_none : (n : ℕ) → drop {A = CellRef} n [] ≡ []
dropped_none zero = refl
dropped_none (suc n) = refl

-- the first child, if any
pub first_taken : (xs ys : List CellRef) → ys ≡ xs → take (min (length ys) 1) xs ≡ take 1 xs
first_taken [] ys same = taken_none (min (length ys) 1)
first_taken (x ∷ xs) ys same =
    let long = ap (length {A = CellRef}) same in
    let one : min (length ys) 1 ≡ 1 = omega arith in
    ap (λ (n : ℕ). take n (x ∷ xs)) one

pub rest_dropped : (xs ys : List CellRef) → ys ≡ xs → drop (min (length ys) 1) xs ≡ drop 1 xs
rest_dropped [] ys same = dropped_none (min (length ys) 1)
rest_dropped (x ∷ xs) ys same =
    let long = ap (length {A = CellRef}) same in
    let one : min (length ys) 1 ≡ 1 = omega arith in
    ap (λ (n : ℕ). drop n (x ∷ xs)) one

pub taken_first : (xs : List CellRef) → get_or (take 1 xs) 0 no_ref ≡ get_or xs 0 no_ref
taken_first [] = refl
taken_first (x ∷ xs) = refl
