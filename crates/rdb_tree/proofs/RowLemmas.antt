-- Runs of references in an array, and the keys and children of a node's cell.
use Rattle.std.proofs.Common.{◌≡◌, ◌≤◌, ◌+◌, ◌-◌, suc, ℕ, List, [], ◌∷◌, ◌++◌, length, length-append, take, drop, refl, sym, ap, ◌∙◌, arith}
use Rattle.std.proofs.lemmas.List.{take_at, append_assoc, drop-replicate, length-take}
use Rattle.std.proofs.lemmas.Slice.{take-put_mid}
use Rattle.std.specs.Prelude.{replicate, nat_eq}
use borrow.Author.Tests.{ne_eqb}
use borrow.Rule.Slice.PartMut.{put_mid, post_of}
use Rattle.rdb_pages.specs.declared.cell.CellRef.{CellRef}
use Rattle.rdb_cells.specs.Words.{no_ref}
use Rattle.rdb_tree.specs.Trees.{is_empty}

-- three runs that were copied to an array one after another
module _ (front middle back blank : List CellRef) (first second count m n : ℕ) (f : first ≡ length front) (s : second ≡ first + length middle) (c : count ≡ second + length back) where
  once : take first (front ++ blank) ≡ front
  once = take_at front blank first (sym f)

  two : List CellRef
  two = put_mid first n (front ++ blank) middle

  room_once : first ≤ length (front ++ blank)
  room_once = let long = length-append front blank in omega arith

  twice : take second (put_mid first n (front ++ blank) middle) ≡ front ++ middle
  twice = take-put_mid first n (front ++ blank) middle second s room_once ∙ ap (λ (xs : List CellRef). xs ++ middle) once

  room_twice : second ≤ length (put_mid first n (front ++ blank) middle)
  room_twice =
      let outer = length-append (take first (front ++ blank)) (middle ++ post_of first n (front ++ blank)) in
      let inner = length-append middle (post_of first n (front ++ blank)) in
      let here = ap (length {A = CellRef}) once in
      omega arith

  pub three_runs : take count (put_mid second m (put_mid first n (front ++ blank) middle) back) ≡ front ++ (middle ++ back)
  three_runs =
      take-put_mid second m (put_mid first n (front ++ blank) middle) back count c room_twice
      ∙ ap (λ (xs : List CellRef). xs ++ back) twice
      ∙ append_assoc front middle back

-- the rest of an array behind a run
pub rest_blank : (size : ℕ) (refs array : List CellRef) → array ≡ replicate size no_ref → drop (length refs) array ≡ replicate (size - length refs) no_ref
rest_blank size refs array same = ap (drop (length refs)) same ∙ drop-replicate (length refs) size no_ref

pub empty_or : (refs : List CellRef) → (nat_eq (length refs) 0) ≡ is_empty refs
empty_or [] = refl
empty_or (r ∷ refs) = ne_eqb (suc (length refs)) 0 (λ same. absurd (omega arith))

-- a part from the front on is no longer than what was taken
pub take_within : (n : ℕ) (refs front : List CellRef) → front ≡ take n refs → length front ≤ n
take_within n refs front same = let long = length-take n refs in let both = ap (length {A = CellRef}) same in omega arith
