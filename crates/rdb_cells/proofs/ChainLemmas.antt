-- Chains in cells: an image holds one from a number on; an element comes to the front, goes from there, or from behind another.
use Rattle.std.proofs.Common.{◌≡◌, ◌<◌, ◌++◌, ℕ, List, [], ◌∷◌, Some, refl, sym, subst, ◌∙◌}
use Rattle.rdb_pages.specs.declared.cell.Cell.{Cell}
use Rattle.rdb_pages.specs.Pages.{zero_cell}
use Rattle.rdb_cells.specs.Images.{Image, Writes}
use Rattle.rdb_cells.specs.Links.{IsAmong, Node, Format, IsNeverZero, IsFunctional, Placed, numbers, start, segment, IsChain}
use Rattle.rdb_cells.proofs.LinkLemmas.{taken, given_back, unlinked, rewritten_chain, one_chain, apart_beside, same_start}

module _ {A : Type 0} (format : Format A) where
  pub same_chain : IsFunctional format → (image : Image) (first : ℕ) (xs ys : List (Placed A)) → IsChain format image first xs → IsChain format image first ys → xs ≡ ys
  same_chain one image first xs ys left right = one_chain format one image xs ys (sym left.begins ∙ right.begins) left.nodes.stand right.nodes.stand

  module _ (before after : Image) (n : ℕ) (cell : Cell) (writes : Writes before after n cell) where
    -- a write of another cell
    pub chain_beside : (first : ℕ) (xs : List (Placed A)) → (¬ IsAmong (numbers (segment xs 0)) n) → IsChain format before first xs → IsChain format after first xs
    chain_beside first xs beside chain = record { begins = chain.begins; nodes = apart_beside format before after n cell writes (segment xs 0) beside chain.nodes }

    -- an element comes to the front, in a cell that was free
    pub pushed : IsNeverZero format → (element : A) (first : ℕ) (xs : List (Placed A)) → 0 < n → before n ≡ Some zero_cell → format cell element (first ∷ []) → IsChain format before first xs → IsChain format after n (record { number = n; element = element } ∷ xs)
    pushed never element first xs some free written chain =
        let node : Node A = record { number = n; element = element; links = start xs 0 ∷ [] } in
        record {
          begins = refl;
          nodes = taken format before after n cell writes never node (segment xs 0) refl some free (subst (λ (k : ℕ). format cell element (k ∷ [])) chain.begins written) chain.nodes;
        }

    -- the first element goes, whatever is written to its cell
    pub popped : (x : Placed A) (xs : List (Placed A)) → x.number ≡ n → IsChain format before x.number (x ∷ xs) → IsChain format after (start xs 0) xs
    popped x xs is chain = record {
      begins = refl;
      nodes = given_back format before after n cell writes [] (record { number = x.number; element = x.element; links = start xs 0 ∷ [] }) (segment xs 0) is chain.nodes;
    }

    -- an element goes from behind another, which leads past it now
    pub dropped : (first : ℕ) (xs : List (Placed A)) (p x : Placed A) (ys : List (Placed A)) → p.number ≡ n → format cell p.element (start ys 0 ∷ []) → IsChain format before first (xs ++ p ∷ x ∷ ys) → IsChain format after first (xs ++ p ∷ ys)
    dropped first xs p x ys is written chain = record {
      begins = chain.begins ∙ begins_alike xs;
      nodes = unlinked format before after n cell writes xs p x ys is written chain.nodes;
    }
      where
        begins_alike : (xs : List (Placed A)) → start (xs ++ p ∷ x ∷ ys) 0 ≡ start (xs ++ p ∷ ys) 0
        begins_alike [] = refl
        begins_alike (z ∷ zs) = refl

    -- an element of the chain is rewritten
    pub replaced : (first : ℕ) (xs : List (Placed A)) (x y : Placed A) (ys : List (Placed A)) → x.number ≡ n → y.number ≡ n → format cell y.element (start ys 0 ∷ []) → IsChain format before first (xs ++ x ∷ ys) → IsChain format after first (xs ++ y ∷ ys)
    replaced first xs x y ys was is written chain = record {
      begins = chain.begins ∙ sym (same_start xs x y ys 0 (is ∙ sym was));
      nodes = rewritten_chain format before after n cell writes xs x y ys was is written chain.nodes;
    }
