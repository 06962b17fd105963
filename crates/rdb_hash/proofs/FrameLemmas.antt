-- The nodes of a hash index as a table changes, or a bucket: those before the table, its own, those of the buckets before the
-- one that changes, and the rest.
use Rattle.std.proofs.Common.{◌≡◌, ◌≢◌, ◌<◌, ◌++◌, zero, suc, ℕ, List, [], ◌∷◌, Some, refl, sym, ap, subst, ◌∙◌}
use Rattle.std.proofs.lemmas.List.{append_assoc}
use Rattle.rdb_pages.specs.declared.cell.Cell.{Cell}
use Rattle.rdb_pages.specs.Pages.{zero_cell}
use Rattle.rdb_cells.specs.Images.{Image, Writes}
use Rattle.rdb_cells.specs.Links.{Node, StandApart}
use Rattle.rdb_cells.proofs.LinkLemmas.{rewritten, given_back}
use Rattle.rdb_hash.specs.Shape.{Held, Buckets, IsWritten, IsTableCell, own_node}
use Rattle.rdb_hash.proofs.NodeLemmas.{inserted}
use Rattle.rdb_hash.proofs.ShapeLemmas.{never_zero}

-- the node of a table that has a cell
abbrev pub table_node : ℕ → List ℕ → Node Held
table_node n links = record { number = n; element = Buckets; links = links }

own_is : (n : ℕ) (links : List ℕ) → n ≢ 0 → own_node n links ≡ table_node n links ∷ []
own_is zero links some = absurd (some refl)
own_is (suc n) links some = refl

own_none : (n : ℕ) (links : List ℕ) → n ≡ 0 → own_node n links ≡ []
own_none zero links none = refl
own_none (suc n) links none = cc

-- the four parts
abbrev pub frame : List (Node Held) → List (Node Held) → List (Node Held) → List (Node Held) → List (Node Held)
frame front own left rest = front ++ (own ++ (left ++ rest))

module _ (front left : List (Node Held)) where
  regroup : (own rest : List (Node Held)) → frame front own left rest ≡ (front ++ (own ++ left)) ++ rest
  regroup own rest =
      ap (λ (xs : List (Node Held)). front ++ xs) (sym (append_assoc own left rest))
      ∙ sym (append_assoc front (own ++ left) rest)

  -- one node more or less in the rest
  module _ (own : List (Node Held)) (before : List (Node Held)) (x : Node Held) (rest : List (Node Held)) where
    grouped : frame front own left (before ++ x ∷ rest) ≡ ((front ++ (own ++ left)) ++ before) ++ x ∷ rest
    grouped = regroup own (before ++ x ∷ rest) ∙ sym (append_assoc (front ++ (own ++ left)) before (x ∷ rest))

    fewer : frame front own left (before ++ rest) ≡ ((front ++ (own ++ left)) ++ before) ++ rest
    fewer = regroup own (before ++ rest) ∙ sym (append_assoc (front ++ (own ++ left)) before rest)

    module _ (a b : Image) (n : ℕ) (cell : Cell) (writes : Writes a b n cell) where
      -- an entry comes, goes, or is rewritten
      pub entry_comes : x.number ≡ n → 0 < n → a n ≡ Some zero_cell → IsWritten cell x.element x.links → StandApart IsWritten a (frame front own left (before ++ rest)) → StandApart IsWritten b (frame front own left (before ++ x ∷ rest))
      entry_comes is some free written apart =
          subst (λ (xs : List (Node Held)). StandApart IsWritten b xs) (sym grouped)
          (inserted IsWritten a b n cell writes never_zero ((front ++ (own ++ left)) ++ before) x rest is some free written
          (subst (λ (xs : List (Node Held)). StandApart IsWritten a xs) fewer apart))

      pub entry_goes : x.number ≡ n → StandApart IsWritten a (frame front own left (before ++ x ∷ rest)) → StandApart IsWritten b (frame front own left (before ++ rest))
      entry_goes is apart =
          subst (λ (xs : List (Node Held)). StandApart IsWritten b xs) (sym fewer)
          (given_back IsWritten a b n cell writes ((front ++ (own ++ left)) ++ before) x rest is
          (subst (λ (xs : List (Node Held)). StandApart IsWritten a xs) grouped apart))

      pub entry_leads : (y : Node Held) → x.number ≡ n → y.number ≡ n → IsWritten cell y.element y.links → StandApart IsWritten a (frame front own left (before ++ x ∷ rest)) → StandApart IsWritten b (frame front own left (before ++ y ∷ rest))
      entry_leads y was is written apart =
          subst (λ (xs : List (Node Held)). StandApart IsWritten b xs) (sym (regroup own (before ++ y ∷ rest) ∙ sym (append_assoc (front ++ (own ++ left)) before (y ∷ rest))))
          (rewritten IsWritten a b n cell writes ((front ++ (own ++ left)) ++ before) x y rest was is written
          (subst (λ (xs : List (Node Held)). StandApart IsWritten a xs) grouped apart))

  -- the table
  module _ (rest : List (Node Held)) (a b : Image) (n : ℕ) (cell : Cell) (writes : Writes a b n cell) where
    pub table_leads : (k : ℕ) (links others : List ℕ) → k ≡ n → k ≢ 0 → IsTableCell cell others → StandApart IsWritten a (frame front (own_node k links) left rest) → StandApart IsWritten b (frame front (own_node k others) left rest)
    table_leads k links others same some written apart =
        subst (λ (own : List (Node Held)). StandApart IsWritten b (frame front own left rest)) (sym (own_is k others some))
        (rewritten IsWritten a b n cell writes front (table_node k links) (table_node k others) (left ++ rest) same same written
        (subst (λ (own : List (Node Held)). StandApart IsWritten a (frame front own left rest)) (own_is k links some) apart))

    pub table_goes : (k : ℕ) (links others : List ℕ) → k ≡ n → k ≢ 0 → StandApart IsWritten a (frame front (own_node k links) left rest) → StandApart IsWritten b (frame front (own_node 0 others) left rest)
    table_goes k links others same some apart =
        given_back IsWritten a b n cell writes front (table_node k links) (left ++ rest) same
        (subst (λ (own : List (Node Held)). StandApart IsWritten a (frame front own left rest)) (own_is k links some) apart)

    pub table_comes : (k : ℕ) (links others : List ℕ) → k ≡ 0 → 0 < n → n ≢ 0 → a n ≡ Some zero_cell → IsTableCell cell others → StandApart IsWritten a (frame front (own_node k links) left rest) → StandApart IsWritten b (frame front (own_node n others) left rest)
    table_comes k links others none some apart_from_none free written apart =
        subst (λ (own : List (Node Held)). StandApart IsWritten b (frame front own left rest)) (sym (own_is n others apart_from_none))
        (inserted IsWritten a b n cell writes never_zero front (table_node n others) (left ++ rest) refl some free written
        (subst (λ (own : List (Node Held)). StandApart IsWritten a (frame front own left rest)) (own_none k links none) apart))
