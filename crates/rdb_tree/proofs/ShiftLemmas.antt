-- Cells of two siblings: some move from one to the other, or the second's own goes.
use Rattle.std.proofs.Common.{◌≡◌, ◌⊎◌, ℕ, List, ◌∷◌, ◌++◌, Some, inl, inr, sym, subst}
use Rattle.std.proofs.lemmas.List.{append_assoc}
use Rattle.rdb_pages.specs.Pages.{zero_cell}
use Rattle.rdb_cells.specs.Images.{Image}
use Rattle.rdb_cells.specs.Links.{IsAmong, AreOnce}
use Rattle.rdb_cells.proofs.LinkLemmas.{among_past, among_but, among_back, once_without, once_parts, once_together, among_front}
use Rattle.rdb_tree.specs.Losses.{DropsCells}

pub once_more : (xs : List ℕ) (m : ℕ) (ys : List ℕ) → AreOnce (xs ++ ys) → (¬ IsAmong (xs ++ ys) m) → AreOnce (xs ++ m ∷ ys)
once_more xs m ys once new =
    let parts = once_parts xs ys once in
    once_together xs (m ∷ ys) parts.0 ((λ behind. new (among_back xs ys m behind)), parts.1) (λ n ahead behind. elim behind [
      | inl same ↦ new (subst (IsAmong (xs ++ ys)) (sym same) (among_front xs ys n ahead))
      | inr later ↦ parts.2 n ahead later
    ])

among_mid : (xs : List ℕ) (m : ℕ) (ys : List ℕ) (n : ℕ) → (m ≡ n) ⊎ IsAmong (xs ++ ys) n → IsAmong (xs ++ m ∷ ys) n
among_mid xs m ys n (inl same) = among_back xs (m ∷ ys) n (inl same)
among_mid xs m ys n (inr within) = among_past xs m ys n within

module _ (b : Image) (front moved : List ℕ) (m : ℕ) (back : List ℕ) where
  same_rest : (front ++ moved) ++ back ≡ front ++ (moved ++ back)
  same_rest = append_assoc front moved back

  later : List ℕ
  later = (front ++ moved) ++ m ∷ back

  sooner_in : (n : ℕ) → IsAmong (front ++ m ∷ (moved ++ back)) n → IsAmong ((front ++ moved) ++ m ∷ back) n
  sooner_in n within = elim (among_but front m (moved ++ back) n within) [
    | inl same ↦ among_mid (front ++ moved) m back n (inl same)
    | inr other ↦ among_mid (front ++ moved) m back n (inr (subst (λ (ns : List ℕ). IsAmong ns n) (sym same_rest) other))
  ]

  later_in : (n : ℕ) → IsAmong ((front ++ moved) ++ m ∷ back) n → IsAmong (front ++ m ∷ (moved ++ back)) n
  later_in n within = elim (among_but (front ++ moved) m back n within) [
    | inl same ↦ among_mid front m (moved ++ back) n (inl same)
    | inr other ↦ among_mid front m (moved ++ back) n (inr (subst (λ (ns : List ℕ). IsAmong ns n) same_rest other))
  ]

  -- the moved ones come behind
  pub moved_behind : AreOnce ((front ++ moved) ++ m ∷ back) → DropsCells b ((front ++ moved) ++ m ∷ back) (front ++ m ∷ (moved ++ back))
  moved_behind once =
      let rest = once_without (front ++ moved) m back once in
      record {
        more = sooner_in;
        gone = λ n within. inl (later_in n within);
        once = once_more front m (moved ++ back) (subst AreOnce same_rest rest.0) (λ within. rest.1 (subst (λ (ns : List ℕ). IsAmong ns m) (sym same_rest) within));
      }

  -- the moved ones come before
  pub moved_before : AreOnce (front ++ m ∷ (moved ++ back)) → DropsCells b (front ++ m ∷ (moved ++ back)) ((front ++ moved) ++ m ∷ back)
  moved_before once =
      let rest = once_without front m (moved ++ back) once in
      record {
        more = later_in;
        gone = λ n within. inl (sooner_in n within);
        once = once_more (front ++ moved) m back (subst AreOnce (sym same_rest) rest.0) (λ within. rest.1 (subst (λ (ns : List ℕ). IsAmong ns m) same_rest within));
      }

-- one goes
pub gone_one : (b : Image) (front : List ℕ) (m : ℕ) (back : List ℕ) → b m ≡ Some zero_cell → AreOnce (front ++ m ∷ back) → DropsCells b (front ++ m ∷ back) (front ++ back)
gone_one b front m back blank once = record {
  more = λ n within. among_past front m back n within;
  gone = λ n within. elim (among_but front m back n within) [
    | inl same ↦ inr (subst (λ (k : ℕ). b k ≡ Some zero_cell) same blank)
    | inr other ↦ inl other
  ];
  once = (once_without front m back once).0;
}
