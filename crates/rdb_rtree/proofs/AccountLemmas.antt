-- What a change takes of the cells that can be taken, and of the plan, and that it leaves the cells of rows and headers.
use Rattle.std.proofs.Common.{◌≡◌, ◌≤◌, ◌+◌, ◌⊎◌, ℕ, List, [], ◌∷◌, ◌++◌, length, length-append, Option, Some, inl, inr, refl, sym, ap₂, subst, ◌∙◌, arith}
use Rattle.std.proofs.Permutation.{which}
use Rattle.rdb_pages.specs.declared.cell.Cell.{Cell}
use Rattle.rdb_pages.specs.declared.cell.CellRef.{CellRef}
use Rattle.rdb_pages.specs.Pages.{zero_cell}
use Rattle.rdb_cells.specs.declared.kind.Kind.TheVariants as kind
use Rattle.rdb_cells.specs.Images.{Image}
use Rattle.rdb_cells.specs.Keys.{HasNoVersionCell}
use Rattle.rdb_cells.specs.Links.{IsAmong}
use Rattle.rdb_cells.specs.Records.{first_of}
use Rattle.rdb_cells.specs.Words.{HasKind}
use Rattle.rdb_cells.specs.Work.{Work, reading, IsLeft, TakesAtMost, TakesNone}
use Rattle.rdb_cells.proofs.LinkLemmas.{among_either, among_front, among_back, once_together}
use Rattle.rdb_cells.proofs.PlainLemmas.{one_kind}
use Rattle.rdb_cells.proofs.VersionCellLemmas.{no_version, others_written, itself, further}
use Rattle.rdb_cells.proofs.WorkLemmas.{put_reads, put_says, put_takes_none, put_longer, none_at_most, at_most_then, lowest_none, lowest_then, took_one, took_lowest, left_blank}
use Rattle.rdb_rtree.specs.Changes.{with_cell, with_taken, IsLowest, IsAccount}

pub node_bare : (image : Image) (n : ℕ) → HasKind image kind.RtreeNode n → HasNoVersionCell image n
node_bare image n has = no_version image kind.RtreeNode n has (λ same. absurd (omega arith)) (λ same. absurd (omega arith))

pub head_bare : (image : Image) (n : ℕ) → HasKind image kind.IndexHead n → HasNoVersionCell image n
head_bare image n has = no_version image kind.IndexHead n has (λ same. absurd (omega arith)) (λ same. absurd (omega arith))

pub zero_bare : (image : Image) (n : ℕ) → image n ≡ Some zero_cell → HasNoVersionCell image n
zero_bare image n blank = no_version image kind.Free n (zero_cell, blank, refl) (λ same. absurd (omega arith)) (λ same. absurd (omega arith))

-- a node, and a head, can't be taken
pub node_spent : (w : Work) (n : ℕ) → HasKind (reading w) kind.RtreeNode n → ¬ IsLeft w n
node_spent w n has left =
    let same = one_kind (reading w) kind.RtreeNode kind.Free n has (zero_cell, (left_blank w n left).zero, refl) in
    absurd (omega arith)

pub head_spent : (w : Work) (n : ℕ) → HasKind (reading w) kind.IndexHead n → ¬ IsLeft w n
head_spent w n has left =
    let same = one_kind (reading w) kind.IndexHead kind.Free n has (zero_cell, (left_blank w n left).zero, refl) in
    absurd (omega arith)

-- nothing was done
pub account_first : (w : Work) (own : List ℕ) → IsAccount w w own [] 0
account_first w own =
    let none : TakesNone w w = λ n. (λ left. left, λ left. left) in
    record {
      lowest = lowest_none w w [] none (λ n within. absurd within);
      most = none_at_most w w none;
      left = λ n within. absurd within;
      once = tt;
      places = omega arith;
      says = λ n out new. refl;
      goes_on = record { below = refl; classes = refl; class = refl; room = refl };
      versions = itself (reading w);
    }

-- a cell was planned that is none of a version, and can't be taken
pub account_put : (w : Work) (at : CellRef) (cell : Cell) → (¬ IsLeft w at.number) → HasNoVersionCell (reading w) at.number → HasNoVersionCell (reading (with_cell w at cell)) at.number → IsAccount w (with_cell w at cell) (at.number ∷ []) [] 1
account_put w at cell spent was now =
    let none = put_takes_none w at cell spent in
    record {
      lowest = lowest_none w (with_cell w at cell) [] none (λ n within. absurd within);
      most = none_at_most w (with_cell w at cell) none;
      left = λ n within. absurd within;
      once = tt;
      places = put_longer w.pairs (record { at = at; cell = cell });
      says = λ n out new. elim (put_says w at cell n) [ inl same ↦ same | inr is ↦ absurd (out (inl (sym is))) ];
      goes_on = record { below = refl; classes = refl; class = refl; room = refl };
      versions = others_written (reading w) (reading (with_cell w at cell)) (λ n. elim (which n at.number) [
        | inl same ↦ inr (subst (HasNoVersionCell (reading w)) (sym same) was, subst (HasNoVersionCell (reading (with_cell w at cell))) (sym same) now)
        | inr apart ↦ inl ((put_reads w at cell).elsewhere n apart)
      ]);
    }

-- the lowest cell was taken and planned
pub account_take : (w : Work) (at : CellRef) (cell : Cell) → IsLowest w at → HasNoVersionCell (reading (with_cell (with_taken w at) at cell)) at.number → IsAccount w (with_cell (with_taken w at) at cell) [] (at.number ∷ []) 1
account_take w at cell lowest now = record {
  lowest = took_lowest w at cell lowest;
  most = took_one w at cell lowest;
  left = λ n within. elim within [ inl same ↦ subst (IsLeft w) same lowest.untaken | inr none ↦ absurd none ];
  once = (λ none. none, tt);
  places = put_longer w.pairs (record { at = at; cell = cell });
  says = λ n out new. elim (put_says (with_taken w at) at cell n) [ inl same ↦ same | inr is ↦ absurd (new (inl (sym is))) ];
  goes_on = record { below = refl; classes = refl; class = refl; room = refl };
  versions = others_written (reading w) (reading (with_cell (with_taken w at) at cell)) (λ n. elim (which n at.number) [
    | inl same ↦ inr (
      subst (HasNoVersionCell (reading w)) (sym same) (zero_bare (reading w) at.number (left_blank w at.number lowest.untaken).zero),
      subst (HasNoVersionCell (reading (with_cell (with_taken w at) at cell))) (sym same) now,
    )
    | inr apart ↦ inl ((put_reads (with_taken w at) at cell).elsewhere n apart)
  ]);
}

-- what was no own cell, and not taken, reads as before
pub reads_same : (a b : Work) (own fresh : List ℕ) (count : ℕ) → IsAccount a b own fresh count → (n : ℕ) → (¬ IsAmong own n) → (¬ IsAmong fresh n) → reading b n ≡ reading a n
reads_same a b own fresh count account n out new = ap₂ (λ (o : Option Cell) (image : Image). first_of o (image n)) (account.says n out new) account.goes_on.below

-- more own cells, and more places
pub account_within : (a b : Work) (own more_own fresh : List ℕ) (count more : ℕ) → IsAccount a b own fresh count → count ≤ more → ((n : ℕ) → IsAmong own n → IsAmong more_own n) → IsAccount a b more_own fresh more
account_within a b own more_own fresh count more account within all =
    let places = account.places in
    record {
      lowest = account.lowest;
      most = account.most;
      left = account.left;
      once = account.once;
      places = omega arith;
      says = λ n out new. account.says n (λ own_n. out (all n own_n)) new;
      goes_on = account.goes_on;
      versions = account.versions;
    }

-- one change after another
pub account_then : (a b c : Work) (own_a own_b own fresh_a fresh_b : List ℕ) (count_a count_b : ℕ) → IsAccount a b own_a fresh_a count_a → IsAccount b c own_b fresh_b count_b → ((n : ℕ) → IsAmong own_a n → IsAmong own n) → ((n : ℕ) → IsAmong own_b n → IsAmong own n ⊎ IsAmong fresh_a n) → IsAccount a c own (fresh_a ++ fresh_b) (count_a + count_b)
account_then a b c own_a own_b own fresh_a fresh_b count_a count_b first second in_a in_b =
    let one = first.places in
    let two = second.places in
    record {
      lowest = lowest_then fresh_a fresh_b a b c first.lowest second.lowest;
      most = subst (λ (k : ℕ). TakesAtMost k a c) (sym (length-append fresh_a fresh_b)) (at_most_then (length fresh_a) (length fresh_b) a b c first.most second.most);
      left = λ n within. elim (among_either fresh_a fresh_b n within) [
        | inl early ↦ first.left n early
        | inr late ↦ ((first.lowest.left n).0 (second.left n late)).0
      ];
      once = once_together fresh_a fresh_b first.once second.once (λ n early late. ((first.lowest.left n).0 (second.left n late)).1 early);
      places = omega arith;
      says = λ n out new.
          second.says n (λ within. elim (in_b n within) [ inl own_n ↦ out own_n | inr early ↦ new (among_front fresh_a fresh_b n early) ]) (λ late. new (among_back fresh_a fresh_b n late))
          ∙ first.says n (λ within. out (in_a n within)) (λ early. new (among_front fresh_a fresh_b n early));
      goes_on = record {
        below = second.goes_on.below ∙ first.goes_on.below;
        classes = second.goes_on.classes ∙ first.goes_on.classes;
        class = second.goes_on.class ∙ first.goes_on.class;
        room = second.goes_on.room ∙ first.goes_on.room;
      };
      versions = further (reading a) (reading b) (reading c) first.versions second.versions;
    }
