-- The trees of two nodes written below one, and the other cell given back; or below two again.
use Rattle.std.proofs.Common.{◌≡◌, ◌≢◌, ◌≤◌, ◌++◌, ℕ, List, [], ◌∷◌, length, Some, inl, inr, refl, sym, ap, subst, ◌∙◌, arith}
use Rattle.std.proofs.lemmas.List.{append-nil, length-map}
use Rattle.std.proofs.lemmas.List.Sorted.{IsPermutation-refl}
use Rattle.std.specs.Prelude.{IsPermutation}
use Rattle.rdb_pages.specs.declared.cell.Cell.{Cell}
use Rattle.rdb_pages.specs.declared.cell.CellRef.{CellRef}
use Rattle.rdb_pages.specs.Pages.{zero_cell}
use Rattle.rdb_cells.specs.declared.kind.Kind.TheVariants as kind
use Rattle.rdb_cells.specs.Keys.{Sayings}
use Rattle.rdb_cells.specs.Links.{IsAmong}
use Rattle.rdb_cells.specs.Words.{HasKind}
use Rattle.rdb_cells.specs.Work.{Work, reading}
use Rattle.rdb_cells.proofs.WorkLemmas.{put_reads}
use Rattle.rdb_rtree.specs.Changes.{cell_of, with_cell, cells_below, versions_below, IsToShare, AreShared}
use Rattle.rdb_rtree.specs.RtreeLaws.{all_stand_still}
use Rattle.rdb_rtree.specs.Trees.{RTree, entry_of, Stands, IsShaped, least_entries}
use Rattle.rdb_rtree.specs.declared.entry.Entry.{Entry}
use Rattle.rdb_rtree.proofs.AccountLemmas.{node_bare, zero_bare, node_spent, account_put, account_then}
use Rattle.rdb_rtree.proofs.CountLemmas.{count_cons, count_append, listed_append, numbers_permute, versions_permute}
use Rattle.rdb_rtree.proofs.ListLemmas.{each_permutes, each_front, each_back, parted, ArePartsOf}
use Rattle.rdb_rtree.proofs.SettleLemmas.{IsWritten}
use Rattle.rdb_rtree.proofs.WrittenLemmas.{written_stands, written_shaped, written_kind, count_both, listed_both, count_ordered, listed_ordered, in_first, in_second}

entry_there : (was now : List Entry) (r : Entry) (at : CellRef) → r.at ≡ at → now ≡ was ++ r ∷ [] → now ≡ was ++ record { at = at; cover = r.cover } ∷ []
entry_there was now r at at_is pushed = pushed ∙ ap (λ (q : CellRef). was ++ record { at = q; cover = r.cover } ∷ []) at_is

module _ (said : Sayings) (w : Work) (at other : CellRef) (level h : ℕ) (ts : List (RTree h)) (entries : List Entry) (is : IsToShare said w at other level h ts entries) where
  apart : other.number ≢ at.number
  apart same = is.once.0 (inl same)

  -- the first cell is written after the second
  module _ (cell second : Cell) where
    at_kept : reading (with_cell w other second) at.number ≡ reading w at.number
    at_kept = (put_reads w other second).elsewhere at.number (λ same. apart (sym same))

    at_held : HasKind (reading (with_cell w other second)) kind.RtreeNode at.number
    at_held = (is.held.0, at_kept ∙ is.held.1, is.held.2)

    here : reading (with_cell (with_cell w other second) at cell) at.number ≡ Some cell
    here = (put_reads (with_cell w other second) at cell).here

    there : reading (with_cell (with_cell w other second) at cell) other.number ≡ Some second
    there = (put_reads (with_cell w other second) at cell).elsewhere other.number apart ∙ (put_reads w other second).here

    frame : (n : ℕ) → IsAmong (cells_below h ts) n → reading (with_cell (with_cell w other second) at cell) n ≡ reading w n
    frame n within =
        (put_reads (with_cell w other second) at cell).elsewhere n (λ same. is.once.0 (inr (subst (IsAmong (cells_below h ts)) same within)))
        ∙ (put_reads w other second).elsewhere n (λ same. is.once.1.0 (subst (IsAmong (cells_below h ts)) same within))

  -- all entries fit into one node
  module _ (r : Entry) (written : IsWritten level entries at r) (was now : List Entry) (pushed : now ≡ was ++ r ∷ []) where
    pub shared_one : AreShared said w (with_cell (with_cell w other zero_cell) at (cell_of level r.cover entries)) at other h ts was now
    shared_one =
        let cell = cell_of level r.cover entries in
        record {
          gone = other.number ∷ [];
          nodes = record { at = at; cover = r.cover; below = ts } ∷ [];
          entries = entry_there was now r at written.at_is pushed;
          sound = record {
            stand = (
              written_stands said level h ts entries r.cover is.level_is is.entries_are (reading (with_cell (with_cell w other zero_cell) at (cell_of level r.cover entries))) at written.proper (here (cell_of level r.cover entries) zero_cell)
                  (all_stand_still (reading w) (reading (with_cell (with_cell w other zero_cell) at (cell_of level r.cover entries))) h ts (frame (cell_of level r.cover entries) zero_cell) is.sound.stand),
              tt,
            );
            shaped = (written_shaped said level h ts entries r.cover is.level_is is.entries_are at 4 is.enough written.covers is.sound.shaped, tt);
          };
          list = subst (IsPermutation (versions_below h ts)) (sym (append-nil (versions_below h ts))) (IsPermutation-refl (versions_below h ts));
          places = numbers_permute (other.number ∷ at.number ∷ (cells_below h ts ++ [])) (at.number ∷ other.number ∷ cells_below h ts) (λ n.
              let a = count_cons n other.number (at.number ∷ (cells_below h ts ++ [])) in
              let b = count_cons n at.number (cells_below h ts ++ []) in
              let c = count_append n (cells_below h ts) [] in
              let d = count_cons n at.number (other.number ∷ cells_below h ts) in
              let e = count_cons n other.number (cells_below h ts) in
              omega arith);
          zero = λ n within. elim within [
            | inl same ↦ subst (λ (m : ℕ). reading (with_cell (with_cell w other zero_cell) at (cell_of level r.cover entries)) m ≡ Some zero_cell) same (there (cell_of level r.cover entries) zero_cell)
            | inr none ↦ absurd none
          ];
          some = omega arith;
          two = omega arith;
          account = account_then w (with_cell w other zero_cell) (with_cell (with_cell w other zero_cell) at (cell_of level r.cover entries)) (other.number ∷ []) (at.number ∷ []) (at.number ∷ other.number ∷ []) [] [] 1 1
              (account_put w other zero_cell (node_spent w other.number is.held_too) (node_bare (reading w) other.number is.held_too) (zero_bare (reading (with_cell w other zero_cell)) other.number (put_reads w other zero_cell).here))
              (account_put (with_cell w other zero_cell) at (cell_of level r.cover entries) (node_spent (with_cell w other zero_cell) at.number (at_held (cell_of level r.cover entries) zero_cell)) (node_bare (reading (with_cell w other zero_cell)) at.number (at_held (cell_of level r.cover entries) zero_cell))
              (node_bare (reading (with_cell (with_cell w other zero_cell) at (cell_of level r.cover entries))) at.number (written_kind (reading (with_cell (with_cell w other zero_cell) at (cell_of level r.cover entries))) at.number level r.cover entries (here (cell_of level r.cover entries) zero_cell))))
              (λ n within. inr within) (λ n within. inl (elim within [ inl same ↦ inl same | inr none ↦ absurd none ]));
        }

  -- they stand below two nodes again
  module _ (left right : List Entry) (order : IsPermutation entries (left ++ right)) (second first : Entry) (is_second : IsWritten level right other second) (is_first : IsWritten level left at first)
      (many_left : 4 ≤ length left) (many_right : 4 ≤ length right) (was now : List Entry) (pushed : now ≡ (was ++ first ∷ []) ++ second ∷ []) where
    parts : ArePartsOf (entry_of said h) ts left right
    parts = parted (entry_of said h) ts left right (subst (λ (es : List Entry). IsPermutation es (left ++ right)) is.entries_are order)

    both_entries : now ≡ was ++ record { at = at; cover = first.cover } ∷ record { at = other; cover = second.cover } ∷ []
    both_entries =
        pushed
        ∙ grouped was first second
        ∙ (λ i. was ++ record { at = is_first.at_is i; cover = first.cover } ∷ record { at = is_second.at_is i; cover = second.cover } ∷ [])
      where
        grouped : (es : List Entry) (a b : Entry) → (es ++ a ∷ []) ++ b ∷ [] ≡ es ++ a ∷ b ∷ []
        grouped [] a b = refl
        grouped (e ∷ es) a b = ap (λ (xs : List Entry). e ∷ xs) (grouped es a b)

    pub shared_two : AreShared said w (with_cell (with_cell w other (cell_of level second.cover right)) at (cell_of level first.cover left)) at other h ts was now
    shared_two =
        let after = with_cell (with_cell w other (cell_of level second.cover right)) at (cell_of level first.cover left) in
        let some_left = ap (length {A = Entry}) parts.first_is ∙ length-map parts.first (entry_of said h) in
        let some_right = ap (length {A = Entry}) parts.second_is ∙ length-map parts.second (entry_of said h) in
        let stand = each_permutes (Stands h (reading w)) ts (parts.first ++ parts.second) parts.order is.sound.stand in
        let shaped = each_permutes (IsShaped said h least_entries) ts (parts.first ++ parts.second) parts.order is.sound.shaped in
        record {
          gone = [];
          nodes = record { at = at; cover = first.cover; below = parts.first } ∷ record { at = other; cover = second.cover; below = parts.second } ∷ [];
          entries = both_entries;
          sound = record {
            stand = (
              written_stands said level h parts.first left first.cover is.level_is parts.first_is (reading after) at is_first.proper (here (cell_of level first.cover left) (cell_of level second.cover right))
                  (all_stand_still (reading w) (reading after) h parts.first (λ n within. frame (cell_of level first.cover left) (cell_of level second.cover right) n (in_first h ts parts.first parts.second parts.order n within)) (each_front (Stands h (reading w)) parts.first parts.second stand)),
              (
                written_stands said level h parts.second right second.cover is.level_is parts.second_is (reading after) other is_second.proper (there (cell_of level first.cover left) (cell_of level second.cover right))
                    (all_stand_still (reading w) (reading after) h parts.second (λ n within. frame (cell_of level first.cover left) (cell_of level second.cover right) n (in_second h ts parts.first parts.second parts.order n within)) (each_back (Stands h (reading w)) parts.first parts.second stand)),
                tt,
              ),
            );
            shaped = (
              written_shaped said level h parts.first left first.cover is.level_is parts.first_is at 4 (omega arith) is_first.covers (each_front (IsShaped said h least_entries) parts.first parts.second shaped),
              (
                written_shaped said level h parts.second right second.cover is.level_is parts.second_is other 4 (omega arith) is_second.covers (each_back (IsShaped said h least_entries) parts.first parts.second shaped),
                tt,
              ),
            );
          };
          list = versions_permute (versions_below h ts) (versions_below h parts.first ++ (versions_below h parts.second ++ [])) (λ k.
              let whole = listed_ordered h k ts (parts.first ++ parts.second) parts.order in
              let both = listed_both h k parts.first parts.second in
              let outer = listed_append k (versions_below h parts.first) (versions_below h parts.second ++ []) in
              let inner = listed_append k (versions_below h parts.second) [] in
              omega arith);
          places = numbers_permute (at.number ∷ (cells_below h parts.first ++ (other.number ∷ (cells_below h parts.second ++ [])))) (at.number ∷ other.number ∷ cells_below h ts) (λ n.
              let whole = count_ordered h n ts (parts.first ++ parts.second) parts.order in
              let both = count_both h n parts.first parts.second in
              let first_was = count_cons n at.number (other.number ∷ cells_below h ts) in
              let second_was = count_cons n other.number (cells_below h ts) in
              let first_now = count_cons n at.number (cells_below h parts.first ++ (other.number ∷ (cells_below h parts.second ++ []))) in
              let outer = count_append n (cells_below h parts.first) (other.number ∷ (cells_below h parts.second ++ [])) in
              let second_now = count_cons n other.number (cells_below h parts.second ++ []) in
              let inner = count_append n (cells_below h parts.second) [] in
              omega arith);
          zero = λ n none. absurd none;
          some = omega arith;
          two = omega arith;
          account = account_then w (with_cell w other (cell_of level second.cover right)) after (other.number ∷ []) (at.number ∷ []) (at.number ∷ other.number ∷ []) [] [] 1 1
              (account_put w other (cell_of level second.cover right) (node_spent w other.number is.held_too) (node_bare (reading w) other.number is.held_too)
              (node_bare (reading (with_cell w other (cell_of level second.cover right))) other.number (written_kind (reading (with_cell w other (cell_of level second.cover right))) other.number level second.cover right (put_reads w other (cell_of level second.cover right)).here)))
              (account_put (with_cell w other (cell_of level second.cover right)) at (cell_of level first.cover left) (node_spent (with_cell w other (cell_of level second.cover right)) at.number (at_held (cell_of level first.cover left) (cell_of level second.cover right))) (node_bare (reading (with_cell w other (cell_of level second.cover right))) at.number (at_held (cell_of level first.cover left) (cell_of level second.cover right)))
              (node_bare (reading after) at.number (written_kind (reading after) at.number level first.cover left (here (cell_of level first.cover left) (cell_of level second.cover right)))))
              (λ n within. inr within) (λ n within. inl (elim within [ inl same ↦ inl same | inr none ↦ absurd none ]));
        }
