-- A node written above trees, or two where they are too many for one.
use Rattle.std.proofs.Common.{◌≡◌, ◌≢◌, ◌≤◌, ◌<◌, ◌++◌, ℕ, List, [], ◌∷◌, length, map, Some, inl, refl, sym, ap, subst, ◌∙◌, arith}
use Rattle.std.proofs.lemmas.List.{append-nil, length-map}
use Rattle.std.proofs.lemmas.List.Sorted.{IsPermutation-refl}
use Rattle.std.specs.Prelude.{IsPermutation}
use Rattle.rdb_pages.specs.declared.cell.CellRef.{CellRef}
use Rattle.rdb_pages.specs.Pages.{zero_cell}
use Rattle.rdb_cells.specs.declared.kind.Kind.TheVariants as kind
use Rattle.rdb_cells.specs.Keys.{Sayings}
use Rattle.rdb_cells.specs.Links.{IsAmong}
use Rattle.rdb_cells.specs.RtreeFormat.{IsRtreeNode}
use Rattle.rdb_cells.specs.Words.{HasKind}
use Rattle.rdb_cells.specs.Work.{Work, reading}
use Rattle.rdb_cells.proofs.PlainLemmas.{one_kind}
use Rattle.rdb_cells.proofs.WorkLemmas.{put_reads, left_blank}
use Rattle.rdb_rtree.specs.Boxes.{IsLeastCover}
use Rattle.rdb_rtree.specs.Changes.{cell_of, with_cell, with_taken, IsLowest, cells_below, versions_below, IsToSettle, AreSettled}
use Rattle.rdb_rtree.specs.RtreeLaws.{all_stand_still, nodes_of_all}
use Rattle.rdb_rtree.specs.Trees.{RTree, entry_of, node_with, Stands, IsShaped, least_entries}
use Rattle.rdb_rtree.specs.declared.entry.Entry.{Entry}
use Rattle.rdb_rtree.proofs.AccountLemmas.{node_bare, node_spent, account_put, account_take, account_within, account_then}
use Rattle.rdb_rtree.proofs.CountLemmas.{count_cons, count_append, listed_append, numbers_permute, versions_permute}
use Rattle.rdb_rtree.proofs.ListLemmas.{each_permutes, each_front, each_back, parted, ArePartsOf}
use Rattle.rdb_rtree.proofs.WrittenLemmas.{written_stands, written_shaped, written_kind, count_both, listed_both, count_ordered, listed_ordered, in_first, in_second}

-- what was written for a node
pub record IsWritten (level : ℕ) (entries : List Entry) (at : CellRef) (r : Entry) : Type 0 where
  pub at_is : r.at ≡ at
  pub covers : IsLeastCover (map (λ (e : Entry). e.cover) entries) r.cover
  pub proper : IsRtreeNode (node_with level r.cover (map (λ (e : Entry). e.at) entries))

pub written_by : (level : ℕ) (given entries : List Entry) (at : CellRef) (r : Entry) → given ≡ entries → r.at ≡ at → IsLeastCover (map (λ (e : Entry). e.cover) given) r.cover → IsRtreeNode (node_with level r.cover (map (λ (e : Entry). e.at) given)) → IsWritten level entries at r
written_by level given entries at r same at_is covers proper = record {
  at_is = at_is;
  covers = subst (λ (es : List Entry). IsLeastCover (map (λ (e : Entry). e.cover) es) r.cover) same covers;
  proper = subst (λ (es : List Entry). IsRtreeNode (node_with level r.cover (map (λ (e : Entry). e.at) es))) same proper;
}

written_entry : (was now : List Entry) (r : Entry) (at : CellRef) → r.at ≡ at → now ≡ was ++ r ∷ [] → now ≡ was ++ record { at = at; cover = r.cover } ∷ []
written_entry was now r at at_is pushed = pushed ∙ ap (λ (q : CellRef). was ++ record { at = q; cover = r.cover } ∷ []) at_is

module _ (said : Sayings) (w : Work) (at : CellRef) (level h : ℕ) (ts : List (RTree h)) (entries : List Entry) (is : IsToSettle said w at level h ts entries) where
  -- all entries fit
  module _ (r : Entry) (written : IsWritten level entries at r) (was now : List Entry) (pushed : now ≡ was ++ r ∷ []) where
    abbrev one : Work
    one = with_cell w at (cell_of level r.cover entries)

    one_frame : (n : ℕ) → IsAmong (cells_below h ts) n → reading (with_cell w at (cell_of level r.cover entries)) n ≡ reading w n
    one_frame n within = (put_reads w at (cell_of level r.cover entries)).elsewhere n (λ same. is.apart (subst (IsAmong (cells_below h ts)) same within))

    pub settled_one : AreSettled said w (with_cell w at (cell_of level r.cover entries)) at h ts was now
    settled_one =
        let here = (put_reads w at (cell_of level r.cover entries)).here in
        record {
          fresh = [];
          node = record { at = at; cover = r.cover; below = ts };
          others = [];
          at_is = refl;
          entries = written_entry was now r at written.at_is pushed;
          stand = (
            written_stands said level h ts entries r.cover is.level_is is.entries_are (reading (with_cell w at (cell_of level r.cover entries))) at written.proper here
                (all_stand_still (reading w) (reading (with_cell w at (cell_of level r.cover entries))) h ts one_frame is.sound.stand),
            tt,
          );
          shaped = λ least enough four. (written_shaped said level h ts entries r.cover is.level_is is.entries_are at least enough written.covers is.sound.shaped, tt);
          list = subst (IsPermutation (versions_below h ts)) (sym (append-nil (versions_below h ts))) (IsPermutation-refl (versions_below h ts));
          places = subst (IsPermutation (at.number ∷ cells_below h ts)) (sym (append-nil (at.number ∷ cells_below h ts))) (IsPermutation-refl (at.number ∷ cells_below h ts));
          two = omega arith;
          over = λ some. absurd (omega arith);
          account = account_within w (with_cell w at (cell_of level r.cover entries)) (at.number ∷ []) (at.number ∷ []) [] 1 2
              (account_put w at (cell_of level r.cover entries) (node_spent w at.number is.held) (node_bare (reading w) at.number is.held)
              (node_bare (reading (with_cell w at (cell_of level r.cover entries))) at.number (written_kind (reading (with_cell w at (cell_of level r.cover entries))) at.number level r.cover entries here)))
              (omega arith) (λ n within. within);
          few = omega arith;
        }

  -- they are parted into two nodes
  module _ (left right : List Entry) (order : IsPermutation entries (left ++ right)) (other : CellRef) (lowest : IsLowest w other) (second first : Entry)
      (is_second : IsWritten level right other second) (is_first : IsWritten level left at first) where
    abbrev w1 : Work
    w1 = with_cell (with_taken w other) other (cell_of level second.cover right)

    abbrev w2 : Work
    w2 = with_cell (with_cell (with_taken w other) other (cell_of level second.cover right)) at (cell_of level first.cover left)

    parts : ArePartsOf (entry_of said h) ts left right
    parts = parted (entry_of said h) ts left right (subst (λ (es : List Entry). IsPermutation es (left ++ right)) is.entries_are order)

    other_zero : reading w other.number ≡ Some zero_cell
    other_zero = (left_blank w other.number lowest.untaken).zero

    -- a node isn't the cell that was free
    not_other : (n : ℕ) → HasKind (reading w) kind.RtreeNode n → n ≢ other.number
    not_other n has same =
        let kinds = one_kind (reading w) kind.RtreeNode kind.Free n has (zero_cell, ap (reading w) same ∙ other_zero, refl) in
        absurd (omega arith)

    frame : (n : ℕ) → n ≢ at.number → n ≢ other.number → reading (with_cell (with_cell (with_taken w other) other (cell_of level second.cover right)) at (cell_of level first.cover left)) n ≡ reading w n
    frame n out away =
        (put_reads (with_cell (with_taken w other) other (cell_of level second.cover right)) at (cell_of level first.cover left)).elsewhere n out
        ∙ (put_reads (with_taken w other) other (cell_of level second.cover right)).elsewhere n away

    below_frame : (n : ℕ) → IsAmong (cells_below h ts) n → reading (with_cell (with_cell (with_taken w other) other (cell_of level second.cover right)) at (cell_of level first.cover left)) n ≡ reading w n
    below_frame n within = frame n (λ same. is.apart (subst (IsAmong (cells_below h ts)) same within)) (not_other n (nodes_of_all (reading w) h ts n is.sound.stand within))

    at_kept : reading (with_cell (with_taken w other) other (cell_of level second.cover right)) at.number ≡ reading w at.number
    at_kept = (put_reads (with_taken w other) other (cell_of level second.cover right)).elsewhere at.number (not_other at.number is.held)

    at_held : HasKind (reading (with_cell (with_taken w other) other (cell_of level second.cover right))) kind.RtreeNode at.number
    at_held = (is.held.0, at_kept ∙ is.held.1, is.held.2)

    here : reading (with_cell (with_cell (with_taken w other) other (cell_of level second.cover right)) at (cell_of level first.cover left)) at.number ≡ Some (cell_of level first.cover left)
    here = (put_reads (with_cell (with_taken w other) other (cell_of level second.cover right)) at (cell_of level first.cover left)).here

    other_here : reading (with_cell (with_taken w other) other (cell_of level second.cover right)) other.number ≡ Some (cell_of level second.cover right)
    other_here = (put_reads (with_taken w other) other (cell_of level second.cover right)).here

    there : reading (with_cell (with_cell (with_taken w other) other (cell_of level second.cover right)) at (cell_of level first.cover left)) other.number ≡ Some (cell_of level second.cover right)
    there =
        (put_reads (with_cell (with_taken w other) other (cell_of level second.cover right)) at (cell_of level first.cover left)).elsewhere other.number (λ same. not_other at.number is.held (sym same))
        ∙ other_here

    module _ (too_many : 11 < length entries) (many_left : 4 ≤ length left) (many_right : 4 ≤ length right) (was now : List Entry) (pushed : now ≡ (was ++ first ∷ []) ++ second ∷ []) where
      both_entries : now ≡ was ++ record { at = at; cover = first.cover } ∷ record { at = other; cover = second.cover } ∷ []
      both_entries =
          pushed
          ∙ grouped was first second
          ∙ (λ i. was ++ record { at = is_first.at_is i; cover = first.cover } ∷ record { at = is_second.at_is i; cover = second.cover } ∷ [])
        where
          grouped : (es : List Entry) (a b : Entry) → (es ++ a ∷ []) ++ b ∷ [] ≡ es ++ a ∷ b ∷ []
          grouped [] a b = refl
          grouped (e ∷ es) a b = ap (λ (xs : List Entry). e ∷ xs) (grouped es a b)

      pub settled_two : AreSettled said w (with_cell (with_cell (with_taken w other) other (cell_of level second.cover right)) at (cell_of level first.cover left)) at h ts was now
      settled_two =
          let after = with_cell (with_cell (with_taken w other) other (cell_of level second.cover right)) at (cell_of level first.cover left) in
          let some_left = ap (length {A = Entry}) parts.first_is ∙ length-map parts.first (entry_of said h) in
          let some_right = ap (length {A = Entry}) parts.second_is ∙ length-map parts.second (entry_of said h) in
          let stand = each_permutes (Stands h (reading w)) ts (parts.first ++ parts.second) parts.order is.sound.stand in
          let shaped = each_permutes (IsShaped said h least_entries) ts (parts.first ++ parts.second) parts.order is.sound.shaped in
          record {
            fresh = other.number ∷ [];
            node = record { at = at; cover = first.cover; below = parts.first };
            others = record { at = other; cover = second.cover; below = parts.second } ∷ [];
            at_is = refl;
            entries = both_entries;
            stand = (
              written_stands said level h parts.first left first.cover is.level_is parts.first_is (reading after) at is_first.proper here
                  (all_stand_still (reading w) (reading after) h parts.first (λ n within. below_frame n (in_first h ts parts.first parts.second parts.order n within)) (each_front (Stands h (reading w)) parts.first parts.second stand)),
              (
                written_stands said level h parts.second right second.cover is.level_is parts.second_is (reading after) other is_second.proper there
                    (all_stand_still (reading w) (reading after) h parts.second (λ n within. below_frame n (in_second h ts parts.first parts.second parts.order n within)) (each_back (Stands h (reading w)) parts.first parts.second stand)),
                tt,
              ),
            );
            shaped = λ least enough four. (
              written_shaped said level h parts.first left first.cover is.level_is parts.first_is at least (omega arith) is_first.covers (each_front (IsShaped said h least_entries) parts.first parts.second shaped),
              (
                written_shaped said level h parts.second right second.cover is.level_is parts.second_is other least (omega arith) is_second.covers (each_back (IsShaped said h least_entries) parts.first parts.second shaped),
                tt,
              ),
            );
            list = versions_permute (versions_below h ts) (versions_below h parts.first ++ (versions_below h parts.second ++ [])) (λ k.
                let whole = listed_ordered h k ts (parts.first ++ parts.second) parts.order in
                let both = listed_both h k parts.first parts.second in
                let outer = listed_append k (versions_below h parts.first) (versions_below h parts.second ++ []) in
                let inner = listed_append k (versions_below h parts.second) [] in
                omega arith);
            places = numbers_permute (at.number ∷ other.number ∷ cells_below h ts) (at.number ∷ (cells_below h parts.first ++ (other.number ∷ (cells_below h parts.second ++ [])))) (λ n.
                let whole = count_ordered h n ts (parts.first ++ parts.second) parts.order in
                let both = count_both h n parts.first parts.second in
                let first_was = count_cons n at.number (other.number ∷ cells_below h ts) in
                let second_was = count_cons n other.number (cells_below h ts) in
                let first_now = count_cons n at.number (cells_below h parts.first ++ (other.number ∷ (cells_below h parts.second ++ []))) in
                let outer = count_append n (cells_below h parts.first) (other.number ∷ (cells_below h parts.second ++ [])) in
                let second_now = count_cons n other.number (cells_below h parts.second ++ []) in
                let inner = count_append n (cells_below h parts.second) [] in
                omega arith);
            two = omega arith;
            over = λ some. (let same = ap (length {A = Entry}) is.entries_are ∙ length-map ts (entry_of said h) in omega arith);
            account = account_then w (with_cell (with_taken w other) other (cell_of level second.cover right)) after [] (at.number ∷ []) (at.number ∷ []) (other.number ∷ []) [] 1 1
                (account_take w other (cell_of level second.cover right) lowest
                (node_bare (reading (with_cell (with_taken w other) other (cell_of level second.cover right))) other.number (written_kind (reading (with_cell (with_taken w other) other (cell_of level second.cover right))) other.number level second.cover right other_here)))
                (account_put (with_cell (with_taken w other) other (cell_of level second.cover right)) at (cell_of level first.cover left)
                (node_spent (with_cell (with_taken w other) other (cell_of level second.cover right)) at.number at_held)
                (node_bare (reading (with_cell (with_taken w other) other (cell_of level second.cover right))) at.number at_held)
                (node_bare (reading after) at.number (written_kind (reading after) at.number level first.cover left here)))
                (λ n none. absurd none) (λ n within. inl within);
            few = omega arith;
          }
