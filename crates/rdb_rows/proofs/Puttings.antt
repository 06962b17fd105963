-- A row that is being put: what is planned so far.
use Rattle.std.specs.Prelude.{◌==◌}
use Rattle.std.proofs.Common.{◌≡◌, ◌<◌, ◌≤◌, ◌+◌, ◌-◌, ◌++◌, ℕ, List, [], ◌∷◌, length, take, drop, Option, Some, IsSome, Bool, true, false, inl, refl, sym, ap, subst, ◌∙◌, arith, append_assoc, length-append, length-drop, slice_get}
use Rattle.std.proofs.lemmas.List.{append-nil, length_push}
use Rattle.std.proofs.lemmas.Bool.{false≢true, ne_eqb}
use Rattle.rdb_pages.specs.declared.cell.Cell.{Cell}
use Rattle.rdb_pages.specs.Pages.{zero_cell}
use Rattle.rdb_cells.specs.declared.pairs.Pair.{Pair}
use Rattle.rdb_cells.specs.Links.{IsAmong}
use Rattle.rdb_cells.specs.Records.{names, numbers_of, with_put, first_of}
use Rattle.rdb_cells.specs.RowFormat.{filled_up}
use Rattle.rdb_cells.specs.Untaken.{IsNextUntaken}
use Rattle.rdb_cells.specs.Work.{Work, reading, IsLeft, HasLeft, TakesAtMost}
use Rattle.rdb_cells.proofs.LinkLemmas.{among_front, among_back, once_without}
use Rattle.rdb_cells.proofs.PairLemmas.{content_unnamed}
use Rattle.rdb_rows.specs.Plans.{AreNextLeft, first_or, last_number, part_pair, part_pairs, PutsRow}
use Rattle.rdb_rows.specs.Rows.{cells_for, row_parts}
use Rattle.rdb_rows.proofs.Pairings.{unnamed_both, unnamed_when, put_appends}
use Rattle.rdb_rows.proofs.Parts.{count_parts, more_parts, one_part, part_numbers, part_pairs_count, part_more}
use Rattle.rdb_rows.proofs.Takings.{taken_once, was_left, take_more, last_more, plans_at_most, plans_next}

-- the parts that are done stand in cells of the plan; the next part's cell is taken, and these bytes are left for it
pub record IsPutting (w0 w : Work) (bytes : List ℕ) (first at : ℕ) (rest : List ℕ) : Type 0 where
  pub cells : List ℕ
  pub done : List (List ℕ)
  pub same : length cells ≡ length done
  pub begins : first ≡ first_or at cells
  pub lowest : AreNextLeft w0 (cells ++ at ∷ [])
  pub now : w ≡ record w0 { pairs = w0.pairs ++ part_pairs at cells done; taken = at }
  pub whole : row_parts bytes ≡ done ++ row_parts rest
  pub count : length cells + cells_for (length rest) ≡ cells_for (length bytes)
  pub some : 0 < length rest

first_of_more : (end n : ℕ) (ns : List ℕ) → first_or end (ns ++ n ∷ []) ≡ first_or n ns
first_of_more end n [] = refl
first_of_more end n (m ∷ ns) = refl

module _ (w0 : Work) where
  -- the first cell is taken
  pub putting_begins : (bytes : List ℕ) (at : ℕ) → 0 < length bytes → IsNextUntaken w0.pairs w0.below w0.class_of w0.class w0.taken at → IsPutting w0 (record w0 { taken = at }) bytes at at bytes
  putting_begins bytes at some next = record {
    cells = [];
    done = [];
    same = refl;
    begins = refl;
    lowest = (next, tt);
    now = ap (λ (ps : List Pair). record w0 { pairs = ps; taken = at }) (sym (append-nil w0.pairs));
    whole = refl;
    count = omega arith;
    some = some;
  }

  module _ (w : Work) (bytes : List ℕ) (first at : ℕ) (rest : List ℕ) (is : IsPutting w0 w bytes first at rest) where
    within : (n : ℕ) → IsAmong (numbers_of (part_pairs at is.cells is.done)) n → IsAmong (is.cells ++ at ∷ []) n
    within n among = among_front is.cells (at ∷ []) n (subst (λ (ns : List ℕ). IsAmong ns n) (part_numbers at is.cells is.done is.same) among)

    -- the work, by what was taken
    by_taking : w ≡ record w0 { pairs = w0.pairs ++ part_pairs at is.cells is.done; taken = last_number w0.taken (is.cells ++ at ∷ []) }
    by_taking = is.now ∙ ap (λ (taken : ℕ). record w0 { pairs = w0.pairs ++ part_pairs at is.cells is.done; taken = taken }) (sym (last_more w0.taken is.cells at))

    -- who could take what the row takes can take what is left of it
    pub putting_left : HasLeft w0 (cells_for (length bytes)) → HasLeft w (cells_for (length rest) - 1)
    putting_left has =
        let count = is.count in
        let some = is.some in
        let pushed = length_push is.cells at in
        let sum : cells_for (length bytes) ≡ cells_for (length rest) - 1 + length (is.cells ++ at ∷ []) = omega arith in
        subst (λ (v : Work). HasLeft v (cells_for (length rest) - 1)) (sym by_taking)
        ((plans_at_most w0 (is.cells ++ at ∷ []) (part_pairs at is.cells is.done) is.lowest within).enough (cells_for (length rest) - 1) (subst (HasLeft w0) sum has))

    at_left : IsLeft w0 at
    at_left = was_left w0 (is.cells ++ at ∷ []) at is.lowest (among_back is.cells (at ∷ []) at (inl refl))

    at_apart : ¬ IsAmong is.cells at
    at_apart among = (once_without is.cells at [] (taken_once w0 (is.cells ++ at ∷ []) is.lowest)).1 (among_front is.cells [] at among)

    pub at_unnamed : names w.pairs at ≡ false
    at_unnamed =
        ap (λ (v : Work). names v.pairs at) is.now
        ∙ unnamed_both w0.pairs (part_pairs at is.cells is.done) at at_left.unplanned
        (unnamed_when (part_pairs at is.cells is.done) at (λ among. at_apart (subst (λ (ns : List ℕ). IsAmong ns at) (part_numbers at is.cells is.done is.same) among)))

    pub at_reads : reading w at ≡ Some zero_cell
    at_reads =
        ap (λ (o : Option Cell). first_of o (w.below at)) (content_unnamed w.pairs at at_unnamed)
        ∙ ap (λ (v : Work). v.below at) is.now ∙ at_left.free.zero

    pub putting_places : length w.pairs ≡ length w0.pairs + length is.cells
    putting_places =
        let pairs = ap (λ (v : Work). length v.pairs) is.now in
        let both = length-append w0.pairs (part_pairs at is.cells is.done) in
        let new = part_pairs_count at is.cells is.done is.same in
        omega arith

    -- a place is left for the part
    pub place_left : (room : ℕ) → length w0.pairs + cells_for (length bytes) ≤ room → length w.pairs < room
    place_left room enough =
        let now = putting_places in
        let count = is.count in
        let some = is.some in
        omega arith

    -- the work once the part is put and another cell taken
    part_put : (part : List ℕ) (next taken : ℕ) → record w { pairs = with_put w.pairs (part_pair at part next); taken = taken } ≡ record w0 { pairs = w0.pairs ++ part_pairs next (is.cells ++ at ∷ []) (is.done ++ part ∷ []); taken = taken }
    part_put part next taken =
        ap (λ (ps : List Pair). record w { pairs = ps; taken = taken }) (put_appends w.pairs (part_pair at part next) at_unnamed)
        ∙ ap (λ (v : Work). record v { pairs = v.pairs ++ part_pair at part next ∷ []; taken = taken }) is.now
        ∙ ap (λ (ps : List Pair). record w0 { pairs = ps; taken = taken })
        (append_assoc w0.pairs (part_pairs at is.cells is.done) (part_pair at part next ∷ [])
        ∙ ap (λ (ps : List Pair). w0.pairs ++ ps) (sym (part_more next at part is.cells is.done is.same)))

    -- the next cell is taken, and a part of a whole cell is put
    pub putting_more : (next : ℕ) (v : Work) → 60 < length rest → IsNextUntaken w.pairs w.below w.class_of w.class w.taken next
        → v ≡ record w { pairs = with_put w.pairs (part_pair at (filled_up (take 60 rest)) next); taken = next } → IsPutting w0 v bytes first next (drop 60 rest)
    putting_more next v long untaken put =
        let dropped = length-drop 60 rest in
        let count = is.count in
        let cells = length_push is.cells at in
        let parts = length_push is.done (filled_up (take 60 rest)) in
        let same = is.same in
        record {
          cells = is.cells ++ at ∷ [];
          done = is.done ++ filled_up (take 60 rest) ∷ [];
          same = omega arith;
          begins = is.begins ∙ sym (first_of_more next at is.cells);
          lowest = take_more w0 (is.cells ++ at ∷ []) next is.lowest
              (plans_next w0 (is.cells ++ at ∷ []) (part_pairs at is.cells is.done) is.lowest within next
              (subst (λ (u : Work). IsNextUntaken u.pairs u.below u.class_of u.class u.taken next) by_taking untaken));
          now = put ∙ part_put (filled_up (take 60 rest)) next next;
          whole = is.whole ∙ ap (λ (ps : List (List ℕ)). is.done ++ ps) (more_parts rest long) ∙ sym (append_assoc is.done (filled_up (take 60 rest) ∷ []) (row_parts (drop 60 rest)));
          count = omega arith;
          some = omega arith;
        }

    -- the last part is put
    pub putting_ends : (v : Work) → length rest ≤ 60 → v ≡ record w { pairs = with_put w.pairs (part_pair at (filled_up rest) 0) } → PutsRow w0 v first bytes
    putting_ends v short put =
        let cells = length_push is.cells at in
        let count = is.count in
        let some = is.some in
        record {
          row_cells = is.cells ++ at ∷ [];
          count = omega arith;
          begins = is.begins ∙ sym (first_of_more 0 at is.cells);
          lowest = is.lowest;
          planned = put ∙ ap (λ (taken : ℕ). record w { pairs = with_put w.pairs (part_pair at (filled_up rest) 0); taken = taken }) (ap (λ (u : Work). u.taken) by_taking)
              ∙ part_put (filled_up rest) 0 (last_number w0.taken (is.cells ++ at ∷ []))
              ∙ ap (λ (ps : List (List ℕ)). record w0 { pairs = w0.pairs ++ part_pairs 0 (is.cells ++ at ∷ []) ps; taken = last_number w0.taken (is.cells ++ at ∷ []) })
              (sym (is.whole ∙ ap (λ (ps : List (List ℕ)). is.done ++ ps) (one_part rest some short)));
        }

-- who can take some can take one
pub some_left : (w : Work) (many : ℕ) → 0 < many → HasLeft w many → (n : ℕ) × IsLeft w n
some_left w many some has = first has.cells has.count has.untaken
  where
    first : (cells : List ℕ) → length cells ≡ many → ((i n : ℕ) → slice_get cells i ≡ Some n → IsLeft w n) → (n : ℕ) × IsLeft w n
    first [] count all = absurd (omega arith)
    first (n ∷ ns) count all = (n, all 0 n refl)

-- what a row that was put took
module _ (w0 w : Work) (first : ℕ) (bytes : List ℕ) (puts : PutsRow w0 w first bytes) where
  pub parts_match : length puts.row_cells ≡ length (row_parts bytes)
  parts_match = puts.count ∙ sym (count_parts (cells_for (length bytes)) bytes)

  row_within : (n : ℕ) → IsAmong (numbers_of (part_pairs 0 puts.row_cells (row_parts bytes))) n → IsAmong puts.row_cells n
  row_within n among = subst (λ (ns : List ℕ). IsAmong ns n) (part_numbers 0 puts.row_cells (row_parts bytes) parts_match) among

  pub row_takes : TakesAtMost (cells_for (length bytes)) w0 w
  row_takes =
      subst (λ (v : Work). TakesAtMost (cells_for (length bytes)) w0 v) (sym puts.planned)
      (subst (λ (many : ℕ). TakesAtMost many w0 (record w0 { pairs = w0.pairs ++ part_pairs 0 puts.row_cells (row_parts bytes); taken = last_number w0.taken puts.row_cells })) puts.count
      (plans_at_most w0 puts.row_cells (part_pairs 0 puts.row_cells (row_parts bytes)) puts.lowest row_within))

  pub row_places : length w.pairs ≡ length w0.pairs + cells_for (length bytes)
  row_places =
      let pairs = ap (λ (v : Work). length v.pairs) puts.planned in
      let both = length-append w0.pairs (part_pairs 0 puts.row_cells (row_parts bytes)) in
      let new = part_pairs_count 0 puts.row_cells (row_parts bytes) parts_match in
      let count = puts.count in
      omega arith

-- no row is put
pub puts_nothing : (w : Work) (bytes : List ℕ) → length bytes ≡ 0 → PutsRow w w 0 bytes
puts_nothing w [] none = record {
  row_cells = [];
  count = refl;
  begins = refl;
  lowest = tt;
  planned = ap (λ (ps : List Pair). record w { pairs = ps }) (sym (append-nil w.pairs));
}
puts_nothing w (b ∷ bytes) none = absurd (omega arith)

-- what a test for no bytes says
pub some_bytes : (bytes : List ℕ) (b : Bool) → b ≡ (length bytes == 0) → b ≡ false → 0 < length bytes
some_bytes [] b e none = absurd (false≢true (sym none ∙ e))
some_bytes (x ∷ xs) b e none = omega arith

pub no_bytes : (bytes : List ℕ) (b : Bool) → b ≡ (length bytes == 0) → b ≡ true → length bytes ≡ 0
no_bytes [] b e all = refl
no_bytes (x ∷ xs) b e all = absurd (false≢true (sym (ne_eqb (length (x ∷ xs)) 0 (λ none. absurd (omega arith))) ∙ sym e ∙ all))

pub a_cell : (o : Option Cell) (cell : Cell) → o ≡ Some cell → IsSome o
a_cell o cell e = subst (λ (p : Option Cell). IsSome p) (sym e) refl
