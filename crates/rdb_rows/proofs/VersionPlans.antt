-- Plans that put a version, change it or give it back.
use Rattle.std.proofs.Common.{◌≡◌, ◌≤◌, ◌+◌, ◌++◌, ℕ, List, [], ◌∷◌, length, Option, Some, false, inl, inr, refl, sym, ap, ap₂, subst, ◌∙◌, arith, append_assoc, length-append}
use Rattle.rdb_base.specs.declared.limits.TheConstants.{MAX_ROW}
use Rattle.rdb_pages.specs.declared.cell.Cell.{Cell}
use Rattle.rdb_pages.specs.declared.cell.CellRef.{CellRef}
use Rattle.rdb_pages.specs.Pages.{zero_cell}
use Rattle.rdb_cells.specs.declared.pairs.Pair.{Pair}
use Rattle.rdb_cells.specs.Images.{Image, Writes}
use Rattle.rdb_cells.specs.Links.{IsAmong, AreOnce}
use Rattle.rdb_cells.specs.Records.{names, numbers_of, content, first_of}
use Rattle.rdb_cells.specs.Untaken.{IsNextUntaken}
use Rattle.rdb_cells.specs.VersionFormat.{header_cell}
use Rattle.rdb_cells.specs.Work.{Work, reading, IsLeft, TakesAtMost, TakesLowest}
use Rattle.rdb_cells.proofs.LinkLemmas.{among_either, once_together}
use Rattle.rdb_cells.proofs.PairLemmas.{content_unnamed}
use Rattle.rdb_cells.proofs.WorkLemmas.{put_work, put_reads, put_says, left_blank}
use Rattle.rdb_rows.specs.Plans.{AreNextLeft, first_or, last_number, part_pairs, version_pairs, PutsRow, PutsVersion, Clears}
use Rattle.rdb_rows.specs.Rows.{AreBytes, cells_for, row_parts, HoldsRow}
use Rattle.rdb_rows.specs.Versions.{Version, IsLabel, bytes_in, header_of, HoldsVersion}
use Rattle.rdb_rows.proofs.Headers.{header_some, the_cell}
use Rattle.rdb_rows.proofs.Pairings.{put_appends, AreWritten, plan_written, content_before, unnamed_both, unnamed_when}
use Rattle.rdb_rows.proofs.Parts.{count_parts, parts_are, part_numbers, part_pairs_count, placed, placed_numbers, placed_elements, placed_start, AreNear, parts_stand}
use Rattle.rdb_rows.proofs.Puttings.{parts_match}
use Rattle.rdb_rows.proofs.Takings.{taken_once, was_left, plans_at_most, plans_lowest}
use Rattle.rdb_rows.proofs.VersionLemmas.{version_rests, header_apart, version_some, row_rests}

-- Putting
written_parts : (image : Image) (ps qs : List Pair) → AreWritten image (ps ++ qs) → AreWritten image ps × AreWritten image qs
written_parts image [] qs written = (tt, written)
written_parts image (p ∷ ps) qs written = let rest = written_parts image ps qs written.1 in ((written.0, rest.0), rest.1)

numbers_append : (ps qs : List Pair) → numbers_of (ps ++ qs) ≡ numbers_of ps ++ numbers_of qs
numbers_append [] qs = refl
numbers_append (p ∷ ps) qs = ap (λ (ns : List ℕ). p.at.number ∷ ns) (numbers_append ps qs)

module _ (w0 : Work) (at : ℕ) (v : Version) (row_cells : List ℕ) (labelled : IsLabel v.label) (short : length (bytes_in v.row) ≤ MAX_ROW) (bytes : AreBytes (bytes_in v.row)) (count : length row_cells ≡ cells_for (length (bytes_in v.row))) (lowest : AreNextLeft w0 (at ∷ row_cells)) where
  abbrev pub version_work : Work
  version_work = record w0 { pairs = w0.pairs ++ version_pairs at v row_cells; taken = last_number at row_cells }

  match : length row_cells ≡ length (row_parts (bytes_in v.row))
  match = count ∙ sym (count_parts (cells_for (length (bytes_in v.row))) (bytes_in v.row))

  names_are : numbers_of (version_pairs at v row_cells) ≡ row_cells ++ at ∷ []
  names_are =
      numbers_append (part_pairs 0 row_cells (row_parts (bytes_in v.row))) (record { at = record { number = at }; cell = header_cell (header_of v (record { number = first_or 0 row_cells })) } ∷ [])
      ∙ ap (λ (ns : List ℕ). ns ++ at ∷ []) (part_numbers 0 row_cells (row_parts (bytes_in v.row)) match)

  among_turned : (n : ℕ) → IsAmong (row_cells ++ at ∷ []) n → IsAmong (at ∷ row_cells) n
  among_turned n within = elim (among_either row_cells (at ∷ []) n within) [
    | inl row ↦ inr row
    | inr (inl same) ↦ inl same
    | inr (inr none) ↦ absurd none
  ]

  names_within : (n : ℕ) → IsAmong (numbers_of (version_pairs at v row_cells)) n → IsAmong (at ∷ row_cells) n
  names_within n within = among_turned n (subst (λ (ns : List ℕ). IsAmong ns n) names_are within)

  once : AreOnce (at ∷ row_cells)
  once = taken_once w0 (at ∷ row_cells) lowest

  names_once : AreOnce (numbers_of (version_pairs at v row_cells))
  names_once = subst AreOnce (sym names_are) (once_together row_cells (at ∷ []) once.1 ((λ none. none), tt)
      (λ n row within. elim within [ inl same ↦ once.0 (subst (λ (m : ℕ). IsAmong row_cells m) (sym same) row) | inr none ↦ none ]))

  written : AreWritten (reading version_work) (version_pairs at v row_cells)
  written = plan_written w0.pairs (version_pairs at v row_cells) w0.below names_once (λ n within. (was_left w0 (at ∷ row_cells) n lowest (names_within n within)).unplanned)

  near : AreNear row_cells
  near n within =
      let left = was_left w0 (at ∷ row_cells) n lowest (inr within) in
      let low = left.free.page.0 in
      let high = left.free.page.1 in
      (omega arith, omega arith)

  pub version_stands : HoldsVersion (reading version_work) at v (at ∷ row_cells)
  version_stands =
      let both = written_parts (reading version_work) (part_pairs 0 row_cells (row_parts (bytes_in v.row))) (record { at = record { number = at }; cell = header_cell (header_of v (record { number = first_or 0 row_cells })) } ∷ []) written in
      let stand = parts_stand (reading version_work) row_cells (row_parts (bytes_in v.row)) match near (parts_are (cells_for (length (bytes_in v.row))) (bytes_in v.row) bytes) both.0 in
      let numbers_are = placed_numbers 0 row_cells (row_parts (bytes_in v.row)) match in
      record {
        first = record { number = first_or 0 row_cells };
        row_cells = row_cells;
        labelled = labelled;
        short = short;
        header = both.1.0;
        row = record {
          chain = placed row_cells (row_parts (bytes_in v.row));
          chained = record {
            begins = sym (placed_start 0 row_cells (row_parts (bytes_in v.row)) match);
            nodes = record { stand = stand; once = subst AreOnce (sym numbers_are) once.1 };
          };
          parts_are = placed_elements row_cells (row_parts (bytes_in v.row)) match;
          cells_are = sym numbers_are;
        };
        cells_are = refl;
      }

  pub puts_version : (w : Work) → w ≡ version_work → PutsVersion w0 w at v
  puts_version w is = record {
    row_cells = row_cells;
    count = count;
    lowest = lowest;
    planned = is;
    takes = subst (λ (u : Work). TakesLowest w0 u (at ∷ row_cells)) (sym is) (plans_lowest w0 (at ∷ row_cells) (version_pairs at v row_cells) lowest names_within);
    left = λ n within. was_left w0 (at ∷ row_cells) n lowest within;
    elsewhere = λ n without. ap (λ (u : Work). content u.pairs n) is
        ∙ content_before w0.pairs (version_pairs at v row_cells) n (unnamed_when (version_pairs at v row_cells) n (λ within. without (names_within n within)));
    holds = subst (λ (u : Work). HoldsVersion (reading u) at v (at ∷ row_cells)) (sym is) version_stands;
  }

  pub version_takes : (w : Work) → w ≡ version_work → TakesAtMost (cells_for (length (bytes_in v.row)) + 1) w0 w
  version_takes w is =
      let many : length (at ∷ row_cells) ≡ cells_for (length (bytes_in v.row)) + 1 = omega arith in
      subst (λ (u : Work). TakesAtMost (cells_for (length (bytes_in v.row)) + 1) w0 u) (sym is)
      (subst (λ (m : ℕ). TakesAtMost m w0 version_work) many (plans_at_most w0 (at ∷ row_cells) (version_pairs at v row_cells) lowest names_within))

  pub version_places : (w : Work) → w ≡ version_work → length w.pairs ≡ length w0.pairs + cells_for (length (bytes_in v.row)) + 1
  version_places w is =
      let pairs = ap (λ (u : Work). length u.pairs) is in
      let both = length-append w0.pairs (version_pairs at v row_cells) in
      let parts = length-append (part_pairs 0 row_cells (row_parts (bytes_in v.row))) (record { at = record { number = at }; cell = header_cell (header_of v (record { number = first_or 0 row_cells })) } ∷ []) in
      let row = part_pairs_count 0 row_cells (row_parts (bytes_in v.row)) match in
      omega arith

-- the header's cell, once the row is put
module _ (w0 w1 : Work) (at first : ℕ) (bytes : List ℕ) (next : IsNextUntaken w0.pairs w0.below w0.class_of w0.class w0.taken at) (puts : PutsRow (record w0 { taken = at }) w1 first bytes) where
  pub both_lowest : AreNextLeft w0 (at ∷ puts.row_cells)
  both_lowest = (next, puts.lowest)

  header_fresh : names (part_pairs 0 puts.row_cells (row_parts bytes)) at ≡ false
  header_fresh = unnamed_when (part_pairs 0 puts.row_cells (row_parts bytes)) at (λ within.
      (taken_once w0 (at ∷ puts.row_cells) both_lowest).0
      (subst (λ (ns : List ℕ). IsAmong ns at) (part_numbers 0 puts.row_cells (row_parts bytes) (parts_match (record w0 { taken = at }) w1 first bytes puts)) within))

  pub header_unnamed : names w1.pairs at ≡ false
  header_unnamed = ap (λ (u : Work). names u.pairs at) puts.planned ∙ unnamed_both w0.pairs (part_pairs 0 puts.row_cells (row_parts bytes)) at next.untaken.unplanned header_fresh

  pub header_reads : reading w1 at ≡ Some zero_cell
  header_reads =
      ap (λ (o : Option Cell). first_of o (w1.below at)) (content_unnamed w1.pairs at header_unnamed)
      ∙ ap (λ (u : Work). u.below at) puts.planned ∙ next.untaken.free.zero

  pub header_put : (v : Version) → bytes ≡ bytes_in v.row → (ref : CellRef) → ref.number ≡ at → put_work w1 ref (header_cell (header_of v (record { number = first }))) ≡ record w0 { pairs = w0.pairs ++ version_pairs at v puts.row_cells; taken = last_number at puts.row_cells }
  header_put v are ref ref_is =
      let head : Pair = record { at = record { number = at }; cell = header_cell (header_of v (record { number = first_or 0 puts.row_cells })) } in
      ap₂ (λ (r : CellRef) (f : ℕ). put_work w1 r (header_cell (header_of v (record { number = f })))) (λ i. record { number = ref_is i }) puts.begins
      ∙ ap (λ (ps : List Pair). record w1 { pairs = ps }) (put_appends w1.pairs head header_unnamed)
      ∙ ap (λ (u : Work). record u { pairs = u.pairs ++ head ∷ [] }) puts.planned
      ∙ ap (λ (ps : List Pair). record w0 { pairs = ps; taken = last_number at puts.row_cells })
      (append_assoc w0.pairs (part_pairs 0 puts.row_cells (row_parts bytes)) (head ∷ []) ∙ ap (λ (bs : List ℕ). w0.pairs ++ (part_pairs 0 puts.row_cells (row_parts bs) ++ head ∷ [])) are)

-- a version that is put keeps the others
pub others_stay : (before after : Work) (at place : ℕ) (v w : Version) (cells : List ℕ) → PutsVersion before after at v → HoldsVersion (reading before) place w cells → HoldsVersion (reading after) place w cells
others_stay before after at place v w cells puts holds =
    version_rests (reading before) (reading after) place w cells
    (λ n within.
    let apart : ¬ IsAmong (at ∷ puts.row_cells) n = λ taken. version_some (reading before) place w cells holds n within (left_blank before n (puts.left n taken)).zero in
    ap₂ first_of (puts.elsewhere n apart) (ap (λ (u : Work). u.below n) puts.planned))
    holds

-- Giving back
module _ (w0 w1 : Work) (at : ℕ) (v : Version) (cells : List ℕ) (below : w1.below ≡ w0.below) (holds : HoldsVersion (reading w0) at v cells) (clears : Clears w0 w1 holds.row_cells) where
  pub header_stays : reading w1 at ≡ Some (header_cell (header_of v holds.first))
  header_stays = ap₂ (λ (o : Option Cell) (image : Image). first_of o (image at)) (clears.elsewhere at (header_apart (reading w0) at v cells holds)) below ∙ holds.header

  pub header_spent : ¬ IsLeft w1 at
  header_spent left = header_some (header_of v holds.first) (the_cell (reading w1 at) (header_cell (header_of v holds.first)) zero_cell header_stays (left_blank w1 at left).zero)

  pub version_cleared : (ref : CellRef) → ref.number ≡ at → Clears w0 (put_work w1 ref zero_cell) cells
  version_cleared ref ref_is =
      let wrote = put_reads w1 ref zero_cell in
      record {
        zero = λ n within. elim (subst (λ (ns : List ℕ). IsAmong ns n) holds.cells_are within) [
          | inl same ↦ ap (reading (put_work w1 ref zero_cell)) (sym same ∙ sym ref_is) ∙ wrote.here
          | inr row ↦ wrote.elsewhere n (λ same. header_apart (reading w0) at v cells holds (subst (λ (m : ℕ). IsAmong holds.row_cells m) (same ∙ ref_is) row)) ∙ clears.zero n row
        ];
        elsewhere = λ n without. elim (put_says w1 ref zero_cell n) [
          | inl said ↦ said ∙ clears.elsewhere n (λ row. without (subst (λ (ns : List ℕ). IsAmong ns n) (sym holds.cells_are) (inr row)))
          | inr same ↦ absurd (without (subst (λ (ns : List ℕ). IsAmong ns n) (sym holds.cells_are) (inl (sym (same ∙ ref_is)))))
        ];
      }

-- Changing the label
pub relabelled : (before after : Image) (at : ℕ) (v w : Version) (cells : List ℕ) → (holds : HoldsVersion before at v cells) → w.row ≡ v.row → IsLabel w.label → Writes before after at (header_cell (header_of w holds.first)) → HoldsVersion after at w cells
relabelled before after at v w cells holds row labelled writes =
    let bytes : bytes_in w.row ≡ bytes_in v.row = ap bytes_in row in
    record {
      first = holds.first;
      row_cells = holds.row_cells;
      labelled = labelled;
      short = subst (λ (bs : List ℕ). length bs ≤ MAX_ROW) (sym bytes) holds.short;
      header = writes.here;
      row = subst (λ (bs : List ℕ). HoldsRow after holds.first.number bs holds.row_cells) (sym bytes)
          (row_rests before after holds.first.number (bytes_in v.row) holds.row_cells
          (λ n within. writes.elsewhere n (λ same. header_apart before at v cells holds (subst (λ (m : ℕ). IsAmong holds.row_cells m) same within))) holds.row);
      cells_are = holds.cells_are;
    }
