-- The chain of a row's cells, gone through from its first.
use Rattle.std.proofs.Common.{◌≡◌, ◌≢◌, ◌<◌, ◌≤◌, ◌+◌, ◌-◌, ◌++◌, zero, suc, ℕ, List, [], ◌∷◌, length, take, drop, map, replicate, get_or, min, Option, Some, inl, inr, refl, sym, ap, ap₂, subst, ◌∙◌, arith, append_assoc, length-append, length-drop, length-take}
use Rattle.std.specs.Option.{option_map_or}
use Rattle.std.proofs.lemmas.Bool.{cases_lt}
use Rattle.std.proofs.lemmas.List.{append-nil, take_all, take-take, take-append-le, drop-drop, nil_from_length, length_push}
use Rattle.rdb_pages.specs.declared.cell.Cell.{Cell}
use Rattle.rdb_pages.specs.declared.cell.CellRef.{CellRef}
use Rattle.rdb_pages.specs.Pages.{zero_cell}
use Rattle.rdb_cells.specs.declared.formats.row.RowCell.{RowCell}
use Rattle.rdb_cells.specs.Images.{Image}
use Rattle.rdb_cells.specs.Links.{IsAmong, AreOnce, Stand, Placed, elements, start, segment, numbers}
use Rattle.rdb_cells.specs.Records.{content, first_of}
use Rattle.rdb_cells.specs.RowFormat.{filled_up, row_in}
use Rattle.rdb_cells.specs.Work.{Work, reading, IsLeft}
use Rattle.rdb_cells.proofs.LinkLemmas.{among_either, among_front, among_back, once_without, stand_parts, segment_append}
use Rattle.rdb_cells.proofs.RowFormatLemmas.{row_back}
use Rattle.rdb_cells.proofs.WorkLemmas.{put_work, put_reads, put_says, left_blank}
use Rattle.rdb_rows.specs.Plans.{Clears}
use Rattle.rdb_rows.specs.Rows.{cells_for, parts, IsPart, HoldsRow}
use Rattle.rdb_rows.proofs.Parts.{count_parts}

-- what a cell of a part is
pub part_read : (cell : Cell) (part : List ℕ) (links : List ℕ) → IsPart cell part links → ((row_in cell).bytes ≡ part) × ((row_in cell).next.number ∷ [] ≡ links)
part_read cell part links is =
    let back = ap row_in is.written ∙ row_back (record { next = is.next; bytes = part }) (record { next = is.near; count = is.count; bytes = is.bytes }) in
    (ap (λ (r : RowCell). r.bytes) back, ap (λ (r : RowCell). r.next.number ∷ []) back ∙ sym is.leads)

pub never_zero : (part : List ℕ) (links : List ℕ) → ¬ IsPart zero_cell part links
never_zero part links is =
    let kind = ap (λ (c : Cell). get_or c.words 0 0) is.written in
    absurd (omega arith)

pub part_one : (cell : Cell) (a b : List ℕ) (ks ls : List ℕ) → IsPart cell a ks → IsPart cell b ls → (a ≡ b) × (ks ≡ ls)
part_one cell a b ks ls first second =
    let one = part_read cell a ks first in
    let two = part_read cell b ls second in
    (sym one.0 ∙ two.0, sym one.1 ∙ two.1)

pub the_number : (a b : ℕ) → a ∷ [] ≡ b ∷ [] → a ≡ b
the_number a b e = ap (λ (ns : List ℕ). get_or ns 0 0) e

-- the numbers of a chain's cells
abbrev pub cells_of : List (Placed (List ℕ)) → List ℕ
cells_of chain = map (λ p. p.number) chain

pub segment_cells : (chain : List (Placed (List ℕ))) (end : ℕ) → numbers (segment chain end) ≡ cells_of chain
segment_cells [] end = refl
segment_cells (p ∷ ps) end = ap (λ (ns : List ℕ). p.number ∷ ns) (segment_cells ps end)

cells_append : (xs ys : List (Placed (List ℕ))) → cells_of (xs ++ ys) ≡ cells_of xs ++ cells_of ys
cells_append [] ys = refl
cells_append (x ∷ xs) ys = ap (λ (ns : List ℕ). x.number ∷ ns) (cells_append xs ys)

elements_length : (chain : List (Placed (List ℕ))) → length (elements chain) ≡ length chain
elements_length [] = refl
elements_length (p ∷ ps) = ap suc (elements_length ps)

-- a row has so many cells
pub chain_length : (image : Image) (first : ℕ) (bytes cells : List ℕ) → (holds : HoldsRow image first bytes cells) → length holds.chain ≡ cells_for (length bytes)
chain_length image first bytes cells holds = sym (elements_length holds.chain) ∙ ap (λ (ps : List (List ℕ)). length ps) holds.parts_are ∙ count_parts (cells_for (length bytes)) bytes

-- behind some cells of a chain stands the next one
pub record StandsNext (image : Image) (front : List (Placed (List ℕ))) (at : ℕ) (back : List (Placed (List ℕ))) : Type 0 where
  pub place : Placed (List ℕ)
  pub rest : List (Placed (List ℕ))
  pub is : back ≡ place ∷ rest
  pub here : at ≡ place.number
  pub cell : Cell
  pub held : image at ≡ Some cell
  pub part : IsPart cell place.element (start rest 0 ∷ [])
  pub apart : ¬ IsAmong (cells_of front) at

pub stands_next : (image : Image) (front back : List (Placed (List ℕ))) (at : ℕ) → Stand IsPart image (segment (front ++ back) 0) → AreOnce (cells_of (front ++ back)) → at ≡ start back 0 → 0 < length back → StandsNext image front at back
stands_next image front [] at stand once here some = absurd (omega arith)
stands_next image front (p ∷ ps) at stand once here some =
    let nodes = (stand_parts IsPart image (segment front p.number) (segment (p ∷ ps) 0) (subst (Stand IsPart image) (segment_append front (p ∷ ps) 0) stand)).1 in
    record {
      place = p;
      rest = ps;
      is = refl;
      here = here;
      cell = nodes.0.cell;
      held = ap image here ∙ nodes.0.here;
      part = nodes.0.written;
      apart = λ within.
          (once_without (cells_of front) p.number (cells_of ps) (subst AreOnce (cells_append front (p ∷ ps)) once)).1
          (among_front (cells_of front) (cells_of ps) p.number (subst (λ (n : ℕ). IsAmong (cells_of front) n) here within));
    }

-- so many cells of the chain are zero now
pub record IsCleared (w0 w : Work) (chain : List (Placed (List ℕ))) (count at : ℕ) : Type 0 where
  pub front : List (Placed (List ℕ))
  pub back : List (Placed (List ℕ))
  pub whole : chain ≡ front ++ back
  pub many : length front ≡ count
  pub next : at ≡ start back 0
  pub zero : (n : ℕ) → IsAmong (cells_of front) n → reading w n ≡ Some zero_cell
  pub elsewhere : (n : ℕ) → (¬ IsAmong (cells_of front) n) → content w.pairs n ≡ content w0.pairs n

module _ (w0 w : Work) (chain : List (Placed (List ℕ))) (count at : ℕ) (below : w.below ≡ w0.below) (stand : Stand IsPart (reading w0) (segment chain 0)) (once : AreOnce (cells_of chain)) (is : IsCleared w0 w chain count at) (some : count < length chain) where
  pub clear_next : StandsNext (reading w0) is.front at is.back
  clear_next =
      let both = ap (λ (ps : List (Placed (List ℕ))). length ps) is.whole ∙ length-append is.front is.back in
      let many = is.many in
      stands_next (reading w0) is.front is.back at
      (subst (λ (ps : List (Placed (List ℕ))). Stand IsPart (reading w0) (segment ps 0)) is.whole stand)
      (subst (λ (ps : List (Placed (List ℕ))). AreOnce (cells_of ps)) is.whole once)
      is.next (omega arith)

  pub clear_reads : reading w at ≡ Some clear_next.cell
  clear_reads =
      ap (λ (o : Option Cell). first_of o (w.below at)) (is.elsewhere at clear_next.apart)
      ∙ ap (λ (image : Image). first_of (content w0.pairs at) (image at)) below
      ∙ clear_next.held

  -- it can't be taken
  pub clear_spent : ¬ IsLeft w at
  clear_spent left =
      let zero = (left_blank w at left).zero in
      let same : zero_cell ≡ clear_next.cell = ap (λ (o : Option Cell). option_map_or (λ c. c) o zero_cell) (sym zero ∙ clear_reads) in
      never_zero clear_next.place.element (start clear_next.rest 0 ∷ []) (subst (λ (c : Cell). IsPart c clear_next.place.element (start clear_next.rest 0 ∷ [])) (sym same) clear_next.part)

  -- the next one is cleared, too
  pub clear_more : (ref : CellRef) (cell : Cell) (next : ℕ) → ref.number ≡ at → reading w at ≡ Some cell → next ≡ (row_in cell).next.number → IsCleared w0 (put_work w ref zero_cell) chain (count + 1) next
  clear_more ref cell next ref_is reads next_is =
      let there = clear_next in
      let cells : cell ≡ there.cell = ap (λ (o : Option Cell). option_map_or (λ c. c) o cell) (sym reads ∙ clear_reads) in
      let wrote = put_reads w ref zero_cell in
      let many = is.many in
      let longer = length_push is.front there.place in
      let apart : (n : ℕ) → IsAmong (cells_of is.front) n → n ≢ ref.number = λ n within same. there.apart (subst (λ (m : ℕ). IsAmong (cells_of is.front) m) (same ∙ ref_is) within) in
      record {
        front = is.front ++ there.place ∷ [];
        back = there.rest;
        whole = is.whole ∙ ap (λ (ps : List (Placed (List ℕ))). is.front ++ ps) there.is ∙ sym (append_assoc is.front (there.place ∷ []) there.rest);
        many = omega arith;
        next = next_is ∙ ap (λ (c : Cell). (row_in c).next.number) cells ∙ the_number (row_in there.cell).next.number (start there.rest 0) (part_read there.cell there.place.element (start there.rest 0 ∷ []) there.part).1;
        zero = λ n within. elim (among_either (cells_of is.front) (there.place.number ∷ []) n (subst (λ (ns : List ℕ). IsAmong ns n) (cells_append is.front (there.place ∷ [])) within)) [
          | inl front ↦ wrote.elsewhere n (apart n front) ∙ is.zero n front
          | inr (inl same) ↦ ap (reading (put_work w ref zero_cell)) (sym same ∙ sym there.here ∙ sym ref_is) ∙ wrote.here
          | inr (inr none) ↦ absurd none
        ];
        elsewhere = λ n without. elim (put_says w ref zero_cell n) [
          | inl said ↦ said ∙ is.elsewhere n (λ front. without (subst (λ (ns : List ℕ). IsAmong ns n) (sym (cells_append is.front (there.place ∷ []))) (among_front (cells_of is.front) (there.place.number ∷ []) n front)))
          | inr same ↦ absurd (without (subst (λ (ns : List ℕ). IsAmong ns n) (sym (cells_append is.front (there.place ∷ [])))
              (among_back (cells_of is.front) (there.place.number ∷ []) n (inl (sym there.here ∙ sym ref_is ∙ sym same)))))
        ];
      }

-- once all are cleared
pub all_front : (w0 w : Work) (chain : List (Placed (List ℕ))) (count at : ℕ) → (is : IsCleared w0 w chain count at) → length chain ≤ count → is.front ≡ chain
all_front w0 w chain count at is all =
    let both = ap (λ (ps : List (Placed (List ℕ))). length ps) is.whole ∙ length-append is.front is.back in
    let many = is.many in
    let none : is.back ≡ [] = nil_from_length is.back (omega arith) in
    sym (is.whole ∙ ap (λ (ps : List (Placed (List ℕ))). is.front ++ ps) none ∙ append-nil is.front)

-- Reading
take_sum : (a b : ℕ) (xs : List ℕ) → take (a + b) xs ≡ take a xs ++ take b (drop a xs)
take_sum zero b xs = let e : 0 + b ≡ b = omega arith in ap (λ (n : ℕ). take n xs) e
take_sum (suc a) b [] = let e : suc a + b ≡ suc (a + b) = omega arith in ap (λ (n : ℕ). take n []) e ∙ sym (take_none b)
  where
    take_none : (n : ℕ) → take {A = ℕ} n [] ≡ []
    take_none zero = refl
    take_none (suc n) = refl
take_sum (suc a) b (x ∷ xs) =
    let e : suc a + b ≡ suc (a + b) = omega arith in
    ap (λ (n : ℕ). take n (x ∷ xs)) e ∙ ap (λ (ys : List ℕ). x ∷ ys) (take_sum a b xs)

-- of the chain's row so much is read, and so much is left
pub record IsRead (chain : List (Placed (List ℕ))) (bytes read : List ℕ) (at left : ℕ) : Type 0 where
  pub front : List (Placed (List ℕ))
  pub back : List (Placed (List ℕ))
  pub whole : chain ≡ front ++ back
  pub next : at ≡ start back 0
  pub within : left ≤ length bytes
  pub read_is : read ≡ take (length bytes - left) bytes
  pub rest : elements back ≡ parts (drop (length bytes - left) bytes) (cells_for left)

pub nothing_read : (image : Image) (first : ℕ) (bytes cells : List ℕ) → (holds : HoldsRow image first bytes cells) → IsRead holds.chain bytes [] first (length bytes)
nothing_read image first bytes cells holds =
    let none : length bytes - length bytes ≡ 0 = omega arith in
    record {
      front = [];
      back = holds.chain;
      whole = refl;
      next = holds.chained.begins;
      within = omega arith;
      read_is = ap (λ (n : ℕ). take n bytes) (sym none);
      rest = holds.parts_are ∙ ap (λ (n : ℕ). parts (drop n bytes) (cells_for (length bytes))) (sym none);
    }

pub all_read : (chain : List (Placed (List ℕ))) (bytes read : List ℕ) (at left : ℕ) → IsRead chain bytes read at left → left ≡ 0 → read ≡ bytes
all_read chain bytes read at left is none = is.read_is ∙ take_all (length bytes - left) bytes (omega arith)

some_back : (back : List (Placed (List ℕ))) (bytes : List ℕ) (n : ℕ) → elements back ≡ parts bytes n → length back ≡ n
some_back back bytes n e = sym (elements_length back) ∙ ap (λ (ps : List (List ℕ)). length ps) e ∙ count_parts n bytes

first_element : (p : Placed (List ℕ)) (ps : List (Placed (List ℕ))) (part : List ℕ) (rest : List (List ℕ)) → elements (p ∷ ps) ≡ part ∷ rest → (p.element ≡ part) × (elements ps ≡ rest)
first_element p ps part rest e = (ap (λ (es : List (List ℕ)). get_or es 0 []) e, ap (λ (es : List (List ℕ)). drop 1 es) e)

module _ (image : Image) (chain : List (Placed (List ℕ))) (bytes read : List ℕ) (at left : ℕ) (stand : Stand IsPart image (segment chain 0)) (once : AreOnce (cells_of chain)) (is : IsRead chain bytes read at left) (some : 0 < left) where
  pub read_next : StandsNext image is.front at is.back
  read_next =
      let count = some_back is.back (drop (length bytes - left) bytes) (cells_for left) is.rest in
      stands_next image is.front is.back at
      (subst (λ (ps : List (Placed (List ℕ))). Stand IsPart image (segment ps 0)) is.whole stand)
      (subst (λ (ps : List (Placed (List ℕ))). AreOnce (cells_of ps)) is.whole once)
      is.next (omega arith)

  -- the part of the next cell is read, too
  pub read_more : (cell : Cell) (part : RowCell) → image at ≡ Some cell → part ≡ row_in cell → IsRead chain bytes (read ++ take (min left 60) part.bytes) part.next.number (left - min left 60)
  read_more cell part reads part_is =
      let there = read_next in
      let within = is.within in
      let cells : cell ≡ there.cell = ap (λ (o : Option Cell). option_map_or (λ c. c) o cell) (sym reads ∙ there.held) in
      let told = part_read there.cell there.place.element (start there.rest 0 ∷ []) there.part in
      let rest : List ℕ = drop (length bytes - left) bytes in
      let more : cells_for left ≡ suc (cells_for (left - min left 60)) = omega arith in
      let both : elements (there.place ∷ there.rest) ≡ filled_up (take 60 rest) ∷ parts (drop 60 rest) (cells_for (left - min left 60)) =
      ap (λ (ps : List (Placed (List ℕ))). elements ps) (sym there.is) ∙ is.rest ∙ ap (parts rest) more in
      let split = first_element there.place there.rest (filled_up (take 60 rest)) (parts (drop 60 rest) (cells_for (left - min left 60))) both in
      let element : part.bytes ≡ filled_up (take 60 rest) = ap (λ (r : RowCell). r.bytes) part_is ∙ ap (λ (c : Cell). (row_in c).bytes) cells ∙ told.0 ∙ split.0 in
      let long : length rest ≡ left = length-drop (length bytes - left) bytes ∙ (omega arith) in
      let front : length (take 60 rest) ≡ min 60 (length rest) = length-take 60 rest in
      let taken : take (min left 60) part.bytes ≡ take (min left 60) rest =
      ap (λ (xs : List ℕ). take (min left 60) xs) element
      ∙ take-append-le (min left 60) (take 60 rest) (replicate (60 - length (take 60 rest)) 0) (omega arith)
      ∙ take-take (min left 60) 60 rest (omega arith) in
      let sum : length bytes - (left - min left 60) ≡ length bytes - left + min left 60 = omega arith in
      record {
        front = is.front ++ there.place ∷ [];
        back = there.rest;
        whole = is.whole ∙ ap (λ (ps : List (Placed (List ℕ))). is.front ++ ps) there.is ∙ sym (append_assoc is.front (there.place ∷ []) there.rest);
        next = ap (λ (r : RowCell). r.next.number) part_is ∙ ap (λ (c : Cell). (row_in c).next.number) cells ∙ the_number (row_in there.cell).next.number (start there.rest 0) told.1;
        within = omega arith;
        read_is = ap₂ (λ (xs ys : List ℕ). xs ++ ys) is.read_is taken ∙ sym (take_sum (length bytes - left) (min left 60) bytes) ∙ ap (λ (n : ℕ). take n bytes) (sym sum);
        rest = split.1 ∙ elim (cases_lt 60 left) [
          | inl longer ↦
              let sixty : length bytes - left + 60 ≡ length bytes - (left - min left 60) = omega arith in
              ap (λ (xs : List ℕ). parts xs (cells_for (left - min left 60))) (drop-drop 60 (length bytes - left) bytes ∙ ap (λ (n : ℕ). drop n bytes) sixty)
          | inr shorter ↦
              let none : cells_for (left - min left 60) ≡ 0 = omega arith in
              ap (parts (drop 60 rest)) none ∙ sym (ap (parts (drop (length bytes - (left - min left 60)) bytes)) none)
        ];
      }

-- each cell of a row's chain stands once
pub chain_once : (image : Image) (first : ℕ) (bytes cells : List ℕ) → (holds : HoldsRow image first bytes cells) → AreOnce (cells_of holds.chain)
chain_once image first bytes cells holds = subst AreOnce (segment_cells holds.chain 0) holds.chained.nodes.once

-- no cell is cleared yet
pub nothing_cleared : (w : Work) (first : ℕ) (bytes cells : List ℕ) → (holds : HoldsRow (reading w) first bytes cells) → IsCleared w w holds.chain 0 first
nothing_cleared w first bytes cells holds = record {
  front = [];
  back = holds.chain;
  whole = refl;
  many = refl;
  next = holds.chained.begins;
  zero = λ n none. absurd none;
  elsewhere = λ n without. refl;
}

-- every cell is cleared
pub row_cleared : (w0 w : Work) (first many at : ℕ) (bytes cells : List ℕ) → length bytes ≡ many → (holds : HoldsRow (reading w0) first bytes cells) → IsCleared w0 w holds.chain (cells_for many) at → Clears w0 w cells
row_cleared w0 w first many at bytes cells long holds is =
    let count = chain_length (reading w0) first bytes cells holds in
    let same : cells_for (length bytes) ≡ cells_for many = ap cells_for long in
    let front : cells ≡ cells_of is.front = holds.cells_are ∙ segment_cells holds.chain 0 ∙ ap cells_of (sym (all_front w0 w holds.chain (cells_for many) at is (omega arith))) in
    record {
      zero = λ n within. is.zero n (subst (λ (ns : List ℕ). IsAmong ns n) front within);
      elsewhere = λ n without. is.elsewhere n (λ within. without (subst (λ (ns : List ℕ). IsAmong ns n) (sym front) within));
    }
