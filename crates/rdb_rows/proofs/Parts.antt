-- Rows in parts, and the pairs that plan them.
use Rattle.std.proofs.Common.{◌≡◌, ◌<◌, ◌≤◌, ◌-◌, ◌*◌, ◌^◌, ◌++◌, zero, suc, ℕ, List, [], ◌∷◌, length, take, drop, replicate, refl, sym, ap, ap₂, ◌∙◌, arith, append_assoc, length-drop, length-take, inl, inr}
use Rattle.std.proofs.lemmas.Bool.{cases_lt}
use Rattle.std.proofs.lemmas.List.{take_all, append-nil, length-take-le, take-append-drop}
use Rattle.rdb_cells.specs.declared.pairs.Pair.{Pair}
use Rattle.rdb_cells.specs.Images.{Image}
use Rattle.rdb_cells.specs.Links.{IsAmong, Placed, Stand, numbers, elements, start, segment}
use Rattle.rdb_cells.specs.Records.{numbers_of}
use Rattle.rdb_cells.specs.RowFormat.{filled_up, row_cell}
use Rattle.rdb_cells.proofs.RowFormatLemmas.{filled_proper}
use Rattle.rdb_rows.specs.Rows.{AreBytes, cells_for, parts, row_parts, IsPart}
use Rattle.rdb_rows.specs.Plans.{first_or, part_pair, part_pairs}
use Rattle.rdb_rows.proofs.Pairings.{AreWritten}

-- a part of bytes has bytes, 60 of them
pub record ArePart (part : List ℕ) : Type 0 where
  pub count : length part ≡ 60
  pub bytes : AreBytes part

abbrev pub AreParts : List (List ℕ) → Type 0
AreParts [] = Unit {0}
AreParts (p ∷ ps) = ArePart p × AreParts ps

take_bytes : (n : ℕ) (bytes : List ℕ) → AreBytes bytes → AreBytes (take n bytes)
take_bytes zero bytes small k = omega arith
take_bytes (suc n) [] small k = small k
take_bytes (suc n) (b ∷ bytes) small zero = small 0
take_bytes (suc n) (b ∷ bytes) small (suc k) = take_bytes n bytes (λ i. small (suc i)) k

pub drop_bytes : (n : ℕ) (bytes : List ℕ) → AreBytes bytes → AreBytes (drop n bytes)
drop_bytes zero bytes small k = small k
drop_bytes (suc n) [] small k = small k
drop_bytes (suc n) (b ∷ bytes) small k = drop_bytes n bytes (λ i. small (suc i)) k

first_part : (bytes : List ℕ) → AreBytes bytes → ArePart (filled_up (take 60 bytes))
first_part bytes small =
    let taken = length-take 60 bytes in
    let proper = filled_proper (take 60 bytes) (record { number = 0 }) (omega arith) (take_bytes 60 bytes small) (omega arith) in
    record { count = proper.count; bytes = proper.bytes }

pub parts_are : (n : ℕ) (bytes : List ℕ) → AreBytes bytes → AreParts (parts bytes n)
parts_are zero bytes small = tt
parts_are (suc n) bytes small = (first_part bytes small, parts_are n (drop 60 bytes) (drop_bytes 60 bytes small))

pub count_parts : (n : ℕ) (bytes : List ℕ) → length (parts bytes n) ≡ n
count_parts zero bytes = refl
count_parts (suc n) bytes = ap suc (count_parts n (drop 60 bytes))

-- a row longer than a cell has a part, and those of the rest
pub more_parts : (bytes : List ℕ) → 60 < length bytes → row_parts bytes ≡ filled_up (take 60 bytes) ∷ row_parts (drop 60 bytes)
more_parts bytes long =
    let rest = length-drop 60 bytes in
    let one : cells_for (length bytes) ≡ suc (cells_for (length (drop 60 bytes))) = omega arith in
    ap (parts bytes) one

-- a row within a cell has one part
pub one_part : (bytes : List ℕ) → 0 < length bytes → length bytes ≤ 60 → row_parts bytes ≡ filled_up bytes ∷ []
one_part bytes some short =
    let one : cells_for (length bytes) ≡ 1 = omega arith in
    ap (parts bytes) one ∙ ap (λ (front : List ℕ). filled_up front ∷ []) (take_all 60 bytes short)

-- the parts, one after another
abbrev pub flat : List (List ℕ) → List ℕ
flat [] = []
flat (p ∷ ps) = p ++ flat ps

-- the parts of a row begin with the row
pub parts_begin : (n : ℕ) (bytes : List ℕ) → length bytes ≤ 60 * n → (fill : List ℕ) × (flat (parts bytes n) ≡ bytes ++ fill)
parts_begin zero [] within = ([], refl)
parts_begin zero (b ∷ bytes) within = absurd (omega arith)
parts_begin (suc n) bytes within = elim (cases_lt 60 (length bytes)) [
  | inl longer ↦
      let left = length-drop 60 bytes in
      let rest = parts_begin n (drop 60 bytes) (omega arith) in
      let whole : length (take 60 bytes) ≡ 60 = length-take-le 60 bytes (omega arith) in
      let none : filled_up (take 60 bytes) ≡ take 60 bytes =
      ap (λ (m : ℕ). take 60 bytes ++ replicate (60 - m) 0) whole ∙ append-nil (take 60 bytes) in (
        rest.0,
        ap₂ (λ (xs ys : List ℕ). xs ++ ys) none rest.1
            ∙ sym (append_assoc (take 60 bytes) (drop 60 bytes) rest.0)
            ∙ ap (λ (xs : List ℕ). xs ++ rest.0) (take-append-drop 60 bytes),
      )
  | inr shorter ↦
      let all : take 60 bytes ≡ bytes = take_all 60 bytes shorter in (
        replicate (60 - length bytes) 0 ++ flat (parts (drop 60 bytes) n),
        ap (λ (xs : List ℕ). filled_up xs ++ flat (parts (drop 60 bytes) n)) all
            ∙ append_assoc bytes (replicate (60 - length bytes) 0) (flat (parts (drop 60 bytes) n)),
      )
]

-- Pairs of parts
pub part_numbers : (end : ℕ) (ns : List ℕ) (ps : List (List ℕ)) → length ns ≡ length ps → numbers_of (part_pairs end ns ps) ≡ ns
part_numbers end [] [] same = refl
part_numbers end [] (p ∷ ps) same = refl
part_numbers end (n ∷ ns) [] same = absurd (omega arith)
part_numbers end (n ∷ ns) (p ∷ ps) same = ap (λ (ms : List ℕ). n ∷ ms) (part_numbers end ns ps (omega arith))

pub part_pairs_count : (end : ℕ) (ns : List ℕ) (ps : List (List ℕ)) → length ns ≡ length ps → length (part_pairs end ns ps) ≡ length ns
part_pairs_count end [] [] same = refl
part_pairs_count end [] (p ∷ ps) same = refl
part_pairs_count end (n ∷ ns) [] same = absurd (omega arith)
part_pairs_count end (n ∷ ns) (p ∷ ps) same = ap suc (part_pairs_count end ns ps (omega arith))

pub part_more : (end n : ℕ) (part : List ℕ) (ns : List ℕ) (ps : List (List ℕ)) → length ns ≡ length ps → part_pairs end (ns ++ n ∷ []) (ps ++ part ∷ []) ≡ part_pairs n ns ps ++ part_pair n part end ∷ []
part_more end n part [] [] same = refl
part_more end n part [] (p ∷ ps) same = absurd (omega arith)
part_more end n part (m ∷ ns) [] same = absurd (omega arith)
part_more end n part (m ∷ []) (p ∷ []) same = refl
part_more end n part (m ∷ []) (p ∷ q ∷ ps) same = absurd (omega arith)
part_more end n part (m ∷ k ∷ ns) (p ∷ []) same = absurd (omega arith)
part_more end n part (m ∷ k ∷ ns) (p ∷ q ∷ ps) same =
    ap (λ (qs : List Pair). part_pair m p k ∷ qs) (part_more end n part (k ∷ ns) (q ∷ ps) (omega arith))

-- Cells with parts
abbrev pub placed : List ℕ → List (List ℕ) → List (Placed (List ℕ))
placed [] ps = []
placed (n ∷ ns) [] = []
placed (n ∷ ns) (p ∷ ps) = record { number = n; element = p } ∷ placed ns ps

pub placed_numbers : (end : ℕ) (ns : List ℕ) (ps : List (List ℕ)) → length ns ≡ length ps → numbers (segment (placed ns ps) end) ≡ ns
placed_numbers end [] ps same = refl
placed_numbers end (n ∷ ns) [] same = absurd (omega arith)
placed_numbers end (n ∷ ns) (p ∷ ps) same = ap (λ (ms : List ℕ). n ∷ ms) (placed_numbers end ns ps (omega arith))

pub placed_elements : (ns : List ℕ) (ps : List (List ℕ)) → length ns ≡ length ps → elements (placed ns ps) ≡ ps
placed_elements [] [] same = refl
placed_elements [] (p ∷ ps) same = absurd (omega arith)
placed_elements (n ∷ ns) [] same = absurd (omega arith)
placed_elements (n ∷ ns) (p ∷ ps) same = ap (λ (qs : List (List ℕ)). p ∷ qs) (placed_elements ns ps (omega arith))

pub placed_start : (end : ℕ) (ns : List ℕ) (ps : List (List ℕ)) → length ns ≡ length ps → start (placed ns ps) end ≡ first_or end ns
placed_start end [] ps same = refl
placed_start end (n ∷ ns) [] same = absurd (omega arith)
placed_start end (n ∷ ns) (p ∷ ps) same = refl

-- numbers of cells that row cells can have and lead to
abbrev pub AreNear : List ℕ → Type 0
AreNear ns = (n : ℕ) → IsAmong ns n → (0 < n) × (n < 2 ^ 24)

-- what is planned for parts stands, once it is written
pub parts_stand : (image : Image) (ns : List ℕ) (ps : List (List ℕ)) → length ns ≡ length ps → AreNear ns → AreParts ps → AreWritten image (part_pairs 0 ns ps) → Stand IsPart image (segment (placed ns ps) 0)
parts_stand image [] ps same near are written = tt
parts_stand image (n ∷ ns) [] same near are written = tt
parts_stand image (n ∷ ns) (p ∷ ps) same near are written = (
  record {
    some = (near n (inl refl)).0;
    cell = row_cell (record { next = record { number = first_or 0 ns }; bytes = p });
    here = written.0;
    written = record {
      next = record { number = first_or 0 ns };
      near = next_near ns (λ m within. (near m (inr within)).1);
      count = are.0.count;
      bytes = are.0.bytes;
      written = refl;
      leads = ap (λ (m : ℕ). m ∷ []) (placed_start 0 ns ps (omega arith));
    };
  },
  parts_stand image ns ps (omega arith) (λ m within. near m (inr within)) are.1 written.1,
)
  where
    next_near : (ms : List ℕ) → ((m : ℕ) → IsAmong ms m → m < 2 ^ 24) → first_or 0 ms < 2 ^ 24
    next_near [] near = omega arith
    next_near (m ∷ ms) near = near m (inl refl)
