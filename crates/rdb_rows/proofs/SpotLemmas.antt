-- Bytes that stand from a spot on.
use Rattle.std.proofs.Common.{◌≡◌, ◌<◌, ◌≤◌, ◌+◌, ◌-◌, ◌*◌, ◌++◌, zero, suc, ℕ, List, [], ◌∷◌, length, take, drop, get_or, set, Option, Some, None, refl, sym, ap, ap₂, subst, ◌∙◌, arith, length-append, length-drop}
use Rattle.std.specs.Prelude.{slice_index}
use Rattle.std.specs.Prelude.{ℤ, pos, Bool, true, false, if◌then◌else◌}
use Rattle.std.specs.Int.{w32, to_le_bytes, cast_signed}
use Rattle.std.proofs.lemmas.Bool.{le-leb}
use Rattle.byteorder.specs.Endian.{little_number, twos_complement}
use Rattle.byteorder.specs.Numbers.{little_from-take}
use Rattle.rdb_access.specs.Walk.{number_from}
use Rattle.rdb_access.specs.Read.{edge_from}
use Rattle.rdb_access.proofs.Reading.{room_test}
use Rattle.std.specs.List.{flat_map}
use Rattle.std.specs.Option.{option_map_or}
use Rattle.std.proofs.lemmas.List.{drop-drop, drop-append-le, take-append-drop, length-take-le, get_or-drop, get_or_append_left, take_more, take_more_set}
use Rattle.rdb_pages.specs.declared.cell.Cell.{Cell}
use Rattle.rdb_cells.specs.declared.kind.Kind.TheVariants as kind
use Rattle.rdb_cells.specs.Images.{Image}
use Rattle.rdb_cells.specs.RowFormat.{row_in}
use Rattle.rdb_cells.specs.Words.{IsOfKind}
use Rattle.rdb_rows.specs.declared.spot.Spot.{Spot}
use Rattle.rdb_rows.specs.KeyLaws.{found_kind}
use Rattle.rdb_rows.specs.RowKeys.{of_kind, bytes_from}
use Rattle.rdb_rows.specs.Spots.{Stand, HasBytes}

-- so many bytes on
pub skip_stand : (image : Image) (spot : Spot) (many : ℕ) (bytes : List ℕ) → many ≤ length bytes → Stand image spot bytes → Stand image (record { cell = spot.cell; place = spot.place + many }) (drop many bytes)
skip_stand image spot many bytes within stand =
    let left = length-drop many bytes in
    let near = stand.near in
    record {
      many = stand.many;
      fill = stand.fill;
      here = sym (drop-drop many spot.place (bytes_from image stand.many spot.cell.number)) ∙ ap (drop many) stand.here ∙ drop-append-le many bytes stand.fill within;
      near = omega arith;
    }

-- bytes that stand there, parted
pub has_bytes : (image : Image) (spot : Spot) (many : ℕ) (bytes : List ℕ) → many ≤ length bytes → Stand image spot bytes → HasBytes image spot many
has_bytes image spot many bytes within stand = record {
  bytes = take many bytes;
  rest = drop many bytes;
  long = length-take-le many bytes within;
  stand = subst (Stand image spot) (sym (take-append-drop many bytes)) stand;
}

-- the cell of the next byte
pub record HasCell (image : Image) (spot : Spot) (bytes fill : List ℕ) : Type 0 where
  pub cell : Cell
  pub many : ℕ
  pub here : image spot.cell.number ≡ Some cell
  pub row : IsOfKind cell kind.Row
  pub stands : drop spot.place ((row_in cell).bytes ++ bytes_from image many (row_in cell).next.number) ≡ bytes ++ fill

no_drop : (n : ℕ) → drop {A = ℕ} n [] ≡ []
no_drop zero = refl
no_drop (suc n) = refl

pub has_cell : (image : Image) (spot : Spot) (bytes : List ℕ) → 0 < length bytes → (stand : Stand image spot bytes) → HasCell image spot bytes stand.fill
has_cell image spot bytes some stand = by_count stand.many stand.here
  where
    nothing : (n : ℕ) → drop {A = ℕ} n [] ≡ bytes ++ stand.fill → ⊥
    nothing n e =
        let long = ap (λ (xs : List ℕ). length xs) (sym (no_drop n) ∙ e) ∙ length-append bytes stand.fill in
        absurd (omega arith)

    by_cell : (many : ℕ) (o : Option Cell) → of_kind kind.Row (image spot.cell.number) ≡ o → drop spot.place (option_map_or (λ cell. (row_in cell).bytes ++ bytes_from image many (row_in cell).next.number) o []) ≡ bytes ++ stand.fill → HasCell image spot bytes stand.fill
    by_cell many None is here = absurd (nothing spot.place here)
    by_cell many (Some cell) is here =
        let found = found_kind kind.Row (image spot.cell.number) cell is in
        record { cell = cell; many = many; here = found.0; row = found.1; stands = here }

    by_count : (many : ℕ) → drop spot.place (bytes_from image many spot.cell.number) ≡ bytes ++ stand.fill → HasCell image spot bytes stand.fill
    by_count zero here = absurd (nothing spot.place here)
    by_count (suc many) here = by_cell many (of_kind kind.Row (image spot.cell.number)) refl here

four_each : (ws : List ℕ) → length (flat_map (to_le_bytes w32) ws) ≡ 4 * length ws
four_each [] = refl
four_each (w ∷ ws) = let rest = four_each ws in omega arith

pub sixty : (cell : Cell) → length cell.words ≡ 16 → length (row_in cell).bytes ≡ 60
sixty cell long =
    let all = four_each (drop 1 cell.words) in
    let rest = length-drop 1 cell.words in
    omega arith

drop_past : (n : ℕ) (xs ys : List ℕ) → length xs ≤ n → drop n (xs ++ ys) ≡ drop (n - length xs) ys
drop_past n [] ys past = let e : n - 0 ≡ n = omega arith in ap (λ (m : ℕ). drop m ys) (sym e)
drop_past zero (x ∷ xs) ys past = absurd (omega arith)
drop_past (suc n) (x ∷ xs) ys past = let e : suc n - suc (length xs) ≡ n - length xs = omega arith in drop_past n xs ys (omega arith) ∙ ap (λ (m : ℕ). drop m ys) (sym e)

the_cell : (o : Option Cell) (a b : Cell) → o ≡ Some a → o ≡ Some b → a ≡ b
the_cell o a b first second = ap (λ (p : Option Cell). option_map_or (λ c. c) p a) (sym first ∙ second)

-- a spot behind its cell is one in the next cell
pub settle_stand : (image : Image) (spot next : Spot) (cell : Cell) (bytes : List ℕ) → 0 < length bytes → 60 ≤ spot.place → image spot.cell.number ≡ Some cell → length (row_in cell).bytes ≡ 60
    → next ≡ record { cell = (row_in cell).next; place = spot.place - 60 } → Stand image spot bytes → Stand image next bytes
settle_stand image spot next cell bytes some past reads long is stand =
    let there = has_cell image spot bytes some stand in
    let same = the_cell (image spot.cell.number) there.cell cell there.here reads in
    let near = stand.near in
    subst (λ (s : Spot). Stand image s bytes) (sym is)
    (record {
      many = there.many;
      fill = stand.fill;
      here = ap (λ (n : ℕ). drop (spot.place - n) (bytes_from image there.many (row_in cell).next.number)) (sym long)
          ∙ sym (drop_past spot.place (row_in cell).bytes (bytes_from image there.many (row_in cell).next.number) (omega arith))
          ∙ ap (λ (c : Cell). drop spot.place ((row_in c).bytes ++ bytes_from image there.many (row_in c).next.number)) (sym same)
          ∙ there.stands;
      near = omega arith;
    })

-- the byte of the cell is the next one
pub byte_stand : (image : Image) (spot : Spot) (cell : Cell) (byte : ℕ) (rest : List ℕ) → spot.place < 60 → image spot.cell.number ≡ Some cell → length (row_in cell).bytes ≡ 60 → Stand image spot (byte ∷ rest) → slice_index (row_in cell).bytes spot.place ≡ byte
byte_stand image spot cell byte rest within reads long stand =
    let there = has_cell image spot (byte ∷ rest) (omega arith) stand in
    let same = the_cell (image spot.cell.number) there.cell cell there.here reads in
    let zero_on : spot.place + 0 ≡ spot.place = omega arith in
    let all : List ℕ = (row_in cell).bytes ++ bytes_from image there.many (row_in cell).next.number in
    sym (get_or_append_left (row_in cell).bytes (bytes_from image there.many (row_in cell).next.number) 0 spot.place (omega arith))
    ∙ ap (λ (n : ℕ). get_or all n 0) (sym zero_on)
    ∙ sym (get_or-drop spot.place all 0 0)
    ∙ ap (λ (c : Cell). get_or (drop spot.place ((row_in c).bytes ++ bytes_from image there.many (row_in c).next.number)) 0 0) (sym same)
    ∙ ap (λ (xs : List ℕ). get_or xs 0 0) there.stands

-- one byte more is read
pub bytes_more : (bytes read now : List ℕ) (at byte : ℕ) → at < length bytes → at < length read → take at read ≡ take at bytes → now ≡ set read at byte → byte ≡ get_or bytes at 0 → take (at + 1) now ≡ take (at + 1) bytes
bytes_more bytes read now at byte within room so_far put is =
    ap (take (at + 1)) put ∙ take_more_set read at byte room
    ∙ ap₂ (λ (xs : List ℕ) (b : ℕ). xs ++ b ∷ []) so_far is ∙ sym (take_more bytes at 0 within)

-- the numbers in bytes that begin alike
same_number : (w : ℕ) (read bytes : List ℕ) → take w read ≡ take w bytes → little_number w read ≡ little_number w bytes
same_number w read bytes same =
    sym (little_from-take 0 w w read (omega arith)) ∙ ap (little_number w) same ∙ little_from-take 0 w w bytes (omega arith)

pub number_is : (w : ℕ) (signed : Bool) (read bytes : List ℕ) → 1 ≤ w → w ≤ 8 → w ≤ length bytes → take w read ≡ take w bytes → (if signed then twos_complement w (little_number w read) else pos (little_number w read)) ≡ number_from w signed bytes
number_is w signed read bytes low high within same =
    ap (λ (n : ℕ). if signed then twos_complement w n else pos n) (same_number w read bytes same)
    ∙ sym (ap (λ (b : Bool). if b then (if signed then twos_complement w (little_number w bytes) else pos (little_number w bytes)) else pos 0) (room_test w (length bytes) low high within))

pub edge_is : (read bytes : List ℕ) → 4 ≤ length bytes → take 4 read ≡ take 4 bytes → cast_signed w32 (little_number 4 read) ≡ edge_from bytes
edge_is read bytes within same =
    ap (cast_signed w32) (same_number 4 read bytes same)
    ∙ sym (ap (λ (b : Bool). if b then cast_signed w32 (little_number 4 bytes) else pos 0) (le-leb 4 (length bytes) within))

-- where many bytes stand, fewer do
pub fewer_bytes : (image : Image) (spot : Spot) (few many : ℕ) → few ≤ many → HasBytes image spot many → HasBytes image spot few
fewer_bytes image spot few many less has =
    let both = length-append has.bytes has.rest in
    let long = has.long in
    has_bytes image spot few (has.bytes ++ has.rest) (omega arith) has.stand

pub unsigned_is : (w n : ℕ) (signed : Bool) (read bytes : List ℕ) → signed ≡ false → n ≡ little_number w read → 1 ≤ w → w ≤ 8 → w ≤ length bytes → take w read ≡ take w bytes → pos n ≡ number_from w signed bytes
unsigned_is w n signed read bytes plain is low high within same =
    ap pos is ∙ sym (ap (λ (b : Bool). if b then twos_complement w (little_number w read) else pos (little_number w read)) plain)
    ∙ number_is w signed read bytes low high within same

pub signed_is : (w : ℕ) (z : ℤ) (signed : Bool) (read bytes : List ℕ) → signed ≡ true → z ≡ twos_complement w (little_number w read) → 1 ≤ w → w ≤ 8 → w ≤ length bytes → take w read ≡ take w bytes → z ≡ number_from w signed bytes
signed_is w z signed read bytes plain is low high within same =
    is ∙ sym (ap (λ (b : Bool). if b then twos_complement w (little_number w read) else pos (little_number w read)) plain)
    ∙ number_is w signed read bytes low high within same
