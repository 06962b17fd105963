-- Headers are read as they were written.
use Rattle.std.proofs.Common.{◌≡◌, ◌≢◌, ◌<◌, ◌+◌, ◌*◌, ◌/◌, ◌%◌, ◌^◌, ◌==◌, ℕ, List, get_or, Option, Some, Bool, true, false, refl, sym, ap, ◌∙◌, arith}
use Rattle.std.specs.Prelude.{if◌then◌else◌}
use Rattle.std.specs.Option.{option_map_or}
use Rattle.std.proofs.Math.Nat.{mod-add-div}
use Rattle.rdb_base.specs.declared.identity.Stamp.{Stamp}
use Rattle.rdb_base.specs.declared.identity.Stamp.TheVariants.{By, Done}
use Rattle.rdb_pages.specs.declared.cell.Cell.{Cell}
use Rattle.rdb_pages.specs.Pages.{zero_cell}
use Rattle.rdb_cells.specs.declared.formats.version.VersionHeader.{VersionHeader}
use Rattle.rdb_cells.specs.VersionFormat.{IsHeader, header_cell, header_in, stamp_of, stamp_in}
use Rattle.rdb_rows.specs.Rows.{IsPart}

flag_back : (flag : Bool) → ((if flag then 1 else 0) == 1) ≡ flag
flag_back true = refl
flag_back false = refl

second_low : (class flag : ℕ) → class < 256 → (class + 256 * flag + 65536) % 256 ≡ class
second_low class flag small = omega arith

second_flag : (class flag : ℕ) → class < 256 → flag < 256 → (class + 256 * flag + 65536) / 256 % 256 ≡ flag
second_flag class flag small below = omega arith

flag_small : (flag : Bool) → (if flag then 1 else 0) < 256
flag_small true = omega arith
flag_small false = omega arith

wide_back : (n : ℕ) → n % 2 ^ 32 + 2 ^ 32 * (n / 2 ^ 32) ≡ n
wide_back n = mod-add-div n (2 ^ 32)

stamp_back : (h : VersionHeader) (stamp : Stamp) → h.stamp ≡ stamp → stamp_of (stamp_in (header_cell (record h { stamp = stamp }))) ≡ stamp
stamp_back h (By tx) is = λ i. By (record { conn = record { slot = tx.conn.slot; serial = wide_back tx.conn.serial i }; number = wide_back tx.number i })
stamp_back h (Done commit) is = λ i. Done (wide_back commit i)

pub header_back : (h : VersionHeader) → IsHeader h → header_in (header_cell h) ≡ h
header_back h is =
    let flag : ℕ = if h.tombstone then 1 else 0 in
    let older : (2 + 256 * h.older.number) / 256 ≡ h.older.number = omega arith in
    let class : (h.class + 256 * flag + 65536) % 256 ≡ h.class = second_low h.class flag is.0 in
    let dead : ((h.class + 256 * flag + 65536) / 256 % 256 == 1) ≡ h.tombstone =
    ap (λ (n : ℕ). n == 1) (second_flag h.class flag is.0 (flag_small h.tombstone)) ∙ flag_back h.tombstone in
    let stamp = stamp_back h h.stamp refl in
    λ i. record {
      older = record { number = older i };
      class = class i;
      tombstone = dead i;
      id = wide_back h.id i;
      first_row = h.first_row;
      row_length = h.row_length;
      stamp = stamp i;
      serial = wide_back h.serial i;
    }

-- no header is zero, and none is a part of a row
pub header_some : (h : VersionHeader) → header_cell h ≢ zero_cell
header_some h same = let kind = ap (λ (c : Cell). get_or c.words 0 0) same in absurd (omega arith)

pub header_no_part : (h : VersionHeader) (part links : List ℕ) → ¬ IsPart (header_cell h) part links
header_no_part h part links is = let kind = ap (λ (c : Cell). get_or c.words 0 0) is.written in absurd (omega arith)

pub the_cell : (o : Option Cell) (a b : Cell) → o ≡ Some a → o ≡ Some b → a ≡ b
the_cell o a b first second = ap (λ (p : Option Cell). option_map_or (λ c. c) p a) (sym first ∙ second)
