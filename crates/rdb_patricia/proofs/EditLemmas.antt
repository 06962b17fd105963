-- Work on cells that hold no row and no header and can't be taken.
use Rattle.std.proofs.Common.{◌≡◌, ◌≢◌, ◌≤◌, ◌+◌, ◌⊎◌, ℕ, List, [], ◌∷◌, length, Option, Some, inl, inr, refl, sym, ap, subst, ◌∙◌, arith}
use Rattle.std.proofs.Permutation.{which}
use Rattle.std.specs.Option.{option_map_or}
use Rattle.rdb_pages.specs.declared.cell.Cell.{Cell}
use Rattle.rdb_pages.specs.declared.cell.CellRef.{CellRef}
use Rattle.rdb_pages.specs.Pages.{zero_cell}
use Rattle.rdb_cells.specs.declared.kind.Kind.{Kind}
use Rattle.rdb_cells.specs.declared.kind.Kind.TheVariants as kind
use Rattle.rdb_cells.specs.Images.{Image, Writes}
use Rattle.rdb_cells.specs.Keys.{SameVersionCells, HasNoVersionCell, IsOfVersion}
use Rattle.rdb_cells.specs.Links.{IsAmong}
use Rattle.rdb_cells.specs.Records.{content}
use Rattle.rdb_cells.specs.Words.{number_of, IsOfKind, HasKind}
use Rattle.rdb_cells.specs.Work.{Work, reading, IsLeft, TakesNone}
use Rattle.rdb_cells.proofs.VersionCellLemmas.{itself, further, others_written}
use Rattle.rdb_cells.proofs.PlainLemmas.{one_kind}
use Rattle.rdb_patricia.specs.declared.lead.Lead.{Lead}
use Rattle.rdb_patricia.specs.declared.walk.Spot.{Spot}
use Rattle.rdb_patricia.specs.Changes.{Leads}
use Rattle.rdb_cells.proofs.WorkLemmas.{put_work, put_reads, put_says, put_takes_none, put_longer, none_then, left_blank}

some_is : (c d : Cell) → Some c ≡ Some d → c ≡ d
some_is c d same = ap (λ (o : Option Cell). option_map_or (λ e. e) o c) same

-- these cells were written, which hold no row and no header, before or after, and couldn't be taken
pub record Edits (w now : Work) (cells : List ℕ) : Type 0 where
  pub below : now.below ≡ w.below
  pub room : now.room ≡ w.room
  pub says : (n : ℕ) → (content now.pairs n ≡ content w.pairs n) ⊎ IsAmong cells n
  pub elsewhere : (n : ℕ) → (¬ IsAmong cells n) → reading now n ≡ reading w n
  pub versions : SameVersionCells (reading w) (reading now)
  pub takes_none : TakesNone w now
  pub long : length now.pairs ≤ length w.pairs + length cells

pub no_edits : (w : Work) → Edits w w []
no_edits w = record {
  below = refl;
  room = refl;
  says = λ n. inl refl;
  elsewhere = λ n without. refl;
  versions = itself (reading w);
  takes_none = λ n. (λ left. left, λ left. left);
  long = omega arith;
}

-- where no cell of a version stood, none stands after a change that keeps those of versions
none_again : (a b : Image) (n : ℕ) → SameVersionCells a b → HasNoVersionCell a n → HasNoVersionCell b n
none_again a b n same none c is of = none c ((same n c of).1 is) of

-- one more put
module _ (w now : Work) (cells : List ℕ) (edits : Edits w now cells) (at : CellRef) (cell : Cell) (none : HasNoVersionCell (reading w) at.number) (spent : ¬ IsLeft w at.number) (bare : ¬ IsOfVersion cell) where
  wrote : Writes (reading now) (reading (put_work now at cell)) at.number cell
  wrote = put_reads now at cell

  pub edit_more : Edits w (put_work now at cell) (at.number ∷ cells)
  edit_more = record {
    below = edits.below;
    room = edits.room;
    says = λ n. elim (put_says now at cell n) [
      | inr here ↦ inr (inl (sym here))
      | inl same ↦ elim (edits.says n) [
        | inl before ↦ inl (same ∙ before)
        | inr within ↦ inr (inr within)
      ]
    ];
    elsewhere = λ n without.
        wrote.elsewhere n (λ same. without (inl (sym same)))
        ∙ edits.elsewhere n (λ within. without (inr within));
    versions = further (reading w) (reading now) (reading (put_work now at cell)) edits.versions
        (others_written (reading now) (reading (put_work now at cell)) (λ n. elim (which n at.number) [
          | inl same ↦ inr (
            subst (HasNoVersionCell (reading now)) (sym same) (none_again (reading w) (reading now) at.number edits.versions none),
            λ c is of. bare (subst IsOfVersion (one_of (reading (put_work now at cell)) n c cell is (ap (reading (put_work now at cell)) same ∙ wrote.here)) of),
          )
          | inr apart ↦ inl (wrote.elsewhere n apart)
        ]));
    takes_none = none_then w now (put_work now at cell) edits.takes_none (put_takes_none now at cell (λ left. spent ((edits.takes_none at.number).0 left)));
    long =
        let more = put_longer now.pairs (record { at = at; cell = cell }) in
        let before = edits.long in
        omega arith;
  }
    where
      one_of : (image : Image) (n : ℕ) (c d : Cell) → image n ≡ Some c → image n ≡ Some d → c ≡ d
      one_of image n c d is also = some_is c d (sym is ∙ also)

-- cells of these kinds are none of a version
bare_kind : (of : Kind) (cell : Cell) → IsOfKind cell of → number_of of ≢ 1 → number_of of ≢ 2 → ¬ IsOfVersion cell
bare_kind of cell is no_row no_header of_version = elim of_version [
  | inl row ↦ no_row (sym is ∙ row)
  | inr header ↦ no_header (sym is ∙ header)
]

pub bare_branch : (cell : Cell) → IsOfKind cell kind.PatriciaBranch → ¬ IsOfVersion cell
bare_branch cell is = bare_kind kind.PatriciaBranch cell is (λ e. absurd (omega arith)) (λ e. absurd (omega arith))

pub bare_entry : (cell : Cell) → IsOfKind cell kind.PatriciaEntry → ¬ IsOfVersion cell
bare_entry cell is = bare_kind kind.PatriciaEntry cell is (λ e. absurd (omega arith)) (λ e. absurd (omega arith))

pub bare_head : (cell : Cell) → IsOfKind cell kind.IndexHead → ¬ IsOfVersion cell
bare_head cell is = bare_kind kind.IndexHead cell is (λ e. absurd (omega arith)) (λ e. absurd (omega arith))

pub bare_zero : ¬ IsOfVersion zero_cell
bare_zero = bare_kind kind.Free zero_cell refl (λ e. absurd (omega arith)) (λ e. absurd (omega arith))

pub none_of_kind : (image : Image) (of : Kind) (n : ℕ) → HasKind image of n → ((cell : Cell) → IsOfKind cell of → ¬ IsOfVersion cell) → HasNoVersionCell image n
none_of_kind image of n has bare c is = bare c (subst (λ (d : Cell). IsOfKind d of) (some_is has.0 c (sym has.1 ∙ is)) has.2)

pub none_where_free : (image : Image) (n : ℕ) → image n ≡ Some zero_cell → HasNoVersionCell image n
none_where_free image n free c is = subst (λ (d : Cell). ¬ IsOfVersion d) (some_is zero_cell c (sym free ∙ is)) bare_zero

-- a cell of another kind than a free one isn't free, and can't be taken
pub apart_from_free : (image : Image) (of : Kind) (n m : ℕ) → HasKind image of n → number_of of ≢ 0 → image m ≡ Some zero_cell → m ≢ n
apart_from_free image of n m has some free same = some (sym (one_kind image kind.Free of n (zero_cell, ap image (sym same) ∙ free, refl) has))

pub never_left : (w : Work) (of : Kind) (n : ℕ) → HasKind (reading w) of n → number_of of ≢ 0 → ¬ IsLeft w n
never_left w of n has some left = apart_from_free (reading w) of n n has some (left_blank w n left).zero refl

-- a cell of an index
module _ (image : Image) (head : CellRef) (spot : Spot) (to : CellRef) (lead : Lead) where
  pub lead_bare : Leads image head spot to lead → ¬ IsOfVersion lead.cell
  lead_bare (inl top) = bare_head lead.cell top.cell.kind
  lead_bare (inr above) = bare_branch lead.cell above.cell.kind

  pub lead_none : Leads image head spot to lead → HasNoVersionCell image lead.at.number
  lead_none (inl top) = none_of_kind image kind.IndexHead lead.at.number (subst (λ (r : CellRef). HasKind image kind.IndexHead r.number) (sym top.at) top.was) bare_head
  lead_none (inr above) = none_of_kind image kind.PatriciaBranch lead.at.number (subst (λ (r : CellRef). HasKind image kind.PatriciaBranch r.number) (sym above.at) above.was) bare_branch

  -- it isn't free
  pub lead_filled : Leads image head spot to lead → (n : ℕ) → image n ≡ Some zero_cell → n ≢ lead.at.number
  lead_filled (inl top) n free = apart_from_free image kind.IndexHead lead.at.number n (subst (λ (r : CellRef). HasKind image kind.IndexHead r.number) (sym top.at) top.was) (λ e. absurd (omega arith)) free
  lead_filled (inr above) n free = apart_from_free image kind.PatriciaBranch lead.at.number n (subst (λ (r : CellRef). HasKind image kind.PatriciaBranch r.number) (sym above.at) above.was) (λ e. absurd (omega arith)) free

pub lead_spent : (v : Work) (head : CellRef) (spot : Spot) (to : CellRef) (lead : Lead) → Leads (reading v) head spot to lead → ¬ IsLeft v lead.at.number
lead_spent v head spot to lead leads left = lead_filled (reading v) head spot to lead leads lead.at.number (left_blank v lead.at.number left).zero refl
