-- Two empty plain lists under an overlay with nothing planned.
use Rattle.std.proofs.Common.{◌≡◌, ◌≢◌, ◌<◌, zero, suc, ℕ, List, [], ◌∷◌, slice_get, Option, IsSome, Some, inl, inr, refl, sym, ap, subst, ◌∙◌, arith, rules, nat_cmp}
use Rattle.std.specs.List.{Contains}
use Rattle.std.specs.List.Sorted.{IsStrictlySortedBy}
use Rattle.std.specs.Option.{option_map_or}
use Rattle.rdb_base.specs.declared.value.Value.{Value}
use Rattle.rdb_pages.specs.declared.cell.Cell.{Cell}
use Rattle.rdb_pages.specs.declared.cell.CellRef.{CellRef}
use Rattle.rdb_cells.specs.declared.kind.Kind.TheVariants as kind
use Rattle.rdb_cells.specs.HeadFormat.{index_head_cell, empty_index_head}
use Rattle.rdb_cells.specs.Images.{Image, IsFree}
use Rattle.rdb_cells.specs.IndexCaller.{Listed, keyed, NeitherLists}
use Rattle.rdb_cells.specs.Keys.{Version, says, IsUnlisted}
use Rattle.rdb_cells.specs.Links.{IsAmong}
use Rattle.rdb_cells.specs.OneKey.{one_meaning}
use Rattle.rdb_cells.specs.Overlays.{Laid}
use Rattle.rdb_cells.specs.PlainLaws.{plain_starts_empty}
use Rattle.rdb_cells.specs.PlainList.{plain_nature}
use Rattle.rdb_cells.specs.Records.{Record}
use Rattle.rdb_cells.specs.Untaken.{IsUntaken}
use Rattle.rdb_cells.specs.Words.{IsOfKind}
use Rattle.rdb_cells.specs.Work.{HasLeft}
use Rattle.rdb_cells.proofs.KeyLemmas.{held_version}

abbrev pub nothing_listed : Listed
nothing_listed = record { first = []; first_nodes = []; second = []; second_nodes = [] }

nothing_there : (x : CellRef) → Contains [] x → ⊥
nothing_there x within = let below : within.0 < 0 = within.1 in absurd (omega arith)

module _ (key : List Value) (image : Image) (first_class second_class first second : ℕ) (version : CellRef) (cell : Cell)
    (first_empty : image first ≡ Some (index_head_cell empty_index_head))
    (second_empty : image second ≡ Some (index_head_cell empty_index_head))
    (apart : first ≢ second)
    (held : image version.number ≡ Some cell)
    (is_header : IsOfKind cell kind.Version) where
  lacks_it : IsUnlisted (says (one_meaning key) image) [] version
  lacks_it = record {
    keyed = subst (λ (o : Option Version). IsSome o) (sym (held_version key (image version.number) cell held is_header)) (search rules);
    itself = λ within. nothing_there version within;
    otherwise = λ r within. absurd (nothing_there r within);
  }

  heads_apart : (n : ℕ) → IsAmong (first ∷ []) n → ¬ IsAmong (second ∷ []) n
  heads_apart n (inl one) (inl two) = apart (one ∙ sym two)
  heads_apart n (inl one) (inr none) = none
  heads_apart n (inr none) also = none

  pub neither_lists : NeitherLists (keyed (plain_nature first_class first) (one_meaning key)) (keyed (plain_nature second_class second) (one_meaning key)) image version nothing_listed
  neither_lists = record {
    stand = record {
      first_lists = plain_starts_empty first_class first (says (one_meaning key) image) image first_empty;
      second_lists = plain_starts_empty second_class second (says (one_meaning key) image) image second_empty;
      apart = heads_apart;
    };
    first_lacks = lacks_it;
    first_takes = λ v e. tt;
    second_takes = λ v e. tt;
    second_lacks = lacks_it;
  }

-- two free cells, one above the other
module _ (image : Image) (class_of : ℕ → Option ℕ) (of lower upper : ℕ) (some : 0 < lower) (free : IsFree image class_of of lower) (above : lower < upper) (also : IsFree image class_of of upper) where
  left : (i n : ℕ) → slice_get (lower ∷ upper ∷ []) i ≡ Some n → IsUntaken [] image class_of of 0 n
  left zero n at = subst (λ (k : ℕ). IsUntaken [] image class_of of 0 k) (ap (λ (o : Option ℕ). option_map_or (λ k. k) o 0) at) (record { above = some; free = free; unplanned = refl })
  left (suc zero) n at = subst (λ (k : ℕ). IsUntaken [] image class_of of 0 k) (ap (λ (o : Option ℕ). option_map_or (λ k. k) o 0) at) (record { above = omega arith; free = also; unplanned = refl })
  left (suc (suc i)) n at = cc

  ascend : IsStrictlySortedBy nat_cmp (lower ∷ upper ∷ [])
  unfolding IsStrictlySortedBy
  ascend = search rules

  pub two_left : HasLeft (record { below = image; class_of = class_of; pairs = []; room = 150; class = of; taken = 0 }) 2
  two_left = record {
    cells = lower ∷ upper ∷ [];
    count = refl;
    ascending = ascend;
    untaken = left;
  }

-- an overlay with nothing planned yet
module _ {X : Type 0} (cells : X) (class : ℕ) where
  abbrev pub fresh : Laid X
  fresh = record { cells = cells; plan = record { pairs = []; room = 150 }; class = class; taken = record { number = 0 } }

  pub is_fresh : (o : Laid X) (plan : Record) → o ≡ record { cells = cells; plan = plan; class = class; taken = record { number = 0 } } → plan ≡ record { pairs = []; room = 150 } → fresh ≡ o
  is_fresh o plan laid empty = sym (laid ∙ ap (λ (p : Record). record { cells = cells; plan = p; class = class; taken = record { number = 0 } }) empty)
