-- What tests show of objects that they add and remove.
use Rattle.std.proofs.Common.{◌≡◌, ◌<◌, zero, suc, ℕ, List, [], ◌∷◌, slice_get, Option, Some, refl, ap, subst, ◌∙◌, rules, nat_cmp}
use Rattle.std.specs.List.{Contains}
use Rattle.std.specs.List.Sorted.{IsStrictlySortedBy}
use Rattle.std.specs.Option.{option_map_or, unwrap_or}
use Rattle.rdb_pages.specs.declared.cell.Cell.{Cell}
use Rattle.rdb_pages.specs.declared.cell.CellRef.{CellRef}
use Rattle.rdb_pages.specs.Pages.{zero_cell}
use Rattle.rdb_cells.specs.declared.kind.Kind.TheVariants as kind
use Rattle.rdb_cells.specs.Images.{Image, Writes}
use Rattle.rdb_cells.specs.HeadFormat.{class_head_cell, empty_class_head}
use Rattle.rdb_cells.specs.References.{class_head_ref}
use Rattle.rdb_cells.specs.VersionFormat.{header_in}
use Rattle.rdb_cells.specs.Words.{IsOfKind, no_ref}
use Rattle.rdb_cells.specs.Work.{Work, reading, IsLeft, HasLeft}
use Rattle.rdb_cells.proofs.ListedLemmas.{contains_first}
use Rattle.rdb_objects.specs.Changes.{CanAdd, HasVersion, AddsVersion, RemovesVersion}
use Rattle.rdb_objects.specs.Order.{HasObject}
use Rattle.rdb_objects.specs.Objects.{newest_of, versions_of, newest_version, with_version, without_version}
use Rattle.rdb_objects.specs.Slots.{HoldsSome, Whatever}
use Rattle.rdb_objects.proofs.LawLemmas.{free_written, empty_holds}

newest_or_none : (vs : List CellRef) (o : Option CellRef) → o ≡ slice_get vs 0 → unwrap_or o no_ref ≡ newest_of vs
newest_or_none [] o is = ap (λ (p : Option CellRef). unwrap_or p no_ref) is
newest_or_none (v ∷ vs) o is = ap (λ (p : Option CellRef). unwrap_or p no_ref) is

-- a header in a free cell that leads to the newest version can be added
pub can_add : (before after : Image) (id : ℕ) (version : CellRef) (cell : Cell) (newest : Option CellRef) → HoldsSome before 0 → Whatever before 0 (λ objects cells. newest ≡ newest_version objects id) → before version.number ≡ Some zero_cell → 0 < version.number → Writes before after version.number cell → IsOfKind cell kind.Version → (header_in cell).id ≡ id → (header_in cell).older ≡ unwrap_or newest no_ref → CanAdd after 0 id version
can_add before after id version cell newest holds is free some writes of_kind its_id its_older = record {
  objects = holds.0;
  cells = holds.1;
  holds = free_written before after 0 holds.0 holds.1 version.number cell holds.2 free writes;
  header = record {
    some = some;
    cell = cell;
    here = writes.here;
    kind = of_kind;
    of_object = its_id;
    leads = its_older ∙ newest_or_none (versions_of holds.0 id) newest (is holds.0 holds.1 holds.2);
  };
}

alone_ascends : (n : ℕ) → IsStrictlySortedBy nat_cmp (n ∷ [])
unfolding IsStrictlySortedBy
alone_ascends n = search rules

-- who can take a cell can take one
pub left_one : (w : Work) → (n : ℕ) × IsLeft w n → HasLeft w 1
left_one w left = record {
  cells = left.0 ∷ [];
  count = refl;
  ascending = alone_ascends left.0;
  untaken = λ i n at. only i n at;
}
  where
    only : (i n : ℕ) → slice_get (left.0 ∷ []) i ≡ Some n → IsLeft w n
    only zero n at = subst (IsLeft w) (ap (λ (o : Option ℕ). option_map_or (λ k. k) o left.0) at) left.1
    only (suc i) n at = cc

first_contained : (vs : List CellRef) (v : CellRef) → Some v ≡ slice_get vs 0 → Contains vs v
first_contained [] v is = cc
first_contained (u ∷ vs) v is = subst (λ (r : CellRef). Contains (r ∷ vs) v) (ap (λ (o : Option CellRef). option_map_or (λ r. r) o v) is) (contains_first v vs)

-- the newest version can be removed
pub has_newest : (image : Image) (id : ℕ) (version : CellRef) → HoldsSome image 0 → Whatever image 0 (λ objects cells. Some version ≡ newest_version objects id) → HasVersion image 0 id version
has_newest image id version holds is = record {
  objects = holds.0;
  cells = holds.1;
  holds = holds.2;
  within = first_contained (versions_of holds.0 id) version (is holds.0 holds.1 holds.2);
}

-- a change leaves some objects
pub some_added : (class : ℕ) (before after : Work) (id : ℕ) (version : CellRef) → AddsVersion class before after id version → HoldsSome (reading before) class → HoldsSome (reading after) class
some_added class before after id version adds holds =
    let now = adds.holds holds.0 holds.1 holds.2 in
    (with_version holds.0 id version, now.0, now.1.holds)

pub some_removed : (class : ℕ) (before after : Work) (id : ℕ) (version : CellRef) → RemovesVersion class before after id version → HoldsSome (reading before) class → HoldsSome (reading after) class
some_removed class before after id version removes holds =
    let now = removes.holds holds.0 holds.1 holds.2 in
    (without_version holds.0 id version, now.0, now.1.holds)

pub some_written : (before after : Image) (n : ℕ) (cell : Cell) → HoldsSome before 0 → before n ≡ Some zero_cell → Writes before after n cell → HoldsSome after 0
some_written before after n cell holds free writes = (holds.0, holds.1, free_written before after 0 holds.0 holds.1 n cell holds.2 free writes)

pub starts_empty : (image : Image) → image (class_head_ref 0).number ≡ Some (class_head_cell empty_class_head) → HoldsSome image 0
starts_empty image empty = ([], [], empty_holds image 0 empty)

pub has_object : (image : Image) (id : ℕ) (version : CellRef) → HoldsSome image 0 → Whatever image 0 (λ objects cells. Some version ≡ newest_version objects id) → HasObject image 0 id
has_object image id version holds is = (holds.0, holds.1, holds.2, λ none. nothing (is holds.0 holds.1 holds.2 ∙ ap (λ (vs : List CellRef). slice_get vs 0) none))
  where
    nothing : Some version ≡ slice_get [] 0 → ⊥
    nothing e = cc
