-- A version that can be removed: its header, the one before it, and whether it is the last.
use Rattle.std.proofs.Common.{◌≡◌, ◌≢◌, ◌<◌, ◌^◌, ◌++◌, ℕ, List, [], ◌∷◌, Option, Some, IsSome, refl, sym, ap, subst, ◌∙◌, arith, rules}
use Rattle.std.specs.List.{Contains}
use Rattle.rdb_pages.specs.declared.cell.Cell.{Cell}
use Rattle.rdb_pages.specs.declared.cell.CellRef.{CellRef}
use Rattle.rdb_cells.specs.Images.{Image, IsCell, AreBounded}
use Rattle.rdb_cells.specs.Links.{IsAmong}
use Rattle.rdb_cells.specs.ObjectFormat.{slot_in}
use Rattle.rdb_cells.specs.VersionFormat.{header_in}
use Rattle.rdb_cells.specs.Words.{no_ref}
use Rattle.rdb_objects.specs.declared.tree.Spot.{Spot}
use Rattle.rdb_objects.specs.Chains.{AreFrom, IsBehind, IsNewer}
use Rattle.rdb_objects.specs.Changes.{HasVersion, HasLast}
use Rattle.rdb_objects.specs.Objects.{newest_of, versions_of}
use Rattle.rdb_objects.specs.Slots.{Slot, IsOneOf, AreVersions}
use Rattle.rdb_objects.specs.Walks.{IsFound, WhateverSlots}
use Rattle.rdb_objects.proofs.Adding.{cell_small, version_there}
use Rattle.rdb_objects.proofs.ChainLemmas.{numbers, ref_is, older_part, split_at, contained}
use Rattle.rdb_objects.proofs.ObjectLemmas.{none_found, found_slot, found_versions, found_newest}
use Rattle.rdb_objects.proofs.TreeLemmas.{same_cell}

module _ (image : Image) (class : ℕ) (spot : Spot) (id : ℕ) (version : CellRef) (sought : WhateverSlots image class (λ slots. IsFound slots id spot)) (has : HasVersion image class id version) where
  among : IsAmong (numbers (versions_of has.objects id)) version.number
  among = contained (versions_of has.objects id) version has.within

  pub has_slot : spot.slot.number ≢ 0
  has_slot none =
      let gone = none_found image class id spot has.objects has.cells has.holds (sought has.holds.slots has.holds.tree) none in
      subst (λ (vs : List CellRef). IsAmong (numbers vs) version.number) gone among

  abbrev it : (s : Slot) × IsOneOf has.holds.slots s × (s.path ≡ (sought has.holds.slots has.holds.tree).path) × (s.number ≡ spot.slot.number) × (s.id ≡ id)
  it = found_slot image class id spot has.objects has.cells has.holds (sought has.holds.slots has.holds.tree) has_slot

  its_versions : versions_of has.objects id ≡ it.0.versions
  its_versions = found_versions image class id spot has.objects has.cells has.holds (sought has.holds.slots has.holds.tree) has_slot

  abbrev parts : (front : List CellRef) × (v : CellRef) × (back : List CellRef) × (versions_of has.objects id ≡ front ++ v ∷ back) × (v.number ≡ version.number)
  parts = split_at (versions_of has.objects id) version.number among

  here : versions_of has.objects id ≡ parts.0 ++ version ∷ parts.2
  here = parts.3 ∙ ap (λ (v : CellRef). parts.0 ++ v ∷ parts.2) (ref_is parts.1 version parts.4)

  chain : AreVersions image it.0.id (parts.0 ++ version ∷ parts.2)
  chain = subst (λ (vs : List CellRef). AreVersions image it.0.id vs) (sym its_versions ∙ here) (has.holds.versions it.0 it.1).1

  tail : AreVersions image it.0.id (version ∷ parts.2)
  tail = older_part image it.0.id parts.0 (version ∷ parts.2) chain

  pub header_there : IsCell image version.number
  header_there = version_there image it.0.id version (newest_of parts.2) tail.0

  pub slot_there : IsCell image spot.slot.number
  slot_there =
      subst (λ (o : Option Cell). IsSome o) (sym (ap image (sym it.3) ∙ (has.holds.tree.each it.0 it.1).here)) (search rules)

  module _ (cell : Cell) (older : CellRef) (cell_here : image version.number ≡ Some cell) (older_is : older ≡ (header_in cell).older) where
    next : older ≡ newest_of parts.2
    next =
        let same = same_cell image version.number tail.0.cell cell tail.0.here cell_here in
        older_is ∙ ap (λ (c : Cell). (header_in c).older) (sym same) ∙ tail.0.leads

    pub older_small : (class_of : ℕ → Option ℕ) → AreBounded image class_of → older.number < 2 ^ 24
    older_small class_of bounded = subst (λ (r : CellRef). r.number < 2 ^ 24) (sym next) (newest_small parts.2 tail.1)
      where
        newest_small : (vs : List CellRef) → AreVersions image it.0.id vs → (newest_of vs).number < 2 ^ 24
        newest_small [] are = omega arith
        newest_small (v ∷ vs) are = cell_small image class_of v.number bounded (version_there image it.0.id v (newest_of vs) are.0)

    module _ (slot_cell : Cell) (newest : CellRef) (slot_here : image spot.slot.number ≡ Some slot_cell) (newest_is : newest ≡ (slot_in slot_cell).newest) where
      begins : newest ≡ newest_of it.0.versions
      begins = newest_is ∙ found_newest image class id spot has.objects has.cells has.holds (sought has.holds.slots has.holds.tree) has_slot slot_cell slot_here

      are : AreFrom image newest it.0.id it.0.versions
      are = record { stand = (has.holds.versions it.0 it.1).1; begins = begins }

      pub behind : newest ≢ version → IsBehind image newest version
      behind other = record {
        id = it.0.id;
        versions = it.0.versions;
        are = are;
        within = subst (λ (vs : List CellRef). Contains vs version) its_versions has.within;
        older = other;
      }

      pub newer_there : (newer : CellRef) → IsNewer image newest version newer → IsCell image newer.number
      newer_there newer is =
          let found = is it.0.id it.0.versions are in
          let rest = older_part image it.0.id found.0 (newer ∷ version ∷ found.1) (subst (λ (vs : List CellRef). AreVersions image it.0.id vs) found.2 (has.holds.versions it.0 it.1).1) in
          version_there image it.0.id newer version rest.0

      -- the newest version without an older one is the last
      pub last : newest ≡ version → older ≡ no_ref → HasLast image class id version
      last first none = record {
        objects = has.objects;
        cells = has.cells;
        holds = has.holds;
        last =
            let stand = (has.holds.versions it.0 it.1).1 in
            its_versions ∙ alone it.0.versions stand (has.holds.versions it.0 it.1).0 (sym begins ∙ first);
      }
        where
          no_rest : (vs : List CellRef) → AreVersions image it.0.id vs → newest_of vs ≡ no_ref → vs ≡ []
          no_rest [] stand is = refl
          no_rest (v ∷ vs) stand is = let some = stand.0.some in let zero_is : v.number ≡ 0 = ap (λ (r : CellRef). r.number) is in absurd (omega arith)

          alone : (vs : List CellRef) → AreVersions image it.0.id vs → ¬ (vs ≡ []) → newest_of vs ≡ version → vs ≡ version ∷ []
          alone [] stand some is = absurd (some refl)
          alone (v ∷ vs) stand some is =
              let header = subst (λ (r : CellRef). image r.number ≡ Some stand.0.cell) is stand.0.here in
              let same = same_cell image version.number stand.0.cell cell header cell_here in
              let after : newest_of vs ≡ no_ref = sym stand.0.leads ∙ ap (λ (c : Cell). (header_in c).older) same ∙ sym older_is ∙ none in
              ap (λ (u : CellRef). u ∷ vs) is ∙ ap (λ (us : List CellRef). version ∷ us) (no_rest vs stand.1 after)
