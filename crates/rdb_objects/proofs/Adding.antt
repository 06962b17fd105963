-- A version is added: to an object that is there, or with a slot for a new one.
use Rattle.std.proofs.Common.{◌≡◌, ◌≢◌, ◌<◌, ◌+◌, ◌^◌, ◌⊎◌, ◌↔◌, zero, suc, ℕ, List, [], ◌∷◌, slice_get, Option, Some, IsSome, inl, inr, refl, sym, ap, subst, ◌∙◌, arith, rules}
use Rattle.std.proofs.Permutation.{which}
use Rattle.std.specs.Option.{option_map_or}
use Rattle.std.specs.Prelude.{replicate}
use Rattle.rdb_pages.specs.declared.cell.Cell.{Cell}
use Rattle.rdb_pages.specs.declared.cell.CellRef.{CellRef}
use Rattle.rdb_pages.specs.Pages.{zero_cell}
use Rattle.rdb_cells.specs.declared.formats.object.ObjectSlot.{ObjectSlot}
use Rattle.rdb_cells.specs.declared.kind.Kind.TheVariants as kind
use Rattle.rdb_cells.specs.Images.{Image, IsCell, Writes, AreBounded}
use Rattle.rdb_cells.specs.Index.{KeepsAccount}
use Rattle.rdb_cells.specs.Keys.{SameVersionCells, HasNoVersionCell}
use Rattle.rdb_cells.specs.Links.{IsAmong}
use Rattle.rdb_cells.specs.ObjectFormat.{IsSlot, slot_in}
use Rattle.rdb_cells.specs.Records.{content}
use Rattle.rdb_cells.specs.References.{class_head_ref}
use Rattle.rdb_cells.specs.Untaken.{IsNextUntaken}
use Rattle.rdb_cells.specs.Words.{IsOfKind, no_ref}
use Rattle.rdb_cells.specs.Work.{Work, reading, IsBlank, IsLeft, HasLeft, TakesAtMost, TakesNone}
use Rattle.rdb_cells.proofs.IndexLemmas.{fewer_left}
use Rattle.rdb_cells.proofs.VersionCellLemmas.{no_version, others_written}
use Rattle.rdb_cells.proofs.WorkLemmas.{put_work, take_work, put_reads, put_says, left_blank, put_takes_none, none_then, none_at_most, at_most_then, take_one, taken_spent, lowest_take, lowest_none, lowest_then, put_longer}
use Rattle.rdb_objects.specs.declared.tree.Spot.{Spot}
use Rattle.rdb_objects.specs.Changes.{CanAdd, HoldsAnew, AddsVersion}
use Rattle.rdb_objects.specs.Objects.{Object, newest_of, versions_of, with_version}
use Rattle.rdb_objects.specs.Slots.{Path, Slot, cells_of, IsOneOf, IsVersion, AreVersions, AreSlots, HoldVersions, AreObjectsOf, HoldsObjects}
use Rattle.rdb_objects.specs.Walks.{IsSpot, IsLink, IsFound, HasNone, WhateverSlots}
use Rattle.rdb_objects.proofs.TreeLemmas.{same_cell, in_cells, slot_in_cell, Picked, pick}
use Rattle.rdb_objects.proofs.TreeChanges.{upper_of}
use Rattle.rdb_objects.proofs.TreeSteps.{free_no_slot, free_no_head, slot_came, slot_changed}
use Rattle.rdb_objects.proofs.ObjectLemmas.{none_found, found_slot, found_versions, with_here, with_other, once_with, have_with, objects_changed}

-- Headers stay where the cells of rows and headers do
pub version_again : (a b : Image) → SameVersionCells a b → (id : ℕ) (version older : CellRef) → IsVersion a id version older → IsVersion b id version older
version_again a b same id version older is = record {
  some = is.some;
  cell = is.cell;
  here = (same version.number is.cell (inr is.kind)).0 is.here;
  kind = is.kind;
  of_object = is.of_object;
  leads = is.leads;
}

pub versions_again : (a b : Image) → SameVersionCells a b → (id : ℕ) (versions : List CellRef) → AreVersions a id versions → AreVersions b id versions
versions_again a b same id [] are = tt
versions_again a b same id (v ∷ vs) are = (version_again a b same id v (newest_of vs) are.0, versions_again a b same id vs are.1)

pub version_there : (image : Image) (id : ℕ) (version older : CellRef) → IsVersion image id version older → IsCell image version.number
version_there image id version older is = subst (λ (o : Option Cell). IsSome o) (sym is.here) (search rules)

-- the reference of a cell fits 24 bits
pub cell_small : (image : Image) (class_of : ℕ → Option ℕ) (n : ℕ) → AreBounded image class_of → IsCell image n → n < 2 ^ 24
cell_small image class_of n bounded there = elim (bounded.numbers n there) [
  | inl page ↦ (let most = page.1 in omega arith)
  | inr head ↦ (let most = head.1 in omega arith)
]

-- The cells of a tree are no headers and not free
module _ (image : Image) (class : ℕ) (slots : List Slot) (tree : AreSlots image class slots) where
  pub head_none : HasNoVersionCell image (class_head_ref class).number
  head_none = no_version image kind.ClassHead (class_head_ref class).number (tree.rooted.cell, tree.rooted.here, tree.rooted.kind) (λ e. absurd (omega arith)) (λ e. absurd (omega arith))

  pub slot_none : (t : Slot) → IsOneOf slots t → HasNoVersionCell image t.number
  slot_none t one = let stands = tree.each t one in no_version image kind.Object t.number (stands.cell, stands.here, stands.kind) (λ e. absurd (omega arith)) (λ e. absurd (omega arith))

  -- where the link to a spot is
  pub link_at : (path : Path) (spot : Spot) → IsSpot slots path spot → (m at : CellRef) (cell : Cell) → IsLink image class spot m at cell → (at.number ≡ (class_head_ref class).number) ⊎ ((t : Slot) × IsOneOf slots t × (t.number ≡ at.number))
  link_at path spot is m at cell link = elim link [
    | inl head ↦ inl (ap (λ (r : CellRef). r.number) head.1)
    | inr slot ↦
        let upper = upper_of slots path spot.above spot.place is.led_to slot.0 in
        inr (upper.3.slot, upper.3.one, upper.3.numbered ∙ ap (λ (r : CellRef). r.number) (sym slot.1))
  ]

  pub link_none : (path : Path) (spot : Spot) → IsSpot slots path spot → (m at : CellRef) (cell : Cell) → IsLink image class spot m at cell → HasNoVersionCell image at.number
  link_none path spot is m at cell link = elim (link_at path spot is m at cell link) [
    | inl head ↦ subst (λ (n : ℕ). HasNoVersionCell image n) (sym head) head_none
    | inr slot ↦ subst (λ (n : ℕ). HasNoVersionCell image n) slot.2 (slot_none slot.0 slot.1)
  ]

  pub link_not_free : (path : Path) (spot : Spot) → IsSpot slots path spot → (m at : CellRef) (cell : Cell) → IsLink image class spot m at cell → (n : ℕ) → image n ≡ Some zero_cell → at.number ≢ n
  link_not_free path spot is m at cell link n free same = elim (link_at path spot is m at cell link) [
    | inl head ↦ free_no_head image class slots tree n free (sym head ∙ same)
    | inr slot ↦ free_no_slot image class slots tree n free slot.0 slot.1 (slot.2 ∙ same)
  ]

-- the cell of a link is no header either
pub link_cell_none : (before after : Image) (class : ℕ) (spot : Spot) (m at : CellRef) (cell : Cell) → IsLink before class spot m at cell → after at.number ≡ Some cell → HasNoVersionCell after at.number
link_cell_none before after class spot m at cell link here = elim link [
  | inl head ↦ no_version after kind.ClassHead at.number (cell, here, head.2) (λ e. absurd (omega arith)) (λ e. absurd (omega arith))
  | inr slot ↦ no_version after kind.Object at.number (cell, here, slot.2) (λ e. absurd (omega arith)) (λ e. absurd (omega arith))
]

pub object_none : (image : Image) (n : ℕ) (cell : Cell) → image n ≡ Some cell → IsOfKind cell kind.Object → HasNoVersionCell image n
object_none image n cell here is = no_version image kind.Object n (cell, here, is) (λ e. absurd (omega arith)) (λ e. absurd (omega arith))

pub free_none : (image : Image) (n : ℕ) → image n ≡ Some zero_cell → HasNoVersionCell image n
free_none image n free = no_version image kind.Free n (zero_cell, free, refl) (λ e. absurd (omega arith)) (λ e. absurd (omega arith))

pub all_none : (n i : ℕ) (child : CellRef) → slice_get (replicate n no_ref) i ≡ Some child → child.number ≡ 0
all_none zero i child is = cc
all_none (suc n) zero child is = ap (λ (o : Option CellRef). option_map_or (λ r. r.number) o child.number) (sym is)
all_none (suc n) (suc i) child is = all_none n i child is

-- An object gets its first version, and a slot.
module _ (class : ℕ) (w : Work) (spot : Spot) (id : ℕ) (version place pair_at : CellRef) (pair_cell slot_cell : Cell)
    (sought : WhateverSlots (reading w) class (λ slots. IsFound slots id spot)) (empty : spot.slot.number ≡ 0)
    (can : CanAdd (reading w) class id version) (small : id < 2 ^ 64)
    (lowest : IsNextUntaken w.pairs w.below w.class_of w.class w.taken place.number)
    (link : IsLink (reading w) class spot place pair_at pair_cell)
    (slot_kind : IsOfKind slot_cell kind.Object) (fits : IsSlot (slot_in slot_cell))
    (says : slot_in slot_cell ≡ record { newest = version; id = id; children = replicate 8 no_ref }) where
  abbrev pub add_1 : Work
  add_1 = put_work (take_work w place) place slot_cell

  abbrev pub add_2 : Work
  add_2 = put_work add_1 pair_at pair_cell

  blank : IsBlank w place.number
  blank = left_blank w place.number lowest.untaken

  wrote_1 : Writes (reading w) (reading add_1) place.number slot_cell
  wrote_1 = put_reads (take_work w place) place slot_cell

  wrote_2 : Writes (reading add_1) (reading add_2) pair_at.number pair_cell
  wrote_2 = put_reads add_1 pair_at pair_cell

  same : (n : ℕ) → n ≢ pair_at.number → n ≢ place.number → reading add_2 n ≡ reading w n
  same n no_link no_place = wrote_2.elsewhere n no_link ∙ wrote_1.elsewhere n no_place

  module _ (objects : List Object) (cells : List ℕ) (holds : HoldsObjects (reading w) class objects cells) where
    found : IsFound holds.slots id spot
    found = sought holds.slots holds.tree

    link_apart : place.number ≢ pair_at.number
    link_apart e = link_not_free (reading w) class holds.slots holds.tree found.path spot found.is_spot place pair_at pair_cell link place.number blank.zero (sym e)

    wrote_slot : reading add_2 place.number ≡ Some slot_cell
    wrote_slot = wrote_2.elsewhere place.number link_apart ∙ wrote_1.here

    versions_kept : SameVersionCells (reading w) (reading add_2)
    versions_kept = others_written (reading w) (reading add_2) (λ n. elim (which n pair_at.number) [
      | inl at_link ↦ inr (
        subst (λ (k : ℕ). HasNoVersionCell (reading w) k) (sym at_link) (link_none (reading w) class holds.slots holds.tree found.path spot found.is_spot place pair_at pair_cell link),
        subst (λ (k : ℕ). HasNoVersionCell (reading add_2) k) (sym at_link) (link_cell_none (reading w) (reading add_2) class spot place pair_at pair_cell link wrote_2.here),
      )
      | inr no_link ↦ elim (which n place.number) [
        | inl at_place ↦ inr (
          subst (λ (k : ℕ). HasNoVersionCell (reading w) k) (sym at_place) (free_none (reading w) place.number blank.zero),
          subst (λ (k : ℕ). HasNoVersionCell (reading add_2) k) (sym at_place) (object_none (reading add_2) place.number slot_cell wrote_slot slot_kind),
        )
        | inr no_place ↦ inl (same n no_link no_place)
      ]
    ])

    abbrev new : Slot
    new = record { path = found.path; number = place.number; id = id; versions = version ∷ [] }

    nothing : versions_of objects id ≡ []
    nothing = none_found (reading w) class id spot objects cells holds found empty

    fresh : HasNone holds.slots id
    fresh s one is = (holds.versions s one).0 (sym (holds.objects_are.told s one) ∙ ap (versions_of objects) is ∙ nothing)

    tree_now : AreSlots (reading add_2) class (new ∷ holds.slots)
    tree_now =
        slot_came (reading w) (reading add_2) class holds.slots holds.tree new spot found.is_spot empty place pair_at pair_cell slot_cell link refl
        (let page = blank.page.0 in omega arith) blank.zero wrote_2.here wrote_slot same slot_kind fits
        (ap (λ (s : ObjectSlot). s.id) says) (ap (λ (s : ObjectSlot). s.newest) says)
        (λ i child is. all_none 8 i child (ap (λ (s : ObjectSlot). slice_get s.children i) (sym says) ∙ is))
        small found.ends fresh

    header_now : IsVersion (reading add_2) id version no_ref
    header_now =
        let none : versions_of can.objects id ≡ [] = none_found (reading w) class id spot can.objects can.cells can.holds (sought can.holds.slots can.holds.tree) empty in
        let leads = subst (λ (vs : List CellRef). IsVersion (reading w) id version (newest_of vs)) none can.header in
        version_again (reading w) (reading add_2) versions_kept id version no_ref leads

    hold_now : HoldVersions (reading add_2) (new ∷ holds.slots)
    hold_now t one = elim one [
      | inl it ↦ subst (λ (x : Slot). (¬ (x.versions ≡ [])) × AreVersions (reading add_2) x.id x.versions) it (some_version, (header_now, tt))
      | inr old ↦ let was = holds.versions t old in (was.0, versions_again (reading w) (reading add_2) versions_kept t.id t.versions was.1)
    ]
      where
        some_version : ¬ (version ∷ [] ≡ [])
        some_version e = cc

    objects_now : AreObjectsOf (new ∷ holds.slots) (with_version objects id version)
    objects_now =
        let here : versions_of (with_version objects id version) id ≡ version ∷ [] = with_here objects id version ∙ ap (λ (vs : List CellRef). version ∷ vs) nothing in
        objects_changed holds.slots (new ∷ holds.slots) objects (with_version objects id version) id (version ∷ []) holds.objects_are here (with_other objects id version)
        (once_with objects id version holds.objects_are.once) (have_with objects id version holds.objects_are.have)
        (λ t one. elim one [
          | inl it ↦ inl (ap (λ (x : Slot). x.id) (sym it), ap (λ (x : Slot). x.versions) (sym it))
          | inr old ↦ inr (fresh t old, (t, old, refl, refl))
        ])
        (λ t one apart. (t, inr one, refl))
        (inr (new, inl refl, refl))

    puts_spent : ¬ IsLeft add_1 pair_at.number
    puts_spent left =
        let zero_there = sym (wrote_1.elsewhere pair_at.number (λ e. link_apart (sym e))) ∙ (left_blank add_1 pair_at.number left).zero in
        link_not_free (reading w) class holds.slots holds.tree found.path spot found.is_spot place pair_at pair_cell link pair_at.number zero_there refl

    puts_none : TakesNone (take_work w place) add_2
    puts_none =
        none_then (take_work w place) add_1 add_2
        (put_takes_none (take_work w place) place slot_cell (taken_spent w place lowest))
        (put_takes_none add_1 pair_at pair_cell puts_spent)

    takes : TakesAtMost 1 w add_2
    takes = at_most_then 1 0 w (take_work w place) add_2 (take_one w place lowest) (none_at_most (take_work w place) add_2 puts_none)

    slots_spent : (n : ℕ) → IsAmong (cells_of holds.slots) n → ¬ IsLeft w n
    slots_spent n within left =
        let t = slot_in_cell holds.slots n within in
        free_no_slot (reading w) class holds.slots holds.tree n (left_blank w n left).zero t.0 t.1 t.2

    account_now : KeepsAccount w add_2 cells (place.number ∷ cells)
    account_now = record {
      come = λ n within. elim within [
        | inl it ↦ inr (subst (IsLeft w) it lowest.untaken)
        | inr old ↦ inl old
      ];
      gone = λ n within. inl (inr within);
      takes =
          lowest_then (place.number ∷ []) cells w (take_work w place) add_2 (lowest_take w place lowest)
          (lowest_none (take_work w place) add_2 cells puts_none (λ n within left. slots_spent n (subst (λ (ns : List ℕ). IsAmong ns n) holds.cells_are within) ((take_one w place lowest).no_more n left)));
      filled = λ n free. elim (which place.number n) [
        | inl it ↦ inl (inl it)
        | inr other ↦ inr (same n (λ e. link_not_free (reading w) class holds.slots holds.tree found.path spot found.is_spot place pair_at pair_cell link n free.zero (sym e)) (λ e. other (sym e)))
      ];
    }

    anew : (now_cells : List ℕ) × HoldsAnew w add_2 class (with_version objects id version) cells now_cells
    anew = (
      place.number ∷ cells,
      record {
        holds = record {
          slots = new ∷ holds.slots;
          tree = tree_now;
          versions = hold_now;
          objects_are = objects_now;
          cells_are = ap (λ (ns : List ℕ). place.number ∷ ns) holds.cells_are;
        };
        account = account_now;
      },
    )

    own_now : (n : ℕ) → (content add_2.pairs n ≡ content w.pairs n) ⊎ (n ≡ (class_head_ref class).number) ⊎ IsAmong cells n ⊎ IsLeft w n
    own_now n = elim (put_says add_1 pair_at pair_cell n) [
      | inr at_link ↦ elim (link_at (reading w) class holds.slots holds.tree found.path spot found.is_spot place pair_at pair_cell link) [
        | inl head ↦ inr (inl (at_link ∙ head))
        | inr slot ↦ inr (inr (inl (subst (λ (ns : List ℕ). IsAmong ns n) (sym holds.cells_are) (subst (λ (k : ℕ). IsAmong (cells_of holds.slots) k) (slot.2 ∙ sym at_link) (in_cells holds.slots slot.0 slot.1)))))
      ]
      | inl first ↦ elim (put_says (take_work w place) place slot_cell n) [
        | inr at_place ↦ inr (inr (inr (subst (IsLeft w) (sym at_place) lowest.untaken)))
        | inl before ↦ inl (first ∙ before)
      ]
    ]

  pub adds_first : AddsVersion class w add_2 id version
  adds_first = record {
    holds = anew;
    own = own_now;
    versions = versions_kept can.objects can.cells can.holds;
    takes = takes can.objects can.cells can.holds;
    takes_none = λ objects cells holds some. absurd (some (nothing objects cells holds));
    places =
        let first = put_longer w.pairs (record { at = place; cell = slot_cell }) in
        let second = put_longer add_1.pairs (record { at = pair_at; cell = pair_cell }) in
        omega arith;
    goes_on = record { below = refl; classes = refl; class = refl; room = refl };
  }

-- An object gets a version more.
module _ (class : ℕ) (w : Work) (spot : Spot) (id : ℕ) (version : CellRef) (old cell : Cell)
    (sought : WhateverSlots (reading w) class (λ slots. IsFound slots id spot)) (some : spot.slot.number ≢ 0)
    (can : CanAdd (reading w) class id version)
    (was : reading w spot.slot.number ≡ Some old)
    (slot_kind : IsOfKind cell kind.Object) (fits : IsSlot (slot_in cell))
    (says : slot_in cell ≡ record (slot_in old) { newest = version }) where
  abbrev pub more_1 : Work
  more_1 = put_work w spot.slot cell

  wrote : Writes (reading w) (reading more_1) spot.slot.number cell
  wrote = put_reads w spot.slot cell

  module _ (objects : List Object) (cells : List ℕ) (holds : HoldsObjects (reading w) class objects cells) where
    abbrev it : (s : Slot) × IsOneOf holds.slots s × (s.path ≡ (sought holds.slots holds.tree).path) × (s.number ≡ spot.slot.number) × (s.id ≡ id)
    it = found_slot (reading w) class id spot objects cells holds (sought holds.slots holds.tree) some

    its_versions : versions_of objects id ≡ it.0.versions
    its_versions = found_versions (reading w) class id spot objects cells holds (sought holds.slots holds.tree) some

    picked : Picked holds.slots it.0
    picked = pick holds.slots it.0 it.1

    abbrev now : Slot
    now = record { path = it.0.path; number = it.0.number; id = it.0.id; versions = version ∷ it.0.versions }

    its_cell : (holds.tree.each it.0 it.1).cell ≡ old
    its_cell = same_cell (reading w) it.0.number (holds.tree.each it.0 it.1).cell old (holds.tree.each it.0 it.1).here (ap (reading w) it.3 ∙ was)

    beside : (t : Slot) → IsOneOf picked.others t → t.id ≢ it.0.id
    beside t other same =
        let number = holds.tree.ids t it.0 (picked.back t other) it.1 same in
        (picked.apart holds.tree.once).0 (subst (λ (n : ℕ). IsAmong (cells_of picked.others) n) number (in_cells picked.others t other))

    versions_stay : SameVersionCells (reading w) (reading more_1)
    versions_stay = others_written (reading w) (reading more_1) (λ n. elim (which n spot.slot.number) [
      | inl here ↦ inr (
        subst (λ (k : ℕ). HasNoVersionCell (reading w) k) (it.3 ∙ sym here) (slot_none (reading w) class holds.slots holds.tree it.0 it.1),
        subst (λ (k : ℕ). HasNoVersionCell (reading more_1) k) (sym here) (object_none (reading more_1) spot.slot.number cell wrote.here slot_kind),
      )
      | inr apart ↦ inl (wrote.elsewhere n apart)
    ])

    tree_more : AreSlots (reading more_1) class (now ∷ picked.others)
    tree_more =
        slot_changed (reading w) (reading more_1) class holds.slots holds.tree it.0 it.1 now refl refl cell (ap (reading more_1) it.3 ∙ wrote.here)
        (λ n apart. wrote.elsewhere n (λ e. apart (e ∙ sym it.3))) slot_kind fits
        (ap (λ (s : ObjectSlot). s.id) says ∙ ap (λ (c : Cell). (slot_in c).id) (sym its_cell) ∙ (holds.tree.each it.0 it.1).of_object)
        (ap (λ (s : ObjectSlot). s.newest) says)
        (ap (λ (s : ObjectSlot). s.children) says ∙ ap (λ (c : Cell). (slot_in c).children) (sym its_cell))
        (holds.tree.each it.0 it.1).small (holds.tree.each it.0 it.1).ends picked beside

    leads_on : IsVersion (reading w) id version (newest_of it.0.versions)
    leads_on =
        let can_slot = found_slot (reading w) class id spot can.objects can.cells can.holds (sought can.holds.slots can.holds.tree) some in
        let can_versions = found_versions (reading w) class id spot can.objects can.cells can.holds (sought can.holds.slots can.holds.tree) some in
        let stands = can.holds.tree.each can_slot.0 can_slot.1 in
        let cell_is = same_cell (reading w) can_slot.0.number stands.cell old stands.here (ap (reading w) can_slot.3 ∙ was) in
        let mine : newest_of (versions_of can.objects id) ≡ newest_of it.0.versions =
        ap (λ (vs : List CellRef). newest_of vs) can_versions ∙ sym stands.newest ∙ ap (λ (c : Cell). (slot_in c).newest) (cell_is ∙ sym its_cell) ∙ (holds.tree.each it.0 it.1).newest in
        subst (λ (r : CellRef). IsVersion (reading w) id version r) mine can.header

    hold_more : HoldVersions (reading more_1) (now ∷ picked.others)
    hold_more t one = elim one [
      | inl same ↦ subst (λ (x : Slot). (¬ (x.versions ≡ [])) × AreVersions (reading more_1) x.id x.versions) same (some_version, (first, rest))
      | inr other ↦ let before = holds.versions t (picked.back t other) in (before.0, versions_again (reading w) (reading more_1) versions_stay t.id t.versions before.1)
    ]
      where
        some_version : ¬ (version ∷ it.0.versions ≡ [])
        some_version e = cc

        first : IsVersion (reading more_1) it.0.id version (newest_of it.0.versions)
        first = version_again (reading w) (reading more_1) versions_stay it.0.id version (newest_of it.0.versions) (subst (λ (k : ℕ). IsVersion (reading w) k version (newest_of it.0.versions)) (sym it.4) leads_on)

        rest : AreVersions (reading more_1) it.0.id it.0.versions
        rest = versions_again (reading w) (reading more_1) versions_stay it.0.id it.0.versions (holds.versions it.0 it.1).1

    objects_more : AreObjectsOf (now ∷ picked.others) (with_version objects id version)
    objects_more =
        objects_changed holds.slots (now ∷ picked.others) objects (with_version objects id version) id (version ∷ it.0.versions) holds.objects_are
        (with_here objects id version ∙ ap (λ (vs : List CellRef). version ∷ vs) its_versions) (with_other objects id version)
        (once_with objects id version holds.objects_are.once) (have_with objects id version holds.objects_are.have)
        (λ t one. elim one [
          | inl same ↦ inl (ap (λ (x : Slot). x.id) (sym same) ∙ it.4, ap (λ (x : Slot). x.versions) (sym same))
          | inr other ↦ inr (λ e. beside t other (e ∙ sym it.4), (t, picked.back t other, refl, refl))
        ])
        (λ t one apart. elim (picked.split t one) [
          | inl same ↦ absurd (apart (ap (λ (x : Slot). x.id) (sym same) ∙ it.4))
          | inr other ↦ (t, inr other, refl)
        ])
        (inr (now, inl refl, it.4))

    more_spent : ¬ IsLeft w spot.slot.number
    more_spent left = free_no_slot (reading w) class holds.slots holds.tree spot.slot.number (left_blank w spot.slot.number left).zero it.0 it.1 it.3

    more_none : TakesNone w more_1
    more_none = put_takes_none w spot.slot cell more_spent

    -- the same cells in another order
    cells_more : (n : ℕ) → IsAmong (cells_of (now ∷ picked.others)) n ↔ IsAmong cells n
    cells_more n = (
      λ within.
          let old_cell : IsAmong (cells_of holds.slots) n = elim within [
            | inl same ↦ subst (λ (k : ℕ). IsAmong (cells_of holds.slots) k) same (in_cells holds.slots it.0 it.1)
            | inr other ↦
                let t = slot_in_cell picked.others n other in
                subst (λ (k : ℕ). IsAmong (cells_of holds.slots) k) t.2 (in_cells holds.slots t.0 (picked.back t.0 t.1))
          ] in
          subst (λ (ns : List ℕ). IsAmong ns n) (sym holds.cells_are) old_cell,
      λ within.
          let t = slot_in_cell holds.slots n (subst (λ (ns : List ℕ). IsAmong ns n) holds.cells_are within) in
          elim (picked.split t.0 t.1) [
            | inl same ↦ inl (ap (λ (x : Slot). x.number) same ∙ t.2)
            | inr other ↦ inr (subst (λ (k : ℕ). IsAmong (cells_of picked.others) k) t.2 (in_cells picked.others t.0 other))
          ],
    )

    account_more : KeepsAccount w more_1 cells (cells_of (now ∷ picked.others))
    account_more = record {
      come = λ n within. inl ((cells_more n).0 within);
      gone = λ n within. inl ((cells_more n).1 within);
      takes = lowest_none w more_1 (cells_of (now ∷ picked.others)) more_none (λ n within left.
          let t = slot_in_cell holds.slots n (subst (λ (ns : List ℕ). IsAmong ns n) holds.cells_are ((cells_more n).0 within)) in
          free_no_slot (reading w) class holds.slots holds.tree n (left_blank w n left).zero t.0 t.1 t.2);
      filled = λ n free. inr (wrote.elsewhere n (λ e. free_no_slot (reading w) class holds.slots holds.tree n free.zero it.0 it.1 (it.3 ∙ sym e)));
    }

    own_more : (n : ℕ) → (content more_1.pairs n ≡ content w.pairs n) ⊎ (n ≡ (class_head_ref class).number) ⊎ IsAmong cells n ⊎ IsLeft w n
    own_more n = elim (put_says w spot.slot cell n) [
      | inr here ↦ inr (inr (inl (subst (λ (ns : List ℕ). IsAmong ns n) (sym holds.cells_are) (subst (λ (k : ℕ). IsAmong (cells_of holds.slots) k) (it.3 ∙ sym here) (in_cells holds.slots it.0 it.1)))))
      | inl before ↦ inl before
    ]

    anew_more : (now_cells : List ℕ) × HoldsAnew w more_1 class (with_version objects id version) cells now_cells
    anew_more = (
      cells_of (now ∷ picked.others),
      record {
        holds = record { slots = now ∷ picked.others; tree = tree_more; versions = hold_more; objects_are = objects_more; cells_are = refl };
        account = account_more;
      },
    )

  pub adds_more : AddsVersion class w more_1 id version
  adds_more = record {
    holds = anew_more;
    own = own_more;
    versions = versions_stay can.objects can.cells can.holds;
    takes =
        let none = none_at_most w more_1 (more_none can.objects can.cells can.holds) in
        record {
          enough = λ count has. none.enough count (fewer count has);
          no_more = none.no_more;
        };
    takes_none = λ objects cells holds there. more_none objects cells holds;
    places = (let first = put_longer w.pairs (record { at = spot.slot; cell = cell }) in omega arith);
    goes_on = record { below = refl; classes = refl; class = refl; room = refl };
  }
    where
      fewer : (count : ℕ) → HasLeft w (count + 1) → HasLeft w (count + 0)
      fewer count has = let same : count + 1 ≡ 1 + (count + 0) = omega arith in fewer_left w 1 (count + 0) (count + 1) same has
