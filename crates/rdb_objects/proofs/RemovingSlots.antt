-- The last version of an object is removed, and its slot goes: a leaf's cell is given back, or a leaf's object moves up.
use Rattle.std.proofs.Common.{◌≡◌, ◌≢◌, ◌⊎◌, ◌++◌, suc, ℕ, List, [], ◌∷◌, length, map, Some, inl, inr, refl, sym, ap, subst, ◌∙◌, arith}
use Rattle.std.proofs.Permutation.{which}
use Rattle.rdb_pages.specs.declared.cell.Cell.{Cell}
use Rattle.rdb_pages.specs.declared.cell.CellRef.{CellRef}
use Rattle.rdb_pages.specs.Pages.{zero_cell}
use Rattle.rdb_cells.specs.Images.{Image, Writes}
use Rattle.rdb_cells.specs.Keys.{SameVersionCells, HasNoVersionCell}
use Rattle.rdb_cells.specs.Links.{IsAmong, AreOf}
use Rattle.rdb_cells.specs.Records.{content}
use Rattle.rdb_cells.specs.References.{class_head_ref}
use Rattle.rdb_cells.specs.Words.{no_ref}
use Rattle.rdb_cells.specs.Work.{Work, reading, IsLeft, TakesNone}
use Rattle.rdb_cells.proofs.VersionCellLemmas.{others_written}
use Rattle.rdb_cells.proofs.WorkLemmas.{put_work, put_reads, put_says, left_blank, put_takes_none, none_then, put_longer}
use Rattle.rdb_objects.specs.declared.tree.Spot.{Spot}
use Rattle.rdb_objects.specs.Changes.{HasLast, HoldsAnew, RemovesVersion}
use Rattle.rdb_objects.specs.Objects.{Object, versions_of, without, without_version, newest_of}
use Rattle.rdb_objects.specs.Slots.{Path, Slot, cells_of, IsOneOf, IsVersion, AreVersions, AreSlots, HoldVersions, HoldsObjects}
use Rattle.rdb_objects.specs.Walks.{IsSpot, IsLink, IsFound, IsLeafBelow, IsLeadingToLeaf, WhateverSlots}
use Rattle.rdb_objects.proofs.Adding.{versions_again, slot_none, free_none, link_at, link_none, link_cell_none, link_not_free}
use Rattle.rdb_objects.proofs.ChainLemmas.{without_there}
use Rattle.rdb_objects.proofs.ObjectLemmas.{found_slot, found_versions, none_found}
use Rattle.rdb_objects.proofs.OneTree.{same_versions}
use Rattle.rdb_objects.proofs.Removing.{own_cells, all_cells, removed}
use Rattle.rdb_objects.proofs.TreeChanges.{upper_of}
use Rattle.rdb_objects.proofs.TreeLemmas.{in_cells, one_cell, Picked, pick, led_slot}
use Rattle.rdb_objects.proofs.TreeSteps.{head_no_slot, free_no_slot, slot_went}

-- a link leads from another slot than the one at its spot
pub link_apart : (image : Image) (class : ℕ) (slots : List Slot) (tree : AreSlots image class slots) (s : Slot) (one : IsOneOf slots s) (spot : Spot) → IsSpot slots s.path spot → (m at : CellRef) (cell : Cell) → IsLink image class spot m at cell → s.number ≢ at.number
link_apart image class slots tree s one spot is m at cell link same = elim link [
  | inl head ↦ head_no_slot image class slots tree s one (same ∙ ap (λ (r : CellRef). r.number) head.1)
  | inr slot ↦
      let upper = upper_of slots s.path spot.above spot.place is.led_to slot.0 in
      let number : upper.3.slot.number ≡ s.number = upper.3.numbered ∙ ap (λ (r : CellRef). r.number) (sym slot.1) ∙ sym same in
      let it = same_path_of upper.3.slot upper.3.one number in
      let lengths : suc (length upper.0) ≡ length upper.0 = ap (λ (p : Path). length p) (sym upper.1 ∙ sym (ap (λ (x : Slot). x.path) it) ∙ upper.3.there) in
      absurd (omega arith)
]
  where
    same_path_of : (u : Slot) → IsOneOf slots u → u.number ≡ s.number → u ≡ s
    same_path_of u also number = one_cell slots tree.once u s also one number

-- What both forms have
module _ (class : ℕ) (w : Work) (spot : Spot) (id : ℕ) (version : CellRef)
    (sought : WhateverSlots (reading w) class (λ slots. IsFound slots id spot))
    (last : HasLast (reading w) class id version)
    (objects : List Object) (cells : List ℕ) (holds : HoldsObjects (reading w) class objects cells) where
  pub one_left : versions_of objects id ≡ version ∷ []
  one_left = same_versions (reading w) class objects last.objects cells last.cells holds last.holds id ∙ last.last

  pub slot_there : spot.slot.number ≢ 0
  slot_there none = let gone : version ∷ [] ≡ [] = sym one_left ∙ none_found (reading w) class id spot objects cells holds (sought holds.slots holds.tree) none in no_more gone
    where
      no_more : version ∷ [] ≡ [] → ⊥
      no_more e = cc

  abbrev pub own_slot : (s : Slot) × IsOneOf holds.slots s × (s.path ≡ (sought holds.slots holds.tree).path) × (s.number ≡ spot.slot.number) × (s.id ≡ id)
  own_slot = found_slot (reading w) class id spot objects cells holds (sought holds.slots holds.tree) slot_there

  pub none_left : without (versions_of objects id) version ≡ []
  none_left = ap (λ (vs : List CellRef). without vs version) one_left ∙ without_there [] version [] (λ none. none)

  pub own_header : IsVersion (reading w) own_slot.0.id version no_ref
  own_header =
      let its = found_versions (reading w) class id spot objects cells holds (sought holds.slots holds.tree) slot_there in
      (subst (λ (vs : List CellRef). AreVersions (reading w) own_slot.0.id vs) (sym its ∙ one_left) (holds.versions own_slot.0 own_slot.1).1).0

  pub own_spot : IsSpot holds.slots own_slot.0.path spot
  own_spot = subst (λ (p : Path). IsSpot holds.slots p spot) (sym own_slot.2) (sought holds.slots holds.tree).is_spot

-- The slot is a leaf: its cell is free, and nothing leads to it.
module _ (class : ℕ) (w : Work) (spot leaf : Spot) (id : ℕ) (version pair_at : CellRef) (pair_cell : Cell)
    (sought : WhateverSlots (reading w) class (λ slots. IsFound slots id spot))
    (last : HasLast (reading w) class id version)
    (leads : WhateverSlots (reading w) class (λ slots. IsLeadingToLeaf slots spot leaf))
    (link : IsLink (reading w) class leaf no_ref pair_at pair_cell)
    (same : leaf.slot ≡ spot.slot) where
  abbrev pub leaf_1 : Work
  leaf_1 = put_work w leaf.slot zero_cell

  abbrev pub leaf_2 : Work
  leaf_2 = put_work leaf_1 pair_at pair_cell

  wrote_1 : Writes (reading w) (reading leaf_1) leaf.slot.number zero_cell
  wrote_1 = put_reads w leaf.slot zero_cell

  wrote_2 : Writes (reading leaf_1) (reading leaf_2) pair_at.number pair_cell
  wrote_2 = put_reads leaf_1 pair_at pair_cell

  module _ (objects : List Object) (cells : List ℕ) (holds : HoldsObjects (reading w) class objects cells) where
    abbrev it : (s : Slot) × IsOneOf holds.slots s × (s.path ≡ (sought holds.slots holds.tree).path) × (s.number ≡ spot.slot.number) × (s.id ≡ id)
    it = own_slot class w spot id version sought last objects cells holds

    below : IsLeafBelow holds.slots it.0.path leaf
    below = leads holds.slots holds.tree it.0.path (own_spot class w spot id version sought last objects cells holds)

    -- the leaf is the slot itself
    leaf_slot : (t : Slot) × IsOneOf holds.slots t × (t.path ≡ below.down ++ it.0.path) × (t.number ≡ leaf.slot.number)
    leaf_slot = let has = led_slot (reading w) class holds.slots holds.tree (below.down ++ it.0.path) leaf.slot.number below.there below.is_spot.leads in (has.slot, has.one, has.there, has.numbered)

    leaf_is : leaf_slot.0 ≡ it.0
    leaf_is = one_cell holds.slots holds.tree.once leaf_slot.0 it.0 leaf_slot.1 it.1 (leaf_slot.3 ∙ ap (λ (r : CellRef). r.number) same ∙ sym it.3)

    at_own : below.down ++ it.0.path ≡ it.0.path
    at_own = sym leaf_slot.2 ∙ ap (λ (x : Slot). x.path) leaf_is

    leaf_spot : IsSpot holds.slots it.0.path leaf
    leaf_spot = subst (λ (p : Path). IsSpot holds.slots p leaf) at_own below.is_spot

    number_is : it.0.number ≡ leaf.slot.number
    number_is = it.3 ∙ ap (λ (r : CellRef). r.number) (sym same)

    apart : leaf.slot.number ≢ pair_at.number
    apart e = link_apart (reading w) class holds.slots holds.tree it.0 it.1 leaf leaf_spot no_ref pair_at pair_cell link (number_is ∙ e)

    picked : Picked holds.slots it.0
    picked = pick holds.slots it.0 it.1

    elsewhere : (n : ℕ) → n ≢ pair_at.number → n ≢ leaf.slot.number → reading leaf_2 n ≡ reading w n
    elsewhere n no_link no_leaf = wrote_2.elsewhere n no_link ∙ wrote_1.elsewhere n no_leaf

    freed : reading leaf_2 leaf.slot.number ≡ Some zero_cell
    freed = wrote_2.elsewhere leaf.slot.number apart ∙ wrote_1.here

    tree_now : AreSlots (reading leaf_2) class picked.others
    tree_now =
        slot_went (reading w) (reading leaf_2) class holds.slots holds.tree it.0 it.1 leaf leaf_spot no_ref pair_at pair_cell link refl wrote_2.here
        (λ n no_link no_own. elsewhere n no_link (λ e. no_own (e ∙ sym number_is)))
        (λ t one place at. below.leaf t one place (at ∙ ap (λ (p : Path). place ∷ p) (sym at_own))) picked

    cells_same : SameVersionCells (reading w) (reading leaf_2)
    cells_same = others_written (reading w) (reading leaf_2) (λ n. elim (which n pair_at.number) [
      | inl at_link ↦ inr (
        subst (λ (k : ℕ). HasNoVersionCell (reading w) k) (sym at_link) (link_none (reading w) class holds.slots holds.tree it.0.path leaf leaf_spot no_ref pair_at pair_cell link),
        subst (λ (k : ℕ). HasNoVersionCell (reading leaf_2) k) (sym at_link) (link_cell_none (reading w) (reading leaf_2) class leaf no_ref pair_at pair_cell link wrote_2.here),
      )
      | inr no_link ↦ elim (which n leaf.slot.number) [
        | inl at_leaf ↦ inr (
          subst (λ (k : ℕ). HasNoVersionCell (reading w) k) (number_is ∙ sym at_leaf) (slot_none (reading w) class holds.slots holds.tree it.0 it.1),
          subst (λ (k : ℕ). HasNoVersionCell (reading leaf_2) k) (sym at_leaf) (free_none (reading leaf_2) leaf.slot.number freed),
        )
        | inr no_leaf ↦ inl (elsewhere n no_link no_leaf)
      ]
    ])

    hold_now : HoldVersions (reading leaf_2) picked.others
    hold_now t other = let was = holds.versions t (picked.back t other) in (was.0, versions_again (reading w) (reading leaf_2) cells_same t.id t.versions was.1)

    beside : (t : Slot) → IsOneOf picked.others t → t.id ≢ id
    beside t other is =
        let number = holds.tree.ids t it.0 (picked.back t other) it.1 (is ∙ sym it.4) in
        (picked.apart holds.tree.once).0 (subst (λ (n : ℕ). IsAmong (cells_of picked.others) n) number (in_cells picked.others t other))

    -- no put is to a cell that can be taken
    first_spent : ¬ IsLeft w leaf.slot.number
    first_spent left = free_no_slot (reading w) class holds.slots holds.tree leaf.slot.number (left_blank w leaf.slot.number left).zero it.0 it.1 number_is

    second_spent : ¬ IsLeft leaf_1 pair_at.number
    second_spent left =
        let zero_there = sym (wrote_1.elsewhere pair_at.number (λ e. apart (sym e))) ∙ (left_blank leaf_1 pair_at.number left).zero in
        link_not_free (reading w) class holds.slots holds.tree it.0.path leaf leaf_spot no_ref pair_at pair_cell link pair_at.number zero_there refl

    none : TakesNone w leaf_2
    none = none_then w leaf_1 leaf_2 (put_takes_none w leaf.slot zero_cell first_spent) (put_takes_none leaf_1 pair_at pair_cell second_spent)

    anew : (now_cells : List ℕ) × HoldsAnew w leaf_2 class (without_version objects id version) cells now_cells × AreOf cells now_cells
    anew =
        let nothing = none_left class w spot id version sought last objects cells holds in
        removed class w leaf_2 id version objects cells holds picked.others tree_now hold_now
        (λ t other. inr (beside t other, (t, picked.back t other, refl, refl)))
        (λ t one other. elim (picked.split t one) [
          | inl is ↦ absurd (other (ap (λ (x : Slot). x.id) (sym is) ∙ it.4))
          | inr stays ↦ (t, stays, refl)
        ])
        (inl nothing)
        (λ n within. own_cells holds.slots it.0 it.1 picked n (inr within))
        (λ n within. elim (all_cells holds.slots it.0 it.1 picked n within) [
          | inl is ↦ inr (ap (reading leaf_2) (sym is ∙ number_is) ∙ freed)
          | inr other ↦ inl other
        ])
        none
        (λ n blank. elsewhere n
        (λ e. link_not_free (reading w) class holds.slots holds.tree it.0.path leaf leaf_spot no_ref pair_at pair_cell link n blank.zero (sym e))
        (λ e. free_no_slot (reading w) class holds.slots holds.tree n blank.zero it.0 it.1 (number_is ∙ sym e)))

    own_now : (n : ℕ) → (content leaf_2.pairs n ≡ content w.pairs n) ⊎ (n ≡ (class_head_ref class).number) ⊎ IsAmong cells n ⊎ IsAmong (map (λ v. v.number) (versions_of objects id)) n
    own_now n = elim (put_says leaf_1 pair_at pair_cell n) [
      | inr at_link ↦ elim (link_at (reading w) class holds.slots holds.tree it.0.path leaf leaf_spot no_ref pair_at pair_cell link) [
        | inl head ↦ inr (inl (at_link ∙ head))
        | inr slot ↦ inr (inr (inl (subst (λ (ns : List ℕ). IsAmong ns n) (sym holds.cells_are) (subst (λ (k : ℕ). IsAmong (cells_of holds.slots) k) (slot.2 ∙ sym at_link) (in_cells holds.slots slot.0 slot.1)))))
      ]
      | inl first ↦ elim (put_says w leaf.slot zero_cell n) [
        | inr at_leaf ↦ inr (inr (inl (subst (λ (ns : List ℕ). IsAmong ns n) (sym holds.cells_are) (subst (λ (k : ℕ). IsAmong (cells_of holds.slots) k) (number_is ∙ sym at_leaf) (in_cells holds.slots it.0 it.1)))))
        | inl before ↦ inl (first ∙ before)
      ]
    ]

    itself : reading leaf_2 version.number ≡ reading w version.number
    itself =
        let header = own_header class w spot id version sought last objects cells holds in
        (cells_same version.number header.cell (inr header.kind)).0 header.here ∙ sym header.here

  pub removes_leaf : RemovesVersion class w leaf_2 id version
  removes_leaf = record {
    holds = anew;
    own = own_now;
    itself = itself last.objects last.cells last.holds;
    versions = λ objects cells holds. inl (ap (λ (vs : List CellRef). newest_of vs) (one_left class w spot id version sought last objects cells holds), cells_same objects cells holds);
    takes_none = none last.objects last.cells last.holds;
    places =
        let first = put_longer w.pairs (record { at = leaf.slot; cell = zero_cell }) in
        let second = put_longer leaf_1.pairs (record { at = pair_at; cell = pair_cell }) in
        omega arith;
    goes_on = record { below = refl; classes = refl; class = refl; room = refl };
  }
