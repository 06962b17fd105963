-- The last version of an object is removed whose slot has children: a leaf's object moves up into the slot, and the leaf goes.
use Rattle.std.proofs.Common.{◌≡◌, ◌≢◌, ◌⊎◌, ◌++◌, ℕ, List, [], ◌∷◌, map, Some, inl, inr, refl, sym, ap, subst, ◌∙◌, arith}
use Rattle.std.proofs.Permutation.{which}
use Rattle.rdb_pages.specs.declared.cell.Cell.{Cell}
use Rattle.rdb_pages.specs.declared.cell.CellRef.{CellRef}
use Rattle.rdb_pages.specs.Pages.{zero_cell}
use Rattle.rdb_cells.specs.declared.formats.object.ObjectSlot.{ObjectSlot}
use Rattle.rdb_cells.specs.declared.kind.Kind.TheVariants as kind
use Rattle.rdb_cells.specs.Images.{Writes}
use Rattle.rdb_cells.specs.Keys.{SameVersionCells, HasNoVersionCell}
use Rattle.rdb_cells.specs.Links.{IsAmong, AreOf}
use Rattle.rdb_cells.specs.ObjectFormat.{IsSlot, slot_in}
use Rattle.rdb_cells.specs.Records.{content}
use Rattle.rdb_cells.specs.References.{class_head_ref}
use Rattle.rdb_cells.specs.Words.{IsOfKind, no_ref}
use Rattle.rdb_cells.specs.Work.{Work, reading, IsLeft, TakesNone}
use Rattle.rdb_cells.proofs.VersionCellLemmas.{others_written}
use Rattle.rdb_cells.proofs.WorkLemmas.{put_work, put_reads, put_says, left_blank, put_takes_none, none_then, put_longer}
use Rattle.rdb_objects.specs.declared.tree.Spot.{Spot}
use Rattle.rdb_objects.specs.Changes.{HasLast, HoldsAnew, RemovesVersion}
use Rattle.rdb_objects.specs.Objects.{Object, versions_of, without_version, newest_of}
use Rattle.rdb_objects.specs.Slots.{Path, Slot, ending, cells_of, IsOneOf, AreVersions, AreSlots, HoldVersions, HoldsObjects}
use Rattle.rdb_objects.specs.Walks.{IsSpot, IsLink, IsFound, IsLeafBelow, IsLeadingToLeaf, WhateverSlots}
use Rattle.rdb_objects.proofs.Adding.{versions_again, slot_none, object_none, free_none, link_at, link_none, link_cell_none, link_not_free}
use Rattle.rdb_objects.proofs.RemovingSlots.{link_apart, one_left, own_slot, own_spot, own_header, none_left}
use Rattle.rdb_objects.proofs.Removing.{own_cells, all_cells, removed}
use Rattle.rdb_objects.proofs.TreeLemmas.{same_cell, in_cells, Picked, pick, led_slot, ending_append}
use Rattle.rdb_objects.proofs.TreeSteps.{head_no_slot, free_no_slot, tree_beside, slot_went, slot_changed}

module _ (class : ℕ) (w : Work) (spot leaf : Spot) (id : ℕ) (version pair_at : CellRef) (pair_cell leaf_cell old cell : Cell)
    (sought : WhateverSlots (reading w) class (λ slots. IsFound slots id spot))
    (last : HasLast (reading w) class id version)
    (leads : WhateverSlots (reading w) class (λ slots. IsLeadingToLeaf slots spot leaf))
    (link : IsLink (reading w) class leaf no_ref pair_at pair_cell)
    (differ : leaf.slot.number ≢ spot.slot.number)
    (leaf_there : reading w leaf.slot.number ≡ Some leaf_cell)
    (old_there : reading (put_work w pair_at pair_cell) spot.slot.number ≡ Some old)
    (slot_kind : IsOfKind cell kind.Object) (fits : IsSlot (slot_in cell))
    (says : slot_in cell ≡ record { newest = (slot_in leaf_cell).newest; id = (slot_in leaf_cell).id; children = (slot_in old).children }) where
  abbrev pub move_1 : Work
  move_1 = put_work w pair_at pair_cell

  abbrev pub move_2 : Work
  move_2 = put_work move_1 spot.slot cell

  abbrev pub move_3 : Work
  move_3 = put_work move_2 leaf.slot zero_cell

  wrote_1 : Writes (reading w) (reading move_1) pair_at.number pair_cell
  wrote_1 = put_reads w pair_at pair_cell

  wrote_2 : Writes (reading move_1) (reading move_2) spot.slot.number cell
  wrote_2 = put_reads move_1 spot.slot cell

  wrote_3 : Writes (reading move_2) (reading move_3) leaf.slot.number zero_cell
  wrote_3 = put_reads move_2 leaf.slot zero_cell

  module _ (objects : List Object) (cells : List ℕ) (holds : HoldsObjects (reading w) class objects cells) where
    abbrev it : (s : Slot) × IsOneOf holds.slots s × (s.path ≡ (sought holds.slots holds.tree).path) × (s.number ≡ spot.slot.number) × (s.id ≡ id)
    it = own_slot class w spot id version sought last objects cells holds

    below : IsLeafBelow holds.slots it.0.path leaf
    below = leads holds.slots holds.tree it.0.path (own_spot class w spot id version sought last objects cells holds)

    abbrev leaf_slot : (t : Slot) × IsOneOf holds.slots t × (t.path ≡ below.down ++ it.0.path) × (t.number ≡ leaf.slot.number)
    leaf_slot = let has = led_slot (reading w) class holds.slots holds.tree (below.down ++ it.0.path) leaf.slot.number below.there below.is_spot.leads in (has.slot, has.one, has.there, has.numbered)

    leaf_spot : IsSpot holds.slots leaf_slot.0.path leaf
    leaf_spot = subst (λ (p : Path). IsSpot holds.slots p leaf) (sym leaf_slot.2) below.is_spot

    apart : leaf_slot.0.number ≢ it.0.number
    apart e = differ (sym leaf_slot.3 ∙ e ∙ it.3)

    link_beside : leaf_slot.0.number ≢ pair_at.number
    link_beside = link_apart (reading w) class holds.slots holds.tree leaf_slot.0 leaf_slot.1 leaf leaf_spot no_ref pair_at pair_cell link

    picked : Picked holds.slots leaf_slot.0
    picked = pick holds.slots leaf_slot.0 leaf_slot.1

    -- the leaf goes from the tree
    tree_1 : AreSlots (reading move_1) class picked.others
    tree_1 =
        slot_went (reading w) (reading move_1) class holds.slots holds.tree leaf_slot.0 leaf_slot.1 leaf leaf_spot no_ref pair_at pair_cell link refl wrote_1.here
        (λ n no_link no_leaf. wrote_1.elsewhere n no_link)
        (λ t one place at. below.leaf t one place (at ∙ ap (λ (p : Path). place ∷ p) leaf_slot.2)) picked

    own_stays : IsOneOf picked.others it.0
    own_stays = elim (picked.split it.0 it.1) [
      | inl same ↦ absurd (apart (ap (λ (x : Slot). x.number) same))
      | inr other ↦ other
    ]

    rest : Picked picked.others it.0
    rest = pick picked.others it.0 own_stays

    abbrev now : Slot
    now = record { path = it.0.path; number = it.0.number; id = leaf_slot.0.id; versions = leaf_slot.0.versions }

    leaf_is : (holds.tree.each leaf_slot.0 leaf_slot.1).cell ≡ leaf_cell
    leaf_is = same_cell (reading w) leaf_slot.0.number (holds.tree.each leaf_slot.0 leaf_slot.1).cell leaf_cell (holds.tree.each leaf_slot.0 leaf_slot.1).here (ap (reading w) leaf_slot.3 ∙ leaf_there)

    old_is : (tree_1.each it.0 own_stays).cell ≡ old
    old_is = same_cell (reading move_1) it.0.number (tree_1.each it.0 own_stays).cell old (tree_1.each it.0 own_stays).here (ap (reading move_1) it.3 ∙ old_there)

    other_id : (t : Slot) → IsOneOf picked.others t → t.id ≢ leaf_slot.0.id
    other_id t other same =
        let number = holds.tree.ids t leaf_slot.0 (picked.back t other) leaf_slot.1 same in
        (picked.apart holds.tree.once).0 (subst (λ (n : ℕ). IsAmong (cells_of picked.others) n) number (in_cells picked.others t other))

    -- and its object moves up
    tree_2 : AreSlots (reading move_2) class (now ∷ rest.others)
    tree_2 =
        let leaf_stands = holds.tree.each leaf_slot.0 leaf_slot.1 in
        let ends : leaf_slot.0.id ≡ ending it.0.path (ending below.down leaf_stands.ends.0) =
        leaf_stands.ends.1 ∙ ap (λ (p : Path). ending p leaf_stands.ends.0) leaf_slot.2 ∙ ending_append below.down it.0.path leaf_stands.ends.0 in
        slot_changed (reading move_1) (reading move_2) class picked.others tree_1 it.0 own_stays now refl refl cell (ap (reading move_2) it.3 ∙ wrote_2.here)
        (λ n no_own. wrote_2.elsewhere n (λ e. no_own (e ∙ sym it.3))) slot_kind fits
        (ap (λ (s : ObjectSlot). s.id) says ∙ ap (λ (c : Cell). (slot_in c).id) (sym leaf_is) ∙ leaf_stands.of_object)
        (ap (λ (s : ObjectSlot). s.newest) says ∙ ap (λ (c : Cell). (slot_in c).newest) (sym leaf_is) ∙ leaf_stands.newest)
        (ap (λ (s : ObjectSlot). s.children) says ∙ ap (λ (c : Cell). (slot_in c).children) (sym old_is))
        leaf_stands.small (ending below.down leaf_stands.ends.0, ends) rest (λ t other. other_id t (rest.back t other))

    leaf_beside : (t : Slot) → IsOneOf (now ∷ rest.others) t → t.number ≢ leaf.slot.number
    leaf_beside t one same = elim one [
      | inl is ↦ differ (sym same ∙ ap (λ (x : Slot). x.number) (sym is) ∙ it.3)
      | inr other ↦
          (picked.apart holds.tree.once).0 (subst (λ (n : ℕ). IsAmong (cells_of picked.others) n) (same ∙ sym leaf_slot.3) (in_cells picked.others t (rest.back t other)))
    ]

    head_beside : (class_head_ref class).number ≢ leaf.slot.number
    head_beside e = head_no_slot (reading w) class holds.slots holds.tree leaf_slot.0 leaf_slot.1 (leaf_slot.3 ∙ sym e)

    tree_3 : AreSlots (reading move_3) class (now ∷ rest.others)
    tree_3 =
        tree_beside (reading move_2) (reading move_3) class (now ∷ rest.others) tree_2
        (wrote_3.elsewhere (class_head_ref class).number head_beside)
        (λ s one. wrote_3.elsewhere s.number (leaf_beside s one))

    elsewhere : (n : ℕ) → n ≢ pair_at.number → n ≢ spot.slot.number → n ≢ leaf.slot.number → reading move_3 n ≡ reading w n
    elsewhere n no_link no_own no_leaf = wrote_3.elsewhere n no_leaf ∙ wrote_2.elsewhere n no_own ∙ wrote_1.elsewhere n no_link

    own_now : reading move_3 spot.slot.number ≡ Some cell
    own_now = wrote_3.elsewhere spot.slot.number (λ e. differ (sym e)) ∙ wrote_2.here

    cells_same : SameVersionCells (reading w) (reading move_3)
    cells_same = others_written (reading w) (reading move_3) (λ n. elim (which n leaf.slot.number) [
      | inl at_leaf ↦ inr (
        subst (λ (k : ℕ). HasNoVersionCell (reading w) k) (leaf_slot.3 ∙ sym at_leaf) (slot_none (reading w) class holds.slots holds.tree leaf_slot.0 leaf_slot.1),
        subst (λ (k : ℕ). HasNoVersionCell (reading move_3) k) (sym at_leaf) (free_none (reading move_3) leaf.slot.number wrote_3.here),
      )
      | inr no_leaf ↦ elim (which n spot.slot.number) [
        | inl at_own ↦ inr (
          subst (λ (k : ℕ). HasNoVersionCell (reading w) k) (it.3 ∙ sym at_own) (slot_none (reading w) class holds.slots holds.tree it.0 it.1),
          subst (λ (k : ℕ). HasNoVersionCell (reading move_3) k) (sym at_own) (object_none (reading move_3) spot.slot.number cell own_now slot_kind),
        )
        | inr no_own ↦ elim (which n pair_at.number) [
          | inl at_link ↦
              let now_there : reading move_3 pair_at.number ≡ Some pair_cell =
              wrote_3.elsewhere pair_at.number (λ e. no_leaf (at_link ∙ e)) ∙ wrote_2.elsewhere pair_at.number (λ e. no_own (at_link ∙ e)) ∙ wrote_1.here in
              inr (
                subst (λ (k : ℕ). HasNoVersionCell (reading w) k) (sym at_link) (link_none (reading w) class holds.slots holds.tree leaf_slot.0.path leaf leaf_spot no_ref pair_at pair_cell link),
                subst (λ (k : ℕ). HasNoVersionCell (reading move_3) k) (sym at_link) (link_cell_none (reading w) (reading move_3) class leaf no_ref pair_at pair_cell link now_there),
              )
          | inr no_link ↦ inl (elsewhere n no_link no_own no_leaf)
        ]
      ]
    ])

    hold_3 : HoldVersions (reading move_3) (now ∷ rest.others)
    hold_3 t one = elim one [
      | inl same ↦
          let was = holds.versions leaf_slot.0 leaf_slot.1 in
          subst (λ (x : Slot). (¬ (x.versions ≡ [])) × AreVersions (reading move_3) x.id x.versions) same (was.0, versions_again (reading w) (reading move_3) cells_same leaf_slot.0.id leaf_slot.0.versions was.1)
      | inr other ↦
          let was = holds.versions t (picked.back t (rest.back t other)) in
          (was.0, versions_again (reading w) (reading move_3) cells_same t.id t.versions was.1)
    ]

    own_id : (t : Slot) → IsOneOf rest.others t → t.id ≢ id
    own_id t other is =
        let number = tree_1.ids t it.0 (rest.back t other) own_stays (is ∙ sym it.4) in
        (rest.apart tree_1.once).0 (subst (λ (n : ℕ). IsAmong (cells_of rest.others) n) number (in_cells rest.others t other))

    leaf_id : leaf_slot.0.id ≢ id
    leaf_id same = other_id it.0 own_stays (it.4 ∙ sym same)

    -- no put is to a cell that can be taken
    spent_1 : ¬ IsLeft w pair_at.number
    spent_1 left = link_not_free (reading w) class holds.slots holds.tree leaf_slot.0.path leaf leaf_spot no_ref pair_at pair_cell link pair_at.number (left_blank w pair_at.number left).zero refl

    spent_2 : ¬ IsLeft move_1 spot.slot.number
    spent_2 left = free_no_slot (reading move_1) class picked.others tree_1 spot.slot.number (left_blank move_1 spot.slot.number left).zero it.0 own_stays it.3

    spent_3 : ¬ IsLeft move_2 leaf.slot.number
    spent_3 left =
        let zero_there = sym (wrote_2.elsewhere leaf.slot.number differ ∙ wrote_1.elsewhere leaf.slot.number (λ e. link_beside (leaf_slot.3 ∙ e))) ∙ (left_blank move_2 leaf.slot.number left).zero in
        free_no_slot (reading w) class holds.slots holds.tree leaf.slot.number zero_there leaf_slot.0 leaf_slot.1 leaf_slot.3

    none : TakesNone w move_3
    none =
        none_then w move_1 move_3 (put_takes_none w pair_at pair_cell spent_1)
        (none_then move_1 move_2 move_3 (put_takes_none move_1 spot.slot cell spent_2) (put_takes_none move_2 leaf.slot zero_cell spent_3))

    anew : (now_cells : List ℕ) × HoldsAnew w move_3 class (without_version objects id version) cells now_cells × AreOf cells now_cells
    anew =
        removed class w move_3 id version objects cells holds (now ∷ rest.others) tree_3 hold_3
        (λ t one. elim one [
          | inl same ↦ inr (λ e. leaf_id (ap (λ (x : Slot). x.id) same ∙ e), (leaf_slot.0, leaf_slot.1, ap (λ (x : Slot). x.id) same, ap (λ (x : Slot). x.versions) same))
          | inr other ↦ inr (own_id t other, (t, picked.back t (rest.back t other), refl, refl))
        ])
        (λ t one apart_from. elim (picked.split t one) [
          | inl same ↦ (now, inl refl, ap (λ (x : Slot). x.id) same)
          | inr stays ↦ elim (rest.split t stays) [
            | inl same ↦ absurd (apart_from (ap (λ (x : Slot). x.id) (sym same) ∙ it.4))
            | inr other ↦ (t, inr other, refl)
          ]
        ])
        (inl (none_left class w spot id version sought last objects cells holds))
        (λ n within. own_cells holds.slots leaf_slot.0 leaf_slot.1 picked n (inr (own_cells picked.others it.0 own_stays rest n within)))
        (λ n within. elim (all_cells holds.slots leaf_slot.0 leaf_slot.1 picked n within) [
          | inl is ↦ inr (ap (reading move_3) (sym is ∙ leaf_slot.3) ∙ wrote_3.here)
          | inr stays ↦ inl (all_cells picked.others it.0 own_stays rest n stays)
        ])
        none
        (λ n blank. elsewhere n
        (λ e. link_not_free (reading w) class holds.slots holds.tree leaf_slot.0.path leaf leaf_spot no_ref pair_at pair_cell link n blank.zero (sym e))
        (λ e. free_no_slot (reading w) class holds.slots holds.tree n blank.zero it.0 it.1 (it.3 ∙ sym e))
        (λ e. free_no_slot (reading w) class holds.slots holds.tree n blank.zero leaf_slot.0 leaf_slot.1 (leaf_slot.3 ∙ sym e)))

    in_own : (n : ℕ) → IsAmong (cells_of holds.slots) n → IsAmong cells n
    in_own n within = subst (λ (ns : List ℕ). IsAmong ns n) (sym holds.cells_are) within

    own_3 : (n : ℕ) → (content move_3.pairs n ≡ content w.pairs n) ⊎ (n ≡ (class_head_ref class).number) ⊎ IsAmong cells n ⊎ IsAmong (map (λ v. v.number) (versions_of objects id)) n
    own_3 n = elim (put_says move_2 leaf.slot zero_cell n) [
      | inr at_leaf ↦ inr (inr (inl (in_own n (subst (λ (k : ℕ). IsAmong (cells_of holds.slots) k) (leaf_slot.3 ∙ sym at_leaf) (in_cells holds.slots leaf_slot.0 leaf_slot.1)))))
      | inl third ↦ elim (put_says move_1 spot.slot cell n) [
        | inr at_own ↦ inr (inr (inl (in_own n (subst (λ (k : ℕ). IsAmong (cells_of holds.slots) k) (it.3 ∙ sym at_own) (in_cells holds.slots it.0 it.1)))))
        | inl second ↦ elim (put_says w pair_at pair_cell n) [
          | inr at_link ↦ elim (link_at (reading w) class holds.slots holds.tree leaf_slot.0.path leaf leaf_spot no_ref pair_at pair_cell link) [
            | inl head ↦ inr (inl (at_link ∙ head))
            | inr slot ↦ inr (inr (inl (in_own n (subst (λ (k : ℕ). IsAmong (cells_of holds.slots) k) (slot.2 ∙ sym at_link) (in_cells holds.slots slot.0 slot.1)))))
          ]
          | inl before ↦ inl (third ∙ second ∙ before)
        ]
      ]
    ]

    itself : reading move_3 version.number ≡ reading w version.number
    itself =
        let header = own_header class w spot id version sought last objects cells holds in
        (cells_same version.number header.cell (inr header.kind)).0 header.here ∙ sym header.here

    pub leaf_fits : IsSlot (slot_in leaf_cell)
    leaf_fits = subst (λ (c : Cell). IsSlot (slot_in c)) leaf_is (holds.tree.each leaf_slot.0 leaf_slot.1).fits

  pub removes_moved : RemovesVersion class w move_3 id version
  removes_moved = record {
    holds = anew;
    own = own_3;
    itself = itself last.objects last.cells last.holds;
    versions = λ objects cells holds. inl (ap (λ (vs : List CellRef). newest_of vs) (one_left class w spot id version sought last objects cells holds), cells_same objects cells holds);
    takes_none = none last.objects last.cells last.holds;
    places =
        let first = put_longer w.pairs (record { at = pair_at; cell = pair_cell }) in
        let second = put_longer move_1.pairs (record { at = spot.slot; cell = cell }) in
        let third = put_longer move_2.pairs (record { at = leaf.slot; cell = zero_cell }) in
        omega arith;
    goes_on = record { below = refl; classes = refl; class = refl; room = refl };
  }
