-- An image holds one tree of a class's slots, and so one list of objects.
use Rattle.std.proofs.Common.{◌≡◌, ◌+◌, ℕ, List, [], ◌∷◌, slice_get, inl, inr, refl, sym, ap, subst, ◌∙◌, arith}
use Rattle.rdb_pages.specs.declared.cell.Cell.{Cell}
use Rattle.rdb_cells.specs.HeadFormat.{class_head_in}
use Rattle.rdb_cells.specs.Images.{Image}
use Rattle.rdb_cells.specs.Links.{IsAmong}
use Rattle.rdb_cells.specs.ObjectFormat.{slot_in}
use Rattle.rdb_cells.specs.References.{class_head_ref}
use Rattle.rdb_cells.specs.Words.{ref_in}
use Rattle.rdb_cells.proofs.FormatLemmas.{child_there}
use Rattle.rdb_objects.specs.Changes.{HoldsOne}
use Rattle.rdb_objects.specs.Objects.{Object, versions_of, SameObjects}
use Rattle.rdb_objects.specs.Slots.{Path, Slot, cells_of, IsOneOf, HasSlot, Leads, HasAbove, AreSlots, HoldVersions, HoldsObjects}
use Rattle.rdb_objects.proofs.ChainLemmas.{one_chain}
use Rattle.rdb_objects.proofs.TreeLemmas.{same_cell, in_cells, slot_in_cell, led_slot}

module _ (image : Image) (class : ℕ) (xs ys : List Slot) (first : AreSlots image class xs) (second : AreSlots image class ys) where
  -- each slot of one tree stands at its path in the other
  pub same_place : (path : Path) (s : Slot) → IsOneOf xs s → s.path ≡ path → HasSlot ys path s.number
  same_place [] s one at =
      let cell = same_cell image (class_head_ref class).number first.rooted.cell second.rooted.cell first.rooted.here second.rooted.here in
      let number : s.number ≡ (class_head_in second.rooted.cell).root.number = first.rooted.root.only s one at ∙ ap (λ (c : Cell). (class_head_in c).root.number) cell in
      led_slot image class ys second [] s.number (λ none. (let some = (first.each s one).some in absurd (omega arith))) (subst (λ (n : ℕ). Leads ys [] n) (sym number) second.rooted.root)
  same_place (place ∷ path) s one at =
      let above = subst (HasAbove xs) at (first.each s one).above in
      let a = above.1.0 in
      let up = same_place path a above.1.1 above.1.2 in
      let over = first.each a above.1.1 in
      let under = second.each up.slot up.one in
      let cell = same_cell image a.number over.cell under.cell over.here (ap image (sym up.numbered) ∙ under.here) in
      let child = ref_in over.cell (4 + place) in
      let child_is = child_there over.cell place above.0 in
      let mine = subst (λ (p : Path). Leads xs (place ∷ p) child.number) above.1.2 (over.children place child child_is) in
      let its = subst (λ (p : Path). Leads ys (place ∷ p) child.number) up.there (under.children place child (ap (λ (c : Cell). slice_get (slot_in c).children place) (sym cell) ∙ child_is)) in
      let number = mine.only s one at in
      led_slot image class ys second (place ∷ path) s.number (λ none. (let some = (first.each s one).some in absurd (omega arith))) (subst (λ (n : ℕ). Leads ys (place ∷ path) n) (sym number) its)

  pub same_object : HoldVersions image xs → HoldVersions image ys → (s : Slot) (one : IsOneOf xs s) → (t : Slot) × IsOneOf ys t × (t.number ≡ s.number) × (t.id ≡ s.id) × (t.versions ≡ s.versions)
  same_object hold also s one =
      let there = same_place s.path s one refl in
      let mine = first.each s one in
      let its = second.each there.slot there.one in
      let cell = same_cell image s.number its.cell mine.cell (ap image (sym there.numbered) ∙ its.here) mine.here in
      let newest = sym its.newest ∙ ap (λ (c : Cell). (slot_in c).newest) cell ∙ mine.newest in (
        there.slot,
        there.one,
        there.numbered,
        sym its.of_object ∙ ap (λ (c : Cell). (slot_in c).id) cell ∙ mine.of_object,
        one_chain image there.slot.id s.id there.slot.versions s.versions newest (also there.slot there.one).1 (hold s one).1,
      )

pub same_versions : (image : Image) (class : ℕ) (xs ys : List Object) (ms ns : List ℕ) → HoldsObjects image class xs ms → HoldsObjects image class ys ns → SameObjects xs ys
same_versions image class xs ys ms ns first second id = elim (first.objects_are.slotted id) [
  | inr slot ↦
      let t = same_object image class first.slots second.slots first.tree second.tree first.versions second.versions slot.0 slot.1 in
      let mine = ap (versions_of xs) (sym slot.2) ∙ first.objects_are.told slot.0 slot.1 in
      let its = ap (versions_of ys) (sym (t.3 ∙ slot.2)) ∙ second.objects_are.told t.0 t.1 in
      mine ∙ sym t.4 ∙ sym its
  | inl none ↦ elim (second.objects_are.slotted id) [
    | inl also ↦ none ∙ sym also
    | inr slot ↦
        let t = same_object image class second.slots first.slots second.tree first.tree second.versions first.versions slot.0 slot.1 in
        let its = ap (versions_of ys) (sym slot.2) ∙ second.objects_are.told slot.0 slot.1 in
        let mine = ap (versions_of xs) (sym (t.3 ∙ slot.2)) ∙ first.objects_are.told t.0 t.1 in
        mine ∙ t.4 ∙ sym its
  ]
]

pub holds_one : HoldsOne
holds_one image class xs ys ms ns first second = (
  same_versions image class xs ys ms ns first second,
  λ n within.
      let s = slot_in_cell second.slots n (subst (λ (ks : List ℕ). IsAmong ks n) second.cells_are within) in
      let t = same_object image class second.slots first.slots second.tree first.tree second.versions first.versions s.0 s.1 in
      subst (λ (ks : List ℕ). IsAmong ks n) (sym first.cells_are) (subst (λ (k : ℕ). IsAmong (cells_of first.slots) k) (t.2 ∙ s.2) (in_cells first.slots t.0 t.1)),
)
