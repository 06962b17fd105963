-- Slots in order: which object is behind another, and that the slots of a tree come in an order.
use Rattle.std.proofs.Common.{◌≡◌, ◌≢◌, ◌⊎◌, ℕ, List, [], ◌∷◌, slice_get, Option, Some, None, IsSome, inl, inr, refl, sym, ap, ap₂, subst, ◌∙◌, arith, rules}
use Rattle.std.proofs.Permutation.{which}
use Rattle.std.proofs.lemmas.Bool.{eq-eqb, ne_eqb}
use Rattle.rdb_pages.specs.declared.cell.Cell.{Cell}
use Rattle.rdb_pages.specs.declared.cell.CellRef.{CellRef}
use Rattle.rdb_cells.specs.HeadFormat.{class_head_in}
use Rattle.rdb_cells.specs.Images.{Image, IsCell}
use Rattle.rdb_cells.specs.ObjectFormat.{slot_in}
use Rattle.rdb_cells.specs.References.{class_head_ref}
use Rattle.rdb_objects.specs.declared.walk.Found.{Found}
use Rattle.rdb_objects.specs.Objects.{Object, newest_of}
use Rattle.rdb_objects.specs.Order.{outward, Before, Comes, IsFirst, AreInOrder, ListsInOrder, behind, told, object_of, objects_of, IsNext, HasObject, IsFoundIn}
use Rattle.rdb_objects.specs.Slots.{Path, Slot, IsOneOf, Leads, HasAbove, AreSlots}
use Rattle.rdb_objects.proofs.OneTree.{same_object}
use Rattle.rdb_objects.proofs.OrderLemmas.{before_never, before_one_way}
use Rattle.rdb_objects.proofs.TreeLemmas.{same_cell, led_slot, same_id}

pub first_comes : (s : Slot) (xs : List Slot) → IsFirst s xs → (t : Slot) → IsOneOf xs t → Comes s t
first_comes s [] first t one = absurd one
first_comes s (x ∷ xs) first t (inl same) = subst (Comes s) same first.0
first_comes s (x ∷ xs) first t (inr later) = first_comes s xs first.1 t later

-- the object behind that of a slot is that of the next one
abbrev pub Follows : List Slot → Slot → ℕ → Type 0
Follows xs s n = ((n ≡ 0) × (behind (objects_of xs) s.id ≡ None)) ⊎ ((t : Slot) × IsOneOf xs t × (t.number ≡ n) × (behind (objects_of xs) s.id ≡ Some (object_of t)))

pub follows : (xs : List Slot) → AreInOrder xs → ((a b : Slot) → IsOneOf xs a → IsOneOf xs b → a.id ≡ b.id → a ≡ b) → (s : Slot) → IsOneOf xs s → (n : ℕ) → IsNext xs s n → Follows xs s n
follows [] order ids s one n next = absurd one
follows (x ∷ xs) order ids s (inl same) n next = at_head xs order.0 order.1 next
  where
    head_id : x.id ≡ s.id
    head_id = ap (λ (t : Slot). t.id) same

    at_head : (xs : List Slot) → IsFirst x xs → AreInOrder xs → IsNext (x ∷ xs) s n → Follows (x ∷ xs) s n
    at_head [] first order next = elim next [
      | inl none ↦ inl (none.0, rw (eq-eqb x.id s.id head_id) refl)
      | inr slot ↦ elim slot.1 [
        | inl it ↦ absurd (before_never (outward s.path) (subst (Comes s) (sym it ∙ same) slot.3))
        | inr nowhere ↦ absurd nowhere
      ]
    ]
    at_head (y ∷ ys) first order next =
        let comes : Comes s y = subst (λ (t : Slot). Comes t y) same first.0 in
        elim next [
          | inl none ↦ absurd (none.1 y (inr (inl refl)) comes)
          | inr slot ↦
              let least : slot.0 ≡ y = elim (slot.4 y (inr (inl refl)) comes) [
                | inl it ↦ it
                | inr before ↦ elim slot.1 [
                  | inl at_x ↦ absurd (before_never (outward s.path) (subst (Comes s) (sym at_x ∙ same) slot.3))
                  | inr (inl at_y) ↦ sym at_y
                  | inr (inr later) ↦ absurd (before_one_way (outward y.path) (outward slot.0.path) (first_comes y ys order.0 slot.0 later) before)
                ]
              ] in
              inr (slot.0, slot.1, slot.2, rw (eq-eqb x.id s.id head_id) (ap (λ (t : Slot). Some (object_of t)) (sym least)))
        ]
follows (x ∷ xs) order ids s (inr later) n next = elim (which x.id s.id) [
  | inl same ↦
      let it = ids x s (inl refl) (inr later) same in
      absurd (before_never (outward s.path) (subst (λ (t : Slot). Comes t s) it (first_comes x xs order.0 s later)))
  | inr apart ↦
      let not_head : Comes s x → ⊥ = λ comes. before_one_way (outward x.path) (outward s.path) (first_comes x xs order.0 s later) comes in
      let rest : IsNext xs s n = elim next [
        | inl none ↦ inl (none.0, λ u one. none.1 u (inr one))
        | inr slot ↦ elim slot.1 [
          | inl at_x ↦ absurd (not_head (subst (Comes s) (sym at_x) slot.3))
          | inr one ↦ inr (slot.0, one, slot.2, slot.3, λ u also. slot.4 u (inr also))
        ]
      ] in
      elim (follows xs order.1 (λ a b one also. ids a b (inr one) (inr also)) s later n rest) [
        | inl none ↦ inl (none.0, rw (ne_eqb x.id s.id apart) none.1)
        | inr slot ↦ inr (slot.0, inr slot.1, slot.2, rw (ne_eqb x.id s.id apart) slot.3)
      ]
]

module _ (image : Image) (class : ℕ) (objects : List Object) (lists : ListsInOrder image class objects) where
  -- what is told of a slot
  pub slot_told : (t : Slot) → IsOneOf lists.slots t → (slot : CellRef) → t.number ≡ slot.number → (result : Option Found) → IsFoundIn image slot result → result ≡ told (Some (object_of t))
  slot_told t one slot number result found = elim found [
    | inl none ↦
        let some = (lists.tree.each t one).some in
        let is : slot.number ≡ 0 = ap (λ (r : CellRef). r.number) none.0 in
        absurd (omega arith)
    | inr there ↦
        let stands = lists.tree.each t one in
        let cell = same_cell image t.number there.1 stands.cell (ap image number ∙ there.2) stands.here in
        let id : (slot_in there.1).id ≡ t.id = ap (λ (c : Cell). (slot_in c).id) cell ∙ stands.of_object in
        let newest : (slot_in there.1).newest ≡ newest_of t.versions = ap (λ (c : Cell). (slot_in c).newest) cell ∙ stands.newest in
        there.3 ∙ ap₂ (λ (k : ℕ) (r : CellRef). (let o : Option Found = Some (record { id = k; newest = r }) in o)) id newest
  ]

  pub none_told : (slot : CellRef) → slot.number ≡ 0 → (result : Option Found) → IsFoundIn image slot result → result ≡ None
  none_told slot none result found = elim found [
    | inl it ↦ it.1
    | inr there ↦ absurd (there.0 (λ i. record { number = none i }))
  ]

  pub listed : (id : ℕ) → HasObject image class id → (s : Slot) × IsOneOf lists.slots s × (s.id ≡ id)
  listed id has = elim (has.2.objects_are.slotted id) [
    | inl none ↦ absurd (has.3 none)
    | inr slot ↦
        let s = same_object image class has.2.slots lists.slots has.2.tree lists.tree has.2.versions lists.versions slot.0 slot.1 in
        (s.0, s.1, s.3 ∙ slot.2)
  ]

  pub next_told : (id : ℕ) → HasObject image class id → (slot : CellRef) → ((s : Slot) → IsOneOf lists.slots s → s.id ≡ id → IsNext lists.slots s slot.number) → (result : Option Found) → IsFoundIn image slot result → result ≡ told (behind objects id)
  next_told id has slot next result found =
      let s = listed id has in
      let ids = λ (a b : Slot) (one : IsOneOf lists.slots a) (also : IsOneOf lists.slots b) (same : a.id ≡ b.id). same_id image class lists.slots lists.tree a b one also same in
      let own : behind objects id ≡ behind (objects_of lists.slots) s.0.id = ap (λ (os : List Object). behind os id) lists.objects_are ∙ ap (behind (objects_of lists.slots)) (sym s.2) in
      elim (follows lists.slots lists.in_order ids s.0 s.1 slot.number (next s.0 s.1 s.2)) [
        | inl none ↦ none_told slot none.0 result found ∙ ap told (sym (own ∙ none.1))
        | inr t ↦ slot_told t.0 t.1 slot t.2 result found ∙ ap told (sym (own ∙ t.3))
      ]

  pub first_told : (cell : Cell) (slot : CellRef) → image (class_head_ref class).number ≡ Some cell → slot ≡ (class_head_in cell).root → (result : Option Found) → IsFoundIn image slot result → result ≡ told (slice_get objects 0)
  first_told cell slot here is result found =
      let same = same_cell image (class_head_ref class).number lists.tree.rooted.cell cell lists.tree.rooted.here here in
      let root : Leads lists.slots [] slot.number = subst (λ (r : CellRef). Leads lists.slots [] r.number) (ap (λ (c : Cell). (class_head_in c).root) same ∙ sym is) lists.tree.rooted.root in
      head lists.slots lists.in_order (λ t one. one) root ∙ ap (λ (os : List Object). told (slice_get os 0)) (sym lists.objects_are)
    where
      head : (xs : List Slot) → AreInOrder xs → ((t : Slot) → IsOneOf xs t → IsOneOf lists.slots t) → Leads xs [] slot.number → result ≡ told (slice_get (objects_of xs) 0)
      head [] order within root = elim root.there [ inl none ↦ none_told slot none result found | inr has ↦ absurd has.one ]
      head (x ∷ xs) order within root = elim root.there [
        | inl none ↦ absurd (no_root x.path x (within x (inl refl)) refl none)
        | inr has ↦ elim has.one [
          | inl it ↦ slot_told x (within x (inl refl)) slot (ap (λ (t : Slot). t.number) it ∙ has.numbered) result found
          | inr later ↦
              let comes = first_comes x xs order.0 has.slot later in
              absurd (never (outward x.path) (subst (λ (p : Path). Before (outward x.path) (outward p)) has.there comes))
        ]
      ]
        where
          never : (ps : List ℕ) → ¬ Before ps []
          never [] before = before
          never (p ∷ ps) before = before

          no_root : (path : Path) (t : Slot) → IsOneOf lists.slots t → t.path ≡ path → slot.number ≡ 0 → ⊥
          no_root [] t one at none =
              let same = same_cell image (class_head_ref class).number lists.tree.rooted.cell cell lists.tree.rooted.here here in
              let number = lists.tree.rooted.root.only t one at in
              let is_root : (class_head_in lists.tree.rooted.cell).root.number ≡ slot.number = ap (λ (c : Cell). (class_head_in c).root.number) same ∙ ap (λ (r : CellRef). r.number) (sym is) in
              let some = (lists.tree.each t one).some in
              absurd (omega arith)
          no_root (place ∷ path) t one at none =
              let above = subst (λ (p : Path). HasAbove lists.slots p) at (lists.tree.each t one).above in
              no_root path above.1.0 above.1.1 above.1.2 none

-- the slot that was found is a cell
pub next_cell : (image : Image) (class id : ℕ) (has : HasObject image class id) (n : ℕ) → ((s : Slot) → IsOneOf has.2.slots s → s.id ≡ id → IsNext has.2.slots s n) → n ≢ 0 → IsCell image n
next_cell image class id has n next some = elim (has.2.objects_are.slotted id) [
  | inl none ↦ absurd (has.3 none)
  | inr slot ↦ elim (next slot.0 slot.1 slot.2) [
    | inl none ↦ absurd (some none.0)
    | inr t ↦ subst (λ (o : Option Cell). IsSome o) (sym (ap image (sym t.2) ∙ (has.2.tree.each t.0 t.1).here)) (search rules)
  ]
]

pub root_cell : (image : Image) (class : ℕ) (slots : List Slot) (tree : AreSlots image class slots) (cell : Cell) (slot : CellRef) → image (class_head_ref class).number ≡ Some cell → slot ≡ (class_head_in cell).root → slot.number ≢ 0 → IsCell image slot.number
root_cell image class slots tree cell slot here is some =
    let same = same_cell image (class_head_ref class).number tree.rooted.cell cell tree.rooted.here here in
    let root : Leads slots [] slot.number = subst (λ (r : CellRef). Leads slots [] r.number) (ap (λ (c : Cell). (class_head_in c).root) same ∙ sym is) tree.rooted.root in
    let has = led_slot image class slots tree [] slot.number some root in
    subst (λ (o : Option Cell). IsSome o) (sym (ap image (sym has.numbered) ∙ (tree.each has.slot has.one).here)) (search rules)
