-- The objects of a tree's slots: what a slot says of its object, and what changes of lists of objects make of their versions.
use Rattle.std.proofs.Common.{◌≡◌, ◌≢◌, ◌⊎◌, ℕ, List, [], ◌∷◌, slice_get, Option, Some, IsSome, inl, inr, refl, sym, ap, subst, ◌∙◌, arith, rules}
use Rattle.std.proofs.Permutation.{which}
use Rattle.std.proofs.lemmas.Bool.{eq-eqb, ne_eqb}
use Rattle.std.specs.Prelude.{◌==◌, if◌then◌else◌}
use Rattle.rdb_pages.specs.declared.cell.Cell.{Cell}
use Rattle.rdb_pages.specs.declared.cell.CellRef.{CellRef}
use Rattle.rdb_cells.specs.Images.{Image, IsCell}
use Rattle.rdb_cells.specs.Links.{IsAmong, AreOnce}
use Rattle.rdb_cells.specs.ObjectFormat.{slot_in}
use Rattle.rdb_objects.specs.Objects.{Object, ids_of, newest_of, versions_of, newest_version, HaveVersions, with_version, without, with_rest, without_version}
use Rattle.rdb_objects.specs.Slots.{Slot, IsOneOf, AreObjectsOf, HoldsObjects}
use Rattle.rdb_objects.specs.declared.tree.Spot.{Spot}
use Rattle.rdb_objects.specs.Walks.{IsFound}
use Rattle.rdb_objects.proofs.TreeLemmas.{same_cell}

-- the first of versions that there are
pub first_version : (versions : List CellRef) → ¬ (versions ≡ []) → slice_get versions 0 ≡ Some (newest_of versions)
first_version [] some = absurd (some refl)
first_version (v ∷ vs) some = refl

module _ (image : Image) (class id : ℕ) (spot : Spot) (objects : List Object) (cells : List ℕ) (holds : HoldsObjects image class objects cells) (found : IsFound holds.slots id spot) where
  -- an empty spot is that of no object
  pub none_found : spot.slot.number ≡ 0 → versions_of objects id ≡ []
  none_found none = elim found.found [
    | inl empty ↦ elim (holds.objects_are.slotted id) [
      | inl without_any ↦ without_any
      | inr slot ↦ absurd (empty.1 slot.0 slot.1 slot.2)
    ]
    | inr slot ↦
        let some = (holds.tree.each slot.0 slot.1).some in
        let same = slot.3 in
        absurd (omega arith)
  ]

  module _ (some : spot.slot.number ≢ 0) where
    pub found_slot : (s : Slot) × IsOneOf holds.slots s × (s.path ≡ found.path) × (s.number ≡ spot.slot.number) × (s.id ≡ id)
    found_slot = elim found.found [ inl empty ↦ absurd (some empty.0) | inr slot ↦ slot ]

    pub found_versions : versions_of objects id ≡ found_slot.0.versions
    found_versions = ap (versions_of objects) (sym found_slot.4) ∙ holds.objects_are.told found_slot.0 found_slot.1

    pub found_cell : IsCell image spot.slot.number
    found_cell = subst (λ (o : Option Cell). IsSome o) (sym (ap image (sym found_slot.3) ∙ (holds.tree.each found_slot.0 found_slot.1).here)) (search rules)

    pub found_newest : (cell : Cell) → image spot.slot.number ≡ Some cell → (slot_in cell).newest ≡ newest_of found_slot.0.versions
    found_newest cell here =
        let stands = holds.tree.each found_slot.0 found_slot.1 in
        let same = same_cell image found_slot.0.number stands.cell cell stands.here (ap image found_slot.3 ∙ here) in
        ap (λ (c : Cell). (slot_in c).newest) (sym same) ∙ stands.newest

    pub found_version : (cell : Cell) (newest : CellRef) → image spot.slot.number ≡ Some cell → newest ≡ (slot_in cell).newest → Some newest ≡ newest_version objects id
    found_version cell newest here is =
        let has = (holds.versions found_slot.0 found_slot.1).0 in
        ap (λ (r : CellRef). Some r) (is ∙ found_newest cell here) ∙ sym (first_version found_slot.0.versions has) ∙ sym (ap (λ (vs : List CellRef). slice_get vs 0) found_versions)

-- Lists of objects
pub with_here : (os : List Object) (id : ℕ) (version : CellRef) → versions_of (with_version os id version) id ≡ version ∷ versions_of os id
with_here [] id version = rw (eq-eqb id id refl) refl
with_here (o ∷ os) id version = elim (which o.id id) [
  | inl same ↦ rw (eq-eqb o.id id same) (rw (eq-eqb o.id id same) refl)
  | inr apart ↦ rw (ne_eqb o.id id apart) (rw (ne_eqb o.id id apart) (with_here os id version))
]

pub with_other : (os : List Object) (id : ℕ) (version : CellRef) (k : ℕ) → k ≢ id → versions_of (with_version os id version) k ≡ versions_of os k
with_other [] id version k apart = rw (ne_eqb id k (λ e. apart (sym e))) refl
with_other (o ∷ os) id version k apart = elim (which o.id id) [
  | inl same ↦ rw (eq-eqb o.id id same) (rw (ne_eqb o.id k (λ e. apart (sym e ∙ same))) refl)
  | inr other ↦ rw (ne_eqb o.id id other) (ap (λ (vs : List CellRef). if o.id == k then o.versions else vs) (with_other os id version k apart))
]

ids_with : (os : List Object) (id : ℕ) (version : CellRef) (n : ℕ) → IsAmong (ids_of (with_version os id version)) n → (id ≡ n) ⊎ IsAmong (ids_of os) n
ids_with [] id version n (inl same) = inl same
ids_with [] id version n (inr none) = absurd none
ids_with (o ∷ os) id version n within = elim (which o.id id) [
  | inl same ↦
      let here : IsAmong (o.id ∷ ids_of os) n = rw (eq-eqb o.id id same) at within in
      inr here
  | inr apart ↦
      let there : IsAmong (o.id ∷ ids_of (with_version os id version)) n = rw (ne_eqb o.id id apart) at within in
      elim there [
        | inl first ↦ inr (inl first)
        | inr later ↦ elim (ids_with os id version n later) [ inl it ↦ inl it | inr old ↦ inr (inr old) ]
      ]
]

pub once_with : (os : List Object) (id : ℕ) (version : CellRef) → AreOnce (ids_of os) → AreOnce (ids_of (with_version os id version))
once_with [] id version once = (λ none. none, tt)
once_with (o ∷ os) id version once = elim (which o.id id) [
  | inl same ↦ rw (eq-eqb o.id id same) once
  | inr apart ↦
      rw (ne_eqb o.id id apart)
      (let beside : ¬ IsAmong (ids_of (with_version os id version)) o.id = λ within. elim (ids_with os id version o.id within) [ inl same ↦ apart (sym same) | inr old ↦ once.0 old ] in
      (beside, once_with os id version once.1))
]

pub have_with : (os : List Object) (id : ℕ) (version : CellRef) → HaveVersions os → HaveVersions (with_version os id version)
have_with [] id version have = (λ none. cc, tt)
have_with (o ∷ os) id version have = elim (which o.id id) [
  | inl same ↦ rw (eq-eqb o.id id same) (let some : ¬ (version ∷ o.versions ≡ []) = λ none. cc in (some, have.1))
  | inr apart ↦ rw (ne_eqb o.id id apart) (have.0, have_with os id version have.1)
]

-- what isn't there has no versions
pub absent : (os : List Object) (id : ℕ) → (¬ IsAmong (ids_of os) id) → versions_of os id ≡ []
absent [] id without_it = refl
absent (o ∷ os) id without_it = rw (ne_eqb o.id id (λ same. without_it (inl same))) (absent os id (λ within. without_it (inr within)))

-- the object with some versions, and others
module _ (id : ℕ) (others : List Object) where
  rest_here : (vs : List CellRef) → versions_of others id ≡ [] → versions_of (with_rest id vs others) id ≡ vs
  rest_here [] none = none
  rest_here (v ∷ vs) none = rw (eq-eqb id id refl) refl

  rest_other : (vs : List CellRef) (k : ℕ) → k ≢ id → versions_of (with_rest id vs others) k ≡ versions_of others k
  rest_other [] k apart = refl
  rest_other (v ∷ vs) k apart = rw (ne_eqb id k (λ e. apart (sym e))) refl

  rest_ids : (vs : List CellRef) (n : ℕ) → IsAmong (ids_of (with_rest id vs others)) n → (id ≡ n) ⊎ IsAmong (ids_of others) n
  rest_ids [] n within = inr within
  rest_ids (v ∷ vs) n within = within

  rest_once : (vs : List CellRef) → (¬ IsAmong (ids_of others) id) → AreOnce (ids_of others) → AreOnce (ids_of (with_rest id vs others))
  rest_once [] beside once = once
  rest_once (v ∷ vs) beside once = (beside, once)

  rest_have : (vs : List CellRef) → HaveVersions others → HaveVersions (with_rest id vs others)
  rest_have [] have = have
  rest_have (v ∷ vs) have = (λ none. cc, have)

pub without_here : (os : List Object) (id : ℕ) (version : CellRef) → AreOnce (ids_of os) → versions_of (without_version os id version) id ≡ without (versions_of os id) version
without_here [] id version once = refl
without_here (o ∷ os) id version once = elim (which o.id id) [
  | inl same ↦
      rw (eq-eqb o.id id same)
      (let none : versions_of os id ≡ [] = absent os id (λ within. once.0 (subst (λ (n : ℕ). IsAmong (ids_of os) n) (sym same) within)) in
      subst (λ (n : ℕ). versions_of (with_rest n (without o.versions version) os) id ≡ without o.versions version) (sym same) (rest_here id os (without o.versions version) none))
  | inr apart ↦ rw (ne_eqb o.id id apart) (rw (ne_eqb o.id id apart) (without_here os id version once.1))
]

pub without_other : (os : List Object) (id : ℕ) (version : CellRef) (k : ℕ) → k ≢ id → versions_of (without_version os id version) k ≡ versions_of os k
without_other [] id version k apart = refl
without_other (o ∷ os) id version k apart = elim (which o.id id) [
  | inl same ↦
      let other : o.id ≢ k = λ e. apart (sym e ∙ same) in
      rw (eq-eqb o.id id same) (rest_other o.id os (without o.versions version) k (λ e. other (sym e)) ∙ sym (rw (ne_eqb o.id k other) refl))
  | inr differs ↦ rw (ne_eqb o.id id differs) (ap (λ (vs : List CellRef). if o.id == k then o.versions else vs) (without_other os id version k apart))
]

ids_without : (os : List Object) (id : ℕ) (version : CellRef) (n : ℕ) → IsAmong (ids_of (without_version os id version)) n → IsAmong (ids_of os) n
ids_without [] id version n within = within
ids_without (o ∷ os) id version n within = elim (which o.id id) [
  | inl same ↦
      let here : IsAmong (ids_of (with_rest o.id (without o.versions version) os)) n = rw (eq-eqb o.id id same) at within in
      rest_ids o.id os (without o.versions version) n here
  | inr apart ↦
      let there : IsAmong (o.id ∷ ids_of (without_version os id version)) n = rw (ne_eqb o.id id apart) at within in
      elim there [ inl first ↦ inl first | inr later ↦ inr (ids_without os id version n later) ]
]

pub once_without : (os : List Object) (id : ℕ) (version : CellRef) → AreOnce (ids_of os) → AreOnce (ids_of (without_version os id version))
once_without [] id version once = tt
once_without (o ∷ os) id version once = elim (which o.id id) [
  | inl same ↦ rw (eq-eqb o.id id same) (rest_once o.id os (without o.versions version) once.0 once.1)
  | inr apart ↦ rw (ne_eqb o.id id apart) (let beside : ¬ IsAmong (ids_of (without_version os id version)) o.id = λ within. once.0 (ids_without os id version o.id within) in (beside, once_without os id version once.1))
]

pub have_without : (os : List Object) (id : ℕ) (version : CellRef) → HaveVersions os → HaveVersions (without_version os id version)
have_without [] id version have = tt
have_without (o ∷ os) id version have = elim (which o.id id) [
  | inl same ↦ rw (eq-eqb o.id id same) (rest_have o.id os (without o.versions version) have.1)
  | inr apart ↦ rw (ne_eqb o.id id apart) (have.0, have_without os id version have.1)
]

-- One object has other versions now, none perhaps; the others' slots say the same of them.
module _ (slots now_slots : List Slot) (objects now_objects : List Object) (id : ℕ) (versions : List CellRef) (are : AreObjectsOf slots objects)
    (here : versions_of now_objects id ≡ versions) (other : (k : ℕ) → k ≢ id → versions_of now_objects k ≡ versions_of objects k)
    (once : AreOnce (ids_of now_objects)) (have : HaveVersions now_objects)
    (kept : (t : Slot) → IsOneOf now_slots t → ((t.id ≡ id) × (t.versions ≡ versions)) ⊎ ((t.id ≢ id) × ((u : Slot) × IsOneOf slots u × (u.id ≡ t.id) × (u.versions ≡ t.versions))))
    (stay : (t : Slot) → IsOneOf slots t → t.id ≢ id → (u : Slot) × IsOneOf now_slots u × (u.id ≡ t.id))
    (own : (versions ≡ []) ⊎ ((u : Slot) × IsOneOf now_slots u × (u.id ≡ id))) where
  pub objects_changed : AreObjectsOf now_slots now_objects
  objects_changed = record {
    told = λ t one. elim (kept t one) [
      | inl it ↦ ap (versions_of now_objects) it.0 ∙ here ∙ sym it.1
      | inr old ↦
          let u = old.1 in
          other t.id old.0 ∙ ap (versions_of objects) (sym u.2) ∙ are.told u.0 u.1 ∙ u.3
    ];
    slotted = λ k. elim (which k id) [
      | inl same ↦ elim own [
        | inl none ↦ inl (ap (versions_of now_objects) same ∙ here ∙ none)
        | inr slot ↦ inr (slot.0, slot.1, slot.2 ∙ sym same)
      ]
      | inr apart ↦ elim (are.slotted k) [
        | inl none ↦ inl (other k apart ∙ none)
        | inr slot ↦
            let u = stay slot.0 slot.1 (λ e. apart (sym slot.2 ∙ e)) in
            inr (u.0, u.1, u.2 ∙ slot.2)
      ]
    ];
    once = once;
    have = have;
  }
