-- A version is removed from an object that has another one: the header before it leads past it, or the slot to the next one.
use Rattle.std.proofs.Common.{◌≡◌, ◌≢◌, ◌⊎◌, ◌++◌, ℕ, List, [], ◌∷◌, map, Some, inl, inr, refl, sym, ap, subst, ◌∙◌, arith}
use Rattle.std.proofs.Permutation.{which}
use Rattle.std.proofs.lemmas.List.{append_assoc}
use Rattle.rdb_pages.specs.declared.cell.Cell.{Cell}
use Rattle.rdb_pages.specs.declared.cell.CellRef.{CellRef}
use Rattle.rdb_pages.specs.Pages.{zero_cell}
use Rattle.rdb_cells.specs.declared.formats.object.ObjectSlot.{ObjectSlot}
use Rattle.rdb_cells.specs.declared.formats.version.VersionHeader.{VersionHeader}
use Rattle.rdb_cells.specs.declared.kind.Kind.TheVariants as kind
use Rattle.rdb_cells.specs.Images.{Image, Writes}
use Rattle.rdb_cells.specs.Keys.{SameVersionCells, HasNoVersionCell}
use Rattle.rdb_cells.specs.Links.{IsAmong, AreOnce, AreOf}
use Rattle.rdb_cells.specs.ObjectFormat.{IsSlot, slot_in}
use Rattle.rdb_cells.specs.Records.{content}
use Rattle.rdb_cells.specs.References.{class_head_ref}
use Rattle.rdb_cells.specs.VersionFormat.{IsHeader, header_cell as header_cell_of, header_in, with_older}
use Rattle.rdb_cells.specs.Words.{kind_number, IsOfKind, no_ref}
use Rattle.rdb_cells.specs.Work.{Work, reading, IsBlank, IsLeft, TakesNone}
use Rattle.rdb_cells.proofs.VersionCellLemmas.{others_written}
use Rattle.rdb_cells.proofs.WorkLemmas.{put_work, put_reads, put_says, left_blank, put_takes_none, lowest_none, put_longer}
use Rattle.rdb_objects.specs.declared.tree.Spot.{Spot}
use Rattle.rdb_objects.specs.Chains.{IsNewer}
use Rattle.rdb_objects.specs.Changes.{HasVersion, HoldsAnew, RemovesVersion, Relinks}
use Rattle.rdb_objects.specs.Objects.{Object, newest_of, versions_of, without, without_version}
use Rattle.rdb_objects.specs.Slots.{Slot, cells_of, IsOneOf, IsVersion, AreVersions, AreSlots, HoldVersions, HoldsObjects}
use Rattle.rdb_objects.specs.Walks.{IsFound, WhateverSlots}
use Rattle.rdb_objects.proofs.Adding.{versions_again, slot_none, object_none}
use Rattle.rdb_objects.proofs.ChainLemmas.{numbers, one_header, older_part, chain_member, chain_once, without_there, once_front, chain_beside, chain_past}
use Rattle.rdb_objects.proofs.ObjectLemmas.{found_slot, found_versions, found_newest, without_here, without_other, once_without, have_without, objects_changed}
use Rattle.rdb_objects.proofs.TreeChanges.{kinds_apart}
use Rattle.rdb_objects.proofs.TreeLemmas.{same_cell, in_cells, slot_in_cell, Picked, pick}
use Rattle.rdb_objects.proofs.TreeSteps.{free_no_slot, tree_beside, slot_changed}

-- The cells of a slot and of the others
module _ (slots : List Slot) (s : Slot) (one : IsOneOf slots s) (picked : Picked slots s) where
  pub own_cells : (n : ℕ) → IsAmong (s.number ∷ cells_of picked.others) n → IsAmong (cells_of slots) n
  own_cells n within = elim within [
    | inl same ↦ subst (λ (k : ℕ). IsAmong (cells_of slots) k) same (in_cells slots s one)
    | inr other ↦
        let t = slot_in_cell picked.others n other in
        subst (λ (k : ℕ). IsAmong (cells_of slots) k) t.2 (in_cells slots t.0 (picked.back t.0 t.1))
  ]

  pub all_cells : (n : ℕ) → IsAmong (cells_of slots) n → IsAmong (s.number ∷ cells_of picked.others) n
  all_cells n within =
      let t = slot_in_cell slots n within in
      elim (picked.split t.0 t.1) [
        | inl same ↦ inl (ap (λ (x : Slot). x.number) same ∙ t.2)
        | inr other ↦ inr (subst (λ (k : ℕ). IsAmong (cells_of picked.others) k) t.2 (in_cells picked.others t.0 other))
      ]

-- From what the slots are now to what the class holds
module _ (class : ℕ) (w after : Work) (id : ℕ) (version : CellRef) (objects : List Object) (cells : List ℕ) (holds : HoldsObjects (reading w) class objects cells)
    (now_slots : List Slot) (tree : AreSlots (reading after) class now_slots) (hold : HoldVersions (reading after) now_slots)
    (kept : (t : Slot) → IsOneOf now_slots t → ((t.id ≡ id) × (t.versions ≡ without (versions_of objects id) version)) ⊎ ((t.id ≢ id) × ((u : Slot) × IsOneOf holds.slots u × (u.id ≡ t.id) × (u.versions ≡ t.versions))))
    (stay : (t : Slot) → IsOneOf holds.slots t → t.id ≢ id → (u : Slot) × IsOneOf now_slots u × (u.id ≡ t.id))
    (own : (without (versions_of objects id) version ≡ []) ⊎ ((u : Slot) × IsOneOf now_slots u × (u.id ≡ id)))
    (fewer : (n : ℕ) → IsAmong (cells_of now_slots) n → IsAmong (cells_of holds.slots) n)
    (gone : (n : ℕ) → IsAmong (cells_of holds.slots) n → IsAmong (cells_of now_slots) n ⊎ (reading after n ≡ Some zero_cell))
    (none : TakesNone w after) (filled : (n : ℕ) → IsBlank w n → reading after n ≡ reading w n) where
  to_slots : (n : ℕ) → IsAmong cells n → IsAmong (cells_of holds.slots) n
  to_slots n within = subst (λ (ns : List ℕ). IsAmong ns n) holds.cells_are within

  from_slots : (n : ℕ) → IsAmong (cells_of holds.slots) n → IsAmong cells n
  from_slots n within = subst (λ (ns : List ℕ). IsAmong ns n) (sym holds.cells_are) within

  pub removed : (now_cells : List ℕ) × HoldsAnew w after class (without_version objects id version) cells now_cells × AreOf cells now_cells
  removed = (
    cells_of now_slots,
    record {
      holds = record {
        slots = now_slots;
        tree = tree;
        versions = hold;
        objects_are =
            objects_changed holds.slots now_slots objects (without_version objects id version) id (without (versions_of objects id) version) holds.objects_are
            (without_here objects id version holds.objects_are.once) (without_other objects id version)
            (once_without objects id version holds.objects_are.once) (have_without objects id version holds.objects_are.have) kept stay own;
        cells_are = refl;
      };
      account = record {
        come = λ n within. inl (from_slots n (fewer n within));
        gone = λ n within. gone n (to_slots n within);
        takes = lowest_none w after (cells_of now_slots) none (λ n within left.
            let t = slot_in_cell holds.slots n (fewer n within) in
            free_no_slot (reading w) class holds.slots holds.tree n (left_blank w n left).zero t.0 t.1 t.2);
        filled = λ n blank. inr (filled n blank);
      };
    },
    λ n within. from_slots n (fewer n within),
  )

-- a header is no slot and no head, and not free
module _ (image : Image) (class : ℕ) (slots : List Slot) (tree : AreSlots image class slots) (id : ℕ) (version older : CellRef) (is : IsVersion image id version older) where
  pub header_no_head : (class_head_ref class).number ≢ version.number
  header_no_head =
      kinds_apart image (class_head_ref class).number version.number tree.rooted.cell is.cell tree.rooted.here is.here
      (λ e. let first = tree.rooted.kind in let second = is.kind in absurd (omega arith))

  pub header_no_slot : (s : Slot) → IsOneOf slots s → s.number ≢ version.number
  header_no_slot s one =
      let stands = tree.each s one in
      kinds_apart image s.number version.number stands.cell is.cell stands.here is.here
      (λ e. let first = stands.kind in let second = is.kind in absurd (omega arith))

pub header_not_free : (image : Image) (id : ℕ) (version older : CellRef) → IsVersion image id version older → (n : ℕ) → image n ≡ Some zero_cell → n ≢ version.number
header_not_free image id version older is n free =
    kinds_apart image n version.number zero_cell is.cell free is.here
    (λ e. let second = is.kind in absurd (omega arith))

some_in_middle : (front : List CellRef) (v : CellRef) (back : List CellRef) → ¬ (front ++ v ∷ back ≡ [])
some_in_middle [] v back e = cc
some_in_middle (u ∷ front) v back e = cc

same_newest : (front : List CellRef) (v w : CellRef) (back : List CellRef) → newest_of (front ++ v ∷ w ∷ back) ≡ newest_of (front ++ v ∷ back)
same_newest [] v w back = refl
same_newest (u ∷ front) v w back = refl

-- The header of a newer version leads past the one that goes.
module _ (class : ℕ) (w : Work) (spot : Spot) (id : ℕ) (version newest newer older : CellRef) (slot_cell header_cell old cell : Cell)
    (sought : WhateverSlots (reading w) class (λ slots. IsFound slots id spot)) (some : spot.slot.number ≢ 0)
    (has : HasVersion (reading w) class id version)
    (slot_there : reading w spot.slot.number ≡ Some slot_cell) (newest_is : newest ≡ (slot_in slot_cell).newest)
    (header_there : reading w version.number ≡ Some header_cell) (older_is : older ≡ (header_in header_cell).older)
    (newer_is : IsNewer (reading w) newest version newer)
    (old_there : reading w newer.number ≡ Some old)
    (kind_is : kind_number cell ≡ kind_number old) (says : header_in cell ≡ with_older (header_in old) older)
    (whole : (h : VersionHeader) → IsHeader h → old ≡ header_cell_of h → cell ≡ header_cell_of (with_older h older)) where
  abbrev pub past_1 : Work
  past_1 = put_work w newer cell

  wrote : Writes (reading w) (reading past_1) newer.number cell
  wrote = put_reads w newer cell

  module _ (objects : List Object) (cells : List ℕ) (holds : HoldsObjects (reading w) class objects cells) where
    abbrev it : (s : Slot) × IsOneOf holds.slots s × (s.path ≡ (sought holds.slots holds.tree).path) × (s.number ≡ spot.slot.number) × (s.id ≡ id)
    it = found_slot (reading w) class id spot objects cells holds (sought holds.slots holds.tree) some

    its_versions : versions_of objects id ≡ it.0.versions
    its_versions = found_versions (reading w) class id spot objects cells holds (sought holds.slots holds.tree) some

    its_newest : newest ≡ newest_of it.0.versions
    its_newest = newest_is ∙ found_newest (reading w) class id spot objects cells holds (sought holds.slots holds.tree) some slot_cell slot_there

    abbrev parts : (front : List CellRef) × (back : List CellRef) × (it.0.versions ≡ front ++ newer ∷ version ∷ back)
    parts = newer_is it.0.id it.0.versions (record { stand = (holds.versions it.0 it.1).1; begins = its_newest })

    chain : AreVersions (reading w) it.0.id (parts.0 ++ newer ∷ version ∷ parts.1)
    chain = subst (λ (vs : List CellRef). AreVersions (reading w) it.0.id vs) parts.2 (holds.versions it.0 it.1).1

    tail : AreVersions (reading w) it.0.id (newer ∷ version ∷ parts.1)
    tail = older_part (reading w) it.0.id parts.0 (newer ∷ version ∷ parts.1) chain

    next : older ≡ newest_of parts.1
    next =
        let same = same_cell (reading w) version.number tail.1.0.cell header_cell tail.1.0.here header_there in
        older_is ∙ ap (λ (c : Cell). (header_in c).older) (sym same) ∙ tail.1.0.leads

    once : (¬ IsAmong (numbers parts.0) newer.number) × (¬ IsAmong (numbers (version ∷ parts.1)) newer.number)
    once = once_front parts.0 newer (version ∷ parts.1) (chain_once (reading w) it.0.id (parts.0 ++ newer ∷ version ∷ parts.1) chain)

    old_cell : tail.0.cell ≡ old
    old_cell = same_cell (reading w) newer.number tail.0.cell old tail.0.here old_there

    header_now : IsVersion (reading past_1) it.0.id newer (newest_of parts.1)
    header_now = record {
      some = tail.0.some;
      cell = cell;
      here = wrote.here;
      kind = kind_is ∙ ap kind_number (sym old_cell) ∙ tail.0.kind;
      of_object = ap (λ (h : VersionHeader). h.id) says ∙ ap (λ (c : Cell). (header_in c).id) (sym old_cell) ∙ tail.0.of_object;
      leads = ap (λ (h : VersionHeader). h.older) says ∙ next;
    }

    picked : Picked holds.slots it.0
    picked = pick holds.slots it.0 it.1

    abbrev now : Slot
    now = record { path = it.0.path; number = it.0.number; id = it.0.id; versions = parts.0 ++ newer ∷ parts.1 }

    beside : (t : Slot) → IsOneOf picked.others t → t.id ≢ it.0.id
    beside t other same =
        let number = holds.tree.ids t it.0 (picked.back t other) it.1 same in
        (picked.apart holds.tree.once).0 (subst (λ (n : ℕ). IsAmong (cells_of picked.others) n) number (in_cells picked.others t other))

    tree_still : AreSlots (reading past_1) class holds.slots
    tree_still =
        tree_beside (reading w) (reading past_1) class holds.slots holds.tree
        (wrote.elsewhere (class_head_ref class).number (header_no_head (reading w) class holds.slots holds.tree it.0.id newer version tail.0))
        (λ s one. wrote.elsewhere s.number (header_no_slot (reading w) class holds.slots holds.tree it.0.id newer version tail.0 s one))

    tree_past : AreSlots (reading past_1) class (now ∷ picked.others)
    tree_past =
        let stands = tree_still.each it.0 it.1 in
        slot_changed (reading past_1) (reading past_1) class holds.slots tree_still it.0 it.1 now refl refl stands.cell stands.here (λ n apart. refl) stands.kind stands.fits stands.of_object
        (stands.newest ∙ ap (λ (vs : List CellRef). newest_of vs) parts.2 ∙ same_newest parts.0 newer version parts.1)
        refl stands.small stands.ends picked beside

    hold_past : HoldVersions (reading past_1) (now ∷ picked.others)
    hold_past t one = elim one [
      | inl same ↦
          let mine : AreVersions (reading past_1) it.0.id (parts.0 ++ newer ∷ parts.1) =
          chain_past (reading w) (reading past_1) it.0.id newer.number wrote.elsewhere parts.0 newer version parts.1 refl once.0 (λ within. once.1 (inr within)) header_now chain in
          subst (λ (x : Slot). (¬ (x.versions ≡ [])) × AreVersions (reading past_1) x.id x.versions) same (some_in_middle parts.0 newer parts.1, mine)
      | inr other ↦
          let was = holds.versions t (picked.back t other) in
          let foreign : ¬ IsAmong (numbers t.versions) newer.number = λ within.
          let member = chain_member (reading w) t.id t.versions newer.number was.1 within in
          beside t other (one_header (reading w) t.id it.0.id member.0 newer member.1 version member.2 tail.0 member.3).0 in
          (was.0, chain_beside (reading w) (reading past_1) t.id newer.number wrote.elsewhere t.versions foreign was.1)
    ]

    rest_is : without (versions_of objects id) version ≡ parts.0 ++ newer ∷ parts.1
    rest_is =
        let moved : parts.0 ++ newer ∷ version ∷ parts.1 ≡ (parts.0 ++ newer ∷ []) ++ version ∷ parts.1 = sym (append_assoc parts.0 (newer ∷ []) (version ∷ parts.1)) in
        let alone = once_front (parts.0 ++ newer ∷ []) version parts.1 (subst (λ (vs : List CellRef). AreOnce (numbers vs)) moved (chain_once (reading w) it.0.id (parts.0 ++ newer ∷ version ∷ parts.1) chain)) in
        ap (λ (vs : List CellRef). without vs version) (its_versions ∙ parts.2 ∙ moved)
        ∙ without_there (parts.0 ++ newer ∷ []) version parts.1 alone.0
        ∙ append_assoc parts.0 (newer ∷ []) parts.1

    spent : ¬ IsLeft w newer.number
    spent left = header_not_free (reading w) it.0.id newer version tail.0 newer.number (left_blank w newer.number left).zero refl

    none : TakesNone w past_1
    none = put_takes_none w newer cell spent

    anew : (now_cells : List ℕ) × HoldsAnew w past_1 class (without_version objects id version) cells now_cells × AreOf cells now_cells
    anew =
        removed class w past_1 id version objects cells holds (now ∷ picked.others) tree_past hold_past
        (λ t one. elim one [
          | inl same ↦ inl (ap (λ (x : Slot). x.id) (sym same) ∙ it.4, ap (λ (x : Slot). x.versions) (sym same) ∙ sym rest_is)
          | inr other ↦ inr (λ e. beside t other (e ∙ sym it.4), (t, picked.back t other, refl, refl))
        ])
        (λ t one apart. elim (picked.split t one) [
          | inl same ↦ absurd (apart (ap (λ (x : Slot). x.id) (sym same) ∙ it.4))
          | inr other ↦ (t, inr other, refl)
        ])
        (inr (now, inl refl, it.4))
        (own_cells holds.slots it.0 it.1 picked)
        (λ n within. inl (all_cells holds.slots it.0 it.1 picked n within))
        none
        (λ n blank. wrote.elsewhere n (header_not_free (reading w) it.0.id newer version tail.0 n blank.zero))

    own_past : (n : ℕ) → (content past_1.pairs n ≡ content w.pairs n) ⊎ (n ≡ (class_head_ref class).number) ⊎ IsAmong cells n ⊎ IsAmong (map (λ v. v.number) (versions_of objects id)) n
    own_past n = elim (put_says w newer cell n) [
      | inl before ↦ inl before
      | inr here ↦
          inr (inr (inr (subst (λ (vs : List CellRef). IsAmong (numbers vs) n) (sym (its_versions ∙ parts.2)) (subst (λ (k : ℕ). IsAmong (numbers (parts.0 ++ newer ∷ version ∷ parts.1)) k) (sym here) (in_middle parts.0)))))
    ]
      where
        in_middle : (front : List CellRef) → IsAmong (numbers (front ++ newer ∷ version ∷ parts.1)) newer.number
        in_middle [] = inl refl
        in_middle (u ∷ front) = inr (in_middle front)

    itself : reading past_1 version.number ≡ reading w version.number
    itself = wrote.elsewhere version.number (λ e. once.1 (inl e))

    relinked : Relinks (reading w) (reading past_1) (versions_of objects id) version
    unfolding header_now
    relinked = inr (record {
      front = parts.0;
      newer = newer;
      back = parts.1;
      split = its_versions ∙ parts.2;
      leads = record {
        cell = old;
        now = cell;
        was = old_there;
        here = wrote.here;
        was_header = ap kind_number (sym old_cell) ∙ tail.0.kind;
        header = header_now.kind;
        says = says ∙ ap (λ (r : CellRef). with_older (header_in old) r) next;
        whole = λ h proper is. whole h proper is ∙ ap (λ (r : CellRef). header_cell_of (with_older h r)) next;
      };
      elsewhere = wrote.elsewhere;
    })

  pub removes_older : RemovesVersion class w past_1 id version
  removes_older = record {
    holds = anew;
    own = own_past;
    itself = itself has.objects has.cells has.holds;
    versions = relinked;
    takes_none = none has.objects has.cells has.holds;
    places = (let first = put_longer w.pairs (record { at = newer; cell = cell }) in omega arith);
    goes_on = record { below = refl; classes = refl; class = refl; room = refl };
  }

-- The slot leads to the next older version.
module _ (class : ℕ) (w : Work) (spot : Spot) (id : ℕ) (version older : CellRef) (slot_cell header_cell cell : Cell)
    (sought : WhateverSlots (reading w) class (λ slots. IsFound slots id spot)) (some : spot.slot.number ≢ 0)
    (has : HasVersion (reading w) class id version)
    (slot_there : reading w spot.slot.number ≡ Some slot_cell) (newest_is : version ≡ (slot_in slot_cell).newest)
    (header_there : reading w version.number ≡ Some header_cell) (older_is : older ≡ (header_in header_cell).older) (more : older ≢ no_ref)
    (slot_kind : IsOfKind cell kind.Object) (fits : IsSlot (slot_in cell))
    (says : slot_in cell ≡ record (slot_in slot_cell) { newest = older }) where
  abbrev pub next_1 : Work
  next_1 = put_work w spot.slot cell

  wrote_next : Writes (reading w) (reading next_1) spot.slot.number cell
  wrote_next = put_reads w spot.slot cell

  module _ (objects : List Object) (cells : List ℕ) (holds : HoldsObjects (reading w) class objects cells) where
    abbrev its : (s : Slot) × IsOneOf holds.slots s × (s.path ≡ (sought holds.slots holds.tree).path) × (s.number ≡ spot.slot.number) × (s.id ≡ id)
    its = found_slot (reading w) class id spot objects cells holds (sought holds.slots holds.tree) some

    own_versions : versions_of objects id ≡ its.0.versions
    own_versions = found_versions (reading w) class id spot objects cells holds (sought holds.slots holds.tree) some

    first_is : version ≡ newest_of its.0.versions
    first_is = newest_is ∙ found_newest (reading w) class id spot objects cells holds (sought holds.slots holds.tree) some slot_cell slot_there

    begins_with : (vs : List CellRef) → ¬ (vs ≡ []) → version ≡ newest_of vs → (rest : List CellRef) × (vs ≡ version ∷ rest)
    begins_with [] some is = absurd (some refl)
    begins_with (v ∷ vs) some is = (vs, ap (λ (u : CellRef). u ∷ vs) (sym is))

    abbrev split : (rest : List CellRef) × (its.0.versions ≡ version ∷ rest)
    split = begins_with its.0.versions (holds.versions its.0 its.1).0 first_is

    stands : AreVersions (reading w) its.0.id (version ∷ split.0)
    stands = subst (λ (vs : List CellRef). AreVersions (reading w) its.0.id vs) split.1 (holds.versions its.0 its.1).1

    next_is : older ≡ newest_of split.0
    next_is =
        let same = same_cell (reading w) version.number stands.0.cell header_cell stands.0.here header_there in
        older_is ∙ ap (λ (c : Cell). (header_in c).older) (sym same) ∙ stands.0.leads

    some_left : ¬ (split.0 ≡ [])
    some_left e = more (next_is ∙ ap (λ (vs : List CellRef). newest_of vs) e)

    taken : Picked holds.slots its.0
    taken = pick holds.slots its.0 its.1

    abbrev then_slot : Slot
    then_slot = record { path = its.0.path; number = its.0.number; id = its.0.id; versions = split.0 }

    apart_from : (t : Slot) → IsOneOf taken.others t → t.id ≢ its.0.id
    apart_from t other same =
        let number = holds.tree.ids t its.0 (taken.back t other) its.1 same in
        (taken.apart holds.tree.once).0 (subst (λ (n : ℕ). IsAmong (cells_of taken.others) n) number (in_cells taken.others t other))

    cell_is : (holds.tree.each its.0 its.1).cell ≡ slot_cell
    cell_is = same_cell (reading w) its.0.number (holds.tree.each its.0 its.1).cell slot_cell (holds.tree.each its.0 its.1).here (ap (reading w) its.3 ∙ slot_there)

    cells_same : SameVersionCells (reading w) (reading next_1)
    cells_same = others_written (reading w) (reading next_1) (λ n. elim (which n spot.slot.number) [
      | inl here ↦ inr (
        subst (λ (k : ℕ). HasNoVersionCell (reading w) k) (its.3 ∙ sym here) (slot_none (reading w) class holds.slots holds.tree its.0 its.1),
        subst (λ (k : ℕ). HasNoVersionCell (reading next_1) k) (sym here) (object_none (reading next_1) spot.slot.number cell wrote_next.here slot_kind),
      )
      | inr apart ↦ inl (wrote_next.elsewhere n apart)
    ])

    tree_next : AreSlots (reading next_1) class (then_slot ∷ taken.others)
    tree_next =
        slot_changed (reading w) (reading next_1) class holds.slots holds.tree its.0 its.1 then_slot refl refl cell (ap (reading next_1) its.3 ∙ wrote_next.here)
        (λ n apart. wrote_next.elsewhere n (λ e. apart (e ∙ sym its.3))) slot_kind fits
        (ap (λ (s : ObjectSlot). s.id) says ∙ ap (λ (c : Cell). (slot_in c).id) (sym cell_is) ∙ (holds.tree.each its.0 its.1).of_object)
        (ap (λ (s : ObjectSlot). s.newest) says ∙ next_is)
        (ap (λ (s : ObjectSlot). s.children) says ∙ ap (λ (c : Cell). (slot_in c).children) (sym cell_is))
        (holds.tree.each its.0 its.1).small (holds.tree.each its.0 its.1).ends taken apart_from

    hold_next : HoldVersions (reading next_1) (then_slot ∷ taken.others)
    hold_next t one = elim one [
      | inl same ↦ subst (λ (x : Slot). (¬ (x.versions ≡ [])) × AreVersions (reading next_1) x.id x.versions) same (some_left, versions_again (reading w) (reading next_1) cells_same its.0.id split.0 stands.1)
      | inr other ↦ let was = holds.versions t (taken.back t other) in (was.0, versions_again (reading w) (reading next_1) cells_same t.id t.versions was.1)
    ]

    left_is : without (versions_of objects id) version ≡ split.0
    left_is = ap (λ (vs : List CellRef). without vs version) (own_versions ∙ split.1) ∙ without_there [] version split.0 (λ none. none)

    slot_spent : ¬ IsLeft w spot.slot.number
    slot_spent left = free_no_slot (reading w) class holds.slots holds.tree spot.slot.number (left_blank w spot.slot.number left).zero its.0 its.1 its.3

    takes_no : TakesNone w next_1
    takes_no = put_takes_none w spot.slot cell slot_spent

    anew_next : (now_cells : List ℕ) × HoldsAnew w next_1 class (without_version objects id version) cells now_cells × AreOf cells now_cells
    anew_next =
        removed class w next_1 id version objects cells holds (then_slot ∷ taken.others) tree_next hold_next
        (λ t one. elim one [
          | inl same ↦ inl (ap (λ (x : Slot). x.id) (sym same) ∙ its.4, ap (λ (x : Slot). x.versions) (sym same) ∙ sym left_is)
          | inr other ↦ inr (λ e. apart_from t other (e ∙ sym its.4), (t, taken.back t other, refl, refl))
        ])
        (λ t one apart. elim (taken.split t one) [
          | inl same ↦ absurd (apart (ap (λ (x : Slot). x.id) (sym same) ∙ its.4))
          | inr other ↦ (t, inr other, refl)
        ])
        (inr (then_slot, inl refl, its.4))
        (own_cells holds.slots its.0 its.1 taken)
        (λ n within. inl (all_cells holds.slots its.0 its.1 taken n within))
        takes_no
        (λ n blank. wrote_next.elsewhere n (λ e. free_no_slot (reading w) class holds.slots holds.tree n blank.zero its.0 its.1 (its.3 ∙ sym e)))

    own_next : (n : ℕ) → (content next_1.pairs n ≡ content w.pairs n) ⊎ (n ≡ (class_head_ref class).number) ⊎ IsAmong cells n ⊎ IsAmong (map (λ v. v.number) (versions_of objects id)) n
    own_next n = elim (put_says w spot.slot cell n) [
      | inl before ↦ inl before
      | inr here ↦ inr (inr (inl (subst (λ (ns : List ℕ). IsAmong ns n) (sym holds.cells_are) (subst (λ (k : ℕ). IsAmong (cells_of holds.slots) k) (its.3 ∙ sym here) (in_cells holds.slots its.0 its.1)))))
    ]

    itself_next : reading next_1 version.number ≡ reading w version.number
    itself_next = wrote_next.elsewhere version.number (λ e. header_no_slot (reading w) class holds.slots holds.tree its.0.id version (newest_of split.0) stands.0 its.0 its.1 (its.3 ∙ sym e))

  pub removes_newest : RemovesVersion class w next_1 id version
  removes_newest = record {
    holds = anew_next;
    own = own_next;
    itself = itself_next has.objects has.cells has.holds;
    versions = λ objects cells holds. inl (ap (λ (vs : List CellRef). newest_of vs) (own_versions objects cells holds) ∙ sym (first_is objects cells holds), cells_same objects cells holds);
    takes_none = takes_no has.objects has.cells has.holds;
    places = (let first = put_longer w.pairs (record { at = spot.slot; cell = cell }) in omega arith);
    goes_on = record { below = refl; classes = refl; class = refl; room = refl };
  }
