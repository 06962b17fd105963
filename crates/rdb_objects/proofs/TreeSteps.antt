-- A slot comes to a tree, goes from it, or has another object.
use Rattle.std.proofs.Common.{◌≡◌, ◌≢◌, ◌<◌, ◌^◌, ℕ, List, [], ◌∷◌, slice_get, Some, inl, inr, refl, sym, ap, subst, ◌∙◌, arith}
use Rattle.rdb_pages.specs.declared.cell.Cell.{Cell}
use Rattle.rdb_pages.specs.declared.cell.CellRef.{CellRef}
use Rattle.rdb_pages.specs.Pages.{zero_cell}
use Rattle.rdb_cells.specs.declared.kind.Kind.TheVariants as kind
use Rattle.rdb_cells.specs.HeadFormat.{class_head_in}
use Rattle.rdb_cells.specs.Images.{Image}
use Rattle.rdb_cells.specs.Links.{IsAmong, AreOnce}
use Rattle.rdb_cells.specs.ObjectFormat.{IsSlot, slot_in}
use Rattle.rdb_cells.specs.References.{class_head_ref}
use Rattle.rdb_cells.specs.Words.{IsOfKind}
use Rattle.rdb_objects.specs.declared.tree.Spot.{Spot}
use Rattle.rdb_objects.specs.Objects.{newest_of}
use Rattle.rdb_objects.specs.Slots.{Path, Slot, ending, cells_of, IsOneOf, HasSlot, Leads, HasAbove, IsSlotAt, AreSlots}
use Rattle.rdb_objects.specs.Walks.{IsLedTo, IsSpot, HasNone, IsLink}
use Rattle.rdb_objects.proofs.TreeLemmas.{in_cells, slot_in_cell, Picked, leads_by, here_is, one_path, no_slot}
use Rattle.rdb_objects.proofs.TreeChanges.{kinds_apart, no_longer, above_by, relinked_root, relinked_slot}

-- a tree rests on its head and its slots
module _ (before after : Image) (class : ℕ) (slots : List Slot) (tree : AreSlots before class slots)
    (head : after (class_head_ref class).number ≡ before (class_head_ref class).number)
    (same : (s : Slot) → IsOneOf slots s → after s.number ≡ before s.number) where
  pub tree_beside : AreSlots after class slots
  tree_beside = record {
    rooted = record { cell = tree.rooted.cell; here = head ∙ tree.rooted.here; kind = tree.rooted.kind; root = tree.rooted.root };
    each = λ s one.
        let stands = tree.each s one in
        record {
          some = stands.some;
          cell = stands.cell;
          here = same s one ∙ stands.here;
          kind = stands.kind;
          fits = stands.fits;
          of_object = stands.of_object;
          newest = stands.newest;
          small = stands.small;
          ends = stands.ends;
          above = stands.above;
          children = stands.children;
        };
    once = tree.once;
    ids = tree.ids;
  }

module _ (image : Image) (class : ℕ) (slots : List Slot) (tree : AreSlots image class slots) where
  -- the head is no slot, and a free cell neither
  pub head_no_slot : (s : Slot) → IsOneOf slots s → s.number ≢ (class_head_ref class).number
  head_no_slot s one =
      let stands = tree.each s one in
      kinds_apart image s.number (class_head_ref class).number stands.cell tree.rooted.cell stands.here tree.rooted.here
      (λ e. let first = stands.kind in let second = tree.rooted.kind in absurd (omega arith))

  pub free_no_slot : (n : ℕ) → image n ≡ Some zero_cell → (s : Slot) → IsOneOf slots s → s.number ≢ n
  free_no_slot n free s one =
      let stands = tree.each s one in
      kinds_apart image s.number n stands.cell zero_cell stands.here free
      (λ e. let first = stands.kind in absurd (omega arith))

  pub free_no_head : (n : ℕ) → image n ≡ Some zero_cell → (class_head_ref class).number ≢ n
  free_no_head n free =
      kinds_apart image (class_head_ref class).number n tree.rooted.cell zero_cell tree.rooted.here free
      (λ e. let first = tree.rooted.kind in absurd (omega arith))

  -- the path of a spot leads on from a slot
  pub spot_above : (path : Path) (above : CellRef) (place : ℕ) → IsLedTo slots path above place → HasAbove slots path
  spot_above [] above place led = tt
  spot_above (last ∷ path) above place led = (led.1, (led.2.slot, led.2.one, led.2.there))

-- A slot comes: a free cell is written, and the link to its spot.
module _ (before after : Image) (class : ℕ) (slots : List Slot) (tree : AreSlots before class slots)
    (s : Slot) (spot : Spot) (is : IsSpot slots s.path spot) (empty : spot.slot.number ≡ 0)
    (m at : CellRef) (cell slot_cell : Cell) (link : IsLink before class spot m at cell) (m_is : m.number ≡ s.number) (some : 0 < s.number)
    (free : before s.number ≡ Some zero_cell)
    (wrote : after at.number ≡ Some cell) (wrote_slot : after s.number ≡ Some slot_cell)
    (same : (n : ℕ) → n ≢ at.number → n ≢ s.number → after n ≡ before n)
    (slot_kind : IsOfKind slot_cell kind.Object) (fits : IsSlot (slot_in slot_cell)) (of_object : (slot_in slot_cell).id ≡ s.id) (newest : (slot_in slot_cell).newest ≡ newest_of s.versions)
    (bare : (place : ℕ) (child : CellRef) → slice_get (slot_in slot_cell).children place ≡ Some child → child.number ≡ 0)
    (small : s.id < 2 ^ 64) (ends : (others : ℕ) × (s.id ≡ ending s.path others)) (fresh : HasNone slots s.id) where
  none_there : (t : Slot) → IsOneOf slots t → ¬ (t.path ≡ s.path)
  none_there = no_slot before class slots tree s.path (subst (λ (n : ℕ). Leads slots s.path n) empty is.leads)

  lead_new : Leads (s ∷ slots) s.path m.number
  lead_new = record {
    there = inr (subst (λ (n : ℕ). HasSlot (s ∷ slots) s.path n) (sym m_is) (here_is (s ∷ slots) s s.path (inl refl) refl));
    only = λ t one path. elim one [
      | inl it ↦ ap (λ (x : Slot). x.number) (sym it) ∙ sym m_is
      | inr later ↦ absurd (none_there t later path)
    ];
  }

  lead_old : (q : Path) (n : ℕ) → ¬ (q ≡ s.path) → Leads slots q n → Leads (s ∷ slots) q n
  lead_old q n apart = leads_by slots (s ∷ slots) q n
      (λ t one path. here_is (s ∷ slots) t q (inr one) path)
      (λ t one path. elim one [
        | inl it ↦ absurd (apart (sym path ∙ ap (λ (x : Slot). x.path) (sym it)))
        | inr later ↦ here_is slots t q later path
      ])

  still_above : (path : Path) → HasAbove slots path → HasAbove (s ∷ slots) path
  still_above path above = above_by slots (s ∷ slots) path (λ u one place here. (u, inr one, refl)) above

  new_slot : IsSlotAt after (s ∷ slots) s
  new_slot = record {
    some = some;
    cell = slot_cell;
    here = wrote_slot;
    kind = slot_kind;
    fits = fits;
    of_object = of_object;
    newest = newest;
    small = small;
    ends = ends;
    above = still_above s.path (spot_above before class slots tree s.path spot.above spot.place is.led_to);
    children = λ place child there. record {
      there = inl (bare place child there);
      only = λ t one path. elim one [
        | inl it ↦ absurd (no_longer place s.path (ap (λ (x : Slot). x.path) it ∙ path))
        | inr later ↦
            let above = subst (HasAbove slots) path (tree.each t later).above in
            absurd (none_there above.1.0 above.1.1 above.1.2)
      ];
    };
  }

  pub slot_came : AreSlots after class (s ∷ slots)
  slot_came = record {
    rooted = relinked_root before after class slots (s ∷ slots) tree s.path spot is m at cell link s.number wrote same lead_new lead_old (free_no_head before class slots tree s.number free);
    each = λ t one. elim one [
      | inl it ↦ subst (IsSlotAt after (s ∷ slots)) it new_slot
      | inr later ↦
          relinked_slot before after class slots (s ∷ slots) tree s.path spot is m at cell link s.number wrote same lead_new lead_old (free_no_head before class slots tree s.number free) t later (free_no_slot before class slots tree s.number free t later)
          (still_above t.path (tree.each t later).above)
    ];
    once = (
      λ within. let t = slot_in_cell slots s.number within in free_no_slot before class slots tree s.number free t.0 t.1 t.2,
      tree.once,
    );
    ids = λ t u one also ids. elim one [
      | inl it ↦ elim also [
        | inl its ↦ ap (λ (x : Slot). x.number) (sym it ∙ its)
        | inr later ↦ absurd (fresh u later (sym ids ∙ ap (λ (x : Slot). x.id) (sym it)))
      ]
      | inr first ↦ elim also [
        | inl its ↦ absurd (fresh t first (ids ∙ ap (λ (x : Slot). x.id) (sym its)))
        | inr later ↦ tree.ids t u first later ids
      ]
    ];
  }

-- A leaf goes: the link to its spot leads to none, and whatever is written to its cell.
module _ (before after : Image) (class : ℕ) (slots : List Slot) (tree : AreSlots before class slots)
    (s : Slot) (one : IsOneOf slots s) (spot : Spot) (is : IsSpot slots s.path spot)
    (m at : CellRef) (cell : Cell) (link : IsLink before class spot m at cell) (none : m.number ≡ 0)
    (wrote : after at.number ≡ Some cell)
    (same : (n : ℕ) → n ≢ at.number → n ≢ s.number → after n ≡ before n)
    (leaf : (t : Slot) → IsOneOf slots t → (place : ℕ) → ¬ (t.path ≡ place ∷ s.path))
    (picked : Picked slots s) where
  parts : (¬ IsAmong (cells_of picked.others) s.number) × AreOnce (cells_of picked.others)
  parts = picked.apart tree.once

  other_number : (t : Slot) → IsOneOf picked.others t → t.number ≢ s.number
  other_number t other number = parts.0 (subst (λ (n : ℕ). IsAmong (cells_of picked.others) n) number (in_cells picked.others t other))

  lead_none : Leads picked.others s.path m.number
  lead_none = record {
    there = inl none;
    only = λ t other path. absurd (other_number t other (one_path before class slots tree s.path t s (picked.back t other) one path refl));
  }

  lead_others : (q : Path) (n : ℕ) → ¬ (q ≡ s.path) → Leads slots q n → Leads picked.others q n
  lead_others q n apart = leads_by slots picked.others q n
      (λ t was path. elim (picked.split t was) [
        | inl it ↦ absurd (apart (sym path ∙ ap (λ (x : Slot). x.path) (sym it)))
        | inr other ↦ here_is picked.others t q other path
      ])
      (λ t other path. here_is slots t q (picked.back t other) path)

  head_apart : (class_head_ref class).number ≢ s.number
  head_apart e = head_no_slot before class slots tree s one (sym e)

  pub slot_went : AreSlots after class picked.others
  slot_went = record {
    rooted = relinked_root before after class slots picked.others tree s.path spot is m at cell link s.number wrote same lead_none lead_others head_apart;
    each = λ t other.
        let was = picked.back t other in
        let above = above_by slots picked.others t.path
        (λ u there place path. elim (picked.split u there) [
          | inl it ↦ absurd (leaf t was place (path ∙ ap (λ (x : Slot). place ∷ x.path) (sym it)))
          | inr stays ↦ (u, stays, refl)
        ])
        (tree.each t was).above in
        relinked_slot before after class slots picked.others tree s.path spot is m at cell link s.number wrote same lead_none lead_others head_apart t was (other_number t other) above;
    once = parts.1;
    ids = λ t u first second ids. tree.ids t u (picked.back t first) (picked.back u second) ids;
  }

-- A slot has another object, in the same cell with the same children.
module _ (before after : Image) (class : ℕ) (slots : List Slot) (tree : AreSlots before class slots)
    (s : Slot) (one : IsOneOf slots s) (now : Slot) (same_path : now.path ≡ s.path) (same_number : now.number ≡ s.number)
    (cell : Cell) (wrote : after s.number ≡ Some cell) (same : (n : ℕ) → n ≢ s.number → after n ≡ before n)
    (slot_kind : IsOfKind cell kind.Object)
    (fits : IsSlot (slot_in cell)) (of_object : (slot_in cell).id ≡ now.id) (newest : (slot_in cell).newest ≡ newest_of now.versions)
    (kept : (slot_in cell).children ≡ (slot_in (tree.each s one).cell).children)
    (small : now.id < 2 ^ 64) (ends : (others : ℕ) × (now.id ≡ ending now.path others))
    (picked : Picked slots s) (fresh : HasNone picked.others now.id) where
  own_parts : (¬ IsAmong (cells_of picked.others) s.number) × AreOnce (cells_of picked.others)
  own_parts = picked.apart tree.once

  beside : (t : Slot) → IsOneOf picked.others t → t.number ≢ s.number
  beside t other number = own_parts.0 (subst (λ (n : ℕ). IsAmong (cells_of picked.others) n) number (in_cells picked.others t other))

  lead_same : (q : Path) (n : ℕ) → Leads slots q n → Leads (now ∷ picked.others) q n
  lead_same q n = leads_by slots (now ∷ picked.others) q n
      (λ t was path. elim (picked.split t was) [
        | inl it ↦
            let at : now.path ≡ q = same_path ∙ ap (λ (x : Slot). x.path) it ∙ path in
            subst (λ (k : ℕ). HasSlot (now ∷ picked.others) q k) (same_number ∙ ap (λ (x : Slot). x.number) it) (here_is (now ∷ picked.others) now q (inl refl) at)
        | inr other ↦ here_is (now ∷ picked.others) t q (inr other) path
      ])
      (λ t is path. elim is [
        | inl it ↦
            let at : s.path ≡ q = sym same_path ∙ ap (λ (x : Slot). x.path) it ∙ path in
            subst (λ (k : ℕ). HasSlot slots q k) (sym same_number ∙ ap (λ (x : Slot). x.number) it) (here_is slots s q one at)
        | inr other ↦ here_is slots t q (picked.back t other) path
      ])

  above_same : (path : Path) → HasAbove slots path → HasAbove (now ∷ picked.others) path
  above_same path above = above_by slots (now ∷ picked.others) path
      (λ u there place here. elim (picked.split u there) [
        | inl it ↦ (now, inl refl, same_path ∙ ap (λ (x : Slot). x.path) it)
        | inr other ↦ (u, inr other, refl)
      ])
      above

  now_slot : IsSlotAt after (now ∷ picked.others) now
  now_slot =
      let stands = tree.each s one in
      record {
        some = subst (λ (n : ℕ). 0 < n) (sym same_number) stands.some;
        cell = cell;
        here = ap after same_number ∙ wrote;
        kind = slot_kind;
        fits = fits;
        of_object = of_object;
        newest = newest;
        small = small;
        ends = ends;
        above = subst (HasAbove (now ∷ picked.others)) (sym same_path) (above_same s.path stands.above);
        children = λ place child there.
            let was = ap (λ (cs : List CellRef). slice_get cs place) (sym kept) ∙ there in
            subst (λ (p : Path). Leads (now ∷ picked.others) (place ∷ p) child.number) (sym same_path) (lead_same (place ∷ s.path) child.number (stands.children place child was));
      }

  pub slot_changed : AreSlots after class (now ∷ picked.others)
  slot_changed = record {
    rooted = record {
      cell = tree.rooted.cell;
      here = same (class_head_ref class).number (λ e. head_no_slot before class slots tree s one (sym e)) ∙ tree.rooted.here;
      kind = tree.rooted.kind;
      root = lead_same [] (class_head_in tree.rooted.cell).root.number tree.rooted.root;
    };
    each = λ t is. elim is [
      | inl it ↦ subst (IsSlotAt after (now ∷ picked.others)) it now_slot
      | inr other ↦
          let stands = tree.each t (picked.back t other) in
          record {
            some = stands.some;
            cell = stands.cell;
            here = same t.number (beside t other) ∙ stands.here;
            kind = stands.kind;
            fits = stands.fits;
            of_object = stands.of_object;
            newest = stands.newest;
            small = stands.small;
            ends = stands.ends;
            above = above_same t.path stands.above;
            children = λ place child there. lead_same (place ∷ t.path) child.number (stands.children place child there);
          }
    ];
    once = (
      λ within. own_parts.0 (subst (λ (n : ℕ). IsAmong (cells_of picked.others) n) same_number within),
      own_parts.1,
    );
    ids = λ t u first second ids. elim first [
      | inl it ↦ elim second [
        | inl its ↦ ap (λ (x : Slot). x.number) (sym it ∙ its)
        | inr later ↦ absurd (fresh u later (sym ids ∙ ap (λ (x : Slot). x.id) (sym it)))
      ]
      | inr other ↦ elim second [
        | inl its ↦ absurd (fresh t other (ids ∙ ap (λ (x : Slot). x.id) (sym its)))
        | inr later ↦ tree.ids t u (picked.back t other) (picked.back u later) ids
      ]
    ];
  }
