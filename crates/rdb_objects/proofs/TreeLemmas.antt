-- The slots of a tree: which stand where, and what leads to them.
use Rattle.std.proofs.Common.{◌≡◌, ◌≢◌, ◌<◌, ◌≤◌, ◌+◌, ◌*◌, ◌^◌, ◌⊎◌, ◌++◌, suc, ℕ, List, [], ◌∷◌, length, slice_get, Option, Some, inl, inr, refl, sym, ap, subst, ◌∙◌, arith}
use Rattle.std.proofs.Math.Nat.{pow-succ'}
use Rattle.std.proofs.Permutation.{which}
use Rattle.std.specs.Option.{option_map_or}
use Rattle.rdb_pages.specs.declared.cell.Cell.{Cell}
use Rattle.rdb_pages.specs.declared.cell.CellRef.{CellRef}
use Rattle.rdb_cells.specs.Images.{Image}
use Rattle.rdb_cells.specs.Links.{IsAmong, AreOnce}
use Rattle.rdb_cells.specs.ObjectFormat.{slot_in, slot_children}
use Rattle.rdb_cells.specs.Words.{ref_in}
use Rattle.rdb_cells.proofs.FormatLemmas.{child_there}
use Rattle.rdb_objects.specs.Slots.{Path, Slot, ending, cells_of, IsOneOf, HasSlot, Leads, HasAbove, AreSlots}

-- what a cell holds is one thing
pub same_cell : (image : Image) (n : ℕ) (c d : Cell) → image n ≡ Some c → image n ≡ Some d → c ≡ d
same_cell image n c d is also = ap (λ (o : Option Cell). option_map_or (λ e. e) o c) (sym is ∙ also)

-- Slots among others
pub in_cells : (slots : List Slot) (s : Slot) → IsOneOf slots s → IsAmong (cells_of slots) s.number
in_cells [] s one = absurd one
in_cells (t ∷ ts) s (inl same) = inl (ap (λ (x : Slot). x.number) same)
in_cells (t ∷ ts) s (inr later) = inr (in_cells ts s later)

pub slot_in_cell : (slots : List Slot) (n : ℕ) → IsAmong (cells_of slots) n → (s : Slot) × IsOneOf slots s × (s.number ≡ n)
slot_in_cell [] n within = absurd within
slot_in_cell (t ∷ ts) n (inl same) = (t, inl refl, same)
slot_in_cell (t ∷ ts) n (inr later) = let rest = slot_in_cell ts n later in (rest.0, inr rest.1, rest.2)

-- no two slots stand in one cell
pub one_cell : (slots : List Slot) → AreOnce (cells_of slots) → (s t : Slot) → IsOneOf slots s → IsOneOf slots t → s.number ≡ t.number → s ≡ t
one_cell [] once s t one also same = absurd one
one_cell (x ∷ xs) once s t (inl here) (inl there) same = sym here ∙ there
one_cell (x ∷ xs) once s t (inl here) (inr there) same =
    absurd (once.0 (subst (λ (n : ℕ). IsAmong (cells_of xs) n) (sym same ∙ sym (ap (λ (y : Slot). y.number) here)) (in_cells xs t there)))
one_cell (x ∷ xs) once s t (inr there) (inl here) same =
    absurd (once.0 (subst (λ (n : ℕ). IsAmong (cells_of xs) n) (same ∙ sym (ap (λ (y : Slot). y.number) here)) (in_cells xs s there)))
one_cell (x ∷ xs) once s t (inr here) (inr there) same = one_cell xs once.1 s t here there same

-- a slot and the others
pub record Picked (slots : List Slot) (s : Slot) : Type 0 where
  pub others : List Slot
  pub split : (t : Slot) → IsOneOf slots t → (s ≡ t) ⊎ IsOneOf others t
  pub back : (t : Slot) → IsOneOf others t → IsOneOf slots t
  pub apart : AreOnce (cells_of slots) → (¬ IsAmong (cells_of others) s.number) × AreOnce (cells_of others)

pub pick : (slots : List Slot) (s : Slot) → IsOneOf slots s → Picked slots s
pick [] s one = absurd one
pick (t ∷ ts) s (inl same) = record {
  others = ts;
  split = λ u one. elim one [ inl here ↦ inl (sym same ∙ here) | inr later ↦ inr later ];
  back = λ u one. inr one;
  apart = λ once. (λ within. once.0 (subst (λ (n : ℕ). IsAmong (cells_of ts) n) (sym (ap (λ (y : Slot). y.number) same)) within), once.1);
}
pick (t ∷ ts) s (inr later) =
    let rest = pick ts s later in
    record {
      others = t ∷ rest.others;
      split = λ u one. elim one [
        | inl here ↦ inr (inl here)
        | inr there ↦ elim (rest.split u there) [ inl same ↦ inl same | inr other ↦ inr (inr other) ]
      ];
      back = λ u one. elim one [ inl here ↦ inl here | inr there ↦ inr (rest.back u there) ];
      apart = λ once.
          let parts = rest.apart once.1 in
          let beside : ¬ IsAmong (cells_of rest.others) t.number = λ within.
          let u = slot_in_cell rest.others t.number within in
          once.0 (subst (λ (n : ℕ). IsAmong (cells_of ts) n) u.2 (in_cells ts u.0 (rest.back u.0 u.1))) in (
            λ within. elim within [
              | inl same ↦ once.0 (subst (λ (n : ℕ). IsAmong (cells_of ts) n) (sym same) (in_cells ts s later))
              | inr other ↦ parts.0 other
            ],
            (beside, parts.1),
          );
    }

-- What leads to a path in one list of slots leads there in another with the same slots at the path.
pub leads_by : (xs ys : List Slot) (path : Path) (n : ℕ) → ((s : Slot) → IsOneOf xs s → s.path ≡ path → HasSlot ys path s.number) → ((t : Slot) → IsOneOf ys t → t.path ≡ path → HasSlot xs path t.number) → Leads xs path n → Leads ys path n
leads_by xs ys path n to back leads = record {
  there = elim leads.there [
    | inl none ↦ inl none
    | inr has ↦ inr (subst (λ (m : ℕ). HasSlot ys path m) has.numbered (to has.slot has.one has.there))
  ];
  only = λ t one at. let has = back t one at in sym has.numbered ∙ leads.only has.slot has.one has.there;
}

pub here_is : (slots : List Slot) (s : Slot) (path : Path) → IsOneOf slots s → s.path ≡ path → HasSlot slots path s.number
here_is slots s path one at = record { slot = s; one = one; there = at; numbered = refl }

-- The tree of a class
module _ (image : Image) (class : ℕ) (slots : List Slot) (tree : AreSlots image class slots) where
  -- the reference at a place of a slot's cell, and that it leads to the child
  pub child_of : (s : Slot) → IsOneOf slots s → ℕ → CellRef
  child_of s one place = ref_in (tree.each s one).cell (4 + place)

  pub child_leads : (s : Slot) (one : IsOneOf slots s) (place : ℕ) (child : CellRef) → place < slot_children → slice_get (slot_in (tree.each s one).cell).children place ≡ Some child → Leads slots (place ∷ s.path) child.number
  child_leads s one place child below is = (tree.each s one).children place child is

  some_child : (s : Slot) (one : IsOneOf slots s) (place : ℕ) → place < slot_children → (child : CellRef) × Leads slots (place ∷ s.path) child.number
  some_child s one place below =
      let child = ref_in (tree.each s one).cell (4 + place) in
      (child, (tree.each s one).children place child (child_there (tree.each s one).cell place below))

  -- one slot stands at a path
  pub one_path : (path : Path) (s t : Slot) → IsOneOf slots s → IsOneOf slots t → s.path ≡ path → t.path ≡ path → s.number ≡ t.number
  one_path [] s t one also at same = tree.rooted.root.only s one at ∙ sym (tree.rooted.root.only t also same)
  one_path (place ∷ path) s t one also at same =
      let above = subst (HasAbove slots) at (tree.each s one).above in
      let a = above.1.0 in
      let leads = (some_child a above.1.1 place above.0).1 in
      let to : place ∷ a.path ≡ place ∷ path = ap (λ (p : Path). place ∷ p) above.1.2 in
      leads.only s one (at ∙ sym to) ∙ sym (leads.only t also (same ∙ sym to))

  pub same_path : (s t : Slot) → IsOneOf slots s → IsOneOf slots t → s.path ≡ t.path → s ≡ t
  same_path s t one also same = one_cell slots tree.once s t one also (one_path t.path s t one also same refl)

  pub same_id : (s t : Slot) → IsOneOf slots s → IsOneOf slots t → s.id ≡ t.id → s ≡ t
  same_id s t one also same = one_cell slots tree.once s t one also (tree.ids s t one also same)

  -- above a slot stand slots at each part of its path
  pub ancestor : (down path : Path) (s : Slot) → IsOneOf slots s → s.path ≡ down ++ path → (t : Slot) × IsOneOf slots t × (t.path ≡ path)
  ancestor [] path s one at = (s, one, at)
  ancestor (place ∷ down) path s one at =
      let above = subst (HasAbove slots) at (tree.each s one).above in
      ancestor down path above.1.0 above.1.1 above.1.2

  -- the slot that a number leads to
  pub led_slot : (path : Path) (n : ℕ) → n ≢ 0 → Leads slots path n → HasSlot slots path n
  led_slot path n some leads = elim leads.there [ inl none ↦ absurd (some none) | inr has ↦ has ]

  pub no_slot : (path : Path) → Leads slots path 0 → (s : Slot) → IsOneOf slots s → ¬ (s.path ≡ path)
  no_slot path leads s one at = let none = leads.only s one at in let some = (tree.each s one).some in absurd (omega arith)

-- Paths and numbers
pub ending_append : (down path : Path) (others : ℕ) → ending (down ++ path) others ≡ ending path (ending down others)
ending_append [] path others = refl
ending_append (place ∷ down) path others = ending_append down path (place + slot_children * others)

pub ending_one : (path : Path) (a b : ℕ) → ending path a ≡ ending path b → a ≡ b
ending_one [] a b same = same
ending_one (place ∷ path) a b same = let e = ending_one path (place + slot_children * a) (place + slot_children * b) same in omega arith

-- the longer the path, the smaller the other digits
pub ending_small : (path : Path) (k others : ℕ) → ending path others < 8 ^ (length path + k) → others < 8 ^ k
ending_small [] k others below = let same : 0 + k ≡ k = omega arith in subst (λ (n : ℕ). others < 8 ^ n) same below
ending_small (place ∷ path) k others below =
    let same : suc (length path) + k ≡ length path + suc k = omega arith in
    let longer : ending path (place + slot_children * others) < 8 ^ (length path + suc k) = subst (λ (n : ℕ). ending path (place + slot_children * others) < 8 ^ n) same below in
    let rest = ending_small path (suc k) (place + slot_children * others) longer in
    let power = pow-succ' 8 k in
    omega arith

-- a path of 22 places gives all digits of an id
pub ending_all : (path : Path) (id others : ℕ) → length path ≡ 22 → id < 2 ^ 64 → id ≡ ending path others → others ≡ 0
ending_all path id others long small ends =
    let whole : length path + 0 ≡ 22 = omega arith in
    let wide : id < 8 ^ 22 = omega arith in
    let below : ending path others < 8 ^ (length path + 0) = subst (λ (n : ℕ). ending path others < 8 ^ n) (sym whole) (subst (λ (n : ℕ). n < 8 ^ 22) ends wide) in
    let none = ending_small path 0 others below in
    omega arith

module _ (image : Image) (class : ℕ) (slots : List Slot) (tree : AreSlots image class slots) where
  too_deep : (place : ℕ) (path : Path) (s a : Slot) → IsOneOf slots s → IsOneOf slots a → s.path ≡ place ∷ path → a.path ≡ path → length path ≡ 22 → ⊥
  too_deep place path s a one also at above long =
      let below = tree.each s one in
      let over = tree.each a also in
      let mine : s.id ≡ ending path (place + slot_children * below.ends.0) = below.ends.1 ∙ ap (λ (p : Path). ending p below.ends.0) at in
      let its : a.id ≡ ending path over.ends.0 = over.ends.1 ∙ ap (λ (p : Path). ending p over.ends.0) above in
      let first = ending_all path s.id (place + slot_children * below.ends.0) long below.small mine in
      let second = ending_all path a.id over.ends.0 long over.small its in
      let same = same_id image class slots tree s a one also (mine ∙ ap (ending path) (first ∙ sym second) ∙ sym its) in
      let paths : place ∷ path ≡ path = sym at ∙ ap (λ (x : Slot). x.path) same ∙ above in
      let lengths : suc (length path) ≡ length path = ap (λ (p : Path). length p) paths in
      absurd (omega arith)

  -- a slot has at most 22 places on its path
  pub depth : (path : Path) (s : Slot) → IsOneOf slots s → s.path ≡ path → length path ≤ 22
  depth [] s one at = omega arith
  depth (place ∷ path) s one at =
      let above = subst (HasAbove slots) at (tree.each s one).above in
      let shorter = depth path above.1.0 above.1.1 above.1.2 in
      elim (which (length path) 22) [
        | inl full ↦ absurd (too_deep place path s above.1.0 one above.1.1 at above.1.2 full)
        | inr apart ↦ omega arith
      ]
