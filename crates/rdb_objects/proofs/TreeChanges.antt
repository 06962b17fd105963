-- What writes make of a tree of slots: the link to a spot, a slot that comes, one that goes, one that has another object.
use Rattle.std.proofs.Common.{◌≡◌, ◌≢◌, ◌<◌, zero, suc, ℕ, List, [], ◌∷◌, length, slice_get, Option, Some, inl, inr, refl, sym, ap, subst, ◌∙◌, arith}
use Rattle.std.proofs.Permutation.{which}
use Rattle.std.specs.Option.{option_map_or}
use Rattle.std.specs.Prelude.{slice_set}
use Rattle.rdb_pages.specs.declared.cell.Cell.{Cell}
use Rattle.rdb_pages.specs.declared.cell.CellRef.{CellRef}
use Rattle.rdb_cells.specs.declared.formats.object.ObjectSlot.{ObjectSlot}
use Rattle.rdb_cells.specs.HeadFormat.{class_head_in}
use Rattle.rdb_cells.specs.Images.{Image}
use Rattle.rdb_cells.specs.ObjectFormat.{IsSlot, slot_in, slot_children}
use Rattle.rdb_cells.specs.References.{class_head_ref}
use Rattle.rdb_cells.specs.Words.{kind_number}
use Rattle.rdb_objects.specs.declared.tree.Spot.{Spot}
use Rattle.rdb_objects.specs.Slots.{Path, Slot, IsOneOf, HasSlot, Leads, HasAbove, IsSlotAt, IsRooted, AreSlots}
use Rattle.rdb_objects.specs.Walks.{IsLedTo, IsSpot, IsLink, LinksSlot}
use Rattle.rdb_objects.proofs.TreeLemmas.{same_cell, one_cell, one_path}

-- Lists of references
pub set_there : (xs : List CellRef) (i : ℕ) (v x : CellRef) → slice_get (slice_set xs i v) i ≡ Some x → x ≡ v
set_there [] i v x is = cc
set_there (y ∷ ys) zero v x is = ap (λ (o : Option CellRef). option_map_or (λ r. r) o x) (sym is)
set_there (y ∷ ys) (suc i) v x is = set_there ys i v x is

pub set_other : (xs : List CellRef) (i j : ℕ) (v : CellRef) → j ≢ i → slice_get (slice_set xs i v) j ≡ slice_get xs j
set_other [] i j v apart = refl
set_other (y ∷ ys) zero zero v apart = absurd (apart refl)
set_other (y ∷ ys) zero (suc j) v apart = refl
set_other (y ∷ ys) (suc i) zero v apart = refl
set_other (y ∷ ys) (suc i) (suc j) v apart = set_other ys i j v (λ same. apart (ap suc same))

pub set_length : (xs : List CellRef) (i : ℕ) (v : CellRef) → length (slice_set xs i v) ≡ length xs
set_length [] i v = refl
set_length (y ∷ ys) zero v = refl
set_length (y ∷ ys) (suc i) v = ap suc (set_length ys i v)

-- Paths
tail_of : Path → Path
tail_of [] = []
tail_of (place ∷ path) = path

pub no_longer : (place : ℕ) (path : Path) → ¬ (path ≡ place ∷ path)
no_longer place path same = let lengths : length path ≡ suc (length path) = ap (λ (p : Path). length p) same in absurd (omega arith)

pub same_tail : (a b : ℕ) (p q : Path) → a ∷ p ≡ b ∷ q → p ≡ q
unfolding tail_of
same_tail a b p q same = ap tail_of same

-- two kinds at one place are one
pub kinds_apart : (image : Image) (m n : ℕ) (c d : Cell) → image m ≡ Some c → image n ≡ Some d → kind_number c ≢ kind_number d → m ≢ n
kinds_apart image m n c d at also apart same = apart (ap kind_number (same_cell image n c d (ap image (sym same) ∙ at) also))

-- what leads to a spot that isn't the root's
pub upper_of : (slots : List Slot) (path : Path) (above : CellRef) (place : ℕ) → IsLedTo slots path above place → above.number ≢ 0 → (upper : Path) × (path ≡ place ∷ upper) × (place < slot_children) × HasSlot slots upper above.number
upper_of slots [] above place led some = absurd (some led)
upper_of slots (last ∷ path) above place led some = (path, ap (λ (k : ℕ). k ∷ path) (sym led.0), subst (λ (k : ℕ). k < slot_children) (sym led.0) led.1, led.2)

pub root_path : (image : Image) (class : ℕ) (slots : List Slot) (path : Path) (above : CellRef) (place : ℕ) → AreSlots image class slots → IsLedTo slots path above place → above.number ≡ 0 → path ≡ []
root_path image class slots [] above place tree led none = refl
root_path image class slots (last ∷ path) above place tree led none =
    let some = (tree.each led.2.slot led.2.one).some in
    let is = led.2.numbered in
    absurd (omega arith)

-- the slots above stay
pub above_by : (slots others : List Slot) (path : Path) → ((u : Slot) → IsOneOf slots u → (place : ℕ) → path ≡ place ∷ u.path → (v : Slot) × IsOneOf others v × (v.path ≡ u.path)) → HasAbove slots path → HasAbove others path
above_by slots others [] keep above = tt
above_by slots others (place ∷ path) keep above =
    let kept = keep above.1.0 above.1.1 place (ap (λ (p : Path). place ∷ p) (sym above.1.2)) in
    (above.0, (kept.0, kept.1, kept.2 ∙ above.1.2))

-- The link to a spot is written, and at most one other cell; the slots are others, but away from the spot the same ones stand.
module _ (before after : Image) (class : ℕ) (ss zs : List Slot) (tree : AreSlots before class ss)
    (path : Path) (spot : Spot) (is : IsSpot ss path spot)
    (m at : CellRef) (cell : Cell) (link : IsLink before class spot m at cell) (beside : ℕ)
    (wrote : after at.number ≡ Some cell) (same : (n : ℕ) → n ≢ at.number → n ≢ beside → after n ≡ before n)
    (lead : Leads zs path m.number) (elsewhere : (q : Path) (n : ℕ) → ¬ (q ≡ path) → Leads ss q n → Leads zs q n)
    (head_beside : (class_head_ref class).number ≢ beside) where
  head_apart : (t : Slot) (one : IsOneOf ss t) → t.number ≢ (class_head_ref class).number
  head_apart t one =
      let stands = tree.each t one in
      kinds_apart before t.number (class_head_ref class).number stands.cell tree.rooted.cell stands.here tree.rooted.here
      (λ e. let first = stands.kind in let second = tree.rooted.kind in absurd (omega arith))

  pub relinked_root : IsRooted after class zs
  relinked_root = elim link [
    | inl head ↦
        let none = root_path before class ss path spot.above spot.place tree is.led_to head.0 in
        record {
          cell = cell;
          here = ap (λ (r : CellRef). after r.number) (sym head.1) ∙ wrote;
          kind = head.2;
          root = subst (λ (p : Path). Leads zs p (class_head_in cell).root.number) none (subst (λ (r : CellRef). Leads zs path r.number) (sym head.3) lead);
        }
    | inr slot ↦
        let upper = upper_of ss path spot.above spot.place is.led_to slot.0 in
        let number : upper.3.slot.number ≡ at.number = upper.3.numbered ∙ ap (λ (r : CellRef). r.number) (sym slot.1) in
        let apart : (class_head_ref class).number ≢ at.number = λ e. head_apart upper.3.slot upper.3.one (number ∙ sym e) in
        record {
          cell = tree.rooted.cell;
          here = same (class_head_ref class).number apart head_beside ∙ tree.rooted.here;
          kind = tree.rooted.kind;
          root = elsewhere [] (class_head_in tree.rooted.cell).root.number (λ e. (let lengths : 0 ≡ suc (length upper.0) = ap (λ (p : Path). length p) (e ∙ upper.1) in absurd (omega arith))) tree.rooted.root;
        }
  ]

  module _ (t : Slot) (one : IsOneOf ss t) (t_beside : t.number ≢ beside) (above : HasAbove zs t.path) where
    -- a slot that isn't the one above the spot
    other_slot : t.number ≢ at.number → ((place : ℕ) → ¬ (place ∷ t.path ≡ path)) → IsSlotAt after zs t
    other_slot apart away =
        let stands = tree.each t one in
        record {
          some = stands.some;
          cell = stands.cell;
          here = same t.number apart t_beside ∙ stands.here;
          kind = stands.kind;
          fits = stands.fits;
          of_object = stands.of_object;
          newest = stands.newest;
          small = stands.small;
          ends = stands.ends;
          above = above;
          children = λ place child there. elsewhere (place ∷ t.path) child.number (away place) (stands.children place child there);
        }

    -- the slot above the spot
    upper_slot : t.number ≡ at.number → LinksSlot before spot m at cell → IsSlotAt after zs t
    upper_slot number slot =
        let stands = tree.each t one in
        let upper = upper_of ss path spot.above spot.place is.led_to slot.0 in
        let it : upper.3.slot ≡ t = one_cell ss tree.once upper.3.slot t upper.3.one one (upper.3.numbered ∙ ap (λ (r : CellRef). r.number) (sym slot.1) ∙ sym number) in
        let t_path : t.path ≡ upper.0 = ap (λ (x : Slot). x.path) (sym it) ∙ upper.3.there in
        let path_is : spot.place ∷ t.path ≡ path = ap (λ (p : Path). spot.place ∷ p) t_path ∙ sym upper.1 in
        let old = same_cell before at.number slot.3.0 stands.cell slot.3.1 (ap before (sym number) ∙ stands.here) in
        let says : slot_in cell ≡ record (slot_in stands.cell) { children = slice_set (slot_in stands.cell).children spot.place m } =
        subst (λ (c : Cell). slot_in cell ≡ record (slot_in c) { children = slice_set (slot_in c).children spot.place m }) old slot.3.2 in
        let long = set_length (slot_in stands.cell).children spot.place m in
        record {
          some = stands.some;
          cell = cell;
          here = ap after number ∙ wrote;
          kind = slot.2;
          fits = subst IsSlot (sym says) (long ∙ stands.fits.0, stands.fits.1);
          of_object = ap (λ (s : ObjectSlot). s.id) says ∙ stands.of_object;
          newest = ap (λ (s : ObjectSlot). s.newest) says ∙ stands.newest;
          small = stands.small;
          ends = stands.ends;
          above = above;
          children = λ place child there.
              let there_set : slice_get (slice_set (slot_in stands.cell).children spot.place m) place ≡ Some child = ap (λ (s : ObjectSlot). slice_get s.children place) (sym says) ∙ there in
              elim (which place spot.place) [
                | inl here ↦
                    let at_place : slice_get (slice_set (slot_in stands.cell).children spot.place m) spot.place ≡ Some child = ap (slice_get (slice_set (slot_in stands.cell).children spot.place m)) (sym here) ∙ there_set in
                    let is_m = set_there (slot_in stands.cell).children spot.place m child at_place in
                    let to : path ≡ place ∷ t.path = sym path_is ∙ ap (λ (k : ℕ). k ∷ t.path) (sym here) in
                    subst (λ (p : Path). Leads zs p child.number) to (subst (λ (r : CellRef). Leads zs path r.number) (sym is_m) lead)
                | inr apart ↦
                    let was = sym (set_other (slot_in stands.cell).children spot.place place m apart) ∙ there_set in
                    elsewhere (place ∷ t.path) child.number (λ e. apart (same_head place spot.place t.path t.path (e ∙ sym path_is))) (stands.children place child was)
              ];
        }
      where
        same_head : (a b : ℕ) (p q : Path) → a ∷ p ≡ b ∷ q → a ≡ b
        same_head a b p q e = cc

    pub relinked_slot : IsSlotAt after zs t
    relinked_slot = elim link [
      | inl head ↦
          let none = root_path before class ss path spot.above spot.place tree is.led_to head.0 in
          other_slot (λ e. head_apart t one (e ∙ ap (λ (r : CellRef). r.number) head.1))
          (λ place e. (let lengths : suc (length t.path) ≡ 0 = ap (λ (p : Path). length p) (e ∙ none) in absurd (omega arith)))
      | inr slot ↦ elim (which t.number at.number) [
        | inl here ↦ upper_slot here slot
        | inr apart ↦
            let upper = upper_of ss path spot.above spot.place is.led_to slot.0 in
            other_slot apart (λ place e.
            let tails = same_tail place spot.place t.path upper.0 (e ∙ upper.1) in
            apart (one_path before class ss tree upper.0 t upper.3.slot one upper.3.one tails upper.3.there ∙ upper.3.numbered ∙ ap (λ (r : CellRef). r.number) (sym slot.1)))
      ]
    ]
