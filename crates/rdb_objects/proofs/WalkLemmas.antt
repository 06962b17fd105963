-- Walks down the tree: towards an id, and to a leaf.
use Rattle.std.proofs.Common.{◌≡◌, ◌≢◌, ◌<◌, ◌≤◌, ◌+◌, ◌*◌, ◌/◌, ◌%◌, ◌^◌, ◌⊎◌, ◌++◌, ℕ, List, [], ◌∷◌, length, slice_get, Option, Some, IsSome, inl, inr, refl, sym, ap, subst, ◌∙◌, arith, rules}
use Rattle.std.proofs.lemmas.List.{append-nil}
use Rattle.std.proofs.Permutation.{which}
use Rattle.std.specs.Option.{option_map_or}
use Rattle.rdb_pages.specs.declared.cell.Cell.{Cell}
use Rattle.rdb_pages.specs.declared.cell.CellRef.{CellRef}
use Rattle.rdb_cells.specs.HeadFormat.{class_head_in}
use Rattle.rdb_cells.specs.Images.{Image, IsCell}
use Rattle.rdb_cells.specs.ObjectFormat.{slot_in, slot_children}
use Rattle.rdb_cells.specs.References.{class_head_ref}
use Rattle.rdb_cells.specs.Words.{no_ref, ref_in}
use Rattle.rdb_cells.proofs.FormatLemmas.{child_there}
use Rattle.rdb_objects.specs.declared.tree.Spot.{Spot}
use Rattle.rdb_objects.specs.Slots.{Path, Slot, ending, IsOneOf, HasSlot, Leads, HasAbove, AreSlots}
use Rattle.rdb_objects.specs.Walks.{IsSpot, IsFound, IsLeafBelow, IsChildAt, HasNoChildBelow}
use Rattle.rdb_objects.proofs.TreeLemmas.{same_cell, same_path, ancestor, depth, led_slot, no_slot, ending_append, ending_one, ending_all}

-- how far a walk towards an id has come
pub record IsSought (slots : List Slot) (id count digits : ℕ) (spot : Spot) : Type 0 where
  pub path : Path
  pub is_spot : IsSpot slots path spot
  pub long : length path ≡ count
  pub within : count < 23
  pub ends : id ≡ ending path digits
  pub toward : (s : Slot) → IsOneOf slots s → s.id ≡ id → (down : Path) × (s.path ≡ down ++ path)

-- a way down is none, or begins with a place
pub first_step : (down path : Path) → (down ≡ []) ⊎ ((more : Path) × (place : ℕ) × (down ++ path ≡ more ++ place ∷ path))
first_step [] path = inl refl
first_step (place ∷ down) path = inr (further place down path)
  where
    further : (place : ℕ) (down path : Path) → (more : Path) × (last : ℕ) × (place ∷ (down ++ path) ≡ more ++ last ∷ path)
    further place [] path = ([], place, refl)
    further place (next ∷ down) path = let rest = further next down path in (place ∷ rest.0, rest.1, ap (λ (p : Path). place ∷ p) rest.2)

module _ (image : Image) (class : ℕ) (slots : List Slot) (tree : AreSlots image class slots) where
  pub head_cell : IsCell image (class_head_ref class).number
  head_cell = subst (λ (o : Option Cell). IsSome o) (sym tree.rooted.here) (search rules)

  abbrev pub sought_first : (id : ℕ) (cell : Cell) (root : CellRef) (spot : Spot) → image (class_head_ref class).number ≡ Some cell → (class_head_in cell).root ≡ root → spot.slot ≡ root → spot.above.number ≡ 0 → IsSought slots id 0 id spot
  sought_first id cell root spot here is at above = record {
    path = [];
    is_spot = record {
      leads =
          let same = same_cell image (class_head_ref class).number tree.rooted.cell cell tree.rooted.here here in
          let to : (class_head_in tree.rooted.cell).root.number ≡ spot.slot.number = ap (λ (c : Cell). (class_head_in c).root.number) same ∙ ap (λ (r : CellRef). r.number) (is ∙ sym at) in
          subst (λ (n : ℕ). Leads slots [] n) to tree.rooted.root;
      led_to = above;
    };
    long = refl;
    within = omega arith;
    ends = refl;
    toward = λ s one same. (s.path, sym (append-nil s.path));
  }

  -- the slot at a spot
  pub spot_slot : (path : Path) (spot : Spot) → IsSpot slots path spot → spot.slot.number ≢ 0 → HasSlot slots path spot.slot.number
  spot_slot path spot is some = led_slot image class slots tree path spot.slot.number some is.leads

  pub slot_cell_there : (path : Path) (n : ℕ) → HasSlot slots path n → IsCell image n
  slot_cell_there path n has =
      subst (λ (o : Option Cell). IsSome o) (sym (ap image (sym has.numbered) ∙ (tree.each has.slot has.one).here)) (search rules)

  -- what was read from a slot's cell
  module _ (path : Path) (n : ℕ) (has : HasSlot slots path n) (cell : Cell) (here : image n ≡ Some cell) where
    pub read_slot : (tree.each has.slot has.one).cell ≡ cell
    read_slot = same_cell image has.slot.number (tree.each has.slot has.one).cell cell (tree.each has.slot has.one).here (ap image has.numbered ∙ here)

    pub read_id : (slot_in cell).id ≡ has.slot.id
    read_id = ap (λ (c : Cell). (slot_in c).id) (sym read_slot) ∙ (tree.each has.slot has.one).of_object

    pub read_child : (place : ℕ) (child : CellRef) → slice_get (slot_in cell).children place ≡ Some child → Leads slots (place ∷ path) child.number
    read_child place child is =
        let there : slice_get (slot_in (tree.each has.slot has.one).cell).children place ≡ Some child = ap (λ (c : Cell). slice_get (slot_in c).children place) read_slot ∙ is in
        subst (λ (p : Path). Leads slots (place ∷ p) child.number) has.there ((tree.each has.slot has.one).children place child there)

  module _ (id count digits : ℕ) (spot : Spot) (so_far : IsSought slots id count digits spot) where
    pub sought_none : spot.slot.number ≡ 0 → IsFound slots id spot
    sought_none none = record {
      path = so_far.path;
      is_spot = so_far.is_spot;
      ends = (digits, so_far.ends);
      found = inl (
        none,
        λ s one same.
            let way = so_far.toward s one same in
            let above = ancestor image class slots tree way.0 so_far.path s one way.1 in
            no_slot image class slots tree so_far.path (subst (λ (n : ℕ). Leads slots so_far.path n) none so_far.is_spot.leads) above.0 above.1 above.2,
      );
    }

    module _ (some : spot.slot.number ≢ 0) where
      pub sought_has : HasSlot slots so_far.path spot.slot.number
      sought_has = spot_slot so_far.path spot so_far.is_spot some

      pub sought_there : IsCell image spot.slot.number
      sought_there = slot_cell_there so_far.path spot.slot.number sought_has

      module _ (cell : Cell) (here : image spot.slot.number ≡ Some cell) where
        pub sought_found : (slot_in cell).id ≡ id → IsFound slots id spot
        sought_found is = record {
          path = so_far.path;
          is_spot = so_far.is_spot;
          ends = (digits, so_far.ends);
          found = inr (sought_has.slot, sought_has.one, sought_has.there, sought_has.numbered, sym (read_id so_far.path spot.slot.number sought_has cell here) ∙ is);
        }

        module _ (other : (slot_in cell).id ≢ id) where
          pub differs : sought_has.slot.id ≢ id
          differs same = other (read_id so_far.path spot.slot.number sought_has cell here ∙ same)

          -- at the 23rd slot the id is the one that is sought
          pub short : id < 2 ^ 64 → count < 22
          short small =
              let within = so_far.within in
              let at_most : (count ≡ 22) → ⊥ = λ full.
              let stands = tree.each sought_has.slot sought_has.one in
              let long : length so_far.path ≡ 22 = so_far.long ∙ full in
              let mine : sought_has.slot.id ≡ ending so_far.path stands.ends.0 = stands.ends.1 ∙ ap (λ (p : Path). ending p stands.ends.0) sought_has.there in
              let first = ending_all so_far.path sought_has.slot.id stands.ends.0 long stands.small mine in
              let second = ending_all so_far.path id digits long small so_far.ends in
              differs (mine ∙ ap (ending so_far.path) (first ∙ sym second) ∙ sym so_far.ends) in
              by_cases count within at_most
            where
              by_cases : (n : ℕ) → n < 23 → ((n ≡ 22) → ⊥) → n < 22
              by_cases n within apart = omega arith

          -- a slot of the id below is below the child at the next digit
          pub next_toward : (s : Slot) → IsOneOf slots s → s.id ≡ id → (down : Path) × (s.path ≡ down ++ (digits % 8) ∷ so_far.path)
          next_toward s one same =
              let way = so_far.toward s one same in
              elim (first_step way.0 so_far.path) [
                | inl none ↦
                    let at : s.path ≡ so_far.path = way.1 ∙ ap (λ (d : Path). d ++ so_far.path) none in
                    let it = same_path image class slots tree s sought_has.slot one sought_has.one (at ∙ sym sought_has.there) in
                    absurd (differs (sym (ap (λ (x : Slot). x.id) it) ∙ same))
                | inr step ↦
                    let path = so_far.path in
                    let at : s.path ≡ step.0 ++ step.1 ∷ path = way.1 ∙ step.2 in
                    let stands = tree.each s one in
                    let above = ancestor image class slots tree step.0 (step.1 ∷ path) s one at in
                    let below = (subst (HasAbove slots) above.2 (tree.each above.0 above.1).above).0 in
                    let whole : ending path digits ≡ ending path (step.1 + slot_children * ending step.0 stands.ends.0) =
                    sym so_far.ends ∙ sym same ∙ stands.ends.1 ∙ ap (λ (p : Path). ending p stands.ends.0) at ∙ ending_append step.0 (step.1 ∷ path) stands.ends.0 in
                    let rest = ending_one path digits (step.1 + slot_children * ending step.0 stands.ends.0) whole in
                    let digit : step.1 ≡ digits % 8 = digit_is step.1 (ending step.0 stands.ends.0) digits below rest in
                    (step.0, at ∙ ap (λ (d : ℕ). step.0 ++ d ∷ path) digit)
              ]
            where
              digit_is : (place others all : ℕ) → place < 8 → all ≡ place + 8 * others → place ≡ all % 8
              digit_is place others all below whole = omega arith

          abbrev pub sought_more : id < 2 ^ 64 → (next : Spot) → slice_get (slot_in cell).children (digits % 8) ≡ Some next.slot → next.above ≡ spot.slot → next.place ≡ digits % 8 → IsSought slots id (count + 1) (digits / 8) next
          sought_more small next child above at =
              let more = short small in
              record {
                path = digits % 8 ∷ so_far.path;
                is_spot = record {
                  leads = read_child so_far.path spot.slot.number sought_has cell here (digits % 8) next.slot child;
                  led_to = (at, omega arith, subst (λ (n : ℕ). HasSlot slots so_far.path n) (sym (ap (λ (r : CellRef). r.number) above)) sought_has);
                };
                long = (let long = so_far.long in omega arith);
                within = omega arith;
                ends =
                    let whole : digits ≡ digits % 8 + 8 * (digits / 8) = omega arith in
                    so_far.ends ∙ ap (ending so_far.path) whole;
                toward = next_toward;
              }

-- the places before one and that one
pub no_child_more : (cell : Cell) (end : ℕ) (child : CellRef) → HasNoChildBelow cell end → slice_get (slot_in cell).children end ≡ Some child → child ≡ no_ref → HasNoChildBelow cell (end + 1)
no_child_more cell end child before is none place other below there = elim (which place end) [
  | inl same ↦
      let both : Some other ≡ Some child = sym there ∙ ap (slice_get (slot_in cell).children) same ∙ is in
      ap (λ (o : Option CellRef). option_map_or (λ r. r) o other) both ∙ none
  | inr apart ↦ before place other (omega arith) there
]

-- how far a walk down from a slot has come
pub record IsDescended (slots : List Slot) (path : Path) (count : ℕ) (spot : Spot) : Type 0 where
  pub down : Path
  pub is_spot : IsSpot slots (down ++ path) spot
  pub there : spot.slot.number ≢ 0
  pub many : count ≤ length (down ++ path)

module _ (image : Image) (class : ℕ) (slots : List Slot) (tree : AreSlots image class slots) (path : Path) where
  pub descended_first : (spot : Spot) → IsSpot slots path spot → spot.slot.number ≢ 0 → IsDescended slots path 0 spot
  descended_first spot is some = record { down = []; is_spot = is; there = some; many = omega arith }

  module _ (count : ℕ) (spot : Spot) (so_far : IsDescended slots path count spot) where
    pub descended_has : HasSlot slots (so_far.down ++ path) spot.slot.number
    descended_has = spot_slot image class slots tree (so_far.down ++ path) spot so_far.is_spot so_far.there

    pub descended_there : IsCell image spot.slot.number
    descended_there = slot_cell_there image class slots tree (so_far.down ++ path) spot.slot.number descended_has

    pub descended_short : count < 23
    descended_short =
        let most = depth image class slots tree (so_far.down ++ path) descended_has.slot descended_has.one descended_has.there in
        let many = so_far.many in
        omega arith

    module _ (cell : Cell) (here : image spot.slot.number ≡ Some cell) where
      pub descended_leaf : HasNoChildBelow cell slot_children → IsLeafBelow slots path spot
      descended_leaf none = record {
        down = so_far.down;
        is_spot = so_far.is_spot;
        there = so_far.there;
        leaf = λ s one place at.
            let above = subst (HasAbove slots) at (tree.each s one).above in
            let child = child_there cell place above.0 in
            let leads = read_child image class slots tree (so_far.down ++ path) spot.slot.number descended_has cell here place (ref_in cell (4 + place)) child in
            let zero_ref = none place (ref_in cell (4 + place)) above.0 child in
            no_slot image class slots tree (place ∷ (so_far.down ++ path)) (subst (λ (n : ℕ). Leads slots (place ∷ (so_far.down ++ path)) n) (ap (λ (r : CellRef). r.number) zero_ref) leads) s one at;
      }

      pub descended_more : (place : ℕ) (next : Spot) → place < slot_children → slice_get (slot_in cell).children place ≡ Some next.slot → IsChildAt cell place → next.above ≡ spot.slot → next.place ≡ place → IsDescended slots path (count + 1) next
      descended_more place next below child is above at = record {
        down = place ∷ so_far.down;
        is_spot = record {
          leads = read_child image class slots tree (so_far.down ++ path) spot.slot.number descended_has cell here place next.slot child;
          led_to = (at, below, subst (λ (n : ℕ). HasSlot slots (so_far.down ++ path) n) (sym (ap (λ (r : CellRef). r.number) above)) descended_has);
        };
        there = λ none.
            let both : Some next.slot ≡ Some is.0 = sym child ∙ is.1 in
            let same : next.slot ≡ is.0 = ap (λ (o : Option CellRef). option_map_or (λ r. r) o next.slot) both in
            is.2 (sym same ∙ ref_is next.slot 0 none);
        many = (let many = so_far.many in omega arith);
      }
        where
          ref_is : (r : CellRef) (n : ℕ) → r.number ≡ n → r ≡ record { number = n }
          ref_is r n same = λ i. record { number = same i }
