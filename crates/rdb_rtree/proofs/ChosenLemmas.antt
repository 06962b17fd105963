-- The tree that was chosen among those below a node, as an entry that was taken out of the node's.
use Rattle.std.proofs.Common.{◌≡◌, ◌≢◌, ◌≤◌, ◌<◌, ◌-◌, ◌*◌, ◌^◌, ◌++◌, zero, suc, ℕ, List, ◌∷◌, length, get_or, sym, ap, subst, ◌∙◌, arith}
use Rattle.std.proofs.lemmas.List.{length-map}
use Rattle.std.specs.List.{remove}
use Rattle.rdb_pages.specs.declared.cell.CellRef.{CellRef}
use Rattle.rdb_cells.specs.Images.{Image}
use Rattle.rdb_cells.specs.Keys.{Meaning, Sayings}
use Rattle.rdb_cells.specs.Work.{Work, reading, HasLeft}
use Rattle.rdb_rtree.specs.Changes.{CanTake, HasPlaces, entries_above, IsToSettle, AreSettled, IsGrowing, HasGrown}
use Rattle.rdb_rtree.specs.Standing.{IsKeyedAt}
use Rattle.rdb_rtree.specs.Trees.{Node, RTree, place, entry_of}
use Rattle.rdb_rtree.specs.declared.entry.Entry.{Entry}
use Rattle.rdb_rtree.proofs.GrowLemmas.{child_growing, child_settles, mid_places, mid_take, grown_inner}
use Rattle.rdb_rtree.proofs.ListLemmas.{taken_at, removed_middle, got_middle, map_both}

-- how many entries a node has
pub as_many : (keys : Meaning) (said : Sayings) (image : Image) (at : CellRef) (level h : ℕ) (t : Node (RTree h)) → IsKeyedAt keys said image at level h t → (entries : List Entry) → entries ≡ entries_above said h t.below → length entries ≡ length t.below
as_many keys said image at level h t is entries are = ap (length {A = Entry}) are ∙ length-map t.below (entry_of said h)

pub few_entries : (keys : Meaning) (said : Sayings) (image : Image) (at : CellRef) (level h : ℕ) (t : Node (RTree h)) → IsKeyedAt keys said image at level h t → (entries : List Entry) → entries ≡ entries_above said h t.below → length entries ≤ 11
few_entries keys said image at level h t is entries are =
    let same = as_many keys said image at level h t is entries are in
    let few = is.tree.stands.0.proper.count in
    let many = length-map t.below (place h) in
    omega arith

pub low_level : (keys : Meaning) (said : Sayings) (image : Image) (at : CellRef) (level h : ℕ) (t : Node (RTree h)) → IsKeyedAt keys said image at level h t → level < 2 ^ 16
low_level keys said image at level h t is =
    let same = is.tree.level_is in
    let low = is.tree.stands.0.proper.level in
    omega arith

-- the tree of the entry, and those around it
pub record IsPick (said : Sayings) (h : ℕ) (ts : List (RTree h)) (chosen : Entry) (rest : List Entry) : Type 0 where
  pub front : List (RTree h)
  pub one : RTree h
  pub back : List (RTree h)
  pub split : ts ≡ front ++ one ∷ back
  pub chosen_is : chosen ≡ entry_of said h one
  pub rest_are : rest ≡ entries_above said h (front ++ back)

pub pick : (said : Sayings) (h : ℕ) (ts : List (RTree h)) (was rest : List Entry) (i : ℕ) (chosen : Entry) → i < length was → chosen ≡ get_or was i chosen → rest ≡ remove was i → was ≡ entries_above said h ts → IsPick said h ts chosen rest
pick said h ts was rest i chosen low value rest_is are =
    let many = ap (length {A = Entry}) are ∙ length-map ts (entry_of said h) in
    let here = taken_at ts i (omega arith) in
    let split_entries = are ∙ ap (entries_above said h) here.is ∙ map_both (entry_of said h) here.front (here.one ∷ here.back) in
    let place_is = length-map here.front (entry_of said h) ∙ here.many in
    record {
      front = here.front;
      one = here.one;
      back = here.back;
      split = here.is;
      chosen_is = value ∙ ap (λ (es : List Entry). get_or es i chosen) split_entries ∙ got_middle (entries_above said h here.front) (entry_of said h here.one) (entries_above said h here.back) i chosen place_is;
      rest_are =
          rest_is
          ∙ ap (λ (es : List Entry). remove es i) split_entries
          ∙ removed_middle (entries_above said h here.front) (entry_of said h here.one) (entries_above said h here.back) i place_is
          ∙ sym (map_both (entry_of said h) here.front here.back);
    }

module _ (keys : Meaning) (said : Sayings) (w : Work) (at : CellRef) (level : ℕ) (entry : Entry) (was rest : List Entry) (i : ℕ) (chosen : Entry) (inner : level ≢ 0) (low : i < length was) (value : chosen ≡ get_or was i chosen) (rest_is : rest ≡ remove was i) where
  pub pick_growing : (h : ℕ) (t : Node (RTree h)) → IsGrowing keys said (reading w) at level entry h t → was ≡ entries_above said h t.below → (k : ℕ) × (child : Node (RTree k)) × IsGrowing keys said (reading w) chosen.at (level - 1) entry k child
  pick_growing zero t is are = absurd (inner is.keyed.tree.level_is)
  pick_growing (suc k) t is are =
      let p = pick said (suc k) t.below was rest i chosen low value rest_is are in
      (k, p.one, child_growing keys said w at level entry k t is p.front p.back p.one p.split chosen p.chosen_is)

  module _ (mid : Work) (below : List Entry) (has : (k : ℕ) (child : Node (RTree k)) → IsGrowing keys said (reading w) chosen.at (level - 1) entry k child → HasGrown said w mid entry.at k child.below below) where
    pub pick_settles : (h : ℕ) (t : Node (RTree h)) → IsGrowing keys said (reading w) at level entry h t → was ≡ entries_above said h t.below → (k : ℕ) × (ts : List (RTree k)) × IsToSettle said mid chosen.at (level - 1) k ts below
    pick_settles zero t is are = absurd (inner is.keyed.tree.level_is)
    pick_settles (suc k) t is are =
        let p = pick said (suc k) t.below was rest i chosen low value rest_is are in
        let grown = has k p.one (child_growing keys said w at level entry k t is p.front p.back p.one p.split chosen p.chosen_is) in (
          k,
          grown.now,
          subst (λ (r : CellRef). IsToSettle said mid r (level - 1) k grown.now below) (sym (ap (λ (e : Entry). e.at) p.chosen_is))
              (child_settles keys said w at level entry k t is p.front p.back p.one p.split mid below grown (low_level keys said (reading w) at level (suc k) t is.keyed)),
        )

    pub pick_take : (h : ℕ) (t : Node (RTree h)) → IsGrowing keys said (reading w) at level entry h t → was ≡ entries_above said h t.below → HasLeft w level → CanTake mid
    pick_take zero t is are left = absurd (inner is.keyed.tree.level_is)
    pick_take (suc k) t is are left =
        let p = pick said (suc k) t.below was rest i chosen low value rest_is are in
        let grown = has k p.one (child_growing keys said w at level entry k t is p.front p.back p.one p.split chosen p.chosen_is) in
        mid_take keys said w at level entry k t is p.front p.back p.one p.split mid below grown left

    pub pick_places : (h : ℕ) (t : Node (RTree h)) → IsGrowing keys said (reading w) at level entry h t → was ≡ entries_above said h t.below → HasPlaces w (2 * level) → HasPlaces mid 2
    pick_places zero t is are room = absurd (inner is.keyed.tree.level_is)
    pick_places (suc k) t is are room =
        let p = pick said (suc k) t.below was rest i chosen low value rest_is are in
        let grown = has k p.one (child_growing keys said w at level entry k t is p.front p.back p.one p.split chosen p.chosen_is) in
        mid_places keys said w at level entry k t is p.front p.back p.one p.split mid below grown 0 room

    pub pick_grown : (after : Work) (now : List Entry) → ((k : ℕ) (ts : List (RTree k)) → IsToSettle said mid chosen.at (level - 1) k ts below → AreSettled said mid after chosen.at k ts rest now) → (h : ℕ) (t : Node (RTree h)) → IsGrowing keys said (reading w) at level entry h t → was ≡ entries_above said h t.below → HasGrown said w after entry.at h t.below now
    pick_grown after now settles zero t is are = absurd (inner is.keyed.tree.level_is)
    pick_grown after now settles (suc k) t is are =
        let p = pick said (suc k) t.below was rest i chosen low value rest_is are in
        let grown = has k p.one (child_growing keys said w at level entry k t is p.front p.back p.one p.split chosen p.chosen_is) in
        let at_is = sym (ap (λ (e : Entry). e.at) p.chosen_is) in
        let settled = settles k grown.now (subst (λ (r : CellRef). IsToSettle said mid r (level - 1) k grown.now below) at_is
        (child_settles keys said w at level entry k t is p.front p.back p.one p.split mid below grown (low_level keys said (reading w) at level (suc k) t is.keyed))) in
        grown_inner keys said w at level entry k t is p.front p.back p.one p.split mid below grown after rest now p.rest_are
        (subst (λ (r : CellRef). AreSettled said mid after r k grown.now rest now) (sym at_is) settled)
