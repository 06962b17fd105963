-- The node of a tree, as it is read from its cell and written to it.
use Rattle.std.proofs.Common.{◌≡◌, ◌≢◌, ◌≤◌, ◌<◌, ◌+◌, ◌-◌, ◌++◌, zero, suc, ℕ, List, [], ◌∷◌, length, take, drop, map, get_or, Option, Some, None, IsSome, refl, sym, ap, ap₂, subst, ◌∙◌, arith, rules, inl, inr}
use Rattle.std.proofs.Permutation.{which}
use Rattle.std.proofs.lemmas.List.{take_at, append_assoc, set_at, map_more, take_more, drop_more, length-map}
use Rattle.std.specs.Option.{option_and_then}
use Rattle.std.specs.Prelude.{replicate, set, unwrap_or}
use Rattle.rdb_base.specs.declared.value.Rect.{Rect}
use Rattle.rdb_pages.specs.declared.cell.Cell.{Cell}
use Rattle.rdb_pages.specs.declared.cell.CellRef.{CellRef}
use Rattle.rdb_cells.specs.declared.formats.rtree.RtreeNode.{RtreeNode}
use Rattle.rdb_cells.specs.Images.{Image, IsCell}
use Rattle.rdb_cells.specs.Keys.{Version, Meaning, Sayings, HasBox, ForVersion, box_of}
use Rattle.rdb_cells.specs.RtreeFormat.{rtree_node_cell, rtree_node_in}
use Rattle.rdb_cells.specs.Words.{no_ref}
use Rattle.rdb_cells.specs.Work.{Work, reading}
use Rattle.rdb_cells.proofs.FormatLemmas.{rtree_node_back}
use Rattle.rdb_cells.proofs.WorkLemmas.{put_reads}
use Rattle.rdb_rtree.specs.Boxes.{Each}
use Rattle.rdb_rtree.specs.Changes.{with_cell, entries_above}
use Rattle.rdb_rtree.specs.Standing.{IsEntryAt, IsTreeAt, IsKeyedAt}
use Rattle.rdb_rtree.specs.Trees.{Node, RTree, place, box, box_at, no_box, entry_of, node_with, node_of, IsNodeAt, Stands, IsShaped, least_entries}
use Rattle.rdb_rtree.specs.declared.entry.Entry.{Entry}
use Rattle.rdb_rtree.proofs.ListLemmas.{taken_at, got_middle, each_back, map_both}

pub cell_there : (image : Image) (n : ℕ) (cell : Cell) → image n ≡ Some cell → IsCell image n
cell_there image n cell here = subst (λ (o : Option Cell). IsSome o) (sym here) (search rules)

-- what is a cell stays one
pub still_cell : (w : Work) (at : CellRef) (cell : Cell) (n : ℕ) → IsCell (reading w) n → IsCell (reading (with_cell w at cell)) n
still_cell w at cell n there = elim (which n at.number) [
  | inl same ↦ subst (λ (m : ℕ). IsCell (reading (with_cell w at cell)) m) (sym same) (cell_there (reading (with_cell w at cell)) at.number cell (put_reads w at cell).here)
  | inr other ↦ subst (λ (o : Option Cell). IsSome o) (sym ((put_reads w at cell).elsewhere n other)) there
]

pub one_cell : (image : Image) (n : ℕ) (c d : Cell) → image n ≡ Some c → image n ≡ Some d → c ≡ d
one_cell image n c d is also = let same = sym is ∙ also in cc

-- the entries of a node are those that it was made with
pub refs_back : (level : ℕ) (cover : Rect) (refs : List CellRef) → take (length refs) (node_with level cover refs).entries ≡ refs
refs_back level cover refs = take_at refs (replicate (11 - length refs) no_ref) (length refs) refl

-- where the entries of trees stand, and their boxes
pub places_of : (said : Sayings) (h : ℕ) (ts : List (RTree h)) → map (λ (e : Entry). e.at) (entries_above said h ts) ≡ map (place h) ts
places_of said h [] = refl
places_of said h (t ∷ ts) = ap (λ (rs : List CellRef). place h t ∷ rs) (places_of said h ts)

pub covers_of : (said : Sayings) (h : ℕ) (ts : List (RTree h)) → map (λ (e : Entry). e.cover) (entries_above said h ts) ≡ map (box said h) ts
covers_of said h [] = refl
covers_of said h (t ∷ ts) = ap (λ (bs : List Rect). box said h t ∷ bs) (covers_of said h ts)

-- the node of a tree
module _ (image : Image) (at : CellRef) (level h : ℕ) (t : Node (RTree h)) (is : IsTreeAt image at level h t) where
  pub tree_node : IsNodeAt image at (node_of h t)
  tree_node = subst (λ (r : CellRef). IsNodeAt image r (node_of h t)) is.at_is is.stands.0

  pub tree_cell : IsCell image at.number
  tree_cell = cell_there image at.number (rtree_node_cell (node_of h t)) tree_node.here

  module _ (node : RtreeNode) (read : (n : RtreeNode) → IsNodeAt image at n → node ≡ n) where
    pub tree_read : node ≡ node_of h t
    tree_read = read (node_of h t) tree_node

    pub tree_few : node.count ≤ 11
    tree_few = subst (λ (n : RtreeNode). n.count ≤ 11) (sym tree_read) tree_node.proper.count

    pub tree_refs : take node.count node.entries ≡ map (place h) t.below
    tree_refs = ap (λ (n : RtreeNode). take n.count n.entries) tree_read ∙ take_at (map (place h) t.below) (replicate (11 - length (map (place h) t.below)) no_ref) (length (map (place h) t.below)) refl

-- a box that is some version's
pub some_box : (o : Option Version) (own : Rect) → option_and_then (λ (v : Version). box_of v.key) o ≡ Some own → (v : Version) × (o ≡ Some v) × (box_of v.key ≡ Some own)
some_box None own is = absurd (cc)
some_box (Some v) own is = (v, refl, is)

-- the box of an entry
module _ (keys : Meaning) (said : Sayings) (image : Image) (at : CellRef) (level : ℕ) where
  pub entry_box : (h : ℕ) (t : RTree h) → IsEntryAt keys said image at level h t → level ≡ 0 → HasBox keys image at
  entry_box zero t is leaf =
      let v = some_box (said.version_of t.number) is.shaped.own is.shaped.is in (
        v.0,
        sym (is.says at.number) ∙ ap (λ (r : CellRef). said.version_of r.number) (sym is.at_is) ∙ v.1,
        subst (λ (o : Option Rect). IsSome o) (sym v.2) (search rules),
      )
  entry_box (suc h) t is leaf = absurd (let same = is.level_is in omega arith)

  pub entry_read : (h : ℕ) (t : RTree h) → IsEntryAt keys said image at level h t → level ≡ 0 → (r : Rect) → ForVersion keys image at (λ v. box_of v.key ≡ Some r) → r ≡ box said h t
  entry_read zero t is leaf r told =
      let v = some_box (said.version_of t.number) is.shaped.own is.shaped.is in
      let read = told v.0 (sym (is.says at.number) ∙ ap (λ (q : CellRef). said.version_of q.number) (sym is.at_is) ∙ v.1) in
      let here : box_at said t ≡ Some r = is.shaped.is ∙ sym v.2 ∙ read in
      sym (ap (λ (o : Option Rect). unwrap_or o no_box) here)
  entry_read (suc h) t is leaf r told = absurd (let same = is.level_is in omega arith)

  pub entry_cell : (h : ℕ) (t : RTree h) → IsEntryAt keys said image at level h t → level ≢ 0 → IsCell image at.number
  entry_cell zero t is inner = absurd (inner is.level_is)
  entry_cell (suc h) t is inner = subst (λ (r : CellRef). IsCell image r.number) is.at_is (cell_there image t.at.number (rtree_node_cell (node_of h t)) is.stands.0.here)

  pub entry_cover : (h : ℕ) (t : RTree h) → IsEntryAt keys said image at level h t → level ≢ 0 → (cell : Cell) → image at.number ≡ Some cell → (rtree_node_in cell).cover ≡ box said h t
  entry_cover zero t is inner cell here = absurd (inner is.level_is)
  entry_cover (suc h) t is inner cell here =
      let same = one_cell image at.number cell (rtree_node_cell (node_of h t)) here (subst (λ (r : CellRef). image r.number ≡ Some (rtree_node_cell (node_of h t))) is.at_is is.stands.0.here) in
      ap (λ (c : Cell). (rtree_node_in c).cover) same ∙ ap (λ (n : RtreeNode). n.cover) (rtree_node_back (node_of h t) is.stands.0.proper)

-- one of the trees below a node, at a place
pub record IsBelow (keys : Meaning) (said : Sayings) (image : Image) (level h : ℕ) (ts : List (RTree h)) (i : ℕ) (r : CellRef) : Type 0 where
  pub one : RTree h
  pub is : IsEntryAt keys said image r level h one
  pub taken : take (i + 1) ts ≡ take i ts ++ one ∷ []
  pub left : drop i ts ≡ one ∷ drop (i + 1) ts

module _ (keys : Meaning) (said : Sayings) (image : Image) (at : CellRef) (level h : ℕ) (t : Node (RTree h)) (is : IsKeyedAt keys said image at level h t) where
  pub below_at : (refs : List CellRef) → refs ≡ map (place h) t.below → (i : ℕ) (d : CellRef) → i < length refs → IsBelow keys said image level h t.below i (get_or refs i d)
  below_at refs same i d below =
      let many = ap (length {A = CellRef}) same ∙ length-map t.below (place h) in
      let low : i < length t.below = omega arith in
      let here = taken_at t.below i low in
      let one_is : get_or t.below i here.one ≡ here.one = ap (λ (ts : List (RTree h)). get_or ts i here.one) here.is ∙ got_middle here.front here.one here.back i here.one here.many in
      let stand = (each_back (Stands h image) here.front (here.one ∷ here.back) (subst (Each (Stands h image)) here.is is.tree.stands.1)).0 in
      let shape = (each_back (IsShaped said h least_entries) here.front (here.one ∷ here.back) (subst (Each (IsShaped said h least_entries)) here.is is.shaped)).0 in
      let shown : get_or refs i d ≡ place h here.one =
      ap (λ (rs : List CellRef). get_or rs i d) (same ∙ ap (map (place h)) here.is ∙ map_both (place h) here.front (here.one ∷ here.back))
      ∙ got_middle (map (place h) here.front) (place h here.one) (map (place h) here.back) i d (length-map here.front (place h) ∙ here.many) in
      record {
        one = here.one;
        is = record { at_is = sym shown; level_is = is.tree.level_is; says = is.says; stands = stand; shaped = shape };
        taken = take_more t.below i here.one low ∙ ap (λ (u : RTree h). take i t.below ++ u ∷ []) one_is;
        left = drop_more t.below i here.one low ∙ ap (λ (u : RTree h). u ∷ drop (i + 1) t.below) one_is;
      }

-- the step of a loop that reads entries
pub read_one : (said : Sayings) (h : ℕ) (ts : List (RTree h)) (i : ℕ) (one : RTree h) (was now : List Entry) (e : Entry) → take (i + 1) ts ≡ take i ts ++ one ∷ [] → was ≡ entries_above said h (take i ts) → now ≡ was ++ e ∷ [] → e ≡ entry_of said h one → now ≡ entries_above said h (take (i + 1) ts)
read_one said h ts i one was now e taken so_far pushed is =
    pushed
    ∙ ap₂ (λ (es : List Entry) (x : Entry). es ++ x ∷ []) so_far is
    ∙ sym (map_both (entry_of said h) (take i ts) (one ∷ []))
    ∙ sym (ap (entries_above said h) taken)

-- the step of a loop that writes references into places that are blank
pub written_one : (front : List CellRef) (i : ℕ) (r : CellRef) → length front ≡ i → i < 11 → set (front ++ replicate (11 - i) no_ref) i r ≡ (front ++ r ∷ []) ++ replicate (11 - (i + 1)) no_ref
written_one front i r many below =
    let more : 11 - i ≡ suc (11 - (i + 1)) = omega arith in
    ap (λ (n : ℕ). set (front ++ replicate n no_ref) i r) more
    ∙ set_at front no_ref (replicate (11 - (i + 1)) no_ref) r i many
    ∙ sym (append_assoc front (r ∷ []) (replicate (11 - (i + 1)) no_ref))

pub refs_step : (entries : List Entry) (i : ℕ) (d : Entry) (refs : List CellRef) → i < length entries → length entries ≤ 11 → refs ≡ map (λ (e : Entry). e.at) (take i entries) ++ replicate (11 - i) no_ref → set refs i (get_or entries i d).at ≡ map (λ (e : Entry). e.at) (take (i + 1) entries) ++ replicate (11 - (i + 1)) no_ref
refs_step entries i d refs below few so_far =
    let long = length-map (take i entries) (λ (e : Entry). e.at) in
    let part = taken_many entries i (omega arith) in
    ap (λ (rs : List CellRef). set rs i (get_or entries i d).at) so_far
    ∙ written_one (map (λ (e : Entry). e.at) (take i entries)) i (get_or entries i d).at (omega arith) (omega arith)
    ∙ ap (λ (rs : List CellRef). rs ++ replicate (11 - (i + 1)) no_ref) (sym (map_more (λ (e : Entry). e.at) entries i d below))
  where
    taken_many : (es : List Entry) (n : ℕ) → n ≤ length es → length (take n es) ≡ n
    taken_many es zero low = refl
    taken_many [] (suc n) low = absurd (omega arith)
    taken_many (e ∷ es) (suc n) low = ap suc (taken_many es n (omega arith))
