-- A node written above trees that stand.
use Rattle.std.proofs.Common.{◌≡◌, ◌≤◌, ◌+◌, ◌++◌, suc, ℕ, List, [], ◌∷◌, length, map, Some, refl, sym, ap, ap₂, subst, ◌∙◌, arith}
use Rattle.std.proofs.lemmas.List.{append_assoc, length-map}
use Rattle.std.specs.List.{flat_map}
use Rattle.std.specs.Prelude.{IsPermutation}
use Rattle.rdb_base.specs.declared.value.Rect.{Rect}
use Rattle.rdb_pages.specs.declared.cell.CellRef.{CellRef}
use Rattle.rdb_cells.specs.declared.formats.rtree.RtreeNode.{RtreeNode}
use Rattle.rdb_cells.specs.declared.kind.Kind.TheVariants as kind
use Rattle.rdb_cells.specs.Images.{Image}
use Rattle.rdb_cells.specs.Keys.{Sayings}
use Rattle.rdb_cells.specs.Links.{IsAmong}
use Rattle.rdb_cells.specs.RtreeFormat.{IsRtreeNode, rtree_node_cell}
use Rattle.rdb_cells.specs.Words.{HasKind}
use Rattle.rdb_rtree.specs.Boxes.{Each, IsLeastCover}
use Rattle.rdb_rtree.specs.Changes.{cell_of, cells_below, versions_below, entries_above}
use Rattle.rdb_rtree.specs.RtreeLaws.{node_kind}
use Rattle.rdb_rtree.specs.Trees.{RTree, place, box, cells, versions, node_with, Stands, IsShaped, least_entries}
use Rattle.rdb_rtree.specs.declared.entry.Entry.{Entry}
use Rattle.rdb_rtree.proofs.CountLemmas.{count, count_append, count_among, among_count, listed, listed_append, flat_times}
use Rattle.rdb_rtree.proofs.NodeLemmas.{places_of, covers_of}

module _ (said : Sayings) (level h : ℕ) (ts : List (RTree h)) (entries : List Entry) (cover : Rect) (low : level ≡ h) (are : entries ≡ entries_above said h ts) where
  same_node : node_with level cover (map (λ (e : Entry). e.at) entries) ≡ node_with h cover (map (place h) ts)
  same_node = ap₂ (λ (l : ℕ) (rs : List CellRef). node_with l cover rs) low (ap (map (λ (e : Entry). e.at)) are ∙ places_of said h ts)

  -- it stands
  pub written_stands : (image : Image) (at : CellRef) → IsRtreeNode (node_with level cover (map (λ (e : Entry). e.at) entries)) → image at.number ≡ Some (cell_of level cover entries) → Each (Stands h image) ts → Stands (suc h) image (record { at = at; cover = cover; below = ts })
  written_stands image at proper here stand = (
    record { proper = subst IsRtreeNode same_node proper; here = here ∙ ap (λ (n : RtreeNode). Some (rtree_node_cell n)) same_node },
    stand,
  )

  -- and has its shape
  pub written_shaped : (at : CellRef) (least : ℕ) → least ≤ length ts → IsLeastCover (map (λ (e : Entry). e.cover) entries) cover → Each (IsShaped said h least_entries) ts → IsShaped said (suc h) least (record { at = at; cover = cover; below = ts })
  written_shaped at least enough covers shaped = (
    record {
      enough = (let many = length-map ts (box said h) in omega arith);
      covers = subst (λ (bs : List Rect). IsLeastCover bs cover) (ap (map (λ (e : Entry). e.cover)) are ∙ covers_of said h ts) covers;
    },
    shaped,
  )

-- the cell of a node is one
pub written_kind : (image : Image) (n level : ℕ) (cover : Rect) (entries : List Entry) → image n ≡ Some (cell_of level cover entries) → HasKind image kind.RtreeNode n
written_kind image n level cover entries here = (cell_of level cover entries, here, node_kind (node_with level cover (map (λ (e : Entry). e.at) entries)))

-- trees side by side
pub flat_both : {X Y : Type 0} (f : X → List Y) (xs ys : List X) → flat_map f (xs ++ ys) ≡ flat_map f xs ++ flat_map f ys
flat_both f [] ys = refl
flat_both {Y = Y} f (x ∷ xs) ys = ap (λ (zs : List Y). f x ++ zs) (flat_both f xs ys) ∙ sym (append_assoc (f x) (flat_map f xs) (flat_map f ys))

module _ (h : ℕ) where
  pub count_both : (n : ℕ) (ts us : List (RTree h)) → count n (cells_below h (ts ++ us)) ≡ count n (cells_below h ts) + count n (cells_below h us)
  count_both n ts us = ap (count n) (flat_both (cells h) ts us) ∙ count_append n (cells_below h ts) (cells_below h us)

  pub listed_both : (k : ℕ) (ts us : List (RTree h)) → listed k (versions_below h (ts ++ us)) ≡ listed k (versions_below h ts) + listed k (versions_below h us)
  listed_both k ts us = ap (listed k) (flat_both (versions h) ts us) ∙ listed_append k (versions_below h ts) (versions_below h us)

  pub count_ordered : (n : ℕ) (ts us : List (RTree h)) → IsPermutation ts us → count n (cells_below h ts) ≡ count n (cells_below h us)
  count_ordered n ts us order = flat_times (λ (m : ℕ). m) n (cells h) ts us order

  pub listed_ordered : (k : ℕ) (ts us : List (RTree h)) → IsPermutation ts us → listed k (versions_below h ts) ≡ listed k (versions_below h us)
  listed_ordered k ts us order = flat_times (λ (r : CellRef). r.number) k (versions h) ts us order

  -- the cells of a part are among those of all
  pub in_first : (ts xs ys : List (RTree h)) → IsPermutation ts (xs ++ ys) → (n : ℕ) → IsAmong (cells_below h xs) n → IsAmong (cells_below h ts) n
  in_first ts xs ys order n within =
      let one = among_count (cells_below h xs) n within in
      let same = count_ordered n ts (xs ++ ys) order in
      let both = count_both n xs ys in
      count_among (cells_below h ts) n (omega arith)

  pub in_second : (ts xs ys : List (RTree h)) → IsPermutation ts (xs ++ ys) → (n : ℕ) → IsAmong (cells_below h ys) n → IsAmong (cells_below h ts) n
  in_second ts xs ys order n within =
      let one = among_count (cells_below h ys) n within in
      let same = count_ordered n ts (xs ++ ys) order in
      let both = count_both n xs ys in
      count_among (cells_below h ts) n (omega arith)
