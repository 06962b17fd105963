-- How many cells and versions a tree has for its height.
use Rattle.std.proofs.Common.{◌≡◌, ◌≤◌, ◌<◌, ◌+◌, ◌*◌, ◌^◌, zero, suc, ℕ, List, [], ◌∷◌, length, length-append, map, inl, inr, refl, sym, ap, subst, arith}
use Rattle.std.proofs.lemmas.Bool.{cases_lt}
use Rattle.std.proofs.lemmas.List.{append-nil}
use Rattle.std.proofs.Math.Nat.{mul-le-mul_left, pow-le-pow_right, pow-suc}
use Rattle.std.specs.List.{flat_map}
use Rattle.rdb_pages.specs.declared.cell.CellRef.{CellRef}
use Rattle.rdb_cells.specs.Images.{Image}
use Rattle.rdb_cells.specs.Keys.{Sayings}
use Rattle.rdb_cells.specs.Links.{IsAmong, AreOnce}
use Rattle.rdb_cells.specs.References.{IsPageCell}
use Rattle.rdb_cells.proofs.LinkLemmas.{few_below}
use Rattle.rdb_tree.specs.Nature.{IsTree, IsSound, IsRootedAt, most_levels}
use Rattle.rdb_tree.specs.Order.{AreKeyed}
use Rattle.rdb_tree.specs.Trees.{BTree, Each, Tree, Empty, Rooted, woven, versions, versions_of, cells, cells_of, levels_of, root_of, IsShaped, IsBTree, least_keys, AreLevels}
use Rattle.rdb_tree.proofs.WovenLemmas.{length_map}

each_map : {X Y : Type 0} (P : Y → Type 0) (f : X → Y) (xs : List X) → Each (λ x. P (f x)) xs → Each P (map f xs)
each_map P f [] each = tt
each_map P f (x ∷ xs) each = (each.0, each_map P f xs each.1)

each_so : {X : Type 0} (P Q : X → Type 0) → ((x : X) → P x → Q x) → (xs : List X) → Each P xs → Each Q xs
each_so P Q so [] each = tt
each_so P Q so (x ∷ xs) each = (so x each.0, each_so P Q so xs each.1)

-- keys woven with one part more than keys, each of which has at least so many versions less one
many_woven : (m : ℕ) (keys : List CellRef) (parts : List (List CellRef)) → length parts ≡ length keys + 1 → Each (λ p. m ≤ length p + 1) parts → m * length parts ≤ length (woven keys parts) + 1
many_woven m [] [] same each = absurd (omega arith)
many_woven m [] (p ∷ []) same each =
    let end = ap (length {A = CellRef}) (append-nil p) in
    let first = each.0 in
    omega arith
many_woven m [] (p ∷ q ∷ ps) same each = absurd (omega arith)
many_woven m (k ∷ ks) [] same each = absurd (omega arith)
many_woven m (k ∷ ks) (p ∷ ps) same each =
    let rest = many_woven m ks ps (omega arith) each.1 in
    let first = each.0 in
    let long = length-append p (k ∷ woven ks ps) in
    omega arith

many_flat : (m h : ℕ) (ts : List (BTree h)) → Each (λ t. m ≤ length (cells h t)) ts → m * length ts ≤ length (flat_map (cells h) ts)
many_flat m h [] each = omega arith
many_flat m h (t ∷ ts) each =
    let rest = many_flat m h ts each.1 in
    let first = each.0 in
    let long = length-append (cells h t) (flat_map (cells h) ts) in
    omega arith

-- a node that isn't the root has at least so many versions and cells below it
pub many_versions : (h : ℕ) (t : BTree h) → IsShaped h least_keys t → 4 ^ suc h ≤ length (versions h t) + 1
many_versions zero t shape = let enough = shape.enough in omega arith
many_versions (suc h) t shape =
    let m = 4 ^ suc h in
    let parts = map (versions h) t.children in
    let each = each_map (λ (p : List CellRef). 4 ^ suc h ≤ length p + 1) (versions h) t.children (each_so (IsShaped h least_keys) (λ (c : BTree h). 4 ^ suc h ≤ length (versions h c) + 1) (many_versions h) t.children shape.2) in
    let long = length_map (versions h) t.children in
    let same = shape.1 in
    let enough = shape.0.enough in
    let four : 4 ≤ length parts = omega arith in
    let more = mul-le-mul_left (4 ^ suc h) four in
    let woven_long = many_woven (4 ^ suc h) t.keys parts (omega arith) each in
    let power = pow-suc 4 (suc h) in
    omega arith

pub many_cells : (h : ℕ) (t : BTree h) → IsShaped h least_keys t → 4 ^ h ≤ length (cells h t)
many_cells zero t shape = omega arith
many_cells (suc h) t shape =
    let each = each_so (IsShaped h least_keys) (λ (c : BTree h). 4 ^ h ≤ length (cells h c)) (many_cells h) t.children shape.2 in
    let same = shape.1 in
    let enough = shape.0.enough in
    let four : 4 ≤ length t.children = omega arith in
    let more = mul-le-mul_left (4 ^ h) four in
    let flat = many_flat (4 ^ h) h t.children each in
    let power = pow-suc 4 h in
    omega arith

-- the root has at least two children, if any
pub root_versions : (h : ℕ) (t : BTree h) → IsShaped h 1 t → 2 * 4 ^ h ≤ length (versions h t) + 1
root_versions zero t shape = let enough = shape.enough in omega arith
root_versions (suc h) t shape =
    let parts = map (versions h) t.children in
    let each = each_map (λ (p : List CellRef). 4 ^ suc h ≤ length p + 1) (versions h) t.children (each_so (IsShaped h least_keys) (λ (c : BTree h). 4 ^ suc h ≤ length (versions h c) + 1) (many_versions h) t.children shape.2) in
    let long = length_map (versions h) t.children in
    let same = shape.1 in
    let enough = shape.0.enough in
    let two : 2 ≤ length parts = omega arith in
    let more = mul-le-mul_left (4 ^ suc h) two in
    let woven_long = many_woven (4 ^ suc h) t.keys parts (omega arith) each in
    omega arith

root_cells : (h : ℕ) (t : BTree (suc h)) → IsShaped (suc h) 1 t → 2 * 4 ^ h ≤ length (cells (suc h) t)
root_cells h t shape =
    let each = each_so (IsShaped h least_keys) (λ (c : BTree h). 4 ^ h ≤ length (cells h c)) (many_cells h) t.children shape.2 in
    let same = shape.1 in
    let enough = shape.0.enough in
    let two : 2 ≤ length t.children = omega arith in
    let more = mul-le-mul_left (4 ^ h) two in
    let flat = many_flat (4 ^ h) h t.children each in
    omega arith

pub are_levels : (tree : Tree) → IsBTree tree → AreLevels (levels_of tree) (length (versions_of tree))
are_levels Empty shape = refl
are_levels (Rooted h t) shape = root_versions h t shape

-- no tree in page cells has more levels than this
few_pages : (ns : List ℕ) → AreOnce ns → ((n : ℕ) → IsAmong ns n → IsPageCell n) → length ns ≤ 1048577
few_pages ns once paged = few_below 1048577 ns once (λ n within. let page = (paged n within).1 in omega arith)

low_enough : (h : ℕ) → 2 * 4 ^ h ≤ 1048577 → suc (suc h) ≤ 11
low_enough h few = elim (cases_lt h 10) [
  | inl below ↦ omega arith
  | inr above ↦ absurd (
      let four : 0 < 4 = omega arith in
      let more : 4 ^ 10 ≤ 4 ^ h = pow-le-pow_right four above in
      let ten : 4 ^ 10 ≡ 1048576 = refl in
      omega arith)
]

pub few_levels : (tree : Tree) → IsBTree tree → AreOnce (cells_of tree) → ((n : ℕ) → IsAmong (cells_of tree) n → IsPageCell n) → levels_of tree ≤ most_levels
few_levels Empty shape once paged = omega arith
few_levels (Rooted zero t) shape once paged = omega arith
few_levels (Rooted (suc h) t) shape once paged =
    let few = few_pages (cells (suc h) t) once paged in
    let many = root_cells h t shape in
    low_enough h (omega arith)

-- the tree of an index
module _ (head : ℕ) (said : Sayings) (image : Image) (listed : List CellRef) (nodes : List ℕ) (is : IsTree head said image listed nodes) where
  pub tree_sound : IsSound said image is.tree
  tree_sound = record {
    stands = is.stands;
    shape = is.shape;
    paged = λ n within. is.paged n (subst (λ (ns : List ℕ). IsAmong ns n) (sym is.nodes_are) within);
    keyed = subst (AreKeyed said) is.listed_is (record { keyed = is.listing.keyed; ascending = is.ascending });
  }

  pub tree_rooted : (root : CellRef) → root_of is.tree ≡ root → IsRootedAt said image root is.tree
  tree_rooted root same = record {
    sound = tree_sound;
    root = same;
    levels = few_levels is.tree is.shape (subst AreOnce is.nodes_are is.once) tree_sound.paged;
  }
