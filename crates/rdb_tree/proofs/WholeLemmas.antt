-- The tree that a head leads to, or none.
use Rattle.std.proofs.Common.{◌≡◌, ◌≢◌, ℕ, List, [], sym, ap, ◌∙◌, arith}
use Rattle.rdb_pages.specs.declared.cell.CellRef.{CellRef}
use Rattle.rdb_cells.specs.Images.{Image}
use Rattle.rdb_cells.specs.Keys.{Sayings}
use Rattle.rdb_tree.specs.Nature.{IsTree, IsRootedAt}
use Rattle.rdb_tree.specs.Order.{AreKeyed}
use Rattle.rdb_tree.specs.Trees.{BTree, Tree, Empty, Rooted, IsTreeAt, versions, versions_of, root_of}
use Rattle.rdb_tree.proofs.LevelLemmas.{tree_sound, tree_rooted}
use Rattle.rdb_tree.proofs.SoughtLemmas.{empty_root}

-- the tree of a head, with its height and its versions
pub record IsWhole (said : Sayings) (image : Image) (listed : List CellRef) (at : CellRef) : Type 0 where
  pub h : ℕ
  pub t : BTree h
  pub is : IsTreeAt image at 12 h t
  pub keyed : AreKeyed said (versions h t)
  pub listed_is : listed ≡ versions h t

module _ (head : ℕ) (said : Sayings) (image : Image) (listed : List CellRef) (nodes : List ℕ) (is : IsTree head said image listed nodes) (at : CellRef) (root : root_of is.tree ≡ at) where
  whole_of : (tree : Tree) → IsRootedAt said image at tree → listed ≡ versions_of tree → at.number ≢ 0 → IsWhole said image listed at
  whole_of Empty rooted listed_is some = absurd (some (ap (λ (r : CellRef). r.number) (sym rooted.root)))
  whole_of (Rooted h t) rooted listed_is some = record {
    h = h;
    t = t;
    is = record { stands = rooted.sound.stands; shape = rooted.sound.shape; root = rooted.root; height = (let levels = rooted.levels in omega arith) };
    keyed = rooted.sound.keyed;
    listed_is = listed_is;
  }

  pub tree_at : at.number ≢ 0 → IsWhole said image listed at
  tree_at some = whole_of is.tree (tree_rooted head said image listed nodes is at root) is.listed_is some

  pub no_tree : at.number ≡ 0 → listed ≡ []
  no_tree none = is.listed_is ∙ ap versions_of (empty_root said image is.tree (tree_sound head said image listed nodes is) (ap (λ (r : CellRef). r.number) root ∙ none))
