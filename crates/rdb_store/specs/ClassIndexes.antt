-- The indexes of a class, whatever their kinds: what each is, and that it meets the laws of an index. No tactic stands here.
use Rattle.std.specs.Prelude.{◌≡◌, ℕ}
use Rattle.rdb_schema.specs.declared.schema.IndexKind.{IndexKind}
use Rattle.rdb_schema.specs.declared.schema.IndexKind.TheVariants as index_kind
use Rattle.rdb_cells.specs.Index.{Nature, StartsEmpty, ListsOnce, HasIndexCells, HasFewNodes, RestsOnNodes}
use Rattle.rdb_cells.specs.References.{index_head_ref}
use Rattle.rdb_hash.specs.Shape.{hash_nature}
use Rattle.rdb_hash.specs.HashLaws.{hash_starts_empty, hash_lists_once, hash_has_index_cells, hash_has_few_nodes, hash_rests_on_nodes}
use Rattle.rdb_tree.specs.Nature.{tree_nature}
use Rattle.rdb_tree.specs.TreeLaws.{tree_starts_empty, tree_lists_once, tree_has_index_cells, tree_has_few_nodes, tree_rests_on_nodes}
use Rattle.rdb_store.specs.declared.class_index.ClassIndex.{ClassIndex}
use Rattle.rdb_store.specs.declared.class_index.ClassIndex.TheVariants.{Hash, Tree}

abbrev pub index_nature : ClassIndex → Nature
index_nature (Hash hash) = hash_nature hash.class hash.head.number
index_nature (Tree tree) = tree_nature tree.class tree.head.number

abbrev pub kind_of : ClassIndex → IndexKind
kind_of (Hash hash) = index_kind.Hash
kind_of (Tree tree) = index_kind.Tree

-- the index is the one at a place among those of a class
abbrev pub IsAt : ℕ → ℕ → ClassIndex → Type 0
IsAt class place (Hash hash) = (hash.class ≡ class) × (hash.head ≡ index_head_ref class place)
IsAt class place (Tree tree) = (tree.class ≡ class) × (tree.head ≡ index_head_ref class place)

pub starts_empty : (index : ClassIndex) → StartsEmpty (index_nature index)
starts_empty (Hash hash) = hash_starts_empty hash.class hash.head.number
starts_empty (Tree tree) = tree_starts_empty tree.class tree.head.number

pub lists_once : (index : ClassIndex) → ListsOnce (index_nature index)
lists_once (Hash hash) = hash_lists_once hash.class hash.head.number
lists_once (Tree tree) = tree_lists_once tree.class tree.head.number

pub has_index_cells : (index : ClassIndex) → HasIndexCells (index_nature index)
has_index_cells (Hash hash) = hash_has_index_cells hash.class hash.head.number
has_index_cells (Tree tree) = tree_has_index_cells tree.class tree.head.number

pub has_few_nodes : (index : ClassIndex) → HasFewNodes (index_nature index)
has_few_nodes (Hash hash) = hash_has_few_nodes hash.class hash.head.number
has_few_nodes (Tree tree) = tree_has_few_nodes tree.class tree.head.number

pub rests_on_nodes : (index : ClassIndex) → RestsOnNodes (index_nature index)
rests_on_nodes (Hash hash) = hash_rests_on_nodes hash.class hash.head.number
rests_on_nodes (Tree tree) = tree_rests_on_nodes tree.class tree.head.number
