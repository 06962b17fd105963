-- How many free cells a version takes at most in an index of each kind.
use Rattle.std.specs.Prelude.{ℕ}

-- a hash index: an entry, and a table cell
abbrev pub hash_part : ℕ
hash_part = 2

-- a B-tree or an R-tree: a node for each level, and a new root
abbrev pub tree_part : ℕ
tree_part = 12

abbrev pub rtree_part : ℕ
rtree_part = 12

-- a Patricia tree: an entry, and a branch
abbrev pub patricia_part : ℕ
patricia_part = 2
