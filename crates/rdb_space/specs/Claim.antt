-- How many cells an operation may take.
use Rattle.std.specs.Prelude.{ℕ, ◌+◌, ◌/◌, ◌<◌, length, sum_by}
use Rattle.rdb_base.specs.declared.operation.Op.{Op}
use Rattle.rdb_base.specs.declared.operation.Op.TheVariants as op
use Rattle.rdb_schema.specs.declared.schema.IndexKind.{IndexKind}
use Rattle.rdb_schema.specs.declared.schema.IndexKind.TheVariants.{Hash, Tree, Rtree, Patricia}
use Rattle.rdb_schema.specs.declared.schema.IndexDecl.{IndexDecl}
use Rattle.rdb_schema.specs.declared.schema.Schema.{Schema}
use Rattle.rdb_schema.specs.Indexes.{indexes_of}
use Rattle.rdb_cells.specs.Parts.{hash_part, tree_part, rtree_part, patricia_part}

-- the most cells that a version takes in an index of the kind
abbrev pub part_of_kind : IndexKind → ℕ
part_of_kind Hash = hash_part
part_of_kind Tree = tree_part
part_of_kind Rtree = rtree_part
part_of_kind Patricia = patricia_part

abbrev pub index_part : IndexDecl → ℕ
index_part index = part_of_kind index.kind

-- the cells of a row of so many bytes, 60 in each, the last one filled up
abbrev pub row_cells : ℕ → ℕ
row_cells bytes = (bytes + 59) / 60

-- the cells of the row, a header, a slot, and what the indexes may take
abbrev pub claim_of_row : Schema → ℕ → ℕ → ℕ
claim_of_row schema class bytes = row_cells bytes + 2 + sum_by index_part (indexes_of schema class)

-- An operation that makes a row claims what the row may take, and one that deletes an object the header of its tombstone.
abbrev pub claim_of : Schema → Op → ℕ → ℕ
claim_of schema (op.New class row id) bytes = claim_of_row schema class bytes
claim_of schema (op.Put class id row) bytes = claim_of_row schema class bytes
claim_of schema (op.Del class id) bytes = 1
claim_of schema _ bytes = 0

-- an operation that makes a row is one on a class of the schema
abbrev pub IsOfClass : Schema → Op → Type 0
IsOfClass schema (op.New class row id) = class < length schema.classes
IsOfClass schema (op.Put class id row) = class < length schema.classes
IsOfClass schema _ = Unit {0}
