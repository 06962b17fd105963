-- Which operations fit a schema, and which databases.
use Rattle.std.specs.Prelude.{ℕ, Bool, true, false, ◌&&◌, nat_lt, nat_le, int_le, List, length, slice_get, IsTrue}
use Rattle.std.specs.List.{All}
use Rattle.std.specs.Option.{option_map_or}
use Rattle.rdb_base.specs.declared.limits.TheConstants.{MAX_ROW, MAX_TEXT}
use Rattle.rdb_base.specs.declared.identity.Kind.{Kind}
use Rattle.rdb_base.specs.declared.identity.Kind.TheVariants as kind
use Rattle.rdb_base.specs.declared.operation.Op.{Op}
use Rattle.rdb_base.specs.declared.operation.Op.TheVariants as op
use Rattle.rdb_base.specs.declared.operation.Reply.{Reply}
use Rattle.rdb_base.specs.declared.operation.Place.{Place}
use Rattle.rdb_base.specs.declared.operation.Place.TheVariants as place
use Rattle.rdb_schema.specs.declared.schema.IndexKind.{IndexKind}
use Rattle.rdb_schema.specs.declared.schema.Schema.{Schema}
use Rattle.rdb_schema.specs.Indexes.{indexes_of, key_fields, finds_keys, is_tree, is_rtree, is_patricia}
use Rattle.rdb_schema.specs.Values.{values_hold, row_holds, row_length}
use Rattle.rdb_model.specs.Database.{Row}

-- whether a schema has a class of that number
abbrev pub has_class : Schema → ℕ → Bool
has_class schema class = nat_lt class (length schema.classes)

-- whether a row is one of the class, and its encoding isn't too long
abbrev pub fits_row : Schema → ℕ → Row → Bool
fits_row schema class row = row_holds schema class row && nat_le (row_length schema class row) MAX_ROW

-- whether a key has the index's key fields' types
abbrev pub fits_key : Schema → ℕ → ℕ → Row → Bool
fits_key schema class index key = values_hold schema (key_fields schema class index) key

-- whether a class has an index of that number whose kind passes a test
abbrev pub has_index : Schema → ℕ → ℕ → (IndexKind → Bool) → Bool
has_index schema class index passes = option_map_or (λ i. passes i.kind) (slice_get (indexes_of schema class) index) false

-- whether a kind of transaction may write
abbrev pub may_write : Kind → Bool
may_write kind.ReadWrite = true
may_write kind.ReadOnly = false

-- whether a place's key fits
abbrev pub fits_place : Schema → ℕ → ℕ → Place → Bool
fits_place schema class index place.Start = true
fits_place schema class index place.End = true
fits_place schema class index (place.At key id) = fits_key schema class index key

-- whether an operation fits the schema and the kind of its transaction: its numbers, types, key's shape, index's kind and lengths,
-- and no write in a transaction that only reads
abbrev pub fits : Schema → Op → Kind → Bool
fits schema (op.New class row id) kind = may_write kind && fits_row schema class row
fits schema (op.Get class id) kind = has_class schema class
fits schema (op.Put class id row) kind = may_write kind && fits_row schema class row
fits schema (op.Del class id) kind = may_write kind && has_class schema class
fits schema (op.Find class index key) kind = has_index schema class index finds_keys && fits_key schema class index key
fits schema (op.Seek class index from up) kind = has_index schema class index is_tree && fits_place schema class index from
fits schema (op.Area class index rect inside) kind =
    has_index schema class index is_rtree && (int_le rect.x1 rect.x2 && int_le rect.y1 rect.y2)
fits schema (op.Prefix class index text way) kind = has_index schema class index is_patricia && nat_le (length text) MAX_TEXT
fits schema (op.Count class) kind = has_class schema class

-- that an operation fits
abbrev pub Fits : Schema → Op → Kind → Type 0
Fits schema op kind = IsTrue (fits schema op kind)

-- that each of the operations fits
abbrev pub AllFit : Schema → Kind → List (Op × Reply) → Type 0
AllFit schema kind done = All (λ d. Fits schema d.0 kind) done
