-- The text of an operation.
use Rattle.std.specs.Prelude.{ℕ, List, ◌++◌, codes, decimal, if◌then◌else◌}
use Rattle.rdb_literals.specs.Printed.{quoted, rect_text, row_text}
use Rattle.rdb_schema.specs.declared.schema.Schema.{Schema}
use Rattle.rdb_base.specs.declared.operation.Place.{Place}
use Rattle.rdb_base.specs.declared.operation.Place.TheVariants as place
use Rattle.rdb_base.specs.declared.operation.How.{How}
use Rattle.rdb_base.specs.declared.operation.How.TheVariants as how
use Rattle.rdb_base.specs.declared.operation.Op.{Op}
use Rattle.rdb_base.specs.declared.operation.Op.TheVariants as op
use Rattle.rdb_journal.specs.Names.{class_name, index_path, HasClass, HasIndex}

-- a place in an ordered index: before all keys, after all keys, or at a key and an id
abbrev pub place_text : Place → List ℕ
place_text place.Start = codes "start"
place_text place.End = codes "end"
place_text (place.At key id) = row_text key ++ codes " " ++ decimal id

-- the word for a way of looking a text up
abbrev pub how_text : How → List ℕ
how_text how.Exact = codes "exact"
how_text how.Longest = codes "longest"
how_text how.Starting = codes "starting"

-- the class that an operation is about
abbrev pub class_of : Op → ℕ
class_of (op.New class row id) = class
class_of (op.Get class id) = class
class_of (op.Put class id row) = class
class_of (op.Del class id) = class
class_of (op.Find class index key) = class
class_of (op.Seek class index place up) = class
class_of (op.Area class index rect inside) = class
class_of (op.Prefix class index text how) = class
class_of (op.Count class) = class

-- an operation: its word, its class or index, and what it is given
abbrev pub operation_text : Schema → Op → List ℕ
operation_text schema (op.New class row id) = codes "new " ++ class_name schema class ++ codes " " ++ row_text row
operation_text schema (op.Get class id) = codes "get " ++ class_name schema class ++ codes " " ++ decimal id
operation_text schema (op.Put class id row) =
    codes "put " ++ class_name schema class ++ codes " " ++ decimal id ++ codes " " ++ row_text row
operation_text schema (op.Del class id) = codes "del " ++ class_name schema class ++ codes " " ++ decimal id
operation_text schema (op.Find class index key) = codes "find " ++ index_path schema class index ++ codes " " ++ row_text key
operation_text schema (op.Seek class index place up) =
    codes "seek " ++ index_path schema class index ++ (if up then codes " up " else codes " down ") ++ place_text place
operation_text schema (op.Area class index rect inside) =
    codes "area " ++ index_path schema class index ++ (if inside then codes " inside " else codes " overlaps ") ++ rect_text rect
operation_text schema (op.Prefix class index text how) =
    codes "prefix " ++ index_path schema class index ++ codes " " ++ how_text how ++ codes " " ++ quoted text
operation_text schema (op.Count class) = codes "count " ++ class_name schema class

-- the class of the operation, and its index where it has one, are the schema's
abbrev pub OperationNamesExist : Schema → Op → Type 0
OperationNamesExist schema (op.New class row id) = HasClass schema class
OperationNamesExist schema (op.Get class id) = HasClass schema class
OperationNamesExist schema (op.Put class id row) = HasClass schema class
OperationNamesExist schema (op.Del class id) = HasClass schema class
OperationNamesExist schema (op.Find class index key) = HasIndex schema class index
OperationNamesExist schema (op.Seek class index place up) = HasIndex schema class index
OperationNamesExist schema (op.Area class index rect inside) = HasIndex schema class index
OperationNamesExist schema (op.Prefix class index text how) = HasIndex schema class index
OperationNamesExist schema (op.Count class) = HasClass schema class
