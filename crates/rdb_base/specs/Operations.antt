-- What an operation names, and whether it writes.
use Rattle.std.specs.Prelude.{ℕ, Bool, true, false, Option, Some, None}
use Rattle.rdb_base.specs.declared.operation.Op.{Op}
use Rattle.rdb_base.specs.declared.operation.Op.TheVariants as op

-- the class that an operation is of
abbrev pub class_of : Op → ℕ
class_of (op.New class row id) = class
class_of (op.Get class id) = class
class_of (op.Put class id row) = class
class_of (op.Del class id) = class
class_of (op.Find class index key) = class
class_of (op.Seek class index place up) = class
class_of (op.Area class index rect inside) = class
class_of (op.Prefix class index text how) = class
class_of (op.Count class) = class

-- the index that an operation looks in, if it names one
abbrev pub index_named : Op → Option ℕ
index_named (op.Find class index key) = Some index
index_named (op.Seek class index place up) = Some index
index_named (op.Area class index rect inside) = Some index
index_named (op.Prefix class index text how) = Some index
index_named _ = None

-- whether an operation is of those that write
abbrev pub is_write : Op → Bool
is_write (op.New class row id) = true
is_write (op.Put class id row) = true
is_write (op.Del class id) = true
is_write _ = false
