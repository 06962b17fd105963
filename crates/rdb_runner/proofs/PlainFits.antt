-- A plain line's operation fits a plain schema, and its reply names nothing that the schema lacks.
use Rattle.std.proofs.Common.{◌≡◌, ℕ, true, length, Option, Some, None, refl, sym, ap, subst, lit<}
use Rattle.std.specs.Prelude.{IsTrue}
use Rattle.std.specs.Option.{option_map_or}
use Rattle.std.proofs.Math.ListN.{length-set}
use Rattle.rdb_base.specs.declared.identity.Kind.TheVariants as kind
use Rattle.rdb_base.specs.declared.operation.Op.{Op}
use Rattle.rdb_base.specs.declared.operation.Op.TheVariants as op
use Rattle.rdb_base.specs.declared.operation.Reply.TheVariants as reply
use Rattle.rdb_schema.specs.declared.schema.Class.{Class}
use Rattle.rdb_schema.specs.declared.schema.Schema.{Schema}
use Rattle.rdb_model.specs.Database.{Database, Row, row_of, objects_of}
use Rattle.rdb_model.specs.Answer.{answer}
use Rattle.rdb_model.specs.Fits.{Fits, fits_row}
use Rattle.rdb_journal.specs.Lines.{StepNamesExist}
use Rattle.rdb_runner.specs.PlainReport.{operation_of}
use Rattle.rdb_runner.specs.PlainSchema.{is_plain_schema}
use Rattle.rdb_runner.specs.Runs.{CanDo}
use Rattle.rdb_runner.proofs.PlainShape.{schema_of, plain_has_one, is_written}

-- the two operations of plain lines
pub by_op : (P : Op → Type 0) (schema : Schema) (asked : Op) → CanDo schema asked → ((row : Row) (id : ℕ) → IsTrue (fits_row schema 0 row) → P (op.New 0 row id)) → ((id : ℕ) → P (op.Get 0 id)) → P asked
by_op P schema (op.New class row id) can new get = subst (λ (k : ℕ). P (op.New k row id)) (sym can.0) (new row id can.1)
by_op P schema (op.Get class id) can new get = subst (λ (k : ℕ). P (op.Get k id)) (sym can) (get id)
by_op P schema (op.Put class id row) can new get = absurd can
by_op P schema (op.Del class id) can new get = absurd can
by_op P schema (op.Find class index key) can new get = absurd can
by_op P schema (op.Seek class index from up) can new get = absurd can
by_op P schema (op.Area class index rect inside) can new get = absurd can
by_op P schema (op.Prefix class index text way) can new get = absurd can
by_op P schema (op.Count class) can new get = absurd can

-- what holds of a schema that is written out holds of a plain one
pub by_shape : (P : Schema → Type 0) (schema : Schema) → is_plain_schema schema ≡ true → ((c : Class) → P (schema_of schema c)) → P schema
by_shape P schema plain all = let one = plain_has_one schema plain in subst P (sym (is_written schema one)) (all one.class)

-- each line's operation fits
pub step_fits : (schema : Schema) → is_plain_schema schema ≡ true → (made : ℕ) (asked : Op) → CanDo schema asked → Fits schema (operation_of made asked) kind.ReadWrite
step_fits schema plain made asked can = by_op (λ (a : Op). Fits schema (operation_of made a) kind.ReadWrite) schema asked can
    (λ row id fit. fit)
    (λ id. by_shape (λ (s : Schema). Fits s (op.Get 0 id) kind.ReadWrite) schema plain (λ c. refl))

-- there is one class
pub one_class : (schema : Schema) → is_plain_schema schema ≡ true → length schema.classes ≡ 1
one_class schema plain = ap length (plain_has_one schema plain).one

length_made : (s : Schema) (c : Class) (db : Database) (row : Row) (made : ℕ) → length (answer (schema_of s c) db (op.New 0 row made)).1 ≡ length db
length_made s c db row made = length-set db 0 _

-- an answer leaves as many classes as there were
pub length_after : (schema : Schema) → is_plain_schema schema ≡ true → (db : Database) (made : ℕ) (asked : Op) → CanDo schema asked → length (answer schema db (operation_of made asked)).1 ≡ length db
length_after schema plain db made asked can = by_op (λ (a : Op). length (answer schema db (operation_of made a)).1 ≡ length db) schema asked can
    (λ row id fit. by_shape (λ (s : Schema). length (answer s db (op.New 0 row made)).1 ≡ length db) schema plain (λ c. length_made schema c db row made))
    (λ id. by_shape (λ (s : Schema). length (answer s db (op.Get 0 id)).1 ≡ length db) schema plain (λ c. refl))

found_named : (s : Schema) (c : Class) (id : ℕ) (found : Option Row) → StepNamesExist (schema_of s c) (op.Get 0 id, option_map_or reply.Row found reply.NotFound)
found_named s c id None = (lit< tt, tt)
found_named s c id (Some row) = (lit< tt, tt)

made_named : (s : Schema) (c : Class) (db : Database) (row : Row) (made : ℕ) → StepNamesExist (schema_of s c) (op.New 0 row made, (answer (schema_of s c) db (op.New 0 row made)).0)
made_named s c db row made = (lit< tt, tt)

-- an operation and its answer name the one class alone
pub step_named : (schema : Schema) → is_plain_schema schema ≡ true → (db : Database) (made : ℕ) (asked : Op) → CanDo schema asked → StepNamesExist schema (operation_of made asked, (answer schema db (operation_of made asked)).0)
step_named schema plain db made asked can = by_op (λ (a : Op). StepNamesExist schema (operation_of made a, (answer schema db (operation_of made a)).0)) schema asked can
    (λ row id fit. by_shape (λ (s : Schema). StepNamesExist s (op.New 0 row made, (answer s db (op.New 0 row made)).0)) schema plain (λ c. made_named schema c db row made))
    (λ id. by_shape (λ (s : Schema). StepNamesExist s (op.Get 0 id, (answer s db (op.Get 0 id)).0)) schema plain (λ c. found_named schema c id (row_of (objects_of db 0) id)))
