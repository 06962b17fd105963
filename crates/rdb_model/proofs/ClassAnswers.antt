-- An answer as a matter of its class's objects alone.
use Rattle.std.proofs.Common.{◌≡◌, ℕ, false, length, Option, Some, None, is_none, refl, if◌then◌else◌}
use Rattle.std.specs.Option.{option_map_or}
use Rattle.rdb_base.specs.declared.operation.Op.{Op}
use Rattle.rdb_base.specs.declared.operation.Op.TheVariants as op
use Rattle.rdb_base.specs.declared.operation.Reply.{Reply}
use Rattle.rdb_base.specs.declared.operation.Reply.TheVariants as reply
use Rattle.rdb_schema.specs.declared.schema.Schema.{Schema}
use Rattle.rdb_model.specs.Database.{Row, Objects, Database, row_of, with_row, without, objects_of, with_objects}
use Rattle.rdb_schema.specs.Indexes.{indexes_of, fields_of}
use Rattle.rdb_model.specs.Index.{key, has_key, index}
use Rattle.rdb_model.specs.Answer.{ids_where, clash, sought, meets, words_of, longest_prefix, is_found, written, answer}
use Rattle.rdb_base.specs.Operations.{class_of}
use Rattle.rdb_model.proofs.Lacking.{told_at}

-- what a write is told, and the objects after it, if they change
abbrev pub local_write : Option (ℕ × ℕ) → Reply → Objects → Reply × Option Objects
local_write None told after = (told, Some after)
local_write (Some at) told after = (reply.Duplicate at.0 at.1, None)

abbrev pub local_put : Option Row → Option (ℕ × ℕ) → Objects → Reply × Option Objects
local_put before clash after = if is_none before then (reply.NotFound, None) else local_write clash reply.Done after

abbrev pub local_del : Option Row → Objects → Reply × Option Objects
local_del before after = if is_none before then (reply.NotFound, None) else (reply.Done, Some after)

-- the same of databases
abbrev pub put_answer : Option Row → Option (ℕ × ℕ) → Database → Database → Reply × Database
put_answer before clash db after = if is_none before then (reply.NotFound, db) else written clash reply.Done db after

abbrev pub del_answer : Option Row → Database → Database → Reply × Database
del_answer before db after = if is_none before then (reply.NotFound, db) else (reply.Done, after)

-- what an operation is told of its class's objects, and these after it, if they change
abbrev pub local : Schema → Op → Objects → Reply × Option Objects
local schema (op.New class row id) os = local_write (clash (indexes_of schema class) 0 row os) (reply.Made id) (with_row os id row)
local schema (op.Get class id) os = (option_map_or reply.Row (row_of os id) reply.NotFound, None)
local schema (op.Put class id row) os = local_put (row_of os id) (clash (indexes_of schema class) 0 row (without os id)) (with_row os id row)
local schema (op.Del class id) os = local_del (row_of os id) (without os id)
local schema (op.Find class at wanted) os = (reply.Ids (ids_where (has_key (fields_of schema class at) wanted) os), None)
local schema (op.Seek class at from up) os = (told_at (sought from up (index (fields_of schema class at) os)), None)
local schema (op.Area class at rect inside) os = (reply.Ids (ids_where (λ row. meets rect inside (key (fields_of schema class at) row)) os), None)
local schema (op.Prefix class at text way) os =
    (reply.Ids (ids_where (λ row. option_map_or (is_found way text (longest_prefix (fields_of schema class at) text os)) (words_of (key (fields_of schema class at) row)) false) os), None)
local schema (op.Count class) os = (reply.Count (length os), None)

-- the database with these objects in a class, if they are given
abbrev pub changed : Database → ℕ → Option Objects → Database
changed db class None = db
changed db class (Some os) = with_objects db class os

-- an answer of a class, in its database
abbrev pub globally : Database → ℕ → Reply × Option Objects → Reply × Database
globally db class told = (told.0, changed db class told.1)

-- an answer is the one of its class, and changes that class alone
pub answer_local : (schema : Schema) (db : Database) (o : Op) → answer schema db o ≡ globally db (class_of o) (local schema o (objects_of db (class_of o)))
answer_local schema db (op.New class row id) = go (clash (indexes_of schema class) 0 row (objects_of db class))
  where
    go : (c : Option (ℕ × ℕ)) → written c (reply.Made id) db (with_objects db class (with_row (objects_of db class) id row)) ≡ globally db class (local_write c (reply.Made id) (with_row (objects_of db class) id row))
    go None = refl
    go (Some at) = refl
answer_local schema db (op.Get class id) = refl
answer_local schema db (op.Put class id row) = go (row_of (objects_of db class) id) (clash (indexes_of schema class) 0 row (without (objects_of db class) id))
  where
    go : (r : Option Row) (c : Option (ℕ × ℕ)) → put_answer r c db (with_objects db class (with_row (objects_of db class) id row)) ≡ globally db class (local_put r c (with_row (objects_of db class) id row))
    go None c = refl
    go (Some r) None = refl
    go (Some r) (Some at) = refl
answer_local schema db (op.Del class id) = go (row_of (objects_of db class) id)
  where
    go : (r : Option Row) → del_answer r db (with_objects db class (without (objects_of db class) id)) ≡ globally db class (local_del r (without (objects_of db class) id))
    go None = refl
    go (Some r) = refl
answer_local schema db (op.Find class at wanted) = refl
answer_local schema db (op.Seek class at from up) = refl
answer_local schema db (op.Area class at rect inside) = refl
answer_local schema db (op.Prefix class at text way) = refl
answer_local schema db (op.Count class) = refl
