-- Which rows a reply rests on, and whether a commit touches an operation: backward validation (Kung and Robinson, 1981), on rows.
use Rattle.std.specs.Prelude.{slice_get, ℕ, ◌-◌, Bool, true, false, ◌&&◌, ◌||◌, not, ◌==◌, List, Option, Some, None}
use Rattle.std.specs.List.{filter_map, list_any}
use Rattle.std.specs.Option.{option_map_or}
use Rattle.std.specs.Ordering.{is_lt, is_gt}
use Rattle.rdb_base.specs.Operations.{class_of}
use Rattle.rdb_base.specs.declared.operation.Op.{Op}
use Rattle.rdb_base.specs.declared.operation.Op.TheVariants as op
use Rattle.rdb_base.specs.declared.operation.How.{How}
use Rattle.rdb_base.specs.declared.operation.How.TheVariants as how
use Rattle.rdb_base.specs.declared.operation.Reply.{Reply}
use Rattle.rdb_base.specs.declared.operation.Reply.TheVariants as reply
use Rattle.rdb_base.specs.declared.journal.Story.{Story}
use Rattle.rdb_base.specs.declared.journal.Entry.{Entry}
use Rattle.rdb_schema.specs.declared.schema.Schema.{Schema}
use Rattle.rdb_schema.specs.declared.schema.IndexDecl.{IndexDecl}
use Rattle.rdb_model.specs.Database.{Row, Database, objects_of, row_of}
use Rattle.rdb_schema.specs.Indexes.{indexes_of, fields_of}
use Rattle.rdb_model.specs.Index.{key, has_key, pair_order, pair_of}
use Rattle.rdb_model.specs.Answer.{is_beyond, meets, words_of, starts}
use Rattle.rdb_model.specs.Story.{after}
use Rattle.rdb_model.specs.Journal.{done_of}

-- whether a row has the key of the other in some unique index
abbrev pub shares_key : List IndexDecl → Row → Row → Bool
shares_key indexes row other = list_any (λ i. i.unique && has_key i.key (key i.key row) other) indexes

-- whether the pair isn't beyond what was found, going up or down
abbrev pub is_within : Bool → Reply → Row × ℕ → Bool
is_within true (reply.At found id) pair = not (is_gt (pair_order pair (found, id)))
is_within false (reply.At found id) pair = not (is_lt (pair_order pair (found, id)))
is_within up _ pair = true

-- whether a key equals the text; is a prefix of it; or begins with it
abbrev pub relates : How → List ℕ → List ℕ → Bool
relates how.Exact text words = starts text words && starts words text
relates how.Longest text words = starts text words
relates how.Starting text words = starts words text

-- whether a lookup in an index with these fields looks at an object
abbrev pub is_looked_at : List ℕ → Op → Reply → ℕ → Row → Bool
is_looked_at fields (op.Find class at wanted) told id other = has_key fields wanted other
is_looked_at fields (op.Seek class at from up) told id other =
    is_beyond from up (pair_of fields (id, other)) && is_within up told (pair_of fields (id, other))
is_looked_at fields (op.Area class at rect inside) told id other = meets rect inside (key fields other)
is_looked_at fields (op.Prefix class at text way) told id other = option_map_or (relates way text) (words_of (key fields other)) false
is_looked_at fields _ told id other = false

-- whether the reply to an operation rests on an object of its class
abbrev pub rests : Schema → Op → Reply → ℕ → Row → Bool
rests schema (op.New class row made) told id other = shares_key (indexes_of schema class) row other
rests schema (op.Get class wanted) told id other = id == wanted
rests schema (op.Put class wanted row) told id other = (id == wanted) || shares_key (indexes_of schema class) row other
rests schema (op.Del class wanted) told id other = id == wanted
rests schema (op.Find class at wanted) told id other = is_looked_at (fields_of schema class at) (op.Find class at wanted) told id other
rests schema (op.Seek class at from up) told id other = is_looked_at (fields_of schema class at) (op.Seek class at from up) told id other
rests schema (op.Area class at rect inside) told id other =
    is_looked_at (fields_of schema class at) (op.Area class at rect inside) told id other
rests schema (op.Prefix class at text way) told id other =
    is_looked_at (fields_of schema class at) (op.Prefix class at text way) told id other
rests schema (op.Count class) told id other = true

-- the class and the id of the object that an operation wrote, if it did
abbrev pub written_by : Op × Reply → Option (ℕ × ℕ)
written_by (op.New class row id, reply.Made made) = Some (class, made)
written_by (op.Put class id row, reply.Done) = Some (class, id)
written_by (op.Del class id, reply.Done) = Some (class, id)
written_by _ = None

-- whether the reply to an operation rests on that object as a database has it
abbrev pub rests_on : Schema → Database → Op × Reply → ℕ × ℕ → Bool
rests_on schema db d object =
    (object.0 == class_of d.0) && option_map_or (rests schema d.0 d.1 object.1) (row_of (objects_of db object.0) object.1) false

-- whether the reply to an operation rests on an object that operations wrote, as it was before them or as it is after
abbrev pub any_rests : Schema → Database → Database → Op × Reply → List (Op × Reply) → Bool
any_rests schema before next d done =
    list_any (λ object. rests_on schema before d object || rests_on schema next d object) (filter_map written_by done)

-- whether operations that are done on a database touch another operation
abbrev pub touches : Schema → Database → List (Op × Reply) → Op × Reply → Bool
touches schema before done d = any_rests schema before (after schema before done) d done

-- whether a commit on a database touches the operation of that number, from 1, of a story
abbrev pub touched : Schema → Database → Entry → Story → ℕ → Bool
touched schema before commit story operation =
    option_map_or (touches schema before (done_of commit)) (slice_get story.done (operation - 1)) false
