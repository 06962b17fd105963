-- The plain answer: what an operation is told, and the database after it.
use Rattle.std.specs.Prelude.{ℕ, ℤ, ◌+◌, Bool, true, false, ◌&&◌, List, [], ◌∷◌, length, map, max, Option, Some, None, if◌then◌else◌, is_none, nat_eq, ◌==◌, int_le}
use Rattle.std.specs.List.{filter, find, starts_with}
use Rattle.std.specs.Option.{option_map, option_map_or, option_or}
use Rattle.std.specs.Ordering.{is_lt, is_gt}
use Rattle.rdb_base.specs.declared.value.Rect.{Rect}
use Rattle.rdb_base.specs.declared.value.Leaf.TheVariants as leaf
use Rattle.rdb_base.specs.declared.value.Value.TheVariants as value
use Rattle.rdb_base.specs.declared.operation.Op.{Op}
use Rattle.rdb_base.specs.declared.operation.Op.TheVariants as op
use Rattle.rdb_base.specs.declared.operation.Place.{Place}
use Rattle.rdb_base.specs.declared.operation.Place.TheVariants as place
use Rattle.rdb_base.specs.declared.operation.How.{How}
use Rattle.rdb_base.specs.declared.operation.How.TheVariants as how
use Rattle.rdb_base.specs.declared.operation.Reply.{Reply}
use Rattle.rdb_base.specs.declared.operation.Reply.TheVariants as reply
use Rattle.rdb_schema.specs.declared.schema.Schema.{Schema}
use Rattle.rdb_schema.specs.declared.schema.IndexDecl.{IndexDecl}
use Rattle.rdb_model.specs.Database.{Row, Objects, Database, row_of, with_row, without, objects_of, with_objects}
use Rattle.rdb_schema.specs.Indexes.{indexes_of, fields_of}
use Rattle.rdb_model.specs.Index.{key, has_key, pair_order, index}

-- the ids of the objects whose rows pass a test
abbrev pub ids_where : (Row → Bool) → Objects → List ℕ
ids_where passes objects = map (λ o. o.0) (filter (λ o. passes o.1) objects)

-- the least object that has a row's key in an index
abbrev pub holder : List ℕ → Row → Objects → Option ℕ
holder fields row objects = option_map (λ o. o.0) (find (λ o. has_key fields (key fields row) o.1) objects)

-- the first unique index, numbered from `first` on, in which an object has the row's key, and that object
abbrev pub clash : List IndexDecl → ℕ → Row → Objects → Option (ℕ × ℕ)
clash [] first row objects = None
clash (i ∷ is) first row objects =
    option_or (if i.unique then option_map (λ id. (first, id)) (holder i.key row objects) else None) (clash is (first + 1) row objects)

-- what a write is told, and the database after it: a clash leaves it as it was
abbrev pub written : Option (ℕ × ℕ) → Reply → Database → Database → Reply × Database
written None told before after = (told, after)
written (Some at) told before after = (reply.Duplicate at.0 at.1, before)

-- whether a pair is after a place, and whether it is before it
abbrev pub is_after : Place → Row × ℕ → Bool
is_after place.Start pair = true
is_after place.End pair = false
is_after (place.At wanted id) pair = is_gt (pair_order pair (wanted, id))

abbrev pub is_before : Place → Row × ℕ → Bool
is_before place.Start pair = false
is_before place.End pair = true
is_before (place.At wanted id) pair = is_lt (pair_order pair (wanted, id))

-- the last element that passes a test
abbrev pub find_last : {A : Type 0} → (A → Bool) → List A → Option A
find_last passes [] = None
find_last passes (x ∷ xs) = option_or (find_last passes xs) (if passes x then Some x else None)

-- whether a pair is beyond a place, up or down
abbrev pub is_beyond : Place → Bool → Row × ℕ → Bool
is_beyond from true pair = is_after from pair
is_beyond from false pair = is_before from pair

-- the first pair after the place, or the last one before it
abbrev pub sought : Place → Bool → List (Row × ℕ) → Option (Row × ℕ)
sought from true pairs = find (is_beyond from true) pairs
sought from false pairs = find_last (is_beyond from false) pairs

-- whether two spans have a number in common, ends included
abbrev pub spans_meet : ℤ → ℤ → ℤ → ℤ → Bool
spans_meet from to other_from other_to = int_le from other_to && int_le other_from to

-- whether the first span lies in the second
abbrev pub span_lies_in : ℤ → ℤ → ℤ → ℤ → Bool
span_lies_in from to other_from other_to = int_le other_from from && int_le to other_to

-- whether two boxes have a point in common, edges included
abbrev pub overlaps : Rect → Rect → Bool
overlaps a b = spans_meet a.x1 a.x2 b.x1 b.x2 && spans_meet a.y1 a.y2 b.y1 b.y2

-- whether the first box lies in the second
abbrev pub lies_in : Rect → Rect → Bool
lies_in a b = span_lies_in a.x1 a.x2 b.x1 b.x2 && span_lies_in a.y1 a.y2 b.y1 b.y2

-- whether a key is a box that lies in the other, or that overlaps it
abbrev pub meets : Rect → Bool → Row → Bool
meets rect inside (value.Leaf (leaf.Rect box) ∷ _) = if inside then lies_in box rect else overlaps box rect
meets rect inside _ = false

-- the words of a key that is a text
abbrev pub words_of : Row → Option (List ℕ)
words_of (value.Leaf (leaf.Text words) ∷ _) = Some words
words_of _ = None

-- whether a text begins with another
abbrev pub starts : List ℕ → List ℕ → Bool
starts text start = starts_with nat_eq text start

-- the length of the words, if they are a prefix of the text
abbrev pub prefix_length : List ℕ → List ℕ → ℕ
prefix_length text words = if starts text words then length words else 0

-- the length of the longest key that is a prefix of the text
abbrev pub longest_prefix : List ℕ → List ℕ → Objects → ℕ
longest_prefix fields text [] = 0
longest_prefix fields text (o ∷ os) = max (option_map_or (prefix_length text) (words_of (key fields o.1)) 0) (longest_prefix fields text os)

-- whether words equal the text; are its prefix of that length; or begin with it
abbrev pub is_found : How → List ℕ → ℕ → List ℕ → Bool
is_found how.Exact text longest words = starts text words && (length words == length text)
is_found how.Longest text longest words = starts text words && (length words == longest)
is_found how.Starting text longest words = starts words text

-- the answer to an operation
abbrev pub answer : Schema → Database → Op → Reply × Database
answer schema db (op.New class row id) =
    let objects = objects_of db class in
    written (clash (indexes_of schema class) 0 row objects) (reply.Made id) db (with_objects db class (with_row objects id row))
answer schema db (op.Get class id) = (option_map_or reply.Row (row_of (objects_of db class) id) reply.NotFound, db)
answer schema db (op.Put class id row) =
    let objects = objects_of db class in
    if is_none (row_of objects id) then (reply.NotFound, db)
    else written (clash (indexes_of schema class) 0 row (without objects id)) reply.Done db
    (with_objects db class (with_row objects id row))
answer schema db (op.Del class id) =
    let objects = objects_of db class in
    if is_none (row_of objects id) then (reply.NotFound, db) else (reply.Done, with_objects db class (without objects id))
answer schema db (op.Find class at wanted) = (reply.Ids (ids_where (has_key (fields_of schema class at) wanted) (objects_of db class)), db)
answer schema db (op.Seek class at from up) = (
  option_map_or (λ pair. reply.At pair.0 pair.1)
      (sought from up (index (fields_of schema class at) (objects_of db class))) reply.End,
  db,
)
answer schema db (op.Area class at rect inside) =
    let fields = fields_of schema class at in
    (reply.Ids (ids_where (λ row. meets rect inside (key fields row)) (objects_of db class)), db)
answer schema db (op.Prefix class at text way) =
    let fields = fields_of schema class at in
    let objects = objects_of db class in (
      reply.Ids (ids_where (λ row.
          option_map_or (is_found way text (longest_prefix fields text objects)) (words_of (key fields row)) false) objects),
      db,
    )
answer schema db (op.Count class) = (reply.Count (length (objects_of db class)), db)
