-- The row that an object was last written with is the one that it has in the database that the commits make, where the replies hold.
use Rattle.std.proofs.Common.{◌≡◌, ℕ, zero, suc, ◌+◌, ◌<◌, ◌≤◌, Bool, true, false, cond, ◌&&◌, ◌==◌, List, [], ◌∷◌, length, take, slice_get, filter_map, Option, Some, None, nat_lt, unwrap_or, refl, sym, ap, subst, ◌∙◌, arith}
use Rattle.std.specs.Option.{option_map_or}
use Rattle.std.proofs.lemmas.Bool.Decides.{nat_tests}
use Rattle.std.proofs.lemmas.List.{get_or-set_same, get_or-replicate, length-replicate}
use Rattle.rdb_base.specs.declared.operation.Op.{Op}
use Rattle.rdb_base.specs.declared.operation.Op.TheVariants as op
use Rattle.rdb_base.specs.declared.operation.Reply.{Reply}
use Rattle.rdb_base.specs.declared.operation.Reply.TheVariants as reply
use Rattle.rdb_base.specs.declared.journal.Story.{Story}
use Rattle.rdb_base.specs.declared.journal.Entry.{Entry}
use Rattle.rdb_base.specs.declared.journal.Entry.TheVariants as entry
use Rattle.rdb_schema.specs.declared.schema.Schema.{Schema}
use Rattle.rdb_schema.specs.Indexes.{indexes_of}
use Rattle.rdb_model.specs.Database.{Row, Objects, Database, empty, row_of, with_row, without, objects_of, with_objects}
use Rattle.rdb_model.specs.Answer.{clash, answer}
use Rattle.rdb_model.specs.Story.{same_reply, run, after}
use Rattle.rdb_model.specs.Journal.{commits, committed, after_all, fold}
use Rattle.rdb_model.specs.Parts.{NumbersInOrder, RepliesHold}
use Rattle.rdb_base.specs.Operations.{class_of}
use Rattle.rdb_model.specs.Touch.{written_by}
use Rattle.rdb_model.proofs.Rising.{row_of_with_row, row_of_without, row_of_without_same}
use Rattle.rdb_model.proofs.ClassAnswers.{local_write, local_put, local_del, local, changed, answer_local}
use Rattle.rdb_model.proofs.ReplyLemmas.{same_reply_is}
use Rattle.rdb_model.proofs.Erasing.{objects_other}
use Rattle.rdb_model.proofs.AnsweringLemmas.{answer_classes}
use Rattle.rdb_model.proofs.LegalCommits.{CommitsRun, commits_run, commits_are}
use Rattle.rdb_history.specs.Rows.{row_left, wrote, row_after, row_after_all, last_row, done_in}
use Rattle.rdb_history.proofs.ListLemmas.{get_within}

row_of_with_same : (os : Objects) (id : ℕ) (row : Row) → row_of (with_row os id row) id ≡ Some row
row_of_with_same [] id row = let same : (id == id) ≡ true = grind (arith, nat_tests) in ap (λ b. cond b (Some row) None) same
row_of_with_same (o ∷ os) id row = go (nat_lt id o.0) (o.0 == id) refl (grind (arith, nat_tests)) (row_of_with_same os id row)
  where
    go : (b c : Bool) → (o.0 == id) ≡ c → (id == id) ≡ true → row_of (with_row os id row) id ≡ Some row → row_of (cond b ((id, row) ∷ o ∷ os) (cond c ((id, row) ∷ os) (o ∷ with_row os id row))) id ≡ Some row
    go true c e same rest = ap (λ b. cond b (Some row) (cond (o.0 == id) (Some o.1) (row_of os id))) same
    go false true e same rest = ap (λ b. cond b (Some row) (row_of os id)) same
    go false false e same rest = ap (λ b. cond b (Some o.1) (row_of (with_row os id row) id)) e ∙ rest

-- the row of an id in a class's objects after an operation, by what it wrote
abbrev wrote_id : Op × Reply → ℕ → Bool
wrote_id d id = option_map_or (λ w. w.1 == id) (written_by d) false

with_either : (os : Objects) (id other : ℕ) (row : Row) → row_of (with_row os id row) other ≡ cond (id == other) (Some row) (row_of os other)
with_either os id other row = go (id == other) refl
  where
    go : (b : Bool) → (id == other) ≡ b → row_of (with_row os id row) other ≡ cond b (Some row) (row_of os other)
    go true e = let same : id ≡ other = grind (arith, nat_tests) in subst (λ (i : ℕ). row_of (with_row os id row) i ≡ Some row) same (row_of_with_same os id row)
    go false e = row_of_with_row os id other row e

without_either : (os : Objects) (id other : ℕ) → row_of (without os id) other ≡ cond (id == other) None (row_of os other)
without_either os id other = go (id == other) refl
  where
    go : (b : Bool) → (id == other) ≡ b → row_of (without os id) other ≡ cond b None (row_of os other)
    go true e = let same : id ≡ other = grind (arith, nat_tests) in subst (λ (i : ℕ). row_of (without os id) i ≡ None) same (row_of_without_same os id)
    go false e = row_of_without os id other e

local_row : (schema : Schema) (o : Op) (os : Objects) (id : ℕ)
    → option_map_or (λ l. row_of l id) (local schema o os).1 (row_of os id) ≡ cond (wrote_id (o, (local schema o os).0) id) (row_left o) (row_of os id)
local_row schema (op.New class row made) os id = go (clash (indexes_of schema class) 0 row os)
  where
    go : (c : Option (ℕ × ℕ)) → option_map_or (λ l. row_of l id) (local_write c (reply.Made made) (with_row os made row)).1 (row_of os id)
        ≡ cond (wrote_id (op.New class row made, (local_write c (reply.Made made) (with_row os made row)).0) id) (Some row) (row_of os id)
    go None = with_either os made id row
    go (Some at) = refl
local_row schema (op.Put class own row) os id = go (row_of os own) (clash (indexes_of schema class) 0 row (without os own))
  where
    go : (r : Option Row) (c : Option (ℕ × ℕ)) → option_map_or (λ l. row_of l id) (local_put r c (with_row os own row)).1 (row_of os id)
        ≡ cond (wrote_id (op.Put class own row, (local_put r c (with_row os own row)).0) id) (Some row) (row_of os id)
    go None c = refl
    go (Some r) None = with_either os own id row
    go (Some r) (Some at) = refl
local_row schema (op.Del class own) os id = go (row_of os own)
  where
    go : (r : Option Row) → option_map_or (λ l. row_of l id) (local_del r (without os own)).1 (row_of os id)
        ≡ cond (wrote_id (op.Del class own, (local_del r (without os own)).0) id) None (row_of os id)
    go None = refl
    go (Some r) = without_either os own id
local_row schema (op.Get class own) os id = refl
local_row schema (op.Find class at wanted) os id = refl
local_row schema (op.Seek class at from up) os id = refl
local_row schema (op.Area class at rect inside) os id = refl
local_row schema (op.Prefix class at text way) os id = refl
local_row schema (op.Count class) os id = refl

-- what an operation wrote is of its class
wrote_parts : (d : Op × Reply) (class id : ℕ) → wrote d (class, id) ≡ ((class_of d.0 == class) && wrote_id d id)
wrote_parts d class id = parts d.0 d.1
  where
    none : (b : Bool) → false ≡ (b && false)
    none true = refl
    none false = refl

    parts : (o : Op) (told : Reply) → wrote (o, told) (class, id) ≡ ((class_of o == class) && wrote_id (o, told) id)
    parts (op.New c row made) (reply.Made m) = refl
    parts (op.New c row made) (reply.Row r) = none (c == class)
    parts (op.New c row made) reply.Done = none (c == class)
    parts (op.New c row made) reply.NotFound = none (c == class)
    parts (op.New c row made) (reply.Duplicate i k) = none (c == class)
    parts (op.New c row made) (reply.Ids ids) = none (c == class)
    parts (op.New c row made) (reply.At k i) = none (c == class)
    parts (op.New c row made) reply.End = none (c == class)
    parts (op.New c row made) (reply.Count n) = none (c == class)
    parts (op.Put c own row) reply.Done = refl
    parts (op.Put c own row) (reply.Made m) = none (c == class)
    parts (op.Put c own row) (reply.Row r) = none (c == class)
    parts (op.Put c own row) reply.NotFound = none (c == class)
    parts (op.Put c own row) (reply.Duplicate i k) = none (c == class)
    parts (op.Put c own row) (reply.Ids ids) = none (c == class)
    parts (op.Put c own row) (reply.At k i) = none (c == class)
    parts (op.Put c own row) reply.End = none (c == class)
    parts (op.Put c own row) (reply.Count n) = none (c == class)
    parts (op.Del c own) reply.Done = refl
    parts (op.Del c own) (reply.Made m) = none (c == class)
    parts (op.Del c own) (reply.Row r) = none (c == class)
    parts (op.Del c own) reply.NotFound = none (c == class)
    parts (op.Del c own) (reply.Duplicate i k) = none (c == class)
    parts (op.Del c own) (reply.Ids ids) = none (c == class)
    parts (op.Del c own) (reply.At k i) = none (c == class)
    parts (op.Del c own) reply.End = none (c == class)
    parts (op.Del c own) (reply.Count n) = none (c == class)
    parts (op.Get c own) told = none (c == class)
    parts (op.Find c at wanted) told = none (c == class)
    parts (op.Seek c at from up) told = none (c == class)
    parts (op.Area c at rect inside) told = none (c == class)
    parts (op.Prefix c at text way) told = none (c == class)
    parts (op.Count c) told = none (c == class)

-- an operation that gets its reply leaves an object with the row that it wrote, or as it was
pub left_by : (schema : Schema) (db : Database) (d : Op × Reply) (class id : ℕ) → class < length db → same_reply (answer schema db d.0).0 d.1 ≡ true
    → row_of (objects_of (answer schema db d.0).1 class) id ≡ cond (wrote d (class, id)) (row_left d.0) (row_of (objects_of db class) id)
left_by schema db d class id within same =
    ap (λ t. row_of (objects_of t.1 class) id) (answer_local schema db d.0)
    ∙ by_class (class_of d.0 == class) refl
    ∙ ap (λ b. cond b (row_left d.0) (row_of (objects_of db class) id)) (sym (wrote_parts d class id))
  where
    os : Objects
    os = objects_of db (class_of d.0)

    told : (local schema d.0 os).0 ≡ d.1
    told = sym (ap (λ t. t.0) (answer_local schema db d.0)) ∙ same_reply_is (answer schema db d.0).0 d.1 same

    other : (ch : Option Objects) → (class_of d.0 == class) ≡ false → row_of (objects_of (changed db (class_of d.0) ch) class) id ≡ row_of (objects_of db class) id
    other None e = refl
    other (Some l) e = ap (λ m. row_of m id) (objects_other db (class_of d.0) class l e)

    own : (ch : Option Objects) → class_of d.0 ≡ class → row_of (objects_of (changed db (class_of d.0) ch) class) id ≡ option_map_or (λ l. row_of l id) ch (row_of os id)
    own None e = ap (λ c. row_of (objects_of db c) id) (sym e)
    own (Some l) e =
        ap (λ c. row_of (objects_of (with_objects db c l) class) id) e
        ∙ ap (λ m. row_of m id) (get_or-set_same db class l [] within)

    by_class : (b : Bool) → (class_of d.0 == class) ≡ b → row_of (objects_of (changed db (class_of d.0) (local schema d.0 os).1) class) id ≡ cond (b && wrote_id d id) (row_left d.0) (row_of (objects_of db class) id)
    by_class true e =
        let same_class : class_of d.0 ≡ class = grind (arith, nat_tests) in
        own (local schema d.0 os).1 same_class
        ∙ local_row schema d.0 os id
        ∙ ap (λ t. cond (wrote_id (d.0, t) id) (row_left d.0) (row_of os id)) told
        ∙ ap (λ c. cond (wrote_id d id) (row_left d.0) (row_of (objects_of db c) id)) same_class
    by_class false e = other (local schema d.0 os).1 e

-- the same of a story
after_classes : (schema : Schema) (db : Database) (done : List (Op × Reply)) → length (after schema db done) ≡ length db
after_classes schema db [] = refl
after_classes schema db (d ∷ ds) = after_classes schema (answer schema db d.0).1 ds ∙ answer_classes schema db d.0

story_left : (schema : Schema) (db next : Database) (done : List (Op × Reply)) (class id : ℕ) → class < length db → run schema db done ≡ Some next
    → row_of (objects_of (after schema db done) class) id ≡ row_after (class, id) (row_of (objects_of db class) id) done
story_left schema db next [] class id within runs = refl
story_left schema db next (d ∷ ds) class id within runs =
    go (same_reply (answer schema db d.0).0 d.1) (story_left schema (answer schema db d.0).1 next ds class id (let g = answer_classes schema db d.0 in omega arith)) runs
    ∙ ap (λ r. row_after (class, id) r ds) (left_by schema db d class id within (told (same_reply (answer schema db d.0).0 d.1) refl runs))
  where
    told : (b : Bool) → same_reply (answer schema db d.0).0 d.1 ≡ b → cond b (run schema (answer schema db d.0).1 ds) None ≡ Some next → same_reply (answer schema db d.0).0 d.1 ≡ true
    told true e f = e
    told false e f = (cc)

    go : (b : Bool) → (run schema (answer schema db d.0).1 ds ≡ Some next → row_of (objects_of (after schema (answer schema db d.0).1 ds) class) id ≡ row_after (class, id) (row_of (objects_of (answer schema db d.0).1 class) id) ds)
        → cond b (run schema (answer schema db d.0).1 ds) None ≡ Some next
        → row_of (objects_of (after schema (answer schema db d.0).1 ds) class) id ≡ row_after (class, id) (row_of (objects_of (answer schema db d.0).1 class) id) ds
    go true rest f = rest f
    go false rest f = (cc)

-- the same of the first commits of a journal
stories_left : (schema : Schema) (es : List Entry) (n k : ℕ) (db : Database) (class id : ℕ) → class < length db → CommitsRun schema n db es
    → row_of (objects_of (after_all schema db (take k (filter_map committed es))) class) id ≡ row_after_all (class, id) (row_of (objects_of db class) id) (take k (filter_map committed es))
stories_left schema [] n zero db class id within runs = refl
stories_left schema [] n (suc k) db class id within runs = refl
stories_left schema (entry.Commit own commit ∷ es) n zero db class id within runs = refl
stories_left schema (entry.Commit own commit ∷ es) n (suc k) db class id within runs =
    stories_left schema es (suc n) k (after schema db own.done) class id (let g = after_classes schema db own.done in omega arith) runs.2
    ∙ ap (λ r. row_after_all (class, id) r (take k (filter_map committed es))) (story_left schema db (after schema db own.done) own.done class id within runs.1)
stories_left schema (entry.Read story ∷ es) n k db class id within runs = stories_left schema es n k db class id within runs
stories_left schema (entry.Abort story cause ∷ es) n k db class id within runs = stories_left schema es n k db class id within runs
stories_left schema (entry.Handled client by at finished ∷ es) n k db class id within runs = stories_left schema es n k db class id within runs
stories_left schema (entry.Closed client ∷ es) n k db class id within runs = stories_left schema es n k db class id within runs

pub last_row_is : (schema : Schema) (journal : List Entry) (n class id : ℕ) → NumbersInOrder journal → RepliesHold schema journal → class < length schema.classes
    → last_row journal n (class, id) ≡ row_of (objects_of (fold schema journal n) class) id
last_row_is schema journal n class id numbers replies within =
    let many : class < length (empty (length schema.classes)) = let e = length-replicate {A = Objects} (length schema.classes) [] in omega arith in
    let nothing : row_of (objects_of (empty (length schema.classes)) class) id ≡ None = ap (λ os. row_of os id) (get_or-replicate {A = Objects} (length schema.classes) class [] [] within) in
    sym (stories_left schema journal 0 n (empty (length schema.classes)) class id many (commits_run schema journal numbers replies)
    ∙ ap (λ r. row_after_all (class, id) r (take n (filter_map committed journal))) nothing)

-- the operations of a commit are those of its number
commit_place : (schema : Schema) (es : List Entry) (n i : ℕ) (db : Database) (own : Story) (commit : ℕ) → CommitsRun schema n db es → slice_get es i ≡ Some (entry.Commit own commit)
    → (k : ℕ) × (commit ≡ suc (n + k)) × (slice_get (filter_map committed es) k ≡ Some own.done)
commit_place schema [] n i db own commit runs at = (cc)
commit_place schema (entry.Commit story number ∷ es) n zero db own commit runs at =
    let done : story.done ≡ own.done = (cc) in
    let same : number ≡ commit = (cc) in
    (0, omega (arith, runs.0), ap Some done)
commit_place schema (entry.Commit story number ∷ es) n (suc i) db own commit runs at =
    let r = commit_place schema es (suc n) i (after schema db story.done) own commit runs.2 at in
    (suc r.0, omega (arith, r.1), r.2)
commit_place schema (entry.Read story ∷ es) n zero db own commit runs at = (cc)
commit_place schema (entry.Read story ∷ es) n (suc i) db own commit runs at = commit_place schema es n i db own commit runs at
commit_place schema (entry.Abort story cause ∷ es) n zero db own commit runs at = (cc)
commit_place schema (entry.Abort story cause ∷ es) n (suc i) db own commit runs at = commit_place schema es n i db own commit runs at
commit_place schema (entry.Handled client by at' finished ∷ es) n zero db own commit runs at = (cc)
commit_place schema (entry.Handled client by at' finished ∷ es) n (suc i) db own commit runs at = commit_place schema es n i db own commit runs at
commit_place schema (entry.Closed client ∷ es) n zero db own commit runs at = (cc)
commit_place schema (entry.Closed client ∷ es) n (suc i) db own commit runs at = commit_place schema es n i db own commit runs at

pub done_is : (schema : Schema) (journal : List Entry) (i : ℕ) (own : Story) (commit : ℕ) → NumbersInOrder journal → RepliesHold schema journal → slice_get journal i ≡ Some (entry.Commit own commit)
    → (commit ≤ commits journal) × (done_in journal commit ≡ own.done)
done_is schema journal i own commit numbers replies at =
    let r = commit_place schema journal 0 i (empty (length schema.classes)) own commit (commits_run schema journal numbers replies) at in
    let number : commit ≡ suc r.0 = omega (arith, r.1) in
    let below = get_within (filter_map committed journal) r.0 own.done r.2 in
    let many = commits_are journal in
    (omega arith, ap (done_in journal) number ∙ ap (λ o. unwrap_or o []) r.2)
