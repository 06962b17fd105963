-- An operation that gets its reply changes the object that it wrote, and no other.
use Rattle.std.proofs.Common.{◌≡◌, ℕ, Bool, true, false, cond, List, [], ◌∷◌, Option, Some, None, MatchOption, refl, sym, ap, subst, ◌∙◌, set-set}
use Rattle.std.specs.List.{cons_option, filter_map}
use Rattle.rdb_base.specs.declared.operation.Op.{Op}
use Rattle.rdb_base.specs.declared.operation.Op.TheVariants as op
use Rattle.rdb_base.specs.declared.operation.Reply.{Reply}
use Rattle.rdb_base.specs.declared.operation.Reply.TheVariants as reply
use Rattle.rdb_schema.specs.declared.schema.Schema.{Schema}
use Rattle.rdb_model.specs.Database.{Row, Objects, Database, row_of, with_row, without, objects_of, with_objects}
use Rattle.rdb_schema.specs.Indexes.{indexes_of}
use Rattle.rdb_model.specs.Answer.{clash, answer}
use Rattle.rdb_model.specs.Story.{same_reply, run}
use Rattle.rdb_base.specs.Operations.{class_of}
use Rattle.rdb_model.specs.Touch.{written_by}
use Rattle.rdb_model.proofs.Rising.{without_with_row_same, without_twice}
use Rattle.rdb_model.proofs.ClassAnswers.{local_write, local_put, local_del, local, changed, answer_local}
use Rattle.rdb_model.proofs.ReplyLemmas.{same_reply_is}
use Rattle.rdb_model.proofs.Erasing.{erased, erased_with_same}
use Rattle.rdb_model.proofs.ErasedStory.{erased_all, erased_all_comm}

-- a change leaves the other objects of its class, and nothing is changed where nothing was written
abbrev pub LeavesOthers : Op → Reply → Objects → Option Objects → Type 0
LeavesOthers o told os ch = MatchOption (written_by (o, told)) (ch ≡ None) (λ w. (w.0 ≡ class_of o) × MatchOption ch (w.0 ≡ w.0) (λ l. without l w.1 ≡ without os w.1))

local_leaves : (schema : Schema) (o : Op) (os : Objects) → LeavesOthers o (local schema o os).0 os (local schema o os).1
local_leaves schema (op.New class row id) os = go (clash (indexes_of schema class) 0 row os)
  where
    go : (c : Option (ℕ × ℕ)) → LeavesOthers (op.New class row id) (local_write c (reply.Made id) (with_row os id row)).0 os (local_write c (reply.Made id) (with_row os id row)).1
    go None = (refl, without_with_row_same os id row)
    go (Some at) = refl
local_leaves schema (op.Put class id row) os = go (row_of os id) (clash (indexes_of schema class) 0 row (without os id))
  where
    go : (r : Option Row) (c : Option (ℕ × ℕ)) → LeavesOthers (op.Put class id row) (local_put r c (with_row os id row)).0 os (local_put r c (with_row os id row)).1
    go None c = refl
    go (Some r) None = (refl, without_with_row_same os id row)
    go (Some r) (Some at) = refl
local_leaves schema (op.Del class id) os = go (row_of os id)
  where
    go : (r : Option Row) → LeavesOthers (op.Del class id) (local_del r (without os id)).0 os (local_del r (without os id)).1
    go None = refl
    go (Some r) = (refl, without_twice os id)
local_leaves schema (op.Get class id) os = refl
local_leaves schema (op.Find class at wanted) os = refl
local_leaves schema (op.Seek class at from up) os = refl
local_leaves schema (op.Area class at rect inside) os = refl
local_leaves schema (op.Prefix class at text way) os = refl
local_leaves schema (op.Count class) os = refl

-- the same of a database
pub wrote_alone : (schema : Schema) (db : Database) (o : Op) (told : Reply) → (answer schema db o).0 ≡ told → MatchOption (written_by (o, told)) ((answer schema db o).1 ≡ db) (λ w. erased (answer schema db o).1 w ≡ erased db w)
wrote_alone schema db o told is =
    subst (λ t. MatchOption (written_by (o, told)) (t.1 ≡ db) (λ w. erased t.1 w ≡ erased db w)) (sym (answer_local schema db o))
    (go (written_by (o, told)) (local schema o (objects_of db (class_of o))).1
    (subst (λ t. LeavesOthers o t (objects_of db (class_of o)) (local schema o (objects_of db (class_of o))).1) (sym (ap (λ t. t.0) (answer_local schema db o)) ∙ is) (local_leaves schema o (objects_of db (class_of o)))))
  where
    one : (class x : ℕ) (l : Objects) → without l x ≡ without (objects_of db class) x → erased (with_objects db class l) (class, x) ≡ erased db (class, x)
    one class x l e =
        erased_with_same db class x l
        ∙ set-set db class (without (objects_of db class) x) (without l x)
        ∙ ap (with_objects db class) e

    go : (w : Option (ℕ × ℕ)) (ch : Option Objects) → MatchOption w (ch ≡ None) (λ w. (w.0 ≡ class_of o) × MatchOption ch (w.0 ≡ w.0) (λ l. without l w.1 ≡ without (objects_of db (class_of o)) w.1)) → MatchOption w (changed db (class_of o) ch ≡ db) (λ w. erased (changed db (class_of o) ch) w ≡ erased db w)
    go None ch e = ap (changed db (class_of o)) e
    go (Some w) None e = refl
    go (Some w) (Some l) e = subst (λ c. erased (with_objects db (class_of o) l) (c, w.1) ≡ erased db (c, w.1)) (sym e.0) (one (class_of o) w.1 l e.1)

-- without the objects that a run wrote, the databases before and after it are one
pub wrote_these : (schema : Schema) (done : List (Op × Reply)) (db next : Database) → run schema db done ≡ Some next → erased_all db (filter_map written_by done) ≡ erased_all next (filter_map written_by done)
wrote_these schema [] db next runs = (cc)
wrote_these schema (d ∷ ds) db next runs = go (same_reply (answer schema db d.0).0 d.1) refl (wrote_these schema ds (answer schema db d.0).1 next) runs
  where
    step : (w : Option (ℕ × ℕ)) → MatchOption w ((answer schema db d.0).1 ≡ db) (λ w. erased (answer schema db d.0).1 w ≡ erased db w) → erased_all (answer schema db d.0).1 (filter_map written_by ds) ≡ erased_all next (filter_map written_by ds) → erased_all db (cons_option w (filter_map written_by ds)) ≡ erased_all next (cons_option w (filter_map written_by ds))
    step None e rest = ap (λ b. erased_all b (filter_map written_by ds)) (sym e) ∙ rest
    step (Some w) e rest =
        ap (λ b. erased_all b (filter_map written_by ds)) (sym e)
        ∙ erased_all_comm (filter_map written_by ds) (answer schema db d.0).1 w
        ∙ ap (λ b. erased b w) rest
        ∙ sym (erased_all_comm (filter_map written_by ds) next w)

    go : (b : Bool) → same_reply (answer schema db d.0).0 d.1 ≡ b → (run schema (answer schema db d.0).1 ds ≡ Some next → erased_all (answer schema db d.0).1 (filter_map written_by ds) ≡ erased_all next (filter_map written_by ds)) → cond b (run schema (answer schema db d.0).1 ds) None ≡ Some next → erased_all db (cons_option (written_by d) (filter_map written_by ds)) ≡ erased_all next (cons_option (written_by d) (filter_map written_by ds))
    go true e rest runs = step (written_by d) (wrote_alone schema db d.0 d.1 (same_reply_is (answer schema db d.0).0 d.1 e)) (rest runs)
    go false e rest runs = (cc)
