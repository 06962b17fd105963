-- Stories with one operation more or less, and what an answer that writes nothing leaves.
use Rattle.std.proofs.Common.{◌≡◌, ℕ, Bool, true, false, ◌&&◌, not, cond, List, [], ◌∷◌, ◌++◌, Option, Some, None, IsSome, is_none, refl, sym, ap, ◌∙◌, append-nil}
use Rattle.std.specs.List.{cons_option}
use Rattle.std.specs.Option.{option_map_or}
use Rattle.std.proofs.lemmas.List.Elements.{All-push}
use Rattle.rdb_base.specs.declared.identity.TxId.{TxId}
use Rattle.rdb_base.specs.declared.identity.Kind.{Kind}
use Rattle.rdb_base.specs.declared.operation.Op.{Op}
use Rattle.rdb_base.specs.declared.operation.Op.TheVariants as op
use Rattle.rdb_base.specs.declared.operation.Reply.{Reply}
use Rattle.rdb_base.specs.declared.operation.Reply.TheVariants as reply
use Rattle.rdb_base.specs.declared.journal.Cause.{Cause}
use Rattle.rdb_schema.specs.declared.schema.Schema.{Schema}
use Rattle.rdb_schema.specs.Indexes.{indexes_of}
use Rattle.rdb_registry.specs.declared.hand.Work.{Work}
use Rattle.rdb_sight.specs.Versions.{Versions, Marks}
use Rattle.rdb_model.specs.Database.{Database, objects_of, with_objects, with_row, without, row_of}
use Rattle.rdb_model.specs.Answer.{answer, written, clash}
use Rattle.rdb_model.specs.Fits.{Fits, AllFit}
use Rattle.rdb_model.specs.Story.{run, same_reply}
use Rattle.rdb_model.specs.Journal.{made_by, made_in, was_made}
use Rattle.rdb_model.specs.Touch.{written_by}
use Rattle.rdb_model.specs.Validation.{MakesAnew}
use Rattle.rdb_model.proofs.ReplyLemmas.{reply_itself}
use Rattle.rdb_model.proofs.SerialReads.{run_append}
use Rattle.rdb_history.specs.Rows.{row_left}
use Rattle.rdb_history.proofs.StoryLemmas.{anew_more}
use Rattle.rdb_shown.specs.Kept.{last_left, IsWork}
use Rattle.rdb_shown.proofs.AnswerLemmas.{left_more, wrote_none}
use Rattle.rdb_serial.specs.Progress.{Progress, done_by_plan, so_far, is_live}

-- a story of which no operation is in work, with one operation more
pub noted_so_far : (p : Progress) (d : Op × Reply) → p.work ≡ None → (p.done ++ d ∷ []) ++ done_by_plan p.work ≡ so_far p ++ d ∷ []
noted_so_far p d none =
    ap (λ (w : Option Work). (p.done ++ d ∷ []) ++ done_by_plan w) none ∙ append-nil (p.done ++ d ∷ [])
    ∙ sym (ap (λ (w : Option Work). (p.done ++ done_by_plan w) ++ d ∷ []) none ∙ ap (λ (l : List (Op × Reply)). l ++ d ∷ []) (append-nil p.done))

-- an operation in work is none of the story before its own plan is made
pub unplanned_so_far : (p : Progress) (w : Work) → p.work ≡ None → w.puts ≡ None → p.done ++ done_by_plan (Some w) ≡ so_far p
unplanned_so_far p w none unplanned =
    ap (λ (l : List (Op × Reply)). p.done ++ l) (nothing w unplanned) ∙ sym (ap (λ (o : Option Work). p.done ++ done_by_plan o) none)
  where
    nothing : (w : Work) → w.puts ≡ None → done_by_plan (Some w) ≡ []
    nothing w none = rw none refl

-- an answer that writes nothing leaves the database
pub unwritten : (schema : Schema) (db : Database) (o : Op) → written_by (o, (answer schema db o).0) ≡ None → (answer schema db o).1 ≡ db
unwritten schema db (op.New class row id) none = go (clash (indexes_of schema class) 0 row (objects_of db class)) none
  where
    go : (c : Option (ℕ × ℕ)) → written_by (op.New class row id, (written c (reply.Made id) db (with_objects db class (with_row (objects_of db class) id row))).0) ≡ None
        → (written c (reply.Made id) db (with_objects db class (with_row (objects_of db class) id row))).1 ≡ db
    go None h = (cc)
    go (Some at) h = refl
unwritten schema db (op.Get class id) none = refl
unwritten schema db (op.Put class id row) none = go (is_none (row_of (objects_of db class) id)) (clash (indexes_of schema class) 0 row (without (objects_of db class) id)) none
  where
    after : Database
    after = with_objects db class (with_row (objects_of db class) id row)

    go : (b : Bool) (c : Option (ℕ × ℕ)) → written_by (op.Put class id row, (cond {A = Reply × Database} b (reply.NotFound, db) (written c reply.Done db after)).0) ≡ None → (cond {A = Reply × Database} b (reply.NotFound, db) (written c reply.Done db after)).1 ≡ db
    go true c h = refl
    go false None h = (cc)
    go false (Some at) h = refl
unwritten schema db (op.Del class id) none = go (is_none (row_of (objects_of db class) id)) none
  where
    after : Database
    after = with_objects db class (without (objects_of db class) id)

    go : (b : Bool) → written_by (op.Del class id, (cond {A = Reply × Database} b (reply.NotFound, db) (reply.Done, after)).0) ≡ None → (cond {A = Reply × Database} b (reply.NotFound, db) (reply.Done, after)).1 ≡ db
    go true h = refl
    go false h = (cc)
unwritten schema db (op.Find class at wanted) none = refl
unwritten schema db (op.Seek class at from up) none = refl
unwritten schema db (op.Area class at rect inside) none = refl
unwritten schema db (op.Prefix class at text way) none = refl
unwritten schema db (op.Count class) none = refl

-- a story with an operation more runs on to what its answer leaves
pub run_more : (schema : Schema) (db next : Database) (done : List (Op × Reply)) (o : Op) (told : Reply) → run schema db done ≡ Some next → told ≡ (answer schema next o).0 →
    run schema db (done ++ (o, told) ∷ []) ≡ Some (answer schema next o).1
run_more schema db next done o told runs is =
    run_append schema done ((o, told) ∷ []) db next runs
    ∙ ap (λ (b : Bool). cond b (Some (answer schema next o).1) None) (ap (same_reply (answer schema next o).0) is ∙ reply_itself (answer schema next o).0)

-- a story that runs runs as far as each of its operations
pub run_front : (schema : Schema) (db : Database) (xs ys : List (Op × Reply)) → IsSome (run schema db (xs ++ ys)) → IsSome (run schema db xs)
run_front schema db [] ys runs = refl
run_front schema db (x ∷ xs) ys runs = go (run_front schema (answer schema db x.0).1 xs ys) (same_reply (answer schema db x.0).0 x.1) runs
  where
    go : (IsSome (run schema (answer schema db x.0).1 (xs ++ ys)) → IsSome (run schema (answer schema db x.0).1 xs)) → (b : Bool) →
        IsSome (cond b (run schema (answer schema db x.0).1 (xs ++ ys)) None) → IsSome (cond b (run schema (answer schema db x.0).1 xs) None)
    go rest true h = rest h
    go rest false h = h

-- an operation that writes nothing makes nothing, and is no work
pub unmade : (o : Op) (told : Reply) → written_by (o, told) ≡ None → made_by (o, told) ≡ None
unmade (op.New class row id) (reply.Made made) none = (cc)
unmade (op.New class row id) (reply.Row row_told) none = refl
unmade (op.New class row id) reply.Done none = refl
unmade (op.New class row id) reply.NotFound none = refl
unmade (op.New class row id) (reply.Duplicate at other) none = refl
unmade (op.New class row id) (reply.Ids ids) none = refl
unmade (op.New class row id) (reply.At key other) none = refl
unmade (op.New class row id) reply.End none = refl
unmade (op.New class row id) (reply.Count n) none = refl
unmade (op.Get class id) told none = refl
unmade (op.Put class id row) told none = refl
unmade (op.Del class id) told none = refl
unmade (op.Find class at wanted) told none = refl
unmade (op.Seek class at from up) told none = refl
unmade (op.Area class at rect inside) told none = refl
unmade (op.Prefix class at text way) told none = refl
unmade (op.Count class) told none = refl

-- what a story with one operation more makes
pub made_with : (done : List (Op × Reply)) (d : Op × Reply) → made_in (done ++ d ∷ []) ≡ made_in done ++ made_in (d ∷ [])
made_with [] d = refl
made_with (x ∷ xs) d = ap (λ (l : List (ℕ × ℕ)). cons_option (made_by x) l) (made_with xs d) ∙ go (made_by x)
  where
    go : (o : Option (ℕ × ℕ)) → cons_option o (made_in xs ++ made_in (d ∷ [])) ≡ cons_option o (made_in xs) ++ made_in (d ∷ [])
    go None = refl
    go (Some m) = refl

pub made_same : (done : List (Op × Reply)) (d : Op × Reply) → made_by d ≡ None → made_in (done ++ d ∷ []) ≡ made_in done
made_same done d none = made_with done d ∙ ap (λ (o : Option (ℕ × ℕ)). made_in done ++ cons_option o []) none ∙ append-nil (made_in done)

pub anew_same : (made : List (ℕ × ℕ)) (done : List (Op × Reply)) (d : Op × Reply) → made_by d ≡ None → MakesAnew made done → MakesAnew made (done ++ d ∷ [])
anew_same made done d none anew = (anew_more made done d).1 (anew, ap (λ (o : Option (ℕ × ℕ)). option_map_or (was_made (made ++ made_in done)) o false) none)

pub read_is_no_work : (marks : Marks) (versions : Versions) (tx : TxId) (snapshot : ℕ) (done : List (Op × Reply)) (o : Op) (told : Reply) → written_by (o, told) ≡ None →
    IsWork marks versions tx snapshot done → IsWork marks versions tx snapshot (done ++ (o, told) ∷ [])
read_is_no_work marks versions tx snapshot done o told none work = record {
  unmarked = work.unmarked;
  wrote = λ class id. work.wrote class id ∙ sym (left_more (class, id) done (o, told) ∙ ap (λ (b : Bool). cond b (Some (row_left o)) (last_left (class, id) done)) (wrote_none (o, told) (class, id) none));
  unseen = work.unseen;
}

pub fits_more : (schema : Schema) (kind : Kind) (done : List (Op × Reply)) (d : Op × Reply) → AllFit schema kind done → Fits schema d.0 kind → AllFit schema kind (done ++ d ∷ [])
fits_more schema kind done d fit more = All-push (λ (e : Op × Reply). Fits schema e.0 kind) done d fit more

-- who goes on rolls back for nothing
pub live_has_no_cause : (p : Progress) (why : Cause) → is_live p ≡ true → p.cause ≡ Some why → ⊥
live_has_no_cause p why live is = go p.condemned p.cause live is
  where
    go : (b : Bool) (o : Option Cause) → (not b && is_none o) ≡ true → o ≡ Some why → ⊥
    go b None h e = (cc)
    go true (Some w) h e = (cc)
    go false (Some w) h e = (cc)

-- a fact about a Bool and its opposite
pub never : {A : Type 0} → (b : Bool) → b ≡ false → b ≡ true → A
never b is e = absurd (cc)
