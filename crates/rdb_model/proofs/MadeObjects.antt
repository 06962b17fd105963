-- The objects of a legal journal were made by its commits, and so were those that these write.
use Rattle.std.proofs.Common.{◌≡◌, ℕ, zero, suc, Bool, true, false, ◌&&◌, ◌||◌, ◌==◌, ◌⊎◌, inl, inr, cond, List, [], ◌∷◌, ◌++◌, filter_map, Option, Some, None, MatchOption, Contains, is_some, nat_eq, refl, sym, ap, subst, ◌∙◌, arith, append_assoc, append-nil}
use Rattle.std.specs.List.{cons_option, list_any}
use Rattle.std.proofs.lemmas.Bool.Decides.{nat_tests}
use Rattle.rdb_base.specs.declared.operation.Op.{Op}
use Rattle.rdb_base.specs.declared.operation.Op.TheVariants as op
use Rattle.rdb_base.specs.declared.operation.Reply.{Reply}
use Rattle.rdb_base.specs.declared.operation.Reply.TheVariants as reply
use Rattle.rdb_base.specs.declared.journal.Story.{Story}
use Rattle.rdb_base.specs.declared.journal.Entry.{Entry}
use Rattle.rdb_base.specs.declared.journal.Entry.TheVariants as entry
use Rattle.rdb_schema.specs.declared.schema.Schema.{Schema}
use Rattle.rdb_model.specs.Database.{Row, Database, row_of, with_row, without, objects_of, with_objects}
use Rattle.rdb_schema.specs.Indexes.{indexes_of}
use Rattle.rdb_model.specs.Answer.{clash, answer}
use Rattle.rdb_model.specs.Story.{same_reply, run, after}
use Rattle.rdb_model.specs.Journal.{made_by, made_in, made_before, was_made}
use Rattle.rdb_model.specs.Touch.{written_by}
use Rattle.rdb_model.specs.Validation.{was_written}
use Rattle.rdb_model.proofs.ClassAnswers.{put_answer, del_answer}
use Rattle.rdb_model.proofs.Erasing.{erased}
use Rattle.rdb_model.proofs.ErasedStory.{row_in}
use Rattle.rdb_model.proofs.WrittenObjects.{wrote_alone}
use Rattle.rdb_model.proofs.EventLemmas.{row_in_erased_other}
use Rattle.rdb_model.proofs.ReplyLemmas.{same_reply_is}
use Rattle.rdb_model.proofs.LegalCommits.{CommitsRun}

-- what was made is so among more
pub made_left : (xs ys : List (ℕ × ℕ)) (w : ℕ × ℕ) → was_made xs w ≡ true → was_made (xs ++ ys) w ≡ true
made_left [] ys w e = (cc)
made_left (x ∷ xs) ys w e = go ((x.0 == w.0) && (x.1 == w.1)) (made_left xs ys w) e
  where
    go : (b : Bool) → (was_made xs w ≡ true → was_made (xs ++ ys) w ≡ true) → (b || was_made xs w) ≡ true → (b || was_made (xs ++ ys) w) ≡ true
    go true rest e = refl
    go false rest e = rest e

pub made_right : (xs ys : List (ℕ × ℕ)) (w : ℕ × ℕ) → was_made ys w ≡ true → was_made (xs ++ ys) w ≡ true
made_right [] ys w e = e
made_right (x ∷ xs) ys w e = go ((x.0 == w.0) && (x.1 == w.1)) (made_right xs ys w e)
  where
    go : (b : Bool) → was_made (xs ++ ys) w ≡ true → (b || was_made (xs ++ ys) w) ≡ true
    go true rest = refl
    go false rest = rest

-- each object of a database was made
abbrev pub WereMade : Database → List (ℕ × ℕ) → Type 0
WereMade db made = (w : ℕ × ℕ) → is_some (row_in db w) ≡ true → was_made made w ≡ true

-- an object that was written was made by that, or was there
was_there : (schema : Schema) (db : Database) (o : Op) (told : Reply) → (answer schema db o).0 ≡ told → MatchOption (written_by (o, told)) (Unit {0}) (λ w. (made_by (o, told) ≡ Some w) ⊎ (is_some (row_in db w) ≡ true))
was_there schema db (op.New class row id) (reply.Made made) e = inl refl
was_there schema db (op.Put class id row) reply.Done e = inr (go (row_of (objects_of db class) id) e)
  where
    go : (r : Option Row) → (put_answer r (clash (indexes_of schema class) 0 row (without (objects_of db class) id)) db (with_objects db class (with_row (objects_of db class) id row))).0 ≡ reply.Done → is_some r ≡ true
    go None e = (cc)
    go (Some r) e = refl
was_there schema db (op.Del class id) reply.Done e = inr (go (row_of (objects_of db class) id) e)
  where
    go : (r : Option Row) → (del_answer r db (with_objects db class (without (objects_of db class) id))).0 ≡ reply.Done → is_some r ≡ true
    go None e = (cc)
    go (Some r) e = refl
was_there schema db _ _ e = tt

-- an object equals itself, and one that is the same as another was made where that was
same_object : (v w : ℕ × ℕ) → ((v.0 == w.0) && (v.1 == w.1)) ≡ true → v ≡ w
same_object v w e = go (v.0 == w.0) (v.1 == w.1) refl refl e
  where
    go : (a b : Bool) → (v.0 == w.0) ≡ a → (v.1 == w.1) ≡ b → (a && b) ≡ true → v ≡ w
    go true true f g e =
        let first : v.0 ≡ w.0 = grind (arith, nat_tests) in
        let second : v.1 ≡ w.1 = grind (arith, nat_tests) in
        ap (λ n. (n, v.1)) first ∙ ap (λ n. (w.0, n)) second
    go true false f g e = (cc)
    go false b f g e = (cc)

itself : (w : ℕ × ℕ) → was_made (w ∷ []) w ≡ true
itself w =
    let first : nat_eq w.0 w.0 ≡ true = grind (arith, nat_tests) in
    let second : nat_eq w.1 w.1 ≡ true = grind (arith, nat_tests) in
    rw (first, second) refl

module _ (schema : Schema) (db : Database) (d : Op × Reply) (made : List (ℕ × ℕ)) (were : WereMade db made) (told : (answer schema db d.0).0 ≡ d.1) where
  written_made : (w : ℕ × ℕ) → written_by d ≡ Some w → was_made (made ++ made_in (d ∷ [])) w ≡ true
  written_made w is = go (subst (λ o. MatchOption o (Unit {0}) (λ w. (made_by d ≡ Some w) ⊎ (is_some (row_in db w) ≡ true))) is (was_there schema db d.0 d.1 told))
    where
      go : (made_by d ≡ Some w) ⊎ (is_some (row_in db w) ≡ true) → was_made (made ++ made_in (d ∷ [])) w ≡ true
      go (inl e) = made_right made (made_in (d ∷ [])) w (subst (λ o. was_made (cons_option o []) w ≡ true) (sym e) (itself w))
      go (inr e) = made_left made (made_in (d ∷ [])) w (were w e)

  were_made_next : WereMade (answer schema db d.0).1 (made ++ made_in (d ∷ []))
  were_made_next w is = go (written_by d) refl (wrote_alone schema db d.0 d.1 told)
    where
      go : (o : Option (ℕ × ℕ)) → written_by d ≡ o → MatchOption o ((answer schema db d.0).1 ≡ db) (λ v. erased (answer schema db d.0).1 v ≡ erased db v) → was_made (made ++ made_in (d ∷ [])) w ≡ true
      go None e same = made_left made (made_in (d ∷ [])) w (were w (subst (λ b. is_some (row_in b w) ≡ true) same is))
      go (Some v) e alike = at ((v.0 == w.0) && (v.1 == w.1)) refl
        where
          at : (b : Bool) → ((v.0 == w.0) && (v.1 == w.1)) ≡ b → was_made (made ++ made_in (d ∷ [])) w ≡ true
          at true f = written_made w (e ∙ ap Some (same_object v w f))
          at false f =
              let stays : row_in (answer schema db d.0).1 w ≡ row_in db w =
              sym (row_in_erased_other (answer schema db d.0).1 v w f) ∙ ap (λ b. row_in b w) alike ∙ row_in_erased_other db v w f in
              made_left made (made_in (d ∷ [])) w (were w (sym (ap is_some stays) ∙ is))

-- the objects that a story makes, one after another
made_in_turn : (made : List (ℕ × ℕ)) (d : Op × Reply) (ds : List (Op × Reply)) → (made ++ made_in (d ∷ [])) ++ made_in ds ≡ made ++ made_in (d ∷ ds)
made_in_turn made d ds = append_assoc made (made_in (d ∷ [])) (made_in ds) ∙ ap (λ l. made ++ l) (go (made_by d))
  where
    go : (o : Option (ℕ × ℕ)) → cons_option o [] ++ made_in ds ≡ cons_option o (made_in ds)
    go None = refl
    go (Some m) = refl

-- of a run: the objects after it were made, and so were those that it wrote
record AreMade (schema : Schema) (db : Database) (made : List (ℕ × ℕ)) (done : List (Op × Reply)) : Type 0 where
  were : WereMade (after schema db done) (made ++ made_in done)
  wrote : (w : ℕ × ℕ) → was_written done w ≡ true → was_made (made ++ made_in done) w ≡ true

run_made : (schema : Schema) (done : List (Op × Reply)) (db next : Database) (made : List (ℕ × ℕ)) → WereMade db made → run schema db done ≡ Some next → AreMade schema db made done
run_made schema [] db next made were runs = record { were = λ w is. subst (λ l. was_made l w ≡ true) (sym (append-nil made)) (were w is); wrote = λ w e. (cc) }
run_made schema (d ∷ ds) db next made were runs = go (same_reply (answer schema db d.0).0 d.1) refl (λ told. run_made schema ds (answer schema db d.0).1 next (made ++ made_in (d ∷ [])) (were_made_next schema db d made were told)) runs
  where
    wrote_first : (o : Option (ℕ × ℕ)) (w : ℕ × ℕ) → ((v : ℕ × ℕ) → o ≡ Some v → was_made (made ++ made_in (d ∷ [])) v ≡ true) → (was_written ds w ≡ true → was_made ((made ++ made_in (d ∷ [])) ++ made_in ds) w ≡ true) → list_any (λ v. (v.0 == w.0) && (v.1 == w.1)) (cons_option o (filter_map written_by ds)) ≡ true → was_made ((made ++ made_in (d ∷ [])) ++ made_in ds) w ≡ true
    wrote_first None w first rest e = rest e
    wrote_first (Some v) w first rest e = at ((v.0 == w.0) && (v.1 == w.1)) refl e
      where
        at : (b : Bool) → ((v.0 == w.0) && (v.1 == w.1)) ≡ b → (b || was_written ds w) ≡ true → was_made ((made ++ made_in (d ∷ [])) ++ made_in ds) w ≡ true
        at true f e = made_left (made ++ made_in (d ∷ [])) (made_in ds) w (first w (ap Some (same_object v w f)))
        at false f e = rest e

    go : (b : Bool) → same_reply (answer schema db d.0).0 d.1 ≡ b → ((answer schema db d.0).0 ≡ d.1 → run schema (answer schema db d.0).1 ds ≡ Some next → AreMade schema (answer schema db d.0).1 (made ++ made_in (d ∷ [])) ds) → cond b (run schema (answer schema db d.0).1 ds) None ≡ Some next → AreMade schema db made (d ∷ ds)
    go false e rest runs = (cc)
    go true e rest runs =
        let told : (answer schema db d.0).0 ≡ d.1 = same_reply_is (answer schema db d.0).0 d.1 e in
        let later : AreMade schema (answer schema db d.0).1 (made ++ made_in (d ∷ [])) ds = rest told runs in
        record {
          were = subst (λ l. WereMade (after schema (answer schema db d.0).1 ds) l) (made_in_turn made d ds) later.were;
          wrote = λ w is. subst (λ l. was_made l w ≡ true) (made_in_turn made d ds) (wrote_first (written_by d) w (λ v f. written_made schema db d made were told v f) (later.wrote w) is);
        }

-- what a commit wrote was made by then
pub commit_wrote : (schema : Schema) (es : List Entry) (n : ℕ) (db : Database) (made : List (ℕ × ℕ)) (own : Story) (commit : ℕ) → WereMade db made → CommitsRun schema n db es → Contains es (entry.Commit own commit) → (w : ℕ × ℕ) → was_written own.done w ≡ true → was_made (made ++ made_before es) w ≡ true
commit_wrote schema [] n db made own commit were runs c w is = absurd (omega (arith, c.1))
commit_wrote schema (entry.Commit story number ∷ es) n db made own commit were runs (zero, lt, same) w is =
    let one : story.done ≡ own.done = let s : story ≡ own = (cc) in ap (λ s. s.done) s in
    let wrote : was_made (made ++ made_in story.done) w ≡ true = (run_made schema story.done db (after schema db story.done) made were runs.1).wrote w (subst (λ l. was_written l w ≡ true) (sym one) is) in
    subst (λ l. was_made l w ≡ true) (append_assoc made (made_in story.done) (made_before es)) (made_left (made ++ made_in story.done) (made_before es) w wrote)
commit_wrote schema (entry.Commit story number ∷ es) n db made own commit were runs (suc k, lt, same) w is =
    subst (λ l. was_made l w ≡ true) (append_assoc made (made_in story.done) (made_before es))
    (commit_wrote schema es (suc n) (after schema db story.done) (made ++ made_in story.done) own commit (run_made schema story.done db (after schema db story.done) made were runs.1).were runs.2 (k, omega arith, same) w is)
commit_wrote schema (entry.Read story ∷ es) n db made own commit were runs (zero, lt, same) w is = (cc)
commit_wrote schema (entry.Read story ∷ es) n db made own commit were runs (suc k, lt, same) w is = commit_wrote schema es n db made own commit were runs (k, omega arith, same) w is
commit_wrote schema (entry.Abort story cause ∷ es) n db made own commit were runs (zero, lt, same) w is = (cc)
commit_wrote schema (entry.Abort story cause ∷ es) n db made own commit were runs (suc k, lt, same) w is = commit_wrote schema es n db made own commit were runs (k, omega arith, same) w is
commit_wrote schema (entry.Handled client by at finished ∷ es) n db made own commit were runs (zero, lt, same) w is = (cc)
commit_wrote schema (entry.Handled client by at finished ∷ es) n db made own commit were runs (suc k, lt, same) w is = commit_wrote schema es n db made own commit were runs (k, omega arith, same) w is
commit_wrote schema (entry.Closed client ∷ es) n db made own commit were runs (zero, lt, same) w is = (cc)
commit_wrote schema (entry.Closed client ∷ es) n db made own commit were runs (suc k, lt, same) w is = commit_wrote schema es n db made own commit were runs (k, omega arith, same) w is
