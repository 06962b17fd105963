-- A commit that a transaction doesn't see and that wrote an object which it wrote too touches it: validation lets no such one pass.
use Rattle.std.proofs.Common.{◌≡◌, ℕ, zero, suc, ◌+◌, ◌-◌, ◌<◌, ◌≤◌, Bool, true, false, cond, ◌&&◌, ◌||◌, ◌==◌, ◌⊎◌, inl, inr, List, [], ◌∷◌, ◌++◌, length, filter_map, slice_get, Option, Some, None, IsSome, is_some, MatchOption, unwrap_or, nat_eq, All, Contains, refl, sym, ap, subst, ◌∙◌, arith}
use Rattle.std.specs.List.{list_any, cons_option}
use Rattle.std.specs.Option.{option_map_or, option_or}
use Rattle.std.proofs.lemmas.Bool.Decides.{nat_tests}
use Rattle.std.proofs.lemmas.List.Elements.{All-cons}
use Rattle.rdb_base.specs.Operations.{class_of}
use Rattle.rdb_base.specs.declared.operation.Op.{Op}
use Rattle.rdb_base.specs.declared.operation.Op.TheVariants as op
use Rattle.rdb_base.specs.declared.operation.Reply.{Reply}
use Rattle.rdb_base.specs.declared.operation.Reply.TheVariants as reply
use Rattle.rdb_base.specs.declared.journal.Story.{Story}
use Rattle.rdb_base.specs.declared.journal.Entry.{Entry}
use Rattle.rdb_base.specs.declared.journal.Entry.TheVariants as entry
use Rattle.rdb_schema.specs.declared.schema.Schema.{Schema}
use Rattle.rdb_schema.specs.Indexes.{indexes_of}
use Rattle.rdb_model.specs.declared.legality.Span.{Span}
use Rattle.rdb_model.specs.Database.{Row, Database, empty, row_of, with_row, without, objects_of, with_objects}
use Rattle.rdb_model.specs.Answer.{clash, written, answer}
use Rattle.rdb_model.specs.Story.{same_reply, run, after}
use Rattle.rdb_model.specs.Journal.{commits, committed, fold, made_by, made_in, made_before, was_made}
use Rattle.rdb_model.specs.Parts.{KeepsLaw}
use Rattle.rdb_model.specs.Touch.{shares_key, rests, written_by, rests_on, touched}
use Rattle.rdb_model.specs.Validation.{was_written, AreLeftAlone, RunsAfter, MakesAnew, IsValid}
use Rattle.rdb_model.proofs.ClassAnswers.{put_answer, del_answer}
use Rattle.rdb_model.proofs.Erasing.{erased}
use Rattle.rdb_model.proofs.LegalCommits.{IsCommitAt, commits_are, commits_run, commit_at}
use Rattle.rdb_model.proofs.MadeObjects.{made_left, commit_wrote}
use Rattle.rdb_model.proofs.ReplyLemmas.{same_reply_is}
use Rattle.rdb_model.proofs.Validating.{still_runs}
use Rattle.rdb_model.proofs.WrittenObjects.{wrote_alone}
use Rattle.rdb_history.specs.Rows.{same_object, row_left, wrote, done_in}
use Rattle.rdb_history.proofs.ListLemmas.{get_there}
use Rattle.rdb_history.proofs.ObjectLemmas.{same_are_one}
use Rattle.rdb_shown.specs.Kept.{last_left}
use Rattle.rdb_shown.proofs.AnswerLemmas.{answer_wrote, set_elsewhere}

any_or : {A : Type 0} (p : A → Bool) (o : Option A) (xs : List A) → list_any p xs ≡ true → list_any p (cons_option o xs) ≡ true
any_or p None xs e = e
any_or p (Some x) xs e = go (p x)
  where
    go : (b : Bool) → (b || list_any p xs) ≡ true
    go true = refl
    go false = e

any_first : {A : Type 0} (p : A → Bool) (x : A) (xs : List A) → p x ≡ true → list_any p (x ∷ xs) ≡ true
any_first p x xs e = ap (λ b. b || list_any p xs) e

any_more : {A : Type 0} (p q : A → Bool) (xs : List A) → ((x : A) → p x ≡ true → q x ≡ true) → list_any p xs ≡ true → list_any q xs ≡ true
any_more p q [] more e = (cc)
any_more p q (x ∷ xs) more e = go (p x) refl e (any_more p q xs more)
  where
    later : (b : Bool) → list_any q xs ≡ true → (b || list_any q xs) ≡ true
    later true h = refl
    later false h = h

    go : (b : Bool) → p x ≡ b → (b || list_any p xs) ≡ true → (list_any p xs ≡ true → list_any q xs ≡ true) → (q x || list_any q xs) ≡ true
    go true f e rest = ap (λ b. b || list_any q xs) (more x f)
    go false f e rest = later (q x) (rest e)

-- an operation that wrote an object
wrote_by : (d : Op × Reply) (object : ℕ × ℕ) → wrote d object ≡ true → written_by d ≡ Some object
wrote_by d object e = go (written_by d) e
  where
    go : (o : Option (ℕ × ℕ)) → option_map_or (λ w. same_object w object) o false ≡ true → o ≡ Some object
    go None e = (cc)
    go (Some w) e = ap Some (same_are_one w object e)

-- operations that left something of an object wrote it
left_written : (object : ℕ × ℕ) (done : List (Op × Reply)) (r : Option Row) → last_left object done ≡ Some r → was_written done object ≡ true
left_written object [] r e = (cc)
left_written object (d ∷ ds) r e = go (last_left object ds) refl (wrote d object) refl e (λ s. left_written object ds s)
  where
    go : (l : Option (Option Row)) → last_left object ds ≡ l → (b : Bool) → wrote d object ≡ b → option_or l (cond b (Some (row_left d.0)) None) ≡ Some r → ((s : Option Row) → last_left object ds ≡ Some s → was_written ds object ≡ true)
        → was_written (d ∷ ds) object ≡ true
    go (Some s) f b g e rest = any_or (λ w. same_object w object) (written_by d) (filter_map written_by ds) (rest s f)
    go None f true g e rest = here (written_by d) g
      where
        here : (o : Option (ℕ × ℕ)) → option_map_or (λ w. same_object w object) o false ≡ true → list_any (λ w. same_object w object) (cons_option o (filter_map written_by ds)) ≡ true
        here None h = (cc)
        here (Some w) h = any_first (λ v. same_object v object) w (filter_map written_by ds) h
    go None f false g e rest = (cc)

-- what wrote an object made it, or rests on it as it was
writer_rests : (schema : Schema) (db : Database) (o : Op) (told : Reply) (object : ℕ × ℕ) → written_by (o, told) ≡ Some object → (answer schema db o).0 ≡ told
    → (made_by (o, told) ≡ Some object) ⊎ (rests_on schema db (o, told) object ≡ true)
writer_rests schema db (op.New c row i) told object wrote is = go (clash (indexes_of schema c) 0 row (objects_of db c)) is
  where
    go : (k : Option (ℕ × ℕ)) → (written k (reply.Made i) db (with_objects db c (with_row (objects_of db c) i row))).0 ≡ told
        → (made_by (op.New c row i, told) ≡ Some object) ⊎ (rests_on schema db (op.New c row i, told) object ≡ true)
    go None e = inl (ap (λ t. made_by (op.New c row i, t)) (sym e) ∙ ap (λ t. written_by (op.New c row i, t)) e ∙ wrote)
    go (Some at) e = let h : ◌≡◌ {A = Option (ℕ × ℕ)} None (Some object) = ap (λ t. written_by (op.New c row i, t)) e ∙ wrote in (cc)
writer_rests schema db (op.Put c i row) told object wrote is = go (row_of (objects_of db c) i) refl (clash (indexes_of schema c) 0 row (without (objects_of db c) i)) is
  where
    go : (r : Option Row) → row_of (objects_of db c) i ≡ r → (k : Option (ℕ × ℕ)) → (put_answer r k db (with_objects db c (with_row (objects_of db c) i row))).0 ≡ told
        → (made_by (op.Put c i row, told) ≡ Some object) ⊎ (rests_on schema db (op.Put c i row, told) object ≡ true)
    go None f k e = let h : ◌≡◌ {A = Option (ℕ × ℕ)} None (Some object) = ap (λ t. written_by (op.Put c i row, t)) e ∙ wrote in (cc)
    go (Some r) f (Some at) e = let h : ◌≡◌ {A = Option (ℕ × ℕ)} None (Some object) = ap (λ t. written_by (op.Put c i row, t)) e ∙ wrote in (cc)
    go (Some r) f None e =
        let here : ◌≡◌ {A = Option (ℕ × ℕ)} (Some (c, i)) (Some object) = ap (λ t. written_by (op.Put c i row, t)) e ∙ wrote in
        let one : ◌≡◌ {A = ℕ × ℕ} (c, i) object = (cc) in
        inr (subst (λ (w : ℕ × ℕ). rests_on schema db (op.Put c i row, told) w ≡ true) one (put_rests (row_of (objects_of db c) i) f))
      where
        put_rests : (found : Option Row) → found ≡ Some r → (nat_eq c c && option_map_or (rests schema (op.Put c i row) told i) found false) ≡ true
        put_rests None g = (cc)
        put_rests (Some other) g =
            let one : nat_eq c c ≡ true = grind (arith, nat_tests) in
            let two : nat_eq i i ≡ true = grind (arith, nat_tests) in
            ap (λ x. x && (nat_eq i i || shares_key (indexes_of schema c) row other)) one ∙ ap (λ x. x || shares_key (indexes_of schema c) row other) two
writer_rests schema db (op.Del c i) told object wrote is = go (row_of (objects_of db c) i) refl is
  where
    go : (r : Option Row) → row_of (objects_of db c) i ≡ r → (del_answer r db (with_objects db c (without (objects_of db c) i))).0 ≡ told
        → (made_by (op.Del c i, told) ≡ Some object) ⊎ (rests_on schema db (op.Del c i, told) object ≡ true)
    go None f e = let h : ◌≡◌ {A = Option (ℕ × ℕ)} None (Some object) = ap (λ t. written_by (op.Del c i, t)) e ∙ wrote in (cc)
    go (Some r) f e =
        let here : ◌≡◌ {A = Option (ℕ × ℕ)} (Some (c, i)) (Some object) = ap (λ t. written_by (op.Del c i, t)) e ∙ wrote in
        let one : ◌≡◌ {A = ℕ × ℕ} (c, i) object = (cc) in
        inr (subst (λ (w : ℕ × ℕ). rests_on schema db (op.Del c i, told) w ≡ true) one (del_rests (row_of (objects_of db c) i) f))
      where
        del_rests : (found : Option Row) → found ≡ Some r → (nat_eq c c && option_map_or (rests schema (op.Del c i) told i) found false) ≡ true
        del_rests None g = (cc)
        del_rests (Some other) g =
            let one : nat_eq c c ≡ true = grind (arith, nat_tests) in
            let two : nat_eq i i ≡ true = grind (arith, nat_tests) in
            ap (λ x. x && nat_eq i i) one ∙ two
writer_rests schema db (op.Get c i) told object wrote is = (cc)
writer_rests schema db (op.Find c at wanted) told object wrote is = (cc)
writer_rests schema db (op.Seek c at from up) told object wrote is = (cc)
writer_rests schema db (op.Area c at rect inside) told object wrote is = (cc)
writer_rests schema db (op.Prefix c at text way) told object wrote is = (cc)
writer_rests schema db (op.Count c) told object wrote is = (cc)

-- an operation leaves each object that it didn't write as it was
unwritten_row : (schema : Schema) (db : Database) (d : Op × Reply) (object : ℕ × ℕ) → (answer schema db d.0).0 ≡ d.1 → wrote d object ≡ false
    → row_of (objects_of (answer schema db d.0).1 object.0) object.1 ≡ row_of (objects_of db object.0) object.1
unwritten_row schema db d object is e = go (written_by d) refl e (wrote_alone schema db d.0 d.1 is)
  where
    differ : (w : ℕ × ℕ) → same_object w object ≡ false → nat_eq w.0 object.0 ≡ true → nat_eq w.1 object.1 ≡ true → ⊥
    differ w f g h = let same : same_object w object ≡ true = ap (λ b. b && nat_eq w.1 object.1) g ∙ h in (cc)

    go : (o : Option (ℕ × ℕ)) → written_by d ≡ o → option_map_or (λ w. same_object w object) o false ≡ false → MatchOption o ((answer schema db d.0).1 ≡ db) (λ w. erased (answer schema db d.0).1 w ≡ erased db w)
        → row_of (objects_of (answer schema db d.0).1 object.0) object.1 ≡ row_of (objects_of db object.0) object.1
    go None f e same = ap (λ (b : Database). row_of (objects_of b object.0) object.1) same
    go (Some w) f e same =
        ap (λ (b : Database). row_of (objects_of b object.0) object.1) (answer_wrote schema db d.0 d.1 w.0 w.1 f is)
        ∙ set_elsewhere db w.0 w.1 (row_left d.0) object.0 object.1 (differ w e)

-- a story that runs and wrote an object, which was made before, has an operation that rests on the object as it is before the story
pub record RestsOn (schema : Schema) (db : Database) (done : List (Op × Reply)) (object : ℕ × ℕ) : Type 0 where
  pub place : ℕ
  pub operation : Op × Reply
  pub at : slice_get done place ≡ Some operation
  pub rests : rests_on schema db operation object ≡ true

story_rests : (schema : Schema) (done : List (Op × Reply)) (db : Database) (made : List (ℕ × ℕ)) (object : ℕ × ℕ) (r : Option Row) → IsSome (run schema db done) → MakesAnew made done → was_made made object ≡ true
    → last_left object done ≡ Some r → RestsOn schema db done object
story_rests schema [] db made object r runs anew was left = (cc)
story_rests schema (d ∷ ds) db made object r runs anew was left =
    split (same_reply (answer schema db d.0).0 d.1) refl runs
    (λ runs left. story_rests schema ds (answer schema db d.0).1 (made ++ made_in (d ∷ [])) object r runs anew.1 (made_left made (made_in (d ∷ [])) object was) left)
  where
    made_anew : (o : Option (ℕ × ℕ)) → option_map_or (was_made made) o false ≡ false → o ≡ Some object → ⊥
    made_anew None e f = (cc)
    made_anew (Some w) e f = let same : w ≡ object = (cc) in let g : was_made made object ≡ false = sym (ap (was_made made) same) ∙ e in (cc)

    here : wrote d object ≡ true → (answer schema db d.0).0 ≡ d.1 → RestsOn schema db (d ∷ ds) object
    here e told = either (writer_rests schema db d.0 d.1 object (wrote_by d object e) told)
      where
        either : (made_by d ≡ Some object) ⊎ (rests_on schema db d object ≡ true) → RestsOn schema db (d ∷ ds) object
        either (inl f) = absurd (made_anew (made_by d) anew.0 f)
        either (inr f) = record { place = 0; operation = d; at = refl; rests = f }

    later : wrote d object ≡ false → (answer schema db d.0).0 ≡ d.1 → RestsOn schema (answer schema db d.0).1 ds object → RestsOn schema db (d ∷ ds) object
    later e told rest = record {
      place = suc rest.place;
      operation = rest.operation;
      at = rest.at;
      rests = sym (ap (λ row. (object.0 == class_of rest.operation.0) && option_map_or (rests schema rest.operation.0 rest.operation.1 object.1) row false) (unwritten_row schema db d object told e)) ∙ rest.rests;
    }

    unwritten_left : (l : Option (Option Row)) (b : Bool) → b ≡ false → option_or l (cond b (Some (row_left d.0)) None) ≡ Some r → l ≡ Some r
    unwritten_left (Some s) b e f = f
    unwritten_left None true e f = (cc)
    unwritten_left None false e f = (cc)

    split : (b : Bool) → same_reply (answer schema db d.0).0 d.1 ≡ b → IsSome (cond b (run schema (answer schema db d.0).1 ds) None)
        → (IsSome (run schema (answer schema db d.0).1 ds) → last_left object ds ≡ Some r → RestsOn schema (answer schema db d.0).1 ds object) → RestsOn schema db (d ∷ ds) object
    split false e runs rest = (cc)
    split true e runs rest = by_write (wrote d object) refl
      where
        told : (answer schema db d.0).0 ≡ d.1
        told = same_reply_is (answer schema db d.0).0 d.1 e

        by_write : (b : Bool) → wrote d object ≡ b → RestsOn schema db (d ∷ ds) object
        by_write true f = here f told
        by_write false f = later f told (rest runs (unwritten_left (last_left object ds) (wrote d object) f left))

-- what a story makes anew no commit wrote
none_there : (classes : ℕ) (class id : ℕ) → is_some (row_of (objects_of (empty classes) class) id) ≡ true → ⊥
none_there zero class id e = (cc)
none_there (suc n) zero id e = (cc)
none_there (suc n) (suc class) id e = none_there n class id e

commit_made : (within : Span) (schema : Schema) (journal : List Entry) → KeepsLaw within schema journal → (own : Story) (commit : ℕ) → Contains journal (entry.Commit own commit) → (w : ℕ × ℕ) → was_written own.done w ≡ true
    → was_made (made_before journal) w ≡ true
commit_made within schema journal law own commit stands w e =
    commit_wrote schema journal 0 (empty (length schema.classes)) [] own commit (λ v is. absurd (none_there (length schema.classes) v.0 v.1 is)) (commits_run schema journal law.numbers law.replies) stands w e

made_by_first : (made more : List (ℕ × ℕ)) (w : ℕ × ℕ) → was_made (made ++ more) w ≡ false → was_made made w ≡ false
made_by_first made more w e = go (was_made made w) refl
  where
    go : (b : Bool) → was_made made w ≡ b → b ≡ false
    go true f = let g = made_left made more w f in (cc)
    go false f = refl

all_anew : (made : List (ℕ × ℕ)) (done : List (Op × Reply)) (P : ℕ × ℕ → Type 0) → ((w : ℕ × ℕ) → was_made made w ≡ false → P w) → MakesAnew made done → All P (made_in done)
all_anew made [] P holds anew = λ k d lt. absurd (omega arith)
all_anew made (d ∷ ds) P holds anew =
    go (made_by d) anew.0 (all_anew (made ++ made_in (d ∷ [])) ds P (λ w e. holds w (made_by_first made (made_in (d ∷ [])) w e)) anew.1)
  where
    go : (o : Option (ℕ × ℕ)) → option_map_or (was_made made) o false ≡ false → All P (made_in ds) → All P (cons_option o (made_in ds))
    go None e rest = rest
    go (Some w) e rest = All-cons P w (made_in ds) (holds w e) rest

alone : (within : Span) (schema : Schema) (journal : List Entry) (story : Story) (to : ℕ) → KeepsLaw within schema journal → IsValid schema journal story → AreLeftAlone schema journal story.snapshot to story
alone within schema journal story to law valid own commit stands from le = record {
  touches_none = valid.touches_none own commit stands from;
  writes_none_made = all_anew (made_before journal) story.done (λ object. was_written own.done object ≡ false) unwritten valid.makes_anew;
}
  where
    unwritten : (w : ℕ × ℕ) → was_made (made_before journal) w ≡ false → was_written own.done w ≡ false
    unwritten w e = go (was_written own.done w) refl
      where
        go : (b : Bool) → was_written own.done w ≡ b → b ≡ false
        go true f = let g = commit_made within schema journal law own commit stands w f in (cc)
        go false f = refl

-- no commit that a valid story doesn't see wrote an object that the story wrote
pub no_other_wrote : (within : Span) (schema : Schema) (journal : List Entry) (story : Story) → KeepsLaw within schema journal → IsValid schema journal story → (n : ℕ) (object : ℕ × ℕ) (r s : Option Row)
    → story.snapshot < n → n ≤ commits journal → last_left object (done_in journal n) ≡ Some r → last_left object story.done ≡ Some s → ⊥
no_other_wrote within schema journal story law valid zero object r s above le theirs mine = absurd (omega arith)
no_other_wrote within schema journal story law valid (suc k) object r s above le theirs mine = go there
  where
    there : (done : List (Op × Reply)) × (slice_get (filter_map committed journal) k ≡ Some done)
    there = get_there (filter_map committed journal) k (let h = commits_are journal in omega arith)

    go : (done : List (Op × Reply)) × (slice_get (filter_map committed journal) k ≡ Some done) → ⊥
    go found =
        let commit : IsCommitAt schema 0 (empty (length schema.classes)) journal k found.0 = commit_at schema journal 0 (empty (length schema.classes)) k found.0 (commits_run schema journal law.numbers law.replies) found.1 in
        let number : suc (0 + k) ≡ suc k = omega arith in
        let stands : Contains journal (entry.Commit commit.own (suc k)) = subst (λ (m : ℕ). Contains journal (entry.Commit commit.own m)) number commit.stands in
        let same : done_in journal (suc k) ≡ commit.own.done = ap (λ o. unwrap_or o []) found.1 ∙ sym commit.has in
        let wrote_it : was_written commit.own.done object ≡ true = left_written object commit.own.done r (ap (last_left object) (sym same) ∙ theirs) in
        let runs : RunsAfter schema journal k story = still_runs schema journal story story.snapshot k law.numbers law.replies (omega arith) valid.runs (alone within schema journal story k law valid) in
        let rests : RestsOn schema (fold schema journal k) story.done object = story_rests schema story.done (fold schema journal k) (made_before journal) object s runs valid.makes_anew (commit_made within schema journal law commit.own (suc k) stands object wrote_it) mine in
        let before : suc k - 1 ≡ k = omega arith in
        let place : rests.place + 1 - 1 ≡ rests.place = omega arith in
        let touch : touched schema (fold schema journal k) (entry.Commit commit.own (suc k)) story (rests.place + 1) ≡ true =
        touching (fold schema journal k) commit.own (suc k) rests (rests.place + 1 - 1) (ap (slice_get story.done) place ∙ rests.at) wrote_it in
        let none : touched schema (fold schema journal (suc k - 1)) (entry.Commit commit.own (suc k)) story (rests.place + 1) ≡ false = valid.touches_none commit.own (suc k) stands above (rests.place + 1) in
        let none_here : touched schema (fold schema journal k) (entry.Commit commit.own (suc k)) story (rests.place + 1) ≡ false = subst (λ (m : ℕ). touched schema (fold schema journal m) (entry.Commit commit.own (suc k)) story (rests.place + 1) ≡ false) before none in
        (cc)
      where
        touching : (db : Database) (own : Story) (commit : ℕ) (rests : RestsOn schema db story.done object) (at : ℕ) → slice_get story.done at ≡ Some rests.operation → was_written own.done object ≡ true
            → option_map_or (λ d. list_any (λ w. rests_on schema db d w || rests_on schema (after schema db own.done) d w) (filter_map written_by own.done)) (slice_get story.done at) false ≡ true
        touching db own commit rests at here e =
            ap (λ o. option_map_or (λ d. list_any (λ w. rests_on schema db d w || rests_on schema (after schema db own.done) d w) (filter_map written_by own.done)) o false) here
            ∙ any_more (λ w. same_object w object) (λ w. rests_on schema db rests.operation w || rests_on schema (after schema db own.done) rests.operation w) (filter_map written_by own.done)
            (λ w f. let same : w ≡ object = same_are_one w object f in ap (λ b. b || rests_on schema (after schema db own.done) rests.operation w) (ap (rests_on schema db rests.operation) same ∙ rests.rests)) e
