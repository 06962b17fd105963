-- The law of validation, commit by commit.
use Rattle.std.proofs.Common.{◌≡◌, ℕ, zero, suc, ◌+◌, ◌-◌, ◌<◌, ◌≤◌, Bool, false, ◌&&◌, ◌||◌, ◌⊎◌, inl, inr, List, [], ◌∷◌, length, take, slice_get, filter_map, Option, Some, None, IsSome, All, Contains, nat_eq, refl, sym, ap, subst, ◌∙◌, arith}
use Rattle.std.specs.List.{AllByRecursion, cons_option, list_any}
use Rattle.std.proofs.lemmas.Bool.{cases_lt}
use Rattle.std.specs.Option.{option_map_or}
use Rattle.rdb_base.specs.declared.operation.Op.{Op}
use Rattle.rdb_base.specs.declared.operation.Reply.{Reply}
use Rattle.rdb_base.specs.declared.journal.Story.{Story}
use Rattle.rdb_base.specs.declared.journal.Entry.{Entry}
use Rattle.rdb_base.specs.declared.journal.Entry.TheVariants as entry
use Rattle.rdb_schema.specs.declared.schema.Schema.{Schema}
use Rattle.rdb_model.specs.Database.{Database, empty, objects_of}
use Rattle.rdb_model.specs.Answer.{answer}
use Rattle.rdb_model.specs.Story.{run, after}
use Rattle.rdb_model.specs.Journal.{committed, after_all, fold, made_by, made_in}
use Rattle.rdb_model.specs.Parts.{NumbersInOrder, RepliesHold}
use Rattle.rdb_model.specs.Touch.{rests_on, touches, written_by}
use Rattle.rdb_model.specs.Validation.{was_written, LeavesAlone, AreLeftAlone, RunsAfter}
use Rattle.rdb_model.proofs.Rising.{IsRising}
use Rattle.rdb_model.proofs.Lacking.{first_fails, second_fails}
use Rattle.rdb_model.proofs.Erasing.{AllRising, rising_answer, makes}
use Rattle.rdb_model.proofs.ErasedStory.{row_in, rests_at, IsPassedOver, ArePassedOver, run_erased_all, run_with_all}
use Rattle.rdb_model.proofs.WrittenObjects.{wrote_these}
use Rattle.rdb_model.proofs.LegalCommits.{commits_run, IsCommitAt, commit_at}

-- the databases of a journal are in order
pub rising_empty : (classes class : ℕ) → IsRising (objects_of (empty classes) class)
rising_empty zero class = tt
rising_empty (suc n) zero = tt
rising_empty (suc n) (suc class) = rising_empty n class

pub rising_after : (schema : Schema) (db : Database) (done : List (Op × Reply)) → AllRising db → AllRising (after schema db done)
rising_after schema db [] all = all
rising_after schema db (d ∷ ds) all = rising_after schema (answer schema db d.0).1 ds (rising_answer schema db d.0 all)

rising_after_all : (schema : Schema) (db : Database) (stories : List (List (Op × Reply))) → AllRising db → AllRising (after_all schema db stories)
rising_after_all schema db [] all = all
rising_after_all schema db (done ∷ stories) all = rising_after_all schema (after schema db done) stories (rising_after schema db done all)

pub rising_fold : (schema : Schema) (journal : List Entry) (n : ℕ) → AllRising (fold schema journal n)
rising_fold schema journal n = rising_after_all schema (empty (length schema.classes)) (take n (filter_map committed journal)) (rising_empty (length schema.classes))

-- what holds of each of the second for each of the first holds of each of the first for each of the second
all_alike : {X Y : Type 0} (R : X → Y → Type 0) (x : X) (ys : List Y) → AllByRecursion (λ y. R x y) ys → (xs : List X) → AllByRecursion (λ y. AllByRecursion (λ x. R x y) xs) ys → AllByRecursion (λ y. AllByRecursion (λ x. R x y) (x ∷ xs)) ys
all_alike R x [] here xs rest = tt
all_alike R x (y ∷ ys) here xs rest = ((here.0, rest.0), all_alike R x ys here.1 xs rest.1)

all_none : {X Y : Type 0} (R : X → Y → Type 0) (ys : List Y) → AllByRecursion (λ y. AllByRecursion (λ (x : X). R x y) []) ys
all_none R [] = tt
all_none R (y ∷ ys) = (tt, all_none R ys)

turned : {X Y : Type 0} (R : X → Y → Type 0) (xs : List X) (ys : List Y) → AllByRecursion (λ x. AllByRecursion (λ y. R x y) ys) xs → AllByRecursion (λ y. AllByRecursion (λ x. R x y) xs) ys
turned R [] ys all = all_none R ys
turned R (x ∷ xs) ys all = all_alike R x ys all.0 xs (turned R xs ys all.1)

module _ (schema : Schema) (before next : Database) where
  -- an operation that isn't touched, and makes none of the objects, rests on none of them as they were or as they are
  one_passes : (d : Op × Reply) (ws : List (ℕ × ℕ)) → list_any (λ w. rests_on schema before d w || rests_on schema next d w) ws ≡ false → list_any (λ w. makes d w) ws ≡ false → AllByRecursion (λ w. ((rests_at schema d w (row_in before w) ≡ false) × (makes d w ≡ false)) × ((rests_at schema d w (row_in next w) ≡ false) × (makes d w ≡ false))) ws
  one_passes d [] untouched unmade = tt
  one_passes d (w ∷ ws) untouched unmade =
      let here = first_fails (rests_on schema before d w || rests_on schema next d w) (list_any (λ w. rests_on schema before d w || rests_on schema next d w) ws) untouched in
      let there = second_fails (rests_on schema before d w || rests_on schema next d w) (list_any (λ w. rests_on schema before d w || rests_on schema next d w) ws) untouched in
      let made_here = first_fails (makes d w) (list_any (λ w. makes d w) ws) unmade in
      let made_there = second_fails (makes d w) (list_any (λ w. makes d w) ws) unmade in (
        (
          (first_fails (rests_on schema before d w) (rests_on schema next d w) here, made_here),
          (second_fails (rests_on schema before d w) (rests_on schema next d w) here, made_here),
        ),
        one_passes d ws there made_there,
      )

-- the first of all, and the others
all_first : {X : Type 0} (P : X → Type 0) (x : X) (xs : List X) → All P (x ∷ xs) → P x
all_first P x xs all = all 0 x (omega arith)

all_rest : {X : Type 0} (P : X → Type 0) (x : X) (xs : List X) → All P (x ∷ xs) → All P xs
all_rest P x xs all = λ k d lt. all (suc k) d (omega arith)

-- whether an object that was made is one of these
abbrev pub is_one_of : Option (ℕ × ℕ) → ℕ × ℕ → Bool
is_one_of made w = option_map_or (λ m. nat_eq w.0 m.0 && nat_eq w.1 m.1) made false

none_is : (ws : List (ℕ × ℕ)) → list_any (is_one_of None) ws ≡ false
none_is [] = refl
none_is (w ∷ ws) = none_is ws

module _ (schema : Schema) (before : Database) (own : List (Op × Reply)) where
  -- an object that was made and isn't written is none of those written
  unmade_first : (made : Option (ℕ × ℕ)) (rest : List (ℕ × ℕ)) → All (λ object. was_written own object ≡ false) (cons_option made rest) → list_any (is_one_of made) (filter_map written_by own) ≡ false
  unmade_first None rest all = none_is (filter_map written_by own)
  unmade_first (Some m) rest all = all_first (λ object. was_written own object ≡ false) m rest all

  unmade_rest : (made : Option (ℕ × ℕ)) (rest : List (ℕ × ℕ)) → All (λ object. was_written own object ≡ false) (cons_option made rest) → All (λ object. was_written own object ≡ false) rest
  unmade_rest None rest all = all
  unmade_rest (Some m) rest all = all_rest (λ object. was_written own object ≡ false) m rest all

  -- what a story's operation says of an object that a commit wrote
  abbrev pub Passes : Database → Op × Reply → ℕ × ℕ → Type 0
  Passes db d w = (rests_at schema d w (row_in db w) ≡ false) × (makes d w ≡ false)

  abbrev pub PassesBoth : Op × Reply → ℕ × ℕ → Type 0
  PassesBoth d w = Passes before d w × Passes (after schema before own) d w

  all_pass : (done : List (Op × Reply)) → ((k : ℕ) → option_map_or (touches schema before own) (slice_get done k) false ≡ false) → All (λ object. was_written own object ≡ false) (made_in done) → AllByRecursion (λ d. AllByRecursion (λ w. PassesBoth d w) (filter_map written_by own)) done
  all_pass [] untouched unmade = tt
  all_pass (d ∷ ds) untouched unmade = (
    one_passes schema before (after schema before own) d (filter_map written_by own) (untouched 0) (unmade_first (made_by d) (made_in ds) unmade),
    all_pass ds (λ k. untouched (suc k)) (unmade_rest (made_by d) (made_in ds) unmade),
  )

  passed_before : (done : List (Op × Reply)) (w : ℕ × ℕ) → AllByRecursion (λ d. PassesBoth d w) done → IsPassedOver schema w (row_in before w) done
  passed_before [] w all = tt
  passed_before (d ∷ ds) w all = (all.0.0, passed_before ds w all.1)

  passed_next : (done : List (Op × Reply)) (w : ℕ × ℕ) → AllByRecursion (λ d. PassesBoth d w) done → IsPassedOver schema w (row_in (after schema before own) w) done
  passed_next [] w all = tt
  passed_next (d ∷ ds) w all = (all.0.1, passed_next ds w all.1)

  all_before : (done : List (Op × Reply)) (ws : List (ℕ × ℕ)) → AllByRecursion (λ w. AllByRecursion (λ d. PassesBoth d w) done) ws → ArePassedOver schema before ws done
  all_before done [] all = tt
  all_before done (w ∷ ws) all = (passed_before done w all.0, all_before done ws all.1)

  all_next : (done : List (Op × Reply)) (ws : List (ℕ × ℕ)) → AllByRecursion (λ w. AllByRecursion (λ d. PassesBoth d w) done) ws → ArePassedOver schema (after schema before own) ws done
  all_next done [] all = tt
  all_next done (w ∷ ws) all = (passed_next done w all.0, all_next done ws all.1)

  -- a story that a commit leaves alone runs after it too
  runs_next : (done : List (Op × Reply)) → AllRising before → run schema before own ≡ Some (after schema before own) → ((k : ℕ) → option_map_or (touches schema before own) (slice_get done k) false ≡ false) → All (λ object. was_written own object ≡ false) (made_in done) → IsSome (run schema before done) → IsSome (run schema (after schema before own) done)
  runs_next done rising own_runs untouched unmade runs =
      let passed : AllByRecursion (λ w. AllByRecursion (λ d. PassesBoth d w) done) (filter_map written_by own) = turned PassesBoth done (filter_map written_by own) (all_pass done untouched unmade) in
      run_with_all schema (filter_map written_by own) (after schema before own) done (rising_after schema before own rising) (all_next done (filter_map written_by own) passed)
      (subst (λ db. IsSome (run schema db done)) (wrote_these schema own before (after schema before own) own_runs)
      (run_erased_all schema (filter_map written_by own) before done rising (all_before done (filter_map written_by own) passed) runs))

-- one commit more, or none
pub after_next : (schema : Schema) (db : Database) (xs : List (List (Op × Reply))) (m : ℕ) (x : List (Op × Reply)) → slice_get xs m ≡ Some x → after_all schema db (take (suc m) xs) ≡ after schema (after_all schema db (take m xs)) x
after_next schema db [] m x is = (cc)
after_next schema db (y ∷ ys) zero x is = let same : y ≡ x = (cc) in ap (after schema db) same
after_next schema db (y ∷ ys) (suc m) x is = after_next schema (after schema db y) ys m x is

after_last : (schema : Schema) (db : Database) (xs : List (List (Op × Reply))) (m : ℕ) → slice_get xs m ≡ None → after_all schema db (take (suc m) xs) ≡ after_all schema db (take m xs)
after_last schema db [] zero is = refl
after_last schema db [] (suc m) is = refl
after_last schema db (y ∷ ys) zero is = (cc)
after_last schema db (y ∷ ys) (suc m) is = after_last schema (after schema db y) ys m is

module _ (schema : Schema) (journal : List Entry) (numbers : NumbersInOrder journal) (replies : RepliesHold schema journal) (story : Story) (from to : ℕ) (alone : AreLeftAlone schema journal from to story) where
  runs_one : (m : ℕ) → from ≤ m → suc m ≤ to → RunsAfter schema journal m story → RunsAfter schema journal (suc m) story
  runs_one m after_from up_to runs = go (slice_get (filter_map committed journal) m) refl
    where
      go : (o : Option (List (Op × Reply))) → slice_get (filter_map committed journal) m ≡ o → RunsAfter schema journal (suc m) story
      go None e = subst (λ db. IsSome (run schema db story.done)) (sym (after_last schema (empty (length schema.classes)) (filter_map committed journal) m e)) runs
      go (Some done) e = at_commit (commit_at schema journal 0 (empty (length schema.classes)) m done (commits_run schema journal numbers replies) e)
        where
          at_commit : IsCommitAt schema 0 (empty (length schema.classes)) journal m done → RunsAfter schema journal (suc m) story
          at_commit c =
              let number : suc (0 + m) ≡ suc m = omega arith in
              let place : suc m - 1 ≡ m = omega arith in
              let stands : Contains journal (entry.Commit c.own (suc m)) = subst (λ n. Contains journal (entry.Commit c.own n)) number c.stands in
              let spared : LeavesAlone schema (fold schema journal m) c.own (suc m) story = subst (λ n. LeavesAlone schema (fold schema journal n) c.own (suc m) story) place (alone c.own (suc m) stands (omega arith) up_to) in
              let own_runs : run schema (fold schema journal m) c.own.done ≡ Some (after schema (fold schema journal m) c.own.done) = subst (λ d. run schema (fold schema journal m) d ≡ Some (after schema (fold schema journal m) d)) (sym c.has) c.runs in
              let next : after schema (fold schema journal m) c.own.done ≡ fold schema journal (suc m) = ap (after schema (fold schema journal m)) c.has ∙ sym (after_next schema (empty (length schema.classes)) (filter_map committed journal) m done e) in
              subst (λ db. IsSome (run schema db story.done)) next
              (runs_next schema (fold schema journal m) c.own.done story.done (rising_fold schema journal m) own_runs (untouched spared) spared.writes_none_made runs)
            where
              untouched : LeavesAlone schema (fold schema journal m) c.own (suc m) story → (k : ℕ) → option_map_or (touches schema (fold schema journal m) c.own.done) (slice_get story.done k) false ≡ false
              untouched spared k = let place : k + 1 - 1 ≡ k = omega arith in subst (λ i. option_map_or (touches schema (fold schema journal m) c.own.done) (slice_get story.done i) false ≡ false) place (spared.touches_none (k + 1))

  runs_to : (n : ℕ) → from ≤ n → n ≤ to → RunsAfter schema journal from story → RunsAfter schema journal n story
  runs_to zero le up_to runs = let same : from ≡ 0 = omega arith in subst (λ n. RunsAfter schema journal n story) same runs
  runs_to (suc n) le up_to runs = go (cases_lt n from) (λ ge. runs_to n ge (omega arith) runs)
    where
      go : (n < from) ⊎ (from ≤ n) → (from ≤ n → RunsAfter schema journal n story) → RunsAfter schema journal (suc n) story
      go (inl lt) rest = let same : from ≡ suc n = omega arith in subst (λ n. RunsAfter schema journal n story) same runs
      go (inr ge) rest = runs_one n ge up_to (rest ge)

pub still_runs : (schema : Schema) (journal : List Entry) (story : Story) (from to : ℕ) → NumbersInOrder journal → RepliesHold schema journal → from ≤ to → RunsAfter schema journal from story → AreLeftAlone schema journal from to story → RunsAfter schema journal to story
still_runs schema journal story from to numbers replies le runs alone = runs_to schema journal numbers replies story from to alone to le (omega arith) runs
