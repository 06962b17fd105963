-- The stories of a journal in serial order, run one after another.
use Rattle.std.proofs.Common.{◌≡◌, ℕ, suc, ◌+◌, ◌≤◌, Bool, true, false, ◌&&◌, not, cond, List, [], ◌∷◌, ◌++◌, length, map, take, filter_map, Some, None, Contains, nat_eq, nat_le, refl, sym, ap, subst, ◌∙◌, arith, append_assoc}
use Rattle.std.specs.List.{cons_option}
use Rattle.std.proofs.lemmas.Bool.Decides.{nat_tests}
use Rattle.std.proofs.lemmas.List.{take-append-le}
use Rattle.std.proofs.lemmas.List.Elements.{filter_map-append}
use Rattle.rdb_base.specs.declared.identity.Kind.TheVariants as kind
use Rattle.rdb_base.specs.declared.operation.Op.{Op}
use Rattle.rdb_base.specs.declared.operation.Op.TheVariants as op
use Rattle.rdb_base.specs.declared.operation.Reply.{Reply}
use Rattle.rdb_base.specs.declared.journal.Story.{Story}
use Rattle.rdb_base.specs.declared.journal.Entry.{Entry}
use Rattle.rdb_base.specs.declared.journal.Entry.TheVariants as entry
use Rattle.rdb_schema.specs.declared.schema.Schema.{Schema}
use Rattle.rdb_model.specs.Database.{Database, empty}
use Rattle.rdb_model.specs.Answer.{answer}
use Rattle.rdb_model.specs.Story.{same_reply, run, after}
use Rattle.rdb_model.specs.Journal.{commits, committed, after_all, fold, made_before, is_placed, breaks_place, breaks_reply}
use Rattle.rdb_model.specs.Parts.{NumbersInOrder, IsWellPlaced, RepliesHold}
use Rattle.rdb_model.specs.Fits.{fits, AllFit}
use Rattle.rdb_model.specs.Serial.{read_at, committed_stories, interleaved, serial_order}
use Rattle.rdb_model.specs.SerialRun.{operations_of, ReadsFit}
use Rattle.rdb_model.proofs.PartLemmas.{holds_here}
use Rattle.rdb_model.proofs.LegalCommits.{CommitsRun, commits_are, commits_run, right_runs, fold_all}

-- two runs, one after the other
pub run_append : (schema : Schema) (xs ys : List (Op × Reply)) (db next : Database) → run schema db xs ≡ Some next → run schema db (xs ++ ys) ≡ run schema next ys
run_append schema [] ys db next runs = let same : db ≡ next = (cc) in ap (λ d. run schema d ys) same
run_append schema (x ∷ xs) ys db next runs = go (same_reply (answer schema db x.0).0 x.1) (run_append schema xs ys (answer schema db x.0).1 next) runs
  where
    go : (b : Bool) → (run schema (answer schema db x.0).1 xs ≡ Some next → run schema (answer schema db x.0).1 (xs ++ ys) ≡ run schema next ys) → cond b (run schema (answer schema db x.0).1 xs) None ≡ Some next → cond b (run schema (answer schema db x.0).1 (xs ++ ys)) None ≡ run schema next ys
    go true rest runs = rest runs
    go false rest runs = (cc)

pub operations_append : (xs ys : List Story) → operations_of (xs ++ ys) ≡ operations_of xs ++ operations_of ys
operations_append [] ys = refl
operations_append (x ∷ xs) ys = ap (λ l. x.done ++ l) (operations_append xs ys) ∙ sym (append_assoc x.done (operations_of xs) (operations_of ys))

-- an operation of a transaction that only reads leaves the database
read_stays : (schema : Schema) (db : Database) (o : Op) → fits schema o kind.ReadOnly ≡ true → (answer schema db o).1 ≡ db
read_stays schema db (op.New class row id) fit = (cc)
read_stays schema db (op.Put class id row) fit = (cc)
read_stays schema db (op.Del class id) fit = (cc)
read_stays schema db (op.Get class id) fit = refl
read_stays schema db (op.Find class at wanted) fit = refl
read_stays schema db (op.Seek class at from up) fit = refl
read_stays schema db (op.Area class at rect inside) fit = refl
read_stays schema db (op.Prefix class at text way) fit = refl
read_stays schema db (op.Count class) fit = refl

reads_stay : (schema : Schema) (db : Database) (done : List (Op × Reply)) → AllFit schema kind.ReadOnly done → after schema db done ≡ db
reads_stay schema db [] fit = refl
reads_stay schema db (d ∷ ds) fit =
    let here : fits schema d.0 kind.ReadOnly ≡ true = fit 0 d (omega arith) in
    ap (λ b. after schema b ds) (read_stays schema db d.0 here) ∙ reads_stay schema db ds (λ k e lt. fit (suc k) e (omega arith))

-- the reads of a journal that see n commits run on a database, and leave it
abbrev pub ReadsRun : Schema → ℕ → Database → List Entry → Type 0
ReadsRun schema n db [] = Unit {0}
ReadsRun schema n db (entry.Read story ∷ es) = (nat_eq story.snapshot n ≡ true → run schema db story.done ≡ Some db) × ReadsRun schema n db es
ReadsRun schema n db (entry.Commit story commit ∷ es) = ReadsRun schema n db es
ReadsRun schema n db (entry.Abort story cause ∷ es) = ReadsRun schema n db es
ReadsRun schema n db (entry.Handled client by at finished ∷ es) = ReadsRun schema n db es
ReadsRun schema n db (entry.Closed client ∷ es) = ReadsRun schema n db es

-- they are one run that leaves it
run_block : (schema : Schema) (n : ℕ) (db : Database) (es : List Entry) → ReadsRun schema n db es → run schema db (operations_of (filter_map (read_at n) es)) ≡ Some db
run_block schema n db [] all = refl
run_block schema n db (entry.Read story ∷ es) all = go (nat_eq story.snapshot n) refl (run_block schema n db es all.1)
  where
    go : (b : Bool) → nat_eq story.snapshot n ≡ b → run schema db (operations_of (filter_map (read_at n) es)) ≡ Some db → run schema db (operations_of (cons_option (cond b (Some story) None) (filter_map (read_at n) es))) ≡ Some db
    go true e rest = run_append schema story.done (operations_of (filter_map (read_at n) es)) db db (all.0 e) ∙ rest
    go false e rest = rest
run_block schema n db (entry.Commit story commit ∷ es) all = run_block schema n db es all
run_block schema n db (entry.Abort story cause ∷ es) all = run_block schema n db es all
run_block schema n db (entry.Handled client by at finished ∷ es) all = run_block schema n db es all
run_block schema n db (entry.Closed client ∷ es) all = run_block schema n db es all

-- the commits' stories, one after another
abbrev pub StoriesRun : Schema → Database → List Story → Type 0
StoriesRun schema db [] = Unit {0}
StoriesRun schema db (s ∷ ss) = (run schema db s.done ≡ Some (after schema db s.done)) × StoriesRun schema (after schema db s.done) ss

stories_run : (schema : Schema) (n : ℕ) (db : Database) (es : List Entry) → CommitsRun schema n db es → StoriesRun schema db (committed_stories es)
stories_run schema n db [] all = tt
stories_run schema n db (entry.Commit story commit ∷ es) all = (all.1, stories_run schema (suc n) (after schema db story.done) es all.2)
stories_run schema n db (entry.Read story ∷ es) all = stories_run schema n db es all
stories_run schema n db (entry.Abort story cause ∷ es) all = stories_run schema n db es all
stories_run schema n db (entry.Handled client by at finished ∷ es) all = stories_run schema n db es all
stories_run schema n db (entry.Closed client ∷ es) all = stories_run schema n db es all

pub stories_are : (es : List Entry) → map (λ s. s.done) (committed_stories es) ≡ filter_map committed es
stories_are [] = refl
stories_are (entry.Commit story commit ∷ es) = ap (λ l. story.done ∷ l) (stories_are es)
stories_are (entry.Read story ∷ es) = stories_are es
stories_are (entry.Abort story cause ∷ es) = stories_are es
stories_are (entry.Handled client by at finished ∷ es) = stories_are es
stories_are (entry.Closed client ∷ es) = stories_are es

-- reads and commits in turn are one run
run_interleaved : (schema : Schema) (journal : List Entry) (stories : List Story) (n : ℕ) (db : Database) → StoriesRun schema db stories → ((i : ℕ) → i ≤ length stories → ReadsRun schema (n + i) (after_all schema db (take i (map (λ s. s.done) stories))) journal) → run schema db (operations_of (interleaved journal n stories)) ≡ Some (after_all schema db (map (λ s. s.done) stories))
run_interleaved schema journal [] n db all reads =
    let here : n + 0 ≡ n = omega arith in
    run_block schema n db journal (subst (λ m. ReadsRun schema m db journal) here (reads 0 (omega arith)))
run_interleaved schema journal (s ∷ ss) n db all reads =
    let here : n + 0 ≡ n = omega arith in
    let block : run schema db (operations_of (filter_map (read_at n) journal)) ≡ Some db = run_block schema n db journal (subst (λ m. ReadsRun schema m db journal) here (reads 0 (omega arith))) in
    ap (run schema db) (operations_append (filter_map (read_at n) journal) (s ∷ interleaved journal (n + 1) ss))
    ∙ run_append schema (operations_of (filter_map (read_at n) journal)) (s.done ++ operations_of (interleaved journal (n + 1) ss)) db db block
    ∙ run_append schema s.done (operations_of (interleaved journal (n + 1) ss)) db (after schema db s.done) all.0
    ∙ run_interleaved schema journal ss (n + 1) (after schema db s.done) all.1
    (λ i le. let next : n + suc i ≡ n + 1 + i = omega arith in subst (λ m. ReadsRun schema m (after_all schema (after schema db s.done) (take i (map (λ s. s.done) ss))) journal) next (reads (suc i) (omega arith)))

-- a fold of what a journal begins with is that of the journal
pub fold_front : (schema : Schema) (front back : List Entry) (n : ℕ) → n ≤ commits front → fold schema front n ≡ fold schema (front ++ back) n
fold_front schema front back n le =
    let within : n ≤ length (filter_map committed front) = omega (arith, commits_are front) in
    ap (after_all schema (empty (length schema.classes))) (sym (take-append-le n (filter_map committed front) (filter_map committed back) within) ∙ ap (take n) (sym (filter_map-append committed front back)))

-- the parts of a place
pub snapshot_below : (earlier : List Entry) (story : Story) → not (is_placed earlier story) ≡ false → story.snapshot ≤ commits earlier
snapshot_below earlier story placed = go (nat_le story.begun (length earlier)) (nat_le (commits (take story.begun earlier)) story.snapshot) (nat_le story.snapshot (commits earlier)) refl placed
  where
    go : (a b c : Bool) → nat_le story.snapshot (commits earlier) ≡ c → not (a && (b && c)) ≡ false → story.snapshot ≤ commits earlier
    go true true true e p = grind (arith, nat_tests)
    go true true false e p = (cc)
    go true false c e p = (cc)
    go false b c e p = (cc)

contains_at : (earlier : List Entry) (e : Entry) (es : List Entry) → Contains (earlier ++ e ∷ es) e
contains_at [] e es = (0, omega arith, refl)
contains_at (x ∷ xs) e es = let c = contains_at xs e es in (suc c.0, omega (arith, c.1), c.2)

module _ (schema : Schema) (journal : List Entry) (placed : IsWellPlaced journal) (replies : RepliesHold schema journal) (fit : ReadsFit schema journal) (n : ℕ) where
  -- the reads of a journal run on the database that they see
  reads_run : (earlier es : List Entry) → earlier ++ es ≡ journal → ReadsRun schema n (fold schema journal n) es
  reads_run earlier [] whole = tt
  reads_run earlier (entry.Read story ∷ es) whole = (runs, reads_run (earlier ++ entry.Read story ∷ []) es (append_assoc earlier (entry.Read story ∷ []) es ∙ whole))
    where
      runs : nat_eq story.snapshot n ≡ true → run schema (fold schema journal n) story.done ≡ Some (fold schema journal n)
      runs sees =
          let same : story.snapshot ≡ n = grind (arith, nat_tests) in
          let below : story.snapshot ≤ commits earlier = snapshot_below earlier story (holds_here (λ earlier e. breaks_place earlier e ≡ false) journal earlier es (entry.Read story) placed whole) in
          let none : breaks_reply schema earlier (entry.Read story) ≡ None = holds_here (λ earlier e. breaks_reply schema earlier e ≡ None) journal earlier es (entry.Read story) replies whole in
          let right : run schema (fold schema earlier story.snapshot) story.done ≡ Some (after schema (fold schema earlier story.snapshot) story.done) = right_runs schema (fold schema earlier story.snapshot) (made_before earlier) 1 story.done none in
          let alike : fold schema earlier story.snapshot ≡ fold schema journal n = fold_front schema earlier (entry.Read story ∷ es) story.snapshot below ∙ ap (λ j. fold schema j story.snapshot) whole ∙ ap (fold schema journal) same in
          let stands : Contains journal (entry.Read story) = subst (λ j. Contains j (entry.Read story)) whole (contains_at earlier (entry.Read story) es) in
          let stays : after schema (fold schema journal n) story.done ≡ fold schema journal n = reads_stay schema (fold schema journal n) story.done (fit story stands) in
          subst (λ d. run schema d story.done ≡ Some (after schema d story.done)) alike right ∙ ap Some stays
  reads_run earlier (entry.Commit story commit ∷ es) whole = reads_run (earlier ++ entry.Commit story commit ∷ []) es (append_assoc earlier (entry.Commit story commit ∷ []) es ∙ whole)
  reads_run earlier (entry.Abort story cause ∷ es) whole = reads_run (earlier ++ entry.Abort story cause ∷ []) es (append_assoc earlier (entry.Abort story cause ∷ []) es ∙ whole)
  reads_run earlier (entry.Handled client by at finished ∷ es) whole = reads_run (earlier ++ entry.Handled client by at finished ∷ []) es (append_assoc earlier (entry.Handled client by at finished ∷ []) es ∙ whole)
  reads_run earlier (entry.Closed client ∷ es) whole = reads_run (earlier ++ entry.Closed client ∷ []) es (append_assoc earlier (entry.Closed client ∷ []) es ∙ whole)

-- a journal in serial order is one run, which ends in the database after all commits
pub serial_runs : (schema : Schema) (journal : List Entry) → NumbersInOrder journal → IsWellPlaced journal → RepliesHold schema journal → ReadsFit schema journal → run schema (empty (length schema.classes)) (operations_of (serial_order journal)) ≡ Some (fold schema journal (commits journal))
serial_runs schema journal numbers placed replies fit =
    run_interleaved schema journal (committed_stories journal) 0 (empty (length schema.classes)) (stories_run schema 0 (empty (length schema.classes)) journal (commits_run schema journal numbers replies)) reads
    ∙ ap (λ l. Some (after_all schema (empty (length schema.classes)) l)) (stories_are journal)
    ∙ ap Some (sym (fold_all schema journal))
  where
    reads : (i : ℕ) → i ≤ length (committed_stories journal) → ReadsRun schema (0 + i) (after_all schema (empty (length schema.classes)) (take i (map (λ s. s.done) (committed_stories journal)))) journal
    reads i le =
        let here : 0 + i ≡ i = omega arith in
        subst (λ m. ReadsRun schema m (after_all schema (empty (length schema.classes)) (take i (map (λ s. s.done) (committed_stories journal)))) journal) (sym here)
        (subst (λ l. ReadsRun schema i (after_all schema (empty (length schema.classes)) (take i l)) journal) (sym (stories_are journal)) (reads_run schema journal placed replies fit i [] journal refl))
