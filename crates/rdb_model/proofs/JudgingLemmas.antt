-- One walk over the commits, each followed by the reads that see it, finds the first wrong reply.
use Rattle.std.proofs.Common.{◌≡◌, ℕ, ◌+◌, ◌^◌, ◌<◌, ◌≤◌, ◌⊎◌, Bool, true, false, cond, not, ◌&&◌, ◌||◌, ◌==◌, nat_eq, nat_le, List, [], ◌∷◌, ◌++◌, length, take, drop, slice_get, slice_index_or, Option, Some, None, refl, sym, ap, ap₂, ◌∙◌, subst, inl, inr, zero, suc, append_assoc, append-nil, take-append-drop, arith, filter_map, All, BTreeSet, take_all, eqb-true, eq-eqb, leb-true}
use Rattle.std.specs.List.{list_any, cons_option}
use Rattle.rdb_base.specs.declared.identity.Kind.TheVariants as kind
use Rattle.rdb_model.specs.Fits.{AllFit}
use Rattle.std.specs.Option.{option_map_or}
use Rattle.std.proofs.lemmas.Bool.{cases_eq, and_parts, or_cases}
use Rattle.std.proofs.lemmas.Option.{slice_get_within, get_or_from_slice_get}
use Rattle.std.proofs.lemmas.List.{length_push, take-append-le}
use Rattle.std.proofs.lemmas.List.Elements.{filter_map-append}
use Rattle.rdb_base.specs.declared.operation.Op.{Op}
use Rattle.rdb_base.specs.declared.operation.Reply.{Reply}
use Rattle.rdb_base.specs.declared.journal.Story.{Story}
use Rattle.rdb_base.specs.declared.journal.Entry.{Entry}
use Rattle.rdb_base.specs.declared.journal.Entry.TheVariants as entry
use Rattle.rdb_schema.specs.declared.schema.Schema.{Schema}
use Rattle.rdb_model.specs.Database.{Database, empty}
use Rattle.rdb_model.specs.Answer.{answer}
use Rattle.rdb_model.specs.Story.{same_reply, after}
use Rattle.rdb_base.specs.Entries.{is_commit}
use Rattle.rdb_model.specs.Journal.{commits, committed, after_all, fold, made_in, made_before, made_by, was_made, wrong_reply, breaks_reply}
use Rattle.rdb_model.specs.Parts.{IsWellPlaced}
use Rattle.rdb_model.specs.FirstFault.{FitsEntry, first_at, fault_at, earlier_of, wrong_read, earliest_read}
use Rattle.rdb_model.specs.Tallies.{HasMade, reads_after, sees, AreReaders}
use Rattle.rdb_model.proofs.FirstFaultLemmas.{settled, IsFault, least, settled_earlier, settled_new, fault_earlier, take_push}
use Rattle.rdb_model.proofs.AnsweringLemmas.{reads_make}
use Rattle.rdb_model.proofs.TallyLemmas.{commits_append, commits_yes, commits_no, made_first}

-- the commits of a prefix are no more than those of the whole
pub commits_take : (journal : List Entry) (i : ℕ) → commits (take i journal) ≤ commits journal
commits_take journal i = let h = commits_append (take i journal) (drop i journal) in let g = ap commits (take-append-drop i journal) in omega arith

-- there is one list of operations for each commit
pub length-committed : (journal : List Entry) → length (filter_map committed journal) ≡ commits journal
length-committed [] = refl
length-committed (entry.Commit story commit ∷ es) = ap suc (length-committed es)
length-committed (entry.Read story ∷ es) = length-committed es
length-committed (entry.Abort story cause ∷ es) = length-committed es
length-committed (entry.Handled client by at finished ∷ es) = length-committed es
length-committed (entry.Closed client ∷ es) = length-committed es

-- the database after commits that a prefix has is the same for the whole
pub fold_take : (schema : Schema) (journal : List Entry) (i n : ℕ) → n ≤ commits (take i journal) → fold schema (take i journal) n ≡ fold schema journal n
fold_take schema journal i n h =
    let many = length-committed (take i journal) in
    let within : n ≤ length (filter_map committed (take i journal)) = omega arith in
    ap (after_all schema (empty (length schema.classes)))
    (sym (take-append-le n (filter_map committed (take i journal)) (filter_map committed (drop i journal)) within)
    ∙ ap (take n) (sym (filter_map-append committed (take i journal) (drop i journal)))
    ∙ ap (λ l. take n (filter_map committed l)) (take-append-drop i journal))

-- the database after one story more
pub after_all_push : (schema : Schema) (db : Database) (stories : List (List (Op × Reply))) (done : List (Op × Reply)) → after_all schema db (stories ++ done ∷ []) ≡ after schema (after_all schema db stories) done
after_all_push schema db [] done = refl
after_all_push schema db (s ∷ ss) done = after_all_push schema (after schema db s) ss done

-- what has operations to commit is a commit, and nothing else is
pub commit_yes : (e : Entry) (done : List (Op × Reply)) → committed e ≡ Some done → is_commit e ≡ true
commit_yes (entry.Commit story commit) done is = refl
commit_yes (entry.Read story) done is = absurd (cc)
commit_yes (entry.Abort story cause) done is = absurd (cc)
commit_yes (entry.Handled client by moment finished) done is = absurd (cc)
commit_yes (entry.Closed client) done is = absurd (cc)

pub commit_no : (e : Entry) → committed e ≡ None → is_commit e ≡ false
commit_no (entry.Commit story commit) is = absurd (cc)
commit_no (entry.Read story) is = refl
commit_no (entry.Abort story cause) is = refl
commit_no (entry.Handled client by moment finished) is = refl
commit_no (entry.Closed client) is = refl

-- a commit makes the next database of the one before it
pub fold_next : (schema : Schema) (journal : List Entry) (i : ℕ) (e : Entry) (done : List (Op × Reply)) → slice_get journal i ≡ Some e → committed e ≡ Some done → fold schema journal (commits (take i journal) + 1) ≡ after schema (fold schema journal (commits (take i journal))) done
fold_next schema journal i e done at is =
    let more : take (i + 1) journal ≡ take i journal ++ e ∷ [] = take_push journal i e at in
    let one : commits (take (i + 1) journal) ≡ commits (take i journal) + 1 = ap commits more ∙ commits_yes (take i journal) e (commit_yes e done is) in
    let many : length (filter_map committed (take i journal)) ≡ commits (take i journal) = length-committed (take i journal) in
    let longer : length (filter_map committed (take i journal) ++ done ∷ []) ≤ commits (take i journal) + 1 = let l = length_push (filter_map committed (take i journal)) done in omega arith in
    let listed : filter_map committed (take (i + 1) journal) ≡ filter_map committed (take i journal) ++ done ∷ [] = ap (filter_map committed) more ∙ filter_map-append committed (take i journal) (e ∷ []) ∙ ap (λ o. filter_map committed (take i journal) ++ cons_option o []) is in
    sym (fold_take schema journal (i + 1) (commits (take i journal) + 1) (omega arith))
    ∙ ap (λ l. after_all schema (empty (length schema.classes)) (take (commits (take i journal) + 1) l)) listed
    ∙ ap (after_all schema (empty (length schema.classes))) (take_all (commits (take i journal) + 1) (filter_map committed (take i journal) ++ done ∷ []) longer)
    ∙ after_all_push schema (empty (length schema.classes)) (filter_map committed (take i journal)) done
    ∙ ap (λ l. after schema (after_all schema (empty (length schema.classes)) l) done) (sym (take_all (commits (take i journal)) (filter_map committed (take i journal)) (omega arith)))
    ∙ ap (λ db. after schema db done) (fold_take schema journal i (commits (take i journal)) (omega arith))

-- the objects made, with one entry more
pub made_push : (xs : List Entry) (e : Entry) → made_before (xs ++ e ∷ []) ≡ made_before xs ++ option_map_or made_in (committed e) []
made_push [] e = append-nil (option_map_or made_in (committed e) [])
made_push (x ∷ xs) e = ap (λ l. option_map_or made_in (committed x) [] ++ l) (made_push xs e) ∙ sym (append_assoc (option_map_or made_in (committed x) []) (made_before xs) (option_map_or made_in (committed e) []))

-- what is wrong with the entry at a place
pub fault_there : {A : Type 0} (fault : List Entry → Entry → Option A) (journal : List Entry) (i : ℕ) (e : Entry) → slice_get journal i ≡ Some e → fault_at fault journal i ≡ fault (take i journal) e
fault_there fault journal i e at = ap (λ o. option_map_or (fault (take i journal)) o None) at

pub commit_fault : (schema : Schema) (journal : List Entry) (i : ℕ) (e : Entry) (done : List (Op × Reply)) → slice_get journal i ≡ Some e → committed e ≡ Some done → fault_at (breaks_reply schema) journal i ≡ wrong_reply schema (fold schema journal (commits (take i journal))) (made_before (take i journal)) 1 done
commit_fault schema journal i e done at is =
    fault_there (breaks_reply schema) journal i e at
    ∙ by_entry e is
    ∙ ap (λ db. wrong_reply schema db (made_before (take i journal)) 1 done) (fold_take schema journal i (commits (take i journal)) (omega arith))
  where
    by_entry : (x : Entry) → committed x ≡ Some done → breaks_reply schema (take i journal) x ≡ wrong_reply schema (fold schema (take i journal) (commits (take i journal))) (made_before (take i journal)) 1 done
    by_entry (entry.Commit story commit) so = let same : story.done ≡ done = cc in ap (wrong_reply schema (fold schema (take i journal) (commits (take i journal))) (made_before (take i journal)) 1) same
    by_entry (entry.Read story) so = absurd (cc)
    by_entry (entry.Abort story cause) so = absurd (cc)
    by_entry (entry.Handled client by moment finished) so = absurd (cc)
    by_entry (entry.Closed client) so = absurd (cc)

-- a read makes nothing, so what was made before doesn't matter to it
read_alone : (schema : Schema) (db : Database) (made other : List (ℕ × ℕ)) (n : ℕ) (done : List (Op × Reply)) → AllFit schema kind.ReadOnly done → wrong_reply schema db made n done ≡ wrong_reply schema db other n done
read_alone schema db made other n [] fit = refl
read_alone schema db made other n (d ∷ ds) fit =
    go (made_by d) (reads_make schema d.0 d.1 (fit 0 d (omega arith))) (λ more others. read_alone schema (answer schema db d.0).1 more others (n + 1) ds (λ k e lt. fit (suc k) e (omega arith)))
  where
    go : (o : Option (ℕ × ℕ)) → o ≡ None → ((more others : List (ℕ × ℕ)) → wrong_reply schema (answer schema db d.0).1 more (n + 1) ds ≡ wrong_reply schema (answer schema db d.0).1 others (n + 1) ds) → cond (same_reply (answer schema db d.0).0 d.1 && not (option_map_or (was_made made) o false)) (wrong_reply schema (answer schema db d.0).1 (made ++ cons_option o []) (n + 1) ds) (Some n) ≡ cond (same_reply (answer schema db d.0).0 d.1 && not (option_map_or (was_made other) o false)) (wrong_reply schema (answer schema db d.0).1 (other ++ cons_option o []) (n + 1) ds) (Some n)
    go None is rest = ap (λ w. cond (same_reply (answer schema db d.0).0 d.1 && true) w (Some n)) (rest (made ++ []) (other ++ []))
    go (Some m) is rest = absurd (cc)

-- a read that sees n commits is judged on the database after n
pub read_fault : (schema : Schema) (journal : List Entry) → All (FitsEntry schema) journal → (n i : ℕ) → sees journal n i ≡ true → option_map_or (wrong_read schema (fold schema journal n)) (slice_get journal i) None ≡ fault_at (breaks_reply schema) journal i
read_fault schema journal fit n i = by_get (slice_get journal i) refl
  where
    by_entry : (e : Entry) → FitsEntry schema e → reads_after n (commits (take i journal)) e ≡ true → wrong_read schema (fold schema journal n) e ≡ breaks_reply schema (take i journal) e
    by_entry (entry.Read story) fits s =
        let h = and_parts (story.snapshot == n) (nat_le n (commits (take i journal))) s in
        let same : story.snapshot ≡ n = eqb-true story.snapshot n h.0 in
        let le : n ≤ commits (take i journal) = leb-true n (commits (take i journal)) h.1 in
        ap (λ db. wrong_reply schema db [] 1 story.done) (sym (fold_take schema journal i n le) ∙ ap (fold schema (take i journal)) (sym same))
        ∙ read_alone schema (fold schema (take i journal) story.snapshot) [] (made_before (take i journal)) 1 story.done fits.each
    by_entry (entry.Commit story commit) fits s = absurd (cc)
    by_entry (entry.Abort story cause) fits s = absurd (cc)
    by_entry (entry.Handled client by at finished) fits s = absurd (cc)
    by_entry (entry.Closed client) fits s = absurd (cc)

    by_get : (o : Option Entry) → slice_get journal i ≡ o → option_map_or (reads_after n (commits (take i journal))) o false ≡ true → option_map_or (wrong_read schema (fold schema journal n)) o None ≡ option_map_or (breaks_reply schema (take i journal)) o None
    by_get None at s = refl
    by_get (Some e) at s = by_entry e (subst (FitsEntry schema) (get_or_from_slice_get journal i e e at) (fit i e (slice_get_within journal i e at))) s

-- the earliest of faults of reads: it is a fault, keeps what was settled, and settles each of the reads
pub earliest_fault : (schema : Schema) (db : Database) (journal : List Entry) (best : Option (ℕ × ℕ)) (places : List ℕ) → ((p : ℕ) → list_any (nat_eq p) places ≡ true → option_map_or (wrong_read schema db) (slice_get journal p) None ≡ fault_at (breaks_reply schema) journal p) → IsFault (breaks_reply schema) journal best → IsFault (breaks_reply schema) journal (earliest_read schema db journal best places)
earliest_fault schema db journal best [] each right = right
earliest_fault schema db journal best (p ∷ ps) each right =
    earliest_fault schema db journal (earlier_of best p (option_map_or (wrong_read schema db) (slice_get journal p) None)) ps
    (λ q h. each q (more q h))
    (fault_earlier (breaks_reply schema) journal best p _ right (each p (here p)))
  where
    here : (q : ℕ) → (nat_eq q q || list_any (nat_eq q) ps) ≡ true
    here q = ap (λ b. b || list_any (nat_eq q) ps) (eq-eqb q q refl)

    more : (q : ℕ) → list_any (nat_eq q) ps ≡ true → (nat_eq q p || list_any (nat_eq q) ps) ≡ true
    more q h = ap (λ b. nat_eq q p || b) h ∙ or_true (nat_eq q p)
      where
        or_true : (b : Bool) → (b || true) ≡ true
        or_true true = refl
        or_true false = refl

pub earliest_keeps : (schema : Schema) (db : Database) (journal : List Entry) (best : Option (ℕ × ℕ)) (places : List ℕ) (k : ℕ) (f : Option ℕ) → settled best k f ≡ true → settled (earliest_read schema db journal best places) k f ≡ true
earliest_keeps schema db journal best [] k f s = s
earliest_keeps schema db journal best (p ∷ ps) k f s = earliest_keeps schema db journal (earlier_of best p (option_map_or (wrong_read schema db) (slice_get journal p) None)) ps k f (settled_earlier best p k (option_map_or (wrong_read schema db) (slice_get journal p) None) f s)

pub earliest_settles : (schema : Schema) (db : Database) (journal : List Entry) (best : Option (ℕ × ℕ)) (places : List ℕ) (k : ℕ) → list_any (nat_eq k) places ≡ true → settled (earliest_read schema db journal best places) k (option_map_or (wrong_read schema db) (slice_get journal k) None) ≡ true
earliest_settles schema db journal best [] k h = absurd (cc)
earliest_settles schema db journal best (p ∷ ps) k h = by_test (or_cases (nat_eq k p) (list_any (nat_eq k) ps) h) (λ g. earliest_settles schema db journal (earlier_of best p (option_map_or (wrong_read schema db) (slice_get journal p) None)) ps k g)
  where
    by_test : (nat_eq k p ≡ true) ⊎ (list_any (nat_eq k) ps ≡ true) → (list_any (nat_eq k) ps ≡ true → settled (earliest_read schema db journal (earlier_of best p (option_map_or (wrong_read schema db) (slice_get journal p) None)) ps) k (option_map_or (wrong_read schema db) (slice_get journal k) None) ≡ true) → settled (earliest_read schema db journal best (p ∷ ps)) k (option_map_or (wrong_read schema db) (slice_get journal k) None) ≡ true
    by_test (inl e) rest =
        let same : k ≡ p = eqb-true k p e in
        earliest_keeps schema db journal (earlier_of best p (option_map_or (wrong_read schema db) (slice_get journal p) None)) ps k (option_map_or (wrong_read schema db) (slice_get journal k) None)
        (subst (λ q. settled (earlier_of best p (option_map_or (wrong_read schema db) (slice_get journal p) None)) q (option_map_or (wrong_read schema db) (slice_get journal q) None) ≡ true) (sym same) (settled_new best p (option_map_or (wrong_read schema db) (slice_get journal p) None)))
    by_test (inr g) rest = rest g

-- how far a journal is judged: the commits before a place, and the reads that see no more than so many of them
pub record Judged (schema : Schema) (journal : List Entry) (place : ℕ) (db : Database) (made : BTreeSet (ℕ × ℕ)) (seen : ℕ) (best : Option (ℕ × ℕ)) : Type 0 where
  pub database : db ≡ fold schema journal seen
  pub counted : seen ≡ commits (take place journal)
  pub objects : HasMade (made_before (take place journal)) made
  pub right : IsFault (breaks_reply schema) journal best
  pub commits_done : (k : ℕ) → k < place → option_map_or is_commit (slice_get journal k) false ≡ true → settled best k (fault_at (breaks_reply schema) journal k) ≡ true
  pub reads_done : (n k : ℕ) → n ≤ seen → sees journal n k ≡ true → settled best k (fault_at (breaks_reply schema) journal k) ≡ true

-- the reads that see no commit
pub judged_first : (schema : Schema) (journal : List Entry) (db : Database) (made : BTreeSet (ℕ × ℕ)) (readers : List (List ℕ)) (best : Option (ℕ × ℕ)) → db ≡ empty (length schema.classes) → made.keys ≡ [] → All (FitsEntry schema) journal → AreReaders journal readers → best ≡ earliest_read schema db journal None (slice_index_or readers 0 []) → Judged schema journal 0 db made 0 best
judged_first schema journal db made readers best is none fit have found = record {
  database = is;
  counted = refl;
  objects = made_first made none;
  right = subst (IsFault (breaks_reply schema) journal) (sym found) (earliest_fault schema db journal None (slice_index_or readers 0 []) each (record { at = tt }));
  commits_done = λ k h. absurd (omega arith);
  reads_done = read;
}
  where
    each : (p : ℕ) → list_any (nat_eq p) (slice_index_or readers 0 []) ≡ true → option_map_or (wrong_read schema db) (slice_get journal p) None ≡ fault_at (breaks_reply schema) journal p
    each p h = ap (λ d. option_map_or (wrong_read schema d) (slice_get journal p) None) is ∙ read_fault schema journal fit 0 p (sym (have.each 0 p) ∙ h)

    read : (n k : ℕ) → n ≤ 0 → sees journal n k ≡ true → settled best k (fault_at (breaks_reply schema) journal k) ≡ true
    read (suc n) k h s = absurd (omega arith)
    read zero k h s =
        let g = have.each 0 k ∙ s in
        ap₂ (λ b f. settled b k f) found (sym (each k g)) ∙ earliest_settles schema db journal None (slice_index_or readers 0 []) k g

-- an entry that isn't a commit
pub judged_other : (schema : Schema) (journal : List Entry) (place : ℕ) (db : Database) (made : BTreeSet (ℕ × ℕ)) (seen : ℕ) (best : Option (ℕ × ℕ)) (e : Entry) → Judged schema journal place db made seen best → slice_get journal place ≡ Some e → committed e ≡ None → Judged schema journal (place + 1) db made seen best
judged_other schema journal place db made seen best e so at none = record {
  database = so.database;
  counted = so.counted ∙ sym (ap commits more ∙ commits_no (take place journal) e (commit_no e none));
  objects = subst (λ l. HasMade l made) (sym (ap made_before more ∙ made_push (take place journal) e ∙ ap (λ o. made_before (take place journal) ++ option_map_or made_in o []) none ∙ append-nil (made_before (take place journal)))) so.objects;
  right = so.right;
  commits_done = before;
  reads_done = so.reads_done;
}
  where
    more : take (place + 1) journal ≡ take place journal ++ e ∷ []
    more = take_push journal place e at

    before : (k : ℕ) → k < place + 1 → option_map_or is_commit (slice_get journal k) false ≡ true → settled best k (fault_at (breaks_reply schema) journal k) ≡ true
    before k h there = by_order (cases_eq k place)
      where
        by_order : (k ≡ place) ⊎ (k ≡ place → ⊥) → settled best k (fault_at (breaks_reply schema) journal k) ≡ true
        by_order (inr ne) = so.commits_done k (omega arith) there
        by_order (inl same) = let no : option_map_or is_commit (slice_get journal k) false ≡ false = ap (λ i. option_map_or is_commit (slice_get journal i) false) same ∙ ap (λ o. option_map_or is_commit o false) at ∙ commit_no e none in absurd (cc)

-- a commit, and the reads that see it
pub judged_commit : (schema : Schema) (journal : List Entry) (place : ℕ) (db next : Database) (made more : BTreeSet (ℕ × ℕ)) (seen : ℕ) (best last : Option (ℕ × ℕ)) (wrong : Option ℕ) (e : Entry) (done : List (Op × Reply)) (readers : List (List ℕ)) → Judged schema journal place db made seen best → All (FitsEntry schema) journal → AreReaders journal readers → slice_get journal place ≡ Some e → committed e ≡ Some done → ((objects : List (ℕ × ℕ)) → HasMade objects made → wrong ≡ wrong_reply schema db objects 1 done) → next ≡ after schema db done → ((objects : List (ℕ × ℕ)) → HasMade objects made → HasMade (objects ++ made_in done) more) → last ≡ earliest_read schema next journal (earlier_of best place wrong) (slice_index_or readers (seen + 1) []) → Judged schema journal (place + 1) next more (seen + 1) last
judged_commit schema journal place db next made more seen best last wrong e done readers so fit have at commits_it is makes puts found = record {
  database = new_database;
  counted = ap (λ n. n + 1) so.counted ∙ sym (ap commits longer ∙ commits_yes (take place journal) e (commit_yes e done commits_it));
  objects = subst (λ l. HasMade l more) (sym (ap made_before longer ∙ made_push (take place journal) e ∙ ap (λ o. made_before (take place journal) ++ option_map_or made_in o []) commits_it)) (puts (made_before (take place journal)) so.objects);
  right = subst (IsFault (breaks_reply schema) journal) (sym found) (earliest_fault schema next journal (earlier_of best place wrong) (slice_index_or readers (seen + 1) []) each (fault_earlier (breaks_reply schema) journal best place wrong so.right fault));
  commits_done = before;
  reads_done = read;
}
  where
    longer : take (place + 1) journal ≡ take place journal ++ e ∷ []
    longer = take_push journal place e at

    new_database : next ≡ fold schema journal (seen + 1)
    new_database = makes ∙ ap (λ d. after schema d done) (so.database ∙ ap (fold schema journal) so.counted) ∙ sym (fold_next schema journal place e done at commits_it) ∙ ap (λ n. fold schema journal (n + 1)) (sym so.counted)

    fault : wrong ≡ fault_at (breaks_reply schema) journal place
    fault = is (made_before (take place journal)) so.objects ∙ ap (λ d. wrong_reply schema d (made_before (take place journal)) 1 done) (so.database ∙ ap (fold schema journal) so.counted) ∙ sym (commit_fault schema journal place e done at commits_it)

    each : (p : ℕ) → list_any (nat_eq p) (slice_index_or readers (seen + 1) []) ≡ true → option_map_or (wrong_read schema next) (slice_get journal p) None ≡ fault_at (breaks_reply schema) journal p
    each p h = ap (λ d. option_map_or (wrong_read schema d) (slice_get journal p) None) new_database ∙ read_fault schema journal fit (seen + 1) p (sym (have.each (seen + 1) p) ∙ h)

    keeps : (k : ℕ) (f : Option ℕ) → settled (earlier_of best place wrong) k f ≡ true → settled last k f ≡ true
    keeps k f s = ap (λ b. settled b k f) found ∙ earliest_keeps schema next journal (earlier_of best place wrong) (slice_index_or readers (seen + 1) []) k f s

    before : (k : ℕ) → k < place + 1 → option_map_or is_commit (slice_get journal k) false ≡ true → settled last k (fault_at (breaks_reply schema) journal k) ≡ true
    before k h there = by_order (cases_eq k place)
      where
        by_order : (k ≡ place) ⊎ (k ≡ place → ⊥) → settled last k (fault_at (breaks_reply schema) journal k) ≡ true
        by_order (inr ne) = keeps k (fault_at (breaks_reply schema) journal k) (settled_earlier best place k wrong (fault_at (breaks_reply schema) journal k) (so.commits_done k (omega arith) there))
        by_order (inl same) = keeps k (fault_at (breaks_reply schema) journal k) (subst (λ f. settled (earlier_of best place wrong) k f ≡ true) (fault ∙ ap (fault_at (breaks_reply schema) journal) (sym same)) (subst (λ i. settled (earlier_of best place wrong) i wrong ≡ true) (sym same) (settled_new best place wrong)))

    read : (n k : ℕ) → n ≤ seen + 1 → sees journal n k ≡ true → settled last k (fault_at (breaks_reply schema) journal k) ≡ true
    read n k h s = by_order (cases_eq n (seen + 1))
      where
        by_order : (n ≡ seen + 1) ⊎ (n ≡ seen + 1 → ⊥) → settled last k (fault_at (breaks_reply schema) journal k) ≡ true
        by_order (inr ne) = keeps k (fault_at (breaks_reply schema) journal k) (settled_earlier best place k wrong (fault_at (breaks_reply schema) journal k) (so.reads_done n k (omega arith) s))
        by_order (inl same) =
            let g : list_any (nat_eq k) (slice_index_or readers (seen + 1) []) ≡ true = have.each (seen + 1) k ∙ ap (λ i. sees journal i k) (sym same) ∙ s in
            ap₂ (λ b f. settled b k f) found (sym (each k g)) ∙ earliest_settles schema next journal (earlier_of best place wrong) (slice_index_or readers (seen + 1) []) k g

-- the operations of a commit fit
pub fits_commit : (schema : Schema) (e : Entry) (done : List (Op × Reply)) → FitsEntry schema e → committed e ≡ Some done → AllFit schema kind.ReadWrite done × (length done < 2 ^ 32)
fits_commit schema (entry.Commit story commit) done fit is = let same : story.done ≡ done = cc in (subst (AllFit schema kind.ReadWrite) same fit.each, subst (λ (l : List (Op × Reply)). length l < 2 ^ 32) same fit.few)
fits_commit schema (entry.Read story) done fit is = absurd (cc)
fits_commit schema (entry.Abort story cause) done fit is = absurd (cc)
fits_commit schema (entry.Handled client by moment finished) done fit is = absurd (cc)
fits_commit schema (entry.Closed client) done fit is = absurd (cc)

-- a read that is well placed sees commits before it
pub placed_sees : (journal : List Entry) (k : ℕ) (story : Story) → IsWellPlaced journal → slice_get journal k ≡ Some (entry.Read story) → sees journal story.snapshot k ≡ true
placed_sees journal k story placed at =
    ap (λ o. option_map_or (reads_after story.snapshot (commits (take k journal))) o false) at
    ∙ ap₂ (λ a b. a && b) (eq-eqb story.snapshot story.snapshot refl)
    (seen (nat_le story.begun (length (take k journal))) (nat_le (commits (take story.begun (take k journal))) story.snapshot) (nat_le story.snapshot (commits (take k journal))) (placed k (entry.Read story) at))
  where
    seen : (a b c : Bool) → not (a && (b && c)) ≡ false → c ≡ true
    seen true true true h = refl
    seen true true false h = absurd (cc)
    seen true false c h = absurd (cc)
    seen false b c h = absurd (cc)

-- once all is judged, the best is the first
pub judged_last : (schema : Schema) (journal : List Entry) (place : ℕ) (db : Database) (made : BTreeSet (ℕ × ℕ)) (seen : ℕ) (best : Option (ℕ × ℕ)) → Judged schema journal place db made seen best → length journal ≤ place → IsWellPlaced journal → best ≡ first_at (breaks_reply schema) [] journal
judged_last schema journal place db made seen best so all none = sym (least (breaks_reply schema) journal [] journal best refl so.right each (λ k h. absurd (omega arith)))
  where
    whole : seen ≡ commits journal
    whole = so.counted ∙ ap commits (take_all place journal all)

    each : (k : ℕ) → k < length journal → settled best k (fault_at (breaks_reply schema) journal k) ≡ true
    each k h = by_get (slice_get journal k) refl
      where
        by_entry : (e : Entry) → slice_get journal k ≡ Some e → settled best k (fault_at (breaks_reply schema) journal k) ≡ true
        by_entry (entry.Commit story commit) at = so.commits_done k (omega arith) (ap (λ o. option_map_or is_commit o false) at)
        by_entry (entry.Read story) at =
            let s = placed_sees journal k story none at in
            so.reads_done story.snapshot k (within s) s
          where
            within : sees journal story.snapshot k ≡ true → story.snapshot ≤ seen
            within s =
                let r : ((story.snapshot == story.snapshot) && nat_le story.snapshot (commits (take k journal))) ≡ true = sym (ap (λ o. option_map_or (reads_after story.snapshot (commits (take k journal))) o false) at) ∙ s in
                let p = and_parts (story.snapshot == story.snapshot) (nat_le story.snapshot (commits (take k journal))) r in
                let le : story.snapshot ≤ commits (take k journal) = leb-true story.snapshot (commits (take k journal)) p.1 in
                let most = commits_take journal k in
                let every = whole in
                omega arith
        by_entry (entry.Abort story cause) at = ap (settled best k) (fault_there (breaks_reply schema) journal k (entry.Abort story cause) at)
        by_entry (entry.Handled client by moment finished) at = ap (settled best k) (fault_there (breaks_reply schema) journal k (entry.Handled client by moment finished) at)
        by_entry (entry.Closed client) at = ap (settled best k) (fault_there (breaks_reply schema) journal k (entry.Closed client) at)

        by_get : (o : Option Entry) → slice_get journal k ≡ o → settled best k (fault_at (breaks_reply schema) journal k) ≡ true
        by_get None at = ap (λ o. settled best k (option_map_or (breaks_reply schema (take k journal)) o None)) at
        by_get (Some e) at = by_entry e at

-- a commit among the first entries is one of all, and there are no more commits than entries
pub commit_within : (journal : List Entry) (place seen : ℕ) (e : Entry) (done : List (Op × Reply)) → seen ≡ commits (take place journal) → slice_get journal place ≡ Some e → committed e ≡ Some done → seen + 1 ≤ commits journal
commit_within journal place seen e done counted at is =
    let one : commits (take (place + 1) journal) ≡ commits (take place journal) + 1 = ap commits (take_push journal place e at) ∙ commits_yes (take place journal) e (commit_yes e done is) in
    let most = commits_take journal (place + 1) in
    omega arith

-- a commit and the reads that see it, in the steps of the walk
pub judged_next : {schema : Schema} {journal : List Entry} {place : ℕ} {db middle next : Database} {made more : BTreeSet (ℕ × ℕ)} {seen : ℕ} {best found last : Option (ℕ × ℕ)} {wrong : Option ℕ} {e : Entry} {done : List (Op × Reply)} {readers : List (List ℕ)} {places : List ℕ} → Judged schema journal place db made seen best → All (FitsEntry schema) journal → AreReaders journal readers → slice_get journal place ≡ Some e → committed e ≡ Some done → ((objects : List (ℕ × ℕ)) → HasMade objects made → wrong ≡ wrong_reply schema db objects 1 done) → middle ≡ after schema db done → ((objects : List (ℕ × ℕ)) → HasMade objects made → HasMade (objects ++ made_in done) more) → next ≡ middle → found ≡ earlier_of best place wrong → places ≡ slice_index_or readers (seen + 1) [] → last ≡ earliest_read schema middle journal found places → Judged schema journal (place + 1) next more (seen + 1) last
judged_next {schema} {journal} {place} {db} {middle} {next} {made} {more} {seen} {best} {found} {last} {wrong} {e} {done} {readers} {places} so fit have at commits_it is makes puts same earlier listed first =
    judged_commit schema journal place db next made more seen best last wrong e done readers so fit have at commits_it is (same ∙ makes) puts
    (first ∙ ap₂ (λ d f. earliest_read schema d journal f places) (sym same) earlier ∙ ap (earliest_read schema next journal (earlier_of best place wrong)) listed)
