-- A journal with more entries: its first commits, the databases and rows that they leave, and their events.
use Rattle.std.proofs.Common.{◌≡◌, ◌↔◌, ℕ, zero, suc, ◌+◌, ◌-◌, ◌<◌, ◌≤◌, Bool, true, false, cond, not, ◌||◌, ◌==◌, List, [], ◌∷◌, ◌++◌, length, take, map, slice_get, filter, filter_map, Option, Some, None, Contains, unwrap_or, refl, sym, ap, subst, ◌∙◌, arith, inl, inr, ◌⊎◌, take_all, length-append, append_assoc, append-nil, add-one}
use Rattle.std.specs.List.{list_any}
use Rattle.std.specs.Option.{option_map_or}
use Rattle.std.proofs.lemmas.Bool.Decides.{nat_tests}
use Rattle.std.proofs.lemmas.List.{take-append-le}
use Rattle.std.proofs.lemmas.List.Elements.{filter-append, filter_map-append, Contains-append_cases}
use Rattle.std.proofs.lemmas.Option.{slice_get-get_or, get_or_from_slice_get}
use Rattle.rdb_base.specs.Entries.{is_commit}
use Rattle.rdb_base.specs.declared.operation.Op.{Op}
use Rattle.rdb_base.specs.declared.operation.Reply.{Reply}
use Rattle.rdb_base.specs.declared.journal.Story.{Story}
use Rattle.rdb_base.specs.declared.journal.Entry.{Entry}
use Rattle.rdb_base.specs.declared.journal.Entry.TheVariants as entry
use Rattle.rdb_schema.specs.declared.schema.Schema.{Schema}
use Rattle.rdb_schema.specs.declared.schema.EventKind.{EventKind}
use Rattle.rdb_model.specs.Database.{objects_of, empty}
use Rattle.rdb_model.specs.Story.{after}
use Rattle.rdb_model.specs.Journal.{commits, committed, after_all, fold}
use Rattle.rdb_model.specs.Parts.{NumbersInOrder}
use Rattle.rdb_model.specs.Events.{happened, event_ids, event_kind, events_up_to, event_list, is_behind}
use Rattle.rdb_model.specs.Touch.{written_by}
use Rattle.rdb_model.proofs.LegalCommits.{commits_are, after_all_append}
use Rattle.rdb_model.proofs.SerialReads.{fold_front}
use Rattle.rdb_model.proofs.SerialPlaces.{get_filtered}
use Rattle.rdb_history.specs.Rows.{row_after, row_after_all, last_row, done_in}
use Rattle.rdb_history.specs.RowTouch.{rests_on_row, rests_on_change, touches_by_rows, touched_by_rows, IsFirstTouch, IsUntouchedUpTo}
use Rattle.rdb_history.specs.RowEvents.{HappenedByRows, IsNextEvent, HasNoEvent}
use Rattle.rdb_history.proofs.ListLemmas.{get_left, get_last, get_there, get_within, take_more}
use Rattle.rdb_history.proofs.KeptLemmas.{row_after_all_append}

-- a test passes one of a list where another test that says the same does
pub any_same : (p q : ℕ × ℕ → Bool) (objects : List (ℕ × ℕ)) → ((o : ℕ × ℕ) → p o ≡ q o) → list_any p objects ≡ list_any q objects
any_same p q [] same = refl
any_same p q (o ∷ os) same = ap (λ b. b || list_any p os) (same o) ∙ ap (λ b. q o || b) (any_same p q os same)

-- a commit number's place among the stories
below_stories : (es : List Entry) (n : ℕ) → n ≤ commits es → n ≤ length (filter_map committed es)
below_stories es n below = let f = commits_are es in omega arith

module _ (front back : List Entry) where
  pub commits_grown : commits (front ++ back) ≡ commits front + commits back
  commits_grown = ap length (filter-append is_commit front back) ∙ length-append (filter is_commit front) (filter is_commit back)

  pub row_grown : (n : ℕ) (object : ℕ × ℕ) → n ≤ commits front → last_row (front ++ back) n object ≡ last_row front n object
  row_grown n object below =
      ap (row_after_all object None)
      (ap (take n) (filter_map-append committed front back) ∙ take-append-le n (filter_map committed front) (filter_map committed back) (below_stories front n below))

  pub done_grown : (n : ℕ) → n ≤ commits front → done_in (front ++ back) n ≡ done_in front n
  done_grown zero below = refl
  done_grown (suc n) below =
      ap (λ o. unwrap_or o [])
      (ap (λ xs. slice_get xs n) (filter_map-append committed front back) ∙ get_left (filter_map committed front) (filter_map committed back) n (below_stories front (suc n) below))

  pub fold_grown : (schema : Schema) (n : ℕ) → n ≤ commits front → fold schema (front ++ back) n ≡ fold schema front n
  fold_grown schema n below = sym (fold_front schema front back n below)

  -- events by rows
  module _ (class : ℕ) (kind : EventKind) where
    pub happened_grown : (pair : ℕ × ℕ) → pair.0 ≤ commits front → HappenedByRows class kind (front ++ back) pair ↔ HappenedByRows class kind front pair
    happened_grown pair below = (
      λ h. record { numbered = h.numbered; there = below; changed = sym alike ∙ h.changed },
      λ h. record { numbered = h.numbered; there = (let f = commits_grown in omega arith); changed = alike ∙ h.changed },
    )
      where
        alike : happened kind (last_row (front ++ back) (pair.0 - 1) (class, pair.1)) (last_row (front ++ back) pair.0 (class, pair.1))
            ≡ happened kind (last_row front (pair.0 - 1) (class, pair.1)) (last_row front pair.0 (class, pair.1))
        alike =
            ap (λ r. happened kind r (last_row (front ++ back) pair.0 (class, pair.1))) (row_grown (pair.0 - 1) (class, pair.1) (omega arith))
            ∙ ap (happened kind (last_row front (pair.0 - 1) (class, pair.1))) (row_grown pair.0 (class, pair.1) below)

    later_is_behind : (next other : ℕ × ℕ) → next.0 < other.0 → is_behind other next ≡ false
    later_is_behind next other less = grind (arith, nat_tests)

    pub next_grown : (place next : ℕ × ℕ) → IsNextEvent class kind front place next → IsNextEvent class kind (front ++ back) place next
    next_grown place next is = record {
      happened = (happened_grown next is.happened.there).1 is.happened;
      behind = is.behind;
      first = λ other h behind. go other h behind (nat_cases other.0 (commits front));
    }
      where
        nat_cases : (a b : ℕ) → (a ≤ b) ⊎ (b < a)
        nat_cases zero b = inl (omega arith)
        nat_cases (suc a) zero = inr (omega arith)
        nat_cases (suc a) (suc b) = elim (nat_cases a b) [ inl f ↦ inl (omega arith) | inr f ↦ inr (omega arith) ]

        go : (other : ℕ × ℕ) → HappenedByRows class kind (front ++ back) other → is_behind place other ≡ true → (other.0 ≤ commits front) ⊎ (commits front < other.0) → is_behind other next ≡ false
        go other h behind (inl below) = is.first other ((happened_grown other below).0 h) behind
        go other h behind (inr above) = let f = is.happened.there in later_is_behind next other (omega arith)

    pub none_grown : (place : ℕ × ℕ) (last : ℕ) → last ≤ commits front → HasNoEvent class kind front place last → HasNoEvent class kind (front ++ back) place last
    none_grown place last within none other h below = none other ((happened_grown other (omega arith)).0 h) below

  -- touches by rows
  module _ (schema : Schema) where
    rests_grown : (n : ℕ) (d : Op × Reply) (object : ℕ × ℕ) → n ≤ commits front → rests_on_change schema (front ++ back) n d object ≡ rests_on_change schema front n d object
    rests_grown n d object below =
        ap (λ r. rests_on_row schema d object r || rests_on_row schema d object (last_row (front ++ back) n object)) (row_grown (n - 1) object (omega arith))
        ∙ ap (λ r. rests_on_row schema d object (last_row front (n - 1) object) || rests_on_row schema d object r) (row_grown n object below)

    touched_grown : (n : ℕ) (story : Story) (k : ℕ) → n ≤ commits front → touched_by_rows schema (front ++ back) n story k ≡ touched_by_rows schema front n story k
    touched_grown n story k below = go (slice_get story.done (k - 1))
      where
        go : (o : Option (Op × Reply)) → option_map_or (touches_by_rows schema (front ++ back) n) o false ≡ option_map_or (touches_by_rows schema front n) o false
        go None = refl
        go (Some d) =
            any_same (rests_on_change schema (front ++ back) n d) (rests_on_change schema front n d) (filter_map written_by (done_in (front ++ back) n)) (λ o. rests_grown n d o below)
            ∙ ap (λ done. list_any (rests_on_change schema front n d) (filter_map written_by done)) (done_grown n below)

    pub first_grown : (story : Story) (commit operation : ℕ) → IsFirstTouch schema front story commit operation → IsFirstTouch schema (front ++ back) story commit operation
    first_grown story commit operation is = record {
      unseen = is.unseen;
      there = let f = commits_grown in let g = is.there in omega arith;
      numbered = is.numbered;
      touched = touched_grown commit story operation is.there ∙ is.touched;
      first_operation = λ k positive below. touched_grown commit story k is.there ∙ is.first_operation k positive below;
      first_commit = λ n k unseen below. touched_grown n story k (let g = is.there in omega arith) ∙ is.first_commit n k unseen below;
    }

    pub untouched_grown : (story : Story) (last : ℕ) → last ≤ commits front → IsUntouchedUpTo schema front story last → IsUntouchedUpTo schema (front ++ back) story last
    untouched_grown story last within none n k unseen below = touched_grown n story k (omega arith) ∙ none n k unseen below

-- an entry that is no commit adds none
pub no_more_commits : (journal : List Entry) (e : Entry) → is_commit e ≡ false → commits (journal ++ e ∷ []) ≡ commits journal
no_more_commits journal e other = commits_grown journal (e ∷ []) ∙ go (is_commit e) other
  where
    go : (b : Bool) → b ≡ false → commits journal + length (cond b (e ∷ []) []) ≡ commits journal
    go true f = (cc)
    go false f = omega arith

-- event lists
module _ (schema : Schema) (class : ℕ) where
  abbrev ids_at : EventKind → List Entry → ℕ → List ℕ
  ids_at kind journal n = event_ids kind (objects_of (fold schema journal n) class) (objects_of (fold schema journal (suc n)) class)

  -- the events of the k commits behind the first n
  abbrev events_behind : EventKind → List Entry → ℕ → ℕ → List (ℕ × ℕ)
  events_behind kind journal n zero = []
  events_behind kind journal n (suc k) = events_behind kind journal n k ++ map (λ id. (suc (k + n), id)) (ids_at kind journal (k + n))

  up_to_more : (kind : EventKind) (journal : List Entry) (n k : ℕ) → events_up_to schema class kind journal (k + n) ≡ events_up_to schema class kind journal n ++ events_behind kind journal n k
  up_to_more kind journal n zero =
      let none : 0 + n ≡ n = omega arith in
      ap (events_up_to schema class kind journal) none ∙ sym (append-nil (events_up_to schema class kind journal n))
  up_to_more kind journal n (suc k) =
      let next : suc k + n ≡ suc (k + n) = omega arith in
      ap (events_up_to schema class kind journal) next
      ∙ ap (λ l. l ++ map (λ id. (suc (k + n), id)) (ids_at kind journal (k + n))) (up_to_more kind journal n k)
      ∙ append_assoc (events_up_to schema class kind journal n) (events_behind kind journal n k) (map (λ id. (suc (k + n), id)) (ids_at kind journal (k + n)))

  up_to_front : (kind : EventKind) (front back : List Entry) (n : ℕ) → n ≤ commits front → events_up_to schema class kind (front ++ back) n ≡ events_up_to schema class kind front n
  up_to_front kind front back zero below = refl
  up_to_front kind front back (suc n) below =
      ap (λ l. l ++ map (λ id. (suc n, id)) (ids_at kind (front ++ back) n)) (up_to_front kind front back n (omega arith))
      ∙ ap (λ ids. events_up_to schema class kind front n ++ map (λ id. (suc n, id)) ids)
      (ap (λ db. event_ids kind (objects_of db class) (objects_of (fold schema (front ++ back) (suc n)) class)) (fold_grown front back schema n (omega arith))
      ∙ ap (λ db. event_ids kind (objects_of (fold schema front n) class) (objects_of db class)) (fold_grown front back schema (suc n) below))

  of_number : (n : ℕ) (ids : List ℕ) (pair : ℕ × ℕ) → Contains (map (λ i. (n, i)) ids) pair → pair.0 ≡ n
  of_number n [] pair c = absurd (omega (arith, c.1))
  of_number n (x ∷ xs) pair (zero, lt, is) = sym (ap (λ (p : ℕ × ℕ). p.0) is)
  of_number n (x ∷ xs) pair (suc k, lt, is) = of_number n xs pair (k, omega (arith, lt), is)

  all_behind : (kind : EventKind) (journal : List Entry) (n k : ℕ) (pair : ℕ × ℕ) → Contains (events_behind kind journal n k) pair → n < pair.0
  all_behind kind journal n zero pair c = absurd (omega (arith, c.1))
  all_behind kind journal n (suc k) pair c = go (Contains-append_cases (events_behind kind journal n k) (map (λ id. (suc (k + n), id)) (ids_at kind journal (k + n))) pair c) (all_behind kind journal n k pair)
    where
      go : Contains (events_behind kind journal n k) pair ⊎ Contains (map (λ id. (suc (k + n), id)) (ids_at kind journal (k + n))) pair → (Contains (events_behind kind journal n k) pair → n < pair.0) → n < pair.0
      go (inl earlier) rest = rest earlier
      go (inr here) rest = let e = of_number (suc (k + n)) (ids_at kind journal (k + n)) pair here in omega arith

  pub events_grown : (event : ℕ) (front back : List Entry)
      → (more : List (ℕ × ℕ)) × (event_list schema class event (front ++ back) ≡ event_list schema class event front ++ more) × ((pair : ℕ × ℕ) → Contains more pair → commits front < pair.0)
  events_grown event front back = go (event_kind schema class event)
    where
      listed : Option EventKind → List Entry → List (ℕ × ℕ)
      listed o journal = option_map_or (λ kind. events_up_to schema class kind journal (commits journal)) o []

      go : (o : Option EventKind) → (more : List (ℕ × ℕ)) × (listed o (front ++ back) ≡ listed o front ++ more) × ((pair : ℕ × ℕ) → Contains more pair → commits front < pair.0)
      go None = ([], refl, λ pair c. absurd (omega (arith, c.1)))
      go (Some kind) =
          let many : commits (front ++ back) ≡ commits back + commits front = let f = commits_grown front back in omega arith in (
            events_behind kind (front ++ back) (commits front) (commits back),
            ap (events_up_to schema class kind (front ++ back)) many
                ∙ up_to_more kind (front ++ back) (commits front) (commits back)
                ∙ ap (λ l. l ++ events_behind kind (front ++ back) (commits front) (commits back)) (up_to_front kind front back (commits front) (omega arith)),
            all_behind kind (front ++ back) (commits front) (commits back),
          )

  pub events_same : (event : ℕ) (front back : List Entry) → commits back ≡ 0 → event_list schema class event (front ++ back) ≡ event_list schema class event front
  events_same event front back none = go (event_kind schema class event)
    where
      go : (o : Option EventKind) → option_map_or (λ kind. events_up_to schema class kind (front ++ back) (commits (front ++ back))) o [] ≡ option_map_or (λ kind. events_up_to schema class kind front (commits front)) o []
      go None = refl
      go (Some kind) =
          let many : commits (front ++ back) ≡ commits front = let f = commits_grown front back in omega arith in
          ap (events_up_to schema class kind (front ++ back)) many ∙ up_to_front kind front back (commits front) (omega arith)

-- a commit that is appended
module _ (journal : List Entry) (story : Story) (number : ℕ) where
  abbrev own : Entry
  own = entry.Commit story number

  stories_more : filter_map committed (journal ++ own ∷ []) ≡ filter_map committed journal ++ story.done ∷ []
  stories_more = filter_map-append committed journal (own ∷ [])

  pub commits_next : commits (journal ++ own ∷ []) ≡ commits journal + 1
  commits_next = commits_grown journal (own ∷ [])

  pub done_next : done_in (journal ++ own ∷ []) (commits journal + 1) ≡ story.done
  done_next =
      ap (done_in (journal ++ own ∷ [])) (add-one (commits journal))
      ∙ ap (λ o. unwrap_or o []) (ap (λ xs. slice_get xs (commits journal)) stories_more ∙ ap (slice_get (filter_map committed journal ++ story.done ∷ [])) (commits_are journal) ∙ get_last (filter_map committed journal) story.done)

  all_stories : take (commits journal + 1) (filter_map committed (journal ++ own ∷ [])) ≡ filter_map committed journal ++ story.done ∷ []
  all_stories =
      take_all (commits journal + 1) (filter_map committed (journal ++ own ∷ [])) (let f = commits_are (journal ++ own ∷ []) in let g = commits_next in omega arith)
      ∙ stories_more

  before_all : take (commits journal) (filter_map committed journal) ≡ filter_map committed journal
  before_all = take_all (commits journal) (filter_map committed journal) (let g = commits_are journal in omega arith)

  pub row_next : (object : ℕ × ℕ) → last_row (journal ++ own ∷ []) (commits journal + 1) object ≡ row_after object (last_row journal (commits journal) object) story.done
  row_next object =
      ap (row_after_all object None) all_stories
      ∙ row_after_all_append object None (filter_map committed journal) (story.done ∷ [])
      ∙ ap (λ (xs : List (List (Op × Reply))). row_after object (row_after_all object None xs) story.done) (sym before_all)

  pub fold_next : (schema : Schema) → fold schema (journal ++ own ∷ []) (commits journal + 1) ≡ after schema (fold schema journal (commits journal)) story.done
  fold_next schema =
      ap (after_all schema (empty (length schema.classes))) all_stories
      ∙ after_all_append schema (empty (length schema.classes)) (filter_map committed journal) (story.done ∷ [])
      ∙ ap (λ (xs : List (List (Op × Reply))). after schema (after_all schema (empty (length schema.classes)) xs) story.done) (sym before_all)

-- a commit's row is the one before it, after its operations
pub row_step : (journal : List Entry) (n : ℕ) (object : ℕ × ℕ) → 0 < n → n ≤ commits journal → last_row journal n object ≡ row_after object (last_row journal (n - 1) object) (done_in journal n)
row_step journal zero object positive below = absurd (omega arith)
row_step journal (suc n) object positive below =
    let at = get_there (filter_map committed journal) n (below_stories journal (suc n) below) in
    let less : suc n - 1 ≡ n = omega arith in
    ap (row_after_all object None) (ap (λ k. take k (filter_map committed journal)) (sym (add-one n)) ∙ take_more (filter_map committed journal) n at.0 at.1)
    ∙ row_after_all_append object None (take n (filter_map committed journal)) (at.0 ∷ [])
    ∙ ap (λ k. row_after object (last_row journal k object) at.0) (sym less)
    ∙ ap (λ o. row_after object (last_row journal (suc n - 1) object) (unwrap_or o [])) (sym at.1)

-- the numbers of commits
module _ (journal : List Entry) (numbers : NumbersInOrder journal) where
  number_at : (i commit : ℕ) (own : Story) → slice_get journal i ≡ Some (entry.Commit own commit) → commit ≡ commits (take i journal) + 1
  number_at i commit own at = go (commit == (commits (take i journal) + 1)) refl (numbers i (entry.Commit own commit) at)
    where
      go : (b : Bool) → (commit == (commits (take i journal) + 1)) ≡ b → not b ≡ false → commit ≡ commits (take i journal) + 1
      go true e f = grind (arith, nat_tests)
      go false e f = (cc)

  pub numbered : (own : Story) (commit : ℕ) → Contains journal (entry.Commit own commit) → (0 < commit) × (commit ≤ commits journal) × (done_in journal commit ≡ own.done)
  numbered own commit stands =
      let at : slice_get journal stands.0 ≡ Some (entry.Commit own commit) = slice_get-get_or journal stands.0 (entry.Commit own commit) stands.1 ∙ ap Some stands.2 in
      let number : commit ≡ commits (take stands.0 journal) + 1 = number_at stands.0 commit own at in
      let place : slice_get (filter_map committed journal) (length (filter_map committed (take stands.0 journal))) ≡ Some own.done = get_filtered committed journal stands.0 (entry.Commit own commit) own.done at refl in
      let before = commits_are (take stands.0 journal) in
      let all = commits_are journal in
      let within = get_within (filter_map committed journal) (length (filter_map committed (take stands.0 journal))) own.done place in
      let next : commit ≡ suc (length (filter_map committed (take stands.0 journal))) = omega arith in (
        omega arith,
        omega arith,
        ap (done_in journal) next ∙ ap (λ o. unwrap_or o []) place,
      )

  -- the commit whose operations stand at a place among those of the commits
  place_of : (es : List Entry) (k : ℕ) (done : List (Op × Reply)) → slice_get (filter_map committed es) k ≡ Some done
      → (i : ℕ) × (own : Story) × (commit : ℕ) × (slice_get es i ≡ Some (entry.Commit own commit)) × (length (filter_map committed (take i es)) ≡ k)
  place_of [] k done is = (cc)
  place_of (entry.Commit own commit ∷ es) zero done is = (0, own, commit, refl, refl)
  place_of (entry.Commit own commit ∷ es) (suc k) done is = let r = place_of es k done is in (suc r.0, r.1, r.2, r.3, ap suc r.4)
  place_of (entry.Read story ∷ es) k done is = let r = place_of es k done is in (suc r.0, r.1, r.2, r.3, r.4)
  place_of (entry.Abort story cause ∷ es) k done is = let r = place_of es k done is in (suc r.0, r.1, r.2, r.3, r.4)
  place_of (entry.Handled client by at finished ∷ es) k done is = let r = place_of es k done is in (suc r.0, r.1, r.2, r.3, r.4)
  place_of (entry.Closed client ∷ es) k done is = let r = place_of es k done is in (suc r.0, r.1, r.2, r.3, r.4)

  pub commit_of : (n : ℕ) → 0 < n → n ≤ commits journal → (own : Story) × Contains journal (entry.Commit own n)
  commit_of n positive below =
      let all = commits_are journal in
      let there = get_there (filter_map committed journal) (n - 1) (omega arith) in
      let found = place_of journal (n - 1) there.0 there.1 in
      let before = commits_are (take found.0 journal) in
      let number : found.2 ≡ n = let e = number_at found.0 found.2 found.1 found.3 in let f = found.4 in omega arith in
      let within = get_within journal found.0 (entry.Commit found.1 found.2) found.3 in
      (found.1, subst (λ m. Contains journal (entry.Commit found.1 m)) number (found.0, within, get_or_from_slice_get journal found.0 (entry.Commit found.1 found.2) (entry.Commit found.1 found.2) found.3))
