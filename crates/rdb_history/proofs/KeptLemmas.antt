-- What is kept of a journal's commits stays so when an entry is appended.
use Rattle.std.proofs.Common.{◌≡◌, ℕ, zero, suc, ◌+◌, ◌-◌, ◌<◌, ◌≤◌, List, [], ◌∷◌, ◌++◌, length, take, slice_get, filter_map, Option, Some, None, IsSome, IsSomeAnd, unwrap_or, refl, sym, ap, subst, ◌∙◌, rules, arith, inl, inr, ◌⊎◌, take_all}
use Rattle.std.specs.List.{cons_option}
use Rattle.std.specs.Option.{option_map_or, option_and_then}
use Rattle.std.specs.HashMap.{spare}
use Rattle.std.proofs.lemmas.List.{length_push, take_at, take-append-le}
use Rattle.std.proofs.lemmas.List.Elements.{filter_map-append}
use Rattle.rdb_base.specs.Room.{Reserved}
use Rattle.rdb_base.specs.declared.operation.Op.{Op}
use Rattle.rdb_base.specs.declared.operation.Reply.{Reply}
use Rattle.rdb_base.specs.declared.journal.Story.{Story}
use Rattle.rdb_base.specs.declared.journal.Entry.{Entry}
use Rattle.rdb_base.specs.declared.journal.Entry.TheVariants as entry
use Rattle.rdb_model.specs.Database.{Row}
use Rattle.rdb_model.specs.Journal.{commits, committed, done_of}
use Rattle.rdb_model.specs.Touch.{written_by}
use Rattle.rdb_model.proofs.LegalCommits.{commits_are}
use Rattle.rdb_history.specs.declared.index.Position.{Position}
use Rattle.rdb_history.specs.declared.index.Write.{Write}
use Rattle.rdb_history.specs.declared.index.Commit.{Commit}
use Rattle.rdb_history.specs.Rows.{row_left, row_after, row_after_all, last_row, done_in, objects_written}
use Rattle.rdb_history.specs.Kept.{Newest, newest_of, operation_at, object_at, row_at, HasClasses, LeadsTo, MayLead, NewestLeads, IsWriteOf, IsIndexed, IsKept}
use Rattle.rdb_history.specs.Indexing.{StandsAt, AreLed, IsIndexing}
use Rattle.rdb_history.proofs.ListLemmas.{get_left, get_last, get_within, get_there, get_pushed}
use Rattle.rdb_history.proofs.IndexLemmas.{some_at, at_some}

pub row_after_all_append : (object : ℕ × ℕ) (row : Option Row) (xs ys : List (List (Op × Reply))) → row_after_all object row (xs ++ ys) ≡ row_after_all object (row_after_all object row xs) ys
row_after_all_append object row [] ys = refl
row_after_all_append object row (x ∷ xs) ys = row_after_all_append object (row_after object row x) xs ys

module _ (es : List Entry) (e : Entry) where
  stories_grown : filter_map committed (es ++ e ∷ []) ≡ filter_map committed es ++ filter_map committed (e ∷ [])
  stories_grown = filter_map-append committed es (e ∷ [])

  -- a commit's number is that of one of the stories
  below_stories : (n : ℕ) → n ≤ commits es → n ≤ length (filter_map committed es)
  below_stories n below = let f = commits_are es in omega arith

  pub last_row_kept : (n : ℕ) (object : ℕ × ℕ) → n ≤ commits es → last_row (es ++ e ∷ []) n object ≡ last_row es n object
  last_row_kept n object below =
      ap (row_after_all object None) (ap (take n) stories_grown ∙ take-append-le n (filter_map committed es) (filter_map committed (e ∷ [])) (below_stories n below))

  pub done_kept : (n : ℕ) → n ≤ commits es → done_in (es ++ e ∷ []) n ≡ done_in es n
  done_kept zero below = refl
  done_kept (suc n) below =
      ap (λ o. unwrap_or o []) (ap (λ xs. slice_get xs n) stories_grown ∙ get_left (filter_map committed es) (filter_map committed (e ∷ [])) n (below_stories (suc n) below))

  -- an operation of a story that is there stays where it is
  operation_kept : (p : Position) (d : Op × Reply) → operation_at es p ≡ Some d → operation_at (es ++ e ∷ []) p ≡ Some d
  operation_kept p d is = go (slice_get es p.entry) refl is
    where
      go : (o : Option Entry) → slice_get es p.entry ≡ o → slice_get (option_map_or done_of o []) p.operation ≡ Some d → operation_at (es ++ e ∷ []) p ≡ Some d
      go None f g = (cc)
      go (Some x) f g = ap (λ (o : Option Entry). slice_get (option_map_or done_of o []) p.operation) (get_left es (e ∷ []) p.entry (get_within es p.entry x f) ∙ f) ∙ g

  pub leads_kept : (object : ℕ × ℕ) (row : Option Row) (p : Position) → LeadsTo es object row p → LeadsTo (es ++ e ∷ []) object row p
  leads_kept object row p leads = go (operation_at es p) refl leads.wrote leads.left
    where
      go : (o : Option (Op × Reply)) → operation_at es p ≡ o → option_and_then written_by o ≡ Some object → option_and_then (λ d. row_left d.0) o ≡ row → LeadsTo (es ++ e ∷ []) object row p
      go None f g h = (cc)
      go (Some d) f g h = record {
        wrote = ap (option_and_then written_by) (operation_kept p d f) ∙ g;
        left = ap (option_and_then (λ x. row_left x.0)) (operation_kept p d f) ∙ h;
      }

  pub may_lead_kept : (object : ℕ × ℕ) (row : Option Row) (p : Option Position) → MayLead es object row p → MayLead (es ++ e ∷ []) object row p
  may_lead_kept object row None leads = leads
  may_lead_kept object row (Some p) leads = leads_kept object row p leads

  pub newest_kept : (object : ℕ × ℕ) (row : Option Row) (writes : List Write) (found : Option ℕ) → NewestLeads es object row writes found → NewestLeads (es ++ e ∷ []) object row writes found
  newest_kept object row writes None leads = leads
  newest_kept object row writes (Some i) leads =
      let w = some_at (λ (w : Write). LeadsTo es object row w.after) (slice_get writes i) leads in
      at_some (λ (w : Write). LeadsTo (es ++ e ∷ []) object row w.after) (slice_get writes i) w.0 w.1 (leads_kept object row w.0.after w.2)

  write_kept : (n : ℕ) (object : ℕ × ℕ) (w : Write) → n ≤ commits es → IsWriteOf es n object w → IsWriteOf (es ++ e ∷ []) n object w
  write_kept n object w below is = record {
    before =
        subst (λ (r : Option Row). MayLead (es ++ e ∷ []) object r w.before) (sym (last_row_kept (n - 1) object (omega arith)))
        (may_lead_kept object (last_row es (n - 1) object) w.before is.before);
    after =
        subst (λ (r : Option Row). LeadsTo (es ++ e ∷ []) object r w.after) (sym (last_row_kept n object below))
        (leads_kept object (last_row es n object) w.after is.after);
  }

  -- what is kept of an earlier commit stays so, where its writes stay
  pub indexed_kept : (writes more : List Write) (n : ℕ) (c : Commit) → n ≤ commits es → length writes ≤ length more
      → ((i : ℕ) → i < length writes → slice_get more i ≡ slice_get writes i) → IsIndexed es writes n c → IsIndexed (es ++ e ∷ []) more n c
  indexed_kept writes more n c below longer same is = record {
    place = go (slice_get es c.entry) refl is.place ∙ ap Some (sym (done_kept n below));
    earlier = ap commits (take-append-le c.entry es (e ∷ []) (let f = there (slice_get es c.entry) refl is.place in omega arith)) ∙ is.earlier;
    classes = subst (HasClasses c.classes) (sym (done_kept n below)) is.classes;
    count = is.count ∙ ap (λ d. length (objects_written d)) (sym (done_kept n below));
    within = let f = is.within in omega arith;
    each = λ k object at.
        let w = some_at (IsWriteOf es n object) (slice_get writes (c.first + k)) (is.each k object (ap (λ d. slice_get (objects_written d) k) (sym (done_kept n below)) ∙ at)) in
        at_some (IsWriteOf (es ++ e ∷ []) n object) (slice_get more (c.first + k)) w.0
        (same (c.first + k) (get_within writes (c.first + k) w.0 w.1) ∙ w.1) (write_kept n object w.0 below w.2);
  }
    where
      there : (o : Option Entry) → slice_get es c.entry ≡ o → option_and_then committed o ≡ Some (done_in es n) → c.entry < length es
      there None f g = (cc)
      there (Some x) f g = get_within es c.entry x f

      go : (o : Option Entry) → slice_get es c.entry ≡ o → option_and_then committed o ≡ Some (done_in es n) → option_and_then committed (slice_get (es ++ e ∷ []) c.entry) ≡ Some (done_in es n)
      go None f g = (cc)
      go (Some x) f g = ap (option_and_then committed) (get_left es (e ∷ []) c.entry (get_within es c.entry x f) ∙ f) ∙ g

  -- an entry that isn't a commit
  pub kept_beside : (places room : ℕ) (commits_kept : Reserved Commit) (writes : Reserved Write) (table : Newest) (write_room : ℕ) → committed e ≡ None
      → IsKept (record { items = es; room = places }) commits_kept writes table room write_room
      → IsKept (record { items = es ++ e ∷ []; room = places - 1 }) commits_kept writes table (room - 1) write_room
  kept_beside places room commits_kept writes table write_room none kept = record {
    many = kept.many ∙ sym same_commits;
    each = λ n c at.
        indexed_kept writes.items writes.items (suc n) c (let f = get_within commits_kept.items n c at in let g = kept.many in omega arith) (omega arith) (λ i h. refl) (kept.each n c at);
    newest = λ object.
        subst (λ (r : Option Row). NewestLeads (es ++ e ∷ []) object r writes.items (newest_of table object)) (sym (ap (λ n. last_row (es ++ e ∷ []) n object) same_commits ∙ last_row_kept (commits es) object (omega arith)))
        (newest_kept object (last_row es (commits es) object) writes.items (newest_of table object) (kept.newest object));
    entry_room = let f = kept.entry_room in omega arith;
    commit_room = let f = kept.commit_room in omega arith;
    writes_room = kept.writes_room;
    newest_room = kept.newest_room;
  }
    where
      no_more : (xs : List (List (Op × Reply))) → xs ++ [] ≡ xs
      no_more [] = refl
      no_more (x ∷ xs) = ap (λ ys. x ∷ ys) (no_more xs)

      same_stories : filter_map committed (es ++ e ∷ []) ≡ filter_map committed es
      same_stories = stories_grown ∙ ap (λ o. filter_map committed es ++ cons_option o []) none ∙ no_more (filter_map committed es)

      same_commits : commits (es ++ e ∷ []) ≡ commits es
      same_commits = commits_are (es ++ e ∷ []) ∙ ap length same_stories ∙ sym (commits_are es)

-- a commit, whose writes are taken up
module _ (es : List Entry) (story : Story) (number : ℕ) where
  abbrev own : Entry
  own = entry.Commit story number

  stories_more : filter_map committed (es ++ own ∷ []) ≡ filter_map committed es ++ story.done ∷ []
  stories_more = stories_grown es own

  commits_more : commits (es ++ own ∷ []) ≡ suc (commits es)
  commits_more =
      commits_are (es ++ own ∷ []) ∙ ap length stories_more
      ∙ (let f = length_push (filter_map committed es) story.done in let g = commits_are es in omega arith)

  -- the operations of the new commit
  done_last : done_in (es ++ own ∷ []) (suc (commits es)) ≡ story.done
  done_last =
      ap (λ o. unwrap_or o []) (ap (λ xs. slice_get xs (commits es)) stories_more ∙ ap (slice_get (filter_map committed es ++ story.done ∷ [])) (commits_are es) ∙ get_last (filter_map committed es) story.done)

  -- an object's row after them
  row_last : (object : ℕ × ℕ) → last_row (es ++ own ∷ []) (suc (commits es)) object ≡ row_after object (last_row es (commits es) object) story.done
  row_last object =
      ap (row_after_all object None)
      (ap (take (suc (commits es))) stories_more
      ∙ take_all (suc (commits es)) (filter_map committed es ++ story.done ∷ []) (let f = length_push (filter_map committed es) story.done in let g = commits_are es in omega arith))
      ∙ row_after_all_append object None (filter_map committed es) (story.done ∷ [])
      ∙ ap (λ (xs : List (List (Op × Reply))). row_after object (row_after_all object None xs) story.done) (sym (take_all (commits es) (filter_map committed es) (let g = commits_are es in omega arith)))

  pub stands_last : StandsAt (es ++ own ∷ []) (length es) story.done
  stands_last k = ap (λ (o : Option Entry). slice_get (option_map_or done_of o []) k) (get_last es own)

  pub kept_after : (entry_places room place classes first count : ℕ) (commits_kept : Reserved Commit) (writes more : Reserved Write) (table next : Newest) (write_room : ℕ)
      → IsKept (record { items = es; room = entry_places }) commits_kept writes table room write_room
      → place ≡ length es → first ≡ length writes.items → count ≡ length more.items - first → 0 < room
      → length (filter_map written_by story.done) ≤ write_room
      → HasClasses classes story.done
      → ((entries : List Entry) (rows : ℕ × ℕ → Option Row) → StandsAt entries place story.done → AreLed entries rows writes.items table → IsIndexing entries rows (length writes.items) story.done more.items next)
      → ((i : ℕ) → i < length writes.items → slice_get more.items i ≡ slice_get writes.items i)
      → more.room + length more.items ≡ writes.room + length writes.items
      → spare table + length writes.items ≤ spare next + length more.items
      → (count ≡ length (objects_written story.done))
      × IsKept (record { items = es ++ own ∷ []; room = entry_places - 1 })
      (record { items = commits_kept.items ++ record { entry = place; classes = classes; first = first; count = count } ∷ []; room = commits_kept.room - 1 })
      more next (room - 1) (write_room - count)
  kept_after entry_places room place classes first count commits_kept writes more table next write_room kept is_place is_first is_count roomy enough has indexed same places table_places = (
    counted,
    record {
      many =
          length_push commits_kept.items now ∙ (let f = kept.many in let g = commits_more in omega arith);
      each = λ n c at. each_now n c (get_pushed commits_kept.items now c n at);
      newest = λ object.
          subst (λ (r : Option Row). NewestLeads (es ++ own ∷ []) object r more.items (newest_of next object)) (sym (ap (λ n. last_row (es ++ own ∷ []) n object) commits_more ∙ row_last object))
          (taken.newest object);
      entry_room = let f = kept.entry_room in omega arith;
      commit_room = let f = kept.commit_room in omega arith;
      writes_room = let f = kept.writes_room in let g = taken.count in omega arith;
      newest_room = let f = kept.newest_room in let g = taken.count in omega arith;
    },
  )
    where
      now : Commit
      now = record { entry = place; classes = classes; first = first; count = count }

      rows : ℕ × ℕ → Option Row
      rows object = last_row es (commits es) object

      taken : IsIndexing (es ++ own ∷ []) rows (length writes.items) story.done more.items next
      taken =
          indexed (es ++ own ∷ []) rows (subst (λ (n : ℕ). StandsAt (es ++ own ∷ []) n story.done) (sym is_place) stands_last)
          (λ object. newest_kept es own object (rows object) writes.items (newest_of table object) (kept.newest object))

      counted : count ≡ length (objects_written story.done)
      counted = let f = taken.count in omega arith

      -- what the new commit wrote
      write_now : (k : ℕ) (object : ℕ × ℕ) → slice_get (objects_written story.done) k ≡ Some object → IsSomeAnd (slice_get more.items (first + k)) (IsWriteOf (es ++ own ∷ []) (suc (commits es)) object)
      write_now k object at =
          let w = some_at (λ (w : Write). MayLead (es ++ own ∷ []) object (rows object) w.before) (slice_get more.items (length writes.items + k)) (taken.before k object at) in
          let led = some_at (λ (w : Write). LeadsTo (es ++ own ∷ []) object (row_after object (rows object) story.done) w.after) (slice_get more.items (length writes.items + k))
          (subst (λ (f : Option ℕ). NewestLeads (es ++ own ∷ []) object (row_after object (rows object) story.done) more.items f) (taken.each k object at) (taken.newest object)) in
          let one : led.0 ≡ w.0 = one_of led.0 w.0 (sym led.1 ∙ w.1) in
          let number_before : suc (commits es) - 1 ≡ commits es = omega arith in
          at_some (IsWriteOf (es ++ own ∷ []) (suc (commits es)) object) (slice_get more.items (first + k)) w.0
          (ap (λ n. slice_get more.items (n + k)) is_first ∙ w.1)
          (record {
            before =
                subst (λ (r : Option Row). MayLead (es ++ own ∷ []) object r w.0.before) (sym (ap (λ n. last_row (es ++ own ∷ []) n object) number_before ∙ last_row_kept es own (commits es) object (omega arith))) w.2;
            after =
                subst (λ (r : Option Row). LeadsTo (es ++ own ∷ []) object r w.0.after) (sym (row_last object))
                (subst (λ (x : Write). LeadsTo (es ++ own ∷ []) object (row_after object (rows object) story.done) x.after) one led.2);
          })
        where
          one_of : (a b : Write) → Some a ≡ Some b → a ≡ b
          one_of a b e = (cc)

      indexed_now : IsIndexed (es ++ own ∷ []) more.items (suc (commits es)) now
      indexed_now = record {
        place = ap (option_and_then committed) (ap (slice_get (es ++ own ∷ [])) is_place ∙ get_last es own) ∙ ap Some (sym done_last);
        earlier = ap commits (take_at es (own ∷ []) place (sym is_place)) ∙ (omega arith);
        classes = subst (HasClasses classes) (sym done_last) has;
        count = counted ∙ ap (λ d. length (objects_written d)) (sym done_last);
        within = let f = taken.count in omega arith;
        each = λ k object at. write_now k object (ap (λ d. slice_get (objects_written d) k) (sym done_last) ∙ at);
      }

      each_now : (n : ℕ) (c : Commit) → ((slice_get commits_kept.items n ≡ Some c) ⊎ ((n ≡ length commits_kept.items) × (now ≡ c))) → IsIndexed (es ++ own ∷ []) more.items (suc n) c
      each_now n c (inl at) =
          indexed_kept es own writes.items more.items (suc n) c (let f = get_within commits_kept.items n c at in let g = kept.many in omega arith) (let f = taken.count in omega arith) same (kept.each n c at)
      each_now n c (inr at) =
          let last : suc (commits es) ≡ suc n = let g = kept.many in let h = at.0 in omega arith in
          subst (λ (x : Commit). IsIndexed (es ++ own ∷ []) more.items (suc n) x) at.1
          (subst (λ (m : ℕ). IsIndexed (es ++ own ∷ []) more.items m now) last indexed_now)

-- what is kept of the commit of a number
pub kept_of : (entries : Reserved Entry) (commits_kept : Reserved Commit) (writes : Reserved Write) (table : Newest) (room write_room commit : ℕ) (c : Commit)
    → IsKept entries commits_kept writes table room write_room → 0 < commit → slice_get commits_kept.items (commit - 1) ≡ Some c → IsIndexed entries.items writes.items commit c
kept_of entries commits_kept writes table room write_room commit c kept positive at =
    let number : suc (commit - 1) ≡ commit = omega arith in
    subst (λ n. IsIndexed entries.items writes.items n c) number (kept.each (commit - 1) c at)

-- where a position may lead to is the object's row
pub may_lead_row : (es : List Entry) (object : ℕ × ℕ) (row : Option Row) (position : Option Position) → MayLead es object row position → option_and_then (row_at es) position ≡ row
may_lead_row es object row None leads = sym leads
may_lead_row es object row (Some p) leads = leads.left

-- the write of an object of a commit
pub write_of : (es : List Entry) (writes : List Write) (commit k : ℕ) (c : Commit) (object : ℕ × ℕ) (w : Write) → IsIndexed es writes commit c
    → slice_get (objects_written (done_in es commit)) k ≡ Some object → slice_get writes (c.first + k) ≡ Some w → IsWriteOf es commit object w
write_of es writes commit k c object w is at stood = subst (λ (o : Option Write). IsSomeAnd o (IsWriteOf es commit object)) stood (is.each k object at)

-- more room keeps what is kept
pub kept_with_room : (entries roomier : Reserved Entry) (commits_kept commits_now : Reserved Commit) (writes writes_now : Reserved Write) (table table_now : Newest) (room write_room room_now write_room_now : ℕ)
    → IsKept entries commits_kept writes table room write_room
    → roomier.items ≡ entries.items → commits_now.items ≡ commits_kept.items → writes_now.items ≡ writes.items → ((object : ℕ × ℕ) → newest_of table_now object ≡ newest_of table object)
    → room_now ≤ roomier.room → room_now ≤ commits_now.room → write_room_now ≤ writes_now.room → write_room_now ≤ spare table_now
    → IsKept roomier commits_now writes_now table_now room_now write_room_now
kept_with_room entries roomier commits_kept commits_now writes writes_now table table_now room write_room room_now write_room_now kept same_entries same_commits same_writes same_table o a b c = record {
  many = ap length same_commits ∙ kept.many ∙ ap commits (sym same_entries);
  each = λ n k at.
      subst (λ (es : List Entry). IsIndexed es writes_now.items (suc n) k) (sym same_entries)
      (subst (λ (ws : List Write). IsIndexed entries.items ws (suc n) k) (sym same_writes) (kept.each n k (ap (λ xs. slice_get xs n) (sym same_commits) ∙ at)));
  newest = λ object.
      subst (λ (es : List Entry). NewestLeads es object (last_row es (commits es) object) writes_now.items (newest_of table_now object)) (sym same_entries)
      (subst (λ (ws : List Write). NewestLeads entries.items object (last_row entries.items (commits entries.items) object) ws (newest_of table_now object)) (sym same_writes)
      (subst (λ (f : Option ℕ). NewestLeads entries.items object (last_row entries.items (commits entries.items) object) writes.items f) (sym (same_table object)) (kept.newest object)));
  entry_room = o;
  commit_room = a;
  writes_room = b;
  newest_room = c;
}

-- the entry that was appended is the last one
pub entry_at : (es items : List Entry) (place : ℕ) (e x : Entry) → items ≡ es ++ e ∷ [] → place ≡ length es → slice_get items place ≡ Some x → e ≡ x
entry_at es items place e x is last at =
    let here : slice_get items place ≡ Some e = ap (λ xs. slice_get xs place) is ∙ ap (slice_get (es ++ e ∷ [])) last ∙ get_last es e in
    (cc)

-- an entry that is no commit
pub no_commit : (e : Entry) → ((story : Story) (number : ℕ) → e ≡ entry.Commit story number → ⊥) → (committed e ≡ None) × (done_of e ≡ [])
no_commit (entry.Commit story number) other = absurd (other story number refl)
no_commit (entry.Read story) other = (refl, refl)
no_commit (entry.Abort story cause) other = (refl, refl)
no_commit (entry.Handled client by at finished) other = (refl, refl)
no_commit (entry.Closed client) other = (refl, refl)

-- the write of an object of a commit is there
pub write_there : (es now : List Entry) (writes : List Write) (commit k : ℕ) (c : Commit) → IsIndexed es writes commit c → es ≡ now → k < length (objects_written (done_in now commit)) → c.first + k < length writes
write_there es now writes commit k c is same below =
    let f = is.count in let g = is.within in
    let h : k < length (objects_written (done_in es commit)) = subst (λ (n : List Entry). k < length (objects_written (done_in n commit))) (sym same) below in
    omega arith

-- what a write of an object of a commit leads to
pub leads_there : (es now lent : List Entry) (writes : List Write) (commit k : ℕ) (c : Commit) (w : Write) → IsIndexed es writes commit c → es ≡ now → lent ≡ es
    → k < length (objects_written (done_in now commit)) → slice_get writes (c.first + k) ≡ Some w → IsSome (object_at lent w.after)
leads_there es now lent writes commit k c w is same lent_is below stood =
    let o = get_there (objects_written (done_in es commit)) k (subst (λ (n : List Entry). k < length (objects_written (done_in n commit))) (sym same) below) in
    let write = write_of es writes commit k c o.0 w is o.1 stood in
    some_is (object_at lent w.after) o.0 (ap (λ n. object_at n w.after) lent_is ∙ write.after.wrote)
  where
    some_is : (found : Option (ℕ × ℕ)) (object : ℕ × ℕ) → found ≡ Some object → IsSome found
    some_is None object e = (cc)
    some_is (Some x) object e = search rules

change_here : (es : List Entry) (writes : List Write) (commit k : ℕ) (c : Commit) (w : Write) (object : ℕ × ℕ) (before after : Option Row) → IsIndexed es writes commit c
    → k < length (objects_written (done_in es commit)) → slice_get writes (c.first + k) ≡ Some w
    → object_at es w.after ≡ Some object → before ≡ option_and_then (row_at es) w.before → after ≡ row_at es w.after
    → (slice_get (objects_written (done_in es commit)) k ≡ Some object) × (before ≡ last_row es (commit - 1) object) × (after ≡ last_row es commit object)
change_here es writes commit k c w object before after is below stood found before_is after_is =
    let o = get_there (objects_written (done_in es commit)) k below in
    let write = write_of es writes commit k c o.0 w is o.1 stood in
    let one : Some o.0 ≡ Some object = sym write.after.wrote ∙ found in
    let same : o.0 ≡ object = one_of o.0 object one in (
      o.1 ∙ one,
      before_is ∙ may_lead_row es o.0 (last_row es (commit - 1) o.0) w.before write.before ∙ ap (last_row es (commit - 1)) same,
      after_is ∙ write.after.left ∙ ap (last_row es commit) same,
    )
  where
    one_of : (a b : ℕ × ℕ) → Some a ≡ Some b → a ≡ b
    one_of a b e = (cc)

pub change_is : (es now lent : List Entry) (writes : List Write) (commit k : ℕ) (c : Commit) (w : Write) (object : ℕ × ℕ) (before after : Option Row) → IsIndexed es writes commit c → es ≡ now → lent ≡ es
    → k < length (objects_written (done_in now commit)) → slice_get writes (c.first + k) ≡ Some w
    → object_at lent w.after ≡ Some object → before ≡ option_and_then (row_at lent) w.before → after ≡ row_at lent w.after
    → (slice_get (objects_written (done_in now commit)) k ≡ Some object) × (before ≡ last_row now (commit - 1) object) × (after ≡ last_row now commit object)
change_is es now lent writes commit k c w object before after is same lent_is below stood found before_is after_is =
    subst (λ (n : List Entry). (slice_get (objects_written (done_in n commit)) k ≡ Some object) × (before ≡ last_row n (commit - 1) object) × (after ≡ last_row n commit object)) same
    (change_here es writes commit k c w object before after is (subst (λ (n : List Entry). k < length (objects_written (done_in n commit))) (sym same) below) stood
    (sym (ap (λ n. object_at n w.after) lent_is) ∙ found) (before_is ∙ ap (λ n. option_and_then (row_at n) w.before) lent_is) (after_is ∙ ap (λ n. row_at n w.after) lent_is))
