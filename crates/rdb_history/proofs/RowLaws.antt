-- Touches and events by the rows that were last written are those of the databases, where the replies hold.
use Rattle.std.proofs.Common.{◌≡◌, ◌↔◌, ℕ, ◌-◌, ◌<◌, Bool, true, false, ◌&&◌, ◌||◌, ◌==◌, List, [], ◌∷◌, length, slice_get, filter_map, Option, Some, None, Contains, refl, sym, ap, subst, ◌∙◌, arith, inl, inr}
use Rattle.std.specs.List.{list_any}
use Rattle.std.specs.Option.{option_map_or, option_map}
use Rattle.std.proofs.lemmas.Bool.Decides.{nat_tests}
use Rattle.std.proofs.lemmas.Bool.{cases_lt}
use Rattle.std.proofs.lemmas.Option.{slice_get-get_or, get_or_from_slice_get}
use Rattle.rdb_base.specs.declared.operation.Op.{Op}
use Rattle.rdb_base.specs.declared.operation.Op.TheVariants as op
use Rattle.rdb_base.specs.declared.operation.Reply.{Reply}
use Rattle.rdb_base.specs.declared.identity.Kind.{Kind}
use Rattle.rdb_base.specs.declared.journal.Story.{Story}
use Rattle.rdb_base.specs.declared.journal.Entry.{Entry}
use Rattle.rdb_base.specs.declared.journal.Entry.TheVariants as entry
use Rattle.rdb_schema.specs.declared.schema.Class.{Class}
use Rattle.rdb_schema.specs.declared.schema.Schema.{Schema}
use Rattle.rdb_schema.specs.declared.schema.EventKind.{EventKind}
use Rattle.rdb_schema.specs.declared.schema.IndexKind.{IndexKind}
use Rattle.rdb_schema.specs.Indexes.{finds_keys, is_tree, is_rtree, is_patricia}
use Rattle.rdb_schema.specs.Values.{values_hold, row_holds}
use Rattle.rdb_model.specs.Database.{Row, objects_of, row_of}
use Rattle.rdb_model.specs.Story.{after}
use Rattle.rdb_model.specs.Fits.{may_write, fits_row, has_class, has_index, fits, AllFit}
use Rattle.rdb_model.specs.Journal.{commits, fold}
use Rattle.rdb_model.specs.Parts.{NumbersInOrder, RepliesHold}
use Rattle.rdb_base.specs.Operations.{class_of}
use Rattle.rdb_model.specs.Touch.{rests, written_by, rests_on, touches, touched}
use Rattle.rdb_model.specs.Events.{happened, event_kind, event_list, next_event, HappenedIn}
use Rattle.rdb_model.proofs.FitsLemmas.{in_range, first_of, second_of}
use Rattle.rdb_model.proofs.EventLemmas.{commit_runs}
use Rattle.rdb_model.proofs.EventLists.{listed_iff}
use Rattle.rdb_model.proofs.NextEvents.{next_is, none_is, listed_first}
use Rattle.rdb_history.specs.Rows.{last_row}
use Rattle.rdb_history.specs.RowTouch.{rests_on_row, rests_on_change, touches_by_rows, touched_by_rows, IsFirstTouch, IsUntouched}
use Rattle.rdb_history.specs.RowEvents.{HappenedByRows, IsNextEvent, HasNoEvent}
use Rattle.rdb_history.proofs.ListLemmas.{get_within}
use Rattle.rdb_history.proofs.FoldLemmas.{last_row_is, done_is}

-- an operation that fits is of a class of the schema
index_there : (schema : Schema) (class index : ℕ) (test : IndexKind → Bool) → has_index schema class index test ≡ true → class < length schema.classes
index_there schema class index test e = go (slice_get schema.classes class) refl e
  where
    go : (c : Option Class) → slice_get schema.classes class ≡ c → option_map_or (λ i. test i.kind) (slice_get (option_map_or (λ x. x.indexes) c []) index) false ≡ true → class < length schema.classes
    go None f g = (cc)
    go (Some x) f g = in_range (λ y. true) schema.classes class (ap (λ (o : Option Class). option_map_or (λ y. true) o false) f)

row_there : (schema : Schema) (class : ℕ) (row : Row) → fits_row schema class row ≡ true → class < length schema.classes
row_there schema class row e = in_range (λ c. values_hold schema c.fields row) schema.classes class (first_of (row_holds schema class row) _ e)

pub class_there : (schema : Schema) (o : Op) (k : Kind) → fits schema o k ≡ true → class_of o < length schema.classes
class_there schema (op.New class row id) k e = row_there schema class row (second_of (may_write k) (fits_row schema class row) e)
class_there schema (op.Put class id row) k e = row_there schema class row (second_of (may_write k) (fits_row schema class row) e)
class_there schema (op.Get class id) k e = grind (arith, nat_tests)
class_there schema (op.Del class id) k e = let f = second_of (may_write k) (has_class schema class) e in grind (arith, nat_tests)
class_there schema (op.Find class index key) k e = index_there schema class index finds_keys (first_of (has_index schema class index finds_keys) _ e)
class_there schema (op.Seek class index from up) k e = index_there schema class index is_tree (first_of (has_index schema class index is_tree) _ e)
class_there schema (op.Area class index rect inside) k e = index_there schema class index is_rtree (first_of (has_index schema class index is_rtree) _ e)
class_there schema (op.Prefix class index text way) k e = index_there schema class index is_patricia (first_of (has_index schema class index is_patricia) _ e)
class_there schema (op.Count class) k e = grind (arith, nat_tests)

module _ (schema : Schema) (journal : List Entry) (numbers : NumbersInOrder journal) (replies : RepliesHold schema journal) where
  -- what an operation rests on, by an object's row and by the database
  rests_alike : (n : ℕ) (d : Op × Reply) (object : ℕ × ℕ) → class_of d.0 < length schema.classes → rests_on schema (fold schema journal n) d object ≡ rests_on_row schema d object (last_row journal n object)
  rests_alike n d object there = go (object.0 == class_of d.0) refl
    where
      go : (b : Bool) → (object.0 == class_of d.0) ≡ b → (b && option_map_or (rests schema d.0 d.1 object.1) (row_of (objects_of (fold schema journal n) object.0) object.1) false) ≡ (b && option_map_or (rests schema d.0 d.1 object.1) (last_row journal n object) false)
      go true e =
          let own : object.0 < length schema.classes = let same : object.0 ≡ class_of d.0 = grind (arith, nat_tests) in omega arith in
          ap (λ (r : Option Row). option_map_or (rests schema d.0 d.1 object.1) r false) (sym (last_row_is schema journal n object.0 object.1 numbers replies own))
      go false e = refl

  any_alike : (p q : ℕ × ℕ → Bool) (objects : List (ℕ × ℕ)) → ((o : ℕ × ℕ) → p o ≡ q o) → list_any p objects ≡ list_any q objects
  any_alike p q [] same = refl
  any_alike p q (o ∷ os) same = ap (λ b. b || list_any p os) (same o) ∙ ap (λ b. q o || b) (any_alike p q os same)

  -- whether a commit touches an operation of a class of the schema
  touches_alike : (own : Story) (commit i : ℕ) (d : Op × Reply) → slice_get journal i ≡ Some (entry.Commit own commit) → class_of d.0 < length schema.classes
      → touches schema (fold schema journal (commit - 1)) own.done d ≡ touches_by_rows schema journal commit d
  touches_alike own commit i d at there =
      let runs = commit_runs schema journal own commit i numbers replies at in
      any_alike
      (λ object. rests_on schema (fold schema journal (commit - 1)) d object || rests_on schema (after schema (fold schema journal (commit - 1)) own.done) d object)
      (rests_on_change schema journal commit d) (filter_map written_by own.done)
      (λ object.
      ap (λ db. rests_on schema (fold schema journal (commit - 1)) d object || rests_on schema db d object) (sym runs.next)
      ∙ ap (λ b. b || rests_on schema (fold schema journal commit) d object) (rests_alike (commit - 1) d object there)
      ∙ ap (λ b. rests_on_row schema d object (last_row journal (commit - 1) object) || b) (rests_alike commit d object there))
      ∙ ap (λ done. list_any (rests_on_change schema journal commit d) (filter_map written_by done)) (sym (done_is schema journal i own commit numbers replies at).1)

  pub touch_is : (own story : Story) (commit operation : ℕ) (k : Kind) → AllFit schema k story.done → Contains journal (entry.Commit own commit)
      → touched_by_rows schema journal commit story operation ≡ touched schema (fold schema journal (commit - 1)) (entry.Commit own commit) story operation
  touch_is own story commit operation k fit stands = go (slice_get story.done (operation - 1)) refl
    where
      at : slice_get journal stands.0 ≡ Some (entry.Commit own commit)
      at = slice_get-get_or journal stands.0 (entry.Commit own commit) stands.1 ∙ ap Some stands.2

      go : (o : Option (Op × Reply)) → slice_get story.done (operation - 1) ≡ o → option_map_or (touches_by_rows schema journal commit) o false ≡ option_map_or (touches schema (fold schema journal (commit - 1)) own.done) o false
      go None e = refl
      go (Some d) e = sym (touches_alike own commit stands.0 d at (class_there schema d.0 k (fit_at story.done (operation - 1) d fit e)))
        where
          fit_at : (done : List (Op × Reply)) (i : ℕ) (d : Op × Reply) → AllFit schema k done → slice_get done i ≡ Some d → fits schema d.0 k ≡ true
          fit_at done i d all f = subst (λ (x : Op × Reply). fits schema x.0 k ≡ true) (get_or_from_slice_get done i d d f) (all i d (get_within done i d f))

  pub untouched_is : (own story : Story) (commit operation : ℕ) (k : Kind) → AllFit schema k story.done → IsUntouched schema journal story → Contains journal (entry.Commit own commit) → story.snapshot < commit
      → touched schema (fold schema journal (commit - 1)) (entry.Commit own commit) story operation ≡ false
  untouched_is own story commit operation k fit untouched stands unseen = sym (touch_is own story commit operation k fit stands) ∙ untouched commit operation unseen (done_is schema journal stands.0 own commit numbers replies (slice_get-get_or journal stands.0 (entry.Commit own commit) stands.1 ∙ ap Some stands.2)).0

  -- an event, by rows and by databases
  pub event_is : (class : ℕ) (kind : EventKind) (pair : ℕ × ℕ) → class < length schema.classes → HappenedByRows class kind journal pair ↔ HappenedIn schema class kind journal pair
  event_is class kind pair there = (
    λ h. (h.numbered, h.there, sym alike ∙ h.changed),
    λ h. record { numbered = h.0; there = h.1; changed = alike ∙ h.2 },
  )
    where
      alike : happened kind (last_row journal (pair.0 - 1) (class, pair.1)) (last_row journal pair.0 (class, pair.1))
          ≡ happened kind (row_of (objects_of (fold schema journal (pair.0 - 1)) class) pair.1) (row_of (objects_of (fold schema journal pair.0) class) pair.1)
      alike =
          ap (λ r. happened kind r (last_row journal pair.0 (class, pair.1))) (last_row_is schema journal (pair.0 - 1) class pair.1 numbers replies there)
          ∙ ap (happened kind (row_of (objects_of (fold schema journal (pair.0 - 1)) class) pair.1)) (last_row_is schema journal pair.0 class pair.1 numbers replies there)

  -- the event list's events are those by rows, and its next one is the first of them
  module _ (class event : ℕ) (kind : EventKind) (is : event_kind schema class event ≡ Some kind) where
    kind_there : class < length schema.classes
    kind_there = go (slice_get schema.classes class) refl is
      where
        go : (c : Option Class) → slice_get schema.classes class ≡ c → option_map (λ e. e.kind) (slice_get (option_map_or (λ x. x.events) c []) event) ≡ Some kind → class < length schema.classes
        go None f g = (cc)
        go (Some x) f g = get_within schema.classes class x f

    pub listed_is : (pair : ℕ × ℕ) → Contains (event_list schema class event journal) pair ↔ HappenedByRows class kind journal pair
    listed_is pair =
        let listed = listed_iff schema journal class event kind pair is in
        let alike = event_is class kind pair kind_there in (
          λ c. alike.1 (listed.0 c),
          λ h. listed.1 (alike.0 h),
        )

    pub next_listed : (place next : ℕ × ℕ) → next_event place (event_list schema class event journal) ≡ Some next → IsNextEvent class kind journal place next
    next_listed place next e =
        let found = next_is place next (event_list schema class event journal) e in
        record {
          happened = (listed_is next).0 found.0;
          behind = found.1;
          first = λ other h behind. listed_first schema journal class event place next other e ((listed_is other).1 h) behind;
        }

    pub none_listed : (place : ℕ × ℕ) → next_event place (event_list schema class event journal) ≡ None → HasNoEvent class kind journal place (commits journal)
    none_listed place e other h below = none_is place other (event_list schema class event journal) e ((listed_is other).1 h)

-- a first touch is before any other
first_below : (schema : Schema) (journal : List Entry) (story : Story) (commit operation other k : ℕ) → IsFirstTouch schema journal story commit operation → IsFirstTouch schema journal story other k → other < commit → ⊥
first_below schema journal story commit operation other k a b below = let e = a.first_commit other k b.unseen below in (cc b.touched)

first_in_commit : (schema : Schema) (journal : List Entry) (story : Story) (commit operation k : ℕ) → IsFirstTouch schema journal story commit operation → IsFirstTouch schema journal story commit k → k < operation → ⊥
first_in_commit schema journal story commit operation k a b below = let e = a.first_operation k b.numbered below in (cc b.touched)

pub one_first_touch : (schema : Schema) (journal : List Entry) (story : Story) (commit operation other k : ℕ) → IsFirstTouch schema journal story commit operation → IsFirstTouch schema journal story other k → (commit ≡ other) × (operation ≡ k)
one_first_touch schema journal story commit operation other k a b = (same_commit, same_operation)
  where
    same_commit : commit ≡ other
    same_commit = elim (cases_lt commit other) [
      | inl lt ↦ absurd (first_below schema journal story other k commit operation b a lt)
      | inr ge ↦ elim (cases_lt other commit) [
        | inl lt ↦ absurd (first_below schema journal story commit operation other k a b lt)
        | inr le ↦ omega arith
      ]
    ]

    b_here : IsFirstTouch schema journal story commit k
    b_here = subst (λ n. IsFirstTouch schema journal story n k) (sym same_commit) b

    same_operation : operation ≡ k
    same_operation = elim (cases_lt operation k) [
      | inl lt ↦ absurd (first_in_commit schema journal story commit k operation b_here a lt)
      | inr ge ↦ elim (cases_lt k operation) [
        | inl lt ↦ absurd (first_in_commit schema journal story commit operation k a b_here lt)
        | inr le ↦ omega arith
      ]
    ]

pub touched_is_not_untouched : (schema : Schema) (journal : List Entry) (story : Story) (commit operation : ℕ) → IsFirstTouch schema journal story commit operation → IsUntouched schema journal story → ⊥
touched_is_not_untouched schema journal story commit operation a none = let e = none commit operation a.unseen a.there in (cc a.touched)
