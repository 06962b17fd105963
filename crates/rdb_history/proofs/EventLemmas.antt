-- The next event behind a place: that it is one, is of a written object, and is found commit by commit and object by object.
use Rattle.std.proofs.Common.{◌≡◌, ℕ, ◌+◌, ◌-◌, ◌<◌, ◌≤◌, ◌==◌, Bool, true, false, not, ◌&&◌, min, List, [], ◌∷◌, ◌++◌, length, take, slice_get, Option, Some, None, MatchOption, IfSome, IfNone, bit_and, refl, sym, ap, subst, ◌∙◌, arith, inl, inr, ◌⊎◌, take_all}
use Rattle.std.specs.Ordering.{is_eq}
use Rattle.std.specs.Option.{option_map_or}
use Rattle.std.proofs.lemmas.Bool.Decides.{nat_tests}
use Rattle.std.proofs.lemmas.Bool.{cases_lt}
use Rattle.std.proofs.lemmas.Cmp.{tied_itself}
use Rattle.rdb_base.proofs.OrderLemmas.{row_order_total}
use Rattle.rdb_base.specs.declared.journal.Entry.{Entry}
use Rattle.rdb_schema.specs.declared.schema.EventKind.{EventKind}
use Rattle.rdb_schema.specs.declared.schema.EventKind.TheVariants as kinds
use Rattle.rdb_model.specs.Database.{Row}
use Rattle.rdb_model.specs.Index.{key}
use Rattle.rdb_model.specs.Journal.{commits}
use Rattle.rdb_model.specs.Events.{happened, is_behind}
use Rattle.rdb_model.specs.Validation.{was_written}
use Rattle.rdb_history.specs.Rows.{last_row, done_in, objects_written}
use Rattle.rdb_history.specs.RowEvents.{HappenedByRows, IsNextEvent, HasNoEvent, IsLeastEvent, HasNoEventOf}
use Rattle.rdb_history.specs.Kept.{HasClasses}
use Rattle.rdb_history.specs.Classes.{HasClass}
use Rattle.rdb_history.proofs.ListLemmas.{get_pushed, take_more}
use Rattle.rdb_history.proofs.ClassLemmas.{not_in_both, has_class}
use Rattle.rdb_history.proofs.GrowthLemmas.{row_step}
use Rattle.rdb_history.proofs.WriteLemmas.{placed, unwritten_row}

-- nothing happens to an object whose row stays
nothing_happened : (k : EventKind) (row : Option Row) → happened k row row ≡ false
nothing_happened kinds.New None = refl
nothing_happened kinds.New (Some row) = refl
nothing_happened kinds.Delete None = refl
nothing_happened kinds.Delete (Some row) = refl
nothing_happened kinds.Update None = refl
nothing_happened kinds.Update (Some row) = ap (λ o. not (is_eq o)) (tied_itself row_order_total row)
nothing_happened (kinds.UpdateField field) None = refl
nothing_happened (kinds.UpdateField field) (Some row) = ap (λ o. not (is_eq o)) (tied_itself row_order_total (key (field ∷ []) row))

pub event_written : (class : ℕ) (kind : EventKind) (journal : List Entry) (pair : ℕ × ℕ) → HappenedByRows class kind journal pair → was_written (done_in journal pair.0) (class, pair.1) ≡ true
event_written class kind journal pair h = go (was_written (done_in journal pair.0) (class, pair.1)) refl
  where
    go : (b : Bool) → was_written (done_in journal pair.0) (class, pair.1) ≡ b → b ≡ true
    go true e = refl
    go false e =
        let stays : last_row journal pair.0 (class, pair.1) ≡ last_row journal (pair.0 - 1) (class, pair.1) =
        row_step journal pair.0 (class, pair.1) h.numbered h.there ∙ unwritten_row (done_in journal pair.0) (class, pair.1) (last_row journal (pair.0 - 1) (class, pair.1)) e in
        let never : happened kind (last_row journal (pair.0 - 1) (class, pair.1)) (last_row journal pair.0 (class, pair.1)) ≡ false =
        ap (happened kind (last_row journal (pair.0 - 1) (class, pair.1))) stays ∙ nothing_happened kind (last_row journal (pair.0 - 1) (class, pair.1)) in
        absurd (cc h.changed)

-- two pairs of which neither is behind the other are one
neither_behind : (a b : ℕ × ℕ) → is_behind a b ≡ false → is_behind b a ≡ false → a ≡ b
neither_behind a b e f =
    let first : a.0 ≡ b.0 = grind (arith, nat_tests) in
    let second : a.1 ≡ b.1 = grind (arith, nat_tests) in
    λ i. (first i, second i)

module _ (class : ℕ) (kind : EventKind) (journal : List Entry) (place : ℕ × ℕ) where
  pub one_next : (next other : ℕ × ℕ) → IsNextEvent class kind journal place next → IsNextEvent class kind journal place other → next ≡ other
  one_next next other a b = neither_behind next other (b.first next a.happened a.behind) (a.first other b.happened b.behind)

  pub some_next : (next : ℕ × ℕ) → IsNextEvent class kind journal place next → HasNoEvent class kind journal place (commits journal) → ⊥
  some_next next is none = let e = none next is.happened is.happened.there in let f = is.behind in (cc)

  -- whether what a commit did to an object is an event behind the place
  abbrev pub is_event : ℕ → ℕ × ℕ → Bool
  is_event commit object =
      (object.0 == class) && (happened kind (last_row journal (commit - 1) object) (last_row journal commit object) && is_behind place (commit, object.1))

  -- the least id of such an object among the first ones of a list
  abbrev pub NoneAmong : ℕ → List (ℕ × ℕ) → Type 0
  NoneAmong commit objects = (k : ℕ) (object : ℕ × ℕ) → slice_get objects k ≡ Some object → is_event commit object ≡ false

  pub record LeastAmong (commit : ℕ) (objects : List (ℕ × ℕ)) (id : ℕ) : Type 0 where
    pub here : is_event commit (class, id) ≡ true
    pub least : (k : ℕ) (object : ℕ × ℕ) → slice_get objects k ≡ Some object → is_event commit object ≡ true → id ≤ object.1

  abbrev pub IsLeast : ℕ → List (ℕ × ℕ) → Option ℕ → Type 0
  IsLeast commit objects least = MatchOption least (NoneAmong commit objects) (LeastAmong commit objects)

  pub none_yet : (commit : ℕ) → IsLeast commit [] None
  none_yet commit k object at = (cc)

  passed_over : (commit : ℕ) (objects : List (ℕ × ℕ)) (own : ℕ × ℕ) (least : Option ℕ) → is_event commit own ≡ false → IsLeast commit objects least → IsLeast commit (objects ++ own ∷ []) least
  passed_over commit objects own None other is = λ k object at. go object (get_pushed objects own object k at)
    where
      go : (object : ℕ × ℕ) → {k : ℕ} → (slice_get objects k ≡ Some object) ⊎ ((k ≡ length objects) × (own ≡ object)) → is_event commit object ≡ false
      go object (inl f) = is _ object f
      go object (inr f) = sym (ap (is_event commit) f.1) ∙ other
  passed_over commit objects own (Some id) other is = record {
    here = is.here;
    least = λ k object at happens. go object happens (get_pushed objects own object k at);
  }
    where
      go : (object : ℕ × ℕ) → is_event commit object ≡ true → {k : ℕ} → (slice_get objects k ≡ Some object) ⊎ ((k ≡ length objects) × (own ≡ object)) → id ≤ object.1
      go object happens (inl f) = is.least _ object f happens
      go object happens (inr f) = let e = ap (is_event commit) f.1 in absurd (cc happens)

  taken_up : (commit : ℕ) (objects : List (ℕ × ℕ)) (own : ℕ × ℕ) (least : Option ℕ) → is_event commit own ≡ true → IsLeast commit objects least → IsLeast commit (objects ++ own ∷ []) (Some (option_map_or (min own.1) least own.1))
  taken_up commit objects own None happens is = record {
    here = of_class;
    least = λ k object at event. go object event (get_pushed objects own object k at);
  }
    where
      of_class : is_event commit (class, own.1) ≡ true
      of_class = same_class (own.0 == class) refl happens
        where
          same_class : (b : Bool) → (own.0 == class) ≡ b → (b && (happened kind (last_row journal (commit - 1) own) (last_row journal commit own) && is_behind place (commit, own.1))) ≡ true → is_event commit (class, own.1) ≡ true
          same_class true e f = let one : own.0 ≡ class = grind (arith, nat_tests) in subst (λ (n : ℕ). is_event commit (n, own.1) ≡ true) one happens
          same_class false e f = (cc)

      go : (object : ℕ × ℕ) → is_event commit object ≡ true → {k : ℕ} → (slice_get objects k ≡ Some object) ⊎ ((k ≡ length objects) × (own ≡ object)) → own.1 ≤ object.1
      go object event (inl f) = let e = is _ object f in absurd (cc event)
      go object event (inr f) = let e = ap (λ (o : ℕ × ℕ). o.1) f.1 in omega arith
  taken_up commit objects own (Some id) happens is = record {
    here = go_here (cases_lt own.1 id);
    least = λ k object at event. go object event (get_pushed objects own object k at);
  }
    where
      of_class : is_event commit (class, own.1) ≡ true
      of_class = same_class (own.0 == class) refl happens
        where
          same_class : (b : Bool) → (own.0 == class) ≡ b → (b && (happened kind (last_row journal (commit - 1) own) (last_row journal commit own) && is_behind place (commit, own.1))) ≡ true → is_event commit (class, own.1) ≡ true
          same_class true e f = let one : own.0 ≡ class = grind (arith, nat_tests) in subst (λ (n : ℕ). is_event commit (n, own.1) ≡ true) one happens
          same_class false e f = (cc)

      go_here : (own.1 < id) ⊎ (id ≤ own.1) → is_event commit (class, min own.1 id) ≡ true
      go_here (inl less) = let e : own.1 ≡ min own.1 id = omega arith in subst (λ n. is_event commit (class, n) ≡ true) e of_class
      go_here (inr le) = let e : id ≡ min own.1 id = omega arith in subst (λ n. is_event commit (class, n) ≡ true) e is.here

      go : (object : ℕ × ℕ) → is_event commit object ≡ true → {k : ℕ} → (slice_get objects k ≡ Some object) ⊎ ((k ≡ length objects) × (own ≡ object)) → min own.1 id ≤ object.1
      go object event (inl f) = let e = is.least _ object f event in omega arith
      go object event (inr f) = let e = ap (λ (o : ℕ × ℕ). o.1) f.1 in omega arith

  -- one object more
  pub least_same : (commit : ℕ) (objects : List (ℕ × ℕ)) (n : ℕ) (own : ℕ × ℕ) (least : Option ℕ) → slice_get objects n ≡ Some own → is_event commit own ≡ false → IsLeast commit (take n objects) least → IsLeast commit (take (n + 1) objects) least
  least_same commit objects n own least at other is = subst (λ l. IsLeast commit l least) (sym (take_more objects n own at)) (passed_over commit (take n objects) own least other is)

  pub least_next : (commit : ℕ) (objects : List (ℕ × ℕ)) (n : ℕ) (own : ℕ × ℕ) (least : Option ℕ) → slice_get objects n ≡ Some own → is_event commit own ≡ true → IsLeast commit (take n objects) least
      → IsLeast commit (take (n + 1) objects) (Some (option_map_or (min own.1) least own.1))
  least_next commit objects n own least at happens is = subst (λ l. IsLeast commit l (Some (option_map_or (min own.1) least own.1))) (sym (take_more objects n own at)) (taken_up commit (take n objects) own least happens is)

  -- what the objects of a commit say of it
  module _ (commit : ℕ) (positive : 0 < commit) (there : commit ≤ commits journal) where
    pub event_is : (id : ℕ) → is_event commit (class, id) ≡ true → HappenedByRows class kind journal (commit, id) × (is_behind place (commit, id) ≡ true)
    event_is id e = go (class == class) (happened kind (last_row journal (commit - 1) (class, id)) (last_row journal commit (class, id))) (is_behind place (commit, id)) refl refl e
      where
        go : (a b d : Bool) → happened kind (last_row journal (commit - 1) (class, id)) (last_row journal commit (class, id)) ≡ b → is_behind place (commit, id) ≡ d → (a && (b && d)) ≡ true → HappenedByRows class kind journal (commit, id) × (is_behind place (commit, id) ≡ true)
        go true true true f g h = (record { numbered = positive; there = there; changed = f }, g)
        go true true false f g h = (cc)
        go true false d f g h = (cc)
        go false b d f g h = (cc)

    pub is_one : (id : ℕ) → HappenedByRows class kind journal (commit, id) → is_behind place (commit, id) ≡ true → is_event commit (class, id) ≡ true
    is_one id h behind =
        let same : (class == class) ≡ true = grind (arith, nat_tests) in
        ap (λ a. a && (happened kind (last_row journal (commit - 1) (class, id)) (last_row journal commit (class, id)) && is_behind place (commit, id))) same
        ∙ ap (λ b. b && is_behind place (commit, id)) h.changed ∙ behind

    pub least_event : (id : ℕ) → IsLeast commit (objects_written (done_in journal commit)) (Some id) → IsLeastEvent class kind journal place commit id
    least_event id is =
        let e = event_is id is.here in
        record {
          happened = e.0;
          behind = e.1;
          least = λ other h behind.
              let at = placed (done_in journal commit) (class, other) (event_written class kind journal (commit, other) h) in
              is.least at.0 (class, other) at.1 (is_one other h behind);
        }

    pub no_event : IsLeast commit (objects_written (done_in journal commit)) None → HasNoEventOf class kind journal place commit
    no_event is id h = go (is_behind place (commit, id)) refl
      where
        go : (b : Bool) → is_behind place (commit, id) ≡ b → b ≡ false
        go true e =
            let at = placed (done_in journal commit) (class, id) (event_written class kind journal (commit, id) h) in
            let none = is at.0 (class, id) at.1 in let one = is_one id h e in (cc)
        go false e = refl

  -- a commit of other classes has no event
  pub passed_by : (commit classes other : ℕ) → HasClasses classes (done_in journal commit) → HasClass other class → (bit_and classes other == 0) ≡ true → HasNoEventOf class kind journal place commit
  passed_by commit classes other has looked apart id h = absurd (not_in_both classes other class apart (has_class classes (done_in journal commit) (class, id) has (event_written class kind journal (commit, id) h)) looked)

  -- what was found of a change is what the journal says of it
  pub event_found : (commit : ℕ) (own : ℕ × ℕ) (before after : Option Row) (found : Bool) → found ≡ ((own.0 == class) && (happened kind before after && is_behind place (commit, own.1)))
      → before ≡ last_row journal (commit - 1) own → after ≡ last_row journal commit own → is_event commit own ≡ found
  event_found commit own before after found is b a =
      sym (is
      ∙ ap (λ r. (own.0 == class) && (happened kind r after && is_behind place (commit, own.1))) b
      ∙ ap (λ r. (own.0 == class) && (happened kind (last_row journal (commit - 1) own) r && is_behind place (commit, own.1))) a)

  -- all objects of a commit looked at
  module _ (commit : ℕ) (positive : 0 < commit) (there : commit ≤ commits journal) (n : ℕ) (all : length (objects_written (done_in journal commit)) ≤ n) where
    whole : (least : Option ℕ) → IsLeast commit (take n (objects_written (done_in journal commit))) least → IsLeast commit (objects_written (done_in journal commit)) least
    whole least is = subst (λ l. IsLeast commit l least) (take_all n (objects_written (done_in journal commit)) all) is

    pub some_found : (least : Option ℕ) → IsLeast commit (take n (objects_written (done_in journal commit))) least → IfSome least (IsLeastEvent class kind journal place commit)
    some_found None is = tt
    some_found (Some id) is = least_event commit positive there id (whole (Some id) is)

    pub none_found : (least : Option ℕ) → IsLeast commit (take n (objects_written (done_in journal commit))) least → IfNone least (HasNoEventOf class kind journal place commit)
    none_found None is = no_event commit positive there (whole None is)
    none_found (Some id) is = tt
