-- A commit's writes are taken up, operation by operation.
use Rattle.std.proofs.Common.{◌≡◌, ◌≢◌, ℕ, ◌+◌, ◌-◌, ◌<◌, ◌≤◌, Bool, true, false, cond, List, [], ◌∷◌, ◌++◌, length, set, slice_get, Option, Some, None, IsSomeAnd, refl, sym, ap, subst, ◌∙◌, arith, inl, inr, ◌⊎◌}
use Rattle.std.specs.Option.{option_map, option_and_then, ForSome}
use Rattle.std.proofs.lemmas.List.{length_push, length-set}
use Rattle.std.proofs.Permutation.{which}
use Rattle.rdb_base.specs.declared.operation.Op.{Op}
use Rattle.rdb_base.specs.declared.operation.Reply.{Reply}
use Rattle.rdb_base.specs.declared.journal.Entry.{Entry}
use Rattle.rdb_model.specs.Database.{Row}
use Rattle.rdb_model.specs.Touch.{written_by}
use Rattle.rdb_history.specs.declared.index.Position.{Position}
use Rattle.rdb_history.specs.declared.index.Write.{Write}
use Rattle.rdb_history.specs.Rows.{same_object, row_left, row_after, is_among, objects_written}
use Rattle.rdb_history.specs.Kept.{Newest, newest_of, operation_at, LeadsTo, MayLead, NewestLeads}
use Rattle.rdb_history.specs.Indexing.{position_of, IsIndexing}
use Rattle.rdb_history.proofs.ListLemmas.{get_left, get_last, get_within, get_pushed, get_set_same, get_set_other}
use Rattle.rdb_history.proofs.ObjectLemmas.{same_itself, same_are_one, among_at, place_among, objects_same, objects_again, objects_first, row_same, row_written, row_of_unwritten, wrote_none, wrote_is}

-- a write at a place, from the fact that there is one that passes
pub some_at : {A : Type 0} (P : A → Type 0) (o : Option A) → IsSomeAnd o P → (x : A) × (o ≡ Some x) × P x
some_at P None h = absurd h
some_at P (Some x) h = (x, refl, h)

pub at_some : {A : Type 0} (P : A → Type 0) (o : Option A) (x : A) → o ≡ Some x → P x → IsSomeAnd o P
at_some {A = A} P o x e h = subst (λ (v : Option A). IsSomeAnd v P) (sym e) h

module _ (entries : List Entry) (rows : ℕ × ℕ → Option Row) (first : ℕ) (done : List (Op × Reply)) (d : Op × Reply) (at : Position) (writes : List Write) (table : Newest) where
  -- an operation that wrote nothing
  pub none_taken : written_by d ≡ None → IsIndexing entries rows first done writes table → IsIndexing entries rows first (done ++ d ∷ []) writes table
  none_taken none so_far =
      let same = objects_same done d none in
      record {
        count = so_far.count ∙ ap (λ os. first + length os) (sym same);
        each = λ k object e. so_far.each k object (ap (λ os. slice_get os k) (sym same) ∙ e);
        own = λ object i e h. ap (λ os. slice_get os (i - first)) same ∙ so_far.own object i e h;
        newest = λ object.
            subst (λ (r : Option Row). NewestLeads entries object r writes (newest_of table object)) (sym (row_same object (rows object) done d (wrote_none d object none))) (so_far.newest object);
        before = λ k object e. so_far.before k object (ap (λ os. slice_get os k) (sym same) ∙ e);
      }

  module _ (own : ℕ × ℕ) (is : written_by d ≡ Some own) (stands : operation_at entries at ≡ Some d) where
    -- the position of the operation leads to its object, with the row that it left
    leads_here : (object : ℕ × ℕ) → same_object own object ≡ true → LeadsTo entries object (row_after object (rows object) (done ++ d ∷ [])) at
    leads_here object same = record {
      wrote = ap (option_and_then written_by) stands ∙ is ∙ ap Some (same_are_one own object same);
      left = ap (option_and_then (λ x. row_left x.0)) stands ∙ sym (row_written object (rows object) done d (wrote_is d own object is ∙ same));
    }

    -- another object's row stays
    row_stays : (object : ℕ × ℕ) → same_object own object ≡ false → row_after object (rows object) done ≡ row_after object (rows object) (done ++ d ∷ [])
    row_stays object other = sym (row_same object (rows object) done d (wrote_is d own object is ∙ other))

    -- an object that the commit has written
    pub again_taken : (i : ℕ) (was : Write) → newest_of table own ≡ Some i → first ≤ i → slice_get writes i ≡ Some was
        → IsIndexing entries rows first done writes table → IsIndexing entries rows first (done ++ d ∷ []) (set writes i (record was { after = at })) table
    again_taken i was found high stood so_far =
        let here : slice_get (objects_written done) (i - first) ≡ Some own = so_far.own own i found high in
        let same : objects_written (done ++ d ∷ []) ≡ objects_written done = objects_again done d own is (among_at (objects_written done) (i - first) own here) in
        record {
          count = length-set writes i (record was { after = at }) ∙ so_far.count ∙ ap (λ os. first + length os) (sym same);
          each = λ k object e. so_far.each k object (ap (λ os. slice_get os k) (sym same) ∙ e);
          own = λ object j e h. ap (λ os. slice_get os (j - first)) same ∙ so_far.own object j e h;
          newest = λ object. newest_now object (same_object own object) refl;
          before = λ k object e. before_now k object (so_far.before k object (ap (λ os. slice_get os k) (sym same) ∙ e)) (which_place (first + k));
        }
      where
        now : Write
        now = record was { after = at }

        which_place : (j : ℕ) → (j ≡ i) ⊎ (j ≢ i)
        which_place j = elim (which j i) [ inl e ↦ inl e | inr n ↦ inr (λ e. absurd (omega arith)) ]

        -- two objects have different newest writes
        apart_from : (object : ℕ × ℕ) (j : ℕ) → same_object own object ≡ false → newest_of table object ≡ Some j → j ≢ i
        apart_from object j other e same =
            let there : slice_get (objects_written done) (i - first) ≡ Some object = subst (λ (k : ℕ). slice_get (objects_written done) (k - first) ≡ Some object) same (so_far.own object j e (omega arith)) in
            let one : own ≡ object = (cc (so_far.own own i found high)) in
            (cc (subst (λ x. same_object own x ≡ true) one (same_itself own)))

        newest_other : (object : ℕ × ℕ) (found : Option ℕ) → same_object own object ≡ false → newest_of table object ≡ found → NewestLeads entries object (row_after object (rows object) done) writes found → NewestLeads entries object (row_after object (rows object) (done ++ d ∷ [])) (set writes i now) found
        newest_other object None other e leads = sym (row_stays object other) ∙ leads
        newest_other object (Some j) other e leads =
            subst (λ (o : Option Write). IsSomeAnd o (λ w. LeadsTo entries object (row_after object (rows object) (done ++ d ∷ [])) w.after)) (sym (get_set_other writes i j now (apart_from object j other e)))
            (subst (λ (r : Option Row). IsSomeAnd (slice_get writes j) (λ w. LeadsTo entries object r w.after)) (row_stays object other) leads)

        newest_now : (object : ℕ × ℕ) (b : Bool) → same_object own object ≡ b → NewestLeads entries object (row_after object (rows object) (done ++ d ∷ [])) (set writes i now) (newest_of table object)
        newest_now object true e =
            subst (λ (f : Option ℕ). NewestLeads entries object (row_after object (rows object) (done ++ d ∷ [])) (set writes i now) f) (sym found ∙ ap (newest_of table) (same_are_one own object e))
            (at_some (λ w. LeadsTo entries object (row_after object (rows object) (done ++ d ∷ [])) w.after) (slice_get (set writes i now) i) now (get_set_same writes i was now stood) (leads_here object e))
        newest_now object false e = newest_other object (newest_of table object) e refl (so_far.newest object)

        before_now : (k : ℕ) (object : ℕ × ℕ) → IsSomeAnd (slice_get writes (first + k)) (λ w. MayLead entries object (rows object) w.before) → ((first + k ≡ i) ⊎ (first + k ≢ i)) → IsSomeAnd (slice_get (set writes i now) (first + k)) (λ w. MayLead entries object (rows object) w.before)
        before_now k object leads (inl e) =
            let old : MayLead entries object (rows object) was.before = subst (λ (o : Option Write). IsSomeAnd o (λ w. MayLead entries object (rows object) w.before)) (ap (slice_get writes) e ∙ stood) leads in
            at_some (λ w. MayLead entries object (rows object) w.before) (slice_get (set writes i now) (first + k)) now (ap (slice_get (set writes i now)) e ∙ get_set_same writes i was now stood) old
        before_now k object leads (inr n) =
            subst (λ (o : Option Write). IsSomeAnd o (λ w. MayLead entries object (rows object) w.before)) (sym (get_set_other writes i (first + k) now n)) leads

    -- an object that the commit writes for the first time
    pub first_taken : (next : Newest) → ForSome (newest_of table own) (λ i. i < first)
        → ((other : ℕ × ℕ) → newest_of next other ≡ cond (same_object own other) (Some (length writes)) (newest_of table other))
        → IsIndexing entries rows first done writes table
        → IsIndexing entries rows first (done ++ d ∷ []) (writes ++ record { before = position_of writes (newest_of table own); after = at } ∷ []) next
    first_taken next below noted so_far =
        let more = objects_first done d own is absent in
        record {
          count = length_push writes now ∙ counted ∙ ap (λ os. first + length os) (sym more);
          each = λ k object e. each_now k object (get_pushed (objects_written done) own object k (ap (λ os. slice_get os k) (sym more) ∙ e));
          own = λ object i e h. ap (λ os. slice_get os (i - first)) more ∙ own_now object i (same_object own object) refl e h;
          newest = λ object. newest_now object (same_object own object) refl;
          before = λ k object e. before_now k object (get_pushed (objects_written done) own object k (ap (λ os. slice_get os k) (sym more) ∙ e));
        }
      where
        now : Write
        now = record { before = position_of writes (newest_of table own); after = at }

        not_here : (k : ℕ) → slice_get (objects_written done) k ≡ Some own → ⊥
        not_here k e =
            let low : first + k < first = subst (λ (o : Option ℕ). ForSome o (λ i. i < first)) (so_far.each k own e) below (first + k) refl in
            omega arith

        absent : is_among (objects_written done) own ≡ false
        absent = go (is_among (objects_written done) own) refl
          where
            go : (b : Bool) → is_among (objects_written done) own ≡ b → b ≡ false
            go true e = let p = place_among (objects_written done) own e in absurd (not_here p.0 p.1)
            go false e = refl

        counted : length writes + 1 ≡ first + length (objects_written done ++ own ∷ [])
        counted = let f = so_far.count in let g = length_push (objects_written done) own in omega arith

        apart_of : (k : ℕ) (object : ℕ × ℕ) → slice_get (objects_written done) k ≡ Some object → same_object own object ≡ false
        apart_of k object e = go (same_object own object) refl
          where
            go : (b : Bool) → same_object own object ≡ b → b ≡ false
            go true f = absurd (not_here k (e ∙ ap Some (sym (same_are_one own object f))))
            go false f = refl

        noted_other : (object : ℕ × ℕ) → same_object own object ≡ false → newest_of next object ≡ newest_of table object
        noted_other object other = noted object ∙ ap (λ b. cond b (Some (length writes)) (newest_of table object)) other

        noted_own : (object : ℕ × ℕ) → same_object own object ≡ true → newest_of next object ≡ Some (length writes)
        noted_own object same = noted object ∙ ap (λ b. cond b (Some (length writes)) (newest_of table object)) same

        each_now : (k : ℕ) (object : ℕ × ℕ) → ((slice_get (objects_written done) k ≡ Some object) ⊎ ((k ≡ length (objects_written done)) × (own ≡ object))) → newest_of next object ≡ Some (first + k)
        each_now k object (inl e) = noted_other object (apart_of k object e) ∙ so_far.each k object e
        each_now k object (inr e) =
            noted_own object (subst (λ x. same_object own x ≡ true) e.1 (same_itself own))
            ∙ ap Some (so_far.count ∙ ap (λ n. first + n) (sym e.0))

        own_now : (object : ℕ × ℕ) (i : ℕ) (b : Bool) → same_object own object ≡ b → newest_of next object ≡ Some i → first ≤ i → slice_get (objects_written done ++ own ∷ []) (i - first) ≡ Some object
        own_now object i true e f h =
            let at_end : Some (length writes) ≡ Some i = sym (noted_own object e) ∙ f in
            let num : length writes ≡ i = (cc) in
            let c = so_far.count in
            let place : i - first ≡ length (objects_written done) = omega arith in
            ap (slice_get (objects_written done ++ own ∷ [])) place ∙ get_last (objects_written done) own ∙ ap Some (same_are_one own object e)
        own_now object i false e f h =
            let there : slice_get (objects_written done) (i - first) ≡ Some object = so_far.own object i (sym (noted_other object e) ∙ f) h in
            get_left (objects_written done) (own ∷ []) (i - first) (get_within (objects_written done) (i - first) object there) ∙ there

        pushed_other : (object : ℕ × ℕ) (found : Option ℕ) → same_object own object ≡ false → NewestLeads entries object (row_after object (rows object) done) writes found → NewestLeads entries object (row_after object (rows object) (done ++ d ∷ [])) (writes ++ now ∷ []) found
        pushed_other object None other leads = sym (row_stays object other) ∙ leads
        pushed_other object (Some j) other leads =
            let w = some_at (λ w. LeadsTo entries object (row_after object (rows object) done) w.after) (slice_get writes j) leads in
            at_some (λ w. LeadsTo entries object (row_after object (rows object) (done ++ d ∷ [])) w.after) (slice_get (writes ++ now ∷ []) j) w.0
            (get_left writes (now ∷ []) j (get_within writes j w.0 w.1) ∙ w.1)
            (subst (λ (r : Option Row). LeadsTo entries object r w.0.after) (row_stays object other) w.2)

        newest_now : (object : ℕ × ℕ) (b : Bool) → same_object own object ≡ b → NewestLeads entries object (row_after object (rows object) (done ++ d ∷ [])) (writes ++ now ∷ []) (newest_of next object)
        newest_now object true e =
            subst (λ (f : Option ℕ). NewestLeads entries object (row_after object (rows object) (done ++ d ∷ [])) (writes ++ now ∷ []) f) (sym (noted_own object e))
            (at_some (λ w. LeadsTo entries object (row_after object (rows object) (done ++ d ∷ [])) w.after) (slice_get (writes ++ now ∷ []) (length writes)) now (get_last writes now) (leads_here object e))
        newest_now object false e =
            subst (λ (f : Option ℕ). NewestLeads entries object (row_after object (rows object) (done ++ d ∷ [])) (writes ++ now ∷ []) f) (sym (noted_other object e))
            (pushed_other object (newest_of table object) e (so_far.newest object))

        -- where the object was written before
        led : (found : Option ℕ) → NewestLeads entries own (rows own) writes found → MayLead entries own (rows own) (position_of writes found)
        led None leads = leads
        led (Some i) leads =
            let w = some_at (λ w. LeadsTo entries own (rows own) w.after) (slice_get writes i) leads in
            subst (λ (o : Option Write). MayLead entries own (rows own) (option_map (λ x. x.after) o)) (sym w.1) w.2

        before_now : (k : ℕ) (object : ℕ × ℕ) → ((slice_get (objects_written done) k ≡ Some object) ⊎ ((k ≡ length (objects_written done)) × (own ≡ object))) → IsSomeAnd (slice_get (writes ++ now ∷ []) (first + k)) (λ w. MayLead entries object (rows object) w.before)
        before_now k object (inl e) =
            let w = some_at (λ w. MayLead entries object (rows object) w.before) (slice_get writes (first + k)) (so_far.before k object e) in
            at_some (λ w. MayLead entries object (rows object) w.before) (slice_get (writes ++ now ∷ []) (first + k)) w.0 (get_left writes (now ∷ []) (first + k) (get_within writes (first + k) w.0 w.1) ∙ w.1) w.2
        before_now k object (inr e) =
            let c = so_far.count in
            let place : first + k ≡ length writes = omega (arith, e.0) in
            at_some (λ w. MayLead entries object (rows object) w.before) (slice_get (writes ++ now ∷ []) (first + k)) now
            (ap (slice_get (writes ++ now ∷ [])) place ∙ get_last writes now)
            (subst (λ (x : ℕ × ℕ). MayLead entries x (rows x) now.before) e.1
            (led (newest_of table own) (subst (λ (r : Option Row). NewestLeads entries own r writes (newest_of table own)) (row_of_unwritten own (rows own) done absent) (so_far.newest own))))
