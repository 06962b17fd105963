-- What is kept of the entries so far, with one entry more.
use Rattle.std.proofs.Common.{◌≡◌, ℕ, ◌+◌, ◌<◌, ◌≤◌, ◌⊎◌, Bool, true, false, cond, not, ◌&&◌, ◌||◌, ◌==◌, nat_eq, nat_le, nat_cmp, is_eq, List, [], ◌∷◌, ◌++◌, length, take, slice_get, get_or, set, Some, None, refl, sym, ap, ap₂, ◌∙◌, subst, inl, inr, zero, suc, length-append, arith, filter, BTreeSet, take_all, eq-eqb, ne_eqb, le-leb}
use Rattle.std.specs.Cmp.{tied_then, unsigned_tied}
use Rattle.std.specs.BTreeSet.{contains}
use Rattle.std.specs.List.{list_any}
use Rattle.std.specs.Option.{option_map_or}
use Rattle.std.proofs.lemmas.Option.{slice_get_past, slice_get-get_or}
use Rattle.std.proofs.lemmas.Bool.{cases_order, cases_lt, lt-leb}
use Rattle.std.proofs.lemmas.List.{take_at, length_push, get_or_append_left, get_or_push, get_or_past, take-append-le, get_or-set_same, get_or-set_other, length-set}
use Rattle.std.proofs.lemmas.List.Elements.{filter-append}
use Rattle.std.proofs.lemmas.List.Folds.{list_any-append}
use Rattle.rdb_base.specs.declared.journal.Story.{Story}
use Rattle.rdb_base.specs.declared.journal.Entry.{Entry}
use Rattle.rdb_base.specs.declared.journal.Entry.TheVariants as entry
use Rattle.rdb_base.specs.Entries.{is_commit}
use Rattle.rdb_model.specs.Journal.{commits, is_placed, was_made}
use Rattle.rdb_model.specs.Tallies.{two_cmp, Counts, HasMade, reads_after, sees, AreReaders}
use Rattle.rdb_model.proofs.FirstFaultLemmas.{slice_get_middle}

-- one commit more, if the entry is one
pub commits_append : (xs ys : List Entry) → commits (xs ++ ys) ≡ commits xs + commits ys
commits_append xs ys = ap length (filter-append is_commit xs ys) ∙ length-append (filter is_commit xs) (filter is_commit ys)

pub commits_push : (xs : List Entry) (e : Entry) → commits (xs ++ e ∷ []) ≡ commits xs + cond (is_commit e) 1 0
commits_push xs e = commits_append xs (e ∷ []) ∙ ap (λ n. commits xs + n) (by_kind (is_commit e))
  where
    by_kind : (b : Bool) → length (cond b (e ∷ []) []) ≡ cond b 1 0
    by_kind true = refl
    by_kind false = refl

pub commits_yes : (xs : List Entry) (e : Entry) → is_commit e ≡ true → commits (xs ++ e ∷ []) ≡ commits xs + 1
commits_yes xs e is = commits_push xs e ∙ ap (λ b. commits xs + cond b 1 0) is

pub commits_no : (xs : List Entry) (e : Entry) → is_commit e ≡ false → commits (xs ++ e ∷ []) ≡ commits xs
commits_no xs e is = let h = commits_push xs e ∙ ap (λ b. commits xs + cond b 1 0) is in omega arith

-- the counts with one more
pub counts_first : (counts : List ℕ) → counts ≡ 0 ∷ [] → Counts [] counts
counts_first counts is = subst (Counts []) (sym is) (record { many = refl; each = by_place })
  where
    by_place : (n : ℕ) → n ≤ 0 → get_or (0 ∷ []) n 0 ≡ commits (take n [])
    by_place zero h = refl
    by_place (suc n) h = absurd (omega arith)

pub counts_push : (earlier : List Entry) (e : Entry) (counts : List ℕ) (count : ℕ) → Counts earlier counts → count ≡ commits (earlier ++ e ∷ []) → Counts (earlier ++ e ∷ []) (counts ++ count ∷ [])
counts_push earlier e counts count have is = record {
  many = let a = length_push counts count in let b = length_push earlier e in let c = have.many in omega arith;
  each = by_place;
}
  where
    by_place : (n : ℕ) → n ≤ length (earlier ++ e ∷ []) → get_or (counts ++ count ∷ []) n 0 ≡ commits (take n (earlier ++ e ∷ []))
    by_place n h = by_order (cases_lt (length earlier) n)
      where
        by_order : (length earlier < n) ⊎ (n ≤ length earlier) → get_or (counts ++ count ∷ []) n 0 ≡ commits (take n (earlier ++ e ∷ []))
        by_order (inr le) =
            let m = have.many in
            let within : n < length counts = omega arith in
            get_or_append_left counts (count ∷ []) 0 n within ∙ have.each n le ∙ ap commits (sym (take-append-le n earlier (e ∷ []) le))
        by_order (inl lt) =
            let m = have.many in
            let p = length_push earlier e in
            let last : length counts ≡ n = omega arith in
            let over : length (earlier ++ e ∷ []) ≤ n = omega arith in
            get_or_push counts count 0 n last ∙ is ∙ ap commits (sym (take_all n (earlier ++ e ∷ []) over))

-- where a story is placed
pub placed_where : (earlier : List Entry) (counts : List ℕ) (count seen : ℕ) (story : Story) → Counts earlier counts → count ≡ commits earlier → slice_get counts story.begun ≡ Some seen → (nat_le seen story.snapshot && nat_le story.snapshot count) ≡ is_placed earlier story
placed_where earlier counts count seen story have is found = by_order (cases_lt (length earlier) story.begun)
  where
    by_order : (length earlier < story.begun) ⊎ (story.begun ≤ length earlier) → (nat_le seen story.snapshot && nat_le story.snapshot count) ≡ is_placed earlier story
    by_order (inl lt) = let m = have.many in let past : length counts ≤ story.begun = omega arith in let none = slice_get_past counts story.begun past in absurd (cc)
    by_order (inr le) =
        let m = have.many in
        let within : story.begun < length counts = omega arith in
        let value : Some seen ≡ Some (get_or counts story.begun 0) = sym found ∙ slice_get-get_or counts story.begun 0 within in
        let same : seen ≡ get_or counts story.begun 0 = cc in
        ap₂ (λ a b. nat_le a story.snapshot && nat_le story.snapshot b) (same ∙ have.each story.begun le) is
        ∙ sym (ap (λ b. b && (nat_le (commits (take story.begun earlier)) story.snapshot && nat_le story.snapshot (commits earlier))) (le-leb story.begun (length earlier) le))

pub placed_nowhere : (earlier : List Entry) (counts : List ℕ) (story : Story) → Counts earlier counts → slice_get counts story.begun ≡ None → false ≡ is_placed earlier story
placed_nowhere earlier counts story have none = by_order (cases_lt (length earlier) story.begun)
  where
    by_order : (length earlier < story.begun) ⊎ (story.begun ≤ length earlier) → false ≡ is_placed earlier story
    by_order (inl lt) = sym (ap (λ b. b && (nat_le (commits (take story.begun earlier)) story.snapshot && nat_le story.snapshot (commits earlier))) (lt-leb story.begun (length earlier) lt))
    by_order (inr le) = let m = have.many in let within : story.begun < length counts = omega arith in let value = slice_get-get_or counts story.begun 0 within in absurd (cc)

-- two pairs are level in their order where they are equal
pub two_is : (a b : ℕ × ℕ) → is_eq (two_cmp a b) ≡ ((a.0 == b.0) && (a.1 == b.1))
two_is a b = sym (tied_then (nat_cmp a.0 b.0) (nat_cmp a.1 b.1)) ∙ ap₂ (λ x y. x && y) (unsigned_tied a.0 b.0) (unsigned_tied a.1 b.1)

-- a choice of true is an or
pub cond_or : (a b : Bool) → cond a true b ≡ (b || (a || false))
cond_or true true = refl
cond_or true false = refl
cond_or false true = refl
cond_or false false = refl

pub or_none : (b : Bool) → b ≡ (b || false)
or_none true = refl
or_none false = refl

-- nothing at first
pub made_first : (made : BTreeSet (ℕ × ℕ)) → made.keys ≡ [] → HasMade [] made
made_first made is = record { same = λ q. ap (list_any (λ k. is_eq (two_cmp q k))) is }

-- one object more
pub made_more : (objects : List (ℕ × ℕ)) (object : ℕ × ℕ) (old new : BTreeSet (ℕ × ℕ)) → HasMade objects old → ((q : ℕ × ℕ) → contains two_cmp new q ≡ cond (is_eq (two_cmp object q)) true (contains two_cmp old q)) → HasMade (objects ++ object ∷ []) new
made_more objects object old new have put = record { same = at }
  where
    at : (q : ℕ × ℕ) → contains two_cmp new q ≡ was_made (objects ++ object ∷ []) q
    at q =
        put q
        ∙ ap₂ (λ a b. cond a true b) (two_is object q) (have.same q)
        ∙ cond_or ((object.0 == q.0) && (object.1 == q.1)) (was_made objects q)
        ∙ sym (list_any-append (λ (m : ℕ × ℕ). (m.0 == q.0) && (m.1 == q.1)) objects (object ∷ []))

-- what was added anew wasn't there
pub not_not : (a : Bool) → not (not a) ≡ a
not_not true = refl
not_not false = refl

-- an element with one more behind it
pub slice_get_left : {A : Type 0} (xs : List A) (y : A) (k : ℕ) → k < length xs → slice_get (xs ++ y ∷ []) k ≡ slice_get xs k
slice_get_left [] y k h = absurd (omega arith)
slice_get_left (x ∷ xs) y zero h = refl
slice_get_left (x ∷ xs) y (suc k) h = slice_get_left xs y k (omega arith)

-- which reads see n commits, with one entry more
pub sees_push : (earlier : List Entry) (e : Entry) (n place : ℕ) → sees (earlier ++ e ∷ []) n place ≡ (sees earlier n place || (nat_eq place (length earlier) && reads_after n (commits earlier) e))
sees_push earlier e n place = by_order (cases_order place (length earlier))
  where
    by_order : (place ≡ length earlier) ⊎ ((place < length earlier) ⊎ (length earlier < place)) → sees (earlier ++ e ∷ []) n place ≡ (sees earlier n place || (nat_eq place (length earlier) && reads_after n (commits earlier) e))
    by_order (inl same) =
        ap₂ (λ l o. option_map_or (reads_after n (commits l)) o false) (take_at earlier (e ∷ []) place (sym same)) (ap (slice_get (earlier ++ e ∷ [])) same ∙ slice_get_middle earlier [] e)
        ∙ sym (ap₂ (λ o b. option_map_or (reads_after n (commits (take place earlier))) o false || (b && reads_after n (commits earlier) e)) (slice_get_past earlier place (omega arith)) (eq-eqb place (length earlier) same))
    by_order (inr (inl less)) =
        ap₂ (λ l o. option_map_or (reads_after n (commits l)) o false) (take-append-le place earlier (e ∷ []) (omega arith)) (slice_get_left earlier e place less)
        ∙ or_none (sees earlier n place)
        ∙ ap (λ b. sees earlier n place || (b && reads_after n (commits earlier) e)) (sym (ne_eqb place (length earlier) (λ same. omega arith)))
    by_order (inr (inr more)) =
        let long = length_push earlier e in
        ap (λ o. option_map_or (reads_after n (commits (take place (earlier ++ e ∷ [])))) o false) (slice_get_past (earlier ++ e ∷ []) place (omega arith))
        ∙ sym (ap₂ (λ o b. option_map_or (reads_after n (commits (take place earlier))) o false || (b && reads_after n (commits earlier) e)) (slice_get_past earlier place (omega arith)) (ne_eqb place (length earlier) (λ same. omega arith)))

-- an entry that no number of commits makes a read that sees them leaves what is seen
pub sees_same : (earlier : List Entry) (e : Entry) (n place : ℕ) → reads_after n (commits earlier) e ≡ false → sees (earlier ++ e ∷ []) n place ≡ sees earlier n place
sees_same earlier e n place is = sees_push earlier e n place ∙ ap (λ b. sees earlier n place || (nat_eq place (length earlier) && b)) is ∙ by_test (nat_eq place (length earlier))
  where
    by_test : (b : Bool) → (sees earlier n place || (b && false)) ≡ sees earlier n place
    by_test true = sym (or_none (sees earlier n place))
    by_test false = sym (or_none (sees earlier n place))

-- the readers, at first and with one entry more
pub readers_first : (readers : List (List ℕ)) → readers ≡ [] ∷ [] → AreReaders [] readers
readers_first readers is = subst (AreReaders []) (sym is) (record { many = refl; each = at })
  where
    at : (n place : ℕ) → list_any (nat_eq place) (get_or ([] ∷ []) n []) ≡ false
    at zero place = refl
    at (suc n) place = refl

pub readers_other : (earlier : List Entry) (e : Entry) (readers : List (List ℕ)) → is_commit e ≡ false → ((n : ℕ) → n < length readers → reads_after n (commits earlier) e ≡ false) → AreReaders earlier readers → AreReaders (earlier ++ e ∷ []) readers
readers_other earlier e readers is none have = record {
  many = have.many ∙ ap (λ n. n + 1) (sym (commits_no earlier e is));
  each = λ n place. have.each n place ∙ sym (sees_same earlier e n place (unread n));
}
  where
    unread : (n : ℕ) → reads_after n (commits earlier) e ≡ false
    unread n = by_order (cases_lt n (length readers))
      where
        by_kind : (x : Entry) → commits earlier < n → reads_after n (commits earlier) x ≡ false
        by_kind (entry.Commit story commit) lt = refl
        by_kind (entry.Abort story cause) lt = refl
        by_kind (entry.Handled client by at finished) lt = refl
        by_kind (entry.Closed client) lt = refl
        by_kind (entry.Read story) lt = ap (λ b. (story.snapshot == n) && b) (lt-leb n (commits earlier) lt) ∙ and_none (story.snapshot == n)
          where
            and_none : (b : Bool) → (b && false) ≡ false
            and_none true = refl
            and_none false = refl

        by_order : (n < length readers) ⊎ (length readers ≤ n) → reads_after n (commits earlier) e ≡ false
        by_order (inl lt) = none n lt
        by_order (inr le) = let m = have.many in by_kind e (omega arith)

pub readers_commit : (earlier : List Entry) (story : Story) (commit : ℕ) (readers : List (List ℕ)) → AreReaders earlier readers → AreReaders (earlier ++ entry.Commit story commit ∷ []) (readers ++ [] ∷ [])
readers_commit earlier story commit readers have = record {
  many = length_push readers [] ∙ ap (λ n. n + 1) (have.many ∙ sym (commits_yes earlier (entry.Commit story commit) refl));
  each = λ n place. ap (list_any (nat_eq place)) (same n) ∙ have.each n place ∙ sym (sees_same earlier (entry.Commit story commit) n place refl);
}
  where
    same : (n : ℕ) → get_or (readers ++ [] ∷ []) n [] ≡ get_or readers n []
    same n = by_order (cases_order n (length readers))
      where
        by_order : (n ≡ length readers) ⊎ ((n < length readers) ⊎ (length readers < n)) → get_or (readers ++ [] ∷ []) n [] ≡ get_or readers n []
        by_order (inl is) = get_or_push readers [] [] n (sym is) ∙ sym (get_or_past readers n [] (omega arith))
        by_order (inr (inl less)) = get_or_append_left readers ([] ∷ []) [] n less
        by_order (inr (inr more)) = let long = length_push readers [] in get_or_past (readers ++ [] ∷ []) n [] (omega arith) ∙ sym (get_or_past readers n [] (omega arith))

pub readers_read : (earlier : List Entry) (story : Story) (readers : List (List ℕ)) (place : ℕ) → AreReaders earlier readers → story.snapshot < length readers → place ≡ length earlier → AreReaders (earlier ++ entry.Read story ∷ []) (set readers story.snapshot (get_or readers story.snapshot [] ++ place ∷ []))
readers_read earlier story readers place have within is = record {
  many = length-set readers story.snapshot _ ∙ have.many ∙ ap (λ n. n + 1) (sym (commits_no earlier (entry.Read story) refl));
  each = at;
}
  where
    at : (n k : ℕ) → list_any (nat_eq k) (get_or (set readers story.snapshot (get_or readers story.snapshot [] ++ place ∷ [])) n []) ≡ sees (earlier ++ entry.Read story ∷ []) n k
    at n k = by_order (cases_order n story.snapshot)
      where
        other : (n ≡ story.snapshot → ⊥) → list_any (nat_eq k) (get_or (set readers story.snapshot (get_or readers story.snapshot [] ++ place ∷ [])) n []) ≡ sees (earlier ++ entry.Read story ∷ []) n k
        other ne =
            ap (list_any (nat_eq k)) (get_or-set_other readers story.snapshot n (get_or readers story.snapshot [] ++ place ∷ []) [] ne)
            ∙ have.each n k
            ∙ sym (sees_same earlier (entry.Read story) n k (ap (λ b. b && nat_le n (commits earlier)) (ne_eqb story.snapshot n (λ e. ne (sym e)))))

        by_order : (n ≡ story.snapshot) ⊎ ((n < story.snapshot) ⊎ (story.snapshot < n)) → list_any (nat_eq k) (get_or (set readers story.snapshot (get_or readers story.snapshot [] ++ place ∷ [])) n []) ≡ sees (earlier ++ entry.Read story ∷ []) n k
        by_order (inl same) =
            let m = have.many in
            ap (λ i. list_any (nat_eq k) (get_or (set readers story.snapshot (get_or readers story.snapshot [] ++ place ∷ [])) i [])) same
            ∙ ap (list_any (nat_eq k)) (get_or-set_same readers story.snapshot (get_or readers story.snapshot [] ++ place ∷ []) [] within)
            ∙ list_any-append (nat_eq k) (get_or readers story.snapshot []) (place ∷ [])
            ∙ ap (λ b. b || (nat_eq k place || false)) (have.each story.snapshot k)
            ∙ ap₂ (λ i p. sees earlier i k || (nat_eq k p || false)) (sym same) is
            ∙ ap (λ b. sees earlier n k || b) (by_test (nat_eq k (length earlier)))
            ∙ ap (λ b. sees earlier n k || (nat_eq k (length earlier) && b)) (sym (read_here m))
            ∙ sym (sees_push earlier (entry.Read story) n k)
          where
            by_test : (b : Bool) → (b || false) ≡ (b && true)
            by_test true = refl
            by_test false = refl

            read_here : length readers ≡ commits earlier + 1 → reads_after n (commits earlier) (entry.Read story) ≡ true
            read_here m = ap₂ (λ a b. a && b) (eq-eqb story.snapshot n (sym same)) (le-leb n (commits earlier) (omega arith))
        by_order (inr (inl less)) = other (λ e. omega arith)
        by_order (inr (inr more)) = other (λ e. omega arith)

-- there are no more commits than entries
pub commits_length : (xs : List Entry) → commits xs ≤ length xs
commits_length [] = omega arith
commits_length (e ∷ es) = by_kind (is_commit e) (commits_length es)
  where
    by_kind : (b : Bool) → commits es ≤ length es → length (cond b (e ∷ filter is_commit es) (filter is_commit es)) ≤ length (e ∷ es)
    by_kind true h = omega arith
    by_kind false h = omega arith
