-- Garbage is seen by no reader whose snapshot isn't below the least open one.
use Rattle.std.proofs.Common.{◌≡◌, ℕ, ◌<◌, ◌≤◌, Bool, true, false, cond, ◌&&◌, ◌||◌, not, ◌⊎◌, inl, inr, List, [], ◌∷◌, ◌++◌, length, map, min, Option, Some, None, is_none, nat_le, nat_lt, refl, sym, ap, subst, ◌∙◌, arith, append-nil}
use Rattle.std.specs.Prelude.{option_and_then}
use Rattle.std.specs.List.{find, AllByRecursion}
use Rattle.std.specs.Option.{option_map_or, option_or}
use Rattle.std.proofs.lemmas.Bool.Decides.{nat_tests}
use Rattle.std.proofs.lemmas.List.Elements.{recursion_from_All}
use Rattle.rdb_base.specs.declared.identity.TxId.{TxId}
use Rattle.rdb_base.specs.declared.identity.Stamp.{Stamp}
use Rattle.rdb_base.specs.declared.identity.Stamp.TheVariants as stamp
use Rattle.rdb_base.specs.declared.journal.Entry.{Entry}
use Rattle.rdb_sight.specs.Sight.{is_own, commit_within, exceeds, greatest}
use Rattle.rdb_sight.specs.Garbage.{all_have, least_commit, is_garbage}
use Rattle.rdb_sight.specs.Versions.{Version, Marks, counted, row_shown, is_garbage_among}
use Rattle.rdb_model.specs.Database.{Row}
use Rattle.rdb_model.specs.Journal.{commits}
use Rattle.rdb_shown.specs.Kept.{IsOfLaterCommit, IsWritten, IsChain}
use Rattle.rdb_shown.specs.Changes.{IsAtLeast}
use Rattle.rdb_shown.proofs.Pairs.{pairs_from, pairs_before, all_front, all_weaker}
use Rattle.rdb_shown.proofs.Picks.{find_without, HasOver, greatest_exceeded, greatest_last}

-- a commit that every open snapshot has is one that the reader's snapshot has
had : (floor : Option ℕ) (journal : List Entry) (snapshot n : ℕ) → IsAtLeast floor journal snapshot → n ≤ commits journal → all_have floor n ≡ true → n ≤ snapshot
had None journal snapshot n least within e = omega arith
had (Some f) journal snapshot n least within e = let h : n ≤ f = grind (arith, nat_tests) in omega arith

-- a newer version whose commit every open snapshot has exceeds an older one
over : (journal : List Entry) (marks : Marks) (object : ℕ × ℕ) (snapshot : ℕ) (floor : Option ℕ) (v : Version) (n : ℕ) (newer : List Version) (k : ℕ) → v.stamp ≡ stamp.Done n → IsAtLeast floor journal snapshot
    → all_have floor k ≡ true → least_commit (map (λ w. w.stamp) newer) ≡ Some k → AllByRecursion (λ w. IsOfLaterCommit marks w v) newer → AllByRecursion (IsWritten journal marks object) newer
    → HasOver (λ w. commit_within snapshot (counted marks w.stamp)) (commit_within snapshot (counted marks v.stamp)) newer
over journal marks object snapshot floor v n [] k done least have e later written = (cc)
over journal marks object snapshot floor v n (w ∷ ws) k done least have e later written =
    go w.stamp refl e (λ l f g. over journal marks object snapshot floor v n ws l done least f g later.1 written.1)
  where
    counts : counted marks v.stamp ≡ stamp.Done n
    counts = ap (counted marks) done

    exceeded : (c m : ℕ) → c ≤ snapshot → m < c → exceeds (commit_within snapshot (stamp.Done c)) (commit_within snapshot (stamp.Done m)) ≡ true
    exceeded c m le lt =
        let here : nat_le c snapshot ≡ true = grind (arith, nat_tests) in
        let there : nat_le m snapshot ≡ true = grind (arith, nat_tests) in
        let above : nat_lt m c ≡ true = grind (arith, nat_tests) in
        ap (λ b. exceeds (cond b (Some c) None) (cond (nat_le m snapshot) (Some m) None)) here
        ∙ ap (λ b. exceeds (Some c) (cond b (Some m) None)) there ∙ above

    first : (c : ℕ) → w.stamp ≡ stamp.Done c → all_have floor c ≡ true → exceeds (commit_within snapshot (counted marks w.stamp)) (commit_within snapshot (counted marks v.stamp)) ≡ true
    first c f have =
        let mine : counted marks w.stamp ≡ stamp.Done c = ap (counted marks) f in
        ap (λ s. exceeds (commit_within snapshot s) (commit_within snapshot (counted marks v.stamp))) mine
        ∙ ap (λ s. exceeds (commit_within snapshot (stamp.Done c)) (commit_within snapshot s)) counts
        ∙ exceeded c n (had floor journal snapshot c least (written.0 c mine).0 have) (later.0 c n mine counts)

    go : (s : Stamp) → w.stamp ≡ s → least_commit (s ∷ map (λ x. x.stamp) ws) ≡ Some k
        → ((l : ℕ) → all_have floor l ≡ true → least_commit (map (λ x. x.stamp) ws) ≡ Some l → HasOver (λ x. commit_within snapshot (counted marks x.stamp)) (commit_within snapshot (counted marks v.stamp)) ws)
        → HasOver (λ x. commit_within snapshot (counted marks x.stamp)) (commit_within snapshot (counted marks v.stamp)) (w ∷ ws)
    go (stamp.By by) f e rest = inr (rest k have e)
    go (stamp.Done c) f e rest = split (least_commit (map (λ x. x.stamp) ws)) refl e
      where
        split : (o : Option ℕ) → least_commit (map (λ x. x.stamp) ws) ≡ o → Some (option_map_or (min c) o c) ≡ Some k
            → HasOver (λ x. commit_within snapshot (counted marks x.stamp)) (commit_within snapshot (counted marks v.stamp)) (w ∷ ws)
        split None g e = let one : c ≡ k = (cc) in inl (first c f (ap (all_have floor) one ∙ have))
        split (Some l) g e =
            let one : min c l ≡ k = (cc) in
            by_order (nat_le c l) refl one
          where
            by_order : (b : Bool) → nat_le c l ≡ b → min c l ≡ k → HasOver (λ x. commit_within snapshot (counted marks x.stamp)) (commit_within snapshot (counted marks v.stamp)) (w ∷ ws)
            by_order true h one =
                let le : c ≤ l = grind (arith, nat_tests) in
                let same : c ≡ k = omega arith in
                inl (first c f (ap (all_have floor) same ∙ have))
            by_order false h one =
                let lt : l < c = grind (arith, nat_tests) in
                let same : l ≡ k = omega arith in
                inr (rest l (ap (all_have floor) same ∙ have) g)

-- the two kinds of garbage
pub garbage_unseen : (journal : List Entry) (marks : Marks) (object : ℕ × ℕ) (snapshot : ℕ) (reader : Option TxId) (floor : Option ℕ) (newer : List Version) (v : Version) (older : List Version)
    → IsChain journal marks object (newer ++ v ∷ older) → IsAtLeast floor journal snapshot → is_garbage_among floor newer v older ≡ true
    → row_shown marks snapshot reader (newer ++ older) ≡ row_shown marks snapshot reader (newer ++ v ∷ older)
garbage_unseen journal marks object snapshot reader floor newer v older chain least garbage = by_stamp v.stamp refl garbage
  where
    later : AllByRecursion (λ w. IsOfLaterCommit marks w v) newer
    later = pairs_before (IsOfLaterCommit marks) newer v older (pairs_from (IsOfLaterCommit marks) (newer ++ v ∷ older) chain.falls)

    written : AllByRecursion (IsWritten journal marks object) (newer ++ v ∷ older)
    written = recursion_from_All (IsWritten journal marks object) (newer ++ v ∷ older) chain.written

    not_own : (n : ℕ) → v.stamp ≡ stamp.Done n → is_own reader (counted marks v.stamp) ≡ false
    not_own n done = ap (λ s. is_own reader (counted marks s)) done ∙ nobodys reader
      where
        nobodys : (r : Option TxId) → is_own r (stamp.Done n) ≡ false
        nobodys None = refl
        nobodys (Some t) = refl

    replaced : (n : ℕ) → v.stamp ≡ stamp.Done n → (k : ℕ) → least_commit (map (λ w. w.stamp) newer) ≡ Some k → all_have floor k ≡ true
        → row_shown marks snapshot reader (newer ++ older) ≡ row_shown marks snapshot reader (newer ++ v ∷ older)
    replaced n done k e have =
        sym (ap (λ m. option_and_then (λ (w : Version). w.row) (option_or m (greatest (λ w. commit_within snapshot (counted marks w.stamp)) (newer ++ v ∷ older)))) (find_without (λ w. is_own reader (counted marks w.stamp)) newer v older (not_own n done))
        ∙ ap (λ m. option_and_then (λ (w : Version). w.row) (option_or (find (λ w. is_own reader (counted marks w.stamp)) (newer ++ older)) m))
        (greatest_exceeded (λ w. commit_within snapshot (counted marks w.stamp)) newer v older (over journal marks object snapshot floor v n newer k done least have e later (all_front (IsWritten journal marks object) newer (v ∷ older) written))))

    gone : (n : ℕ) → v.stamp ≡ stamp.Done n → v.row ≡ None → older ≡ [] → all_have floor n ≡ true
        → row_shown marks snapshot reader (newer ++ older) ≡ row_shown marks snapshot reader (newer ++ v ∷ older)
    gone n done none last have =
        subst (λ (old : List Version). row_shown marks snapshot reader (newer ++ old) ≡ row_shown marks snapshot reader (newer ++ v ∷ old)) (sym last)
        (ap (row_shown marks snapshot reader) (append-nil newer)
        ∙ parts (greatest_last (λ w. commit_within snapshot (counted marks w.stamp)) newer v (all_weaker (λ w. IsOfLaterCommit marks w v) (λ w. exceeds (commit_within snapshot (counted marks v.stamp)) (commit_within snapshot (counted marks w.stamp)) ≡ true → commit_within snapshot (counted marks w.stamp) ≡ None) newer behind later)))
      where
        found : find (λ w. is_own reader (counted marks w.stamp)) (newer ++ v ∷ []) ≡ find (λ w. is_own reader (counted marks w.stamp)) newer
        found = find_without (λ w. is_own reader (counted marks w.stamp)) newer v [] (not_own n done) ∙ ap (find (λ (w : Version). is_own reader (counted marks w.stamp))) (append-nil newer)

        behind : (w : Version) → IsOfLaterCommit marks w v → exceeds (commit_within snapshot (counted marks v.stamp)) (commit_within snapshot (counted marks w.stamp)) ≡ true → commit_within snapshot (counted marks w.stamp) ≡ None
        behind w above = go (counted marks w.stamp) refl
          where
            go : (s : Stamp) → counted marks w.stamp ≡ s → exceeds (commit_within snapshot (counted marks v.stamp)) (commit_within snapshot s) ≡ true → commit_within snapshot s ≡ None
            go (stamp.By by) e h = refl
            go (stamp.Done c) e h = cut (nat_le c snapshot) h
              where
                below : n < c
                below = above c n e (ap (counted marks) done)

                within : (b : Bool) → exceeds (cond b (Some n) None) (Some c) ≡ true → ⊥
                within true h = let lt : c < n = grind (arith, nat_tests) in omega (arith, below)
                within false h = (cc)

                cut : (b : Bool) → exceeds (commit_within snapshot (counted marks v.stamp)) (cond b (Some c) None) ≡ true → cond b (Some c) None ≡ None
                cut false h = refl
                cut true h = absurd (within (nat_le n snapshot) (sym (ap (λ s. exceeds (commit_within snapshot (counted marks s)) (Some c)) done) ∙ h))

        parts : (greatest (λ w. commit_within snapshot (counted marks w.stamp)) (newer ++ v ∷ []) ≡ greatest (λ w. commit_within snapshot (counted marks w.stamp)) newer)
            ⊎ ((greatest (λ w. commit_within snapshot (counted marks w.stamp)) (newer ++ v ∷ []) ≡ Some v) × (greatest (λ w. commit_within snapshot (counted marks w.stamp)) newer ≡ None))
            → row_shown marks snapshot reader newer ≡ row_shown marks snapshot reader (newer ++ v ∷ [])
        parts (inl same) =
            sym (ap (λ m. option_and_then (λ (w : Version). w.row) (option_or m (greatest (λ w. commit_within snapshot (counted marks w.stamp)) (newer ++ v ∷ [])))) found
            ∙ ap (λ m. option_and_then (λ (w : Version). w.row) (option_or (find (λ w. is_own reader (counted marks w.stamp)) newer) m)) same)
        parts (inr alone) =
            ap (λ m. option_and_then (λ (w : Version). w.row) (option_or (find (λ w. is_own reader (counted marks w.stamp)) newer) m)) alone.1
            ∙ either (find (λ w. is_own reader (counted marks w.stamp)) newer)
            ∙ sym (ap (λ m. option_and_then (λ (w : Version). w.row) (option_or m (greatest (λ w. commit_within snapshot (counted marks w.stamp)) (newer ++ v ∷ [])))) found
            ∙ ap (λ m. option_and_then (λ (w : Version). w.row) (option_or (find (λ w. is_own reader (counted marks w.stamp)) newer) m)) alone.0)
          where
            either : (m : Option Version) → option_and_then (λ (w : Version). w.row) (option_or m None) ≡ option_and_then (λ (w : Version). w.row) (option_or m (Some v))
            either (Some y) = refl
            either None = sym none

    by_stamp : (s : Stamp) → v.stamp ≡ s → is_garbage s (is_none v.row) (least_commit (map (λ w. w.stamp) newer)) (nat_lt 0 (length older)) floor ≡ true
        → row_shown marks snapshot reader (newer ++ older) ≡ row_shown marks snapshot reader (newer ++ v ∷ older)
    by_stamp (stamp.By by) done e = (cc)
    by_stamp (stamp.Done n) done e = by_newer (least_commit (map (λ w. w.stamp) newer)) refl e
      where
        no_row : (r : Option Row) → is_none r ≡ true → r ≡ None
        no_row None e = refl
        no_row (Some r) e = (cc)

        no_older : (vs : List Version) → nat_lt 0 (length vs) ≡ false → vs ≡ []
        no_older [] e = refl
        no_older (x ∷ xs) e = let h : 0 < length (x ∷ xs) = omega arith in let g : nat_lt 0 (length (x ∷ xs)) ≡ true = grind (arith, nat_tests) in (cc)

        tombstone : (b d f : Bool) → is_none v.row ≡ b → nat_lt 0 (length older) ≡ d → all_have floor n ≡ f → (b && (not d && f)) ≡ true
            → row_shown marks snapshot reader (newer ++ older) ≡ row_shown marks snapshot reader (newer ++ v ∷ older)
        tombstone true false true g h i e = gone n done (no_row v.row g) (no_older older h) i
        tombstone true false false g h i e = (cc)
        tombstone true true f g h i e = (cc)
        tombstone false d f g h i e = (cc)

        by_newer : (least : Option ℕ) → least_commit (map (λ w. w.stamp) newer) ≡ least → (option_map_or (all_have floor) least false || (is_none v.row && (not (nat_lt 0 (length older)) && all_have floor n))) ≡ true
            → row_shown marks snapshot reader (newer ++ older) ≡ row_shown marks snapshot reader (newer ++ v ∷ older)
        by_newer None g e = tombstone (is_none v.row) (nat_lt 0 (length older)) (all_have floor n) refl refl refl e
        by_newer (Some k) g e = either (all_have floor k) refl e
          where
            either : (b : Bool) → all_have floor k ≡ b → (b || (is_none v.row && (not (nat_lt 0 (length older)) && all_have floor n))) ≡ true
                → row_shown marks snapshot reader (newer ++ older) ≡ row_shown marks snapshot reader (newer ++ v ∷ older)
            either true h e = replaced n done k g h
            either false h e = tombstone (is_none v.row) (nat_lt 0 (length older)) (all_have floor n) refl refl refl e

-- garbage is nobody's own
pub garbage_not_own : (tx : TxId) (floor : Option ℕ) (newer : List Version) (v : Version) (older : List Version) → is_garbage_among floor newer v older ≡ true → is_own (Some tx) v.stamp ≡ false
garbage_not_own tx floor newer v older e = go v.stamp e
  where
    go : (s : Stamp) → is_garbage s (is_none v.row) (least_commit (map (λ w. w.stamp) newer)) (nat_lt 0 (length older)) floor ≡ true → is_own (Some tx) s ≡ false
    go (stamp.By by) e = (cc)
    go (stamp.Done n) e = refl
