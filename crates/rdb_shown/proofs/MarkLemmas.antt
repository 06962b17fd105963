-- Marks that change: what each version counts as, and what is shown.
use Rattle.std.proofs.Common.{◌≡◌, ◌≢◌, ℕ, ◌+◌, ◌<◌, ◌≤◌, Bool, true, false, cond, List, [], ◌∷◌, ◌++◌, get_or, Option, Some, None, nat_le, refl, sym, ap, ◌∙◌, arith}
use Rattle.std.specs.Prelude.{option_and_then}
use Rattle.std.specs.List.{AllByRecursion}
use Rattle.std.specs.Option.{option_map_or}
use Rattle.std.proofs.lemmas.Bool.Decides.{nat_tests}
use Rattle.std.proofs.lemmas.List.{length-map}
use Rattle.std.proofs.lemmas.List.Elements.{recursion_from_All, All-from_recursion}
use Rattle.rdb_base.specs.declared.identity.TxId.{TxId}
use Rattle.rdb_base.specs.declared.identity.Stamp.{Stamp}
use Rattle.rdb_base.specs.declared.identity.Stamp.TheVariants as stamp
use Rattle.rdb_base.specs.declared.operation.Op.{Op}
use Rattle.rdb_base.specs.declared.operation.Reply.{Reply}
use Rattle.rdb_base.specs.declared.journal.Entry.{Entry}
use Rattle.rdb_sight.specs.Sight.{same_tx, is_own, commit_within}
use Rattle.rdb_sight.specs.Versions.{Version, Versions, Marks, objects_in, chain_in, counted, row_shown, rows_shown, shown}
use Rattle.rdb_model.specs.Journal.{commits}
use Rattle.rdb_shown.specs.Kept.{last_left, IsOfLaterCommit, AreOfTwo, IsWritten, IsChain, AreVersions, IsUnseenBy, IsWork}
use Rattle.rdb_shown.specs.Changes.{IsMarked, IsUnmarked, HasNone}
use Rattle.rdb_shown.proofs.ChainMaps.{Rises}
use Rattle.rdb_shown.proofs.RowsShown.{shown_row, shown_in_order, shows}
use Rattle.rdb_shown.proofs.Pairs.{pairs_from, pairs_to, pairs_with, pairs_weaker, all_weaker, all_always}
use Rattle.rdb_shown.proofs.StampLemmas.{own_itself, own_is, others_own, counted_own, counted_marked}
use Rattle.rdb_shown.proofs.StampedLemmas.{same_sights, recounted_sights}
use Rattle.rdb_shown.proofs.Picks.{none_found, pick_same}
use Rattle.rdb_shown.proofs.JournalLemmas.{commits_grow, done_in_more}

-- versions show readers the same where each chain does
pub shown_alike : (marks now : Marks) (snapshot later : ℕ) (reader other : Option TxId) (versions : Versions) → ((c : ℕ) → Rises (objects_in versions c))
    → ((c i : ℕ) → row_shown now later other (chain_in versions c i) ≡ row_shown marks snapshot reader (chain_in versions c i))
    → shown now later other versions ≡ shown marks snapshot reader versions
shown_alike marks now snapshot later reader other versions rises same =
    shows now later other versions (shown marks snapshot reader versions) rises (shown_in_order marks snapshot reader versions rises) (sym (length-map versions (rows_shown marks snapshot reader)))
    (λ c i lt. same c i ∙ sym (shown_row marks snapshot reader versions c i rises))

-- a stamp that isn't the transaction's counts as before
pub counted_other : (marks now : Marks) (tx : TxId) (s : Stamp) → ((other : TxId) → other ≢ tx → now other ≡ marks other) → is_own (Some tx) s ≡ false → counted now s ≡ counted marks s
counted_other marks now tx (stamp.Done n) others e = refl
counted_other marks now tx (stamp.By by) others e = ap (λ m. option_map_or stamp.Done m (stamp.By by)) (others by (λ same. let mine : same_tx by tx ≡ true = own_itself tx (stamp.By by) (ap stamp.By same) in (cc)))

-- the same entries and more
pub written_more : (journal : List Entry) (e : Entry) (marks : Marks) (object : ℕ × ℕ) (v : Version) → IsWritten journal marks object v → IsWritten (journal ++ e ∷ []) marks object v
written_more journal e marks object v written n counts =
    let was = written n counts in
    (let h = commits_grow journal e in let g = was.0 in omega arith, ap (λ d. last_left object d) (done_in_more journal e n was.0) ∙ was.1)

pub kept_more : (journal : List Entry) (e : Entry) (marks : Marks) (versions : Versions) → AreVersions journal marks versions → AreVersions (journal ++ e ∷ []) marks versions
kept_more journal e marks versions kept = record {
  in_order = kept.in_order;
  chains = λ class id. record {
    falls = (kept.chains class id).falls;
    once = (kept.chains class id).once;
    written = λ k d lt. written_more journal e marks (class, id) (get_or (chain_in versions class id) k d) ((kept.chains class id).written k d lt);
  };
}

-- no version of a transaction, so each counts as before, whatever its mark
recounted : (marks now : Marks) (versions : Versions) (tx : TxId) → ((other : TxId) → other ≢ tx → now other ≡ marks other) → HasNone versions tx
    → (class id : ℕ) → AllByRecursion (λ v. counted now v.stamp ≡ counted marks v.stamp) (chain_in versions class id)
recounted marks now versions tx others none class id =
    all_weaker (λ (v : Version). is_own (Some tx) v.stamp ≡ false) (λ v. counted now v.stamp ≡ counted marks v.stamp) (chain_in versions class id) (λ v e. counted_other marks now tx v.stamp others e)
    (none_found (λ (v : Version). is_own (Some tx) v.stamp) (chain_in versions class id) (none class id))

pub unused_shown : (marks now : Marks) (versions : Versions) (tx : TxId) (snapshot : ℕ) (reader : Option TxId) → ((c : ℕ) → Rises (objects_in versions c)) → IsUnmarked marks now tx → HasNone versions tx
    → shown now snapshot reader versions ≡ shown marks snapshot reader versions
unused_shown marks now versions tx snapshot reader rises un none =
    shown_alike marks now snapshot snapshot reader reader versions rises
    (λ c i. same_sights marks now snapshot reader (chain_in versions c i) (chain_in versions c i) (recounted_sights marks now (chain_in versions c i) (recounted marks now versions tx un.others none c i)))

pub unused_kept : (journal : List Entry) (marks now : Marks) (versions : Versions) (tx : TxId) → IsUnmarked marks now tx → HasNone versions tx → AreVersions journal marks versions → AreVersions journal now versions
unused_kept journal marks now versions tx un none kept = record { in_order = kept.in_order; chains = chain }
  where
    chain : (class id : ℕ) → IsChain journal now (class, id) (chain_in versions class id)
    chain class id = record {
      falls = pairs_to (IsOfLaterCommit now) vs (pairs_with (IsOfLaterCommit marks) (IsOfLaterCommit now) Same vs (λ v w e f h n m x y. h n m (sym e ∙ x) (sym f ∙ y)) same (pairs_from (IsOfLaterCommit marks) vs (kept.chains class id).falls));
      once = pairs_to (AreOfTwo now) vs (pairs_with (AreOfTwo marks) (AreOfTwo now) Same vs (λ v w e f h t x y. h t (sym e ∙ x) (sym f ∙ y)) same (pairs_from (AreOfTwo marks) vs (kept.chains class id).once));
      written = All-from_recursion (IsWritten journal now (class, id)) vs (moved vs same (recursion_from_All (IsWritten journal marks (class, id)) vs (kept.chains class id).written));
    }
      where
        vs : List Version
        vs = chain_in versions class id

        Same : Version → Type 0
        Same v = counted now v.stamp ≡ counted marks v.stamp

        same : AllByRecursion (λ v. counted now v.stamp ≡ counted marks v.stamp) (chain_in versions class id)
        same = recounted marks now versions tx un.others none class id

        moved : (ws : List Version) → AllByRecursion (λ v. counted now v.stamp ≡ counted marks v.stamp) ws → AllByRecursion (IsWritten journal marks (class, id)) ws → AllByRecursion (IsWritten journal now (class, id)) ws
        moved [] all written = tt
        moved (w ∷ ws) all written = ((λ n e. written.0 n (sym all.0 ∙ e)), moved ws all.1 written.1)

pub unused_work : (marks now : Marks) (versions : Versions) (tx other : TxId) (snapshot : ℕ) (done : List (Op × Reply)) → IsUnmarked marks now tx → HasNone versions tx → other ≢ tx
    → IsWork marks versions other snapshot done → IsWork now versions other snapshot done
unused_work marks now versions tx other snapshot done un none differs work = record {
  unmarked = un.others other differs ∙ work.unmarked;
  wrote = work.wrote;
  unseen = λ class id. pairs_to (IsUnseenBy other snapshot now) (chain_in versions class id)
      (pairs_with (IsUnseenBy other snapshot marks) (IsUnseenBy other snapshot now) (λ v. counted now v.stamp ≡ counted marks v.stamp) (chain_in versions class id) (λ v w e f h n x y. h n (sym e ∙ x) y)
      (recounted marks now versions tx un.others none class id) (pairs_from (IsUnseenBy other snapshot marks) (chain_in versions class id) (work.unseen class id)));
}

-- a mark with the next number changes nothing at a smaller one, for everybody else
pub earlier_shown : (journal : List Entry) (marks now : Marks) (versions : Versions) (tx : TxId) (snapshot : ℕ) (reader : Option TxId) → ((c : ℕ) → Rises (objects_in versions c)) → marks tx ≡ None
    → IsMarked marks now tx (commits journal + 1) → snapshot ≤ commits journal → reader ≢ Some tx → shown now snapshot reader versions ≡ shown marks snapshot reader versions
earlier_shown journal marks now versions tx snapshot reader rises open_ marked le differs =
    shown_alike marks now snapshot snapshot reader reader versions rises
    (λ c i. ap (option_and_then (λ (v : Version). v.row)) (pick_same (λ v. is_own reader (counted now v.stamp)) (λ v. is_own reader (counted marks v.stamp)) (λ v. commit_within snapshot (counted now v.stamp)) (λ v. commit_within snapshot (counted marks v.stamp)) (chain_in versions c i)
    (all_always (λ v. (is_own reader (counted now v.stamp) ≡ is_own reader (counted marks v.stamp)) × (commit_within snapshot (counted now v.stamp) ≡ commit_within snapshot (counted marks v.stamp))) (chain_in versions c i) (λ v. each v.stamp))))
  where
    nobodys : (r : Option TxId) (n : ℕ) → is_own r (stamp.Done n) ≡ false
    nobodys None n = refl
    nobodys (Some t) n = refl

    each : (s : Stamp) → (is_own reader (counted now s) ≡ is_own reader (counted marks s)) × (commit_within snapshot (counted now s) ≡ commit_within snapshot (counted marks s))
    each s = go (is_own (Some tx) s) refl
      where
        go : (b : Bool) → is_own (Some tx) s ≡ b → (is_own reader (counted now s) ≡ is_own reader (counted marks s)) × (commit_within snapshot (counted now s) ≡ commit_within snapshot (counted marks s))
        go false e = let same : counted now s ≡ counted marks s = counted_other marks now tx s marked.others e in (ap (is_own reader) same, ap (commit_within snapshot) same)
        go true e =
            let mine : s ≡ stamp.By tx = own_is tx s e in
            let was : counted marks s ≡ stamp.By tx = counted_own marks s tx mine open_ in
            let is : counted now s ≡ stamp.Done (commits journal + 1) = counted_marked now s tx (commits journal + 1) mine marked.own in
            let above : nat_le (commits journal + 1) snapshot ≡ false = grind (arith, nat_tests) in (
              ap (is_own reader) is ∙ nobodys reader (commits journal + 1) ∙ sym (others_own reader tx (counted marks s) differs was),
              ap (commit_within snapshot) is ∙ ap (λ b. cond b (Some (commits journal + 1)) None) above ∙ sym (ap (commit_within snapshot) was),
            )

pub marked_work : (journal : List Entry) (marks now : Marks) (versions : Versions) (tx other : TxId) (snapshot : ℕ) (done : List (Op × Reply)) → IsMarked marks now tx (commits journal + 1) → other ≢ tx → snapshot ≤ commits journal
    → IsWork marks versions other snapshot done → IsWork now versions other snapshot done
marked_work journal marks now versions tx other snapshot done marked differs le work = record {
  unmarked = marked.others other differs ∙ work.unmarked;
  wrote = work.wrote;
  unseen = λ class id. pairs_to (IsUnseenBy other snapshot now) (chain_in versions class id)
      (pairs_weaker (IsUnseenBy other snapshot marks) (IsUnseenBy other snapshot now) (chain_in versions class id) each (pairs_from (IsUnseenBy other snapshot marks) (chain_in versions class id) (work.unseen class id)));
}
  where
    each : (v w : Version) → IsUnseenBy other snapshot marks v w → IsUnseenBy other snapshot now v w
    each v w unseen n e f = go (is_own (Some tx) v.stamp) refl
      where
        go : (b : Bool) → is_own (Some tx) v.stamp ≡ b → snapshot < n
        go false g = unseen n (sym (counted_other marks now tx v.stamp marked.others g) ∙ e) f
        go true g =
            let is : counted now v.stamp ≡ stamp.Done (commits journal + 1) = counted_marked now v.stamp tx (commits journal + 1) (own_is tx v.stamp g) marked.own in
            let same : commits journal + 1 ≡ n = let h : stamp.Done (commits journal + 1) ≡ stamp.Done n = sym is ∙ e in (cc) in
            omega arith
