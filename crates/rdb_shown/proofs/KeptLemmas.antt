-- What the versions keep as one object gets another chain.
use Rattle.std.proofs.Common.{◌≡◌, ◌≢◌, ℕ, true, false, List, ◌∷◌, ◌++◌, Option, Some, None, nat_eq, refl, sym, ap, subst, ◌∙◌, arith}
use Rattle.std.specs.List.{AllPairs}
use Rattle.std.specs.Option.{option_map}
use Rattle.std.proofs.lemmas.Bool.Decides.{nat_tests}
use Rattle.std.proofs.lemmas.List.{length-map}
use Rattle.std.proofs.lemmas.List.Elements.{recursion_from_All, All-from_recursion}
use Rattle.rdb_base.specs.declared.identity.TxId.{TxId}
use Rattle.rdb_base.specs.declared.identity.Stamp.TheVariants as stamp
use Rattle.rdb_base.specs.declared.operation.Op.{Op}
use Rattle.rdb_base.specs.declared.operation.Reply.{Reply}
use Rattle.rdb_base.specs.declared.journal.Entry.{Entry}
use Rattle.rdb_sight.specs.Sight.{is_own}
use Rattle.rdb_sight.specs.Versions.{Version, Versions, Marks, objects_in, chain_in, IsWithout, counted, row_shown, rows_shown, shown, own_version}
use Rattle.rdb_model.specs.Database.{row_of, objects_of}
use Rattle.rdb_shown.specs.Kept.{last_left, IsOfLaterCommit, AreOfTwo, IsWritten, IsChain, AreVersions, IsUnseenBy, IsWork}
use Rattle.rdb_shown.specs.Changes.{HasChain}
use Rattle.rdb_shown.proofs.ChainMaps.{Rises, rises_from, ascending_from, each_object, rises_after, classes_after}
use Rattle.rdb_shown.proofs.RowsShown.{shown_row, shown_in_order, shows}
use Rattle.rdb_shown.proofs.Pairs.{pairs_from, pairs_to, all_always, all_weaker, all_without, all_put, pairs_without, pairs_put}
use Rattle.rdb_shown.proofs.StampLemmas.{own_itself, counted_by, counted_own}
use Rattle.rdb_shown.proofs.Picks.{none_found}

-- the ids ascend
pub in_order : (journal : List Entry) (marks : Marks) (versions : Versions) → AreVersions journal marks versions → (c : ℕ) → Rises (objects_in versions c)
in_order journal marks versions kept c = rises_from (objects_in versions c) (kept.in_order c)

-- a chain without one of its versions
pub chain_without : (journal : List Entry) (marks : Marks) (object : ℕ × ℕ) (v : Version) (chain rest : List Version) → IsWithout v chain rest → IsChain journal marks object chain → IsChain journal marks object rest
chain_without journal marks object v chain rest without is =
    subst (IsChain journal marks object) (sym without.after) (taken (subst (IsChain journal marks object) without.before is))
  where
    all : List Version
    all = without.newer ++ v ∷ without.older

    left : List Version
    left = without.newer ++ without.older

    taken : IsChain journal marks object all → IsChain journal marks object left
    taken is = record {
      falls = pairs_to (IsOfLaterCommit marks) left (pairs_without (IsOfLaterCommit marks) without.newer v without.older (pairs_from (IsOfLaterCommit marks) all is.falls));
      once = pairs_to (AreOfTwo marks) left (pairs_without (AreOfTwo marks) without.newer v without.older (pairs_from (AreOfTwo marks) all is.once));
      written = All-from_recursion (IsWritten journal marks object) left (all_without (IsWritten journal marks object) without.newer v without.older (recursion_from_All (IsWritten journal marks object) all is.written));
    }

pub pairs_kept : (R : Version → Version → Type 0) (v : Version) (chain rest : List Version) → IsWithout v chain rest → AllPairs R chain → AllPairs R rest
pairs_kept R v chain rest without is =
    subst (λ (vs : List Version). AllPairs R vs) (sym without.after)
    (pairs_to R (without.newer ++ without.older) (pairs_without R without.newer v without.older (pairs_from R (without.newer ++ v ∷ without.older) (subst (λ (vs : List Version). AllPairs R vs) without.before is))))

-- a version of an open transaction put first, where the chain has none of it
pub chain_put : (journal : List Entry) (marks : Marks) (object : ℕ × ℕ) (tx : TxId) (v : Version) (rest : List Version) → v.stamp ≡ stamp.By tx → marks tx ≡ None → own_version tx rest ≡ None
    → IsChain journal marks object rest → IsChain journal marks object (v ∷ rest)
chain_put journal marks object tx v rest own open_ none is = record {
  falls = pairs_to (IsOfLaterCommit marks) (v ∷ rest) (all_always (IsOfLaterCommit marks v) rest (λ w n m e f. let g : stamp.By tx ≡ stamp.Done n = sym counts ∙ e in (cc)), pairs_from (IsOfLaterCommit marks) rest is.falls);
  once = pairs_to (AreOfTwo marks) (v ∷ rest) (all_weaker (λ w. is_own (Some tx) w.stamp ≡ false) (AreOfTwo marks v) rest two (none_found (λ w. is_own (Some tx) w.stamp) rest none), pairs_from (AreOfTwo marks) rest is.once);
  written = All-from_recursion (IsWritten journal marks object) (v ∷ rest) ((λ n e. let g : stamp.By tx ≡ stamp.Done n = sym counts ∙ e in (cc)), recursion_from_All (IsWritten journal marks object) rest is.written);
}
  where
    counts : counted marks v.stamp ≡ stamp.By tx
    counts = counted_own marks v.stamp tx own open_

    two : (w : Version) → is_own (Some tx) w.stamp ≡ false → AreOfTwo marks v w
    two w differs t e f =
        let same : stamp.By tx ≡ stamp.By t = sym counts ∙ e in
        let one : w.stamp ≡ stamp.By tx = (counted_by marks w.stamp t f).0 ∙ sym same in
        let mine : is_own (Some tx) w.stamp ≡ true = own_itself tx w.stamp one in
        (cc)

-- a version replaced by one that counts as it and has its row
pub chain_restamped : (journal : List Entry) (marks : Marks) (object : ℕ × ℕ) (newer : List Version) (v w : Version) (older : List Version) → counted marks w.stamp ≡ counted marks v.stamp → w.row ≡ v.row
    → IsChain journal marks object (newer ++ v ∷ older) → IsChain journal marks object (newer ++ w ∷ older)
chain_restamped journal marks object newer v w older same rows is = record {
  falls = pairs_to (IsOfLaterCommit marks) now (pairs_put (IsOfLaterCommit marks) newer v w older (λ x h n m e f. h n m e (sym same ∙ f)) (λ x h n m e f. h n m (sym same ∙ e) f) (pairs_from (IsOfLaterCommit marks) was is.falls));
  once = pairs_to (AreOfTwo marks) now (pairs_put (AreOfTwo marks) newer v w older (λ x h t e f. h t e (sym same ∙ f)) (λ x h t e f. h t (sym same ∙ e) f) (pairs_from (AreOfTwo marks) was is.once));
  written = All-from_recursion (IsWritten journal marks object) now (all_put (IsWritten journal marks object) newer v w older (λ h n e. let g = h n (sym same ∙ e) in (g.0, g.1 ∙ ap Some (sym rows))) (recursion_from_All (IsWritten journal marks object) was is.written));
}
  where
    was : List Version
    was = newer ++ v ∷ older

    now : List Version
    now = newer ++ w ∷ older

-- what the versions keep, once one object has another chain
pub kept_after : (journal : List Entry) (marks : Marks) (before after : Versions) (class id : ℕ) (chain : List Version) → AreVersions journal marks before → HasChain before after class id chain
    → IsChain journal marks (class, id) chain → AreVersions journal marks after
kept_after journal marks before after class id chain kept has is = record {
  in_order = λ c. ascending_from (objects_in after c) (rises_after before after class id chain (in_order journal marks before kept) has c);
  chains = each_object before after class id chain (in_order journal marks before kept) has (λ c i ch. IsChain journal marks (c, i) ch) is (λ c i differs. kept.chains c i);
}

-- what a transaction's versions are, once one object has another chain
pub work_after : (marks : Marks) (before after : Versions) (class id : ℕ) (chain : List Version) (tx : TxId) (snapshot : ℕ) (done more : List (Op × Reply)) → ((c : ℕ) → Rises (objects_in before c))
    → HasChain before after class id chain → option_map (λ v. v.row) (own_version tx chain) ≡ last_left (class, id) more → AllPairs (IsUnseenBy tx snapshot marks) chain
    → ((c i : ℕ) → (nat_eq class c ≡ true → nat_eq id i ≡ true → ⊥) → last_left (c, i) done ≡ last_left (c, i) more)
    → IsWork marks before tx snapshot done → IsWork marks after tx snapshot more
work_after marks before after class id chain tx snapshot done more rises has wrote unseen others work = record {
  unmarked = work.unmarked;
  wrote = each_object before after class id chain rises has (λ c i ch. option_map (λ v. v.row) (own_version tx ch) ≡ last_left (c, i) more) wrote (λ c i differs. work.wrote c i ∙ others c i differs);
  unseen = each_object before after class id chain rises has (λ c i ch. AllPairs (IsUnseenBy tx snapshot marks) ch) unseen (λ c i differs. work.unseen c i);
}

-- the same where the object's chain has the same version of the transaction
pub same_work_after : (marks : Marks) (before after : Versions) (class id : ℕ) (chain : List Version) (tx : TxId) (snapshot : ℕ) (done : List (Op × Reply)) → ((c : ℕ) → Rises (objects_in before c))
    → HasChain before after class id chain → own_version tx chain ≡ own_version tx (chain_in before class id) → (AllPairs (IsUnseenBy tx snapshot marks) (chain_in before class id) → AllPairs (IsUnseenBy tx snapshot marks) chain)
    → IsWork marks before tx snapshot done → IsWork marks after tx snapshot done
same_work_after marks before after class id chain tx snapshot done rises has own unseen work =
    work_after marks before after class id chain tx snapshot done done rises has (ap (option_map (λ v. v.row)) own ∙ work.wrote class id) (unseen (work.unseen class id)) (λ c i differs. refl) work

-- a reader is shown the same where the object's chain shows the same
pub same_shown : (marks : Marks) (snapshot : ℕ) (reader : Option TxId) (before after : Versions) (class id : ℕ) (chain : List Version) → ((c : ℕ) → Rises (objects_in before c))
    → HasChain before after class id chain → row_shown marks snapshot reader chain ≡ row_shown marks snapshot reader (chain_in before class id)
    → shown marks snapshot reader after ≡ shown marks snapshot reader before
same_shown marks snapshot reader before after class id chain rises has same =
    shows marks snapshot reader after (shown marks snapshot reader before) (rises_after before after class id chain rises has) (shown_in_order marks snapshot reader before rises)
    (classes_after before after class id chain has ∙ sym (length-map before (rows_shown marks snapshot reader)))
    (λ c i lt. each_object before after class id chain rises has (λ c i ch. row_shown marks snapshot reader ch ≡ row_of (objects_of (shown marks snapshot reader before) c) i)
    (same ∙ sym (shown_row marks snapshot reader before class id rises)) (λ c i differs. sym (shown_row marks snapshot reader before c i rises)) c i)

-- the chain of the object, and of every other one
pub chain_after : (before after : Versions) (class id : ℕ) (chain : List Version) → ((c : ℕ) → Rises (objects_in before c)) → HasChain before after class id chain → chain_in after class id ≡ chain
chain_after before after class id chain rises has =
    each_object before after class id chain rises has (λ c i ch. nat_eq class c ≡ true → nat_eq id i ≡ true → ch ≡ chain) (λ e f. refl) (λ c i differs e f. absurd (differs e f)) class id (itself class) (itself id)
  where
    itself : (n : ℕ) → nat_eq n n ≡ true
    itself n = grind (arith, nat_tests)

pub chain_elsewhere : (before after : Versions) (class id : ℕ) (chain : List Version) → ((c : ℕ) → Rises (objects_in before c)) → HasChain before after class id chain
    → (other : ℕ × ℕ) → other ≢ (class, id) → chain_in after other.0 other.1 ≡ chain_in before other.0 other.1
chain_elsewhere before after class id chain rises has other differs =
    each_object before after class id chain rises has (λ c i ch. (nat_eq class c ≡ true → nat_eq id i ≡ true → ⊥) → ch ≡ chain_in before c i)
    (λ apart. absurd (apart (itself class) (itself id))) (λ c i apart h. refl) other.0 other.1 apart
  where
    itself : (n : ℕ) → nat_eq n n ≡ true
    itself n = grind (arith, nat_tests)

    apart : nat_eq class other.0 ≡ true → nat_eq id other.1 ≡ true → ⊥
    apart e f =
        let one : other.0 ≡ class = grind (arith, nat_tests) in
        let two : other.1 ≡ id = grind (arith, nat_tests) in
        let half : ◌≡◌ {A = ℕ × ℕ} other (class, other.1) = ap (λ c. (c, other.1)) one in
        let rest : ◌≡◌ {A = ℕ × ℕ} (class, other.1) (class, id) = ap (λ i. (class, i)) two in
        differs (half ∙ rest)
