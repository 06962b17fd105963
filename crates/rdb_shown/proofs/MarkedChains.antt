-- A marked commit keeps the chains.
use Rattle.std.proofs.Common.{◌≡◌, ℕ, ◌+◌, ◌<◌, ◌≤◌, Bool, true, false, cond, List, [], ◌∷◌, ◌++◌, Some, None, refl, sym, ap, ◌∙◌, arith}
use Rattle.std.specs.List.{AllByRecursion}
use Rattle.std.specs.Option.{option_map}
use Rattle.std.proofs.lemmas.List.Elements.{recursion_from_All, All-from_recursion}
use Rattle.rdb_base.specs.declared.identity.TxId.{TxId}
use Rattle.rdb_base.specs.declared.identity.Stamp.TheVariants as stamp
use Rattle.rdb_base.specs.declared.journal.Story.{Story}
use Rattle.rdb_base.specs.declared.journal.Entry.{Entry}
use Rattle.rdb_base.specs.declared.journal.Entry.TheVariants as entry
use Rattle.rdb_schema.specs.declared.schema.Schema.{Schema}
use Rattle.rdb_sight.specs.Sight.{is_own}
use Rattle.rdb_sight.specs.Versions.{Version, Versions, Marks, chain_in, counted, own_version}
use Rattle.rdb_model.specs.declared.legality.Span.{Span}
use Rattle.rdb_model.specs.Journal.{commits}
use Rattle.rdb_model.specs.Parts.{KeepsLaw}
use Rattle.rdb_model.specs.Validation.{IsValid}
use Rattle.rdb_model.proofs.TallyLemmas.{commits_yes}
use Rattle.rdb_history.specs.Rows.{done_in}
use Rattle.rdb_shown.specs.Kept.{last_left, IsOfLaterCommit, AreOfTwo, IsWritten, IsChain, AreVersions, IsUnseenBy, IsWork}
use Rattle.rdb_shown.specs.Changes.{IsMarked}
use Rattle.rdb_shown.proofs.Pairs.{Pairs, pairs_from, pairs_to, pairs_with, pairs_weaker, all_both, all_weaker}
use Rattle.rdb_shown.proofs.StampLemmas.{own_is, counted_own, counted_marked}
use Rattle.rdb_shown.proofs.MarkLemmas.{counted_other, written_more}
use Rattle.rdb_shown.proofs.JournalLemmas.{done_in_last}
use Rattle.rdb_shown.proofs.TouchLemmas.{no_other_wrote}

-- each own version of a chain is the one that is found
own_found : (marks : Marks) (tx : TxId) (chain : List Version) → marks tx ≡ None → Pairs (AreOfTwo marks) chain → AllByRecursion (λ v. is_own (Some tx) v.stamp ≡ true → own_version tx chain ≡ Some v) chain
own_found marks tx [] open_ once = tt
own_found marks tx (v ∷ vs) open_ once = go (is_own (Some tx) v.stamp) refl (own_found marks tx vs open_ once.1)
  where
    none : (ws : List Version) → is_own (Some tx) v.stamp ≡ true → AllByRecursion (AreOfTwo marks v) ws → AllByRecursion (λ w. is_own (Some tx) w.stamp ≡ true → own_version tx (v ∷ vs) ≡ Some w) ws
    none [] e two = tt
    none (w ∷ ws) e two = ((λ f. absurd (two.0 tx (counted_own marks v.stamp tx (own_is tx v.stamp e) open_) (counted_own marks w.stamp tx (own_is tx w.stamp f) open_))), none ws e two.1)

    go : (b : Bool) → is_own (Some tx) v.stamp ≡ b → AllByRecursion (λ w. is_own (Some tx) w.stamp ≡ true → own_version tx vs ≡ Some w) vs
        → AllByRecursion (λ w. is_own (Some tx) w.stamp ≡ true → own_version tx (v ∷ vs) ≡ Some w) (v ∷ vs)
    go true e rest = ((λ f. ap (λ b. cond b (Some v) (own_version tx vs)) e), none vs e once.0)
    go false e rest = (
      (λ f. (cc)),
      all_weaker (λ w. is_own (Some tx) w.stamp ≡ true → own_version tx vs ≡ Some w) (λ w. is_own (Some tx) w.stamp ≡ true → own_version tx (v ∷ vs) ≡ Some w) vs
          (λ w h f. ap (λ b. cond b (Some v) (own_version tx vs)) e ∙ h f) rest,
    )

-- two relations of a list's elements in order
pairs_both : (R S : Version → Version → Type 0) (xs : List Version) → Pairs R xs → Pairs S xs → Pairs (λ v w. R v w × S v w) xs
pairs_both R S [] rs ss = tt
pairs_both R S (x ∷ xs) rs ss = (all_both (R x) (S x) xs rs.0 ss.0, pairs_both R S xs rs.1 ss.1)

pub marked_kept : (within : Span) (schema : Schema) (journal : List Entry) (marks now : Marks) (versions : Versions) (tx : TxId) (story : Story) → KeepsLaw within schema journal → IsValid schema journal story
    → AreVersions journal marks versions → IsWork marks versions tx story.snapshot story.done → IsMarked marks now tx (commits journal + 1)
    → AreVersions (journal ++ entry.Commit story (commits journal + 1) ∷ []) now versions
marked_kept within schema journal marks now versions tx story law valid kept work marked = record { in_order = kept.in_order; chains = chain }
  where
    is_marked : (v : Version) → is_own (Some tx) v.stamp ≡ true → counted now v.stamp ≡ stamp.Done (commits journal + 1)
    is_marked v e = counted_marked now v.stamp tx (commits journal + 1) (own_is tx v.stamp e) marked.own

    chain : (class id : ℕ) → IsChain (journal ++ entry.Commit story (commits journal + 1) ∷ []) now (class, id) (chain_in versions class id)
    chain class id = record {
      falls = pairs_to (IsOfLaterCommit now) vs (pairs_with (λ v w. IsOfLaterCommit marks v w × (AreOfTwo marks v w × IsUnseenBy tx story.snapshot marks v w)) (IsOfLaterCommit now) Known vs (λ v w p q r. falls v w p q r) known
          (pairs_both (IsOfLaterCommit marks) (λ v w. AreOfTwo marks v w × IsUnseenBy tx story.snapshot marks v w) vs (pairs_from (IsOfLaterCommit marks) vs (kept.chains class id).falls)
          (pairs_both (AreOfTwo marks) (IsUnseenBy tx story.snapshot marks) vs once (pairs_from (IsUnseenBy tx story.snapshot marks) vs (work.unseen class id)))));
      once = pairs_to (AreOfTwo now) vs (pairs_weaker (AreOfTwo marks) (AreOfTwo now) vs (λ v w two t e f. two t (still_open v t e) (still_open w t f)) once);
      written = All-from_recursion (IsWritten (journal ++ entry.Commit story (commits journal + 1) ∷ []) now (class, id)) vs (all_weaker Known (IsWritten (journal ++ entry.Commit story (commits journal + 1) ∷ []) now (class, id)) vs writes known);
    }
      where
        vs : List Version
        vs = chain_in versions class id

        Known : Version → Type 0
        Known v = IsWritten journal marks (class, id) v × (is_own (Some tx) v.stamp ≡ true → last_left (class, id) story.done ≡ Some v.row)

        once : Pairs (AreOfTwo marks) (chain_in versions class id)
        once = pairs_from (AreOfTwo marks) (chain_in versions class id) (kept.chains class id).once

        known : AllByRecursion (λ v. IsWritten journal marks (class, id) v × (is_own (Some tx) v.stamp ≡ true → last_left (class, id) story.done ≡ Some v.row)) (chain_in versions class id)
        known = all_both (IsWritten journal marks (class, id)) (λ v. is_own (Some tx) v.stamp ≡ true → last_left (class, id) story.done ≡ Some v.row) (chain_in versions class id)
            (recursion_from_All (IsWritten journal marks (class, id)) (chain_in versions class id) (kept.chains class id).written)
            (all_weaker (λ v. is_own (Some tx) v.stamp ≡ true → own_version tx (chain_in versions class id) ≡ Some v) (λ v. is_own (Some tx) v.stamp ≡ true → last_left (class, id) story.done ≡ Some v.row) (chain_in versions class id)
            (λ v found e. sym (work.wrote class id) ∙ ap (option_map (λ (w : Version). w.row)) (found e)) (own_found marks tx (chain_in versions class id) work.unmarked once))

        still_open : (v : Version) (t : TxId) → counted now v.stamp ≡ stamp.By t → counted marks v.stamp ≡ stamp.By t
        still_open v t e = go (is_own (Some tx) v.stamp) refl
          where
            go : (b : Bool) → is_own (Some tx) v.stamp ≡ b → counted marks v.stamp ≡ stamp.By t
            go false f = sym (counted_other marks now tx v.stamp marked.others f) ∙ e
            go true f = let g : stamp.Done (commits journal + 1) ≡ stamp.By t = sym (is_marked v f) ∙ e in (cc)

        writes : (v : Version) → IsWritten journal marks (class, id) v × (is_own (Some tx) v.stamp ≡ true → last_left (class, id) story.done ≡ Some v.row)
            → IsWritten (journal ++ entry.Commit story (commits journal + 1) ∷ []) now (class, id) v
        writes v is n e = go (is_own (Some tx) v.stamp) refl
          where
            go : (b : Bool) → is_own (Some tx) v.stamp ≡ b
                → (n ≤ commits (journal ++ entry.Commit story (commits journal + 1) ∷ [])) × (last_left (class, id) (done_in (journal ++ entry.Commit story (commits journal + 1) ∷ []) n) ≡ Some v.row)
            go false f = written_more journal (entry.Commit story (commits journal + 1)) marks (class, id) v is.0 n (sym (counted_other marks now tx v.stamp marked.others f) ∙ e)
            go true f =
                let one : stamp.Done (commits journal + 1) ≡ stamp.Done n = sym (is_marked v f) ∙ e in
                let same : commits journal + 1 ≡ n = (cc) in
                let many : commits (journal ++ entry.Commit story (commits journal + 1) ∷ []) ≡ commits journal + 1 = commits_yes journal (entry.Commit story (commits journal + 1)) refl in (
                  omega arith,
                  ap (λ m. last_left (class, id) (done_in (journal ++ entry.Commit story (commits journal + 1) ∷ []) m)) (sym same)
                      ∙ ap (last_left (class, id)) (done_in_last journal story (commits journal + 1)) ∙ is.1 f,
                )

        falls : (v w : Version) → IsWritten journal marks (class, id) v × (is_own (Some tx) v.stamp ≡ true → last_left (class, id) story.done ≡ Some v.row)
            → IsWritten journal marks (class, id) w × (is_own (Some tx) w.stamp ≡ true → last_left (class, id) story.done ≡ Some w.row)
            → IsOfLaterCommit marks v w × (AreOfTwo marks v w × IsUnseenBy tx story.snapshot marks v w) → IsOfLaterCommit now v w
        falls v w p q r n m e f = go (is_own (Some tx) v.stamp) refl (is_own (Some tx) w.stamp) refl
          where
            go : (b : Bool) → is_own (Some tx) v.stamp ≡ b → (c : Bool) → is_own (Some tx) w.stamp ≡ c → m < n
            go true g true h = absurd (r.1.0 tx (counted_own marks v.stamp tx (own_is tx v.stamp g) work.unmarked) (counted_own marks w.stamp tx (own_is tx w.stamp h) work.unmarked))
            go true g false h =
                let one : stamp.Done (commits journal + 1) ≡ stamp.Done n = sym (is_marked v g) ∙ e in
                let same : commits journal + 1 ≡ n = (cc) in
                let below : m ≤ commits journal = (q.0 m (sym (counted_other marks now tx w.stamp marked.others h) ∙ f)).0 in
                omega arith
            go false g true h =
                let was : counted marks v.stamp ≡ stamp.Done n = sym (counted_other marks now tx v.stamp marked.others g) ∙ e in
                let theirs = p.0 n was in
                absurd (no_other_wrote within schema journal story law valid n (class, id) v.row w.row (r.1.1 n was (own_is tx w.stamp h)) theirs.0 theirs.1 (q.1 h))
            go false g false h = r.0 n m (sym (counted_other marks now tx v.stamp marked.others g) ∙ e) (sym (counted_other marks now tx w.stamp marked.others h) ∙ f)
