-- What the versions show after a commit that is marked.
use Rattle.std.proofs.Common.{◌≡◌, ℕ, ◌+◌, ◌<◌, ◌≤◌, true, false, cond, List, [], ◌∷◌, ◌++◌, length, Option, Some, None, nat_le, nat_lt, refl, sym, ap, ◌∙◌, arith}
use Rattle.std.specs.Prelude.{option_and_then}
use Rattle.std.specs.List.{AllByRecursion}
use Rattle.std.specs.Option.{option_map, option_map_or, option_or}
use Rattle.std.proofs.lemmas.Bool.Decides.{nat_tests}
use Rattle.std.proofs.lemmas.List.{length-map}
use Rattle.std.proofs.lemmas.List.Elements.{recursion_from_All}
use Rattle.rdb_base.specs.declared.identity.TxId.{TxId}
use Rattle.rdb_base.specs.declared.identity.Stamp.{Stamp}
use Rattle.rdb_base.specs.declared.identity.Stamp.TheVariants as stamp
use Rattle.rdb_base.specs.declared.journal.Story.{Story}
use Rattle.rdb_base.specs.declared.journal.Entry.{Entry}
use Rattle.rdb_base.specs.declared.journal.Entry.TheVariants as entry
use Rattle.rdb_schema.specs.declared.schema.Schema.{Schema}
use Rattle.rdb_sight.specs.Sight.{is_own, commit_within, exceeds, greatest}
use Rattle.rdb_sight.specs.Versions.{Version, Versions, Marks, objects_in, chain_in, counted, row_shown, rows_shown, shown, own_version}
use Rattle.rdb_model.specs.declared.legality.Span.{Span}
use Rattle.rdb_model.specs.Database.{Row, Database, row_of, objects_of}
use Rattle.rdb_model.specs.Journal.{commits, fold}
use Rattle.rdb_model.specs.Parts.{KeepsLaw}
use Rattle.rdb_model.specs.Validation.{IsNew, IsValid}
use Rattle.rdb_model.proofs.CommitSound.{commit_keeps}
use Rattle.rdb_model.proofs.OrderedLemmas.{fold_in_order}
use Rattle.rdb_history.specs.Rows.{last_row}
use Rattle.rdb_history.proofs.FoldLemmas.{last_row_is}
use Rattle.rdb_shown.specs.Kept.{last_left, IsWritten, AreVersions, IsWork}
use Rattle.rdb_shown.specs.Changes.{IsMarked}
use Rattle.rdb_shown.proofs.ChainMaps.{Rises}
use Rattle.rdb_shown.proofs.RowsShown.{shown_row, shows}
use Rattle.rdb_shown.proofs.Pairs.{all_always, all_weaker, all_both}
use Rattle.rdb_shown.proofs.StampLemmas.{own_is, counted_marked}
use Rattle.rdb_shown.proofs.Picks.{find_none, none_found, pick_same, greatest_marked}
use Rattle.rdb_shown.proofs.KeptLemmas.{in_order}
use Rattle.rdb_shown.proofs.MarkLemmas.{counted_other}
use Rattle.rdb_shown.proofs.AnswerLemmas.{left_after}
use Rattle.rdb_shown.proofs.JournalLemmas.{last_row_more, fold_classes}

-- the row that an object shows after the commit: what the transaction left of it, if it wrote it, or else what it showed
pub chain_marked : (journal : List Entry) (marks now : Marks) (object : ℕ × ℕ) (tx : TxId) (chain : List Version) (left : Option (Option Row)) → IsMarked marks now tx (commits journal + 1)
    → AllByRecursion (IsWritten journal marks object) chain → option_map (λ (v : Version). v.row) (own_version tx chain) ≡ left
    → row_shown now (commits journal + 1) None chain ≡ option_map_or (λ r. r) left (row_shown marks (commits journal) None chain)
chain_marked journal marks now object tx chain left marked written wrote = by_own (own_version tx chain) refl wrote
  where
    next : ℕ
    next = commits journal + 1

    within : (n : ℕ) → n ≤ commits journal → (commit_within (commits journal + 1) (stamp.Done n) ≡ Some n) × (commit_within (commits journal) (stamp.Done n) ≡ Some n)
    within n le =
        let one : nat_le n (commits journal + 1) ≡ true = grind (arith, nat_tests) in
        let two : nat_le n (commits journal) ≡ true = grind (arith, nat_tests) in
        (ap (λ b. cond b (Some n) None) one, ap (λ b. cond b (Some n) None) two)

    -- a version of another transaction
    same_number : (v : Version) → IsWritten journal marks object v → is_own (Some tx) v.stamp ≡ false → commit_within (commits journal + 1) (counted now v.stamp) ≡ commit_within (commits journal) (counted marks v.stamp)
    same_number v is e = ap (commit_within (commits journal + 1)) (counted_other marks now tx v.stamp marked.others e) ∙ go (counted marks v.stamp) refl
      where
        go : (s : Stamp) → counted marks v.stamp ≡ s → commit_within (commits journal + 1) s ≡ commit_within (commits journal) s
        go (stamp.By by) f = refl
        go (stamp.Done n) f = let w = within n (is n f).0 in w.0 ∙ sym w.1

    below : (v : Version) → IsWritten journal marks object v → is_own (Some tx) v.stamp ≡ false → exceeds (Some (commits journal + 1)) (commit_within (commits journal + 1) (counted now v.stamp)) ≡ true
    below v is e = ap (λ s. exceeds (Some (commits journal + 1)) (commit_within (commits journal + 1) s)) (counted_other marks now tx v.stamp marked.others e) ∙ go (counted marks v.stamp) refl
      where
        go : (s : Stamp) → counted marks v.stamp ≡ s → exceeds (Some (commits journal + 1)) (commit_within (commits journal + 1) s) ≡ true
        go (stamp.By by) f = refl
        go (stamp.Done n) f =
            let le : n ≤ commits journal = (is n f).0 in
            let lt : nat_lt n (commits journal + 1) ≡ true = grind (arith, nat_tests) in
            ap (exceeds (Some (commits journal + 1))) (within n le).0 ∙ lt

    own_number : (v : Version) → is_own (Some tx) v.stamp ≡ true → commit_within (commits journal + 1) (counted now v.stamp) ≡ Some (commits journal + 1)
    own_number v e =
        let here : nat_le (commits journal + 1) (commits journal + 1) ≡ true = grind (arith, nat_tests) in
        ap (commit_within (commits journal + 1)) (counted_marked now v.stamp tx (commits journal + 1) (own_is tx v.stamp e) marked.own) ∙ ap (λ b. cond b (Some (commits journal + 1)) None) here

    by_own : (o : Option Version) → own_version tx chain ≡ o → option_map (λ (v : Version). v.row) o ≡ left
        → row_shown now (commits journal + 1) None chain ≡ option_map_or (λ r. r) left (row_shown marks (commits journal) None chain)
    by_own None e wrote =
        ap (option_and_then (λ (v : Version). v.row)) (pick_same (λ v. is_own None (counted now v.stamp)) (λ v. is_own None (counted marks v.stamp)) (λ v. commit_within (commits journal + 1) (counted now v.stamp)) (λ v. commit_within (commits journal) (counted marks v.stamp)) chain
        (all_weaker (λ v. IsWritten journal marks object v × (is_own (Some tx) v.stamp ≡ false)) (λ v. (is_own None (counted now v.stamp) ≡ is_own None (counted marks v.stamp)) × (commit_within (commits journal + 1) (counted now v.stamp) ≡ commit_within (commits journal) (counted marks v.stamp))) chain
        (λ v both. (refl, same_number v both.0 both.1))
        (all_both (IsWritten journal marks object) (λ v. is_own (Some tx) v.stamp ≡ false) chain written (none_found (λ (v : Version). is_own (Some tx) v.stamp) chain e))))
        ∙ ap (λ (l : Option (Option Row)). option_map_or (λ r. r) l (row_shown marks (commits journal) None chain)) wrote
    by_own (Some v) e wrote =
        ap (λ m. option_and_then (λ (w : Version). w.row) (option_or m (greatest (λ w. commit_within (commits journal + 1) (counted now w.stamp)) chain))) (find_none (λ (w : Version). is_own None (counted now w.stamp)) chain (all_always (λ (w : Version). is_own None (counted now w.stamp) ≡ false) chain (λ w. refl)))
        ∙ ap (option_and_then (λ (w : Version). w.row)) (greatest_marked (λ w. is_own (Some tx) w.stamp) (λ w. commit_within (commits journal + 1) (counted now w.stamp)) (Some (commits journal + 1)) chain v refl
        (all_weaker (IsWritten journal marks object) (λ w. (is_own (Some tx) w.stamp ≡ true → commit_within (commits journal + 1) (counted now w.stamp) ≡ Some (commits journal + 1)) × (is_own (Some tx) w.stamp ≡ false → exceeds (Some (commits journal + 1)) (commit_within (commits journal + 1) (counted now w.stamp)) ≡ true)) chain
        (λ w is. (own_number w, below w is)) written) e)
        ∙ ap (λ (l : Option (Option Row)). option_map_or (λ r. r) l (row_shown marks (commits journal) None chain)) wrote

-- after the commit the versions show the fold with it
pub commit_shown : (within : Span) (schema : Schema) (journal : List Entry) (marks now : Marks) (versions : Versions) (tx : TxId) (story : Story) → KeepsLaw within schema journal → IsNew within journal story → IsValid schema journal story
    → AreVersions journal marks versions → IsWork marks versions tx story.snapshot story.done → IsMarked marks now tx (commits journal + 1) → shown marks (commits journal) None versions ≡ fold schema journal (commits journal)
    → shown now (commits journal + 1) None versions ≡ fold schema (journal ++ entry.Commit story (commits journal + 1) ∷ []) (commits journal + 1)
commit_shown within schema journal marks now versions tx story law is_new valid kept work marked were =
    shows now (commits journal + 1) None versions (fold schema all (commits journal + 1)) rises (fold_in_order schema all (commits journal + 1))
    (sym (length-map versions (rows_shown marks (commits journal) None)) ∙ ap (λ (db : Database). length db) were ∙ fold_classes schema journal (commits journal) ∙ sym (fold_classes schema all (commits journal + 1)))
    row
  where
    all : List Entry
    all = journal ++ entry.Commit story (commits journal + 1) ∷ []

    rises : (c : ℕ) → Rises (objects_in versions c)
    rises = in_order journal marks versions kept

    law_after : KeepsLaw within schema (journal ++ entry.Commit story (commits journal + 1) ∷ [])
    law_after = commit_keeps within schema journal story law is_new valid

    row : (class id : ℕ) → class < length (fold schema (journal ++ entry.Commit story (commits journal + 1) ∷ []) (commits journal + 1))
        → row_shown now (commits journal + 1) None (chain_in versions class id) ≡ row_of (objects_of (fold schema (journal ++ entry.Commit story (commits journal + 1) ∷ []) (commits journal + 1)) class) id
    row class id lt =
        let there : class < length schema.classes = omega (arith, lt, fold_classes schema (journal ++ entry.Commit story (commits journal + 1) ∷ []) (commits journal + 1)) in
        chain_marked journal marks now (class, id) tx (chain_in versions class id) (last_left (class, id) story.done) marked
        (recursion_from_All (IsWritten journal marks (class, id)) (chain_in versions class id) (kept.chains class id).written) (work.wrote class id)
        ∙ ap (option_map_or (λ r. r) (last_left (class, id) story.done))
        (sym (shown_row marks (commits journal) None versions class id rises) ∙ ap (λ (db : Database). row_of (objects_of db class) id) were ∙ sym (last_row_is schema journal (commits journal) class id law.numbers law.replies there))
        ∙ sym (left_after (class, id) (last_row journal (commits journal) (class, id)) story.done)
        ∙ sym (last_row_more journal story (commits journal + 1) (class, id))
        ∙ last_row_is schema (journal ++ entry.Commit story (commits journal + 1) ∷ []) (commits journal + 1) class id law_after.numbers law_after.replies there
