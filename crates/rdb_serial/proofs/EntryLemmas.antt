-- A journal with one entry more that is no commit: what stays so of it, of the versions and of each connection that the entry isn't of.
use Rattle.std.proofs.Common.{◌≡◌, ◌≢◌, ◌⊎◌, inl, inr, ℕ, Bool, true, false, ◌&&◌, ◌||◌, ◌==◌, not, List, [], ◌∷◌, ◌++◌, length, take, Option, Some, None, nat_eq, nat_le, refl, sym, ap, subst, ◌∙◌, arith, append-nil, Contains}
use Rattle.std.specs.Option.{option_map_or}
use Rattle.std.proofs.lemmas.Bool.Decides.{nat_tests}
use Rattle.std.proofs.lemmas.List.Elements.{Contains-push_cases}
use Rattle.rdb_base.specs.Entries.{is_commit}
use Rattle.rdb_base.specs.declared.identity.Kind.TheVariants as kinds
use Rattle.rdb_base.specs.declared.identity.Manager.{Manager}
use Rattle.rdb_base.specs.declared.operation.Op.{Op}
use Rattle.rdb_base.specs.declared.operation.Reply.{Reply}
use Rattle.rdb_base.specs.declared.journal.Story.{Story}
use Rattle.rdb_base.specs.declared.journal.Entry.{Entry}
use Rattle.rdb_base.specs.declared.journal.Entry.TheVariants as entry
use Rattle.rdb_schema.specs.declared.schema.Schema.{Schema}
use Rattle.rdb_registry.specs.declared.seat.Transaction.{Transaction}
use Rattle.rdb_sight.specs.Versions.{shown}
use Rattle.rdb_model.specs.Fits.{AllFit}
use Rattle.rdb_model.specs.Journal.{commits, committed, fold, ended, ends, takes_leave, has_ended_since_leave, is_placed, made_in, made_before}
use Rattle.rdb_model.specs.Parts.{IsLegalInStretches}
use Rattle.rdb_model.specs.Validation.{MakesAnew}
use Rattle.rdb_model.proofs.EndingLemmas.{since_push}
use Rattle.rdb_model.proofs.PartLemmas.{holds_with}
use Rattle.rdb_history.proofs.GrowthLemmas.{no_more_commits, fold_grown}
use Rattle.rdb_history.proofs.StoryLemmas.{made_more}
use Rattle.rdb_shown.proofs.MarkLemmas.{kept_more}
use Rattle.rdb_serial.specs.Progress.{Progress, so_far, story_with}
use Rattle.rdb_serial.specs.Histories.{Scene, view_in}
use Rattle.rdb_serial.specs.Serial.{IsAbortAllowed, AreDrawn, IsScene, IsBegun}
use Rattle.rdb_serial.proofs.CarryLemmas.{Carries, snapshot_there}

-- an entry that is no commit makes nothing
pub made_as_before : (journal : List Entry) (e : Entry) → is_commit e ≡ false → made_before (journal ++ e ∷ []) ≡ made_before journal
made_as_before journal e other = made_more journal e ∙ ap (λ (o : Option (List (Op × Reply))). made_before journal ++ option_map_or made_in o []) (none e other) ∙ append-nil (made_before journal)
  where
    none : (e : Entry) → is_commit e ≡ false → committed e ≡ None
    none (entry.Commit story commit) other = (cc)
    none (entry.Read story) other = refl
    none (entry.Abort story cause) other = refl
    none (entry.Handled client by at finished) other = refl
    none (entry.Closed client) other = refl

-- what had ended since leave was taken, where an entry ends it no more
pub ended_before : (journal : List Entry) (e : Entry) (tx : ℕ × ℕ) → ends tx e ≡ false → has_ended_since_leave (journal ++ e ∷ []) tx ≡ true → has_ended_since_leave journal tx ≡ true
ended_before journal e tx other is = go (ends tx e) (has_ended_since_leave journal tx) (not (takes_leave tx.0 e)) other (sym (since_push journal e tx) ∙ is)
  where
    go : (a b c : Bool) → a ≡ false → (a || (b && c)) ≡ true → b ≡ true
    go true b c e f = (cc)
    go false true c e f = refl
    go false false c e f = f

pub unended_still : (journal : List Entry) (e : Entry) (tx : ℕ × ℕ) → ends tx e ≡ false → has_ended_since_leave journal tx ≡ false → has_ended_since_leave (journal ++ e ∷ []) tx ≡ false
unended_still journal e tx other is = since_push journal e tx ∙ go (ends tx e) (has_ended_since_leave journal tx) (not (takes_leave tx.0 e)) other is
  where
    go : (a b c : Bool) → a ≡ false → b ≡ false → (a || (b && c)) ≡ false
    go true b c e f = (cc)
    go false true c e f = (cc)
    go false false c e f = refl

-- an entry of one client's transaction ends no other client's
pub ends_others : (e : Entry) (client number : ℕ) → ended e ≡ Some (client, number) → (other n : ℕ) → other ≢ client → ends (other, n) e ≡ false
ends_others e client number is other n differs =
    ap (λ (o : Option (ℕ × ℕ)). option_map_or (λ (t : ℕ × ℕ). (t.0 == other) && (t.1 == n)) o false) is
    ∙ ap (λ (b : Bool). b && nat_eq number n) (let no : nat_eq client other ≡ false = grind (arith, nat_tests) in no)

-- and of that client's only the one of its number
pub ends_own : (e : Entry) (client number n : ℕ) → ended e ≡ Some (client, number) → ends (client, n) e ≡ true → number ≡ n
ends_own e client number n is ends_it = go (nat_eq client client) (nat_eq number n) refl (sym (ap (λ (o : Option (ℕ × ℕ)). option_map_or (λ (t : ℕ × ℕ). (t.0 == client) && (t.1 == n)) o false) is) ∙ ends_it)
  where
    go : (a b : Bool) → nat_eq number n ≡ b → (a && b) ≡ true → number ≡ n
    go true true e f = grind (arith, nat_tests)
    go true false e f = (cc)
    go false b e f = (cc)

module _ (schema : Schema) (manager : Manager) (s : Scene) (e : Entry) (other_kind : is_commit e ≡ false) where
  commits_same : commits (s.journal ++ e ∷ []) ≡ commits s.journal
  commits_same = no_more_commits s.journal e other_kind

  -- a connection that the entry isn't of
  pub carries_entry : (slot : ℕ) (p : Progress) → ((number : ℕ) → ends (slot, number) e ≡ false) → Carries schema manager s (record s { journal = s.journal ++ e ∷ [] }) slot p
  carries_entry slot p others = record {
    more = e ∷ [];
    journal = refl;
    shows = λ t open_one begun. refl;
    mine = λ t open_one begun unmarked live. refl;
    work = λ t open_one begun unmarked live work. work;
    sees_all = λ t open_one begun unmarked live sees single writes.
        let all = sees single writes in (
          all.0 ∙ sym commits_same,
          ap (λ (n : ℕ). shown s.marks n None (view_in s p)) commits_same ∙ all.1
              ∙ sym (ap (λ (n : ℕ). fold schema (s.journal ++ e ∷ []) n) commits_same ∙ fold_grown s.journal (e ∷ []) schema (commits s.journal) (omega arith)),
        );
    anew = λ anew. subst (λ (made : List (ℕ × ℕ)). MakesAnew made (so_far p)) (sym (made_as_before s.journal e other_kind)) anew;
    drawn = λ class. omega arith;
    ended = λ number is. ended_before s.journal e (slot, number) (others number) is;
  }

  -- the journal and the versions
  pub scene_entered : IsScene schema s → IsLegalInStretches schema (s.journal ++ e ∷ []) → IsAbortAllowed schema s.journal e → ((story : Story) → e ≡ entry.Read story → AllFit schema kinds.ReadOnly story.done) →
      IsScene schema (record s { journal = s.journal ++ e ∷ [] })
  scene_entered is law allowed reads = record {
    law = law;
    aborts = holds_with (IsAbortAllowed schema) s.journal e is.aborts allowed;
    reads = λ story stands. go story (Contains-push_cases s.journal e (entry.Read story) stands);
    drawn = subst (AreDrawn s.drawn) (sym (made_as_before s.journal e other_kind)) is.drawn;
    settled = kept_more s.journal e s.marks s.settled is.settled;
    aimed = kept_more s.journal e s.marks s.aimed is.aimed;
    classes = is.classes;
    classes_aimed = is.classes_aimed;
    current = ap (λ (n : ℕ). shown s.marks n None s.settled) commits_same ∙ is.current
        ∙ sym (ap (λ (n : ℕ). fold schema (s.journal ++ e ∷ []) n) commits_same ∙ fold_grown s.journal (e ∷ []) schema (commits s.journal) (omega arith));
  }
    where
      go : (story : Story) → Contains s.journal (entry.Read story) ⊎ (e ≡ entry.Read story) → AllFit schema kinds.ReadOnly story.done
      go story (inl stands) = is.reads story stands
      go story (inr same) = reads story same

-- a transaction that began within the journal is placed well
pub placed : (schema : Schema) (s : Scene) (p : Progress) (t : Transaction) (done : List (Op × Reply)) → IsBegun schema s t → is_placed s.journal (story_with p t done) ≡ true
placed schema s p t done begun =
    let there = snapshot_there schema s t begun in
    let one : nat_le t.begun (length s.journal) ≡ true = let h = begun.begun in grind (arith, nat_tests) in
    let two : nat_le (commits (take t.begun s.journal)) t.snapshot ≡ true = let h = begun.snapshot in grind (arith, nat_tests) in
    let three : nat_le t.snapshot (commits s.journal) ≡ true = grind (arith, nat_tests) in
    go (nat_le t.begun (length s.journal)) (nat_le (commits (take t.begun s.journal)) t.snapshot) (nat_le t.snapshot (commits s.journal)) one two three
  where
    go : (a b c : Bool) → a ≡ true → b ≡ true → c ≡ true → (a && (b && c)) ≡ true
    go true true true e f g = refl
    go true true false e f g = g
    go true false c e f g = f
    go false b c e f g = e
