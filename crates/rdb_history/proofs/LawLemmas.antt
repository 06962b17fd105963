-- The law of journals with one entry more, and where each slot is given once.
use Rattle.std.proofs.Common.{◌≡◌, ◌↔◌, ℕ, Bool, true, false, not, ◌&&◌, ◌||◌, List, [], ◌∷◌, ◌++◌, take, None, refl, sym, ap, ◌∙◌}
use Rattle.rdb_base.specs.Entries.{client_of}
use Rattle.rdb_base.specs.declared.journal.Entry.{Entry}
use Rattle.rdb_base.specs.declared.journal.Entry.TheVariants as entry
use Rattle.rdb_schema.specs.declared.schema.Schema.{Schema}
use Rattle.rdb_model.specs.declared.legality.Span.{Span}
use Rattle.rdb_model.specs.declared.legality.Span.TheVariants as span
use Rattle.rdb_model.specs.Journal.{ends, takes_leave, has_ended, has_left, has_ended_since_leave, breaks_number, breaks_twice, breaks_place, breaks_reply}
use Rattle.rdb_model.specs.Parts.{KeepsLaw}
use Rattle.rdb_model.proofs.PartLemmas.{holds_here, law_in_front, law_with}
use Rattle.rdb_history.specs.NextEntry.{MayCome, EachSlotOnce}

-- one entry more
last_may_come : (within : Span) (schema : Schema) (journal : List Entry) (e : Entry) → KeepsLaw within schema (journal ++ e ∷ []) → MayCome within schema journal e
last_may_come within schema journal e law = record {
  number = holds_here (λ earlier x. breaks_number earlier x ≡ false) (journal ++ e ∷ []) journal [] e law.numbers refl;
  once = holds_here (λ earlier x. breaks_twice within earlier x ≡ false) (journal ++ e ∷ []) journal [] e law.ends_once refl;
  placed = holds_here (λ earlier x. breaks_place earlier x ≡ false) (journal ++ e ∷ []) journal [] e law.placed refl;
  replies = holds_here (λ earlier x. breaks_reply schema earlier x ≡ None) (journal ++ e ∷ []) journal [] e law.replies refl;
}

pub law_more : (within : Span) (schema : Schema) (journal : List Entry) (e : Entry) → KeepsLaw within schema (journal ++ e ∷ []) ↔ (KeepsLaw within schema journal × MayCome within schema journal e)
law_more within schema journal e = (
  λ law. (law_in_front within schema journal (e ∷ []) law, last_may_come within schema journal e law),
  λ both. law_with within schema journal e both.0 (record { number = both.1.number; twice = both.1.once; placed = both.1.placed; replies = both.1.replies }),
)

-- a client that hasn't left has ended what it has ended since its last leave
never_left : (es : List Entry) (tx : ℕ × ℕ) → has_left es tx.0 ≡ false → has_ended es tx ≡ has_ended_since_leave es tx
never_left [] tx none = refl
never_left (e ∷ es) tx none = go (takes_leave tx.0 e) (has_left es tx.0) refl (never_left es tx) none
  where
    either : (a b c : Bool) → b ≡ c → (a || b) ≡ ((a && not false) || c)
    either true b c same = refl
    either false b c same = same

    go : (a b : Bool) → has_left es tx.0 ≡ b → (has_left es tx.0 ≡ false → has_ended es tx ≡ has_ended_since_leave es tx) → (a || b) ≡ false
        → (ends tx e || has_ended es tx) ≡ ((ends tx e && not (has_left es tx.0)) || has_ended_since_leave es tx)
    go true b f rest g = (cc)
    go false true f rest g = (cc)
    go false false f rest g =
        either (ends tx e) (has_ended es tx) (has_ended_since_leave es tx) (rest f)
        ∙ ap (λ b. (ends tx e && not b) || has_ended_since_leave es tx) (sym f)

no_twice : (earlier : List Entry) (e : Entry) → has_left earlier (client_of e) ≡ false → breaks_twice span.Stretch earlier e ≡ false → breaks_twice span.Journal earlier e ≡ false
no_twice earlier (entry.Commit own commit) none once = ap (λ b. b || false) (never_left earlier (own.client, own.number) none) ∙ once
no_twice earlier (entry.Read own) none once = ap (λ b. b || false) (never_left earlier (own.client, own.number) none) ∙ once
no_twice earlier (entry.Abort own cause) none once = ap (λ b. b || false) (never_left earlier (own.client, own.number) none) ∙ once
no_twice earlier (entry.Handled client by at finished) none once = none
no_twice earlier (entry.Closed client) none once = none

pub whole_law : (schema : Schema) (journal : List Entry) → EachSlotOnce journal → KeepsLaw span.Stretch schema journal → KeepsLaw span.Journal schema journal
whole_law schema journal slots law = record {
  numbers = law.numbers;
  ends_once = λ place e at. no_twice (take place journal) e (slots place e at) (law.ends_once place e at);
  placed = law.placed;
  replies = law.replies;
}
