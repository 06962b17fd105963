-- The parts of the law of journals, each over a journal alone.
use Rattle.std.specs.Prelude.{◌≡◌, ℕ, false, List, take, slice_get, Some, None}
use Rattle.rdb_base.specs.declared.journal.Entry.{Entry}
use Rattle.rdb_schema.specs.declared.schema.Schema.{Schema}
use Rattle.rdb_model.specs.declared.legality.Span.{Span}
use Rattle.rdb_model.specs.declared.legality.Span.TheVariants as span
use Rattle.rdb_model.specs.Journal.{breaks_number, breaks_twice, breaks_place, breaks_reply}

-- that a relation holds of each entry, after the entries before it
abbrev pub HoldsOfEach : (List Entry → Entry → Type 0) → List Entry → Type 0
HoldsOfEach Relation journal = (place : ℕ) (e : Entry) → slice_get journal place ≡ Some e → Relation (take place journal) e

-- number: that each commit's number is one more than the commits before it
abbrev pub NumbersInOrder : List Entry → Type 0
NumbersInOrder journal = HoldsOfEach (λ earlier e. breaks_number earlier e ≡ false) journal

-- twice: that within the span no transaction ends twice, and leave of no client is taken twice
abbrev pub EndsOnceWithin : Span → List Entry → Type 0
EndsOnceWithin within journal = HoldsOfEach (λ earlier e. breaks_twice within earlier e ≡ false) journal

-- twice, over the whole journal: each slot is given once
abbrev pub EndsOnce : List Entry → Type 0
EndsOnce journal = EndsOnceWithin span.Journal journal

-- twice, within each stretch of a client's entries, which ends as its leave is taken: a slot may be given again
abbrev pub EndsOnceInStretches : List Entry → Type 0
EndsOnceInStretches journal = EndsOnceWithin span.Stretch journal

-- place: that each transaction began before its end, and sees at least the commits before it began and at most those before its end
abbrev pub IsWellPlaced : List Entry → Type 0
IsWellPlaced journal = HoldsOfEach (λ earlier e. breaks_place earlier e ≡ false) journal

-- reply: that each commit runs after all commits before it, and each read after those that it sees; each makes its objects anew
abbrev pub RepliesHold : Schema → List Entry → Type 0
RepliesHold schema journal = HoldsOfEach (λ earlier e. breaks_reply schema earlier e ≡ None) journal

-- that a journal keeps the four parts of the law, the second within the span
pub record KeepsLaw (within : Span) (schema : Schema) (journal : List Entry) : Type 0 where
  pub numbers : NumbersInOrder journal
  pub ends_once : EndsOnceWithin within journal
  pub placed : IsWellPlaced journal
  pub replies : RepliesHold schema journal

-- that a journal keeps the law where a slot may be given again: what the journal of a running region keeps
abbrev pub IsLegalInStretches : Schema → List Entry → Type 0
IsLegalInStretches schema journal = KeepsLaw span.Stretch schema journal
