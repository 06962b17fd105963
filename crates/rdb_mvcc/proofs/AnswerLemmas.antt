-- Validation's answer is one, holds on the databases, and lets a story commit.
use Rattle.std.proofs.Common.{◌≡◌, ℕ, ◌+◌, true, List, [], ◌∷◌, ◌++◌, refl, ap, ◌∙◌}
use Rattle.rdb_base.specs.declared.identity.Kind.TheVariants as kind
use Rattle.rdb_base.specs.declared.journal.Story.{Story}
use Rattle.rdb_base.specs.declared.journal.Entry.{Entry}
use Rattle.rdb_base.specs.declared.journal.Entry.TheVariants as entry
use Rattle.rdb_schema.specs.declared.schema.Schema.{Schema}
use Rattle.rdb_model.specs.declared.legality.Span.{Span}
use Rattle.rdb_model.specs.Fits.{AllFit}
use Rattle.rdb_model.specs.Journal.{commits, is_placed, made_before}
use Rattle.rdb_model.specs.Parts.{NumbersInOrder, RepliesHold, KeepsLaw}
use Rattle.rdb_model.specs.Validation.{IsNew, MakesAnew, RunsAfter}
use Rattle.rdb_model.proofs.CommitSound.{commit_keeps}
use Rattle.rdb_history.proofs.RowLaws.{one_first_touch, touched_is_not_untouched}
use Rattle.rdb_history.proofs.FirstTouchLaws.{first_on_databases, none_alike}
use Rattle.rdb_mvcc.specs.declared.validation.Checked.{Checked}
use Rattle.rdb_mvcc.specs.declared.validation.Checked.TheVariants as checked
use Rattle.rdb_mvcc.specs.Answers.{IsAnswer, IsAnswerOnDatabases}

pub one_answer : (schema : Schema) (journal : List Entry) (story : Story) (one other : Checked) → IsAnswer schema journal story one → IsAnswer schema journal story other → one ≡ other
one_answer schema journal story checked.Clear checked.Clear a b = refl
one_answer schema journal story checked.Clear (checked.Conflict commit operation) a b = absurd (touched_is_not_untouched schema journal story commit operation b a)
one_answer schema journal story (checked.Conflict commit operation) checked.Clear a b = absurd (touched_is_not_untouched schema journal story commit operation a b)
one_answer schema journal story (checked.Conflict commit operation) (checked.Conflict other k) a b =
    let same = one_first_touch schema journal story commit operation other k a b in
    ap (λ n. checked.Conflict n operation) same.0 ∙ ap (checked.Conflict other) same.1

pub on_databases : (schema : Schema) (journal : List Entry) (story : Story) (answer : Checked) → AllFit schema kind.ReadWrite story.done → IsAnswer schema journal story answer
    → NumbersInOrder journal → RepliesHold schema journal → IsAnswerOnDatabases schema journal story answer
on_databases schema journal story checked.Clear fit is numbers replies = (none_alike schema journal numbers replies kind.ReadWrite story fit).0 is
on_databases schema journal story (checked.Conflict commit operation) fit is numbers replies = first_on_databases schema journal numbers replies kind.ReadWrite story fit commit operation is

pub clear_keeps : (within : Span) (schema : Schema) (journal : List Entry) (story : Story) → KeepsLaw within schema journal → AllFit schema kind.ReadWrite story.done → IsNew within journal story
    → is_placed journal story ≡ true → MakesAnew (made_before journal) story.done → RunsAfter schema journal story.snapshot story → IsAnswer schema journal story checked.Clear
    → KeepsLaw within schema (journal ++ entry.Commit story (commits journal + 1) ∷ [])
clear_keeps within schema journal story law fit new_one placed anew runs clear = commit_keeps within schema journal story law new_one (record {
  placed = placed;
  makes_anew = anew;
  runs = runs;
  touches_none = λ own commit stands unseen operation. (none_alike schema journal law.numbers law.replies kind.ReadWrite story fit).0 clear own commit stands unseen operation;
})
