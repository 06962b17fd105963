-- The first touch by rows is the first one on the databases.
use Rattle.std.proofs.Common.{◌↔◌, ℕ, List, sym, ◌∙◌, arith}
use Rattle.rdb_base.specs.declared.identity.Kind.{Kind}
use Rattle.rdb_base.specs.declared.journal.Story.{Story}
use Rattle.rdb_base.specs.declared.journal.Entry.{Entry}
use Rattle.rdb_schema.specs.declared.schema.Schema.{Schema}
use Rattle.rdb_model.specs.Fits.{AllFit}
use Rattle.rdb_model.specs.Parts.{NumbersInOrder, RepliesHold}
use Rattle.rdb_history.specs.RowTouch.{IsFirstTouch, IsUntouched}
use Rattle.rdb_history.specs.FirstTouch.{TouchesFirst, NoneTouches}
use Rattle.rdb_history.proofs.GrowthLemmas.{commit_of, numbered}
use Rattle.rdb_history.proofs.RowLaws.{touch_is, untouched_is}

module _ (schema : Schema) (journal : List Entry) (numbers : NumbersInOrder journal) (replies : RepliesHold schema journal) (k : Kind) (story : Story) (fit : AllFit schema k story.done) where
  pub first_on_databases : (commit operation : ℕ) → IsFirstTouch schema journal story commit operation → (own : Story) × TouchesFirst schema journal own commit story operation
  first_on_databases commit operation is =
      let found = commit_of journal numbers commit (let f = is.unseen in omega arith) is.there in (
        found.0,
        record {
          stands = found.1;
          unseen = is.unseen;
          numbered = is.numbered;
          touches = sym (touch_is schema journal numbers replies found.0 story commit operation k fit found.1) ∙ is.touched;
          first_operation = λ n positive below. sym (touch_is schema journal numbers replies found.0 story commit n k fit found.1) ∙ is.first_operation n positive below;
          first_commit = λ other n stands unseen below m. sym (touch_is schema journal numbers replies other story n m k fit stands) ∙ is.first_commit n m unseen below;
        },
      )

  pub first_by_rows : (own : Story) (commit operation : ℕ) → TouchesFirst schema journal own commit story operation → IsFirstTouch schema journal story commit operation
  first_by_rows own commit operation is =
      let number = numbered journal numbers own commit is.stands in
      record {
        unseen = is.unseen;
        there = number.1;
        numbered = is.numbered;
        touched = touch_is schema journal numbers replies own story commit operation k fit is.stands ∙ is.touches;
        first_operation = λ n positive below. touch_is schema journal numbers replies own story commit n k fit is.stands ∙ is.first_operation n positive below;
        first_commit = λ n m unseen below.
            let found = commit_of journal numbers n (omega arith) (let f = number.1 in omega arith) in
            touch_is schema journal numbers replies found.0 story n m k fit found.1 ∙ is.first_commit found.0 n found.1 unseen below m;
      }

  pub none_alike : IsUntouched schema journal story ↔ NoneTouches schema journal story
  none_alike = (
    λ untouched own commit stands unseen operation. untouched_is schema journal numbers replies own story commit operation k fit untouched stands unseen,
    λ none n m unseen there.
        let found = commit_of journal numbers n (omega arith) there in
        touch_is schema journal numbers replies found.0 story n m k fit found.1 ∙ none found.0 n found.1 unseen m,
  )
