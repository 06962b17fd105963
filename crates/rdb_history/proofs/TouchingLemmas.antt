-- Whether a commit touches an operation, looked for object by object.
use Rattle.std.proofs.Common.{◌≡◌, ℕ, ◌+◌, ◌-◌, Bool, true, false, ◌||◌, List, drop, slice_get, Option, Some, sym, ap, ◌∙◌}
use Rattle.std.specs.List.{list_any}
use Rattle.rdb_base.specs.declared.operation.Op.{Op}
use Rattle.rdb_base.specs.declared.operation.Reply.{Reply}
use Rattle.rdb_base.specs.declared.journal.Entry.{Entry}
use Rattle.rdb_schema.specs.declared.schema.Schema.{Schema}
use Rattle.rdb_model.specs.Database.{Row}
use Rattle.rdb_history.specs.Rows.{last_row}
use Rattle.rdb_history.specs.RowTouch.{rests_on_row, rests_on_change}
use Rattle.rdb_history.proofs.ListLemmas.{drop_here}

module _ {A : Type 0} (p : A → Bool) (xs : List A) (k : ℕ) (x : A) (at : slice_get xs k ≡ Some x) where
  here_is : list_any p (drop k xs) ≡ (p x || list_any p (drop (k + 1) xs))
  here_is = ap (list_any p) (drop_here xs k x at)

  pub any_here : p x ≡ true → list_any p (drop k xs) ≡ true
  any_here passes = here_is ∙ ap (λ b. b || list_any p (drop (k + 1) xs)) passes

  pub any_next : p x ≡ false → list_any p (drop (k + 1) xs) ≡ list_any p (drop k xs)
  any_next fails = sym (here_is ∙ ap (λ b. b || list_any p (drop (k + 1) xs)) fails)

-- what rests on the rows of a change rests on the rows that were last written
pub rests_is : (schema : Schema) (es : List Entry) (commit : ℕ) (d : Op × Reply) (object : ℕ × ℕ) (before after : Option Row) (found : Bool)
    → found ≡ (rests_on_row schema d object before || rests_on_row schema d object after) → before ≡ last_row es (commit - 1) object → after ≡ last_row es commit object
    → found ≡ rests_on_change schema es commit d object
rests_is schema es commit d object before after found is b a =
    is ∙ ap (λ r. rests_on_row schema d object r || rests_on_row schema d object after) b
    ∙ ap (λ r. rests_on_row schema d object (last_row es (commit - 1) object) || rests_on_row schema d object r) a
