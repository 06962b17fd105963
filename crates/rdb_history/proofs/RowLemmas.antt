-- Rows left by operations and commits, one more at a time.
use Rattle.std.proofs.Common.{◌≡◌, ℕ, suc, ◌+◌, ◌-◌, ◌<◌, List, ◌∷◌, length, get_or, take, drop, filter_map, Option, refl, sym, ap, ◌∙◌, arith, drop-cons, add-one}
use Rattle.rdb_base.specs.declared.journal.Story.{Story}
use Rattle.rdb_base.specs.declared.journal.Entry.{Entry}
use Rattle.rdb_base.specs.declared.journal.Entry.TheVariants as entry
use Rattle.rdb_model.specs.Database.{Row}
use Rattle.rdb_model.specs.Journal.{committed}
use Rattle.rdb_history.specs.Rows.{row_after, row_after_all}

-- the entries from a place on begin with the one at it
from_place : (es : List Entry) (i : ℕ) (e : Entry) → i < length es → e ≡ get_or es i e → drop i es ≡ e ∷ drop (i + 1) es
from_place es i e within is = drop-cons es i e within ∙ ap (λ x. x ∷ drop (suc i) es) (sym is) ∙ ap (λ k. e ∷ drop k es) (sym (add-one i))

-- a commit that is passed moves the row, and one less is left
pub commit_passed : (es : List Entry) (i n left : ℕ) (e : Entry) (story : Story) (commit : ℕ) (object : ℕ × ℕ) (row : Option Row) → i < length es → e ≡ get_or es i e → e ≡ entry.Commit story commit → n ≡ left - 1 → 0 < left
    → row_after_all object (row_after object row story.done) (take n (filter_map committed (drop (i + 1) es))) ≡ row_after_all object row (take left (filter_map committed (drop i es)))
commit_passed es i n left e story commit object row within is commits less positive =
    let next : left ≡ suc n = omega arith in
    sym (ap (λ k. row_after_all object row (take k (filter_map committed (drop i es)))) next
    ∙ ap (λ xs. row_after_all object row (take (suc n) (filter_map committed xs))) (from_place es i e within is ∙ ap (λ x. x ∷ drop (i + 1) es) commits))

-- another entry moves nothing
pub other_passed : (es : List Entry) (i : ℕ) (e : Entry) → i < length es → e ≡ get_or es i e → ((story : Story) (commit : ℕ) → e ≡ entry.Commit story commit → ⊥) → filter_map committed (drop (i + 1) es) ≡ filter_map committed (drop i es)
other_passed es i e within is apart = go e apart ∙ sym (ap (filter_map committed) (from_place es i e within is))
  where
    go : (x : Entry) → ((story : Story) (commit : ℕ) → x ≡ entry.Commit story commit → ⊥) → filter_map committed (drop (i + 1) es) ≡ filter_map committed (x ∷ drop (i + 1) es)
    go (entry.Commit story commit) other = absurd (other story commit refl)
    go (entry.Read story) other = refl
    go (entry.Abort story cause) other = refl
    go (entry.Handled client by at finished) other = refl
    go (entry.Closed client) other = refl
