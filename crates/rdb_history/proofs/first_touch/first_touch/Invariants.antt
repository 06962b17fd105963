use Rattle.std.proofs.Common.{◌≡◌, ℕ, ◌≤◌, ◌<◌, false}
use Rattle.rdb_history.specs.RowTouch.{touched_by_rows}
use Rattle.rdb_history.proofs.first_touch.first_touch.Given as goal

-- none of the commits so far touches the story
abbrev pub invariant-loop-seen : goal.invariant-loop-seen
invariant-loop-seen l = (n k : ℕ) → l.story.snapshot < n → n ≤ l.seen → touched_by_rows l.schema l.journal.entries n l.story k ≡ false
