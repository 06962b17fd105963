use Rattle.std.proofs.Common.{ℕ, ◌+◌, take, drop, filter_map, Option, ◌∙◌, ap, arith}
use Rattle.std.specs.Option.{option_copied}
use Rattle.rdb_model.specs.Database.{Row}
use Rattle.rdb_model.specs.Journal.{committed}
use Rattle.rdb_history.specs.Rows.{row_after_all}
use Rattle.rdb_history.proofs.RowLemmas.{commit_passed, other_passed}
use Rattle.rdb_history.proofs.rows.last_row.Goals.{in-Commit, in_default}
use Rattle.rdb_history.proofs.rows.last_row.Goals as goal

pub loop-entry-preserved : goal.loop-entry-preserved
loop-entry-preserved c =
    let es = c.args.entries.now in
    let i = c.loop-entry.entry-index in
    let object : ℕ × ℕ = (c.args.class, c.args.id) in
    let before = option_copied c.loop-entry.row in
    let within = c.loop-entry-test.true in
    elim c.match-entry.branch [
      | in-Commit w ↦
          ap (λ (r : Option Row). row_after_all object r (take c.match-entry.left (filter_map committed (drop (i + 1) es)))) (ap option_copied w.row-is ∙ w.row_after-row.ensures)
          ∙ commit_passed es i c.match-entry.left c.loop-entry.left c.entry-item.result w.in-Commit.story w.in-Commit.commit object before within c.entry-item.is w.in-Commit.is w.left-is (omega arith)
          ∙ c.loop-entry.invariant
      | in_default w ↦
          ap (λ (r : Option Row). row_after_all object r (take c.match-entry.left (filter_map committed (drop (i + 1) es)))) (ap option_copied w.row-is)
          ∙ ap (λ (n : ℕ). row_after_all object before (take n (filter_map committed (drop (i + 1) es)))) w.left-is
          ∙ ap (λ xs. row_after_all object before (take c.loop-entry.left xs)) (other_passed es i c.entry-item.result within c.entry-item.is w.in_default.not-Commit)
          ∙ c.loop-entry.invariant
    ]
