use Rattle.std.proofs.Common.{◌∙◌, sym}
use Rattle.rdb_shown.proofs.ChainMaps.{rises_from}
use Rattle.rdb_cursor.proofs.KeyIndexes.{row_of_shown_ref, got_row, got_none}
use Rattle.rdb_cursor.proofs.replies.get.Goals as goal

pub row-requires-clause-row : goal.row-requires-clause-row
row-requires-clause-row g c objects holds = row_of_shown_ref (g.M.Marks.marked c.args.view.now.marks.now) c.args.view.now.reader objects c.args.id c.in-Some.version (sym (c.seen.ensures objects holds) ∙ c.in-Some.is)

pub returns-in_ok-row-in-Some : goal.returns-in_ok-row-in-Some
returns-in_ok-row-in-Some g c objects holds =
    got_row (g.M.Marks.marked c.args.view.now.marks.now) c.args.view.now.reader objects (rises_from objects holds.1.ascending) c.args.id c.seen.result (c.seen.ensures objects holds) c.in-Some.version c.in_ok-row-in-Some.field-0 c.in-Some.is (c.in_ok-row-in-Some.ensures objects holds)

pub returns-in-None : goal.returns-in-None
returns-in-None g c objects holds = got_none (g.M.Marks.marked c.args.view.now.marks.now) c.args.view.now.reader objects (rises_from objects holds.1.ascending) c.args.id c.seen.result (c.seen.ensures objects holds) c.in-None.is
