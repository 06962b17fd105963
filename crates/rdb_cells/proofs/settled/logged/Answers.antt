use Rattle.std.proofs.Common.{Bor, sym, ap, ◌∙◌}
use Rattle.std.specs.Option.{option_copied}
use Rattle.rdb_cells.specs.declared.undo.Undo.{Undo}
use Rattle.rdb_cells.proofs.SettledLemmas.{logged_some, logged_none}
use Rattle.rdb_cells.proofs.settled.logged.Goals as goal

pub returns-in-Some : goal.returns-in-Some
returns-in-Some c = logged_some (λ (r : Bor Undo). r.now.pairs) c.args.records.now c.loop-record.record-index c.args.at.number c.record-item.result c.in-Some.cell.now c.loop-record-test.true c.record-item.is c.loop-record.invariant c.in-Some.ensures

pub loop-record-preserved : goal.loop-record-preserved
loop-record-preserved c = logged_none (λ (r : Bor Undo). r.now.pairs) c.args.records.now c.loop-record.record-index c.args.at.number c.record-item.result c.loop-record-test.true c.record-item.is c.loop-record.invariant (sym c.get.ensures ∙ ap option_copied c.in-None.is)
